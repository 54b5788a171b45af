use Rattle.std.proofs.Common.{◌≡◌, ◌-◌, ◌^◌}
use Rattle.struct_model.specs.Order.{key_order}
use Rattle.struct_model.specs.Runs.{key_order_from}
use Rattle.struct_model.proofs.keys.compare_keys.Given as goal

abbrev pub decreases-loop-next : goal.decreases-loop-next
decreases-loop-next l = 2 ^ 32 - l.low

abbrev pub invariant-loop-next : goal.invariant-loop-next
invariant-loop-next l = key_order_from l.low l.s l.t ≡ key_order l.s l.t
