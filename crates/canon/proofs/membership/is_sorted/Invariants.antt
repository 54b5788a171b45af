use Rattle.std.proofs.Common.{◌≡◌, ◌-◌, drop}
use Rattle.struct_model.specs.Order.{is_sorted as holds}
use Rattle.canon.proofs.membership.is_sorted.Given as goal

abbrev pub invariant-loop-next : goal.invariant-loop-next
invariant-loop-next l = holds (drop (l.next - 1) l.items) ≡ holds l.items
