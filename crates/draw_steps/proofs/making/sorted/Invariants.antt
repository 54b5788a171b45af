use Rattle.std.proofs.Common.{◌≡◌, true, drop}
use Rattle.struct_model.specs.Order.{is_sorted}
use Rattle.draw_steps.specs.Containers.{sorted}
use Rattle.draw_steps.proofs.making.sorted.Given as goal

abbrev pub invariant-loop-before : goal.invariant-loop-before
invariant-loop-before l = (l.whole ≡ sorted (drop l.before l.components)) × (is_sorted l.whole ≡ true)
