use Rattle.std.proofs.Common.{◌≡◌}
use Rattle.lists.specs.Ascending.{one_to}
use Rattle.struct_model.proofs.supplies.labels_to.Given as goal

abbrev pub invariant-loop-below : goal.invariant-loop-below
invariant-loop-below l = l.labels ≡ one_to l.below
