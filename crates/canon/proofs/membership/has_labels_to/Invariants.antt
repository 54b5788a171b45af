use Rattle.std.proofs.Common.{ℕ, ◌+◌, ◌<◌, ◌≤◌, nat_eq}
use Rattle.std.specs.List.{count_by}
use Rattle.struct_model.specs.Structure.{labels}
use Rattle.canon.proofs.membership.has_labels_to.Given as goal

abbrev pub invariant-loop-below : goal.invariant-loop-below
invariant-loop-below l = (k : ℕ) → k < l.below → 1 ≤ count_by (nat_eq (k + 1)) (labels l.s)
