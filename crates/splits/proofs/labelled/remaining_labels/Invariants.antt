use Rattle.std.proofs.Common.{◌≡◌, ◌++◌, drop}
use Rattle.splits.proofs.Selections.{remaining}
use Rattle.splits.proofs.labelled.remaining_labels.Given as goal

abbrev pub invariant-loop-label : goal.invariant-loop-label
invariant-loop-label l = l.rest ++ remaining (drop l.taken l.part) (drop l.label-index l.labels) ≡ remaining l.part l.labels
