use Rattle.splits.proofs.NthPart.{Finds}
use Rattle.splits.proofs.nth.nth_labels.Given as goal

abbrev pub invariant-loop-label : goal.invariant-loop-label
invariant-loop-label l = Finds l.labels l.d l.r l.label-index l.behind l.missing l.earlier l.part l.rest
