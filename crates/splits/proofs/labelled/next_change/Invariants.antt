use Rattle.splits.proofs.ChangeLemmas.{Sought}
use Rattle.splits.proofs.labelled.next_change.Given as goal

abbrev pub invariant-loop-place : goal.invariant-loop-place
invariant-loop-place l = Sought l.lengths l.labels l.part l.place l.kept l.longer l.change
