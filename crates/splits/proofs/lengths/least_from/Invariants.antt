use Rattle.splits.proofs.LengthLemmas.{NonePassed}
use Rattle.splits.proofs.lengths.least_from.Given as goal

abbrev pub invariant-loop-length : goal.invariant-loop-length
invariant-loop-length l = NonePassed l.lengths l.from l.length
