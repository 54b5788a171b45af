use Rattle.std.proofs.Common.{◌≤◌, ◌+◌}
use Rattle.splits.proofs.LengthLemmas.{AreMarked}
use Rattle.splits.proofs.lengths.lengths_between.Given as goal

abbrev pub invariant-loop-length : goal.invariant-loop-length
invariant-loop-length l = (l.length ≤ l.most + 1) × AreMarked l.low l.high l.lengths.items l.length
