use Rattle.size_counts.specs.Totals.{AreKept}
use Rattle.size_counts.proofs.totals.totals.Given as goal

abbrev pub invariant-loop-node : goal.invariant-loop-node
invariant-loop-node l = AreKept l.tables l.node l.made.items
