use Rattle.size_counts.specs.Turns.{AreRows}
use Rattle.size_counts.proofs.rows.rows.Given as goal

abbrev pub invariant-loop-node : goal.invariant-loop-node
invariant-loop-node l = AreRows l.tables l.m l.node l.made.items
