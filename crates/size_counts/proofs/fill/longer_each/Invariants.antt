use Rattle.size_counts.specs.Turns.{AreBeside}
use Rattle.size_counts.proofs.fill.longer_each.Given as goal

abbrev pub invariant-loop-node : goal.invariant-loop-node
invariant-loop-node l = AreBeside l.tables l.m l.node l.made.items
