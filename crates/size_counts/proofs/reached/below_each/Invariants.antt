use Rattle.std.proofs.Common.{◌≡◌, take}
use Rattle.size_counts.specs.Reached.{below_graph}
use Rattle.size_counts.proofs.reached.below_each.Given as goal

abbrev pub invariant-loop-node : goal.invariant-loop-node
invariant-loop-node l = l.graph.items ≡ take l.node (below_graph l.grammar.rules)
