use Rattle.std.proofs.Common.{◌≡◌, take}
use Rattle.spec_syntax.specs.Nodes.{children_at}
use Rattle.size_counts.proofs.reached.children.Given as goal

abbrev pub invariant-loop-i : goal.invariant-loop-i
invariant-loop-i l = l.made ≡ take l.i (children_at l.grammar.rules l.node)
