use Rattle.spec_syntax.specs.Nodes.{children_at}
use Rattle.size_counts.specs.Suffixes.{NoneBelow, needs_atoms}
use Rattle.size_counts.proofs.suffixes.up_to_first.Given as goal

abbrev pub invariant-loop-i : goal.invariant-loop-i
invariant-loop-i l = NoneBelow (needs_atoms l.tables.grammar (children_at l.tables.grammar.rules l.node)) l.i
