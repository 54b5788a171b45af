use Rattle.std.proofs.Common.{◌≡◌, ◌⊎◌, ◌≤◌, ℕ}
use Rattle.spec_syntax.specs.Nodes.{right_node}
use Rattle.size_counts.proofs.spot.rule_of.Given as goal

abbrev pub invariant-loop-earlier : goal.invariant-loop-earlier
invariant-loop-earlier l = record {
  low : 1 ≤ l.rule;
  high : (l.rule ≤ l.earlier) ⊎ (l.rule ≡ 1);
  before : right_node l.grammar.rules l.rule ≤ l.node;
  most : (sym : ℕ) → 1 ≤ sym → sym ≤ l.earlier → right_node l.grammar.rules sym ≤ l.node → sym ≤ l.rule;
}
