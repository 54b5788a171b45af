use Rattle.std.proofs.Common.{◌≡◌, ◌+◌, ◌-◌, ◌<◌, ℕ, Bool, Some, length}
use Rattle.spec_syntax.specs.Expression.{Expressions, Prod, expression_list}
use Rattle.spec_syntax.specs.Nodes.{node_at, children_at}
use Rattle.well_founded.specs.Checked.{grammar}
use Rattle.size_counts.specs.Suffixes.{NoneBelow, ArgumentsTold, SuffixesTold, OthersTold}
use Rattle.size_counts.proofs.suffixes.suffixes.Given as goal

abbrev pub invariant-loop-later : goal.invariant-loop-later
invariant-loop-later l = record {
  for_each : length l.others.items ≡ l.m + 1;
  count : length l.made ≡ l.later;
  told : (arguments : Expressions) (zero : ℕ → Bool) → node_at l.tables.grammar.rules l.node ≡ Some (Prod arguments)
      → ArgumentsTold (grammar l.tables.grammar) arguments (children_at l.tables.grammar.rules l.node) l.now l.m zero → (l.high < length (expression_list arguments) → NoneBelow zero l.high → ⊥)
      → OthersTold (grammar l.tables.grammar) arguments l.m zero (l.high - l.later) l.others.items
      × SuffixesTold (grammar l.tables.grammar) arguments l.m zero l.high l.later l.made;
}
