use Rattle.std.proofs.Common.{◌≡◌, Some, map}
use Rattle.std.specs.List.{range_with_len}
use Rattle.spec_syntax.specs.Expression.{Expressions, Prod, expression_list}
use Rattle.spec_syntax.specs.Nodes.{node_at}
use Rattle.well_founded.specs.Checked.{grammar}
use Rattle.size_counts.specs.Numbers.{suffix_number}
use Rattle.size_counts.specs.Told.{TellAll}
use Rattle.size_counts.proofs.rows.later_suffixes.Given as goal

abbrev pub invariant-loop-earlier : goal.invariant-loop-earlier
invariant-loop-earlier l = (arguments : Expressions) → node_at l.tables.grammar.rules l.node ≡ Some (Prod arguments)
    → TellAll l.made (map (λ i. suffix_number (grammar l.tables.grammar) (expression_list arguments) i l.m) (range_with_len 2 l.earlier))
