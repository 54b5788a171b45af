use Rattle.std.proofs.Common.{◌≡◌, Some, map}
use Rattle.std.specs.List.{range_with_len}
use Rattle.spec_syntax.specs.declared.expr.Card.{Card}
use Rattle.spec_syntax.specs.declared.expr.Kind.TheVariants.{PowerSet}
use Rattle.spec_syntax.specs.Expression.{Expression, Many}
use Rattle.spec_syntax.specs.Nodes.{node_at}
use Rattle.well_founded.specs.Checked.{grammar}
use Rattle.listing_laws.specs.ContainersRecur.{of_components}
use Rattle.size_counts.specs.Told.{TellAll}
use Rattle.size_counts.proofs.subsets.longer_subsets.Given as goal

abbrev pub invariant-loop-earlier : goal.invariant-loop-earlier
invariant-loop-earlier l =
    (element : Expression) (card : Card) → node_at l.tables.grammar.rules l.node ≡ Some (Many PowerSet element card)
    → TellAll l.made (map (λ c. of_components (grammar l.tables.grammar) PowerSet element c l.m) (range_with_len 2 l.earlier))
