use Rattle.std.proofs.Common.{◌≡◌, [], ◌∷◌, Some, true, map}
use Rattle.std.specs.Prelude.{if◌then◌else◌}
use Rattle.std.specs.List.{sum, range_with_len}
use Rattle.spec_syntax.specs.declared.expr.Card.{Card}
use Rattle.spec_syntax.specs.declared.expr.Kind.{Kind}
use Rattle.spec_syntax.specs.Card.{admits}
use Rattle.spec_syntax.specs.Expression.{Expression, Many}
use Rattle.spec_syntax.specs.Nodes.{node_at, children_at}
use Rattle.well_founded.specs.Checked.{grammar}
use Rattle.splits.specs.Capped.{Tells}
use Rattle.listing_laws.specs.ContainersRecur.{of_components}
use Rattle.size_counts.specs.Turns.{EachTold}
use Rattle.size_counts.proofs.counts.container_count.Given as goal

abbrev pub invariant-loop-c : goal.invariant-loop-c
invariant-loop-c l = (kind : Kind) (element : Expression) (card : Card) → node_at l.tables.grammar.rules l.node ≡ Some (Many kind element card)
    → (admits card 1 ≡ true → EachTold (grammar l.tables.grammar) (element ∷ []) (children_at l.tables.grammar.rules l.node) l.now l.m)
    → Tells l.sum (sum (map (λ c. if admits card c then of_components (grammar l.tables.grammar) kind element c l.m else 0) (range_with_len 0 l.c)))
