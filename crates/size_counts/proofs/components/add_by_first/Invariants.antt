use Rattle.std.proofs.Common.{◌≡◌, Some, length}
use Rattle.spec_syntax.specs.declared.expr.Card.{Card}
use Rattle.spec_syntax.specs.declared.expr.Kind.{Kind}
use Rattle.spec_syntax.specs.Expression.{Expression, Many}
use Rattle.spec_syntax.specs.Nodes.{node_at}
use Rattle.struct_model.specs.Bounded.{number}
use Rattle.well_founded.specs.Checked.{grammar}
use Rattle.listing_laws.specs.ContainersRecur.{of_components}
use Rattle.size_counts.specs.Components.{rest_kind, first_ways}
use Rattle.size_counts.specs.Ways.{universe_of}
use Rattle.size_counts.proofs.SumLemmas.{AreSummed}
use Rattle.size_counts.proofs.components.add_by_first.Given as goal

abbrev pub invariant-loop-d : goal.invariant-loop-d
invariant-loop-d l = record {
  for_each : length l.sums ≡ length l.fn.sums;
  summed : (kind : Kind) (element : Expression) (card : Card) → node_at l.tables.grammar.rules l.node ≡ Some (Many kind element card)
      → AreSummed (first_ways (universe_of l.tables.ways) l.kind l.m) (number (grammar l.tables.grammar) element) (of_components (grammar l.tables.grammar) (rest_kind kind) element) l.m l.d l.sums;
}
