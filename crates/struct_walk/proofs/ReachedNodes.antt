-- What is reached from reached nodes.
use Rattle.std.proofs.Common.{◌≡◌, ℕ, ◌≤◌, ◌<◌, length, slice_get, Option, Some, List, [], ◌∷◌, refl, sym, ap, ◌∙◌, subst, inl, inr, arith}
use Rattle.std.specs.Prelude.{IfSome}
use Rattle.std.specs.Option.{option_and_then, option_map_or}
use Rattle.std.proofs.lemmas.Option.{slice_get_within}
use Rattle.lists.specs.Enumeration.{IsIn}
use Rattle.lists.proofs.Places.{in_of_get}
use Rattle.graphs.specs.Graph.{Leads, next}
use Rattle.graphs.proofs.Reached.{leads_step, last_step}
use Rattle.spec_syntax.specs.Expression as expr
use Rattle.spec_syntax.specs.Expression.{Expression}
use Rattle.spec_syntax.specs.Rules.{symbol, all_nodes}
use Rattle.spec_syntax.specs.Nodes.{node_at, right_node, children_at, children_of, below, name_at}
use Rattle.spec_syntax.proofs.NodesLemmas.{right_node_is}
use Rattle.spec_syntax.proofs.RulesLemmas.{some_right}
use Rattle.well_founded.specs.declared.node.NodeKind.TheVariants as told
use Rattle.listing_laws.specs.NodeListing.{HasKind}
use Rattle.listing_laws.proofs.NodeLemmas.{NamedRule, named_rule, children_at_is}
use Rattle.listing_laws.proofs.NodeRanks.{node_there}
use Rattle.size_counts.specs.Reached.{IsReached, below_graph}
use Rattle.size_counts.specs.CountedView.{Counts, IsCounted, IsReachedIn}
use Rattle.size_counts.proofs.ReachedLemmas.{next_below, below_is_graph, length-below_graph}

module _ (counts : Counts) (is : IsCounted counts) where
  right_within : (number : ℕ) → counts.checked.start ≡ Some number → right_node counts.checked.rules number < length (all_nodes counts.checked.rules)
  right_within number start =
      let within : (1 ≤ number) × (number ≤ length counts.checked.rules) =
      subst (λ (found : Option ℕ). IfSome found (λ k. (1 ≤ k) × (k ≤ length counts.checked.rules))) start is.passed.started in
      let right = some_right counts.checked.rules number within.0 within.1 in
      slice_get_within (all_nodes counts.checked.rules) (right_node counts.checked.rules number) right.0
      (right_node_is counts.checked.rules number right.0 right.1)

  pub reached_within : (node : ℕ) → IsReachedIn counts node → node < length (all_nodes counts.checked.rules)
  reached_within node reached = by reached.reached
    where
      by : IsReached counts.checked.rules reached.sym node → node < length (all_nodes counts.checked.rules)
      by (inl same) = subst (λ (k : ℕ). k < length (all_nodes counts.checked.rules)) (sym same) (right_within reached.sym reached.start)
      by (inr way) =
          let last = last_step (below_graph counts.checked.rules) (right_node counts.checked.rules reached.sym) node way in
          omega (arith, length-below_graph counts.checked.rules, below_is_graph counts.checked.rules last.0 node last.2)

  -- what stands directly below a reached node is reached
  reached_below : (node inner : ℕ) (e : Expression) → IsReachedIn counts node → node_at counts.checked.rules node ≡ Some e
      → IsIn inner (below counts.checked.rules node e)
      → IsReachedIn counts inner
  reached_below node inner e reached at inside = record { sym = reached.sym; start = reached.start; reached = inr (by reached.reached) }
    where
      step : IsIn inner (next (below_graph counts.checked.rules) node)
      step = subst (λ (nodes : List ℕ). IsIn inner nodes) (sym (next_below counts.checked.rules node e at)) inside

      by : IsReached counts.checked.rules reached.sym node → Leads (below_graph counts.checked.rules) (right_node counts.checked.rules reached.sym) inner
      by (inl same) = (0, subst (λ (k : ℕ). IsIn inner (next (below_graph counts.checked.rules) k)) same step)
      by (inr way) = leads_step (below_graph counts.checked.rules) (right_node counts.checked.rules reached.sym) node inner way step

  -- each child stands directly below
  child_below : (node place child : ℕ) (e : Expression) → slice_get (children_of node e) place ≡ Some child
      → IsIn child (below counts.checked.rules node e)
  child_below node place child expr.Epsilon at = absurd (omega (arith, slice_get_within [] place child at))
  child_below node place child expr.Atom at = absurd (omega (arith, slice_get_within [] place child at))
  child_below node place child (expr.Name name) at = absurd (omega (arith, slice_get_within [] place child at))
  child_below node place child (expr.Union es) at = in_of_get (children_of node (expr.Union es)) place child at
  child_below node place child (expr.Prod es) at = in_of_get (children_of node (expr.Prod es)) place child at
  child_below node place child (expr.Many kind e card) at = in_of_get (children_of node (expr.Many kind e card)) place child at

  pub reached_child : (node place child : ℕ) → IsReachedIn counts node → slice_get (children_at counts.checked.rules node) place ≡ Some child
      → IsReachedIn counts child
  reached_child node place child reached at =
      let there = node_there counts.checked is.passed node (reached_within node reached) in
      let own : slice_get (children_of node there.0) place ≡ Some child =
      ap (λ (nodes : List ℕ). slice_get nodes place) (sym (children_at_is counts.checked.rules node there.0 there.1)) ∙ at in
      reached_below node child there.0 reached there.1 (child_below node place child there.0 own)

  pub reached_rule : (node sym : ℕ) → IsReachedIn counts node → HasKind counts.checked node told.Rule
      → option_and_then (symbol counts.checked.rules) (name_at counts.checked.rules node) ≡ Some sym → IsReachedIn counts
      (right_node counts.checked.rules sym)
  reached_rule node number reached kind found =
      let rule : NamedRule counts.checked node number = named_rule counts.checked node number kind found in
      let right : ℕ = right_node counts.checked.rules number in
      let is_below : below counts.checked.rules node (expr.Name rule.name) ≡ right ∷ [] =
      ap (λ (o : Option ℕ). option_map_or (λ k. right_node counts.checked.rules k ∷ []) o []) rule.numbered in
      reached_below node right (expr.Name rule.name) reached rule.at (subst (λ (nodes : List ℕ). IsIn right nodes) (sym is_below) (inl refl))
