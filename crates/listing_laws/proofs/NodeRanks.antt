-- The ranks of the nodes of a checked grammar, and how they fall on the way down.
use Rattle.std.proofs.Common.{◌≡◌, ℕ, zero, suc, ◌+◌, ◌<◌, ◌≤◌, Bool, true, false, nat_le, [], ◌∷◌, length, if◌then◌else◌, slice_get, unwrap_or, Option, Some, None, refl, sym, ap, ◌∙◌, arith}
use Rattle.std.specs.Option.{option_map_or, option_and_then}
use Rattle.std.proofs.lemmas.Bool.{and_from}
use Rattle.std.proofs.lemmas.Bool.Decides.{nat_tests}
use Rattle.std.proofs.lemmas.Option.{slice_get_within}
use Rattle.lists.proofs.Positions.{slice_some}
use Rattle.spec_syntax.specs.declared.expr.Card.{Card}
use Rattle.spec_syntax.specs.declared.expr.Kind.TheVariants as kind
use Rattle.spec_syntax.specs.Card.{admits, is_within}
use Rattle.spec_syntax.specs.Expression as expr
use Rattle.spec_syntax.specs.Expression.{Expression, expression_list}
use Rattle.spec_syntax.specs.Rules.{symbol, right_side, all_nodes}
use Rattle.spec_syntax.specs.Nodes.{node_at, right_node, children_of, below, children_at, name_at, card_at}
use Rattle.spec_syntax.proofs.NodesLemmas.{child_node, length-children_of, right_node_is}
use Rattle.spec_syntax.proofs.RulesLemmas.{symbol-within, some_right}
use Rattle.well_founded.specs.declared.node.NodeKind.{NodeKind}
use Rattle.well_founded.specs.declared.node.NodeKind.TheVariants as told
use Rattle.well_founded.specs.NodeKinds.{kind_of}
use Rattle.well_founded.specs.Sizes.{no_least}
use Rattle.well_founded.specs.Rank.{IsRank, CanHaveAll}
use Rattle.well_founded.specs.SameSize.{is_told_inside}
use Rattle.well_founded.specs.Checked.{Checked, IsChecked, grammar}
use Rattle.well_founded.proofs.RankFalls.{falls_by_sizes}
use Rattle.listing_laws.specs.NodeListing.{HasKind, least_at, rank_at, rule_rank}
use Rattle.listing_laws.proofs.NodeLemmas.{children_at_is, kind_at, NamedRule, named_rule, UnionNode, union_node, SequenceNode, sequence_node, bound_is, least_entry}

module _ (checked : Checked) (passed : IsChecked checked) where
  -- ---- ranks

  pub rank_is : (node : ℕ) (e : Expression) → node_at checked.rules node ≡ Some e → slice_get checked.ranks node ≡ Some (rank_at checked node)
  rank_is node e at =
      let ranked = passed.ranked in
      let found = slice_some checked.ranks node (omega (arith, ranked.for_each, slice_get_within (all_nodes checked.rules) node e at)) in
      found.1 ∙ ap (λ (r : ℕ). Some r) (sym (ap (λ (o : Option ℕ). unwrap_or o 0) found.1))

  pub is_rank : (node : ℕ) (e : Expression) → node_at checked.rules node ≡ Some e → IsRank (grammar checked) checked.ranks node e (rank_at checked node)
  is_rank node e at = passed.ranked.each node (rank_at checked node) e at (rank_is node e at)

  -- a node within has an expression
  pub node_there : (node : ℕ) → node < length (all_nodes checked.rules) → (e : Expression) × (node_at checked.rules node ≡ Some e)
  node_there node h = slice_some (all_nodes checked.rules) node h

  pub rank_within : (node : ℕ) → node < length (all_nodes checked.rules) → rank_at checked node < length (all_nodes checked.rules)
  rank_within node h = let there = node_there node h in (is_rank node there.0 there.1).within

  -- ---- the rank falls

  -- on the way to a node below of which there are structures that can have all the atoms
  pub falls : (node place child : ℕ) (e f : Expression) → node_at checked.rules node ≡ Some e → slice_get (below checked.rules node e) place ≡ Some child
      → node_at checked.rules child ≡ Some f → least_at checked child < no_least → CanHaveAll checked.rules checked.leasts node e place child
      → rank_at checked child < rank_at checked node
  falls node place child e f at inside there low all =
      falls_by_sizes checked passed node (rank_at checked node) e at (rank_is node e at) place child (least_at checked child) (rank_at checked child) inside
      (least_entry checked passed child f there) (rank_is child f there) low all

  pub rule_falls : (node number : ℕ) → HasKind checked node told.Rule → option_and_then (symbol checked.rules) (name_at checked.rules node) ≡ Some number
      → least_at checked (right_node checked.rules number) < no_least → rule_rank checked number ≤ rank_at checked node
  rule_falls node number h found few =
      let rule : NamedRule checked node number = named_rule checked node number h found in
      let within = symbol-within checked.rules rule.name number rule.numbered in
      let right = some_right checked.rules number within.0 within.1 in
      by node number rule right.0 right.1 few (is_told_inside right.0) refl
    where
      by : (m k : ℕ) (rule : NamedRule checked m k) (right : Expression) → right_side checked.rules k ≡ Some right → least_at checked (right_node checked.rules k) < no_least
          → (b : Bool) → is_told_inside right ≡ b → rule_rank checked k ≤ rank_at checked m
      by m k rule right sided few b told_b =
          let rank : rule_rank checked k ≡ (if b then rank_at checked (right_node checked.rules k) + 1 else 0) =
          ap (λ o. option_map_or (λ side. if is_told_inside side then rank_at checked (right_node checked.rules k) + 1 else 0) o 0) sided
          ∙ ap (λ (test : Bool). if test then rank_at checked (right_node checked.rules k) + 1 else 0) told_b in
          by_test b told_b rank
        where
          by_test : (b : Bool) → is_told_inside right ≡ b → rule_rank checked k ≡ (if b then rank_at checked (right_node checked.rules k) + 1 else 0)
              → rule_rank checked k ≤ rank_at checked m
          by_test false told_b rank = omega (arith, rank)
          by_test true told_b rank =
              let there = right_node_is checked.rules k right sided in
              let below_is : slice_get (below checked.rules m (expr.Name rule.name)) 0 ≡ Some (right_node checked.rules k) =
              ap (λ o. slice_get (option_map_or (λ number. right_node checked.rules number ∷ []) o []) 0) rule.numbered in
              let less : rank_at checked (right_node checked.rules k) < rank_at checked m =
              falls m 0 (right_node checked.rules k) (expr.Name rule.name) right rule.at below_is there few
              (λ other also. let same : other ≡ right = cc in ap is_told_inside same ∙ told_b) in
              omega (arith, rank, less)

  -- the rank of a rule whose right side is no word
  pub told_rank : (number : ℕ) (told_kind : NodeKind) → 1 ≤ number → number ≤ length checked.rules → HasKind checked (right_node checked.rules number) told_kind
      → (told_kind ≡ told.Epsilon → ⊥) → (told_kind ≡ told.Atom → ⊥) → rule_rank checked number ≡ rank_at checked (right_node checked.rules number) + 1
  told_rank number told_kind low high h not_epsilon not_atom =
      let right = some_right checked.rules number low high in
      let at = kind_at checked (right_node checked.rules number) told_kind h in
      let same : at.0 ≡ right.0 = same_node right.0 at.0 at.1 (right_node_is checked.rules number right.0 right.1) in
      ap (λ o. option_map_or (λ side. if is_told_inside side then rank_at checked (right_node checked.rules number) + 1 else 0) o 0) right.1
      ∙ ap (λ (test : Bool). if test then rank_at checked (right_node checked.rules number) + 1 else 0)
      (told_inside right.0 (λ e. not_epsilon (sym at.2 ∙ ap kind_of (same ∙ e))) (λ e. not_atom (sym at.2 ∙ ap kind_of (same ∙ e))))
    where
      same_node : (right e : Expression) → node_at checked.rules (right_node checked.rules number) ≡ Some e → node_at checked.rules (right_node checked.rules number) ≡ Some right
          → e ≡ right
      same_node right e first second = cc

      told_inside : (e : Expression) → (e ≡ expr.Epsilon → ⊥) → (e ≡ expr.Atom → ⊥) → is_told_inside e ≡ true
      told_inside expr.Epsilon p q = absurd (p refl)
      told_inside expr.Atom p q = absurd (q refl)
      told_inside (expr.Name name) p q = refl
      told_inside (expr.Union es) p q = refl
      told_inside (expr.Prod es) p q = refl
      told_inside (expr.Many k element card) p q = refl

  pub union_falls : (node place child : ℕ) → HasKind checked node told.Union → slice_get (children_at checked.rules node) place ≡ Some child
      → least_at checked child < no_least → rank_at checked child < rank_at checked node
  union_falls node place child h at low =
      let union : UnionNode checked node = union_node checked node h in
      let whole : Expression = expr.Union union.arguments in
      let own : slice_get (children_of node whole) place ≡ Some child = ap (λ ms. slice_get ms place) (sym (children_at_is checked.rules node whole union.at)) ∙ at in
      let within = slice_get_within (children_of node whole) place child own in
      let argument = slice_some (expression_list union.arguments) place (omega (arith, within, length-children_of node whole)) in
      let there : node_at checked.rules child ≡ Some argument.0 = child_node checked.rules node whole place child union.at own ∙ argument.1 in
      falls node place child whole argument.0 union.at own there low tt

  -- ---- Sequences

  pub some_within : (high : Option ℕ) → (high ≡ Some 0 → ⊥) → is_within high 1 ≡ true
  some_within None some = refl
  some_within (Some zero) some = absurd (some refl)
  some_within (Some (suc n)) some = grind (arith, nat_tests)

  one_admitted : (card : Card) → card.low ≤ 1 → (card.high ≡ Some 0 → ⊥) → admits card 1 ≡ true
  one_admitted card low some = and_from (nat_le card.low 1) (is_within card.high 1) (grind (arith, nat_tests)) (some_within card.high some)

  -- where the bound admits one component, the rank falls
  pub sequence_falls : (node element : ℕ) (card : Card) → HasKind checked node told.Sequence → slice_get (children_at checked.rules node) 0 ≡ Some element
      → card_at checked.rules node ≡ Some card → card.low ≤ 1 → (card.high ≡ Some 0 → ⊥) → least_at checked element < no_least
      → rank_at checked element < rank_at checked node
  sequence_falls node element card h child is low some few =
      let s : SequenceNode checked node element = sequence_node checked node element h child in
      let whole : Expression = expr.Many kind.Sequence s.e s.card in
      let admitted : admits s.card 1 ≡ true = ap (λ own. admits own 1) (bound_is checked node element s card is) ∙ one_admitted card low some in
      falls node 0 element whole s.e s.at (ap (λ ms. slice_get ms 0) (sym (children_at_is checked.rules node whole s.at)) ∙ child) s.inside few admitted
