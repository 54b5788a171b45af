-- The steps of the graph of one size: from a node to a place below it that is told to be filled.
use Rattle.std.proofs.Common.{◌≡◌, inl, inr, ℕ, zero, suc, ◌+◌, Bool, true, false, List, [], ◌∷◌, refl, sym, ap, ◌∙◌, subst, arith, slice_get, unwrap_or, Option, Some, None}
use Rattle.std.specs.Option.{option_map, option_map_or, option_and_then}
use Rattle.std.proofs.lemmas.Option.{same_Some}
use Rattle.spec_syntax.specs.Expression as expr
use Rattle.spec_syntax.specs.Expression.{Expression, Expressions, no_expressions, more_expressions, expression_list, nodes}
use Rattle.spec_syntax.specs.Rules.{Rules, symbol, right_side, all_nodes}
use Rattle.lists.specs.Enumeration.{IsIn}
use Rattle.lists.proofs.Indexed.{get-made}
use Rattle.spec_syntax.specs.Nodes.{node_at, right_node, places_from, children_of, below, arguments_of}
use Rattle.spec_syntax.proofs.NodesLemmas.{node_stands, stands_at, child_stands, right_node_is}
use Rattle.graphs.specs.Graph.{Graph, next}
use Rattle.well_founded.specs.SameSize.{fillable, picked, followers, same_size_graph}
use Rattle.spec_syntax.proofs.RulesLemmas.{symbol_right}
use Rattle.well_founded.proofs.SameSizeLaws.{inner}

-- ---- what is picked

picked_from : (flags : List Bool) (nodes : List ℕ) (m : ℕ) → IsIn m (picked flags nodes) → (place : ℕ) × (slice_get flags place ≡ Some true) × (slice_get nodes place ≡ Some m)
picked_from [] nodes m there = absurd there
picked_from (flag ∷ flags) [] m there = absurd there
picked_from (true ∷ flags) (node ∷ nodes) m (inl same) = (0, refl, ap Some (sym same))
picked_from (true ∷ flags) (node ∷ nodes) m (inr there) = let found = picked_from flags nodes m there in (suc found.0, found.1, found.2)
picked_from (false ∷ flags) (node ∷ nodes) m there = let found = picked_from flags nodes m there in (suc found.0, found.1, found.2)

picked_has : (flags : List Bool) (nodes : List ℕ) (place m : ℕ) → slice_get flags place ≡ Some true → slice_get nodes place ≡ Some m → IsIn m (picked flags nodes)
picked_has [] nodes place m flag at = absurd (cc)
picked_has (flag ∷ flags) [] place m filled at = absurd (cc)
picked_has (true ∷ flags) (node ∷ nodes) zero m flag at = inl (let same : node ≡ m = cc in sym same)
picked_has (true ∷ flags) (node ∷ nodes) (suc place) m flag at = inr (picked_has flags nodes place m flag at)
picked_has (false ∷ flags) (node ∷ nodes) zero m flag at = absurd (cc)
picked_has (false ∷ flags) (node ∷ nodes) (suc place) m flag at = picked_has flags nodes place m flag at

-- ---- what stands below a node

place_there : (n : ℕ) (es : Expressions) (place : ℕ) (f : Expression) → slice_get (expression_list es) place ≡ Some f → (m : ℕ) × (slice_get (places_from n es) place ≡ Some m)
place_there n no_expressions place f at = absurd (cc)
place_there n (more_expressions e es) zero f at = (n, refl)
place_there n (more_expressions e es) (suc place) f at = place_there (n + nodes e) es place f at

-- the node at a place below one, and its expression
abbrev pub Inner : Rules → Expression → ℕ → ℕ → Type 0
Inner rules e place m = (f : Expression) × (inner rules e place ≡ Some f) × (node_at rules m ≡ Some f)

name_inner : (rules : Rules) (found : Option ℕ) (name : List ℕ) → symbol rules name ≡ found → (m : ℕ)
    → slice_get (option_map_or (λ number. right_node rules number ∷ []) found []) 0 ≡ Some m → Inner rules (expr.Name name) 0 m
name_inner rules None name is m at = absurd (cc)
name_inner rules (Some number) name is m at =
    let same : right_node rules number ≡ m = cc in
    let right = symbol_right rules name number is in
    (right.0, ap (option_and_then (right_side rules)) is ∙ right.1, subst (λ (j : ℕ). node_at rules j ≡ Some right.0) same (right_node_is rules number right.0 right.1))

name_beyond : (rules : Rules) (found : Option ℕ) (place m : ℕ) → slice_get (option_map_or (λ number. right_node rules number ∷ []) found []) (suc place) ≡ Some m → ⊥
name_beyond rules None place m at = cc
name_beyond rules (Some number) place m at = cc

child_inner : (rules : Rules) (n : ℕ) (e : Expression) (place m : ℕ) → node_at rules n ≡ Some e → slice_get (children_of n e) place ≡ Some m
    → (f : Expression) × (slice_get (arguments_of e) place ≡ Some f) × (node_at rules m ≡ Some f)
child_inner rules n e place m at child =
    let found = child_stands (all_nodes rules) n e (node_stands rules n e at) place m child in
    (found.0, found.1, stands_at (all_nodes rules) m found.0 found.2)

-- at a node below one stands the expression of the place
pub below_inner : (rules : Rules) (n : ℕ) (e : Expression) (place m : ℕ) → node_at rules n ≡ Some e → slice_get (below rules n e) place ≡ Some m → Inner rules e place m
below_inner rules n expr.Epsilon place m at there = absurd (cc)
below_inner rules n expr.Atom place m at there = absurd (cc)
below_inner rules n (expr.Name name) zero m at there = name_inner rules (symbol rules name) name refl m there
below_inner rules n (expr.Name name) (suc place) m at there = absurd (name_beyond rules (symbol rules name) place m there)
below_inner rules n (expr.Union es) place m at there = child_inner rules n (expr.Union es) place m at there
below_inner rules n (expr.Prod es) place m at there = child_inner rules n (expr.Prod es) place m at there
below_inner rules n (expr.Many kind element card) zero m at there = child_inner rules n (expr.Many kind element card) zero m at there
below_inner rules n (expr.Many kind element card) (suc place) m at there = absurd (cc)

name_below : (rules : Rules) (found : Option ℕ) (f : Expression) → option_and_then (right_side rules) found ≡ Some f
    → (m : ℕ) × (slice_get (option_map_or (λ number. right_node rules number ∷ []) found []) 0 ≡ Some m)
name_below rules None f at = absurd (cc)
name_below rules (Some number) f at = (right_node rules number, refl)

-- and at each place stands a node
pub inner_below : (rules : Rules) (n : ℕ) (e : Expression) (place : ℕ) (f : Expression) → inner rules e place ≡ Some f → (m : ℕ) × (slice_get (below rules n e) place ≡ Some m)
inner_below rules n expr.Epsilon place f at = absurd (cc)
inner_below rules n expr.Atom place f at = absurd (cc)
inner_below rules n (expr.Name name) zero f at = name_below rules (symbol rules name) f at
inner_below rules n (expr.Name name) (suc place) f at = absurd (cc)
inner_below rules n (expr.Union es) place f at = place_there (n + 1) es place f at
inner_below rules n (expr.Prod es) place f at = place_there (n + 1) es place f at
inner_below rules n (expr.Many kind element card) zero f at = (n + 1, refl)
inner_below rules n (expr.Many kind element card) (suc place) f at = absurd (cc)

-- ---- steps

module _ (rules : Rules) (sizes : Expression → Option ℕ) where
  abbrev pub graph : Graph
  graph = same_size_graph rules sizes

  next_of : (n : ℕ) → next graph n ≡ unwrap_or (option_map (followers rules sizes n) (node_at rules n)) []
  next_of n = ap (λ (o : Option (List ℕ)). unwrap_or o []) (get-made (λ (node : ℕ × Expression). followers rules sizes node.0 node.1) 0 n n (all_nodes rules) (omega arith))

  next_is : (n : ℕ) (e : Expression) → node_at rules n ≡ Some e → next graph n ≡ followers rules sizes n e
  next_is n e at = next_of n ∙ ap (λ (o : Option Expression). unwrap_or (option_map (followers rules sizes n) o) []) at

  next_none : (n : ℕ) → node_at rules n ≡ None → next graph n ≡ []
  next_none n none = next_of n ∙ ap (λ (o : Option Expression). unwrap_or (option_map (followers rules sizes n) o) []) none

  -- from one node to the one at a place below it that is told to be filled
  pub record IsStep (n m : ℕ) : Type 0 where
    pub outer : Expression
    pub inside : Expression
    pub place : ℕ
    pub at_outer : node_at rules n ≡ Some outer
    pub at_inside : node_at rules m ≡ Some inside
    pub filled : slice_get (fillable rules sizes outer) place ≡ Some true
    pub there : slice_get (below rules n outer) place ≡ Some m
    pub is_inner : inner rules outer place ≡ Some inside

  pub from_step : (n m : ℕ) → IsIn m (next graph n) → IsStep n m
  from_step n m step = by (node_at rules n) refl
    where
      by : (o : Option Expression) → node_at rules n ≡ o → IsStep n m
      by None none = absurd (subst (IsIn m) (next_none n none) step)
      by (Some e) at =
          let found = picked_from (fillable rules sizes e) (below rules n e) m (subst (IsIn m) (next_is n e at) step) in
          let below_is = below_inner rules n e found.0 m at found.2 in
          record {
            outer = e;
            inside = below_is.0;
            place = found.0;
            at_outer = at;
            at_inside = below_is.2;
            filled = found.1;
            there = found.2;
            is_inner = below_is.1;
          }

  pub step_at : (n : ℕ) (e : Expression) (place m : ℕ) → node_at rules n ≡ Some e → slice_get (fillable rules sizes e) place ≡ Some true → slice_get (below rules n e) place ≡ Some m
      → IsIn m (next graph n)
  step_at n e place m at filled there = subst (IsIn m) (sym (next_is n e at)) (picked_has (fillable rules sizes e) (below rules n e) place m filled there)

  -- where a place is told to be filled, there is a step to a node with its expression
  pub to_step : (n : ℕ) (e : Expression) (place : ℕ) (f : Expression) → node_at rules n ≡ Some e → slice_get (fillable rules sizes e) place ≡ Some true → inner rules e place ≡ Some f
      → (m : ℕ) × IsIn m (next graph n) × (node_at rules m ≡ Some f)
  to_step n e place f at filled is_inner =
      let found = inner_below rules n e place f is_inner in
      let below_is = below_inner rules n e place found.0 at found.1 in
      let same : below_is.0 ≡ f = same_Some below_is.0 f (sym below_is.1 ∙ is_inner) in
      (found.0, step_at n e place found.0 at filled found.1, subst (λ (h : Expression). node_at rules found.0 ≡ Some h) same below_is.2)
