-- Where no rule holds itself no node of the graph of one size leads to itself, and the numbers of nodes that nodes lead to
-- are ranks.
use Rattle.std.proofs.Common.{◌≡◌, ◌⊎◌, inl, inr, ℕ, zero, suc, ◌<◌, true, List, [], ◌∷◌, length, refl, sym, ap, ◌∙◌, subst, arith, slice_get, Option, Some, None}
use Rattle.std.specs.Option.{option_map_or}
use Rattle.std.specs.Cmp.Lexicographic.{same_text}
use Rattle.std.proofs.lemmas.Option.{slice_get_within}
use Rattle.spec_syntax.specs.Expression as expr
use Rattle.spec_syntax.specs.Expression.{Expression}
use Rattle.spec_syntax.specs.Rules.{Rules, is_same_name, symbol, all_nodes}
use Rattle.spec_syntax.specs.Grammar.{Grammar}
use Rattle.lists.specs.Enumeration.{IsIn}
use Rattle.lists.proofs.Indexed.{length-made}
use Rattle.spec_syntax.proofs.NodeRanges.{child_within}
use Rattle.well_founded.specs.Least.{IsSize, least_with, size_of_name}
use Rattle.well_founded.specs.WellFounded.{may_hold_cycles, HoldsCycle, HoldsNull, OfNone, IsEndless, IsEachProductive, IsWellFounded}
use Rattle.spec_syntax.specs.Nodes.{node_at, right_node, below}
use Rattle.well_founded.specs.Rank.{CanFill, AreRanks}
use Rattle.graphs.specs.Graph.{Graph, next, LeadsBy, Leads, IsGraph, count_true, IsCount, AreCounts}
use Rattle.well_founded.specs.SameSize.{followers, same_size_graph}
use Rattle.well_founded.proofs.CyclesLaws.{node_allowed}
use Rattle.lists.proofs.Places.{in_of_get}
use Rattle.graphs.proofs.Reached.{step_leads, leads_trans}
use Rattle.graphs.proofs.Counts.{count_falls, count_within, counts_exist}
use Rattle.well_founded.proofs.SameSizeLaws.{fills}
use Rattle.well_founded.proofs.SameSizeSteps.{IsStep, from_step, step_at}
use Rattle.spec_syntax.proofs.RulesLemmas.{own_name}
use Rattle.well_founded.proofs.EndlessLaws.{node_full, leads_holds}
use Rattle.well_founded.proofs.LeastRounds.{sizes_exist}

module _ (g : Grammar) (sizes : Expression → Option ℕ) where
  abbrev graph : Graph
  graph = same_size_graph g.rules sizes

  -- the graph has the nodes of the rules
  pub graph-length : length graph ≡ length (all_nodes g.rules)
  graph-length = length-made (λ (node : ℕ × Expression). followers g.rules sizes node.0 node.1) 0 (all_nodes g.rules)

  pub is_graph : IsGraph graph
  is_graph i j step =
      let found = from_step g.rules sizes i j step in
      let within = slice_get_within (all_nodes g.rules) j found.inside found.at_inside in
      omega (arith, graph-length)

  -- ---- ways round

  abbrev IsRoot : ℕ → Type 0
  IsRoot j = (r : ℕ) × (name : List ℕ) × (symbol g.rules name ≡ Some r) × (right_node g.rules r ≡ j)

  name_root : (name : List ℕ) (o : Option ℕ) (place j : ℕ) → symbol g.rules name ≡ o → slice_get (option_map_or (λ number. right_node g.rules number ∷ []) o []) place ≡ Some j → IsRoot j
  name_root name None place j is there = absurd (cc)
  name_root name (Some r) zero j is there = (r, name, is, cc)
  name_root name (Some r) (suc place) j is there = absurd (cc)

  -- a step goes to a greater number, or from a name to its right side
  step_up_or_root : (i j : ℕ) → IsIn j (next graph i) → (i < j) ⊎ IsRoot j
  step_up_or_root i j step = by found.outer found.there
    where
      found : IsStep g.rules sizes i j
      found = from_step g.rules sizes i j step

      by : (e : Expression) → slice_get (below g.rules i e) found.place ≡ Some j → (i < j) ⊎ IsRoot j
      by (expr.Name name) there = inr (name_root name (symbol g.rules name) found.place j refl there)
      by expr.Epsilon there = inl (child_within i expr.Epsilon found.place j there).0
      by expr.Atom there = inl (child_within i expr.Atom found.place j there).0
      by (expr.Union es) there = inl (child_within i (expr.Union es) found.place j there).0
      by (expr.Prod es) there = inl (child_within i (expr.Prod es) found.place j there).0
      by (expr.Many kind element card) there = inl (child_within i (expr.Many kind element card) found.place j there).0

  -- a way goes to a greater number, or through the right side of a name
  abbrev Passes : ℕ → ℕ → Type 0
  Passes i j =
      (r : ℕ) × (name : List ℕ) × (symbol g.rules name ≡ Some r) × Leads graph i (right_node g.rules r) × ((right_node g.rules r ≡ j) ⊎ Leads graph (right_node g.rules r) j)

  passes : (between i j : ℕ) → LeadsBy graph between i j → (i < j) ⊎ Passes i j
  passes zero i j way = elim (step_up_or_root i j way) [
    | inl up ↦ inl up
    | inr root ↦ inr (root.0, root.1, root.2, (zero, subst (λ (k : ℕ). IsIn k (next graph i)) (sym root.3) way), inl root.3)
  ]
  passes (suc between) i j way =
      let rest = passes between way.0 j way.2 in
      elim (step_up_or_root i way.0 way.1) [
        | inr root ↦ inr (
          root.0,
          root.1,
          root.2,
          (zero, subst (λ (k : ℕ). IsIn k (next graph i)) (sym root.3) way.1),
          inr (subst (λ (k : ℕ). Leads graph k j) (sym root.3) (between, way.2)),
        )
        | inl up ↦ elim rest [
          | inl more ↦ inl (further way.0 up more)
          | inr found ↦ inr (found.0, found.1, found.2, step_leads graph i way.0 (right_node g.rules found.0) way.1 found.3, found.4)
        ]
      ]
    where
      further : (middle : ℕ) → i < middle → middle < j → i < j
      further middle a b = omega arith

  round_root : (n : ℕ) → Passes n n → (r : ℕ) × (name : List ℕ) × (symbol g.rules name ≡ Some r) × Leads graph (right_node g.rules r) (right_node g.rules r)
  round_root n found = (
    found.0,
    found.1,
    found.2,
    elim (found.4) [
      | inl same ↦ subst (λ (k : ℕ). Leads graph k (right_node g.rules found.0)) (sym same) found.3
      | inr way ↦ leads_trans graph (right_node g.rules found.0) n (right_node g.rules found.0) way found.3
    ],
  )

  -- where a node leads to itself, a rule's right side does
  pub round : (n : ℕ) → Leads graph n n → (r : ℕ) × (name : List ℕ) × (symbol g.rules name ≡ Some r) × Leads graph (right_node g.rules r) (right_node g.rules r)
  round n way = elim (passes way.0 n n way.1) [ inl up ↦ absurd (never n up) | inr found ↦ round_root n found ]
    where
      never : (k : ℕ) → k < k → ⊥
      never k h = omega arith

  module _ (allows : OfNone (HoldsCycle g) g.rules) (sized : (e : Expression) → may_hold_cycles g e ≡ true → IsSize g e (sizes e)) (productive : IsEachProductive g)
      (finite : OfNone (IsEndless g) g.rules) where
    -- where no rule holds itself, no node leads to itself
    pub no_way_round : (n : ℕ) → Leads graph n n → ⊥
    no_way_round n way =
        let found = round n way in
        let own = own_name g.rules found.1 found.0 found.2 in
        finite found.1 own.0 own.1 (leads_holds g sizes allows sized found.1 found.0 found.2 (productive found.1 own.0 own.1) found.3)

    -- then how many nodes each one leads to are ranks
    pub are_ranks : (full : OfNone (HoldsNull g) g.rules) (counts : List ℕ) → AreCounts graph counts → AreRanks g counts
    are_ranks full counts counted = record {
      for_each = counted.for_each ∙ graph-length;
      each = λ n r e at ranked. record {
        within = within n r e at (counted.each n r ranked);
        falls = λ place m s f there inside lower fill. falls n r e at (counted.each n r ranked) place m s f there (counted.each m s lower) fill;
      };
    }
      where
        within : (n r : ℕ) (e : Expression) → node_at g.rules n ≡ Some e → IsCount graph n r → r < length (all_nodes g.rules)
        within n r e at h =
            let inside : n < length (all_nodes g.rules) = slice_get_within (all_nodes g.rules) n e at in
            let few : count_true h.marks < length graph = count_within graph n h.marks h.reached (omega (arith, graph-length)) (no_way_round n) in
            omega (arith, h.counted, graph-length)

        falls : (n r : ℕ) (e : Expression) → node_at g.rules n ≡ Some e → IsCount graph n r → (place m s : ℕ) (f : Expression) → slice_get (below g.rules n e) place ≡ Some m
            → IsCount graph m s → CanFill g e place f → s < r
        falls n r e at h place m s f there low fill =
            let flagged = fills g sizes sized e fill.outer place fill.inner (node_allowed g n e allows at) (node_full g n e full at) fill.is_outer fill.stands fill.same_size in
            let step = step_at g.rules sizes n e place m at flagged.3 there in
            let fewer : count_true low.marks < count_true h.marks = count_falls graph n m h.marks low.marks h.reached low.reached (zero, step) (no_way_round m) in
            omega (arith, h.counted, low.counted)

-- ---- ranks are there

-- the nodes of a well-founded grammar have ranks
pub ranks_exist : (g : Grammar) → IsWellFounded g → (ranks : List ℕ) × AreRanks g ranks
ranks_exist g founded =
    let table = sizes_exist g.rules in
    let sizes : Expression → Option ℕ = least_with (size_of_name g.rules table.0) in
    let sized : (e : Expression) → may_hold_cycles g e ≡ true → IsSize g e (sizes e) = λ e allowed. table.1.each g.universe e founded.no_cycles allowed in
    let counts = counts_exist (same_size_graph g.rules sizes) (is_graph g sizes) in
    (counts.0, are_ranks g sizes founded.no_cycles sized founded.productive founded.finite founded.no_null_elements counts.0 counts.1)
