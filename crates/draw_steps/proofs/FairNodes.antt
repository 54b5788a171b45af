-- The choices of the nodes of a class are even over their listings.
use Rattle.std.proofs.Common.{◌≡◌, ℕ, zero, suc, ◌+◌, ◌-◌, ◌*◌, ◌<◌, true, List, [], ◌∷◌, ◌++◌, map, flat_map, length, take, drop, slice_get, unwrap_or, Option, Some, None, refl, sym, ap, ◌∙◌, subst, arith}
use Rattle.std.specs.Option.{option_map, option_map_or, option_and_then}
use Rattle.std.specs.List.{range_with_len}
use Rattle.std.proofs.lemmas.List.{length-map, take-append-drop}
use Rattle.lists.specs.Enumeration.{IsIn}
use Rattle.lists.proofs.Enumerated.{in_map, in_flat_map}
use Rattle.lists.proofs.Positions.{slice_some}
use Rattle.lists.proofs.RangeSums.{in_range}
use Rattle.spec_syntax.specs.declared.expr.Card.{Card}
use Rattle.spec_syntax.specs.declared.expr.Kind.{Kind}
use Rattle.spec_syntax.specs.declared.expr.Kind.TheVariants as kinds
use Rattle.spec_syntax.specs.Expression as expr
use Rattle.spec_syntax.specs.Expression.{Expression, Expressions, expressions_of, expression_list}
use Rattle.spec_syntax.specs.Nodes.{node_at, right_node, children_at, arguments_of, name_at, name_of}
use Rattle.spec_syntax.specs.Rules.{symbol, all_nodes}
use Rattle.spec_syntax.specs.Grammar.{Grammar}
use Rattle.spec_syntax.proofs.NodesLemmas.{in_nodes, child_node}
use Rattle.spec_syntax.proofs.RulesLemmas.{symbol-within}
use Rattle.struct_model.specs.declared.tree.Form5.TheVariants as form
use Rattle.struct_model.specs.Structure.{Structure, Eps, Atom, Alt}
use Rattle.struct_model.specs.Membership.{is_supply}
use Rattle.struct_model.specs.Bounded.{listing, number}
use Rattle.well_founded.specs.declared.node.NodeKind.TheVariants as told
use Rattle.well_founded.specs.NodeKinds.{kind_of, container}
use Rattle.well_founded.specs.Checked.{Checked, grammar}
use Rattle.count_laws.proofs.MetTimes as met
use Rattle.listing_laws.specs.Lister.{list_epsilon, list_atom, list_no_components, alternatives, by_splits, product, named}
use Rattle.listing_laws.specs.NodeListing.{HasKind, listing_on, later_on}
use Rattle.listing_laws.specs.Recursion.{components_on}
use Rattle.listing_laws.proofs.NodeLemmas.{nodes_are_listed, listing_is, children_at_is, prod_there}
use Rattle.listing_laws.proofs.NodeRanks.{node_there}
use Rattle.listing_laws.proofs.Recursion.{listings_recur, well_founded_is_listed}
use Rattle.size_counts.specs.CountedView.{Counts, IsCounted, IsReachedIn, number_of, suffix_of}
use Rattle.size_counts.specs.Numbers.{suffix_number}
use Rattle.struct_walk.proofs.ReachedNodes.{reached_within, reached_child, reached_rule}
use Rattle.choice_laws.specs.Trees.{Tree, choose, nothing}
use Rattle.choice_laws.specs.Even.{IsEven}
use Rattle.choice_laws.proofs.Evens.{choice_even}
use Rattle.choice_laws.proofs.Rearranged.{alike_meet}
use Rattle.draw_steps.specs.Asked.{NoPowerSets}
use Rattle.draw_steps.specs.declared.missing.Lists.TheVariants.{Components}
use Rattle.draw_steps.specs.Choices.{child_of, rule_named, first_of, choices, choices_by, list_choices, union_choices, prod_choices, rule_choices, container_choices}
use Rattle.draw_steps.specs.Heights.{height}
use Rattle.draw_steps.specs.Laws.{AreLower}
use Rattle.draw_steps.specs.Steps.{ending}
use Rattle.draw_steps.proofs.FairContainers.{container_even}
use Rattle.draw_steps.proofs.FairHeights.{named_height, alt_lower, lists_lower}
use Rattle.draw_steps.proofs.FairListings.{same_number}
use Rattle.draw_steps.proofs.FairLists.{AreMade, lists_even, some_of}
use Rattle.draw_steps.proofs.FairTrees.{end_even, ending_even, ending_ending, graft_among}

-- the arguments of a Union one after another, each by its number
alternatives_are : (of : ℕ → List Structure) (at : ℕ → ℕ) (k : ℕ) (cs : List ℕ) → ((j c : ℕ) → slice_get cs j ≡ Some c → at (k + j) ≡ c)
    → alternatives k (map of cs) ≡ flat_map (λ i. map (Alt i) (of (at i))) (range_with_len k (length cs))
alternatives_are of at k [] are = refl
alternatives_are of at k (c ∷ cs) are =
    (λ i. map (Alt k) (of (first i)) ++ alternatives_are of at (k + 1) cs (λ j d there. ap at (number k j) ∙ are (suc j) d there) i)
  where
    none : (n : ℕ) → n ≡ n + 0
    none n = omega arith

    number : (n j : ℕ) → n + 1 + j ≡ n + suc j
    number n j = omega arith

    first : c ≡ at k
    first = sym (ap at (none k) ∙ are 0 c refl)

module _ (counts : Counts) (is : IsCounted counts) (no : NoPowerSets counts) where
  abbrev checked : Checked
  checked = counts.checked

  abbrev g : Grammar
  g = grammar checked

  -- the choices of each node below are even, down to this depth
  abbrev Below : ℕ → Type 0
  Below h = (node : ℕ) (u : List ℕ) → IsReachedIn counts node → is_supply checked.universe u ≡ true → 0 < length (listing_on checked node u)
      → AreLower h (listing_on checked node u) → IsEven (choices counts h node u) (listing_on checked node u)

  on_number : (node : ℕ) (u : List ℕ) → IsReachedIn counts node → is_supply checked.universe u ≡ true → length (listing_on checked node u) ≡ number_of counts node (length u)
  on_number node u reached supplied =
      let there = node_there checked is.passed node (reached_within counts is node reached) in
      ap length (listing_is checked node there.0 u there.1)
      ∙ same_number g there.0 u (well_founded_is_listed.nodes g there.0 is.passed.spec is.passed.well_founded (in_nodes checked.rules node there.0 there.1)) supplied
      ∙ sym (ap (λ o. option_map_or (λ e. number g e (length u)) o 0) there.1)

  child_is : (node i child : ℕ) → slice_get (children_at checked.rules node) (i - 1) ≡ Some child → child_of counts node i ≡ child
  child_is node i child at = ap (λ o. unwrap_or o 0) at

  module _ (h : ℕ) (below : Below h) (node : ℕ) (u : List ℕ) (reached : IsReachedIn counts node) (supplied : is_supply checked.universe u ≡ true)
      (some : 0 < length (listing_on checked node u)) (lower : AreLower (suc h) (listing_on checked node u)) where
    abbrev here : List Structure
    here = listing_on checked node u

    abbrev inner : ℕ → List ℕ → Tree Structure
    inner = choices counts h

    -- ---- words and names

    epsilon_even : here ≡ list_epsilon u → IsEven (choices_by counts inner node u told.Epsilon) here
    epsilon_even same = by u same
      where
        by : (v : List ℕ) → here ≡ list_epsilon v → IsEven (choices_by counts inner node u told.Epsilon) here
        by [] same = subst (IsEven (choices_by counts inner node u told.Epsilon)) (sym same) (end_even (Eps 0))
        by (label ∷ left) same = absurd (omega (arith, some, ap length same))

    atom_even : here ≡ list_atom u → IsEven (choices_by counts inner node u told.Atom) here
    atom_even same = by u refl same
      where
        by : (v : List ℕ) → u ≡ v → here ≡ list_atom v → IsEven (choices_by counts inner node u told.Atom) here
        by [] is_u same = absurd (omega (arith, some, ap length same))
        by (label ∷ []) is_u same =
            subst (λ v. IsEven (choices_by counts inner node v told.Atom) here) (sym is_u) (subst (IsEven (choices_by counts inner node (label ∷ []) told.Atom)) (sym same) (end_even (Atom 0 label)))
        by (label ∷ other ∷ left) is_u same = absurd (omega (arith, some, ap length same))

    name_even : (name : List ℕ) → node_at checked.rules node ≡ Some (expr.Name name) → IsEven (choices_by counts inner node u told.Rule) here
    name_even name at = by (symbol checked.rules name) refl
      where
        by : (o : Option ℕ) → symbol checked.rules name ≡ o → IsEven (choices_by counts inner node u told.Rule) here
        by None none =
            absurd (let empty : length here ≡ 0 = ap length (listing_is checked node (expr.Name name) u at ∙ listings_recur.no_rule g name u supplied none) in omega (arith, some, empty))
        by (Some number) found =
            subst (IsEven (rule_choices counts inner (rule_named counts node) u)) (sym are)
            (subst (λ (k : ℕ). IsEven (rule_choices counts inner k u) (map (named number) of_right)) (sym numbered)
            (ending_even (named number) (inner right u) of_right
            (below right u (reached_rule counts is node number reached rule_kind named_here) supplied (omega (arith, some, ap length are, length-map of_right (named number)))
            (λ s stands.
            let low = lower (named number s) (subst (IsIn (named number s)) (sym are) (in_map (named number) s of_right stands)) in
            omega (arith, low, named_height number s (symbol-within checked.rules name number found).0)))))
          where
            right : ℕ
            right = right_node checked.rules number

            of_right : List Structure
            of_right = listing_on checked right u

            rule_kind : HasKind checked node told.Rule
            rule_kind = ap (option_map kind_of) at

            named_here : option_and_then (symbol checked.rules) (name_at checked.rules node) ≡ Some number
            named_here = ap (λ o. option_and_then (symbol checked.rules) (option_and_then name_of o)) at ∙ found

            numbered : rule_named counts node ≡ number
            numbered = ap (λ o. unwrap_or o 0) named_here

            are : here ≡ map (named number) of_right
            are = nodes_are_listed.name checked node number u is.passed supplied rule_kind named_here

    -- ---- Unions

    union_even : HasKind checked node told.Union → IsEven (union_choices counts inner node u) here
    union_even union =
        subst (λ tree. IsEven tree here) (sym (graft_among (λ i. ending (Alt i) (inner (child_of counts node i) u)) (λ i. number_of counts (child_of counts node i) (length u)) numbers))
        (subst (IsEven (choose (map {B = ℕ × Tree Structure} (λ i. (number_of counts (child_of counts node i) (length u), ending (Alt i) (inner (child_of counts node i) u))) numbers))) (sym are)
        (choice_even 1 (λ i. number_of counts (child_of counts node i) (length u)) (λ i. ending (Alt i) (inner (child_of counts node i) u))
        (λ i. map (Alt i) (listing_on checked (child_of counts node i) u)) numbers
        (λ i within.
        length-map (listing_on checked (child_of counts node i) u) (Alt i) ∙ on_number (child_of counts node i) u (argument_reached i within) supplied
        ∙ once (number_of counts (child_of counts node i) (length u)))
        (λ i within heavy.
        ending_even (Alt i) (inner (child_of counts node i) u) (listing_on checked (child_of counts node i) u)
        (below (child_of counts node i) u (argument_reached i within) supplied (omega (arith, heavy, on_number (child_of counts node i) u (argument_reached i within) supplied))
        (λ s stands.
        alt_lower h i s (lower (Alt i s) (subst (IsIn (Alt i s)) (sym are)
        (in_flat_map (λ j. map (Alt j) (listing_on checked (child_of counts node j) u)) i numbers (Alt i s) within
        (in_map (Alt i) s (listing_on checked (child_of counts node i) u) stands)))))))))
      where
        children : List ℕ
        children = children_at checked.rules node

        numbers : List ℕ
        numbers = range_with_len 1 (length children)

        once : (k : ℕ) → k ≡ 1 * k
        once k = omega arith

        less_one : (j : ℕ) → 1 + j - 1 ≡ j
        less_one j = omega arith

        are : here ≡ flat_map (λ i. map (Alt i) (listing_on checked (child_of counts node i) u)) numbers
        are =
            nodes_are_listed.union checked node u is.passed supplied union
            ∙ alternatives_are (λ child. listing_on checked child u) (child_of counts node) 1 children
            (λ j c there. child_is node (1 + j) c (ap (slice_get children) (less_one j) ∙ there))

        argument_reached : (i : ℕ) → IsIn i numbers → IsReachedIn counts (child_of counts node i)
        argument_reached i within =
            let place = in_range i 1 (length children) within in
            let child = slice_some children (i - 1) (omega (arith, place.0, place.1)) in
            subst (IsReachedIn counts) (sym (child_is node i child.0 child.1)) (reached_child counts is node (i - 1) child.0 reached child.1)

    -- ---- Prods

    module _ (arguments : Expressions) (at : node_at checked.rules node ≡ Some (expr.Prod arguments)) where
      abbrev all : List Expression
      all = expression_list arguments

      abbrev k : ℕ
      k = length (children_at checked.rules node)

      prod_kind : HasKind checked node told.Prod
      prod_kind = ap (option_map kind_of) at

      -- the lists of the last components, of which so many are missing
      abbrev last : ℕ → List ℕ → List (List Structure)
      last c v = later_on checked node (k - c) v

      abbrev firsts : ℕ → List ℕ → List Structure
      firsts behind v = listing_on checked (first_of counts (Components node) (suc behind)) v

      -- the child of which so many more are behind
      record FirstIs (behind : ℕ) : Type 0 where
        pub child : ℕ
        pub there : slice_get (children_at checked.rules node) (k - suc behind) ≡ Some child
        pub is_first : first_of counts (Components node) (suc behind) ≡ child
        pub child_reached : IsReachedIn counts child

      first_is : (behind : ℕ) → behind < k → FirstIs behind
      first_is behind few =
          let found = slice_some (children_at checked.rules node) (k - suc behind) (omega (arith, few)) in
          record {
            child = found.0;
            there = found.1;
            is_first = child_is node (k - suc behind + 1) found.0 (ap (slice_get (children_at checked.rules node)) (place (k - suc behind)) ∙ found.1);
            child_reached = reached_child counts is node (k - suc behind) found.0 reached found.1;
          }
        where
          place : (n : ℕ) → n + 1 - 1 ≡ n
          place n = omega arith

      first_reached : (behind : ℕ) → behind < k → IsReachedIn counts (first_of counts (Components node) (suc behind))
      first_reached behind few = let first = first_is behind few in subst (IsReachedIn counts) (sym first.is_first) first.child_reached

      by_first : (c : ℕ) (v : List ℕ) → c < k → last (suc c) v ≡ by_splits (firsts c) (last c) v
      by_first c v few =
          let first = first_is c few in
          nodes_are_listed.component checked node (k - suc c) first.child v prod_kind first.there
          ∙ (λ i. by_splits (λ w. listing_on checked (sym first.is_first i) w) (λ w. later_on checked node (next k c few i) w) v)
        where
          next : (n c : ℕ) → c < n → n - suc c + 1 ≡ n - c
          next n c few = omega (arith, few)

      last_number : (c : ℕ) (v : List ℕ) → is_supply checked.universe v ≡ true → length (last c v) ≡ suffix_of counts node (k - c + 1) (length v)
      last_number c v given =
          ap (λ es. length (components_on g (expressions_of (drop (k - c) es)) v)) (ap (λ o. option_map_or arguments_of o []) at)
          ∙ sym (length-map (components_on g (expressions_of later) v) product)
          ∙ ap length (sym (listings_recur.prod g (take (k - c) all) later v is.passed.spec is.passed.well_founded inside given))
          ∙ same_number g (expr.Prod (expressions_of later)) v (well_founded_is_listed.suffixes g (take (k - c) all) later is.passed.spec is.passed.well_founded inside) given
          ∙ ap (λ (n : ℕ). number g (expr.Prod (expressions_of (drop n all))) (length v)) (sym (place (k - c)))
          ∙ sym (ap (λ o. suffix_number g (option_map_or arguments_of o []) (k - c + 1) (length v)) at)
        where
          later : List Expression
          later = drop (k - c) all

          inside : IsIn (expr.Prod (expressions_of (take (k - c) all ++ later))) (all_nodes g.rules)
          inside = prod_there checked node (record { components = arguments; at = at }) (take (k - c) all) later (take-append-drop (k - c) all)

          place : (n : ℕ) → n + 1 - 1 ≡ n
          place n = omega arith

      none_last : (v : List ℕ) → 0 < length (last 0 v) → last 0 v ≡ [] ∷ []
      none_last v more = by v more (nodes_are_listed.no_component checked node (k - 0) v prod_kind (omega arith))
        where
          by : (w : List ℕ) → 0 < length (last 0 v) → last 0 v ≡ list_no_components w → last 0 v ≡ [] ∷ []
          by [] more same = same
          by (label ∷ left) more same = absurd (omega (arith, more, ap length same))

      components_made : AreMade counts inner (Components node) k firsts last (λ s ss. s ∷ ss) (λ ss. ss) (λ c. 1) (λ s. height s < h)
      components_made = record {
        finish_none = refl;
        finish_more = λ s ss. refl;
        holds = λ x s ys within. within;
        none = λ v given more. none_last v more;
        first_number = λ behind v few given. on_number (first_of counts (Components node) (suc behind)) v (first_reached behind few) given;
        others_number = λ c v few given. last_number c v given;
        meets = λ c v few given. alike_meet (by_splits (firsts c) (last c) v) (last (suc c) v) (met.same (sym (by_first c v few)));
        some = λ c few. omega arith;
        fair = λ behind v few given more good. below (first_of counts (Components node) (suc behind)) v (first_reached behind few) given more good;
      }

      prod_even : IsEven (prod_choices counts inner node u) here
      prod_even =
          subst (λ tree. IsEven tree here) (ending_ending (λ ss. ss) product (list_choices counts inner (Components node) k u))
          (subst (IsEven (ending product (ending (λ ss. ss) (list_choices counts inner (Components node) k u)))) (sym are)
          (ending_even product (ending (λ ss. ss) (list_choices counts inner (Components node) k u)) (last k u)
          (lists_even counts inner (Components node) k firsts last (λ s ss. s ∷ ss) (λ ss. ss) (λ c. 1) (λ s. height s < h) components_made k u (omega arith) supplied
          (omega (arith, some, ap length are, length-map (last k u) product))
          (lists_lower h form.Prod (last k u) (subst (AreLower (suc h)) are lower)))))
        where
          all_missing : (n : ℕ) → 0 ≡ n - n
          all_missing n = omega arith

          are : here ≡ map product (last k u)
          are = nodes_are_listed.prod checked node u is.passed supplied prod_kind ∙ ap (λ (n : ℕ). map product (later_on checked node n u)) (all_missing k)

    -- ---- containers

    many_even : (kind : Kind) (e : Expression) (card : Card) → node_at checked.rules node ≡ Some (expr.Many kind e card) → IsEven (choices_by counts inner node u (container kind)) here
    many_even kind e card at =
        subst (IsEven (choices_by counts inner node u (container kind))) (sym are)
        (by_kind kind (container_even counts is.passed.spec is.passed.well_founded node kind e card at inside inner h
        (λ v given more low.
        subst (IsEven (inner element v)) (listing_is checked element e v inside)
        (below element v element_reached given
        (subst (λ (ss : List Structure). 0 < length ss) (sym (listing_is checked element e v inside)) more)
        (subst (AreLower h) (sym (listing_is checked element e v inside)) low)))
        (λ unlabelled own. no node (record { unlabelled = unlabelled; reached = reached; is = ap (option_map kind_of) at ∙ ap (λ (k : Kind). Some (container k)) own }))
        u supplied (subst (AreLower (suc h)) are lower)))
      where
        element : ℕ
        element = child_of counts node 1

        children : children_at checked.rules node ≡ (node + 1) ∷ []
        children = children_at_is checked.rules node (expr.Many kind e card) at

        is_child : slice_get (children_at checked.rules node) 0 ≡ Some (node + 1)
        is_child = ap (λ ms. slice_get ms 0) children

        element_is : element ≡ node + 1
        element_is = child_is node 1 (node + 1) is_child

        inside : node_at checked.rules element ≡ Some e
        inside = ap (node_at checked.rules) element_is ∙ child_node checked.rules node (expr.Many kind e card) 0 (node + 1) at refl

        element_reached : IsReachedIn counts element
        element_reached = subst (IsReachedIn counts) (sym element_is) (reached_child counts is node 0 (node + 1) reached is_child)

        are : here ≡ listing g (expr.Many kind e card) u
        are = listing_is checked node (expr.Many kind e card) u at

        by_kind : (k : Kind) → IsEven (container_choices counts inner (container k) node u) (listing g (expr.Many kind e card) u)
            → IsEven (choices_by counts inner node u (container k)) (listing g (expr.Many kind e card) u)
        by_kind kinds.Sequence even = even
        by_kind kinds.Set even = even
        by_kind kinds.PowerSet even = even
        by_kind kinds.Cycle even = even

    -- ---- each node

    by_expression : (e : Expression) → node_at checked.rules node ≡ Some e → IsEven (choices_by counts inner node u (kind_of e)) here
    by_expression expr.Epsilon at = epsilon_even (nodes_are_listed.epsilon checked node u is.passed supplied (ap (option_map kind_of) at))
    by_expression expr.Atom at = atom_even (nodes_are_listed.atom checked node u is.passed supplied (ap (option_map kind_of) at))
    by_expression (expr.Name name) at = name_even name at
    by_expression (expr.Union arguments) at = union_even (ap (option_map kind_of) at)
    by_expression (expr.Prod arguments) at = prod_even arguments at
    by_expression (expr.Many kind e card) at = many_even kind e card at

    deeper_even : IsEven (choices counts (suc h) node u) here
    deeper_even =
        let there = node_there checked is.passed node (reached_within counts is node reached) in
        subst (λ tree. IsEven tree here)
        (sym (ap (λ o. option_map_or (λ e. choices_by counts inner node u (kind_of e)) o nothing) there.1))
        (by_expression there.0 there.1)

  pub node_even : (h : ℕ) → Below h
  node_even zero node u reached supplied some lower = absurd (let first = some_of (listing_on checked node u) some in let low = lower first.0 first.1 in omega (arith, low))
  node_even (suc h) node u reached supplied some lower = deeper_even h (node_even h) node u reached supplied some lower
