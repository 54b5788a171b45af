-- Numbers that fall on the way down from a node: first by the number of atoms, then by the rank, then by what is left of a list.
use Rattle.std.proofs.Common.{◌≡◌, ◌⊎◌, ℕ, zero, suc, ◌+◌, ◌-◌, ◌*◌, ◌≤◌, ◌<◌, max, Bool, true, false, ◌||◌, not, nat_le, nat_eq, map, List, [], ◌∷◌, length, take, drop, Option, Some, None, slice_get, if◌then◌else◌, refl, sym, ap, ◌∙◌, subst, inl, inr, arith, eqb-true}
use Rattle.std.specs.Option.{option_map, option_map_or, option_and_then}
use Rattle.std.specs.List.{sum}
use Rattle.std.proofs.lemmas.Bool.{cases_lt, and_parts, and_from}
use Rattle.std.proofs.lemmas.Bool.Decides.{nat_tests}
use Rattle.std.proofs.lemmas.List.{drop_all, nil_from_length}
use Rattle.std.proofs.lemmas.Nat.{mul-le}
use Rattle.std.proofs.lemmas.Option.{slice_get_within}
use Rattle.lists.proofs.Positions.{slice_some}
use Rattle.lists.proofs.Shares.{share_within, others_are_0}
use Rattle.lists.proofs.RangeSums.{sum_first, sum_append}
use Rattle.lists.proofs.Sums.{sum_more, sum_at, sum_drop}
use Rattle.spec_syntax.specs.declared.expr.Card.{Card}
use Rattle.spec_syntax.specs.Card.{admits, is_within}
use Rattle.spec_syntax.specs.declared.statement.Universe.{Universe}
use Rattle.spec_syntax.specs.declared.expr.Kind.{Kind}
use Rattle.spec_syntax.specs.declared.expr.Kind.TheVariants as kind
use Rattle.spec_syntax.specs.Expression as expr
use Rattle.spec_syntax.specs.Expression.{Expression, expression_list}
use Rattle.spec_syntax.specs.Rules.{Rules, symbol, all_nodes}
use Rattle.spec_syntax.specs.Nodes.{arguments_of, children_of, children_at, card_at, card_of, name_at, right_node}
use Rattle.spec_syntax.proofs.NodesLemmas.{length-children_of}
use Rattle.well_founded.specs.declared.node.NodeKind.{NodeKind}
use Rattle.well_founded.specs.declared.node.NodeKind.TheVariants as told
use Rattle.well_founded.specs.NodeKinds.{container}
use Rattle.well_founded.specs.Checked.{Checked, IsChecked}
use Rattle.listing_laws.specs.Numbers.{ways, joined}
use Rattle.listing_laws.specs.Lister.{after_one, admits_some, list_empty}
use Rattle.listing_laws.specs.NodeListing.{HasKind, rank_at, rule_rank, least_at, number_of_node, number_from, lists_on}
use Rattle.listing_laws.specs.LeastNodes.{set_lists_on, cycle_lists_on}
use Rattle.listing_laws.specs.SortedNodes.{IsContained}
use Rattle.listing_laws.proofs.LeastNodes.{labelled_nodes_are_listed, labelled_nodes_are_counted}
use Rattle.listing_laws.proofs.NodeLemmas.{ProdNode, prod_node, prod_children, Component, component, ContainerNode, container_node, least_entry, children_at_is, nodes_are_counted}
use Rattle.listing_laws.proofs.NodeRanks.{falls, rank_within, rule_falls, told_rank, union_falls}
use Rattle.struct_model.specs.Structure.{Structure}
use Rattle.struct_model.specs.Membership.{supply}
use Rattle.struct_model.proofs.SupplyLaws.{supply_size}
use Rattle.size_counts.specs.CountedView.{Counts, IsCounted, IsReachedIn}
use Rattle.size_counts.proofs.ReachedLemmas.{take_one}
use Rattle.struct_walk.specs.declared.tail.Tail.{Tail}
use Rattle.struct_walk.specs.declared.tail.Tail.TheVariants.{Components, Elements, SetElements, CycleElements}
use Rattle.struct_walk.specs.declared.tail.Cut.{Cut}
use Rattle.struct_walk.specs.Tails.{IsTail, tail_number, cut_of}
use Rattle.struct_walk.proofs.ReachedNodes.{reached_within, reached_child}
use Rattle.struct_walk.proofs.TailLemmas.{elements_kind, is_element, sets_kind, is_set_element, is_cycle_element}

-- ---- numbers

-- no node has more children
unfoldable pub most_children : Rules → ℕ
most_children rules = sum (map (λ e. length (arguments_of e)) (all_nodes rules))

-- of the sizes and ranks, greater sizes first
unfoldable pub level : Checked → ℕ → ℕ → ℕ
level checked n rank = (2 * most_children checked.rules + 32) * (n * (length (all_nodes checked.rules) + 1) + rank)

-- what lies between two levels
unfoldable pub span : Checked → ℕ
span checked = 2 * most_children checked.rules + 32

-- the measure of opening a node with n atoms
abbrev pub node_measure : Checked → ℕ → ℕ → ℕ
node_measure checked node n = level checked n (rank_at checked node) + 2 * most_children checked.rules + 20

-- that of opening a Set by its form
abbrev pub set_measure : Checked → ℕ → ℕ → ℕ
set_measure checked node n = level checked n (rank_at checked node) + 2 * most_children checked.rules + 19

-- that of opening a rule
abbrev pub rule_measure : Checked → ℕ → ℕ → ℕ
rule_measure checked number n = level checked n (rule_rank checked number)

-- that of opening a Union
abbrev pub union_measure : Checked → ℕ → ℕ → ℕ
union_measure checked node n = level checked n (rank_at checked node)

-- the node of the lists
abbrev pub node_of_tail : Tail → ℕ
node_of_tail (Components node place) = node
node_of_tail (Elements node element card) = node
node_of_tail (SetElements node element card) = node
node_of_tail (CycleElements node element card) = node

-- a number that falls from component to component
abbrev pub left_over : Checked → Tail → ℕ
left_over checked (Components node place) = 2 * (length (children_at checked.rules node) - place) + 1
left_over checked (Elements node element card) = 1
left_over checked (SetElements node element card) = 1
left_over checked (CycleElements node element card) = 1

-- where the bound admits one element, does the container's own
abbrev pub element_can_have_all : Checked → ℕ → Card → Bool
element_can_have_all checked node card = not (admits card 1) || option_map_or (λ own. admits own 1) (card_at checked.rules node) false

-- can the lists have all atoms of the structure: the components before them can be empty; and where the bound admits one element,
-- the container's own does
abbrev pub can_have_all : Checked → Tail → Bool
can_have_all checked (Components node place) = nat_eq (sum (map (least_at checked) (take place (children_at checked.rules node)))) 0
can_have_all checked (Elements node element card) = element_can_have_all checked node card
can_have_all checked (SetElements node element card) = element_can_have_all checked node card
can_have_all checked (CycleElements node element card) = element_can_have_all checked node card

-- the measure of opening lists with n atoms
unfoldable pub lists_measure : Checked → Tail → ℕ → ℕ
lists_measure checked tail n =
    if can_have_all checked tail then level checked n (rank_at checked (node_of_tail tail)) + left_over checked tail + 3
    else level checked (n + 1) 0 + left_over checked tail

-- that of opening a first component with d atoms and the others with m
abbrev pub split_measure : Checked → Cut → ℕ → ℕ → ℕ
split_measure checked cut d m = max (node_measure checked cut.first d) (lists_measure checked cut.behind m) + 1

-- ---- levels

-- a product with one more
one_more : (a b : ℕ) → a * (b + 1) ≡ a * b + a
one_more a b = grind arith

by_rank : (s w n low high : ℕ) → low < high → s * (n * w + low) + s ≤ s * (n * w + high)
by_rank s w n low high less = omega (arith, mul-le s (n * w + low + 1) s (n * w + high) (omega arith) (omega arith), one_more s (n * w + low))

by_size : (s w d n rank : ℕ) → d < n → rank < w → s * (d * w + rank) + s ≤ s * (n * w + 0)
by_size s w d n rank less within =
    omega (arith, mul-le s (d * w + rank + 1) s (n * w + 0) (omega arith) (omega (arith, mul-le (suc d) w n w less (omega arith), one_width d w)), one_more s (d * w + rank))
  where
    one_width : (k width : ℕ) → suc k * width ≡ k * width + width
    one_width k width = grind arith

up : (s w d n low high : ℕ) → d ≤ n → low ≤ high → s * (d * w + low) ≤ s * (n * w + high)
up s w d n low high size rank = mul-le s (d * w + low) s (n * w + high) (omega arith) (omega (arith, mul-le d w n w size (omega arith)))

module _ (checked : Checked) where
  pub level_rank : (n low high : ℕ) → low < high → level checked n low + span checked ≤ level checked n high
  unfolding level span
  level_rank n low high less = by_rank (2 * most_children checked.rules + 32) (length (all_nodes checked.rules) + 1) n low high less

  pub level_size : (d n rank : ℕ) → d < n → rank ≤ length (all_nodes checked.rules) → level checked d rank + span checked ≤ level checked n 0
  unfolding level span
  level_size d n rank less within = by_size (2 * most_children checked.rules + 32) (length (all_nodes checked.rules) + 1) d n rank less (omega arith)

  pub level_up : (d n low high : ℕ) → d ≤ n → low ≤ high → level checked d low ≤ level checked n high
  unfolding level
  level_up d n low high size rank = up (2 * most_children checked.rules + 32) (length (all_nodes checked.rules) + 1) d n low high size rank

  pub span_is : span checked ≡ 2 * most_children checked.rules + 32
  unfolding span
  span_is = refl

  pub lists_all : (tail : Tail) (n : ℕ) → can_have_all checked tail ≡ true
      → lists_measure checked tail n ≡ level checked n (rank_at checked (node_of_tail tail)) + left_over checked tail + 3
  unfolding lists_measure
  lists_all tail n all =
      ap (λ (b : Bool). if b then level checked n (rank_at checked (node_of_tail tail)) + left_over checked tail + 3 else level checked (n + 1) 0 + left_over checked tail) all

  pub lists_fewer : (tail : Tail) (n : ℕ) → can_have_all checked tail ≡ false
      → lists_measure checked tail n ≡ level checked (n + 1) 0 + left_over checked tail
  unfolding lists_measure
  lists_fewer tail n fewer =
      ap (λ (b : Bool). if b then level checked n (rank_at checked (node_of_tail tail)) + left_over checked tail + 3 else level checked (n + 1) 0 + left_over checked tail) fewer

  -- ---- children

  pub few_children : (node : ℕ) → node < length (all_nodes checked.rules) → length (children_at checked.rules node) ≤ most_children checked.rules
  unfolding most_children
  few_children node within =
      let there = slice_some (all_nodes checked.rules) node within in
      let one : length (arguments_of there.0) ≤ sum (map (λ e. length (arguments_of e)) (all_nodes checked.rules)) =
      share_within (λ e. length (arguments_of e)) (all_nodes checked.rules) node there.0 there.1 in
      let same : length (children_at checked.rules node) ≡ length (children_of node there.0) = ap length (children_at_is checked.rules node there.0 there.1) in
      omega (arith, one, same, length-children_of node there.0)

-- ---- what is empty

-- where a product is above 0, both numbers are
first_some : (w f o : ℕ) → 0 < w * (f * o) → 0 < f
first_some w zero o some = absurd (omega (arith, none w o))
  where
    none : (a b : ℕ) → a * (0 * b) ≡ 0
    none a b = grind arith
first_some w (suc f) o some = omega arith

others_some : (w f o : ℕ) → 0 < w * (f * o) → 0 < o
others_some w f zero some = absurd (omega (arith, none w f))
  where
    none : (a b : ℕ) → a * (b * 0) ≡ 0
    none a b = grind arith
others_some w f (suc o) some = omega arith

joined_at_0 : (universe : Universe) (first others : ℕ → ℕ) → joined universe first others 0 ≡ ways universe 0 0 * (first 0 * others 0)
joined_at_0 universe first others = omega (arith, sum_first (λ d. ways universe 0 d * (first d * others (0 - d))) 0)

not_zero : (n : ℕ) → nat_eq n 0 ≡ false → 0 < n
not_zero zero h = let e : true ≡ false = h in cc
not_zero (suc n) h = omega arith

module _ (checked : Checked) (passed : IsChecked checked) where
  -- a node that has a structure of a size has a least one of at most that size
  pub least_within_size : (node n : ℕ) → 0 < number_of_node checked node n → least_at checked node ≤ n
  least_within_size node n some = by (cases_lt n (least_at checked node))
    where
      by : (n < least_at checked node) ⊎ (least_at checked node ≤ n) → least_at checked node ≤ n
      by (inl less) = absurd (omega (arith, nodes_are_counted.below_least checked node n passed less))
      by (inr within) = within

  abbrev children : ℕ → List ℕ
  children node = children_at checked.rules node

  abbrev together : List ℕ → ℕ
  together nodes = sum (map (least_at checked) nodes)

  -- components without atoms have the least size 0
  pub empty_from : (more node place : ℕ) → HasKind checked node told.Prod → length (children node) ≤ place + more
      → 0 < number_from checked node place 0 → together (drop place (children node)) ≡ 0
  empty_from zero node place prod long some = ap together (drop_all place (children node) (omega arith))
  empty_from (suc more) node place prod long some = by (empty_from more node (place + 1) prod (omega arith)) (cases_lt place (length (children node)))
    where
      by : (0 < number_from checked node (place + 1) 0 → together (drop (place + 1) (children node)) ≡ 0)
          → (place < length (children node)) ⊎ (length (children node) ≤ place)
          → together (drop place (children node)) ≡ 0
      by behind (inr past) = ap together (drop_all place (children node) past)
      by behind (inl within) =
          let found = slice_some (children node) place within in
          let both : 0 < ways checked.universe 0 0 * (number_of_node checked found.0 0 * number_from checked node (place + 1) 0) =
          omega (
            arith,
            some,
            nodes_are_counted.component checked node place found.0 0 passed prod found.1,
            joined_at_0 checked.universe (number_of_node checked found.0) (number_from checked node (place + 1)),
          ) in
          omega (
            arith,
            sum_drop (least_at checked) (children node) place found.0 found.1,
            least_within_size found.0 0 (first_some (ways checked.universe 0 0) (number_of_node checked found.0 0) (number_from checked node (place + 1) 0) both),
            behind (others_some (ways checked.universe 0 0) (number_of_node checked found.0 0) (number_from checked node (place + 1) 0) both),
          )

  together_more : (node place child : ℕ) → slice_get (children node) place ≡ Some child
      → together (take (place + 1) (children node)) ≡ together (take place (children node)) + least_at checked child
  together_more node place child at =
      ap together (take_one (children node) place child at) ∙ sum_append (least_at checked) (take place (children node)) (child ∷ []) ∙ last
    where
      last : together (take place (children node)) + together (child ∷ []) ≡ together (take place (children node)) + least_at checked child
      last = omega (arith, sum_more (least_at checked child) [])

  -- a component's rank is below that of the Prod, where all others can be empty
  pub component_falls : (node place child n : ℕ) → HasKind checked node told.Prod → slice_get (children node) place ≡ Some child → n ≤ 1000
      → 0 < number_of_node checked child n
      → together (take place (children node)) ≡ 0 → 0 < number_from checked node (place + 1) 0 → rank_at checked child < rank_at checked node
  component_falls node place child n kind here small some before behind =
      let prod : ProdNode checked node = prod_node checked node kind in
      let whole : Expression = expr.Prod prod.components in
      let c : Component checked node prod place child = component checked node prod place child here in
      let is : children node ≡ children_of node whole = prod_children checked node prod in
      let own : slice_get (children_of node whole) place ≡ Some child = ap (λ ms. slice_get ms place) (sym is) ∙ here in
      let adds : together (children_of node whole) ≡ least_at checked child =
      ap together (sym is)
      ∙ omega (
        arith,
        sum_at (least_at checked) (children node) place child here,
        before,
        empty_from (length (children node)) node (place + 1) kind (omega arith) behind,
      ) in
      falls checked passed node place child whole c.e prod.at own c.at (omega (arith, least_within_size child n some, small)) (λ other k there differ.
      let also : Component checked node prod other k = component checked node prod other k (ap (λ ms. slice_get ms other) is ∙ there) in
      least_entry checked passed k also.e also.at
      ∙ ap (λ (size : ℕ). Some size) (others_are_0 (least_at checked) (children_of node whole) place child other k own there differ adds))

-- ---- bounds

some_admitted : (b : Bool) (xs : List (List Structure)) → 0 < length (if b then xs else []) → b ≡ true
some_admitted true xs some = refl
some_admitted false xs some = absurd (omega arith)

low_enough : (low : ℕ) → nat_le (low - 1) 0 ≡ true → nat_le low 1 ≡ true
low_enough low h = grind (arith, nat_tests)

-- b, or not b
either : (b : Bool) → not b || b ≡ true
either true = refl
either false = refl

second_of : (a b : Bool) → not a || b ≡ true → a ≡ true → b ≡ true
second_of true b h is = h
second_of false b h is = let e : false ≡ true = is in cc

-- where the bound admits a component, and lowered by one none, it admits one
one_admitted : (card : Card) → admits_some card ≡ true → admits (after_one card) 0 ≡ true → admits card 1 ≡ true
one_admitted card first none_left =
    and_from (nat_le card.low 1) (is_within card.high 1) (low_enough card.low (and_parts _ _ none_left).0) first

module _ (checked : Checked) (passed : IsChecked checked) where
  -- lists of n atoms whose first component has all of them are there by a bound that admits one component
  one_of : (card : Card) (lists all others : List (List Structure)) → lists ≡ (if admits_some card then all else []) → 0 < length lists
      → others ≡ list_empty (after_one card) → 0 < length others → admits card 1 ≡ true
  one_of card lists all others first some behind some_behind =
      one_admitted card (some_admitted (admits_some card) all (subst (λ (xs : List (List Structure)). 0 < length xs) first some))
      (some_admitted (admits (after_one card) 0) ([] ∷ []) (subst (λ (xs : List (List Structure)). 0 < length xs) behind some_behind))

  empty_supply : supply checked.universe 0 ≡ []
  empty_supply = nil_from_length (supply checked.universe 0) (supply_size checked.universe 0)

  full_supply : (n : ℕ) → 0 < n → 0 < length (supply checked.universe n)
  full_supply n some = omega (arith, some, supply_size checked.universe n)

  one_list : (element : ℕ) (card : Card) (n : ℕ) → IsContained checked element → 0 < n
      → 0 < length (lists_on checked element card (supply checked.universe n))
      → 0 < length (lists_on checked element (after_one card) (supply checked.universe 0)) → admits card 1 ≡ true
  one_list element card n is some lists others =
      one_of card (lists_on checked element card (supply checked.universe n)) _ (lists_on checked element (after_one card) (supply checked.universe 0))
      (labelled_nodes_are_listed.lists checked element card (supply checked.universe n) is (full_supply n some)) lists
      (ap (lists_on checked element (after_one card)) empty_supply ∙ labelled_nodes_are_listed.no_list checked element (after_one card) is) others

  one_set : (element : ℕ) (card : Card) (n : ℕ) → IsContained checked element → 0 < n
      → 0 < length (set_lists_on checked element card (supply checked.universe n))
      → 0 < length (set_lists_on checked element (after_one card) (supply checked.universe 0)) → admits card 1 ≡ true
  one_set element card n is some lists others =
      one_of card (set_lists_on checked element card (supply checked.universe n)) _ (set_lists_on checked element (after_one card) (supply checked.universe 0))
      (labelled_nodes_are_listed.sets checked element card (supply checked.universe n) is (full_supply n some)) lists
      (ap (set_lists_on checked element (after_one card)) empty_supply ∙ labelled_nodes_are_listed.no_set checked element (after_one card) is) others

  one_cycle : (element : ℕ) (card : Card) (n : ℕ) → IsContained checked element → 0 < n
      → 0 < length (cycle_lists_on checked element card (supply checked.universe n))
      → 0 < length (lists_on checked element (after_one card) (supply checked.universe 0)) → admits card 1 ≡ true
  one_cycle element card n is some lists others =
      one_of card (cycle_lists_on checked element card (supply checked.universe n)) _ (lists_on checked element (after_one card) (supply checked.universe 0))
      (labelled_nodes_are_listed.cycles checked element card (supply checked.universe n) is (full_supply n some)) lists
      (ap (lists_on checked element (after_one card)) empty_supply ∙ labelled_nodes_are_listed.no_list checked element (after_one card) is) others

  element_falls : (k : Kind) (node element n : ℕ) → HasKind checked node (container k) → slice_get (children_at checked.rules node) 0 ≡ Some element → n ≤ 1000
      → 0 < number_of_node checked element n
      → option_map_or (λ own. admits own 1) (card_at checked.rules node) false ≡ true → rank_at checked element < rank_at checked node
  element_falls k node element n h child small some one =
      let c : ContainerNode checked k node element = container_node checked k node element h child in
      let whole : Expression = expr.Many k c.e c.card in
      let own : card_at checked.rules node ≡ Some c.card = ap (option_and_then card_of) c.at in
      let admitted : admits c.card 1 ≡ true = ap (λ (found : Option Card). option_map_or (λ card. admits card 1) found false) (sym own) ∙ one in
      falls checked passed node 0 element whole c.e c.at (ap (λ ms. slice_get ms 0) (sym (children_at_is checked.rules node whole c.at)) ∙ child) c.inside
      (omega (arith, least_within_size checked passed element n some, small)) admitted

  -- ---- on the way down from a node

  -- to a node with fewer atoms, and to one with as many and a lower rank
  fewer_down : (child d n : ℕ) → child < length (all_nodes checked.rules) → d < n → node_measure checked child d + 1 ≤ level checked n 0
  fewer_down child d n within less =
      omega (arith, level_size checked d n (rank_at checked child) less (omega (arith, rank_within checked passed child within)), span_is checked)

  lower_down : (child node n : ℕ) → rank_at checked child < rank_at checked node
      → node_measure checked child n + 1 ≤ level checked n (rank_at checked node)
  lower_down child node n falls = omega (arith, level_rank checked n (rank_at checked child) (rank_at checked node) falls, span_is checked)

  -- from a name to its rule
  pub rule_down : (node number n : ℕ) → HasKind checked node told.Rule
      → option_and_then (symbol checked.rules) (name_at checked.rules node) ≡ Some number → n ≤ 1000
      → 0 < number_of_node checked (right_node checked.rules number) n → rule_measure checked number n < node_measure checked node n
  rule_down node number n kind found small some =
      let rank : rule_rank checked number ≤ rank_at checked node =
      rule_falls checked passed node number kind found (omega (arith, least_within_size checked passed (right_node checked.rules number) n some, small)) in
      omega (arith, level_up checked n n (rule_rank checked number) (rank_at checked node) (omega arith) rank)

  -- from a rule to its right side, which is no word
  pub right_down : (number n : ℕ) (kind : NodeKind) → 1 ≤ number → number ≤ length checked.rules
      → HasKind checked (right_node checked.rules number) kind → (kind ≡ told.Epsilon → ⊥)
      → (kind ≡ told.Atom → ⊥) → node_measure checked (right_node checked.rules number) n < rule_measure checked number n
  right_down number n kind low high is not_epsilon not_atom =
      omega (
        arith,
        level_rank checked n (rank_at checked (right_node checked.rules number)) (rule_rank checked number) (omega (arith, told_rank checked passed number kind low high is not_epsilon not_atom)),
        span_is checked,
      )

  -- from a Union to an argument
  pub union_down : (node place child n : ℕ) → HasKind checked node told.Union → slice_get (children_at checked.rules node) place ≡ Some child
      → n ≤ 1000 → 0 < number_of_node checked child n
      → node_measure checked child n < union_measure checked node n
  union_down node place child n kind at small some =
      omega (arith, lower_down child node n (union_falls checked passed node place child kind at (omega (arith, least_within_size checked passed child n some, small))))

  -- ---- on the way down from a list

  module _ (node place child d m n : ℕ) (kind : HasKind checked node told.Prod) (here : slice_get (children_at checked.rules node) place ≡ Some child)
      (there : child < length (all_nodes checked.rules)) (total : d + m ≡ n) (small : n ≤ 1000) (first : 0 < number_of_node checked child d)
      (behind : 0 < number_from checked node (place + 1) m) where
    abbrev now : Tail
    now = Components node place

    abbrev later : Tail
    later = Components node (place + 1)

    place_within : place < length (children_at checked.rules node)
    place_within = slice_get_within (children_at checked.rules node) place child here

    before : can_have_all checked now ≡ true → together checked passed (take place (children_at checked.rules node)) ≡ 0
    before all = eqb-true (together checked passed (take place (children_at checked.rules node))) 0 all

    component_down : (b : Bool) → can_have_all checked now ≡ b → node_measure checked child d + 1 < lists_measure checked now n
    component_down false fewer = omega (arith, fewer_down child d (n + 1) there (omega arith), lists_fewer checked now n fewer)
    component_down true all = by (cases_lt d n)
      where
        by : (d < n) ⊎ (n ≤ d) → node_measure checked child d + 1 < lists_measure checked now n
        by (inl less) = omega (arith, fewer_down child d n there less, level_up checked n n 0 (rank_at checked node) (omega arith) (omega arith), lists_all checked now n all)
        by (inr more) =
            let none : m ≡ 0 = omega arith in
            let same : d ≡ n = omega arith in
            let falls : rank_at checked child < rank_at checked node =
            component_falls checked passed node place child n kind here small (subst (λ (k : ℕ). 0 < number_of_node checked child k) same first) (before all)
            (subst (λ (k : ℕ). 0 < number_from checked node (place + 1) k) none behind) in
            omega (arith, lower_down child node n falls, ap (node_measure checked child) same, lists_all checked now n all)

    later_down : (b c : Bool) → can_have_all checked now ≡ b → can_have_all checked later ≡ c
        → lists_measure checked later m + 1 < lists_measure checked now n
    later_down true true all more =
        omega (arith, lists_all checked now n all, lists_all checked later m more, place_within, level_up checked m n (rank_at checked node) (rank_at checked node) (omega arith) (omega arith))
    later_down false false fewer less =
        omega (arith, lists_fewer checked now n fewer, lists_fewer checked later m less, place_within, level_up checked (m + 1) (n + 1) 0 0 (omega arith) (omega arith))
    later_down true false all less =
        let more : together checked passed (take (place + 1) (children_at checked.rules node)) ≡ together checked passed (take place (children_at checked.rules node)) + least_at checked child =
        together_more checked passed node place child here in
        let some : 0 < together checked passed (take (place + 1) (children_at checked.rules node)) = not_zero (together checked passed (take (place + 1) (children_at checked.rules node))) less in
        omega (
          arith,
          lists_all checked now n all,
          lists_fewer checked later m less,
          place_within,
          level_up checked (m + 1) n 0 (rank_at checked node) (omega (arith, more, some, before all, least_within_size checked passed child d first)) (omega arith),
        )
    later_down false true fewer all =
        let more : together checked passed (take (place + 1) (children_at checked.rules node)) ≡ together checked passed (take place (children_at checked.rules node)) + least_at checked child =
        together_more checked passed node place child here in
        absurd (omega (
          arith,
          more,
          not_zero (together checked passed (take place (children_at checked.rules node))) fewer,
          eqb-true (together checked passed (take (place + 1) (children_at checked.rules node))) 0 all,
        ))

    pub components_down : split_measure checked (record { first = child; behind = later }) d m < lists_measure checked now n
    components_down = omega (arith, component_down (can_have_all checked now) refl, later_down (can_have_all checked now) (can_have_all checked later) refl refl)

  module _ (k : Kind) (node element : ℕ) (card : Card) (d m n : ℕ) (h : HasKind checked node (container k)) (child : slice_get (children_at checked.rules node) 0 ≡ Some element)
      (there : element < length (all_nodes checked.rules)) (inside : node < length (all_nodes checked.rules)) (total : d + m ≡ n) (small : n ≤ 1000)
      (first : 0 < number_of_node checked element d) (one : 0 < n → m ≡ 0 → admits card 1 ≡ true) where
    abbrev elements : Tail
    elements = Elements node element card

    abbrev others : Tail
    others = Elements node element (after_one card)

    some_taken : 0 < d
    some_taken = by (cases_lt 0 d)
      where
        by : (0 < d) ⊎ (d ≤ 0) → 0 < d
        by (inl some) = some
        by (inr none) =
            let same : d ≡ 0 = omega arith in
            absurd (omega (
              arith,
              first,
              ap (number_of_node checked element) same,
              labelled_nodes_are_counted.element checked element passed (record { node = node; kind = k; is = h; child = child }),
            ))

    element_down : (b : Bool) → can_have_all checked elements ≡ b → node_measure checked element d + 1 < lists_measure checked elements n
    element_down false fewer = omega (arith, fewer_down element d (n + 1) there (omega arith), lists_fewer checked elements n fewer)
    element_down true all = by (cases_lt d n)
      where
        by : (d < n) ⊎ (n ≤ d) → node_measure checked element d + 1 < lists_measure checked elements n
        by (inl less) = omega (arith, fewer_down element d n there less, level_up checked n n 0 (rank_at checked node) (omega arith) (omega arith), lists_all checked elements n all)
        by (inr more) =
            let same : d ≡ n = omega arith in
            let falls : rank_at checked element < rank_at checked node =
            element_falls k node element n h child small (subst (λ (k : ℕ). 0 < number_of_node checked element k) same first)
            (second_of (admits card 1) (option_map_or (λ own. admits own 1) (card_at checked.rules node) false) all (one (omega (arith, some_taken)) (omega arith))) in
            omega (arith, lower_down element node n falls, ap (node_measure checked element) same, lists_all checked elements n all)

    rank_in : rank_at checked node ≤ length (all_nodes checked.rules)
    rank_in = omega (arith, rank_within checked passed node inside)

    others_down : (b c : Bool) → can_have_all checked elements ≡ b → can_have_all checked others ≡ c
        → lists_measure checked others m + 1 < lists_measure checked elements n
    others_down true true all more =
        omega (
          arith,
          lists_all checked elements n all,
          lists_all checked others m more,
          level_size checked m n (rank_at checked node) (omega (arith, some_taken)) rank_in,
          level_up checked n n 0 (rank_at checked node) (omega arith) (omega arith),
          span_is checked,
        )
    others_down true false all less =
        omega (
          arith,
          lists_all checked elements n all,
          lists_fewer checked others m less,
          level_up checked (m + 1) n 0 (rank_at checked node) (omega (arith, some_taken)) (omega arith),
        )
    others_down false true fewer more =
        omega (
          arith,
          lists_fewer checked elements n fewer,
          lists_all checked others m more,
          level_size checked m (n + 1) (rank_at checked node) (omega arith) rank_in,
          span_is checked,
        )
    others_down false false fewer less =
        omega (
          arith,
          lists_fewer checked elements n fewer,
          lists_fewer checked others m less,
          level_size checked (m + 1) (n + 1) 0 (omega (arith, some_taken)) (omega arith),
          span_is checked,
        )

    pub elements_down : split_measure checked (record { first = element; behind = others }) d m < lists_measure checked elements n
    elements_down = omega (arith, element_down (can_have_all checked elements) refl, others_down (can_have_all checked elements) (can_have_all checked others) refl refl)

  -- ---- on the way down from a node to its lists

  pub prod_down : (node n : ℕ) → node < length (all_nodes checked.rules) → lists_measure checked (Components node 0) n + 1 < node_measure checked node n
  prod_down node n within = omega (arith, lists_all checked (Components node 0) n refl, few_children checked node within)

  pub elements_down_all : (node element n : ℕ) (card : Card) → card_at checked.rules node ≡ Some card
      → lists_measure checked (Elements node element card) n + 2 < node_measure checked node n
  elements_down_all node element n card own = omega (arith, lists_all checked (Elements node element card) n all)
    where
      all : can_have_all checked (Elements node element card) ≡ true
      all = ap (λ (found : Option Card). not (admits card 1) || option_map_or (λ c. admits c 1) found false) own ∙ either (admits card 1)

-- the measures of the lists of a container
pub set_measure_is : (checked : Checked) (node element n : ℕ) (card : Card) → lists_measure checked (SetElements node element card) n ≡ lists_measure checked (Elements node element card) n
unfolding lists_measure
set_measure_is checked node element n card = refl

pub cycle_measure_is : (checked : Checked) (node element n : ℕ) (card : Card) → lists_measure checked (CycleElements node element card) n ≡ lists_measure checked (Elements node element card) n
unfolding lists_measure
cycle_measure_is checked node element n card = refl

-- from a container to its lists, and from a Set by way of its form
pub sequence_down : (checked : Checked) (passed : IsChecked checked) (node element n : ℕ) (card : Card) → card_at checked.rules node ≡ Some card
    → lists_measure checked (Elements node element card) n + 1 < node_measure checked node n
sequence_down checked passed node element n card own = omega (arith, elements_down_all checked passed node element n card own)

pub cycle_down : (checked : Checked) (passed : IsChecked checked) (node element n : ℕ) (card : Card) → card_at checked.rules node ≡ Some card
    → lists_measure checked (CycleElements node element card) n + 1 < node_measure checked node n
cycle_down checked passed node element n card own = omega (arith, elements_down_all checked passed node element n card own, cycle_measure_is checked node element n card)

pub set_down : (checked : Checked) (passed : IsChecked checked) (node element n : ℕ) (card : Card) → card_at checked.rules node ≡ Some card
    → lists_measure checked (SetElements node element card) n + 1 < set_measure checked node n
set_down checked passed node element n card own =
    omega (arith, elements_down_all checked passed node element n card own, set_measure_is checked node element n card)

pub form_down : (checked : Checked) (node n : ℕ) → set_measure checked node n < node_measure checked node n
form_down checked node n = omega arith

-- the element of a container of a class, and the others behind it
module _ (counts : Counts) (is : IsCounted counts) (k : Kind) (node element : ℕ) (card : Card) (h : HasKind counts.checked node (container k))
    (child : slice_get (children_at counts.checked.rules node) 0 ≡ Some element) (reached : IsReachedIn counts node) (d m n : ℕ) (cut : Cut) (total : d + m ≡ n) (small : n ≤ 1000)
    (first : 0 < number_of_node counts.checked cut.first d) (one : 0 < n → m ≡ 0 → admits card 1 ≡ true) where
  abbrev checked : Checked
  checked = counts.checked

  by_element : cut.first ≡ element → split_measure checked (record { first = element; behind = Elements node element (after_one card) }) d m < lists_measure checked (Elements node element card) n
  by_element same =
      elements_down checked is.passed k node element card d m n h child (reached_within counts is element (reached_child counts is node 0 element reached child)) (reached_within counts is node reached)
      total small (subst (λ (e : ℕ). 0 < number_of_node checked e d) same first) one

  lists_split : record { first = element; behind = Elements node element (after_one card) } ≡ cut → split_measure counts.checked cut d m < lists_measure counts.checked (Elements node element card) n
  lists_split same =
      subst (λ (c : Cut). split_measure checked c d m < lists_measure checked (Elements node element card) n) same (by_element (sym (ap (λ (c : Cut). c.first) same)))

  cycles_split : record { first = element; behind = Elements node element (after_one card) } ≡ cut
      → split_measure counts.checked cut d m < lists_measure counts.checked (CycleElements node element card) n
  cycles_split same = subst (λ (l : ℕ). split_measure checked cut d m < l) (sym (cycle_measure_is checked node element n card)) (lists_split same)

  sets_split : record { first = element; behind = SetElements node element (after_one card) } ≡ cut
      → split_measure counts.checked cut d m < lists_measure counts.checked (SetElements node element card) n
  sets_split same =
      subst (λ (c : Cut). split_measure checked c d m < lists_measure checked (SetElements node element card) n) same
      (omega (
        arith,
        by_element (sym (ap (λ (c : Cut). c.first) same)),
        set_measure_is checked node element m (after_one card),
        set_measure_is checked node element n card,
      ))

-- the lists behind a first component that has all atoms
behind_none : (counts : Counts) (cut : Cut) (tail : Tail) (m : ℕ) → cut.behind ≡ tail → m ≡ 0 → 0 < tail_number counts.checked cut.behind m → 0 < tail_number counts.checked tail 0
behind_none counts cut tail m same none some = subst (λ (n : ℕ). 0 < tail_number counts.checked tail n) none (subst (λ (t : Tail). 0 < tail_number counts.checked t m) same some)

-- where a list has a first component and others behind it, the measure of opening both is below that of opening the list
pub lists_down : (counts : Counts) (is : IsCounted counts) (tail : Tail) (n d m : ℕ) (cut : Cut) → IsTail counts tail
    → cut_of counts.checked tail n ≡ Some cut → d + m ≡ n → n ≤ 1000
    → 0 < tail_number counts.checked tail n → 0 < number_of_node counts.checked cut.first d → 0 < tail_number counts.checked cut.behind m
    → split_measure counts.checked cut d m < lists_measure counts.checked tail n
lists_down counts is (Components node place) n d m cut stands cuts total small some first behind = by (slice_get (children_at counts.checked.rules node) place) refl cuts
  where
    by : (found : Option ℕ) → slice_get (children_at counts.checked.rules node) place ≡ found
        → option_map (λ child. record { first = child; behind = Components node (place + 1) }) found ≡ Some cut
        → split_measure counts.checked cut d m < lists_measure counts.checked (Components node place) n
    by None at cuts = absurd (cc)
    by (Some child) at cuts =
        let same : record { first = child; behind = Components node (place + 1) } ≡ cut = cc in
        let there = reached_within counts is child (reached_child counts is node place child stands.reached at) in
        let first_here : 0 < number_of_node counts.checked child d = subst (λ (c : Cut). 0 < number_of_node counts.checked c.first d) (sym same) first in
        let behind_here : 0 < number_from counts.checked node (place + 1) m = subst (λ (c : Cut). 0 < tail_number counts.checked c.behind m) (sym same) behind in
        subst (λ (c : Cut). split_measure counts.checked c d m < lists_measure counts.checked (Components node place) n) same
        (components_down counts.checked is.passed node place child d m n stands.prod at there total small first_here behind_here)
lists_down counts is (Elements node element card) zero d m cut stands cuts total small some first behind = absurd (cc)
lists_down counts is (Elements node element card) (suc n) d m cut stands cuts total small some first behind =
    let same : record { first = element; behind = Elements node element (after_one card) } ≡ cut = cc in
    let k = elements_kind counts is node element card stands in
    lists_split counts is k.0 node element card k.1 stands.child stands.reached d m (suc n) cut total small first
    (λ more none. one_list counts.checked is.passed element card (suc n) (is_element counts is node element card stands) more some
    (behind_none counts cut (Elements node element (after_one card)) m (ap (λ (c : Cut). c.behind) (sym same)) none behind)) same
lists_down counts is (SetElements node element card) zero d m cut stands cuts total small some first behind = absurd (cc)
lists_down counts is (SetElements node element card) (suc n) d m cut stands cuts total small some first behind =
    let same : record { first = element; behind = SetElements node element (after_one card) } ≡ cut = cc in
    let k = sets_kind counts is node element card stands in
    sets_split counts is k.0 node element card k.1 stands.child stands.reached d m (suc n) cut total small first
    (λ more none. one_set counts.checked is.passed element card (suc n) (is_set_element counts is node element card stands) more some
    (behind_none counts cut (SetElements node element (after_one card)) m (ap (λ (c : Cut). c.behind) (sym same)) none behind)) same
lists_down counts is (CycleElements node element card) zero d m cut stands cuts total small some first behind = absurd (cc)
lists_down counts is (CycleElements node element card) (suc n) d m cut stands cuts total small some first behind =
    let same : record { first = element; behind = Elements node element (after_one card) } ≡ cut = cc in
    cycles_split counts is kind.Cycle node element card stands.cycle stands.child stands.reached d m (suc n) cut total small first
    (λ more none. one_cycle counts.checked is.passed element card (suc n) (is_cycle_element counts is node element card stands) more some
    (behind_none counts cut (Elements node element (after_one card)) m (ap (λ (c : Cut). c.behind) (sym same)) none behind)) same
