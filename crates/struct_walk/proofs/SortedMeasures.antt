-- Numbers that fall on the way down from a Set or a PowerSet without labels.
use Rattle.std.proofs.Common.{◌≡◌, ◌⊎◌, ℕ, zero, suc, ◌+◌, ◌-◌, ◌≤◌, ◌<◌, Bool, true, false, ◌||◌, ◌&&◌, not, nat_le, nat_lt, List, [], length, Option, Some, None, slice_get, if◌then◌else◌, refl, sym, ap, ◌∙◌, subst, inl, inr, arith}
use Rattle.std.specs.Option.{option_map, option_map_or}
use Rattle.std.proofs.lemmas.Bool.{cases_lt, and_parts, and_from}
use Rattle.std.proofs.lemmas.Bool.Decides.{nat_tests}
use Rattle.lists.proofs.Tests.{held}
use Rattle.spec_syntax.specs.declared.expr.Card.{Card}
use Rattle.spec_syntax.specs.declared.expr.Kind.TheVariants as kind
use Rattle.spec_syntax.specs.declared.expr.Kind.{Kind}
use Rattle.spec_syntax.specs.Card.{admits, is_within}
use Rattle.spec_syntax.specs.Expression as expr
use Rattle.spec_syntax.specs.Rules.{all_nodes}
use Rattle.spec_syntax.specs.Nodes.{card_at, children_at}
use Rattle.well_founded.specs.NodeKinds.{container}
use Rattle.well_founded.specs.Checked.{Checked, IsChecked}
use Rattle.listing_laws.specs.Lister.{after_one, admits_some}
use Rattle.listing_laws.specs.NodeListing.{HasKind, rank_at, least_at, number_of_node}
use Rattle.listing_laws.specs.SortedNodes.{IsContained}
use Rattle.listing_laws.proofs.NodeLemmas.{ContainerNode, container_node, container_bound, children_at_is}
use Rattle.listing_laws.proofs.NodeRanks.{falls, rank_within}
use Rattle.size_counts.specs.CountedView.{Counts, IsCounted}
use Rattle.struct_walk.specs.declared.sorted_tail.SortedTail.{SortedTail}
use Rattle.struct_walk.specs.SortedTails.{IsSortedTail, behind_one}
use Rattle.struct_walk.proofs.Measures.{level, span, most_children, node_measure, level_rank, level_size, level_up, span_is, few_children, least_within_size}
use Rattle.struct_walk.proofs.ReachedNodes.{reached_within, reached_child}
use Rattle.struct_walk.proofs.SortedLemmas.{contained}

-- where the components are as many as a bound admits, can they have all atoms of the node: one of them alone can, where the node's own
-- bound admits one
abbrev pub can_be_alone : Checked → ℕ → Bool → Bool
can_be_alone checked node one = not one || option_map_or (λ own. admits own 1) (card_at checked.rules node) false

unfoldable pub measure_of : Checked → ℕ → ℕ → Bool → ℕ → ℕ → ℕ
measure_of checked node n all high low = if all then level checked n (rank_at checked node) + high else level checked (n + 1) 0 + low

-- the measure of opening a sorted list with n atoms
abbrev pub sorted_measure : Checked → SortedTail → ℕ → ℕ
sorted_measure checked tail n = measure_of checked tail.node n (can_be_alone checked tail.node (admits tail.card 1)) 12 6

-- that of opening a first component with so many of n atoms, and the others; this stands behind it
abbrev pub level_measure : Checked → SortedTail → ℕ → ℕ
level_measure checked behind n = measure_of checked behind.node n (can_be_alone checked behind.node (admits behind.card 0)) 10 4

-- ---- bounds

-- a bound that admits a component admits one exactly where the bound on those behind it admits none
one_alone : (card : Card) → admits_some card ≡ true → admits (after_one card) 0 ≡ admits card 1
one_alone card some = by (nat_le (card.low - 1) 0) (nat_le card.low 1) (low_same card.low) card.high some
  where
    low_same : (low : ℕ) → nat_le (low - 1) 0 ≡ nat_le low 1
    low_same low = grind (arith, nat_tests)

    by : (a b : Bool) → a ≡ b → (high : Option ℕ) → is_within high 1 ≡ true → a && is_within (option_map (λ n. n - 1) high) 0 ≡ b && is_within high 1
    by a b same high within = ap (λ (x : Bool). x && is_within (option_map (λ n. n - 1) high) 0) same ∙ ap (λ (x : Bool). b && x) (none_left high ∙ sym within)
      where
        none_left : (high : Option ℕ) → is_within (option_map (λ n. n - 1) high) 0 ≡ true
        none_left None = refl
        none_left (Some high) = grind (arith, nat_tests)

either : (b : Bool) → not b || b ≡ true
either true = refl
either false = refl

second_of : (a b : Bool) → not a || b ≡ true → a ≡ true → b ≡ true
second_of true b h is = h
second_of false b h is = let e : false ≡ true = is in cc

module _ (checked : Checked) (node n : ℕ) (high low : ℕ) where
  with_all : (all : Bool) → all ≡ true → measure_of checked node n all high low ≡ level checked n (rank_at checked node) + high
  unfolding measure_of
  with_all all is = ap (λ (b : Bool). if b then level checked n (rank_at checked node) + high else level checked (n + 1) 0 + low) is

  with_fewer : (all : Bool) → all ≡ false → measure_of checked node n all high low ≡ level checked (n + 1) 0 + low
  unfolding measure_of
  with_fewer all is = ap (λ (b : Bool). if b then level checked n (rank_at checked node) + high else level checked (n + 1) 0 + low) is

-- ---- ranks

module _ (checked : Checked) (passed : IsChecked checked) where
  -- the rank of an element is below that of its container, where the bound admits it alone
  container_falls : (k : Kind) (node element n : ℕ) → HasKind checked node (container k) → slice_get (children_at checked.rules node) 0 ≡ Some element → n ≤ 1000
      → 0 < number_of_node checked element n
      → option_map_or (λ own. admits own 1) (card_at checked.rules node) false ≡ true → rank_at checked element < rank_at checked node
  container_falls k node element n h child small some one =
      let own = held (λ (own : Card). admits own 1) (card_at checked.rules node) one in
      let s : ContainerNode checked k node element = container_node checked k node element h child in
      falls checked passed node 0 element (expr.Many k s.e s.card) s.e s.at
      (ap (λ ms. slice_get ms 0) (sym (children_at_is checked.rules node (expr.Many k s.e s.card) s.at)) ∙ child) s.inside
      (omega (arith, least_within_size checked passed element n some, small))
      (ap (λ (card : Card). admits card 1) (container_bound checked k node element s own.0 own.1) ∙ own.2)

module _ (counts : Counts) (is : IsCounted counts) (tail : SortedTail) (stands : IsSortedTail counts tail) where
  abbrev checked : Checked
  checked = counts.checked

  node_within : tail.node < length (all_nodes checked.rules)
  node_within = reached_within counts is tail.node stands.reached

  element_within : tail.element < length (all_nodes checked.rules)
  element_within = reached_within counts is tail.element (reached_child counts is tail.node 0 tail.element stands.reached stands.child)

  rank_in : rank_at checked tail.node ≤ length (all_nodes checked.rules)
  rank_in = omega (arith, rank_within checked is.passed tail.node node_within)

  fewer : (d n : ℕ) → d < n → node_measure checked tail.element d + 12 ≤ level checked n 0
  fewer d n less =
      omega (arith, level_size checked d n (rank_at checked tail.element) less (omega (arith, rank_within checked is.passed tail.element element_within)), span_is checked)

  lower : (n : ℕ) → rank_at checked tail.element < rank_at checked tail.node → node_measure checked tail.element n + 12 ≤ level checked n (rank_at checked tail.node)
  lower n less = omega (arith, level_rank checked n (rank_at checked tail.element) (rank_at checked tail.node) less, span_is checked)

  -- to a component of d atoms, which may be all of them where a component can be alone
  pub component_down : (d n : ℕ) (one : Bool) (high low : ℕ) → 0 < number_of_node checked tail.element d → d ≤ n → n ≤ 1000 → (d ≡ n → one ≡ true)
      → node_measure checked tail.element d + 12 ≤ measure_of checked tail.node n (can_be_alone checked tail.node one) high low
  component_down d n one high low some within small alone = by (can_be_alone checked tail.node one) refl (cases_lt d n)
    where
      by : (all : Bool) → can_be_alone checked tail.node one ≡ all → (d < n) ⊎ (n ≤ d)
          → node_measure checked tail.element d + 12 ≤ measure_of checked tail.node n (can_be_alone checked tail.node one) high low
      by false all few = omega (arith, with_fewer checked tail.node n high low (can_be_alone checked tail.node one) all, fewer d (n + 1) (omega arith))
      by true all (inl less) =
          omega (
            arith,
            with_all checked tail.node n high low (can_be_alone checked tail.node one) all,
            fewer d n less,
            level_up checked n n 0 (rank_at checked tail.node) (omega arith) (omega arith),
          )
      by true all (inr more) =
          let same : d ≡ n = omega arith in
          let own = second_of one (option_map_or (λ own. admits own 1) (card_at checked.rules tail.node) false) all (alone same) in
          let c : IsContained checked tail.element = contained counts is tail stands in
          let less : rank_at checked tail.element < rank_at checked tail.node =
          container_falls checked is.passed c.kind tail.node tail.element d c.is c.child (omega (arith, within, small)) some own in
          omega (arith, with_all checked tail.node n high low (can_be_alone checked tail.node one) all, lower n less, ap (node_measure checked tail.element) same)

  -- to the others with fewer atoms
  others_down : (m n : ℕ) (now : Bool) (high low : ℕ) (later : Bool) → m < n → 10 ≤ high
      → measure_of checked tail.node m (can_be_alone checked tail.node later) 12 6 + 2 < measure_of checked tail.node n (can_be_alone checked tail.node now) high low
  others_down m n now high low later less enough = by (can_be_alone checked tail.node now) (can_be_alone checked tail.node later) refl refl
    where
      by : (b c : Bool) → can_be_alone checked tail.node now ≡ b → can_be_alone checked tail.node later ≡ c
          → measure_of checked tail.node m (can_be_alone checked tail.node later) 12 6 + 2 < measure_of checked tail.node n (can_be_alone checked tail.node now) high low
      by true true all more =
          omega (
            arith,
            with_all checked tail.node n high low (can_be_alone checked tail.node now) all,
            with_all checked tail.node m 12 6 (can_be_alone checked tail.node later) more,
            level_size checked m n (rank_at checked tail.node) less rank_in,
            level_up checked n n 0 (rank_at checked tail.node) (omega arith) (omega arith),
            span_is checked,
          )
      by true false all few =
          omega (
            arith,
            with_all checked tail.node n high low (can_be_alone checked tail.node now) all,
            with_fewer checked tail.node m 12 6 (can_be_alone checked tail.node later) few,
            level_up checked (m + 1) n 0 (rank_at checked tail.node) (omega arith) (omega arith),
          )
      by false true all more =
          omega (
            arith,
            with_fewer checked tail.node n high low (can_be_alone checked tail.node now) all,
            with_all checked tail.node m 12 6 (can_be_alone checked tail.node later) more,
            level_size checked m (n + 1) (rank_at checked tail.node) (omega arith) rank_in,
            span_is checked,
          )
      by false false all few =
          omega (
            arith,
            with_fewer checked tail.node n high low (can_be_alone checked tail.node now) all,
            with_fewer checked tail.node m 12 6 (can_be_alone checked tail.node later) few,
            level_size checked (m + 1) (n + 1) 0 (omega arith) (omega arith),
            span_is checked,
          )

  -- from a level to a first component of it
  pub level_node_down : (d n : ℕ) → 0 < number_of_node checked tail.element d → d ≤ n → n ≤ 1000 → (d ≡ n → admits tail.card 0 ≡ true)
      → node_measure checked tail.element d < level_measure checked tail n
  level_node_down d n some within small alone = omega (arith, component_down d n (admits tail.card 0) 10 4 some within small alone)

  -- and to the others behind it
  pub level_others_down : (m n : ℕ) → m < n → sorted_measure checked tail m + 2 < level_measure checked tail n
  level_others_down m n less = others_down m n (admits tail.card 0) 10 4 (admits tail.card 1) less (omega arith)

  -- from sorted lists to a component of the size of the one in front
  pub sorted_node_down : (d n : ℕ) → admits_some tail.card ≡ true → 0 < number_of_node checked tail.element d → d ≤ n → n ≤ 1000
      → (d ≡ n → admits (after_one tail.card) 0 ≡ true) → node_measure checked tail.element d + 10 < sorted_measure checked tail n
  sorted_node_down d n admitted some within small alone =
      omega (arith, component_down d n (admits tail.card 1) 12 6 some within small (λ same. sym (one_alone tail.card admitted) ∙ alone same))

  -- to the others behind it
  pub sorted_others_down : (m n : ℕ) → m < n → sorted_measure checked (behind_one tail) m + 2 < sorted_measure checked tail n
  sorted_others_down m n less = others_down m n (admits tail.card 1) 12 6 (admits (after_one tail.card) 1) less (omega arith)

  -- and to the greater ones
  pub sorted_level_down : (n : ℕ) → admits_some tail.card ≡ true → level_measure checked (behind_one tail) n + 2 ≤ sorted_measure checked tail n
  sorted_level_down n admitted = by (can_be_alone checked tail.node (admits tail.card 1)) refl
    where
      same : can_be_alone checked tail.node (admits (after_one tail.card) 0) ≡ can_be_alone checked tail.node (admits tail.card 1)
      same = ap (can_be_alone checked tail.node) (one_alone tail.card admitted)

      by : (all : Bool) → can_be_alone checked tail.node (admits tail.card 1) ≡ all → level_measure checked (behind_one tail) n + 2 ≤ sorted_measure checked tail n
      by true all =
          omega (
            arith,
            with_all checked tail.node n 12 6 (can_be_alone checked tail.node (admits tail.card 1)) all,
            with_all checked tail.node n 10 4 (can_be_alone checked tail.node (admits (after_one tail.card) 0)) (same ∙ all),
          )
      by false few =
          omega (
            arith,
            with_fewer checked tail.node n 12 6 (can_be_alone checked tail.node (admits tail.card 1)) few,
            with_fewer checked tail.node n 10 4 (can_be_alone checked tail.node (admits (after_one tail.card) 0)) (same ∙ few),
          )

  -- from a node to its sorted lists
  pub whole_down : (n : ℕ) → card_at checked.rules tail.node ≡ Some tail.card → sorted_measure checked tail n ≡ level checked n (rank_at checked tail.node) + 12
  whole_down n own = with_all checked tail.node n 12 6 (can_be_alone checked tail.node (admits tail.card 1)) all
    where
      all : can_be_alone checked tail.node (admits tail.card 1) ≡ true
      all = ap (λ (found : Option Card). not (admits tail.card 1) || option_map_or (λ c. admits c 1) found false) own ∙ either (admits tail.card 1)
