-- On the way down numbers of atoms don't grow, and where they stay ranks fall.
use Rattle.std.proofs.Common.{◌≡◌, ◌⊎◌, ℕ, zero, suc, ◌+◌, ◌-◌, ◌*◌, ◌≤◌, ◌<◌, ◌||◌, Bool, true, false, not, [], map, length, slice_get, Some, refl, sym, ap, ◌∙◌, subst, inl, inr, arith}
use Rattle.std.specs.List.{sum, range_with_len}
use Rattle.std.proofs.lemmas.Bool.{cases_lt}
use Rattle.std.proofs.lemmas.Bool.Decides.{nat_tests}
use Rattle.lists.proofs.Sums.{sum_more}
use Rattle.spec_syntax.specs.declared.expr.Card.{Card}
use Rattle.spec_syntax.specs.declared.expr.Kind.{Kind}
use Rattle.spec_syntax.specs.declared.expr.Kind.TheVariants as kinds
use Rattle.spec_syntax.specs.Card.{admits}
use Rattle.spec_syntax.specs.Rules.{all_nodes}
use Rattle.spec_syntax.specs.Nodes.{children_at}
use Rattle.struct_model.specs.Bounded.{number}
use Rattle.well_founded.specs.declared.node.NodeKind.TheVariants as told
use Rattle.well_founded.specs.NodeKinds.{container}
use Rattle.well_founded.specs.Checked.{Checked, grammar}
use Rattle.listing_laws.specs.Numbers.{exactly, ways}
use Rattle.listing_laws.specs.NodeListing.{HasKind, number_from, rank_at}
use Rattle.listing_laws.proofs.NodeRanks.{rank_within}
use Rattle.listing_laws.specs.ContainersRecur.{of_components}
use Rattle.listing_laws.proofs.NodeLemmas.{ContainerNode, container_node}
use Rattle.listing_laws.proofs.Numbers.{numbers_recur}
use Rattle.listing_laws.proofs.ContainersRecur.{containers_recur}
use Rattle.size_counts.specs.CountedView.{Counts, IsCounted, IsReachedIn, number_of, sets_of}
use Rattle.struct_walk.specs.declared.tail.Tail.{Tail}
use Rattle.struct_walk.specs.declared.tail.Tail.TheVariants as tail
use Rattle.struct_walk.proofs.ReachedNodes.{reached_within, reached_child}
use Rattle.struct_walk.proofs.TailLemmas.{counted_number}
use Rattle.struct_walk.proofs.Measures.{node_measure, lists_measure, split_measure, union_measure, can_have_all, components_down, elements_down, lists_all, lists_fewer, level_up, level_size, span_is}
use Rattle.draw_steps.specs.declared.missing.Lists.{Lists}
use Rattle.draw_steps.specs.declared.missing.Lists.TheVariants.{Components, Elements, Members}
use Rattle.draw_steps.specs.Asked.{IsOver, AreRepeated, AreMissing}
use Rattle.draw_steps.specs.Choices.{first_of, lists_number, times_met, length_weight, admits_at}
use Rattle.draw_steps.proofs.LengthSums.{component_at, suffix_is, weights_sum, element_is, sets_is, there}
use Rattle.draw_steps.proofs.LengthLemmas.{fewer}

-- the lists as the walk over structures knows them
abbrev pub tail_of : Counts → Lists → ℕ → Tail
tail_of counts (Components node) missing = tail.Components node (length (children_at counts.checked.rules node) - missing)
tail_of counts (Elements node element) missing = tail.Elements node element (exactly missing)
tail_of counts (Members node element) missing = tail.Elements node element (exactly missing)

-- what a pair of a first component and the others needs is below what the list needs
abbrev pub Falls : Counts → ℕ → Tail → Tail → ℕ → ℕ → ℕ → Type 0
Falls counts first behind whole d m n =
    (node_measure counts.checked first d < lists_measure counts.checked whole n) × (lists_measure counts.checked behind m < lists_measure counts.checked whole n)

falls_split : (counts : Counts) (first : ℕ) (behind whole : Tail) (d m n : ℕ) → split_measure counts.checked (record { first = first; behind = behind }) d m < lists_measure counts.checked whole n
    → Falls counts first behind whole d m n
falls_split counts first behind whole d m n less = (omega (arith, less), omega (arith, less))

admits_one : (missing : ℕ) → missing - 1 ≡ 0 → 1 ≤ missing → admits (exactly missing) 1 ≡ true
admits_one missing none some = ap (λ (n : ℕ). admits (exactly n) 1) (let e : missing ≡ 1 = omega arith in e)

module _ (counts : Counts) (is : IsCounted counts) where
  element_none : (k : Kind) (node element : ℕ) → HasKind counts.checked node (container k) → slice_get (children_at counts.checked.rules node) 0 ≡ Some element → number_of counts element 0 ≡ 0
  element_none k node element h child =
      let c : ContainerNode counts.checked k node element = container_node counts.checked k node element h child in
      element_is counts is k node element h child 0
      ∙ numbers_recur.element (grammar counts.checked) k c.e c.card is.passed.spec is.passed.well_founded (there counts is k node element h child)

  -- without atoms there is no component
  no_atoms : (lists : Lists) (missing : ℕ) → AreMissing counts lists missing → 1 ≤ missing → number_of counts (first_of counts lists missing) 0 ≡ 0 → lists_number counts lists missing 0 ≡ 0
  no_atoms lists missing h some none = by lists (lists_number counts lists missing 0) (sym (weights_sum counts is lists missing 0 h some) ∙ nothing)
    where
      nothing : sum (map (length_weight counts lists missing 0) (range_with_len 0 (0 + 1))) ≡ 0
      nothing =
          omega (
            arith,
            sum_more (length_weight counts lists missing 0 0) [],
            ap (λ (f : ℕ). ways counts.checked.universe 0 0 * (f * lists_number counts lists (missing - 1) (0 - 0))) none,
            times_none (ways counts.checked.universe 0 0) (lists_number counts lists (missing - 1) (0 - 0)),
          )
        where
          times_none : (w o : ℕ) → w * (0 * o) ≡ 0
          times_none w o = grind arith

      by : (l : Lists) (n : ℕ) → times_met l missing * n ≡ 0 → n ≡ 0
      by (Components node) n h = omega (arith, h)
      by (Elements node element) n h = omega (arith, h)
      by (Members node element) n h = factor missing n some h
        where
          factor : (a b : ℕ) → 1 ≤ a → a * b ≡ 0 → b ≡ 0
          factor a zero s e = refl
          factor zero (suc b) s e = absurd (omega arith)
          factor (suc a) (suc b) s e = absurd (omega (arith, e, more a b))
            where
              more : (x y : ℕ) → 0 < suc x * suc y
              more x y = grind arith

  -- behind the only component there are no atoms
  last_one : (lists : Lists) (missing m : ℕ) (e : AreMissing counts lists missing) → 1 ≤ missing → number_of counts (first_of counts lists (missing - 1)) 0 ≡ 0
      → 0 < lists_number counts lists (missing - 1) m → m ≡ 0 → missing - 1 ≡ 0
  last_one lists missing m e some none behind empty = by (cases_lt 0 (missing - 1))
    where
      by : (0 < missing - 1) ⊎ (missing - 1 ≤ 0) → missing - 1 ≡ 0
      by (inl more) =
          absurd (omega (
            arith,
            subst (λ (k : ℕ). 0 < lists_number counts lists (missing - 1) k) empty behind,
            no_atoms lists (missing - 1) (fewer counts lists missing e) (omega arith) none,
          ))
      by (inr done) = omega arith

  over_falls : (k : Kind) (node element missing d m n : ℕ) → HasKind counts.checked node (container k) → IsOver counts node element missing → d + m ≡ n → n ≤ 1000
      → 0 < number_of counts element d → 1 ≤ missing → (m ≡ 0 → missing - 1 ≡ 0)
      → Falls counts element (tail.Elements node element (exactly (missing - 1))) (tail.Elements node element (exactly missing)) d m n
  over_falls k node element missing d m n h o total small first some last =
      falls_split counts element (tail.Elements node element (exactly (missing - 1))) (tail.Elements node element (exactly missing)) d m n
      (elements_down counts.checked is.passed k node element (exactly missing) d m n h o.child (reached_within counts is element (reached_child counts is node 0 element o.reached o.child))
      (reached_within counts is node o.reached) total small (subst (λ (c : ℕ). 0 < c) (counted_number counts element d) first) (λ more none. admits_one missing (last none) some))

  pub list_falls : (lists : Lists) (missing d m n : ℕ) → AreMissing counts lists missing → 1 ≤ missing → d + m ≡ n → n ≤ 1000
      → 0 < number_of counts (first_of counts lists missing) d → 0 < lists_number counts lists (missing - 1) m
      → Falls counts (first_of counts lists missing) (tail_of counts lists (missing - 1)) (tail_of counts lists missing) d m n
  list_falls (Components node) missing d m n e some total small first behind =
      subst (λ (place : ℕ). Falls counts (first_of counts (Components node) missing) (tail.Components node place) (tail_of counts (Components node) missing) d m n)
      (next (length (children_at counts.checked.rules node)) missing some e.few)
      (falls_split counts (first_of counts (Components node) missing) (tail.Components node (length (children_at counts.checked.rules node) - missing + 1)) (tail_of counts (Components node) missing) d m n
      (components_down counts.checked is.passed node (length (children_at counts.checked.rules node) - missing) (first_of counts (Components node) missing) d m n e.prod (component_at counts is node missing e some)
      (reached_within counts is (first_of counts (Components node) missing) (reached_child counts is node _ (first_of counts (Components node) missing) e.reached (component_at counts is node missing e some)))
      total small (subst (λ (c : ℕ). 0 < c) (counted_number counts (first_of counts (Components node) missing) d) first)
      (subst (λ (c : ℕ). 0 < c)
      (suffix_is counts is node (missing - 1) m (record { reached = e.reached; prod = e.prod; few = omega (arith, e.few) })
      ∙ ap (λ (place : ℕ). number_from counts.checked node place m) (sym (next (length (children_at counts.checked.rules node)) missing some e.few))) behind)))
    where
      next : (n c : ℕ) → 1 ≤ c → c ≤ n → n - c + 1 ≡ n - (c - 1)
      next n c low high = omega arith
  list_falls (Elements node element) missing d m n e some total small first behind = by e.kind
    where
      by : HasKind counts.checked node told.Sequence ⊎ HasKind counts.checked node told.Cycle
          → Falls counts element (tail.Elements node element (exactly (missing - 1))) (tail.Elements node element (exactly missing)) d m n
      by (inl h) = over_falls kinds.Sequence node element missing d m n h e.over total small first some (last_one (Elements node element) missing m e some (element_none kinds.Sequence node element h e.over.child) behind)
      by (inr h) = over_falls kinds.Cycle node element missing d m n h e.over total small first some (last_one (Elements node element) missing m e some (element_none kinds.Cycle node element h e.over.child) behind)
  list_falls (Members node element) missing d m n e some total small first behind = by e.kind
    where
      by : HasKind counts.checked node told.Set ⊎ HasKind counts.checked node told.PowerSet
          → Falls counts element (tail.Elements node element (exactly (missing - 1))) (tail.Elements node element (exactly missing)) d m n
      by (inl h) = over_falls kinds.Set node element missing d m n h e.over total small first some (last_one (Members node element) missing m e some (element_none kinds.Set node element h e.over.child) behind)
      by (inr h) = over_falls kinds.PowerSet node element missing d m n h e.over total small first some (last_one (Members node element) missing m e some (element_none kinds.PowerSet node element h e.over.child) behind)

-- ---- copies

-- lists of fewer atoms
module _ (counts : Counts) (is : IsCounted counts) (node element : ℕ) (reached : IsReachedIn counts node) where
  abbrev checked : Checked
  checked = counts.checked

  abbrev of_card : Card → Tail
  of_card card = tail.Elements node element card

  rank_in : rank_at checked node ≤ length (all_nodes checked.rules)
  rank_in = omega (arith, rank_within checked is.passed node (reached_within counts is node reached))

  pub fewer_atoms : (card own : Card) (m n : ℕ) → m < n → lists_measure counts.checked (tail.Elements node element card) m < lists_measure counts.checked (tail.Elements node element own) n
  fewer_atoms card own m n less = by (can_have_all checked (of_card card)) (can_have_all checked (of_card own)) refl refl
    where
      by : (b c : Bool) → can_have_all checked (of_card card) ≡ b → can_have_all checked (of_card own) ≡ c → lists_measure checked (of_card card) m < lists_measure checked (of_card own) n
      by true true p q =
          omega (arith, lists_all checked (of_card card) m p, lists_all checked (of_card own) n q, level_size checked m n (rank_at checked node) less rank_in, level_up checked n n 0 (rank_at checked node) (omega arith) (omega arith), span_is checked)
      by true false p q =
          omega (arith, lists_all checked (of_card card) m p, lists_fewer checked (of_card own) n q, level_size checked m (n + 1) (rank_at checked node) (omega (arith, less)) rank_in, span_is checked)
      by false true p q =
          omega (arith, lists_fewer checked (of_card card) m p, lists_all checked (of_card own) n q, level_up checked (m + 1) n 0 (rank_at checked node) (omega (arith, less)) (omega arith))
      by false false p q =
          omega (arith, lists_fewer checked (of_card card) m p, lists_fewer checked (of_card own) n q, level_size checked (m + 1) (n + 1) 0 (omega (arith, less)) (omega arith), span_is checked)

  -- from a container to its components
  pub members_fall : (count n : ℕ) → admits_at counts node count ≡ true → lists_measure counts.checked (tail.Elements node element (exactly count)) n < union_measure counts.checked node n + 5
  members_fall count n admitted = omega (arith, lists_all checked (of_card (exactly count)) n all)
    where
      only : (c : ℕ) → admits (exactly c) 1 ≡ true → c ≡ 1
      only c h = grind (arith, nat_tests)

      by : (b : Bool) → admits (exactly count) 1 ≡ b → (not b || admits_at counts node 1) ≡ true
      by true h = subst (λ (k : ℕ). admits_at counts node k ≡ true) (only count h) admitted
      by false h = refl

      all : can_have_all checked (of_card (exactly count)) ≡ true
      all = by (admits (exactly count) 1) refl

-- without atoms there are no Sets of components
no_sets : (counts : Counts) (is : IsCounted counts) (node element missing : ℕ) → AreRepeated counts node element missing → (c : ℕ) → 1 ≤ c → sets_of counts node c 0 ≡ 0
no_sets counts is node element missing e c some =
    let n : ContainerNode counts.checked kinds.Set node element = container_node counts.checked kinds.Set node element e.kind e.over.child in
    sets_is counts is kinds.Set node element e.kind e.over.child c 0
    ∙ factor c (of_components (grammar counts.checked) kinds.Set n.e c 0) some
    (containers_recur.sets (grammar counts.checked) n.e n.card c 0 is.passed.spec is.passed.well_founded e.unlabelled (there counts is kinds.Set node element e.kind e.over.child))
  where
    factor : (a b : ℕ) → 1 ≤ a → a * b ≡ 0 → b ≡ 0
    factor a zero s e = refl
    factor zero (suc b) s e = absurd (omega arith)
    factor (suc a) (suc b) s e = absurd (omega (arith, e, more a b))
      where
        more : (x y : ℕ) → 0 < suc x * suc y
        more x y = grind arith

pub copies_fall : (counts : Counts) (is : IsCounted counts) (node element missing size number m : ℕ) → AreRepeated counts node element missing → 1 ≤ missing → 1 ≤ number → number ≤ missing → 1 ≤ size
    → number * size ≤ m → m ≤ 1000 → 0 < number_of counts element size → 0 < sets_of counts node (missing - number) (m - number * size)
    → (node_measure counts.checked element size < lists_measure counts.checked (tail.Elements node element (exactly missing)) m)
    × (lists_measure counts.checked (tail.Elements node element (exactly (missing - number))) (m - number * size) < lists_measure counts.checked (tail.Elements node element (exactly missing)) m)
copies_fall counts is node element missing size number m e some low high least atoms small first others = (
  (over_falls counts is kinds.Set node element missing size (m - size) m e.kind e.over (omega (arith, atoms, at_least number size low)) small first some last).0,
  fewer_atoms counts is node element e.over.reached (exactly (missing - number)) (exactly missing) (m - number * size) m (omega (arith, atoms, at_least number size low, least)),
)
  where
    at_least : (n s : ℕ) → 1 ≤ n → s ≤ n * s
    at_least zero s h = absurd (omega arith)
    at_least (suc n) s h = grind arith

    one_copy : (n s k : ℕ) → 1 ≤ n → 1 ≤ s → n * s ≤ k → k - s ≡ 0 → n ≡ 1
    one_copy zero s k a b c d = absurd (omega arith)
    one_copy (suc zero) s k a b c d = refl
    one_copy (suc (suc n)) s k a b c d = absurd (omega (arith, c, d, b, twice n s))
      where
        twice : (x y : ℕ) → y + y ≤ suc (suc x) * y
        twice x y = grind arith

    last : m - size ≡ 0 → missing - 1 ≡ 0
    last none =
        let one : number ≡ 1 = one_copy number size m low least atoms none in
        by one (cases_lt 0 (missing - 1))
      where
        by : number ≡ 1 → (0 < missing - 1) ⊎ (missing - 1 ≤ 0) → missing - 1 ≡ 0
        by one (inl more) =
            let empty : m - number * size ≡ 0 = omega (arith, none, ap (λ (k : ℕ). k * size) one) in
            absurd (omega (
              arith,
              subst (λ (k : ℕ). 0 < sets_of counts node (missing - number) k) empty others,
              ap (λ (k : ℕ). sets_of counts node (missing - k) 0) one,
              no_sets counts is node element missing e (missing - 1) (omega arith),
            ))
        by one (inr done) = omega arith

-- from a Prod to all its components
pub prod_falls : (counts : Counts) (node missing n : ℕ) → missing ≡ length (children_at counts.checked.rules node)
    → lists_measure counts.checked (tail_of counts (Components node) missing) n < lists_measure counts.checked (tail.Components node 0) n + 1
prod_falls counts node missing n all =
    omega (arith, ap (λ (place : ℕ). lists_measure counts.checked (tail.Components node place) n) (let e : length (children_at counts.checked.rules node) - missing ≡ 0 = omega (arith, all) in e))
