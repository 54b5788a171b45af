-- The numbers of unlabelled PowerSets by those with fewer components.
use Rattle.std.proofs.Common.{◌≡◌, ℕ, zero, suc, ◌+◌, ◌-◌, ◌*◌, ◌/◌, ◌<◌, ◌≤◌, min, Bool, List, map, length, Some, slice_get, refl, sym, ap, ◌∙◌, inl, inr, arith}
use Rattle.std.specs.Prelude.{nat_le, if◌then◌else◌}
use Rattle.std.specs.List.{sum, range_with_len}
use Rattle.std.proofs.Math.Nat.{mul-zero}
use Rattle.std.proofs.lemmas.Bool.{cases_lt}
use Rattle.std.proofs.lemmas.Nat.{le-div}
use Rattle.lists.specs.Enumeration.{IsIn}
use Rattle.lists.proofs.RangeSums.{in_range, sum_same}
use Rattle.spec_syntax.specs.declared.expr.Card.{Card}
use Rattle.spec_syntax.specs.declared.expr.Kind.TheVariants as kinds
use Rattle.spec_syntax.specs.declared.statement.Universe.TheVariants.{Unlabelled}
use Rattle.spec_syntax.specs.Expression.{Expression, Many}
use Rattle.spec_syntax.specs.Rules.{all_nodes}
use Rattle.spec_syntax.specs.Nodes.{node_at, children_at, arguments_at}
use Rattle.spec_syntax.proofs.NodesLemmas.{in_nodes}
use Rattle.graphs.specs.Graph.{IsMarked}
use Rattle.struct_model.specs.Bounded.{number}
use Rattle.well_founded.specs.Checked.{Checked, grammar}
use Rattle.count_laws.specs.SetNumbers.{with_less, number_avoiding}
use Rattle.count_laws.proofs.Enlarged.{less_none, less_some}
use Rattle.listing_laws.specs.ContainersRecur.{of_components}
use Rattle.size_counts.specs.Tables.{Layer}
use Rattle.size_counts.specs.Numbers.{most_components}
use Rattle.size_counts.specs.Repeats.{count_at, by_sizes, fewer, subsets_met}
use Rattle.size_counts.specs.Told.{AreTold}
use Rattle.size_counts.proofs.Law.{counted, containers}
use Rattle.size_counts.proofs.ListLemmas.{most_le}
use Rattle.size_counts.proofs.MultisetLemmas.{none_behind, element_is, fewer_is}

-- ---- sets that avoid an element

-- with so few components or atoms none has the element
pub avoiding_first : (number : ℕ → ℕ → ℕ) (steps d c m : ℕ) → 1 ≤ d → steps ≡ min c (m / d) → number (c - steps) (m - steps * d) ≡ number_avoiding number d (c - steps) (m - steps * d)
avoiding_first number steps d c m low all = by (c - steps) (m - steps * d) small
  where
    small : (i : ℕ) → c - steps ≡ suc i → m - steps * d < d
    small i more = elim (cases_lt m ((steps + 1) * d)) [
      | inl large ↦ omega (arith, large, next steps d, low)
      | inr fits ↦ absurd (omega (arith, le-div (steps + 1) m d low fits, all, more))
    ]
      where
        next : (k d : ℕ) → (k + 1) * d ≡ k * d + d
        next k d = omega arith

    by : (i n : ℕ) → ((j : ℕ) → i ≡ suc j → n < d) → number i n ≡ number_avoiding number d i n
    by zero n below = refl
    by (suc i) n below = untouched (number (suc i) n) (with_less d (number_avoiding number d i) n) (less_none d (number_avoiding number d i) n (below i refl))
      where
        untouched : (a b : ℕ) → b ≡ 0 → a ≡ a - b
        untouched a b none = omega arith

-- with one more
pub avoiding_more : (number : ℕ → ℕ → ℕ) (left d c m one before : ℕ) → left + 1 ≤ c → (left + 1) * d ≤ m → one ≡ number (c - left) (m - left * d) → before ≡ number_avoiding number d (c - (left + 1)) (m - (left + 1) * d)
    → one - before ≡ number_avoiding number d (c - left) (m - left * d)
avoiding_more number left d c m one before few fits is so_far =
    (λ i. is i - so_far i)
    ∙ (λ i. number (components i) (m - left * d) - number_avoiding number d (c - (left + 1)) (atoms i))
    ∙ (λ i. number (suc (c - (left + 1))) (m - left * d) - sym (less_some d (number_avoiding number d (c - (left + 1))) (m - left * d) room) i)
    ∙ (λ i. number_avoiding number d (sym components i) (m - left * d))
  where
    next : (k d : ℕ) → (k + 1) * d ≡ k * d + d
    next k d = omega arith

    components : c - left ≡ suc (c - (left + 1))
    components = omega arith

    atoms : m - (left + 1) * d ≡ m - left * d - d
    atoms = omega (arith, next left d)

    room : d ≤ m - left * d
    room = omega (arith, next left d, fits)

avoiding_same : (number also : ℕ → ℕ → ℕ) (d c m : ℕ) → ((i k : ℕ) → i ≤ c → k ≤ m → number i k ≡ also i k) → number_avoiding number d c m ≡ number_avoiding also d c m
avoiding_same number also d zero m same = same zero m (omega arith) (omega arith)
avoiding_same number also d (suc c) m same =
    λ i. same (suc c) m (omega arith) (omega arith) i
    - (if nat_le d m then avoiding_same number also d c (m - d) (λ j k few below. same j k (omega (arith, few)) (omega (arith, below))) i else 0)

-- of no sets none is left
avoiding_none : (number : ℕ → ℕ → ℕ) (d c m : ℕ) → number c m ≡ 0 → number_avoiding number d c m ≡ 0
avoiding_none number d zero m none = none
avoiding_none number d (suc c) m none = nothing (number (suc c) m) (with_less d (number_avoiding number d c) m) none
  where
    nothing : (a b : ℕ) → a ≡ 0 → a - b ≡ 0
    nothing a b is = omega arith

-- ---- what the layers have

module _ (checked : Checked) (marks : List Bool) (layers : List Layer) (told : AreTold checked marks layers) (node : ℕ) (e : Expression) (card : Card) (m : ℕ)
    (filled : length layers ≡ m) (marked : IsMarked marks node) (at : node_at checked.rules node ≡ Some (Many kinds.PowerSet e card)) where
  -- each set is met with each of its elements
  pub power_sets_met : (child c : ℕ) → slice_get (children_at checked.rules node) 0 ≡ Some child → node_at checked.rules child ≡ slice_get (arguments_at checked.rules node) 0 → checked.universe ≡ Unlabelled → 2 ≤ c
      → c ≤ most_components card m → c * of_components (grammar checked) kinds.PowerSet e c m ≡ subsets_met layers (by_sizes layers node) child c m
  power_sets_met child c child_is child_at unlabelled two looked =
      (λ i. one_less i * of_components (grammar checked) kinds.PowerSet e (one_less i) m)
      ∙ containers.power_sets (grammar checked) e card (c - 1) m told.is_checked.spec told.is_checked.well_founded unlabelled inside
      ∙ ap (λ (k : ℕ). sum (map term (range_with_len 1 k))) split ∙ sym (none_behind term (m + 1 - c) (c - 1) (λ d behind within. none (number (grammar checked) e d) d behind within))
      ∙ sum_same term (λ d. count_at layers child d * number_avoiding (fewer (by_sizes layers node)) d (c - 1) (m - d)) (range_with_len 1 (m + 1 - c)) (λ d there. each d (in_range d 1 (m + 1 - c) there))
    where
      inside : IsIn (Many kinds.PowerSet e card) (all_nodes checked.rules)
      inside = in_nodes checked.rules node _ at

      sets : ℕ → ℕ → ℕ
      sets = of_components (grammar checked) kinds.PowerSet e

      term : ℕ → ℕ
      term d = number (grammar checked) e d * number_avoiding sets d (c - 1) (m - d)

      one_less : c ≡ suc (c - 1)
      one_less = omega (arith, two)

      split : m ≡ m + 1 - c + (c - 1)
      split = omega (arith, two, looked, most_le card m)

      none : (a d : ℕ) → m + 1 - c < d → d ≤ m + 1 - c + (c - 1) → a * number_avoiding sets d (c - 1) (m - d) ≡ 0
      none a d behind within =
          ap (λ (k : ℕ). a * k)
          (avoiding_none sets d (c - 1) (m - d)
          (counted.few (grammar checked) kinds.PowerSet e card (c - 1) (m - d) told.is_checked.spec told.is_checked.well_founded inside (omega (arith, two, behind, within)))) ∙ mul-zero a

      each : (d : ℕ) → (1 ≤ d) × (d < 1 + (m + 1 - c)) → term d ≡ count_at layers child d * number_avoiding (fewer (by_sizes layers node)) d (c - 1) (m - d)
      each d inside_it =
          (λ i. sym (element_is checked marks layers told node kinds.PowerSet e card m filled marked at child d child_is child_at (omega (arith, inside_it.1, two, looked, most_le card m))) i
          * sym (avoiding_same (fewer (by_sizes layers node)) sets d (c - 1) (m - d)
          (λ j k fewer_components below. fewer_is checked marks layers told node kinds.PowerSet e card m filled marked at j k refl (λ i n. refl)
          (containers.no_power_sets (grammar checked) e card k told.is_checked.spec told.is_checked.well_founded inside) (omega (arith, fewer_components, looked))
          (omega (arith, below, inside_it.0, two, looked, most_le card m)))) i)
