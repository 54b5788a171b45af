-- The numbers of unlabelled Sets by those with fewer components.
use Rattle.std.proofs.Common.{◌≡◌, ℕ, zero, suc, ◌+◌, ◌-◌, ◌*◌, ◌/◌, ◌<◌, ◌≤◌, ◌^◌, min, Bool, List, [], ◌∷◌, ◌++◌, map, length, Option, Some, slice_get, unwrap_or, refl, sym, ap, ◌∙◌, subst, inl, inr, arith}
use Rattle.std.specs.List.{sum, range_with_len}
use Rattle.std.proofs.Math.Nat.{mul-le-mul_right, mul-zero}
use Rattle.std.proofs.lemmas.Bool.{cases_lt}
use Rattle.std.proofs.lemmas.Nat.{le-div, div-add-mod', div-mul-add, mul-le}
use Rattle.std.proofs.lemmas.List.FromFn.{sum_by-map-range_with_len_more, map-range_with_len_more, length-map-range_with_len}
use Rattle.std.proofs.lemmas.Option.{slice_get_past}
use Rattle.lists.specs.Enumeration.{IsIn}
use Rattle.lists.proofs.Positions.{slice_some}
use Rattle.lists.proofs.Sums.{sum_more}
use Rattle.lists.proofs.RangeSums.{in_range, sum_same}
use Rattle.spec_syntax.specs.declared.expr.Card.{Card}
use Rattle.spec_syntax.specs.declared.expr.Kind.{Kind}
use Rattle.spec_syntax.specs.declared.expr.Kind.TheVariants as kinds
use Rattle.spec_syntax.specs.declared.statement.Universe.TheVariants.{Unlabelled}
use Rattle.spec_syntax.specs.Expression.{Expression, Many}
use Rattle.spec_syntax.specs.Rules.{all_nodes}
use Rattle.spec_syntax.specs.Nodes.{node_at, card_at, children_at, arguments_at}
use Rattle.spec_syntax.proofs.NodesLemmas.{in_nodes}
use Rattle.graphs.specs.Graph.{IsMarked}
use Rattle.struct_model.specs.Bounded.{number}
use Rattle.well_founded.specs.NodeKinds.{container}
use Rattle.well_founded.specs.Checked.{Checked, grammar}
use Rattle.count_laws.specs.SetNumbers.{with_less, number_pointed}
use Rattle.count_laws.proofs.Enlarged.{less_none, less_some}
use Rattle.listing_laws.specs.Numbers.{one_at}
use Rattle.listing_laws.specs.ContainersRecur.{of_components}
use Rattle.splits.specs.Capped.{Tells}
use Rattle.size_counts.specs.Tables.{Layer, cell}
use Rattle.size_counts.specs.Numbers.{most_components}
use Rattle.size_counts.specs.Components.{rest_kind, rests_of}
use Rattle.size_counts.specs.Repeats.{count_at, by_components, by_sizes, fewer, multisets_met}
use Rattle.size_counts.specs.Told.{AreTold, TellAll}
use Rattle.size_counts.proofs.Law.{counted, containers}
use Rattle.size_counts.proofs.TableLemmas.{tell_made, made_at, none_made}
use Rattle.size_counts.proofs.ListLemmas.{most_le, card_same, element_told, rests_in_row}
use Rattle.size_counts.proofs.SuffixLemmas.{layer_room, node_within}

-- ---- sums from 1 on

pub one_more : (f : ℕ → ℕ) (n : ℕ) → sum (map f (range_with_len 1 (n + 1))) ≡ sum (map f (range_with_len 1 n)) + f (n + 1)
one_more f n = sum_by-map-range_with_len_more (λ (x : ℕ). x) f 1 n (n + 1) (omega arith)

-- numbers past the n-th that are 0
pub none_behind : (f : ℕ → ℕ) (n more : ℕ) → ((k : ℕ) → n < k → k ≤ n + more → f k ≡ 0)
    → sum (map f (range_with_len 1 n)) ≡ sum (map f (range_with_len 1 (n + more)))
none_behind f n zero none = ap (λ (k : ℕ). sum (map f (range_with_len 1 k))) (same n)
  where
    same : (n : ℕ) → n ≡ n + 0
    same n = omega arith
none_behind f n (suc more) none =
    without (sum (map f (range_with_len 1 n))) (sum (map f (range_with_len 1 (n + more)))) (f (n + more + 1))
    (none_behind f n more (λ k behind within. none k behind (omega arith))) (none (n + more + 1) (omega arith) (omega arith))
    ∙ sym (one_more f (n + more)) ∙ ap (λ (k : ℕ). sum (map f (range_with_len 1 k))) (next n more)
  where
    next : (n more : ℕ) → n + more + 1 ≡ n + suc more
    next n more = omega arith

    without : (a b c : ℕ) → a ≡ b → c ≡ 0 → a ≡ b + c
    without a b c same is = omega arith

-- ---- one element, put in last

-- from once to so many times
abbrev pub pointed_to : (ℕ → ℕ → ℕ) → ℕ → ℕ → ℕ → ℕ → ℕ
pointed_to number d c m times = sum (map (λ j. with_less (j * d) (number (c - j)) m) (range_with_len 1 times))

-- so many times it has room
pub has_room : (times d c m : ℕ) → 1 ≤ d → times < min c (m / d) → ((times + 1) * d ≤ m) × (times + 1 ≤ c)
has_room times d c m low below = (omega (arith, mul-le-mul_right d one, div-add-mod' m d), omega arith)
  where
    one : times + 1 ≤ m / d
    one = omega arith

pub pointed_more : (number : ℕ → ℕ → ℕ) (times d c m : ℕ) → (times + 1) * d ≤ m
    → pointed_to number d c m (times + 1) ≡ pointed_to number d c m times + number (c - (times + 1)) (m - (times + 1) * d)
pointed_more number times d c m room =
    one_more (λ j. with_less (j * d) (number (c - j)) m) times
    ∙ ap (λ (k : ℕ). pointed_to number d c m times + k) (less_some ((times + 1) * d) (number (c - (times + 1))) m room)

-- more times the others have fewer atoms than components
pub pointed_all : (number : ℕ → ℕ → ℕ) (times d c m : ℕ) → 1 ≤ d → times ≤ c → ((j : ℕ) → times < j → j ≤ c → m < j * d + (c - j)) → ((i k : ℕ) → i < c → k < i → number i k ≡ 0)
    → pointed_to number d c m times ≡ number_pointed number d c m
pointed_all number times d c m low most more few =
    none_behind (λ j. with_less (j * d) (number (c - j)) m) times (c - times) none
    ∙ ap (λ (k : ℕ). sum (map (λ j. with_less (j * d) (number (c - j)) m) (range_with_len 1 k))) (rest)
  where
    rest : times + (c - times) ≡ c
    rest = omega arith

    none : (j : ℕ) → times < j → j ≤ times + (c - times) → with_less (j * d) (number (c - j)) m ≡ 0
    none j behind within = elim (cases_lt m (j * d)) [
      | inl large ↦ less_none (j * d) (number (c - j)) m large
      | inr fits ↦ less_some (j * d) (number (c - j)) m fits
          ∙ few (c - j) (m - j * d) (omega (arith, behind, within, most)) (omega (arith, fits, more j behind (omega (arith, within, most))))
    ]

-- ---- the most copies of an element

-- one component more of a size takes one atom less of those that the others need
one_each : (times d : ℕ) → 2 ≤ d → times * d ≡ times * (d - 1) + times
one_each times d two = ap (λ (k : ℕ). times * k) split ∙ spread times (d - 1)
  where
    split : d ≡ d - 1 + 1
    split = omega arith

    spread : (a x : ℕ) → a * (x + 1) ≡ a * x + a
    spread a x = omega arith

pub copies_room : (times d c m : ℕ) → 2 ≤ d → times ≤ (m - c) / (d - 1) → times ≤ c → c ≤ m → times * d + (c - times) ≤ m
copies_room times d c m two le few within = omega (arith, mul-le-mul_right (d - 1) le, div-add-mod' (m - c) (d - 1), one_each times d two)

pub copies_most : (times d c m : ℕ) → 2 ≤ d → (m - c) / (d - 1) < times → times ≤ c → c ≤ m → m < times * d + (c - times)
copies_most times d c m two less few within = elim (cases_lt m (times * d + (c - times))) [
  | inl large ↦ large
  | inr fits ↦ absurd (omega (arith, less, le-div times (m - c) (d - 1) (omega arith) (omega (arith, fits, one_each times d two))))
]

-- steps of sums that are told
pub told_more : (number : ℕ → ℕ → ℕ) (times d c m one : ℕ) (before after : Option ℕ) → (times + 1) * d ≤ m → one ≡ number (c - (times + 1)) (m - (times + 1) * d)
    → one < 2 ^ 128 → ((x y : ℕ) → Tells before x → Tells (Some one) y → Tells after (x + y)) → Tells before (pointed_to number d c m times)
    → Tells after (pointed_to number d c m (times + 1))
told_more number times d c m one before after room is small plus told =
    subst (λ (k : ℕ). Tells after k) (ap (λ (k : ℕ). pointed_to number d c m times + k) is ∙ sym (pointed_more number times d c m room)) (plus _ _ told (refl, small))

-- the same, for each of so many elements
pub each_more : (n elements : ℕ) (number : ℕ → ℕ → ℕ) (times d c m one : ℕ) → (times + 1) * d ≤ m → one ≡ number (c - (times + 1)) (m - (times + 1) * d)
    → n + elements * pointed_to number d c m times + elements * one ≡ n + elements * pointed_to number d c m (times + 1)
each_more n elements number times d c m one room is =
    spread n elements (pointed_to number d c m times) one
    ∙ ap (λ (k : ℕ). n + elements * k) (ap (λ (k : ℕ). pointed_to number d c m times + k) is ∙ sym (pointed_more number times d c m room))
  where
    spread : (n a x y : ℕ) → n + a * x + a * y ≡ n + a * (x + y)
    spread n a x y = omega arith

-- ---- steps of the loops over the sizes of one element

abbrev pub sized : (ℕ → ℕ) → (ℕ → ℕ) → ℕ → ℕ
sized counts others d = counts d * others d

pub sized_more : (counts others : ℕ → ℕ) (d : ℕ) → 1 ≤ d
    → sum (map (sized counts others) (range_with_len 1 (d + 1 - 1))) ≡ sum (map (sized counts others) (range_with_len 1 (d - 1))) + counts d * others d
sized_more counts others zero low = absurd (omega arith)
sized_more counts others (suc d) low =
    ap (λ (k : ℕ). sum (map (sized counts others) (range_with_len 1 k))) (next d) ∙ one_more (sized counts others) (suc d - 1) ∙ ap (λ (k : ℕ). sum (map (sized counts others) (range_with_len 1 (suc d - 1))) + sized counts others k) (same d)
  where
    next : (d : ℕ) → suc d + 1 - 1 ≡ suc d - 1 + 1
    next d = omega arith

    same : (d : ℕ) → suc d - 1 + 1 ≡ suc d
    same d = omega arith

-- a size that no element has
pub sized_pass : (counts others : ℕ → ℕ) (d : ℕ) → 1 ≤ d → counts d ≡ 0
    → sum (map (sized counts others) (range_with_len 1 (d - 1))) ≡ sum (map (sized counts others) (range_with_len 1 (d + 1 - 1)))
sized_pass counts others d low none =
    without (sum (map (sized counts others) (range_with_len 1 (d - 1)))) (others d) (counts d) none ∙ sym (sized_more counts others d low)
  where
    without : (a b c : ℕ) → c ≡ 0 → a ≡ a + c * b
    without a b c is = nothing a b ∙ ap (λ (k : ℕ). a + k * b) (sym is)
      where
        nothing : (a b : ℕ) → a ≡ a + 0 * b
        nothing a b = omega arith

pub sized_told : (counts others : ℕ → ℕ) (d elements : ℕ) (before one product after : Option ℕ) → 1 ≤ d → elements ≡ counts d → elements < 2 ^ 128 → Tells one (others d)
    → ((x y : ℕ) → Tells (Some elements) x → Tells one y → Tells product (x * y)) → ((x y : ℕ) → Tells before x → Tells product y → Tells after (x + y))
    → Tells before (sum (map (sized counts others) (range_with_len 1 (d - 1)))) → Tells after (sum (map (sized counts others) (range_with_len 1 (d + 1 - 1))))
sized_told counts others d elements before one product after low are small told times plus so_far =
    subst (λ (k : ℕ). Tells after k) (sym (sized_more counts others d low))
    (plus _ _ so_far (times (counts d) (others d) (are, subst (λ (k : ℕ). k < 2 ^ 128) are small) told))

-- what the layers have of an element
pub count_read : (layers : List Layer) (node d elements : ℕ) (layer : Layer) → slice_get layers d ≡ Some layer → elements ≡ cell layer node 0 → elements ≡ count_at layers node d
count_read layers node d elements layer there is = is ∙ sym (ap (λ (one : Option Layer). cell (unwrap_or one []) node 0) there)

-- ---- sums of such multisets

-- with numbers that agree where there are fewer components and fewer atoms
pointed_same : (number also : ℕ → ℕ → ℕ) (d c m : ℕ) → 1 ≤ d → ((i k : ℕ) → i < c → k < m → number i k ≡ also i k) → number_pointed number d c m ≡ number_pointed also d c m
pointed_same number also d c m low same =
    sum_same (λ j. with_less (j * d) (number (c - j)) m) (λ j. with_less (j * d) (also (c - j)) m) (range_with_len 1 c) (λ j there. at j (in_range j 1 c there))
  where
    at : (j : ℕ) → (1 ≤ j) × (j < 1 + c) → with_less (j * d) (number (c - j)) m ≡ with_less (j * d) (also (c - j)) m
    at j inside = elim (cases_lt m (j * d)) [
      | inl large ↦ less_none (j * d) (number (c - j)) m large ∙ sym (less_none (j * d) (also (c - j)) m large)
      | inr fits ↦ less_some (j * d) (number (c - j)) m fits
          ∙ same (c - j) (m - j * d) (omega (arith, inside.0, inside.1)) (omega (arith, fits, mul-le 1 1 j d inside.0 low))
          ∙ sym (less_some (j * d) (also (c - j)) m fits)
    ]

-- with an element so large that the others have fewer atoms than components
pointed_none : (number : ℕ → ℕ → ℕ) (d c m : ℕ) → 1 ≤ d → m < d + c - 1 → ((i k : ℕ) → k < i → number i k ≡ 0) → number_pointed number d c m ≡ 0
pointed_none number d c m low large few =
    sum_same (λ j. with_less (j * d) (number (c - j)) m) (λ j. 0) (range_with_len 1 c) (λ j there. at j (in_range j 1 c there)) ∙ sum_zeros (range_with_len 1 c)
  where
    sum_zeros : (js : List ℕ) → sum (map (λ j. 0) js) ≡ 0
    sum_zeros [] = refl
    sum_zeros (j ∷ js) = omega (arith, sum_more 0 (map (λ k. 0) js), sum_zeros js)

    -- one of them and one atom for each of the others
    more : (j d : ℕ) → 1 ≤ j → 1 ≤ d → j + d ≤ j * d + 1
    more zero d one some = absurd (omega arith)
    more (suc j) d one some = omega (arith, mul-le j 1 j d (omega arith) some)

    at : (j : ℕ) → (1 ≤ j) × (j < 1 + c) → with_less (j * d) (number (c - j)) m ≡ 0
    at j inside = elim (cases_lt m (j * d)) [
      | inl past ↦ less_none (j * d) (number (c - j)) m past
      | inr fits ↦ less_some (j * d) (number (c - j)) m fits ∙ few (c - j) (m - j * d) (omega (arith, inside.0, inside.1, fits, large, more j d inside.0 low))
    ]

-- ---- what the layers have

-- how many of c components a row tells of
component_at : (row : List ℕ) (c : ℕ) → unwrap_or (slice_get (map (λ c. unwrap_or (slice_get row c) 0 / c) (range_with_len 1 (length row - 1))) c) 0 ≡ unwrap_or (slice_get row (suc c)) 0 / suc c
component_at row c = elim (cases_lt c (length row - 1)) [
  | inl within ↦ ap (λ (found : Option ℕ). unwrap_or found 0) (made_at (λ k. unwrap_or (slice_get row k) 0 / k) 1 (length row - 1) c within)
      ∙ ap (λ (k : ℕ). unwrap_or (slice_get row k) 0 / k) (next c)
  | inr past ↦ ap (λ (found : Option ℕ). unwrap_or found 0) (none_made (λ k. unwrap_or (slice_get row k) 0 / k) 1 (length row - 1) c past)
      ∙ sym (ap (λ (found : Option ℕ). unwrap_or found 0 / suc c) (slice_get_past row (suc c) (omega (arith, past))) ∙ ap (λ (k : ℕ). k / suc c) (nothing c) ∙ div-mul-add 0 (suc c) 0 (omega arith))
]
  where
    next : (c : ℕ) → 1 + c ≡ suc c
    next c = omega arith

    nothing : (c : ℕ) → 0 ≡ 0 * suc c + 0
    nothing c = omega arith

size_at : (layers : List Layer) (node k : ℕ) → k < length layers
    → slice_get (by_sizes layers node) k ≡ Some (by_components (unwrap_or (slice_get (unwrap_or (slice_get layers k) []) node) []) k)
size_at layers node k within =
    made_at (λ m. by_components (unwrap_or (slice_get (unwrap_or (slice_get layers m) []) node) []) m) 0 (length layers) k within
    ∙ ap (λ (m : ℕ). Some (by_components (unwrap_or (slice_get (unwrap_or (slice_get layers m) []) node) []) m)) (none k)
  where
    none : (k : ℕ) → 0 + k ≡ k
    none k = omega arith

pub by_sizes_count : (layers : List Layer) (node : ℕ) → length (by_sizes layers node) ≡ length layers
by_sizes_count layers node = length-map-range_with_len (λ m. by_components (unwrap_or (slice_get (unwrap_or (slice_get layers m) []) node) []) m) 0 (length layers)

-- one more of a row, and one more row
pub component_more : (row made after : List ℕ) (m earlier one : ℕ) → slice_get row (earlier + 1) ≡ Some one → after ≡ made ++ one / (earlier + 1) ∷ []
    → made ≡ one_at 0 m ∷ map (λ k. unwrap_or (slice_get row k) 0 / k) (range_with_len 1 earlier) → after ≡ one_at 0 m ∷ map (λ k. unwrap_or (slice_get row k) 0 / k) (range_with_len 1 (earlier + 1))
component_more row made after m earlier one there pushed so_far =
    pushed ∙ (λ i. so_far i ++ unwrap_or (sym there i) 0 / (earlier + 1) ∷ [])
    ∙ ap (λ (all : List ℕ). one_at 0 m ∷ all) (sym (map-range_with_len_more (λ k. unwrap_or (slice_get row k) 0 / k) 1 earlier (earlier + 1) (omega arith)))

pub size_more : (layers : List Layer) (node m : ℕ) (layer : Layer) (row numbers : List ℕ) (made after : List (List ℕ)) → slice_get layers m ≡ Some layer → slice_get layer node ≡ Some row → numbers ≡ by_components row m
    → after ≡ made ++ numbers ∷ [] → made ≡ map (λ k. by_components (unwrap_or (slice_get (unwrap_or (slice_get layers k) []) node) []) k) (range_with_len 0 m)
    → after ≡ map (λ k. by_components (unwrap_or (slice_get (unwrap_or (slice_get layers k) []) node) []) k) (range_with_len 0 (m + 1))
size_more layers node m layer row numbers made after there in_layer are pushed so_far =
    pushed ∙ (λ i. so_far i ++ (are ∙ sym read) i ∷ [])
    ∙ sym (map-range_with_len_more (λ k. by_components (unwrap_or (slice_get (unwrap_or (slice_get layers k) []) node) []) k) 0 m m (omega arith))
  where
    read : by_components (unwrap_or (slice_get (unwrap_or (slice_get layers m) []) node) []) m ≡ by_components row m
    read =
        ap (λ (one : Option Layer). by_components (unwrap_or (slice_get (unwrap_or one []) node) []) m) there ∙ ap (λ (one : Option (List ℕ)). by_components (unwrap_or one []) m) in_layer

module _ (checked : Checked) (marks : List Bool) (layers : List Layer) (told : AreTold checked marks layers) (node : ℕ) (kind : Kind) (e : Expression) (card : Card) (m : ℕ)
    (filled : length layers ≡ m) (marked : IsMarked marks node) (at : node_at checked.rules node ≡ Some (Many kind e card)) where
  -- the count of the element
  pub element_is : (child d : ℕ) → slice_get (children_at checked.rules node) 0 ≡ Some child → node_at checked.rules child ≡ slice_get (arguments_at checked.rules node) 0 → d < m
      → count_at layers child d ≡ number (grammar checked) e d
  element_is child d child_is child_at below =
      let found = slice_some layers d (omega arith) in
      ap (λ (one : Option Layer). cell (unwrap_or one []) child 0) found.1 ∙ (element_told checked marks layers told node kind e card marked at child d found.0 child_is child_at found.1).0

  -- and the numbers of those with fewer components
  pub fewer_is : (c k : ℕ) → rest_kind kind ≡ kind → ((c n : ℕ) → rests_of (container kind) c n ≡ n / c) → of_components (grammar checked) kind e 0 k ≡ one_at 0 k → c ≤ most_components card m → k < m
      → fewer (by_sizes layers node) c k ≡ of_components (grammar checked) kind e c k
  fewer_is zero k same divided none looked below = ap (λ (one : Option (List ℕ)). unwrap_or (slice_get (unwrap_or one []) 0) 0) (size_at layers node k (omega arith)) ∙ sym none
  fewer_is (suc c) k same divided none looked below =
      let found = slice_some layers k (omega arith) in
      let row = slice_some found.0 node (layer_room checked marks layers layers told refl node (node_within checked marks layers told node marked) k found.0 found.1) in
      ap (λ (one : Option (List ℕ)). unwrap_or (slice_get (unwrap_or one []) (suc c)) 0) (size_at layers node k (omega arith))
      ∙ ap (λ (one : Option Layer). unwrap_or (slice_get (by_components (unwrap_or (slice_get (unwrap_or one []) node) []) k) (suc c)) 0) found.1
      ∙ ap (λ (one : Option (List ℕ)). unwrap_or (slice_get (by_components (unwrap_or one []) k) (suc c)) 0) row.1
      ∙ component_at row.0 c
      ∙ sym (divided (suc c) (unwrap_or (slice_get row.0 (suc c)) 0))
      ∙ rests_in_row checked marks layers told node kind e card marked at (container kind) m (suc c) k found.0 row.0 refl (omega arith) looked found.1 row.1
      ∙ ap (λ (other : Kind). of_components (grammar checked) other e (suc c) k) same

  -- among them none with fewer atoms than components
  pub fewer_none : (c i k : ℕ) → rest_kind kind ≡ kind → ((c n : ℕ) → rests_of (container kind) c n ≡ n / c) → of_components (grammar checked) kind e 0 k ≡ one_at 0 k → c ≤ most_components card m → i < c → k < i
      → fewer (by_sizes layers node) i k ≡ 0
  fewer_none c i k same divided none looked below less =
      fewer_is i k same divided none (omega (arith, looked, below)) (omega (arith, looked, below, less, most_le card m))
      ∙ counted.few (grammar checked) kind e card i k told.is_checked.spec told.is_checked.well_founded (in_nodes checked.rules node _ at) less

-- the loop over the number of components
module _ (checked : Checked) (node : ℕ) (kind : Kind) (e : Expression) (card read : Card) (m : ℕ) (at : node_at checked.rules node ≡ Some (Many kind e card)) (card_is : card_at checked.rules node ≡ Some read) where
  bound : most_components read m ≡ most_components card m
  bound = ap (λ (k : Card). most_components k m) (card_same (node_at checked.rules node) kind e card read at card_is)

  pub longer_more : (earlier met : ℕ) (one : Option ℕ) (made after : List (Option ℕ)) → earlier < most_components read m - 1
      → (earlier + 2 ≤ most_components card m → (earlier + 2) * of_components (grammar checked) kind e (earlier + 2) m ≡ met) → ((n : ℕ) → (earlier + 2) * n ≡ met → Tells one n) → after ≡ made ++ one ∷ []
      → TellAll made (map (λ c. of_components (grammar checked) kind e c m) (range_with_len 2 earlier)) → TellAll after (map (λ c. of_components (grammar checked) kind e c m) (range_with_len 2 (earlier + 1)))
  longer_more earlier met one made after within is_met tells pushed so_far =
      subst (λ (items : List (Option ℕ)). TellAll items (map (λ c. of_components (grammar checked) kind e c m) (range_with_len 2 (earlier + 1)))) (sym pushed)
      (tell_made (λ c. of_components (grammar checked) kind e c m) made one 2 earlier (earlier + 2) (omega arith) so_far (tells _ (is_met (omega (arith, within, bound)))))

  pub longer_all : (earlier : ℕ) (made : List (Option ℕ)) → earlier ≡ most_components read m - 1 → TellAll made (map (λ c. of_components (grammar checked) kind e c m) (range_with_len 2 earlier))
      → TellAll made (map (λ c. of_components (grammar checked) kind e c m) (range_with_len 2 (most_components card m - 1)))
  longer_all earlier made end so_far =
      subst (λ (k : ℕ). TellAll made (map (λ c. of_components (grammar checked) kind e c m) (range_with_len 2 k))) (end ∙ ap (λ (k : ℕ). k - 1) bound) so_far

module _ (checked : Checked) (marks : List Bool) (layers : List Layer) (told : AreTold checked marks layers) (node : ℕ) (e : Expression) (card : Card) (m : ℕ)
    (filled : length layers ≡ m) (marked : IsMarked marks node) (at : node_at checked.rules node ≡ Some (Many kinds.Set e card)) where
  -- of fewer components there are none with fewer atoms than components
  pub no_fewer_sets : (c i k : ℕ) → c ≤ most_components card m → i < c → k < i → fewer (by_sizes layers node) i k ≡ 0
  no_fewer_sets c i k looked =
      fewer_none checked marks layers told node kinds.Set e card m filled marked at c i k refl (λ c n. refl)
      (containers.no_sets (grammar checked) e card k told.is_checked.spec told.is_checked.well_founded (in_nodes checked.rules node _ at)) looked

  -- each multiset is met with each of its elements
  pub sets_met : (child c : ℕ) → slice_get (children_at checked.rules node) 0 ≡ Some child → node_at checked.rules child ≡ slice_get (arguments_at checked.rules node) 0 → checked.universe ≡ Unlabelled → 2 ≤ c
      → c ≤ most_components card m → c * of_components (grammar checked) kinds.Set e c m ≡ multisets_met layers (by_sizes layers node) child c m
  sets_met child c child_is child_at unlabelled two looked =
      containers.sets (grammar checked) e card c m told.is_checked.spec told.is_checked.well_founded unlabelled inside
      ∙ ap (λ (k : ℕ). sum (map term (range_with_len 1 k))) split ∙ sym (none_behind term (m + 1 - c) (c - 1) (λ d behind within. none (number (grammar checked) e d) d behind))
      ∙ sum_same term (λ d. count_at layers child d * number_pointed (fewer (by_sizes layers node)) d c m) (range_with_len 1 (m + 1 - c)) (λ d there. each d (in_range d 1 (m + 1 - c) there))
    where
      inside : IsIn (Many kinds.Set e card) (all_nodes checked.rules)
      inside = in_nodes checked.rules node _ at

      sets : ℕ → ℕ → ℕ
      sets = of_components (grammar checked) kinds.Set e

      term : ℕ → ℕ
      term d = number (grammar checked) e d * number_pointed sets d c m

      split : m ≡ m + 1 - c + (c - 1)
      split = omega (arith, two, looked, most_le card m)

      none : (a d : ℕ) → m + 1 - c < d → a * number_pointed sets d c m ≡ 0
      none a d behind =
          ap (λ (k : ℕ). a * k) (pointed_none sets d c m (omega arith) (omega (arith, two))
          (λ i k few. counted.few (grammar checked) kinds.Set e card i k told.is_checked.spec told.is_checked.well_founded inside few)) ∙ mul-zero a

      each : (d : ℕ) → (1 ≤ d) × (d < 1 + (m + 1 - c)) → term d ≡ count_at layers child d * number_pointed (fewer (by_sizes layers node)) d c m
      each d inside_it =
          (λ i. sym (element_is checked marks layers told node kinds.Set e card m filled marked at child d child_is child_at (omega (arith, inside_it.1, two, looked, most_le card m))) i
          * sym (pointed_same (fewer (by_sizes layers node)) sets d c m inside_it.0
          (λ j k fewer_components below. fewer_is checked marks layers told node kinds.Set e card m filled marked at j k refl (λ c n. refl)
          (containers.no_sets (grammar checked) e card k told.is_checked.spec told.is_checked.well_founded inside) (omega arith) below)) i)
