-- The laws by which sets, powersets and cycles are counted and drawn.
use Rattle.std.specs.Prelude.{◌≡◌, ◌<◌, ◌≤◌, ℕ, suc, ◌-◌, ◌*◌, Bool, true, List, [], ◌++◌, map, length}
use Rattle.std.specs.List.{sum, filter, range_with_len}
use Rattle.std.specs.Cmp.{IsTotalOrder}
use Rattle.std.specs.Ordering.{is_lt}
use Rattle.std.specs.declared.cmp.Ordering.{Ordering}
use Rattle.std.specs.declared.cmp.Ordering.TheVariants.{Less}
use Rattle.lists.specs.Enumeration.{IsIn, Ascends}
use Rattle.lists.specs.Orders.{EqualIsSame}
use Rattle.count_laws.specs.Convolution.{convolved}
use Rattle.count_laws.specs.LabelledSets.{labelled_sets, labelled_lists, labelled_cycles}
use Rattle.count_laws.specs.Multisets.{none_taken, multisets, subsets}
use Rattle.count_laws.specs.Pointed.{IsAscending, pointed, avoids, avoiding, pointed_subsets, MeetsTimes}
use Rattle.count_laws.specs.SetNumbers.{number_of_size, number_of_multisets, number_of_subsets, with_less, number_pointed, number_avoiding}

-- Labelled components all differ, so that a set of one component more is met from each of its components, and a cycle is met as a
-- list from each of its components. No component is empty.
pub record LabelledComponents : Type 0 where
  pub sets : (a : ℕ → ℕ) (c n : ℕ) → a 0 ≡ 0 → suc c * labelled_sets a (suc c) n ≡ convolved a (labelled_sets a c) n
  pub cycles : (a : ℕ → ℕ) (c n : ℕ) → a 0 ≡ 0 → suc c * labelled_cycles a (suc c) n ≡ labelled_lists a (suc c) n

-- Elements that ascend in a total order do so by its test, by which an element avoids those that it is none of.
pub record OrdersTell (X : Type 0) : Type 0 where
  pub ascending : (compare : X → X → Ordering) → IsTotalOrder compare → (xs : List X) → Ascends (λ x y. compare x y ≡ Less) xs
      → IsAscending (λ x y. is_lt (compare x y)) xs
  pub avoid : (compare : X → X → Ordering) → IsTotalOrder compare → (x : X) (ys : List X) → avoids (λ y z. is_lt (compare y z)) x ys ≡ true → IsIn x ys → ⊥
  pub avoided : (compare : X → X → Ordering) → IsTotalOrder compare → EqualIsSame compare → (x : X) (ys : List X) → (IsIn x ys → ⊥)
      → avoids (λ y z. is_lt (compare y z)) x ys ≡ true

-- A multiset of c elements is met c times as a pointed one.
pub record MultisetsAreMet (X : Type 0) : Type 0 where
  pub meets : (is_before : X → X → Bool) (size : X → ℕ) (xs : List X) (c n : ℕ) → IsAscending is_before xs
      → MeetsTimes c (pointed is_before size xs c n) (multisets size xs c n)

-- A subset of c elements is met c times as a pointed one. Those of the elements that differ from one are those that avoid it.
pub record SubsetsAreMet (X : Type 0) : Type 0 where
  pub meets : (is_before : X → X → Bool) (size : X → ℕ) (xs : List X) (c n : ℕ) → IsAscending is_before xs
      → MeetsTimes c (pointed_subsets is_before size xs c n) (subsets size xs c n)
  pub avoid : (is_before : X → X → Bool) (size : X → ℕ) (x : X) (xs : List X) (c n : ℕ)
      → filter (avoids is_before x) (subsets size xs c n) ≡ avoiding is_before size x xs c n

-- Each of c elements of a multiset may be the one that is put in last. So their number follows from those of fewer elements, by the
-- elements or by the sizes of the elements, of which those above the total size do not matter.
pub record MultisetsAreCounted (X : Type 0) : Type 0 where
  pub none : (size : X → ℕ) (xs : List X) (n : ℕ) → multisets size xs 0 n ≡ none_taken 0 n
  pub few : (size : X → ℕ) (xs : List X) (c n : ℕ) → ((x : X) → IsIn x xs → 0 < size x) → n < c → multisets size xs c n ≡ []
  pub elements : (size : X → ℕ) (xs : List X) (c n : ℕ)
      → c * number_of_multisets size xs c n ≡ sum (map (λ x. number_pointed (number_of_multisets size xs) (size x) c n) xs)
  pub sizes : (size : X → ℕ) (xs : List X) (c n : ℕ) → ((x : X) → IsIn x xs → 0 < size x)
      → c * number_of_multisets size xs c n ≡ sum (map (λ d. number_of_size size xs d * number_pointed (number_of_multisets size xs) d c n) (range_with_len 1 n))
  pub of_small : (size : X → ℕ) (xs ys : List X) (c n : ℕ) → ((y : X) → IsIn y ys → n < size y) → multisets size (xs ++ ys) c n ≡ multisets size xs c n

-- Each of c elements of a list without repeats may be the one that is put in last, and the others avoid it. No more of the lists have
-- an element than there are in all.
pub record SubsetsAreCounted (X : Type 0) : Type 0 where
  pub none : (size : X → ℕ) (xs : List X) (n : ℕ) → subsets size xs 0 n ≡ none_taken 0 n
  pub few : (size : X → ℕ) (xs : List X) (c n : ℕ) → ((x : X) → IsIn x xs → 0 < size x) → n < c → subsets size xs c n ≡ []
  pub elements : (size : X → ℕ) (xs : List X) (c n : ℕ)
      → suc c * number_of_subsets size xs (suc c) n ≡ sum (map (λ x. with_less (size x) (number_avoiding (number_of_subsets size xs) (size x) c) n) xs)
  pub sizes : (size : X → ℕ) (xs : List X) (c n : ℕ) → ((x : X) → IsIn x xs → 0 < size x)
      → suc c * number_of_subsets size xs (suc c) n ≡ sum (map (λ d. number_of_size size xs d * number_avoiding (number_of_subsets size xs) d c (n - d)) (range_with_len 1 n))
  pub exact : (size : X → ℕ) (xs : List X) (c n : ℕ) (x : X) → IsIn x xs
      → with_less (size x) (number_avoiding (number_of_subsets size xs) (size x) c) n ≤ number_of_subsets size xs (suc c) n
  pub exact_of_size : (size : X → ℕ) (xs : List X) (c n d : ℕ) → 0 < number_of_size size xs d
      → with_less d (number_avoiding (number_of_subsets size xs) d c) n ≤ number_of_subsets size xs (suc c) n
  pub avoiding : (is_before : X → X → Bool) (size : X → ℕ) (x : X) (xs : List X) (c n : ℕ) → IsAscending is_before xs → IsIn x xs
      → length (avoiding is_before size x xs c n) ≡ number_avoiding (number_of_subsets size xs) (size x) c n
  pub of_small : (size : X → ℕ) (xs ys : List X) (c n : ℕ) → ((y : X) → IsIn y ys → n < size y) → subsets size (xs ++ ys) c n ≡ subsets size xs c n
