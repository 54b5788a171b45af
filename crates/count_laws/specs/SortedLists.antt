-- Sorted lists of elements by their number of elements and their total size, with and without repeats.
use Rattle.std.specs.Prelude.{◌≡◌, ℕ, Bool, true, false, List, [], ◌∷◌, map, length}
use Rattle.std.specs.List.{sum}
use Rattle.std.specs.Cmp.{IsTotalOrder}
use Rattle.std.specs.Cmp.Lexicographic.{slice_cmp}
use Rattle.std.specs.declared.cmp.Ordering.{Ordering}
use Rattle.std.specs.declared.cmp.Ordering.TheVariants.{Less}
use Rattle.lists.specs.Enumeration.{IsIn, Ascends, Enumerated}
use Rattle.lists.specs.Orders.{EqualIsSame}
use Rattle.count_laws.specs.Multisets.{multisets, subsets}

-- may the second element be next to the first one: where none repeats it stands after it, and otherwise not before it
abbrev pub MayFollow : {X : Type 0} → Bool → (X → X → Type 0) → X → X → Type 0
MayFollow true R x y = R x y
MayFollow false R x y = R y x → ⊥

-- each element is related to the next one
abbrev pub EachNext : {X : Type 0} → (X → X → Type 0) → List X → Type 0
EachNext S [] = Unit {0}
EachNext S (x ∷ []) = Unit {0}
EachNext S (x ∷ y ∷ ys) = S x y × EachNext S (y ∷ ys)

-- the list has c of the elements xs, which may stand next to each other in this order, and their sizes sum to n; where it is
-- strict none repeats
pub record IsSorted {X : Type 0} (strict : Bool) (R : X → X → Type 0) (size : X → ℕ) (xs : List X) (c n : ℕ) (ys : List X) : Type 0 where
  pub among : (y : X) → IsIn y ys → IsIn y xs
  pub sorted : EachNext (MayFollow strict R) ys
  pub count : length ys ≡ c
  pub total : sum (map size ys) ≡ n

-- the first one comes before the second one
abbrev pub ComesBefore : {X : Type 0} → (X → X → Ordering) → X → X → Type 0
ComesBefore compare x y = compare x y ≡ Less

-- the comparison is a total order with no ties, and the elements ascend in it
pub record AreOrdered {X : Type 0} (compare : X → X → Ordering) (xs : List X) : Type 0 where
  pub total : IsTotalOrder compare
  pub no_ties : EqualIsSame compare
  pub ascend : Ascends (ComesBefore compare) xs

-- Of ascending elements, the multisets are the lists in which no element stands before the one in front of it, and the subsets
-- those in which each stands after the one in front of it. Both are in the lexicographic order.
pub record SortedListsAreListed (X : Type 0) : Type 0 where
  pub multisets : (compare : X → X → Ordering) (size : X → ℕ) (xs : List X) (c n : ℕ) → AreOrdered compare xs
      → Enumerated (ComesBefore (slice_cmp compare)) (IsSorted false (ComesBefore compare) size xs c n) (multisets size xs c n)
  pub subsets : (compare : X → X → Ordering) (size : X → ℕ) (xs : List X) (c n : ℕ) → AreOrdered compare xs
      → Enumerated (ComesBefore (slice_cmp compare)) (IsSorted true (ComesBefore compare) size xs c n) (subsets size xs c n)
