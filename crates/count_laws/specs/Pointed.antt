-- Lists in the order of their elements, with some of the elements put into their places last.
use Rattle.std.specs.Prelude.{◌≡◌, ℕ, zero, suc, ◌-◌, ◌*◌, nat_le, Bool, true, false, ◌&&◌, ◌||◌, List, [], ◌∷◌, map, if◌then◌else◌}
use Rattle.std.specs.List.{sum, filter, flat_map, range_with_len}
use Rattle.lists.specs.Enumeration.{IsIn, Ascends}
use Rattle.count_laws.specs.Multisets.{Sized, multisets, subsets}

-- the elements ascend by this test, which no element passes with itself
pub record IsAscending {X : Type 0} (is_before : X → X → Bool) (xs : List X) : Type 0 where
  pub irreflexive : (x : X) → is_before x x ≡ false
  pub ascends : Ascends (λ x y. (is_before x y ≡ true) × (is_before y x ≡ false)) xs

-- the element in its place in a list in order: in front of the first one that is not before it
abbrev pub put : {X : Type 0} → (X → X → Bool) → X → List X → List X
put is_before x [] = x ∷ []
put is_before x (y ∷ ys) = if is_before y x then y ∷ put is_before x ys else x ∷ y ∷ ys

-- so many times
abbrev pub put_times : {X : Type 0} → (X → X → Bool) → ℕ → X → List X → List X
put_times is_before zero x xs = xs
put_times is_before (suc j) x xs = put is_before x (put_times is_before j x xs)

-- what becomes of each of the lists that have this much less of the total size
abbrev pub enlarged : {X : Type 0} → (List X → List X) → ℕ → (ℕ → List (List X)) → ℕ → List (List X)
enlarged change size lists n = if nat_le size n then map change (lists (n - size)) else []

-- the element put j times, for each j from 1 to c, into the lists with the other elements
abbrev pub pointed_at : {X : Type 0} → (X → X → Bool) → (X → ℕ) → X → Sized X → Sized X
pointed_at is_before size x lists c n = flat_map (λ j. enlarged (put_times is_before j x) (j * size x) (lists (c - j)) n) (range_with_len 1 c)

-- a multiset of c elements for each of its elements: the one put in last, from once to as often as it is there
abbrev pub pointed : {X : Type 0} → (X → X → Bool) → (X → ℕ) → List X → Sized X
pointed is_before size xs c n = flat_map (λ x. pointed_at is_before size x (multisets size xs) c n) xs

-- one of two elements is before the other
abbrev pub differs : {X : Type 0} → (X → X → Bool) → X → X → Bool
differs is_before x y = is_before x y || is_before y x

-- the element is none of these
abbrev pub avoids : {X : Type 0} → (X → X → Bool) → X → List X → Bool
avoids is_before x [] = true
avoids is_before x (y ∷ ys) = differs is_before x y && avoids is_before x ys

-- the lists without repeats that avoid the element
abbrev pub avoiding : {X : Type 0} → (X → X → Bool) → (X → ℕ) → X → List X → Sized X
avoiding is_before size x xs = subsets size (filter (differs is_before x) xs)

-- a subset of c elements for each of its elements: the one put in last
abbrev pub pointed_subsets : {X : Type 0} → (X → X → Bool) → (X → ℕ) → List X → Sized X
pointed_subsets is_before size xs zero n = []
pointed_subsets is_before size xs (suc c) n = flat_map (λ x. enlarged (put is_before x) (size x) (avoiding is_before size x xs c) n) xs

-- the first list has each of the elements of the second c times, and no others
pub record MeetsTimes {X : Type 0} (c : ℕ) (met xs : List X) : Type 0 where
  pub sums : (f : X → ℕ) → sum (map f met) ≡ c * sum (map f xs)
  pub within : (x : X) → IsIn x met → IsIn x xs
