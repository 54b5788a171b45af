-- Lists of elements that may repeat, and lists without repeats: each in the order of the elements, with so many elements and
-- this total size.
use Rattle.std.specs.Prelude.{ℕ, zero, suc, ◌-◌, nat_le, List, [], ◌∷◌, ◌++◌, map, if◌then◌else◌}

-- lists by their number of elements and their total size
abbrev pub Sized : Type 0 → Type 0
Sized X = ℕ → ℕ → List (List X)

-- no elements, of total size 0
abbrev pub none_taken : {X : Type 0} → Sized X
none_taken zero zero = [] ∷ []
none_taken zero (suc n) = []
none_taken (suc c) n = []

-- the element of this size in front of each of the lists with the others, by their total size
abbrev pub in_front : {X : Type 0} → ℕ → X → (ℕ → List (List X)) → ℕ → List (List X)
in_front size x others n = if nat_le size n then map (λ xs. x ∷ xs) (others (n - size)) else []

-- those with the element any number of times in front, and then others
abbrev pub with_any : {X : Type 0} → ℕ → X → Sized X → Sized X
with_any size x others zero n = others zero n
with_any size x others (suc c) n = in_front size x (with_any size x others c) n ++ others (suc c) n

-- those with the element once in front or not at all, and then others
abbrev pub with_one : {X : Type 0} → ℕ → X → Sized X → Sized X
with_one size x others zero n = others zero n
with_one size x others (suc c) n = in_front size x (others c) n ++ others (suc c) n

-- the lists of elements, each as often as one likes
abbrev pub multisets : {X : Type 0} → (X → ℕ) → List X → Sized X
multisets size [] = none_taken
multisets size (x ∷ xs) = with_any (size x) x (multisets size xs)

-- the lists of elements, each at most once
abbrev pub subsets : {X : Type 0} → (X → ℕ) → List X → Sized X
subsets size [] = none_taken
subsets size (x ∷ xs) = with_one (size x) x (subsets size xs)
