-- The numbers of multisets and of lists without repeats, by the sizes of their elements.
use Rattle.std.specs.Prelude.{ℕ, zero, suc, ◌-◌, ◌*◌, nat_le, nat_eq, List, map, length, if◌then◌else◌}
use Rattle.std.specs.List.{sum, filter, range_with_len}
use Rattle.count_laws.specs.Multisets.{multisets, subsets}

-- how many of the elements have this size
abbrev pub number_of_size : {X : Type 0} → (X → ℕ) → List X → ℕ → ℕ
number_of_size size xs d = length (filter (λ x. nat_eq (size x) d) xs)

-- how many multisets there are of c elements and this total size
abbrev pub number_of_multisets : {X : Type 0} → (X → ℕ) → List X → ℕ → ℕ → ℕ
number_of_multisets size xs c n = length (multisets size xs c n)

-- and how many lists without repeats
abbrev pub number_of_subsets : {X : Type 0} → (X → ℕ) → List X → ℕ → ℕ → ℕ
number_of_subsets size xs c n = length (subsets size xs c n)

-- what is told of a total size that is less by this, and 0 where it is more than all
abbrev pub with_less : ℕ → (ℕ → ℕ) → ℕ → ℕ
with_less size number n = if nat_le size n then number (n - size) else 0

-- how many multisets there are that have one element of size d put in last, from once to c times, where number tells how many
-- there are of the others
abbrev pub number_pointed : (ℕ → ℕ → ℕ) → ℕ → ℕ → ℕ → ℕ
number_pointed number d c n = sum (map (λ j. with_less (j * d) (number (c - j)) n) (range_with_len 1 c))

-- How many lists without repeats avoid one element of size d, where number tells how many there are in all: those that do not are
-- lists of one element less that avoid it, and the element.
abbrev pub number_avoiding : (ℕ → ℕ → ℕ) → ℕ → ℕ → ℕ → ℕ
number_avoiding number d zero n = number zero n
number_avoiding number d (suc c) n = number (suc c) n - with_less d (number_avoiding number d c) n
