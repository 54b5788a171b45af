-- What is known of sums over the splits of a size.
use Rattle.std.specs.Prelude.{◌≡◌, ◌⊎◌, ℕ, ◌+◌, ◌-◌, ◌*◌, ◌≤◌, List, Option, Some, slice_get}
use Rattle.splits.specs.Capped.{Tells}

-- both numbers are told, or their product is 0 and one of them is told to be
abbrev pub ProductTold : Option ℕ → Option ℕ → ℕ → ℕ → Type 0
ProductTold one other x y = (Tells one x × Tells other y) ⊎ (((one ≡ Some 0) ⊎ (other ≡ Some 0)) × (x * y ≡ 0))

-- the numbers of a first part and of another, by size from 0, are so told for the splits of size n
abbrev pub ProductsTold : List (Option ℕ) → List (Option ℕ) → (ℕ → ℕ) → (ℕ → ℕ) → ℕ → Type 0
ProductsTold firsts others first other n =
    (d : ℕ) (one two : Option ℕ) → d ≤ n → slice_get firsts d ≡ Some one → slice_get others (n - d) ≡ Some two → ProductTold one two (first d) (other (n - d))

-- the number after is the one before and so many times the other number
abbrev pub AddsProduct : Option ℕ → Option ℕ → Option ℕ → ℕ → Type 0
AddsProduct before after many other = (x w : ℕ) → Tells before x → Tells many w → Tells after (x + w * other)
