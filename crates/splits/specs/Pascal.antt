-- The rows of Pascal's triangle.
use Rattle.std.specs.Prelude.{◌≡◌, ℕ, ◌<◌, List, Option, length, slice_index_or}
use Rattle.count_laws.specs.Choose.{choose}
use Rattle.splits.specs.Capped.{Tells}

-- the numbers are the first coefficients of row n
abbrev pub AreChoices : ℕ → List (Option ℕ) → Type 0
AreChoices n numbers = (d : ℕ) (other : Option ℕ) → d < length numbers → Tells (slice_index_or numbers d other) (choose n d)

-- each row stands at the place of its number
abbrev pub AreInPlace : List ℕ → Type 0
AreInPlace rows = (n other : ℕ) → n < length rows → slice_index_or rows n other ≡ n
