-- Lengths that are admitted, by a mark for each length from 0 on.
use Rattle.std.specs.Prelude.{ℕ, ◌≤◌, Bool, false, List, Option, Some, None, IsTrue, slice_index_or}

-- is the length admitted; no length past the marks is
abbrev pub is_admitted : List Bool → ℕ → Bool
is_admitted lengths n = slice_index_or lengths n false

-- the length is the least admitted one from a number on, or none from there on is admitted
abbrev pub IsLeastFrom : List Bool → ℕ → Option ℕ → Type 0
IsLeastFrom lengths from None = (n : ℕ) → from ≤ n → IsTrue (is_admitted lengths n) → ⊥
IsLeastFrom lengths from (Some least) =
    (from ≤ least) × IsTrue (is_admitted lengths least) × ((n : ℕ) → from ≤ n → IsTrue (is_admitted lengths n) → least ≤ n)
