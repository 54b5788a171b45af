-- Rows of numbers that are told, and the first that is too large.
use Rattle.std.specs.Prelude.{◌≡◌, ℕ, ◌<◌, List, map, Option, Some, None, slice_get}

-- no number of the row is too large
abbrev pub HasNoNone : List (Option ℕ) → Type 0
HasNoNone row = (i : ℕ) → slice_get row i ≡ Some None → ⊥

-- the place of the first number of the row that is too large, if there is one
abbrev pub IsFirstNone : List (Option ℕ) → Option ℕ → Type 0
IsFirstNone row None = HasNoNone row
IsFirstNone row (Some i) = (slice_get row i ≡ Some None) × ((j : ℕ) → j < i → slice_get row j ≡ Some None → ⊥)

-- no number of the rows before n is too large
abbrev pub HaveNoNone : List (List (Option ℕ)) → ℕ → Type 0
HaveNoNone rows n = (node : ℕ) (row : List (Option ℕ)) → node < n → slice_get rows node ≡ Some row → HasNoNone row

-- the first number of the rows that is too large stands in this row, at this place
pub record IsEarliestNone (rows : List (List (Option ℕ))) (node i : ℕ) : Type 0 where
  pub row : List (Option ℕ)
  pub at : slice_get rows node ≡ Some row
  pub first : IsFirstNone row (Some i)
  pub before : HaveNoNone rows node

-- what is kept of a row that has no number too large, and of all rows
abbrev pub told_row : List ℕ → List (Option ℕ)
told_row numbers = map (λ number. Some number) numbers

abbrev pub told_rows : List (List ℕ) → List (List (Option ℕ))
told_rows layer = map told_row layer
