-- What taking bytes from a source does.
use Rattle.std.specs.Prelude.{◌≡◌, ℕ, ◌≤◌, ◌<◌, List, [], ◌++◌, length, Option, Some, None}
use Rattle.std.specs.Io.KnownBytes.{Consumes, IsAtEnd}

-- so many bytes were taken from the source, and stand at the end of the list
pub record Took (left left' : Option (List ℕ)) (old new : List ℕ) (count : ℕ) : Type 0 where
  pub piece : List ℕ
  pub taken : Consumes left left' piece
  pub grown : new ≡ old ++ piece
  pub counted : length piece ≡ count

-- what was taken is the front of what was left, and no more bytes than this
pub record TookWithin (most : ℕ) (left left' : Option (List ℕ)) : Type 0 where
  pub taken : List ℕ
  pub within : length taken ≤ most
  pub took : Consumes left left' taken

-- more bytes than this were taken
pub record TookOver (most : ℕ) (left left' : Option (List ℕ)) : Type 0 where
  pub taken : List ℕ
  pub over : most < length taken
  pub took : Consumes left left' taken

-- nothing is left: a source that told its bytes before tells so, and another one tells nothing else
abbrev pub IsSpent : Option (List ℕ) → Option (List ℕ) → Type 0
IsSpent None left' = IsAtEnd left'
IsSpent (Some given) left' = left' ≡ Some []
