-- What a write that may stop early appends, where the bytes are told.
use Rattle.std.specs.Prelude.{◌≡◌, ℕ, ◌+◌, ◌≤◌, List, ◌++◌, Option, length, take}
use Rattle.std.specs.Io.KnownBytes.{Appends}

-- the first bytes of the piece were appended, and at least so many weren't
pub record AppendsPart (unwritten : ℕ) (old new : Option (List ℕ)) (piece : List ℕ) : Type 0 where
  pub count : ℕ
  pub within : count + unwritten ≤ length piece
  pub bytes : Appends old new (take count piece)

-- the first bytes of the piece were appended, and maybe all
abbrev pub AppendsPrefix : Option (List ℕ) → Option (List ℕ) → List ℕ → Type 0
AppendsPrefix old new piece = AppendsPart 0 old new piece

-- the first bytes of the piece were appended, and not all
abbrev pub AppendsProperPrefix : Option (List ℕ) → Option (List ℕ) → List ℕ → Type 0
AppendsProperPrefix old new piece = AppendsPart 1 old new piece

-- the part of the piece before the rest was appended
pub record AppendsBefore (old new : Option (List ℕ)) (piece rest : List ℕ) : Type 0 where
  pub front : List ℕ
  pub whole : front ++ rest ≡ piece
  pub bytes : Appends old new front
