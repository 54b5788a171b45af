-- What a program writes, byte by byte, to its two sinks.
use Rattle.std.specs.Prelude.{ℕ, ◌+◌, ◌≤◌, List, [], ◌∷◌, Option, length, take}
use Rattle.std.specs.Io.KnownBytes.{Appends}

-- one byte to the output, or to the error output
pub data Write : Type 0 where
  ToOut : ℕ → Write
  ToErr : ℕ → Write

-- the bytes that go to the output
abbrev pub outpart : List Write → List ℕ
outpart [] = []
outpart (ToOut b ∷ ws) = b ∷ outpart ws
outpart (ToErr b ∷ ws) = outpart ws

-- the bytes that go to the error output
abbrev pub errpart : List Write → List ℕ
errpart [] = []
errpart (ToOut b ∷ ws) = errpart ws
errpart (ToErr b ∷ ws) = b ∷ errpart ws

-- these bytes, each to the output
abbrev pub to_out : List ℕ → List Write
to_out [] = []
to_out (b ∷ bs) = ToOut b ∷ to_out bs

-- these bytes, each to the error output
abbrev pub to_err : List ℕ → List Write
to_err [] = []
to_err (b ∷ bs) = ToErr b ∷ to_err bs

-- both sinks grew by what these writes say, where they tell their bytes
pub record Wrote (out out' err err' : Option (List ℕ)) (ws : List Write) : Type 0 where
  pub to_output : Appends out out' (outpart ws)
  pub to_errors : Appends err err' (errpart ws)

-- the first of these writes were made, and at least so many weren't
pub record WrotePart (unwritten : ℕ) (out out' err err' : Option (List ℕ)) (ws : List Write) : Type 0 where
  pub count : ℕ
  pub within : count + unwritten ≤ length ws
  pub wrote : Wrote out out' err err' (take count ws)

-- the first of these writes were made, and maybe all
abbrev pub WrotePrefix : Option (List ℕ) → Option (List ℕ) → Option (List ℕ) → Option (List ℕ) → List Write → Type 0
WrotePrefix out out' err err' ws = WrotePart 0 out out' err err' ws

-- the first of these writes were made, and not all
abbrev pub WroteProperPrefix : Option (List ℕ) → Option (List ℕ) → Option (List ℕ) → Option (List ℕ) → List Write → Type 0
WroteProperPrefix out out' err err' ws = WrotePart 1 out out' err err' ws
