-- What contracts see of a shelf that holds the same bytes under every name.
use Rattle.std.specs.Prelude.{ℕ, List}

-- the bytes of each file, and those left of the file in hand
pub record OneFile : Type 0 where
  pub bytes : List ℕ
  pub left : List ℕ
