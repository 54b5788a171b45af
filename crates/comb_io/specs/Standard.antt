-- What contracts see of an adapter.
use Rattle.std.specs.Prelude.{◌≡◌, ℕ, List, Option, None, Some, Result, Ok}
use Rattle.std.specs.Io.KnownBytes.{ReadConsumes}

-- a stream of the standard library, and how many of its calls failed
pub record Adapted (S : Type 0) : Type 0 where
  pub stream : S
  pub faults : ℕ

-- the file of a folder that is in hand, where there is one, and how many calls failed
pub record Folder (F : Type 0) : Type 0 where
  pub file : Option F
  pub faults : ℕ

-- a read of the file in hand, of which these bytes are left where it tells them; with none in hand nothing is read
abbrev pub ReadsFile : {F E : Type 0} → (F → Option (List ℕ)) → Option F → Option F → Result ℕ E → List ℕ → Type 0
ReadsFile left None None result buf = result ≡ Ok 0
ReadsFile left (Some old) (Some new) result buf = ReadConsumes (left old) (left new) result buf
ReadsFile left None (Some new) result buf = ⊥
ReadsFile left (Some old) None result buf = ⊥
