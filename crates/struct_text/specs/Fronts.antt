-- What a call that writes a text leaves where memory is wanting.
use Rattle.std.specs.Prelude.{◌≡◌, ℕ, List, ◌++◌, take}

-- the first bytes of the text, or none, were put at the end
pub record PutsFront (old new text : List ℕ) : Type 0 where
  pub count : ℕ
  pub put : new ≡ old ++ take count text
