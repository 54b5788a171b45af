-- How a text begins.
use Rattle.std.specs.Prelude.{◌≡◌, ℕ, ◌<◌, ◌^◌, Bool, true, not, List, [], ◌∷◌, ◌++◌, Option, Some, None, IsTrue}
use Rattle.spec_syntax.specs.declared.statement.Universe.{Universe}
use Rattle.spec_syntax.specs.Word.{is_digit}
use Rattle.struct_model.specs.Membership.{is_label}
use Rattle.struct_text.specs.Text.{label_text}

-- is the first byte, where there is one, no digit
abbrev pub begins_no_digit : List ℕ → Bool
begins_no_digit [] = true
begins_no_digit (b ∷ bs) = not (is_digit b)

-- the text is that of this label, and then what is left, and that of no other small label of the universe
pub record IsLabelRead (universe : Universe) (text : List ℕ) (label : ℕ) (left : List ℕ) : Type 0 where
  pub whole : text ≡ label_text label ++ left
  pub only : (other : ℕ) (rest : List ℕ) → IsTrue (is_label universe other) → other < 2 ^ 32 → text ≡ label_text other ++ rest
      → (other ≡ label) × (rest ≡ left)

-- a label was read, or the text begins with none
abbrev pub ReadsLabel : Universe → List ℕ → Option ℕ → List ℕ → Type 0
ReadsLabel universe text None left =
    (label : ℕ) (rest : List ℕ) → IsTrue (is_label universe label) → label < 2 ^ 32 → text ≡ label_text label ++ rest → ⊥
ReadsLabel universe text (Some label) left = IsLabelRead universe text label left
