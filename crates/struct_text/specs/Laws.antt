-- Laws of the texts.
use Rattle.std.specs.Prelude.{◌≡◌, List, ℕ, IsTrue}
use Rattle.spec_syntax.specs.Expression.{Name}
use Rattle.spec_syntax.specs.Rules.{is_spec}
use Rattle.spec_syntax.specs.Grammar.{Grammar}
use Rattle.struct_model.specs.Structure.{Structure}
use Rattle.struct_model.specs.Membership.{is_of}
use Rattle.struct_text.specs.Text.{tagged}

-- two structures of one name with the same tagged text are equal
abbrev pub OneText : Type 0
OneText = (g : Grammar) → IsTrue (is_spec g.rules) → (name : List ℕ) (s t : Structure) → IsTrue (is_of g (Name name) s) → IsTrue (is_of g (Name name) t)
    → tagged g.rules s ≡ tagged g.rules t → s ≡ t
