-- How the texts of a class's members are put together.
use Rattle.std.specs.Prelude.{◌≡◌, Bool, true, false, ℕ, List, [], ◌∷◌, ◌++◌}
use Rattle.spec_syntax.specs.Rules.{Rules}
use Rattle.struct_model.specs.Structure.{Structure}
use Rattle.struct_text.specs.declared.form.TextForm.{TextForm}
use Rattle.struct_text.specs.Text.{text as text_of}

-- the text of the first member in this form was put at the end, and the others are left
pub record MemberPut (texts : TextForm) (rules : Rules) (members members' : List Structure) (text text' : List ℕ) : Type 0 where
  pub member : Structure
  pub first : members ≡ member ∷ members'
  pub put : text' ≡ text ++ text_of texts rules member

-- there was none, and nothing was put
pub record NoMember (members members' : List Structure) (text text' : List ℕ) : Type 0 where
  pub none : members ≡ []
  pub none_left : members' ≡ []
  pub kept : text' ≡ text

abbrev pub PutsMember : TextForm → Rules → List Structure → List Structure → List ℕ → List ℕ → Bool → Type 0
PutsMember texts rules members members' text text' true = MemberPut texts rules members members' text text'
PutsMember texts rules members members' text text' false = NoMember members members' text text'
