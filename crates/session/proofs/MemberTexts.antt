-- The text of members that are written as they are reached.
use Rattle.std.proofs.Common.{◌≡◌, ℕ, Bool, true, false, List, [], ◌++◌, Option, codes, IsTrue, ◌↔◌, append_assoc, sym, ap, subst, ◌∙◌}
use Rattle.comb_io.specs.Parts.{AppendsBefore}
use Rattle.comb_io.proofs.Parts.{AppendsBefore-append, AppendsBefore-then}
use Rattle.spec_syntax.specs.Rules.{Rules}
use Rattle.struct_model.specs.Structure.{Structure, parts_of}
use Rattle.struct_text.specs.declared.form.TextForm.{TextForm}
use Rattle.struct_text.specs.Text.{text as text_of, parts_text, others_text}
use Rattle.size_counts.specs.CountedView.{Counts}
use Rattle.session.specs.Effect.{structures_text}
use Rattle.session.specs.Members.{PutsMember}

-- a walk that hasn't finished has members left
pub some_left : (finished : Bool) (members : List Structure) → IsTrue finished ↔ (members ≡ []) → finished ≡ false → members ≡ [] → ⊥
some_left finished members is on none = let yes : finished ≡ true = is.1 none in absurd (cc)

module _ (texts : TextForm) (rules : Rules) (members members' : List Structure) (text comma more : List ℕ) where
  -- the text with a member more, and those of the others
  pub member_behind : (some : Bool) → PutsMember texts rules members members' comma more some → comma ≡ text ++ codes ", " → (members ≡ [] → ⊥)
      → text ++ others_text texts rules (parts_of members) ≡ more ++ others_text texts rules (parts_of members')
  member_behind true put is left =
      ap (λ ss. text ++ others_text texts rules (parts_of ss)) put.first
      ∙ ap (λ l. text ++ l) (sym (append_assoc (codes ", ") (text_of texts rules put.member) (others_text texts rules (parts_of members'))))
      ∙ sym (append_assoc text (codes ", " ++ text_of texts rules put.member) (others_text texts rules (parts_of members')))
      ∙ ap (λ l. l ++ others_text texts rules (parts_of members'))
      (sym (append_assoc text (codes ", ") (text_of texts rules put.member)) ∙ ap (λ l. l ++ text_of texts rules put.member) (sym is) ∙ sym put.put)
  member_behind false none is left = absurd (left none.none)

  -- the first member stands in front of the others
  pub members_begun : (some : Bool) → PutsMember texts rules members members' comma more some → comma ++ parts_text texts rules (parts_of members) ≡ more ++ others_text texts rules (parts_of members')
  members_begun true put =
      ap (λ ss. comma ++ parts_text texts rules (parts_of ss)) put.first ∙ sym (append_assoc comma (text_of texts rules put.member) (others_text texts rules (parts_of members')))
      ∙ ap (λ l. l ++ others_text texts rules (parts_of members')) (sym put.put)
  members_begun false none =
      ap (λ ss. comma ++ parts_text texts rules (parts_of ss)) none.none
      ∙ (λ i. sym none.kept i ++ others_text texts rules (parts_of (sym none.none_left i)))

-- what is written of a line with a member more, and what is held of it then
pub held_further : (a b c : Option (List ℕ)) (whole text tail more left tail' : List ℕ) → AppendsBefore a b whole (text ++ tail) → text ++ tail ≡ more ++ tail' → AppendsBefore b c more left
    → AppendsBefore a c whole (left ++ tail')
held_further a b c whole text tail more left tail' so_far is held =
    AppendsBefore-then a b c whole (more ++ tail') (left ++ tail') (subst (AppendsBefore a b whole) is so_far) (AppendsBefore-append b c more left tail' held)

-- the line is what is begun, the other members behind it, and the end
pub line_is : (texts : TextForm) (rules : Rules) (members members' : List Structure) (text more : List ℕ) (some : Bool) → PutsMember texts rules members members' text more some → text ≡ codes "["
    → (more ++ others_text texts rules (parts_of members')) ++ codes "]\n" ≡ structures_text texts rules members
line_is texts rules members members' text more some put is =
    ap (λ l. l ++ codes "]\n") (sym (members_begun texts rules members members' [] text more some put) ∙ ap (λ l. l ++ parts_text texts rules (parts_of members)) is)
    ∙ append_assoc (codes "[") (parts_text texts rules (parts_of members)) (codes "]\n")

-- the same told with counts that are the same
pub counts_kept : (texts : TextForm) (counts counts' : Counts) (members' : List Structure) (more : List ℕ) {line : List ℕ} → counts' ≡ counts
    → (more ++ others_text texts counts.checked.rules (parts_of members')) ++ codes "]\n" ≡ line → (more ++ others_text texts counts'.checked.rules (parts_of members')) ++ codes "]\n" ≡ line
counts_kept texts counts counts' members' more same is = ap (λ (now : Counts). (more ++ others_text texts now.checked.rules (parts_of members')) ++ codes "]\n") same ∙ is
