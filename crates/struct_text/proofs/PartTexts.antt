-- The texts of lists, component by component.
use Rattle.std.proofs.Common.{◌≡◌, ◌<◌, ◌^◌, ℕ, ◌+◌, List, [], ◌∷◌, ◌++◌, codes, length, refl, sym, ap, ◌∙◌, arith, append_assoc, length-append}
use Rattle.std.proofs.lemmas.List.{append_cancel_left, append-nil}
use Rattle.spec_syntax.specs.Rules.{Rules}
use Rattle.struct_model.specs.declared.tree.Form5.{Form5}
use Rattle.struct_model.specs.Structure.{Structure, Alt, Tup, Structures, parts_of, labels, labels_of_parts}
use Rattle.struct_text.specs.declared.form.TextForm.TheVariants.{Tagged}
use Rattle.struct_text.specs.Text.{tagged, numeral, form_word, parts_text, others_text}
use Rattle.struct_text.specs.Reading.{before_text}

-- a list that was put behind a front, before what follows it
pub moved : (a b c : List ℕ) (whole left : List ℕ) → left ≡ b ++ c → whole ≡ a ++ left → whole ≡ (a ++ b) ++ c
moved a b c whole left split is = is ∙ ap (λ (l : List ℕ). a ++ l) split ∙ sym (append_assoc a b c)

others_begin : (rules : Rules) (ps : List Structure) (s : Structure)
    → others_text Tagged rules (parts_of (ps ++ s ∷ [])) ≡ codes ", " ++ parts_text Tagged rules (parts_of (ps ++ s ∷ []))
others_begin rules [] s = refl
others_begin rules (p ∷ ps) s = refl

-- the texts of components up to the last
pub parts_last : (rules : Rules) (ps : List Structure) (s : Structure) → parts_text Tagged rules (parts_of (ps ++ s ∷ [])) ≡ before_text rules ps ++ tagged rules s
parts_last rules [] s = append-nil (tagged rules s)
parts_last rules (p ∷ ps) s =
    ap (λ (t : List ℕ). tagged rules p ++ t) (others_begin rules ps s ∙ ap (λ (t : List ℕ). codes ", " ++ t) (parts_last rules ps s))
    ∙ sym (append_assoc (tagged rules p ++ codes ", ") (before_text rules ps) (tagged rules s) ∙ append_assoc (tagged rules p) (codes ", ") (before_text rules ps ++ tagged rules s))

pub before_last : (rules : Rules) (ps : List Structure) (s : Structure) → before_text rules (ps ++ s ∷ []) ≡ before_text rules ps ++ (tagged rules s ++ codes ", ")
before_last rules [] s = append-nil (tagged rules s ++ codes ", ")
before_last rules (p ∷ ps) s =
    ap (λ (t : List ℕ). (tagged rules p ++ codes ", ") ++ t) (before_last rules ps s)
    ∙ sym (append_assoc (tagged rules p ++ codes ", ") (before_text rules ps) (tagged rules s ++ codes ", "))

pub atoms_last : (ps : List Structure) (s : Structure) → length (labels_of_parts (parts_of (ps ++ s ∷ []))) ≡ length (labels_of_parts (parts_of ps)) + length (labels s)
atoms_last [] s = length-append (labels s) [] ∙ plus_none (length (labels s))
  where
    plus_none : (n : ℕ) → n + 0 ≡ 0 + n
    plus_none n = omega arith
atoms_last (p ∷ ps) s =
    let first = length-append (labels p) (labels_of_parts (parts_of (ps ++ s ∷ []))) in
    let whole = length-append (labels p) (labels_of_parts (parts_of ps)) in omega (arith, first, whole, atoms_last ps s)

-- a list's text, opened
tuple_split : (f p rest : List ℕ) → (((f ++ codes "(") ++ p) ++ codes ")") ++ rest ≡ (f ++ codes "(") ++ ((p ++ codes ")") ++ rest)
tuple_split f p rest = simp append_assoc

pub tuple_opened : (rules : Rules) (form : Form5) (ss : Structures) (text left rest : List ℕ) → text ≡ (form_word form ++ codes "(") ++ left → text ≡ tagged rules (Tup form ss) ++ rest
    → left ≡ (parts_text Tagged rules ss ++ codes ")") ++ rest
tuple_opened rules form ss text left rest first same =
    append_cancel_left (form_word form ++ codes "(") left ((parts_text Tagged rules ss ++ codes ")") ++ rest)
    (sym first ∙ same ∙ tuple_split (form_word form) (parts_text Tagged rules ss) rest)

-- a chosen structure's text, opened
pub chosen_opened : (rules : Rules) (k : ℕ) (s : Structure) (text rest : List ℕ) → text ≡ tagged rules (Alt k s) ++ rest → text ≡ numeral k ++ 58 ∷ (tagged rules s ++ rest)
chosen_opened rules k s text rest same = same ∙ split (numeral k) (tagged rules s)
  where
    split : (n t : List ℕ) → ((n ++ codes ":") ++ t) ++ rest ≡ n ++ 58 ∷ (t ++ rest)
    split n t = append_assoc (n ++ codes ":") t rest ∙ append_assoc n (codes ":") (t ++ rest)

-- the text of a list whose components are whole
closes : (a f b t left : List ℕ) → ((a ++ ((f ++ codes "(") ++ b)) ++ t) ++ (codes ")" ++ left) ≡ (a ++ (((f ++ codes "(") ++ (b ++ t)) ++ codes ")")) ++ left
closes a f b t left = simp append_assoc

pub tuple_closed : (rules : Rules) (form : Form5) (front text left : List ℕ) (ps : List Structure) (s : Structure) → text ≡ codes ")" ++ left
    → ((front ++ ((form_word form ++ codes "(") ++ before_text rules ps)) ++ tagged rules s) ++ text ≡ (front ++ tagged rules (Tup form (parts_of (ps ++ s ∷ [])))) ++ left
tuple_closed rules form front text left ps s next =
    ap (λ (l : List ℕ). ((front ++ ((form_word form ++ codes "(") ++ before_text rules ps)) ++ tagged rules s) ++ l) next
    ∙ closes front (form_word form) (before_text rules ps) (tagged rules s) left
    ∙ ap (λ (p : List ℕ). (front ++ (((form_word form ++ codes "(") ++ p) ++ codes ")")) ++ left) (sym (parts_last rules ps s))

-- and of one that goes on
goes_on : (a f b t left : List ℕ) → ((a ++ (f ++ b)) ++ t) ++ (codes ", " ++ left) ≡ (a ++ (f ++ (b ++ (t ++ codes ", ")))) ++ left
goes_on a f b t left = simp append_assoc

pub tuple_goes_on : (rules : Rules) (opened front text left : List ℕ) (ps : List Structure) (s : Structure) → text ≡ codes ", " ++ left
    → ((front ++ (opened ++ before_text rules ps)) ++ tagged rules s) ++ text ≡ (front ++ (opened ++ before_text rules (ps ++ s ∷ []))) ++ left
tuple_goes_on rules opened front text left ps s next =
    ap (λ (l : List ℕ). ((front ++ (opened ++ before_text rules ps)) ++ tagged rules s) ++ l) next
    ∙ goes_on front opened (before_text rules ps) (tagged rules s) left
    ∙ ap (λ (b : List ℕ). (front ++ (opened ++ b)) ++ left) (sym (before_last rules ps s))

-- there is room for a list with one more component
pub list_room : (ps more : List Structure) (s : Structure) (holes left : ℕ) → more ≡ ps ++ s ∷ [] → length (labels s) + (length (labels_of_parts (parts_of ps)) + holes) + left < 2 ^ 32
    → length (labels_of_parts (parts_of more)) < 2 ^ 32
list_room ps more s holes left is room =
    let long : length (labels_of_parts (parts_of more)) ≡ length (labels_of_parts (parts_of ps)) + length (labels s) =
    ap (λ (ss : List Structure). length (labels_of_parts (parts_of ss))) is ∙ atoms_last ps s in omega (arith, long, room)
