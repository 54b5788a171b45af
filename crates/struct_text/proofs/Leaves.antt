-- Structures without others inside, read off a text.
use Rattle.std.proofs.Common.{◌≡◌, ◌<◌, ◌^◌, ℕ, ◌+◌, ◌&&◌, List, ◌++◌, codes, length, nat_eq, nat_lt, IsTrue, sym, ap, ◌∙◌, arith, append_assoc, true≢false, length-append}
use Rattle.std.proofs.lemmas.Bool.{and_parts, eqb-true, ltb-true}
use Rattle.std.proofs.lemmas.List.{append_cancel_left}
use Rattle.spec_syntax.specs.declared.statement.Universe.{Universe}
use Rattle.spec_syntax.specs.Rules.{Rules}
use Rattle.struct_model.specs.Structure.{Structure, Eps, Atom, Named, Alt, Tup}
use Rattle.struct_model.specs.Membership.{is_label}
use Rattle.struct_text.specs.Text.{tagged, word_or_name, label_text}
use Rattle.struct_text.specs.Lexing.{IsLabelRead}
use Rattle.struct_text.specs.Reading.{is_epsilon_of, is_atom_of, IsLeafRead}

epsilon_is : (rule : ℕ) (s : Structure) → IsTrue (is_epsilon_of rule s) → s ≡ Eps rule
epsilon_is rule (Eps x) is = ap Eps (eqb-true x rule is)
epsilon_is rule (Atom x l) is = absurd (true≢false (sym is))
epsilon_is rule (Named x s) is = absurd (true≢false (sym is))
epsilon_is rule (Alt k s) is = absurd (true≢false (sym is))
epsilon_is rule (Tup f ss) is = absurd (true≢false (sym is))

-- an atom of the rule's, with its label
record AtomIs (universe : Universe) (rule : ℕ) (s : Structure) : Type 0 where
  label : ℕ
  is : s ≡ Atom rule label
  is_its : IsTrue (is_label universe label)
  small : label < 2 ^ 32

atom_is : (universe : Universe) (rule : ℕ) (s : Structure) → IsTrue (is_atom_of universe rule s) → AtomIs universe rule s
atom_is universe rule (Eps x) is = absurd (true≢false (sym is))
atom_is universe rule (Atom x l) is =
    let first = and_parts (nat_eq x rule && is_label universe l) (nat_lt l (2 ^ 32)) is in
    let second = and_parts (nat_eq x rule) (is_label universe l) first.0 in
    record { label = l; is = ap (λ (n : ℕ). Atom n l) (eqb-true x rule second.0); is_its = second.1; small = ltb-true l (2 ^ 32) first.1 }
atom_is universe rule (Named x s) is = absurd (true≢false (sym is))
atom_is universe rule (Alt k s) is = absurd (true≢false (sym is))
atom_is universe rule (Tup f ss) is = absurd (true≢false (sym is))

-- what follows a word is shorter
pub word_shortens : (text word left : List ℕ) → 0 < length word → text ≡ word ++ left → length left < length text
word_shortens text word left some whole = omega (arith, some, ap length whole ∙ length-append word left)

-- an Epsilon that was read
pub epsilon_read : (rules : Rules) (rule : ℕ) (text word left : List ℕ) → 0 < length word → word ≡ word_or_name rules (codes "Epsilon") rule → text ≡ word ++ left
    → IsLeafRead rules (is_epsilon_of rule) text (Eps rule) left
epsilon_read rules rule text word left some spelled whole =
    record {
      whole = whole ∙ ap (λ (w : List ℕ). w ++ left) spelled;
      shorter = word_shortens text word left some whole;
      few = omega arith;
      only = λ other rest is same.
          let this : other ≡ Eps rule = epsilon_is rule other is in
          let again : text ≡ word ++ rest = same ∙ ap (λ (s : Structure). tagged rules s ++ rest) this ∙ ap (λ (w : List ℕ). w ++ rest) (sym spelled) in
          (this, append_cancel_left word rest left (sym again ∙ whole));
    }

atom_text : (rules : Rules) (universe : Universe) (rule : ℕ) (text word rest : List ℕ) (s : Structure) (atom : AtomIs universe rule s)
    → word ≡ word_or_name rules (codes "Z") rule → text ≡ tagged rules s ++ rest → text ≡ word ++ (label_text atom.label ++ rest)
atom_text rules universe rule text word rest s atom spelled same =
    same ∙ ap (λ (s : Structure). tagged rules s ++ rest) atom.is ∙ append_assoc (word_or_name rules (codes "Z") rule) (label_text atom.label) rest
    ∙ ap (λ (w : List ℕ). w ++ (label_text atom.label ++ rest)) (sym spelled)

-- an atom that was read
pub atom_read : (rules : Rules) (universe : Universe) (rule label : ℕ) (text word behind left : List ℕ) → 0 < length word → word ≡ word_or_name rules (codes "Z") rule → text ≡ word ++ behind
    → IsLabelRead universe behind label left → IsLeafRead rules (is_atom_of universe rule) text (Atom rule label) left
atom_read rules universe rule label text word behind left some spelled first read =
    let shorter = word_shortens text word behind some first in
    let long : length behind ≡ length (label_text label) + length left = ap length read.whole ∙ length-append (label_text label) left in
    record {
      whole = first ∙ ap (λ (bs : List ℕ). word ++ bs) read.whole ∙ sym (append_assoc word (label_text label) left) ∙ ap (λ (w : List ℕ). (w ++ label_text label) ++ left) spelled;
      shorter = omega (arith, shorter, long);
      few = omega arith;
      only = λ other rest is same.
          let atom = atom_is universe rule other is in
          let again = atom_text rules universe rule text word rest other atom spelled same in
          let alike = read.only atom.label rest atom.is_its atom.small (append_cancel_left word behind (label_text atom.label ++ rest) (sym first ∙ again)) in
          (atom.is ∙ ap (Atom rule) alike.0, alike.1);
    }

pub no_atom_label : (rules : Rules) (universe : Universe) (rule : ℕ) (text word behind : List ℕ) → word ≡ word_or_name rules (codes "Z") rule → text ≡ word ++ behind
    → ((label : ℕ) (rest : List ℕ) → IsTrue (is_label universe label) → label < 2 ^ 32 → behind ≡ label_text label ++ rest → ⊥)
    → (s : Structure) (rest : List ℕ) → IsTrue (is_atom_of universe rule s) → text ≡ tagged rules s ++ rest → ⊥
no_atom_label rules universe rule text word behind spelled first none s rest is same =
    let atom = atom_is universe rule s is in
    none atom.label rest atom.is_its atom.small
    (append_cancel_left word behind (label_text atom.label ++ rest) (sym first ∙ atom_text rules universe rule text word rest s atom spelled same))
