-- A tagged text, whatever follows it, is of no more than one structure of an expression.
use Rattle.std.proofs.Common.{◌≡◌, ℕ, true, List, [], ◌∷◌, ◌++◌, codes, IsTrue, refl, sym, ap, ap₂, ◌∙◌, subst, append_assoc, eqb, get_or, true≢false}
use Rattle.std.proofs.lemmas.List.{append_cancel_left}
use Rattle.std.proofs.lemmas.Bool.{eqb-true, ltb-true}
use Rattle.spec_syntax.specs.declared.statement.Universe.{Universe}
use Rattle.spec_syntax.specs.declared.statement.Universe.TheVariants.{Labelled, Unlabelled}
use Rattle.spec_syntax.specs.Word.{is_word_byte}
use Rattle.spec_syntax.specs.Expression as expr
use Rattle.spec_syntax.specs.Expression.{Expression}
use Rattle.spec_syntax.specs.Rules.{is_spec}
use Rattle.spec_syntax.specs.Grammar.{Grammar}
use Rattle.struct_model.specs.declared.tree.Form5.{Form5}
use Rattle.struct_model.specs.Structure.{Structure, Eps, Atom, Named, Alt, Tup, Structures, no_parts, more_parts}
use Rattle.struct_model.specs.Membership.{is_of, is_label}
use Rattle.struct_text.specs.declared.form.TextForm.TheVariants.{Tagged}
use Rattle.struct_text.specs.Text.{tagged, numeral, word_or_name, label_text, form_word, parts_text, others_text}
use Rattle.struct_text.specs.Laws.{OneText}
use Rattle.struct_text.proofs.Numerals.{same_numeral_before, same_label_before}
use Rattle.struct_text.proofs.Beginnings.{Starts, tagged_starts}
use Rattle.struct_text.proofs.Alike.{AreOfOne, IsOfSome, PartsAlike, Alike, alike}

-- labels of one universe, before whatever follows
same_label : (universe : Universe) (l m : ℕ) (more others : List ℕ) → is_label universe l ≡ true → is_label universe m ≡ true → label_text l ++ more ≡ label_text m ++ others
    → (l ≡ m) × (more ≡ others)
same_label Unlabelled l m more others is is' same =
    let labels : l ≡ m = eqb-true l 0 is ∙ sym (eqb-true m 0 is') in
    (labels, append_cancel_left (label_text m) more others (subst (λ (k : ℕ). label_text k ++ more ≡ label_text m ++ others) labels same))
same_label Labelled l m more others is is' same = same_label_before l m more others (ltb-true 0 l is) (ltb-true 0 m is') same

-- two texts before whatever follows, that begin alike
behind : (first one other more others : List ℕ) → first ++ one ++ more ≡ first ++ other ++ others → one ++ more ≡ other ++ others
behind first one other more others same =
    append_cancel_left first (one ++ more) (other ++ others) (sym (append_assoc first one more) ∙ same ∙ append_assoc first other others)

-- a text that starts with a letter, a digit or `_` is not what follows the components
no_end : (text more others : List ℕ) → Starts text → codes ")" ++ more ≡ text ++ others → ⊥
no_end text more others starts same =
    let whole : codes ")" ++ more ≡ (starts.byte ∷ starts.bytes) ++ others = same ∙ ap (λ (t : List ℕ). t ++ others) starts.split in
    let head : 41 ≡ starts.byte = cc in true≢false (sym starts.allowed ∙ ap is_word_byte (sym head))

no_comma : (more others : List ℕ) → 41 ∷ more ≡ 44 ∷ others → ⊥
no_comma more others same = true≢false (ap (λ (text : List ℕ). eqb 41 (get_or text 0 0)) same)

module _ (g : Grammar) (spec : IsTrue (is_spec g.rules)) where
  no_component : (s : Structure) (ss : Structures) (more others : List ℕ) → IsOfSome g s → 41 ∷ more ≡ tagged g.rules s ++ others_text Tagged g.rules ss ++ others → ⊥
  no_component s ss more others of same =
      no_end (tagged g.rules s) more (others_text Tagged g.rules ss ++ others) (tagged_starts g spec of.e s of.is) (same ∙ append_assoc (tagged g.rules s) (others_text Tagged g.rules ss) others)

  argument_first : (k : ℕ) (s : Structure) (more : List ℕ) → numeral k ++ codes ":" ++ tagged g.rules s ++ more ≡ numeral k ++ 58 ∷ (tagged g.rules s ++ more)
  argument_first k s more = append_assoc (numeral k ++ codes ":") (tagged g.rules s) more ∙ append_assoc (numeral k) (codes ":") (tagged g.rules s ++ more)

  -- the components behind the form of both
  components : (f : Form5) (ss ts : Structures) (more others : List ℕ) → tagged g.rules (Tup f ss) ++ more ≡ tagged g.rules (Tup f ts) ++ others
      → parts_text Tagged g.rules ss ++ 41 ∷ more ≡ parts_text Tagged g.rules ts ++ 41 ∷ others
  components f ss ts more others same =
      let first : List ℕ = form_word f ++ codes "(" in
      let one : List ℕ = parts_text Tagged g.rules ss in
      let other : List ℕ = parts_text Tagged g.rules ts in
      behind first one other (41 ∷ more) (41 ∷ others) (sym (append_assoc (first ++ one) (codes ")") more) ∙ same ∙ append_assoc (first ++ other) (codes ")") others)

  -- a component and those behind it
  same_both : (s t : Structure) (ss ts : Structures) (more others : List ℕ)
      → ((rest rests : List ℕ) → tagged g.rules s ++ rest ≡ tagged g.rules t ++ rests → (s ≡ t) × (rest ≡ rests))
      → (others_text Tagged g.rules ss ++ 41 ∷ more ≡ others_text Tagged g.rules ts ++ 41 ∷ others → (ss ≡ ts) × (more ≡ others))
      → tagged g.rules s ++ others_text Tagged g.rules ss ++ 41 ∷ more ≡ tagged g.rules t ++ others_text Tagged g.rules ts ++ 41 ∷ others
      → (more_parts s ss ≡ more_parts t ts) × (more ≡ others)
  same_both s t ss ts more others first later same =
      let here = first (others_text Tagged g.rules ss ++ 41 ∷ more) (others_text Tagged g.rules ts ++ 41 ∷ others)
      (sym (append_assoc (tagged g.rules s) (others_text Tagged g.rules ss) (41 ∷ more)) ∙ same ∙ append_assoc (tagged g.rules t) (others_text Tagged g.rules ts) (41 ∷ others)) in
      let rest = later here.1 in (ap₂ more_parts here.0 rest.0, rest.1)

  of_one : (s t : Structure) → AreOfOne g s t → Alike g s t
  of_one s t of = alike g of.e s t of.first of.second

  mutual
    -- structures that are alike, before whatever follows
    pub same_structure : (s t : Structure) → Alike g s t → (more others : List ℕ) → tagged g.rules s ++ more ≡ tagged g.rules t ++ others → (s ≡ t) × (more ≡ others)
    same_structure (Eps x) (Eps y) both more others same = (
      ap Eps both,
      append_cancel_left (word_or_name g.rules (codes "Epsilon") y) more others
          (subst (λ (n : ℕ). word_or_name g.rules (codes "Epsilon") n ++ more ≡ word_or_name g.rules (codes "Epsilon") y ++ others) both same),
    )
    same_structure (Atom x l) (Atom y m) both more others same =
        let word : List ℕ = word_or_name g.rules (codes "Z") y in
        let texts : word ++ label_text l ++ more ≡ word ++ label_text m ++ others =
        subst (λ (n : ℕ). word_or_name g.rules (codes "Z") n ++ label_text l ++ more ≡ word ++ label_text m ++ others) both.0 same in
        let rest = same_label g.universe l m more others both.1 both.2 (behind word (label_text l) (label_text m) more others texts) in
        (ap₂ Atom both.0 rest.0, rest.1)
    same_structure (Named x s) (Named y t) both more others same =
        let rest = same_structure s t (of_one s t both.1) more others same in (ap₂ Named both.0 rest.0, rest.1)
    same_structure (Alt k s) (Alt j t) both more others same =
        let texts : numeral k ++ 58 ∷ (tagged g.rules s ++ more) ≡ numeral j ++ 58 ∷ (tagged g.rules t ++ others) =
        sym (argument_first k s more) ∙ same ∙ argument_first j t others in
        let numbers = same_numeral_before k j 58 58 (tagged g.rules s ++ more) (tagged g.rules t ++ others) refl refl texts in
        let rest = same_structure s t (of_one s t (both numbers.0)) more others numbers.2 in (ap₂ Alt numbers.0 rest.0, rest.1)
    same_structure (Tup f ss) (Tup h ts) both more others same =
        let texts = components h ss ts more others (subst (λ (form : Form5). tagged g.rules (Tup form ss) ++ more ≡ tagged g.rules (Tup h ts) ++ others) both.0 same) in
        let rest = same_parts ss ts both.1 more others texts in (ap₂ Tup both.0 rest.0, rest.1)
    same_structure s t both more others same = absurd both

    -- all components of a structure
    pub same_parts : (ss ts : Structures) → PartsAlike g ss ts → (more others : List ℕ) → parts_text Tagged g.rules ss ++ 41 ∷ more ≡ parts_text Tagged g.rules ts ++ 41 ∷ others
        → (ss ≡ ts) × (more ≡ others)
    same_parts no_parts no_parts both more others same = (refl, cc)
    same_parts no_parts (more_parts t ts) both more others same = absurd (no_component t ts more (41 ∷ others) both same)
    same_parts (more_parts s ss) no_parts both more others same = absurd (no_component s ss others (41 ∷ more) both (sym same))
    same_parts (more_parts s ss) (more_parts t ts) both more others same =
        same_both s t ss ts more others (same_structure s t (of_one s t both.0)) (same_others ss ts both.1 more others) same

    -- the components behind one
    pub same_others : (ss ts : Structures) → PartsAlike g ss ts → (more others : List ℕ) → others_text Tagged g.rules ss ++ 41 ∷ more ≡ others_text Tagged g.rules ts ++ 41 ∷ others
        → (ss ≡ ts) × (more ≡ others)
    same_others no_parts no_parts both more others same = (refl, cc)
    same_others no_parts (more_parts t ts) both more others same = absurd (no_comma more _ same)
    same_others (more_parts s ss) no_parts both more others same = absurd (no_comma others _ (sym same))
    same_others (more_parts s ss) (more_parts t ts) both more others same =
        let texts : tagged g.rules s ++ others_text Tagged g.rules ss ++ 41 ∷ more ≡ tagged g.rules t ++ others_text Tagged g.rules ts ++ 41 ∷ others = cc in
        same_both s t ss ts more others (same_structure s t (of_one s t both.0)) (same_others ss ts both.1 more others) texts

  -- two structures of one expression with the same tagged text before whatever follows
  pub same_before : (e : Expression) (s t : Structure) → is_of g e s ≡ true → is_of g e t ≡ true → (more others : List ℕ) → tagged g.rules s ++ more ≡ tagged g.rules t ++ others
      → (s ≡ t) × (more ≡ others)
  same_before e s t of of' more others same = same_structure s t (alike g e s t of of') more others same

pub one_text : OneText
one_text g spec name s t of of' same = (same_before g spec (expr.Name name) s t of of' [] [] (ap (λ (text : List ℕ). text ++ []) same)).0
