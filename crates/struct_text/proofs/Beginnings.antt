-- What tagged texts begin with: a letter, a digit or `_`.
use Rattle.std.proofs.Common.{◌≡◌, ℕ, zero, suc, true, ◌&&◌, ◌||◌, List, [], ◌∷◌, ◌++◌, codes, nat_eq, Some, IsTrue, refl, sym, ap, subst, arith, true≢false}
use Rattle.std.specs.List.{list_all}
use Rattle.std.proofs.lemmas.Bool.{and_parts, or_right}
use Rattle.lists.proofs.Tests.{passes}
use Rattle.spec_syntax.specs.Word.{is_word, is_word_start, is_word_byte, is_digit}
use Rattle.spec_syntax.specs.Expression as expr
use Rattle.spec_syntax.specs.Expression.{Expression, is_well_formed}
use Rattle.spec_syntax.specs.Rules.{Rules, symbol, is_spec}
use Rattle.spec_syntax.specs.Grammar.{Grammar}
use Rattle.spec_syntax.proofs.RulesLemmas.{own_name, symbol-within}
use Rattle.spec_syntax.proofs.RuleNames.{name_own}
use Rattle.struct_model.specs.declared.tree.Form5.{Form5}
use Rattle.struct_model.specs.declared.tree.Form5.TheVariants as form
use Rattle.struct_model.specs.Structure.{Structure, Eps, Atom, Named, Alt, Tup, Structures}
use Rattle.struct_model.specs.Membership.{is_of, is_atom, is_epsilon, names, is_label}
use Rattle.well_founded.proofs.LeastLaws.{rule_of}
use Rattle.struct_text.specs.declared.form.TextForm.TheVariants.{Tagged}
use Rattle.struct_text.specs.Text.{tagged, numeral, word_or_name, label_text, form_word, parts_text}
use Rattle.struct_text.proofs.Numerals.{numeral_starts}
use Rattle.struct_text.proofs.Containers.{form_of, many_is}

-- a text that begins with a letter, a digit or `_`
pub record Starts (text : List ℕ) : Type 0 where
  pub byte : ℕ
  pub bytes : List ℕ
  pub split : text ≡ byte ∷ bytes
  pub allowed : is_word_byte byte ≡ true

before : (text more : List ℕ) → Starts text → Starts (text ++ more)
before text more starts = record { byte = starts.byte; bytes = starts.bytes ++ more; split = ap (λ (t : List ℕ). t ++ more) starts.split; allowed = starts.allowed }

word_starts : (word : List ℕ) → is_word word ≡ true → Starts word
word_starts [] word = absurd (true≢false (sym word))
word_starts (b ∷ bs) word = record { byte = b; bytes = bs; split = refl; allowed = ap (λ a. a || is_digit b) (and_parts (is_word_start b) (list_all is_word_byte bs) word).0 }

-- a word that is a rule's name, by its number
pub name_starts : (rules : Rules) (name : List ℕ) (n : ℕ) → IsTrue (is_spec rules) → symbol rules name ≡ Some n → Starts name
name_starts rules name n spec found =
    let own = own_name rules name n found in
    let words : list_all (λ rule. is_word rule.0 && is_well_formed rule.1) rules ≡ true = grind (arith, spec) in
    word_starts name (and_parts (is_word name) (is_well_formed own.0) (passes (λ (rule : List ℕ × Expression). is_word rule.0 && is_well_formed rule.1) (name, own.0) rules words own.1)).0

-- the number of a rule is above 0, so its name is written
pub written_name : (rules : Rules) (word name : List ℕ) (n : ℕ) → symbol rules name ≡ Some n → word_or_name rules word n ≡ name
written_name rules word name zero found = absurd (omega (arith, (symbol-within rules name zero found).0))
written_name rules word name (suc n) found = name_own rules name (suc n) found

word_or_name_starts : (rules : Rules) (word name : List ℕ) (n : ℕ) → IsTrue (is_spec rules) → symbol rules name ≡ Some n → Starts (word_or_name rules word n)
word_or_name_starts rules word name n spec found = subst Starts (sym (written_name rules word name n found)) (name_starts rules name n spec found)

bare_starts : (rules : Rules) (word : List ℕ) (n : ℕ) → Starts word → nat_eq n 0 ≡ true → Starts (word_or_name rules word n)
bare_starts rules word zero starts bare = starts
bare_starts rules word (suc n) starts bare = absurd (grind (arith, bare))

form_starts : (f : Form5) → Starts (form_word f)
form_starts form.Prod = word_starts (codes "Prod") refl
form_starts form.Sequence = word_starts (codes "Sequence") refl
form_starts form.Set = word_starts (codes "Set") refl
form_starts form.PowerSet = word_starts (codes "PowerSet") refl
form_starts form.Cycle = word_starts (codes "Cycle") refl

tuple_starts : (rules : Rules) (f : Form5) (ss : Structures) → Starts (tagged rules (Tup f ss))
tuple_starts rules f ss =
    before (form_word f ++ codes "(" ++ parts_text Tagged rules ss) (codes ")")
    (before (form_word f ++ codes "(") (parts_text Tagged rules ss) (before (form_word f) (codes "(") (form_starts f)))

numeral_first : (k : ℕ) → Starts (numeral k)
numeral_first k =
    let digit = numeral_starts k in record { byte = digit.0; bytes = digit.1; split = digit.2; allowed = or_right (is_word_start digit.0) (is_digit digit.0) digit.3 }

module _ (g : Grammar) (spec : IsTrue (is_spec g.rules)) where
  -- the tagged text of a structure of an expression
  pub tagged_starts : (e : Expression) (s : Structure) → is_of g e s ≡ true → Starts (tagged g.rules s)
  tagged_starts (expr.Many kind e card) s of =
      let many = many_is g kind e card s of in subst (λ (t : Structure). Starts (tagged g.rules t)) (sym many.is) (tuple_starts g.rules (form_of kind) many.parts)
  tagged_starts expr.Epsilon (Eps x) of = bare_starts g.rules (codes "Epsilon") x (word_starts (codes "Epsilon") refl) of
  tagged_starts (expr.Name name) (Eps x) of = word_or_name_starts g.rules (codes "Epsilon") name x spec (rule_of g name x is_epsilon of).numbered
  tagged_starts e (Eps x) of = absurd (true≢false (sym of))
  tagged_starts expr.Atom (Atom x l) of =
      before _ (label_text l) (bare_starts g.rules (codes "Z") x (word_starts (codes "Z") refl) (and_parts (nat_eq x 0) (is_label g.universe l) of).0)
  tagged_starts (expr.Name name) (Atom x l) of =
      before _ (label_text l) (word_or_name_starts g.rules (codes "Z") name x spec (rule_of g name x is_atom (and_parts (names g name x is_atom) (is_label g.universe l) of).0).numbered)
  tagged_starts e (Atom x l) of = absurd (true≢false (sym of))
  tagged_starts (expr.Name name) (Named x s) of =
      let rule = rule_of g name x _ of in tagged_starts rule.right s (and_parts _ _ rule.holds).1
  tagged_starts e (Named x s) of = absurd (true≢false (sym of))
  tagged_starts e (Alt k s) of = before (numeral k ++ codes ":") (tagged g.rules s) (before (numeral k) (codes ":") (numeral_first k))
  tagged_starts e (Tup f ss) of = tuple_starts g.rules f ss
