-- The texts of structures, in Maple's form and in the tagged form.
use Rattle.std.specs.Prelude.{ℕ, zero, suc, ◌+◌, List, [], ◌++◌, codes, map}
use Rattle.std.specs.Int.Digits.{digits_of}
use Rattle.spec_syntax.specs.Rules.{Rules, rule_name}
use Rattle.struct_model.specs.declared.tree.Form5.{Form5}
use Rattle.struct_model.specs.declared.tree.Form5.TheVariants as form
use Rattle.struct_model.specs.Structure.{Structure, Eps, Atom, Named, Alt, Tup, Structures, no_parts, more_parts}
use Rattle.struct_text.specs.declared.form.TextForm.{TextForm}
use Rattle.struct_text.specs.declared.form.TextForm.TheVariants.{Maple, Tagged}

-- the number in decimal digits without leading zeros, however great it is
abbrev pub numeral : ℕ → List ℕ
numeral zero = codes "0"
numeral (suc n) = map (λ d. 48 + d) (digits_of 10 (suc n))

-- the word itself, or the name of the rule that stands for it
abbrev pub word_or_name : Rules → List ℕ → ℕ → List ℕ
word_or_name rules word zero = word
word_or_name rules word (suc n) = rule_name rules (suc n)

-- the label in brackets, and nothing for an unlabelled atom
abbrev pub label_text : ℕ → List ℕ
label_text zero = []
label_text (suc l) = codes "[" ++ numeral (suc l) ++ codes "]"

abbrev pub form_word : Form5 → List ℕ
form_word form.Prod = codes "Prod"
form_word form.Sequence = codes "Sequence"
form_word form.Set = codes "Set"
form_word form.PowerSet = codes "PowerSet"
form_word form.Cycle = codes "Cycle"

-- which argument of a Union was taken: its number and a colon in the tagged form, and nothing in Maple's
abbrev pub argument_text : TextForm → ℕ → List ℕ
argument_text Maple k = []
argument_text Tagged k = numeral k ++ codes ":"

abbrev mutual
  -- the text, which leaves out the rules that were passed
  pub text : TextForm → Rules → Structure → List ℕ
  text shown rules (Eps x) = word_or_name rules (codes "Epsilon") x
  text shown rules (Atom x l) = word_or_name rules (codes "Z") x ++ label_text l
  text shown rules (Named x s) = text shown rules s
  text shown rules (Alt k s) = argument_text shown k ++ text shown rules s
  text shown rules (Tup f ss) = form_word f ++ codes "(" ++ parts_text shown rules ss ++ codes ")"

  -- the texts of the components, a comma and a space between them
  pub parts_text : TextForm → Rules → Structures → List ℕ
  parts_text shown rules no_parts = []
  parts_text shown rules (more_parts s ss) = text shown rules s ++ others_text shown rules ss

  -- the same behind a component
  pub others_text : TextForm → Rules → Structures → List ℕ
  others_text shown rules no_parts = []
  others_text shown rules (more_parts s ss) = codes ", " ++ text shown rules s ++ others_text shown rules ss

-- the text in Maple's form, in which two structures may look alike
abbrev pub maple : Rules → Structure → List ℕ
maple = text Maple

-- the text that tells the arguments that were taken too
abbrev pub tagged : Rules → Structure → List ℕ
tagged = text Tagged
