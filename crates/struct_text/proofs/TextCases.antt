-- Worked cases of texts, by computing.
use Rattle.std.specs.Prelude.{◌≡◌, List, [], ◌∷◌, refl, codes}
use Rattle.spec_syntax.specs.Expression as expr
use Rattle.spec_syntax.specs.Expression.{expressions_of}
use Rattle.spec_syntax.specs.Rules.{Rules}
use Rattle.struct_model.specs.declared.tree.Form5.TheVariants as form
use Rattle.struct_model.specs.Structure.{Structure, Eps, Atom, Named, Alt, Tup, parts_of}
use Rattle.struct_text.specs.Text.{numeral, maple, tagged}

abbrev product : List Structure → Structure
product ss = Tup form.Prod (parts_of ss)

abbrev sequence : List Structure → Structure
sequence ss = Tup form.Sequence (parts_of ss)

-- ---- numerals

numeral_0 : numeral 0 ≡ codes "0"
numeral_0 = refl

numeral_7 : numeral 7 ≡ codes "7"
numeral_7 = refl

numeral_120 : numeral 120 ≡ codes "120"
numeral_120 = refl

-- ---- binary trees: B = Union(Z, Prod(B, B))

abbrev binary : Rules
binary = (codes "B", expr.Union (expressions_of (expr.Atom ∷ expr.Prod (expressions_of (expr.Name (codes "B") ∷ expr.Name (codes "B") ∷ [])) ∷ []))) ∷ []

abbrev leaf : Structure
leaf = Named 1 (Alt 1 (Atom 0 0))

abbrev fork : Structure → Structure → Structure
fork a b = Named 1 (Alt 2 (product (a ∷ b ∷ [])))

text_of_comb : maple binary (fork leaf (fork leaf leaf)) ≡ codes "Prod(Z, Prod(Z, Z))"
text_of_comb = refl

tagged_comb : tagged binary (fork leaf (fork leaf leaf)) ≡ codes "2:Prod(1:Z, 2:Prod(1:Z, 1:Z))"
tagged_comb = refl

-- ---- rules that are words: T = Union(A, Prod(Z, A, E)), A = Atom, E = Epsilon

abbrev worded : Rules
worded =
    (codes "T", expr.Union (expressions_of (expr.Name (codes "A") ∷ expr.Prod (expressions_of (expr.Atom ∷ expr.Name (codes "A") ∷ expr.Name (codes "E") ∷ [])) ∷ [])))
    ∷ (codes "A", expr.Atom)
    ∷ (codes "E", expr.Epsilon)
    ∷ []

abbrev triple : Structure → Structure → Structure → Structure
triple a b c = Named 1 (Alt 2 (product (a ∷ b ∷ c ∷ [])))

text_of_rules : maple worded (triple (Atom 0 0) (Atom 2 0) (Eps 3)) ≡ codes "Prod(Z, A, E)"
text_of_rules = refl

tagged_rules : tagged worded (triple (Atom 0 0) (Atom 2 0) (Eps 3)) ≡ codes "2:Prod(Z, A, E)"
tagged_rules = refl

text_of_words : maple worded (product (Atom 0 0 ∷ Eps 0 ∷ sequence [] ∷ [])) ≡ codes "Prod(Z, Epsilon, Sequence())"
text_of_words = refl

-- ---- labels

labelled_atom : tagged worded (Atom 0 3) ≡ codes "Z[3]"
labelled_atom = refl

labelled_rule : maple worded (Atom 2 12) ≡ codes "A[12]"
labelled_rule = refl

-- ---- a Union within a Union

alternatives_nested : tagged worded (Alt 1 (Alt 12 (Eps 0))) ≡ codes "1:12:Epsilon"
alternatives_nested = refl

alternatives_left_out : maple worded (Alt 1 (Alt 12 (Eps 0))) ≡ codes "Epsilon"
alternatives_left_out = refl
