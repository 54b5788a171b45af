-- A part of the rules of a specification is one too.
use Rattle.std.proofs.Common.{◌≡◌, ℕ, ◌≤◌, true, false, ◌&&◌, nat_le, List, [], ◌∷◌, ◌++◌, length, length-append, IsTrue, refl, sym, ap, subst, ◌∙◌, arith, reverse, append_assoc, sum_by}
use Rattle.std.specs.Prelude.{zip}
use Rattle.std.proofs.lemmas.List.{reverse-append, length-reverse}
use Rattle.std.proofs.lemmas.List.Folds.{list_all-append, list_any-append}
use Rattle.std.proofs.lemmas.List.Sums.{sum_by-cons, sum_by-append}
use Rattle.std.specs.List.{list_all, list_any}
use Rattle.std.proofs.lemmas.Bool.Decides.{nat_tests}
use Rattle.spec_syntax.specs.Word.{is_word}
use Rattle.spec_syntax.specs.Expression.{Expression, preorder, nodes, is_well_formed}
use Rattle.spec_syntax.specs.Rules.{Rules, is_same_name, all_nodes, are_names_distinct, is_spec}
use Rattle.spec_reader.specs.declared.read.Reader.{Reader}
use Rattle.spec_reader.specs.Limits.{repeats}
use Rattle.spec_reader.specs.Machine.{are_distinct, rules_from, is_sound}
use Rattle.spec_reader.proofs.SoundLemmas.{sound-parts}

distinct-front : (xs ys : Rules) → are_names_distinct (xs ++ ys) ≡ true → are_names_distinct xs ≡ true
distinct-front [] ys distinct = refl
distinct-front (x ∷ xs) ys distinct =
    grind (arith, distinct-front xs ys, list_any-append (λ (other : List ℕ × Expression). is_same_name other.0 x.0) xs ys)

nodes-front : (xs ys : Rules) → length (all_nodes xs) ≤ length (all_nodes (xs ++ ys))
nodes-front [] ys = omega arith
nodes-front (x ∷ xs) ys =
    omega (arith, nodes-front xs ys, length-append (preorder x.1) (all_nodes xs), length-append (preorder x.1) (all_nodes (xs ++ ys)))

pub is_spec-front : (xs ys : Rules) → IsTrue (is_spec (xs ++ ys)) → IsTrue (is_spec xs)
is_spec-front xs ys facts =
    grind (
      arith,
      nat_tests,
      distinct-front xs ys,
      list_all-append (λ (rule : List ℕ × Expression). is_word rule.0 && is_well_formed rule.1) xs ys,
      nodes-front xs ys,
      length-append xs ys,
    )

-- the next rule goes on with a specification
pub is_spec-next : (spec whole : Rules) (names others : List (List ℕ)) (rights rest : List Expression) (name : List ℕ) (right : Expression)
    → spec ++ zip names rights ≡ whole → names ≡ name ∷ others → rights ≡ right ∷ rest → IsTrue (is_spec whole) → IsTrue (is_spec (spec ++ (name, right) ∷ []))
is_spec-next spec whole names others rights rest name right split names_are rights_are facts =
    let joined : whole ≡ (spec ++ (name, right) ∷ []) ++ zip others rest =
    sym split ∙ (λ i. spec ++ zip (names_are i) (rights_are i)) ∙ sym (append_assoc spec ((name, right) ∷ []) (zip others rest)) in
    is_spec-front (spec ++ (name, right) ∷ []) (zip others rest) (subst (λ rules. IsTrue (is_spec rules)) joined facts)

any-zip : (names : List (List ℕ)) (rights : List Expression) (name : List ℕ) → repeats names name ≡ false
    → list_any (λ (other : List ℕ × Expression). is_same_name other.0 name) (zip names rights) ≡ false
any-zip [] rights name none = refl
any-zip (n ∷ names) [] name none = refl
any-zip (n ∷ names) (e ∷ rights) name none = grind (arith, any-zip names rights name)

distinct-zip : (names : List (List ℕ)) (rights : List Expression) → are_distinct names ≡ true → are_names_distinct (zip names rights) ≡ true
distinct-zip [] rights distinct = refl
distinct-zip (n ∷ names) [] distinct = refl
distinct-zip (n ∷ names) (e ∷ rights) distinct = grind (arith, distinct-zip names rights, any-zip names rights n)

all-zip : (names : List (List ℕ)) (rights : List Expression) → list_all is_word names ≡ true → list_all is_well_formed rights ≡ true
    → list_all (λ (rule : List ℕ × Expression). is_word rule.0 && is_well_formed rule.1) (zip names rights) ≡ true
all-zip [] rights words well = refl
all-zip (n ∷ names) [] words well = refl
all-zip (n ∷ names) (e ∷ rights) words well = grind (arith, all-zip names rights)

length-zip-le : (names : List (List ℕ)) (rights : List Expression) → length (zip names rights) ≤ length names
length-zip-le [] rights = omega arith
length-zip-le (n ∷ names) [] = omega arith
length-zip-le (n ∷ names) (e ∷ rights) = omega (arith, length-zip-le names rights)

nodes-zip-le : (names : List (List ℕ)) (rights : List Expression) → length (all_nodes (zip names rights)) ≤ sum_by nodes rights
nodes-zip-le [] rights = omega arith
nodes-zip-le (n ∷ names) [] = omega arith
nodes-zip-le (n ∷ names) (e ∷ rights) = omega (arith, nodes-zip-le names rights, length-append (preorder e) (all_nodes (zip names rights)), sum_by-cons nodes e rights)

all-reverse : (rights : List Expression) → list_all is_well_formed rights ≡ true → list_all is_well_formed (reverse rights) ≡ true
all-reverse [] well = refl
all-reverse (e ∷ rights) well = rw (reverse-append (e ∷ []) rights) (grind (arith, all-reverse rights, list_all-append is_well_formed (reverse rights) (e ∷ [])))

sum-reverse : (rights : List Expression) → sum_by nodes (reverse rights) ≡ sum_by nodes rights
sum-reverse [] = refl
sum-reverse (e ∷ rights) =
    ap (sum_by nodes) (reverse-append (e ∷ []) rights) ∙ omega (arith, sum-reverse rights, sum_by-append nodes (reverse rights) (e ∷ []), sum_by-cons nodes e rights, sum_by-cons nodes e [])

-- what a reader keeps is a specification
pub sound-is_spec : (reader : Reader) → is_sound reader ≡ true → is_spec (rules_from reader.seen.names reader.draft.rights) ≡ true
sound-is_spec reader sound =
    let parts = sound-parts reader sound in
    let names = reverse reader.seen.names in
    let rights = reverse reader.draft.rights in
    let distinct : are_names_distinct (zip names rights) ≡ true = distinct-zip names rights (grind (arith, parts.within)) in
    let well : list_all (λ (rule : List ℕ × Expression). is_word rule.0 && is_well_formed rule.1) (zip names rights) ≡ true =
    all-zip names rights (grind (arith, parts.within)) (all-reverse reader.draft.rights parts.holds.rights) in
    let few : nat_le (length (zip names rights)) 64 ≡ true = grind (arith, nat_tests, parts.within, length-zip-le names rights, length-reverse reader.seen.names) in
    let small : nat_le (length (all_nodes (zip names rights))) 128 ≡ true =
    grind (arith, nat_tests, parts.within, nodes-zip-le names rights, sum-reverse reader.draft.rights, parts.holds.count) in
    grind (arith, distinct, well, few, small)
