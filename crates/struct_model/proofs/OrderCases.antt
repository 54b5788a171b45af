-- Worked cases of the order, by computing.
use Rattle.std.specs.Prelude.{◌≡◌, List, [], ◌∷◌, refl}
use Rattle.std.specs.declared.cmp.Ordering.TheVariants.{Less, Equal, Greater}
use Rattle.struct_model.specs.declared.tree.Form5.TheVariants as form
use Rattle.struct_model.specs.Structure.{Structure, Eps, Atom, Named, Alt, Tup, parts_of}
use Rattle.struct_model.specs.Order.{order, list_order}
use Rattle.struct_model.proofs.MemberCases.{leaf, fork}

abbrev product : List Structure → Structure
product ss = Tup form.Prod (parts_of ss)

trees_of_size_3 : order (fork leaf (fork leaf leaf)) (fork (fork leaf leaf) leaf) ≡ Less
trees_of_size_3 = refl

trees_of_size_3_back : order (fork (fork leaf leaf) leaf) (fork leaf (fork leaf leaf)) ≡ Greater
trees_of_size_3_back = refl

tree_itself : order (fork leaf (fork leaf leaf)) (fork leaf (fork leaf leaf)) ≡ Equal
tree_itself = refl

-- the smaller size comes first, whatever stands outside
smaller_size : order (product (Atom 9 0 ∷ [])) (Named 1 (Atom 0 0)) ≡ Greater
smaller_size = refl

smaller_size_first : order (product (Atom 9 0 ∷ [])) (product (Atom 0 0 ∷ Atom 0 0 ∷ [])) ≡ Less
smaller_size_first = refl

-- the labels in ascending order decide before what carries them
least_label : order (product (Atom 0 3 ∷ Atom 0 1 ∷ [])) (product (Atom 0 2 ∷ Atom 0 3 ∷ [])) ≡ Less
least_label = refl

label_prefix : order (product (Atom 0 2 ∷ Atom 0 1 ∷ [])) (product (Atom 0 1 ∷ [])) ≡ Greater
label_prefix = refl

eps_before_named : order (Eps 9) (Named 1 (Eps 0)) ≡ Less
eps_before_named = refl

atom_before_named : order (Atom 9 0) (Named 1 (Atom 0 0)) ≡ Less
atom_before_named = refl

named_before_alt : order (Named 9 (Eps 0)) (Alt 1 (Eps 0)) ≡ Less
named_before_alt = refl

alt_before_list : order (Alt 9 (Eps 0)) (product []) ≡ Less
alt_before_list = refl

rule_before_inside : order (Named 1 (Alt 2 (Eps 0))) (Named 2 (Alt 1 (Eps 0))) ≡ Less
rule_before_inside = refl

inside_after_rule : order (Named 1 (Alt 2 (Eps 0))) (Named 1 (Alt 1 (Eps 0))) ≡ Greater
inside_after_rule = refl

different_forms : order (Tup form.Sequence (parts_of (Atom 9 0 ∷ []))) (Tup form.Set (parts_of (Atom 0 0 ∷ []))) ≡ Less
different_forms = refl

different_lengths : order (product (Eps 0 ∷ [])) (product (Eps 0 ∷ Eps 0 ∷ [])) ≡ Less
different_lengths = refl

first_component : order (product (Eps 1 ∷ [])) (product (Eps 0 ∷ Eps 0 ∷ [])) ≡ Greater
first_component = refl

list_prefix : list_order (Eps 0 ∷ []) (Eps 0 ∷ Eps 0 ∷ []) ≡ Less
list_prefix = refl

list_from_left : list_order (Eps 1 ∷ Eps 0 ∷ []) (Eps 0 ∷ Eps 1 ∷ []) ≡ Greater
list_from_left = refl
