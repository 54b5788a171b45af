-- Worked cases of splits and of what is listed, by computing.
use Rattle.std.specs.Prelude.{◌≡◌, ℕ, zero, suc, List, [], ◌∷◌, map, length, Some, None, refl}
use Rattle.struct_model.specs.Structure.{Structure, Eps, Atom, Named, Alt}
use Rattle.splits.specs.Splits.{Split, splits}
use Rattle.listing_laws.specs.Lister.{list_epsilon, list_atom, list_no_components, alternatives, by_splits, list_repeated, product, sequence, named}
use Rattle.listing_laws.specs.Relabelled.{relabelled}

abbrev split : List ℕ → List ℕ → Split
split part rest = record { part = part; rest = rest }

splits_of_zeros : splits (0 ∷ 0 ∷ []) ≡ split [] (0 ∷ 0 ∷ []) ∷ split (0 ∷ []) (0 ∷ []) ∷ split (0 ∷ 0 ∷ []) [] ∷ []
splits_of_zeros = refl

splits_of_labels : splits (1 ∷ 2 ∷ 4 ∷ []) ≡
    split [] (1 ∷ 2 ∷ 4 ∷ []) ∷ split (1 ∷ []) (2 ∷ 4 ∷ []) ∷ split (1 ∷ 2 ∷ []) (4 ∷ []) ∷ split (1 ∷ 2 ∷ 4 ∷ []) [] ∷ split (1 ∷ 4 ∷ []) (2 ∷ [])
    ∷ split (2 ∷ []) (1 ∷ 4 ∷ []) ∷ split (2 ∷ 4 ∷ []) (1 ∷ []) ∷ split (4 ∷ []) (1 ∷ 2 ∷ []) ∷ []
splits_of_labels = refl

splits_of_repeats : splits (1 ∷ 1 ∷ 2 ∷ []) ≡
    split [] (1 ∷ 1 ∷ 2 ∷ []) ∷ split (1 ∷ []) (1 ∷ 2 ∷ []) ∷ split (1 ∷ 1 ∷ []) (2 ∷ []) ∷ split (1 ∷ 1 ∷ 2 ∷ []) [] ∷ split (1 ∷ 2 ∷ []) (1 ∷ []) ∷ split (2 ∷ []) (1 ∷ 1 ∷ []) ∷ []
splits_of_repeats = refl

-- A = Union(Z, Prod(Z, Z))
abbrev z : Structure
z = Atom 0 0

abbrev one : Structure
one = Alt 1 z

abbrev two : Structure
two = Alt 2 (product (z ∷ z ∷ []))

abbrev one_or_two : List ℕ → List Structure
one_or_two u = alternatives 1 (list_atom u ∷ map product (by_splits list_atom (by_splits list_atom list_no_components) u) ∷ [])

one_of_size_1 : one_or_two (0 ∷ []) ≡ one ∷ []
one_of_size_1 = refl

two_of_size_2 : one_or_two (0 ∷ 0 ∷ []) ≡ two ∷ []
two_of_size_2 = refl

-- Prod(A, Union(Z, Z))
abbrev either : List ℕ → List Structure
either u = alternatives 1 (list_atom u ∷ list_atom u ∷ [])

abbrev pairs : List ℕ → List Structure
pairs u = map product (by_splits one_or_two (by_splits either list_no_components) u)

pairs_of_size_3 : pairs (0 ∷ 0 ∷ 0 ∷ []) ≡ product (two ∷ Alt 1 z ∷ []) ∷ product (two ∷ Alt 2 z ∷ []) ∷ []
pairs_of_size_3 = refl

pairs_of_size_1 : pairs (0 ∷ []) ≡ []
pairs_of_size_1 = refl

-- B = Union(Z, Prod(B, B)), with at most so many Bs inside one another
abbrev binary : ℕ → List ℕ → List Structure
binary zero u = []
binary (suc depth) u =
    map (named 1) (alternatives 1 (list_atom u ∷ map product (by_splits (binary depth) (by_splits (binary depth) list_no_components) u) ∷ []))

abbrev leaf : Structure
leaf = Named 1 (Alt 1 z)

abbrev fork : Structure → Structure → Structure
fork s t = Named 1 (Alt 2 (product (s ∷ t ∷ [])))

binary_of_size_3 : binary 5 (0 ∷ 0 ∷ 0 ∷ []) ≡ fork leaf (fork leaf leaf) ∷ fork (fork leaf leaf) leaf ∷ []
binary_of_size_3 = refl

binary_to_depth_2 : binary 2 (0 ∷ 0 ∷ 0 ∷ []) ≡ []
binary_to_depth_2 = refl

-- rule 2 = Atom, rule 3 = Epsilon, rule 4 is the name of rule 3
named_atom : map (named 2) (list_atom (0 ∷ [])) ≡ Atom 2 0 ∷ []
named_atom = refl

named_epsilon : map (named 3) (list_epsilon []) ≡ Eps 3 ∷ []
named_epsilon = refl

name_of_epsilon : map (named 4) (map (named 3) (list_epsilon [])) ≡ Named 4 (Eps 3) ∷ []
name_of_epsilon = refl

-- Sequence(A, 2 >= card)
abbrev short : List ℕ → List Structure
short u = map sequence (list_repeated one_or_two (length u) (record { low = 0; high = Some 2 }) u)

short_of_size_3 : short (0 ∷ 0 ∷ 0 ∷ []) ≡ sequence (one ∷ two ∷ []) ∷ sequence (two ∷ one ∷ []) ∷ []
short_of_size_3 = refl

short_of_size_5 : short (0 ∷ 0 ∷ 0 ∷ 0 ∷ 0 ∷ []) ≡ []
short_of_size_5 = refl

short_of_size_0 : short [] ≡ sequence [] ∷ []
short_of_size_0 = refl

-- Sequence(Z, card >= 2), labelled
abbrev a : ℕ → Structure
a label = Atom 0 label

abbrev ordered : List ℕ → List Structure
ordered u = map sequence (list_repeated list_atom (length u) (record { low = 2; high = None }) u)

ordered_of_size_3 : ordered (1 ∷ 2 ∷ 3 ∷ []) ≡
    sequence (a 1 ∷ a 2 ∷ a 3 ∷ []) ∷ sequence (a 1 ∷ a 3 ∷ a 2 ∷ []) ∷ sequence (a 2 ∷ a 1 ∷ a 3 ∷ [])
    ∷ sequence (a 2 ∷ a 3 ∷ a 1 ∷ []) ∷ sequence (a 3 ∷ a 1 ∷ a 2 ∷ []) ∷ sequence (a 3 ∷ a 2 ∷ a 1 ∷ []) ∷ []
ordered_of_size_3 = refl

ordered_of_size_1 : ordered (1 ∷ []) ≡ []
ordered_of_size_1 = refl

ordered_elsewhere : ordered (3 ∷ 7 ∷ []) ≡ map (relabelled (3 ∷ 7 ∷ [])) (ordered (1 ∷ 2 ∷ []))
ordered_elsewhere = refl

labels_in_places : relabelled (3 ∷ 7 ∷ []) (product (a 2 ∷ a 1 ∷ [])) ≡ product (a 7 ∷ a 3 ∷ [])
labels_in_places = refl
