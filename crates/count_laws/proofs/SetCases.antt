-- Worked cases of sets, lists without repeats and cycles, by computing.
use Rattle.std.specs.Prelude.{◌≡◌, ℕ, zero, suc, List, [], ◌∷◌, nat_lt, refl}
use Rattle.count_laws.specs.LabelledSets.{labelled_sets, labelled_lists, labelled_cycles}
use Rattle.count_laws.specs.Pointed.{pointed, pointed_subsets}
use Rattle.count_laws.specs.SetNumbers.{number_of_multisets, number_of_subsets, number_avoiding}

-- one block on each number of labels but on none
abbrev blocks : ℕ → ℕ
blocks zero = 0
blocks (suc n) = 1

-- four labels in two blocks, in any order and in a row, and in three around a cycle
two_blocks : labelled_sets blocks 2 4 ≡ 7
two_blocks = refl

two_in_a_row : labelled_lists blocks 2 4 ≡ 14
two_in_a_row = refl

three_around : labelled_cycles blocks 3 4 ≡ 12
three_around = refl

-- the elements are their own sizes
abbrev elements : List ℕ
elements = 1 ∷ 2 ∷ 3 ∷ []

abbrev size : ℕ → ℕ
size n = n

sums_of_four : number_of_multisets size elements 2 4 ≡ 2
sums_of_four = refl

different_summands : number_of_subsets size elements 2 4 ≡ 1
different_summands = refl

-- 1 with 3, and 2 twice: each comes two times
pointed_pairs : pointed nat_lt size elements 2 4 ≡ (1 ∷ 3 ∷ []) ∷ (2 ∷ 2 ∷ []) ∷ (2 ∷ 2 ∷ []) ∷ (1 ∷ 3 ∷ []) ∷ []
pointed_pairs = refl

pointed_summands : pointed_subsets nat_lt size elements 2 4 ≡ (1 ∷ 3 ∷ []) ∷ (1 ∷ 3 ∷ []) ∷ []
pointed_summands = refl

-- of the elements other than 2, none gives 2, and 1 with 3 gives 4
without_two : number_avoiding (number_of_subsets size elements) 2 1 2 ≡ 0
without_two = refl

without_two_again : number_avoiding (number_of_subsets size elements) 2 2 4 ≡ 1
without_two_again = refl
