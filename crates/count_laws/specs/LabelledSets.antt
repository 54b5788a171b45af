-- In how many ways n labels can be shared out among so many components: in any order, in a row and around a cycle.
use Rattle.std.specs.Prelude.{ℕ, zero, suc}
use Rattle.count_laws.specs.Convolution.{shifted, convolved}

-- no components, on no label
abbrev pub no_components : ℕ → ℕ
no_components zero = 1
no_components (suc n) = 0

-- The number of sets of c components on n labels, where a tells that of the components on so many labels. The first label falls to
-- one of the components, and the others are a set on the labels that it leaves.
abbrev pub labelled_sets : (ℕ → ℕ) → ℕ → ℕ → ℕ
labelled_sets a zero n = no_components n
labelled_sets a (suc c) zero = 0
labelled_sets a (suc c) (suc n) = convolved (shifted a) (labelled_sets a c) n

-- the number of lists of c components
abbrev pub labelled_lists : (ℕ → ℕ) → ℕ → ℕ → ℕ
labelled_lists a zero n = no_components n
labelled_lists a (suc c) n = convolved a (labelled_lists a c) n

-- The number of cycles of c components, of one at least. The component to which the first label falls is said first, and the others
-- follow it as a list.
abbrev pub labelled_cycles : (ℕ → ℕ) → ℕ → ℕ → ℕ
labelled_cycles a zero n = 0
labelled_cycles a (suc c) zero = 0
labelled_cycles a (suc c) (suc n) = convolved (shifted a) (labelled_lists a c) n
