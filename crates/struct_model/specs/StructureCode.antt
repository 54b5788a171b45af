-- A structure as a list of words: the steps that build it on a stack of lists of structures.
use Rattle.std.specs.Prelude.{◌≡◌, ℕ, zero, suc, List, [], ◌∷◌, refl}
use Rattle.std.proofs.Common.{ap, ◌∙◌}
use Rattle.std.specs.Coded.{Coded, code_by, coded_list, coded_ℕ}
use Rattle.struct_model.specs.declared.tree.Form5.{Form5}
use Rattle.struct_model.specs.declared.tree.Form5.TheVariants.{Prod, Sequence, Set, PowerSet, Cycle}
use Rattle.struct_model.specs.Structure.{Structure, Eps, Atom, Named, Alt, Tup, Structures, no_parts, more_parts}
use Rattle.struct_model.specs.Order.{form_rank}

abbrev pub form_at : ℕ → Form5
form_at zero = Prod
form_at (suc zero) = Sequence
form_at (suc (suc zero)) = Set
form_at (suc (suc (suc zero))) = PowerSet
form_at (suc (suc (suc (suc _)))) = Cycle

-- the steps: to begin a list, and to put a structure in front of the list on top
abbrev mutual
  pub steps : Structure → List (List ℕ) → List (List ℕ)
  steps (Eps rule) more = (1 ∷ rule ∷ []) ∷ more
  steps (Atom rule label) more = (2 ∷ rule ∷ label ∷ []) ∷ more
  steps (Named rule inside) more = (0 ∷ []) ∷ steps inside ((3 ∷ rule ∷ []) ∷ more)
  steps (Alt argument inside) more = (0 ∷ []) ∷ steps inside ((4 ∷ argument ∷ []) ∷ more)
  steps (Tup form parts) more = (0 ∷ []) ∷ steps_of_parts parts ((5 ∷ form_rank form ∷ []) ∷ more)

  pub steps_of_parts : Structures → List (List ℕ) → List (List ℕ)
  steps_of_parts no_parts more = more
  steps_of_parts (more_parts s ss) more = steps_of_parts ss (steps s more)

abbrev pub put : Structure → List Structures → List Structures
put s [] = []
put s (ss ∷ below) = more_parts s ss ∷ below

-- puts what is made of the list on top in front of the next list
abbrev pub wrap : (Structures → Structure) → List Structures → List Structures
wrap f [] = []
wrap f (ss ∷ below) = put (f ss) below

abbrev pub first_of : Structures → Structure
first_of no_parts = Eps 0
first_of (more_parts s _) = s

-- the first number of a list, or 0
abbrev pub number_of : List ℕ → ℕ
number_of [] = 0
number_of (n ∷ _) = n

abbrev pub rest_of : List ℕ → List ℕ
rest_of [] = []
rest_of (_ ∷ ns) = ns

abbrev pub step : List ℕ → List Structures → List Structures
step [] stack = stack
step (zero ∷ _) stack = no_parts ∷ stack
step (suc zero ∷ ns) stack = put (Eps (number_of ns)) stack
step (suc (suc zero) ∷ ns) stack = put (Atom (number_of ns) (number_of (rest_of ns))) stack
step (suc (suc (suc zero)) ∷ ns) stack = wrap (λ ss. Named (number_of ns) (first_of ss)) stack
step (suc (suc (suc (suc zero))) ∷ ns) stack = wrap (λ ss. Alt (number_of ns) (first_of ss)) stack
step (suc (suc (suc (suc (suc _)))) ∷ ns) stack = wrap (λ ss. Tup (form_at (number_of ns)) ss) stack

abbrev pub run : List (List ℕ) → List Structures → List Structures
run [] stack = stack
run (word ∷ words) stack = run words (step word stack)

abbrev pub top : List Structures → Structure
top [] = Eps 0
top (ss ∷ _) = first_of ss

abbrev pub joined : Structures → Structures → Structures
joined no_parts others = others
joined (more_parts s ss) others = more_parts s (joined ss others)

joined-none : (ss : Structures) → joined ss no_parts ≡ ss
joined-none no_parts = refl
joined-none (more_parts s ss) = λ i. more_parts s (joined-none ss i)

form_back : (form : Form5) → form_at (form_rank form) ≡ form
form_back Prod = refl
form_back Sequence = refl
form_back Set = refl
form_back PowerSet = refl
form_back Cycle = refl

mutual
  pub run-steps : (s : Structure) (more : List (List ℕ)) (ss : Structures) (below : List Structures) → run (steps s more) (ss ∷ below) ≡ run more (more_parts s ss ∷ below)
  run-steps (Eps rule) more ss below = refl
  run-steps (Atom rule label) more ss below = refl
  run-steps (Named rule inside) more ss below = run-steps inside ((3 ∷ rule ∷ []) ∷ more) no_parts (ss ∷ below)
  run-steps (Alt argument inside) more ss below = run-steps inside ((4 ∷ argument ∷ []) ∷ more) no_parts (ss ∷ below)
  run-steps (Tup form parts) more ss below =
      run-steps_of_parts parts ((5 ∷ form_rank form ∷ []) ∷ more) no_parts (ss ∷ below) ∙ (λ i. run more (more_parts (Tup (form_back form i) (joined-none parts i)) ss ∷ below))

  pub run-steps_of_parts : (parts : Structures) (more : List (List ℕ)) (ss : Structures) (below : List Structures) → run (steps_of_parts parts more) (ss ∷ below) ≡ run more (joined parts ss ∷ below)
  run-steps_of_parts no_parts more ss below = refl
  run-steps_of_parts (more_parts s parts) more ss below = run-steps_of_parts parts (steps s more) ss below ∙ run-steps s more (joined parts ss) below

abbrev pub structure_code : Coded Structure
structure_code = code_by (List (List ℕ)) (coded_list (coded_list coded_ℕ)) (λ s. steps s []) (λ words. top (run words (no_parts ∷ []))) (λ s. ap top (run-steps s [] no_parts []))
