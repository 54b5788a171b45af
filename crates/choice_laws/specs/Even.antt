-- Choice trees that are even over a list: each element of it is reached by the same share of all choices.
use Rattle.std.specs.Prelude.{◌≡◌, ◌⊎◌, ◌<◌, ℕ, ◌*◌, List, map, length}
use Rattle.std.specs.List.{sum}
use Rattle.lists.specs.Enumeration.{IsIn}
use Rattle.choice_laws.specs.Trees.{Tree, end, step, Branches, no_branches, more_branches}
use Rattle.choice_laws.specs.Shares.{number_mean}

abbrev mutual
  -- an end of the tree holds it
  pub IsEnd : {X : Type 0} → X → Tree X → Type 0
  IsEnd x (end y) = x ≡ y
  IsEnd x (step branches) = IsEndOf x branches

  pub IsEndOf : {X : Type 0} → X → Branches X → Type 0
  IsEndOf x no_branches = ⊥
  IsEndOf x (more_branches weight tree more) = IsEnd x tree ⊎ IsEndOf x more

abbrev mutual
  -- each step has a branch, and each branch a weight above 0, so that every way goes on to an end
  pub LeadsOn : {X : Type 0} → Tree X → Type 0
  LeadsOn (end x) = Unit {0}
  LeadsOn (step no_branches) = ⊥
  LeadsOn (step (more_branches weight tree more)) = (0 < weight) × (LeadsOn tree × AllLeadOn more)

  pub AllLeadOn : {X : Type 0} → Branches X → Type 0
  AllLeadOn no_branches = Unit {0}
  AllLeadOn (more_branches weight tree more) = (0 < weight) × (LeadsOn tree × AllLeadOn more)

-- Each end holds an element of the list, and what the choices give in the mean is what the list has in the mean. An element that
-- stands in the list more than once has as many shares.
pub record IsEven {X : Type 0} (tree : Tree X) (xs : List X) : Type 0 where
  pub within : (x : X) → IsEnd x tree → IsIn x xs
  pub leads_on : 0 < length xs → LeadsOn tree
  pub means : (f : X → ℕ) → length xs * (number_mean f tree).0 ≡ sum (map f xs) * (number_mean f tree).1
