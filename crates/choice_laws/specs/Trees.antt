-- Choice trees: at a step one of the branches is taken, each by its weight, and at an end something is reached.
use Rattle.std.specs.Prelude.{ℕ, zero, suc, ◌+◌, List, [], ◌∷◌}

mutual
  pub data Tree (X : Type 0) : Type 0 where
    end : X → Tree X
    step : Branches X → Tree X

  pub data Branches (X : Type 0) : Type 0 where
    no_branches : Branches X
    more_branches : (weight : ℕ) → Tree X → Branches X → Branches X

-- nothing can be reached
abbrev pub nothing : {X : Type 0} → Tree X
nothing = step no_branches

-- the sum of the weights
abbrev pub total : {X : Type 0} → Branches X → ℕ
total no_branches = 0
total (more_branches weight tree more) = weight + total more

-- the branch in front of the others, unless its weight is 0
abbrev pub put_branch : {X : Type 0} → ℕ → Tree X → Branches X → Branches X
put_branch zero tree more = more
put_branch (suc w) tree more = more_branches (suc w) tree more

abbrev pub branches_of : {X : Type 0} → List (ℕ × Tree X) → Branches X
branches_of [] = no_branches
branches_of (b ∷ bs) = put_branch b.0 b.1 (branches_of bs)

-- the step to one of these trees by their weights, those of weight 0 left out
abbrev pub choose : {X : Type 0} → List (ℕ × Tree X) → Tree X
choose bs = step (branches_of bs)

abbrev mutual
  -- the tree in which each end goes on with the tree of what it holds
  pub graft : {X Y : Type 0} → (X → Tree Y) → Tree X → Tree Y
  graft next (end x) = next x
  graft next (step branches) = step (graft_branches next branches)

  pub graft_branches : {X Y : Type 0} → (X → Tree Y) → Branches X → Branches Y
  graft_branches next no_branches = no_branches
  graft_branches next (more_branches weight tree more) = more_branches weight (graft next tree) (graft_branches next more)
