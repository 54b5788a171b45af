-- Lists that have each element with a property, in an order, and once where nothing comes before itself.
use Rattle.std.specs.Prelude.{◌≡◌, ◌⊎◌, List, [], ◌∷◌}

-- is one of the elements
abbrev pub IsIn : {X : Type 0} → X → List X → Type 0
IsIn x [] = ⊥
IsIn x (y ∷ ys) = (x ≡ y) ⊎ IsIn x ys

-- each element is related to all that follow it
abbrev pub Ascends : {X : Type 0} → (X → X → Type 0) → List X → Type 0
Ascends R [] = Unit {0}
Ascends {X} R (x ∷ xs) = ((y : X) → IsIn y xs → R x y) × Ascends R xs

-- the elements are those with the property, in this order
pub record Enumerated {X : Type 0} (R : X → X → Type 0) (P : X → Type 0) (xs : List X) : Type 0 where
  pub ascends : Ascends R xs
  pub sound : (x : X) → IsIn x xs → P x
  pub complete : (x : X) → P x → IsIn x xs
