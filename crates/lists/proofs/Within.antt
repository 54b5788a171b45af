-- Elements of two lists one after the other.
use Rattle.std.proofs.Common.{◌⊎◌, List, [], ◌∷◌, ◌++◌, inl, inr}
use Rattle.lists.specs.Enumeration.{IsIn}

module _ {X : Type 0} where
  pub in_left : (x : X) (xs ys : List X) → IsIn x xs → IsIn x (xs ++ ys)
  in_left x [] ys h = absurd h
  in_left x (y ∷ xs) ys (inl same) = inl same
  in_left x (y ∷ xs) ys (inr there) = inr (in_left x xs ys there)

  pub in_either : (x : X) (xs ys : List X) → IsIn x (xs ++ ys) → IsIn x xs ⊎ IsIn x ys
  in_either x [] ys h = inr h
  in_either x (y ∷ xs) ys (inl same) = inl (inl same)
  in_either x (y ∷ xs) ys (inr there) = elim (in_either x xs ys there) [ inl here ↦ inl (inr here) | inr behind ↦ inr behind ]

  pub in_right : (x : X) (xs ys : List X) → IsIn x ys → IsIn x (xs ++ ys)
  in_right x [] ys h = h
  in_right x (y ∷ xs) ys h = inr (in_right x xs ys h)
