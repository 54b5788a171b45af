-- A list of different elements is no longer than a list that has them all.
use Rattle.std.proofs.Common.{◌≡◌, ◌⊎◌, suc, ◌≤◌, List, [], ◌∷◌, length, refl, sym, ap, ◌∙◌, inl, inr, arith}
use Rattle.lists.specs.Enumeration.{IsIn, Ascends}

module _ {X : Type 0} where
  without : (x : X) (ys : List X) → IsIn x ys → List X
  without x [] h = absurd h
  without x (y ∷ ys) (inl same) = ys
  without x (y ∷ ys) (inr there) = y ∷ without x ys there

  length-without : (x : X) (ys : List X) (h : IsIn x ys) → suc (length (without x ys h)) ≡ length ys
  unfolding without
  length-without x [] h = absurd h
  length-without x (y ∷ ys) (inl same) = refl
  length-without x (y ∷ ys) (inr there) = ap suc (length-without x ys there)

  stays : (z x : X) (ys : List X) (h : IsIn x ys) → IsIn z ys → (z ≡ x) ⊎ IsIn z (without x ys h)
  unfolding without
  stays z x [] h at = absurd h
  stays z x (y ∷ ys) (inl same) (inl here) = inl (here ∙ sym same)
  stays z x (y ∷ ys) (inl same) (inr there) = inr there
  stays z x (y ∷ ys) (inr h) (inl here) = inr (inl here)
  stays z x (y ∷ ys) (inr h) (inr there) = elim (stays z x ys h there) [ inl same ↦ inl same | inr left ↦ inr (inr left) ]

  pub no_longer : (xs ys : List X) → Ascends (λ x y. x ≡ y → ⊥) xs → ((x : X) → IsIn x xs → IsIn x ys) → length xs ≤ length ys
  no_longer [] ys differ each = omega arith
  no_longer (x ∷ xs) ys differ each =
      let h = each x (inl refl) in
      omega (
        arith,
        length-without x ys h,
        no_longer xs (without x ys h) differ.1 (λ z at.
            elim (stays z x ys h (each z (inr at))) [ inl same ↦ absurd (differ.0 z at (sym same)) | inr left ↦ left ]),
      )
