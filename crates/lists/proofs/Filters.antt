-- Filters whose tests agree on the elements.
use Rattle.std.proofs.Common.{◌≡◌, Bool, true, false, cond, List, [], ◌∷◌, filter, refl, ap, ◌∙◌, inl, inr}
use Rattle.std.proofs.lemmas.Bool.{cond-true, cond-false}
use Rattle.lists.specs.Enumeration.{IsIn}

module _ {X : Type 0} where
  pub filter_same : (p q : X → Bool) (xs : List X) → ((x : X) → IsIn x xs → p x ≡ q x) → filter p xs ≡ filter q xs
  filter_same p q [] same = refl
  filter_same p q (x ∷ xs) same =
      let others : filter p xs ≡ filter q xs = filter_same p q xs (λ y there. same y (inr there)) in
      ap (λ (b : Bool). cond b (x ∷ filter p xs) (filter p xs)) (same x (inl refl)) ∙ ap (λ (ys : List X). cond (q x) (x ∷ ys) ys) others

  pub filter_all : (p : X → Bool) (xs : List X) → ((x : X) → IsIn x xs → p x ≡ true) → filter p xs ≡ xs
  filter_all p [] all = refl
  filter_all p (x ∷ xs) all = cond-true (p x) _ _ (all x (inl refl)) ∙ ap (λ (ys : List X). x ∷ ys) (filter_all p xs (λ y there. all y (inr there)))

  pub filter_none : (p : X → Bool) (xs : List X) → ((x : X) → IsIn x xs → p x ≡ false) → filter p xs ≡ []
  filter_none p [] none = refl
  filter_none p (x ∷ xs) none = cond-false (p x) _ _ (none x (inl refl)) ∙ filter_none p xs (λ y there. none y (inr there))
