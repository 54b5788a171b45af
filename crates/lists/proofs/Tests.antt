-- What a test of all elements, of any of them or of the first one that is found tells of each.
use Rattle.std.proofs.Common.{◌≡◌, ◌⊎◌, ℕ, zero, suc, Bool, true, false, ◌&&◌, cond, List, [], ◌∷◌, slice_get, Option, Some, None, find, refl, sym, ap, ◌∙◌, inl, inr, arith, true≢false}
use Rattle.std.specs.List.{list_all, list_any}
use Rattle.std.specs.Option.{option_map_or}
use Rattle.std.proofs.lemmas.Bool.{and_parts, and_from}
use Rattle.lists.specs.Enumeration.{IsIn}

module _ {X : Type 0} (test : X → Bool) where
  -- what all elements pass each of them passes
  pub passes : (x : X) (xs : List X) → list_all test xs ≡ true → IsIn x xs → test x ≡ true
  passes x [] all h = absurd h
  passes x (y ∷ ys) all (inl same) = ap test same ∙ (and_parts (test y) (list_all test ys) all).0
  passes x (y ∷ ys) all (inr there) = passes x ys (and_parts (test y) (list_all test ys) all).1 there

  pub all_at : (xs : List X) (i : ℕ) (x : X) → list_all test xs ≡ true → slice_get xs i ≡ Some x → test x ≡ true
  all_at [] i x all at = absurd (cc)
  all_at (y ∷ xs) zero x all at = let same : y ≡ x = cc in ap test (sym same) ∙ (and_parts (test y) (list_all test xs) all).0
  all_at (y ∷ xs) (suc i) x all at = all_at xs i x (and_parts (test y) (list_all test xs) all).1 at

  pub all_from : (xs : List X) → ((x : X) → IsIn x xs → test x ≡ true) → list_all test xs ≡ true
  all_from [] each = refl
  all_from (x ∷ xs) each = and_from (test x) (list_all test xs) (each x (inl refl)) (all_from xs (λ y there. each y (inr there)))

  -- a list of which not all pass the test has one that fails
  pub one_fails : (xs : List X) → list_all test xs ≡ false → (x : X) × IsIn x xs × (test x ≡ false)
  one_fails [] h = absurd (true≢false h)
  one_fails (x ∷ xs) h = by (test x) refl (one_fails xs)
    where
      by : (b : Bool) → test x ≡ b → (list_all test xs ≡ false → (y : X) × IsIn y xs × (test y ≡ false)) → (y : X) × IsIn y (x ∷ xs) × (test y ≡ false)
      by false is others = (x, inl refl, is)
      by true is others = let rest = others (ap (λ b. b && list_all test xs) (sym is) ∙ h) in (rest.0, inr rest.1, rest.2)

  -- where no element passes the test, the one at a place fails it
  pub any_at : (xs : List X) (i : ℕ) (x : X) → list_any test xs ≡ false → slice_get xs i ≡ Some x → test x ≡ false
  any_at [] i x none at = absurd (cc)
  any_at (y ∷ xs) zero x none at = let same : y ≡ x = cc in grind (arith, none, same)
  any_at (y ∷ xs) (suc i) x none at = grind (arith, none, any_at xs i x)

  -- where none is found, each fails
  pub found_none : (x : X) (xs : List X) → find test xs ≡ None → IsIn x xs → test x ≡ false
  found_none x [] none h = absurd h
  found_none x (y ∷ ys) none h = by (test y) refl none h (λ others there. found_none x ys others there)
    where
      by : (b : Bool) → test y ≡ b → cond b (Some y) (find test ys) ≡ None → (x ≡ y) ⊎ IsIn x ys → (find test ys ≡ None → IsIn x ys → test x ≡ false) → test x ≡ false
      by true told none h others = absurd (cc)
      by false told none (inl same) others = ap test same ∙ told
      by false told none (inr there) others = others none there

  -- a value that is there and passes
  pub held : (o : Option X) → option_map_or test o false ≡ true → (x : X) × (o ≡ Some x) × (test x ≡ true)
  held None h = absurd (true≢false (sym h))
  held (Some x) h = (x, refl, h)
