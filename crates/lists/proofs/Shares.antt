-- Sums of what is made of each element, and the share that one of them has.
use Rattle.std.proofs.Common.{◌≡◌, ℕ, zero, suc, ◌≤◌, List, [], ◌∷◌, map, slice_get, Some, refl, ap, arith}
use Rattle.std.specs.List.{sum}
use Rattle.lists.proofs.Sums.{sum_more, sum_at}

module _ {X : Type 0} (f : X → ℕ) where
  pub share_within : (xs : List X) (i : ℕ) (x : X) → slice_get xs i ≡ Some x → f x ≤ sum (map f xs)
  share_within xs i x at = omega (arith, sum_at f xs i x at)

  -- where one share is all, the others are 0
  pub others_are_0 : (xs : List X) (place : ℕ) (x : X) (other : ℕ) (y : X) → slice_get xs place ≡ Some x → slice_get xs other ≡ Some y → (other ≡ place → ⊥)
      → sum (map f xs) ≡ f x → f y ≡ 0
  others_are_0 [] place x other y at there differ whole = absurd (cc)
  others_are_0 (z ∷ xs) zero x zero y at there differ whole = absurd (differ refl)
  others_are_0 (z ∷ xs) zero x (suc other) y at there differ whole =
      let same : f z ≡ f x = ap f (cc) in
      omega (arith, same, whole, sum_more (f z) (map f xs), share_within xs other y there)
  others_are_0 (z ∷ xs) (suc place) x zero y at there differ whole =
      let same : f z ≡ f y = ap f (cc) in
      omega (arith, same, whole, sum_more (f z) (map f xs), share_within xs place x at)
  others_are_0 (z ∷ xs) (suc place) x (suc other) y at there differ whole =
      let rest : sum (map f xs) ≡ f x = omega (arith, whole, sum_more (f z) (map f xs), share_within xs place x at) in
      others_are_0 xs place x other y at there (λ same. differ (ap suc same)) rest
