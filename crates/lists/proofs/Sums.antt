-- Sums of numbers, and of what is made of each.
use Rattle.std.proofs.Common.{◌≡◌, ℕ, zero, suc, ◌+◌, List, [], ◌∷◌, map, take, drop, slice_get, Some, ap, ◌∙◌, arith}
use Rattle.std.specs.List.{sum, sum_by}
use Rattle.std.proofs.lemmas.List.Sums.{sum_by_from}
use Rattle.lists.proofs.Places.{drop_at}

pub sum_more : (m : ℕ) (ms : List ℕ) → sum (m ∷ ms) ≡ m + sum ms
sum_more m ms =
    let whole : sum (m ∷ ms) ≡ 0 + m + sum_by (λ (x : ℕ). x) ms = sum_by_from (λ (x : ℕ). x) (0 + m) ms in
    let rest : sum ms ≡ 0 + sum_by (λ (x : ℕ). x) ms = sum_by_from (λ (x : ℕ). x) 0 ms in
    omega (arith, whole, rest)

module _ {X : Type 0} (f : X → ℕ) where
  -- what stands before a place, at it and behind it
  pub sum_at : (xs : List X) (i : ℕ) (x : X) → slice_get xs i ≡ Some x → sum (map f xs) ≡ sum (map f (take i xs)) + f x + sum (map f (drop (i + 1) xs))
  sum_at [] i x at = absurd (cc)
  sum_at (y ∷ xs) zero x at = let same : f y ≡ f x = ap f (cc) in omega (arith, sum_more (f y) (map f xs))
  sum_at (y ∷ xs) (suc i) x at =
      let rest : sum (map f (drop (suc i + 1) (y ∷ xs))) ≡ sum (map f (drop (i + 1) xs)) = ap (λ (k : ℕ). sum (map f (drop k (y ∷ xs)))) (next i) in
      omega (arith, sum_at xs i x at, sum_more (f y) (map f xs), sum_more (f y) (map f (take i xs)), rest)
    where
      next : (n : ℕ) → suc n + 1 ≡ suc (n + 1)
      next n = omega arith

  pub sum_drop : (xs : List X) (i : ℕ) (x : X) → slice_get xs i ≡ Some x → sum (map f (drop i xs)) ≡ f x + sum (map f (drop (i + 1) xs))
  sum_drop xs i x at = ap (λ ys. sum (map f ys)) (drop_at xs i x at) ∙ sum_more (f x) (map f (drop (i + 1) xs))
