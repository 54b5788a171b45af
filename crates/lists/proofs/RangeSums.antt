-- Sums of what is made of each element, sums of sums, and sums over the numbers from 0 on.
use Rattle.std.proofs.Common.{◌≡◌, ℕ, zero, suc, ◌+◌, ◌*◌, ◌<◌, ◌≤◌, List, [], ◌∷◌, ◌++◌, map, flat_map, length, refl, sym, ap, ◌∙◌, inl, inr, arith}
use Rattle.std.specs.List.{sum, range_with_len}
use Rattle.std.proofs.lemmas.List.Concat.{length-flat_map}
use Rattle.std.proofs.lemmas.List.FromFn.{sum_by-map-range_with_len_more}
use Rattle.std.proofs.lemmas.List.Sums.{sum-map}
use Rattle.lists.specs.Enumeration.{IsIn}
use Rattle.lists.proofs.Sums.{sum_more}

module _ {X : Type 0} where
  pub sum_same : (f h : X → ℕ) (xs : List X) → ((x : X) → IsIn x xs → f x ≡ h x) → sum (map f xs) ≡ sum (map h xs)
  sum_same f h [] same = refl
  sum_same f h (x ∷ xs) same =
      omega (arith, sum_more (f x) (map f xs), sum_more (h x) (map h xs), same x (inl refl), sum_same f h xs (λ y there. same y (inr there)))

  pub sum_none : (f : X → ℕ) (xs : List X) → ((x : X) → IsIn x xs → f x ≡ 0) → sum (map f xs) ≡ 0
  sum_none f [] none = refl
  sum_none f (x ∷ xs) none = omega (arith, sum_more (f x) (map f xs), none x (inl refl), sum_none f xs (λ y there. none y (inr there)))

  pub sum_both : (f h : X → ℕ) (xs : List X) → sum (map (λ x. f x + h x) xs) ≡ sum (map f xs) + sum (map h xs)
  sum_both f h [] = refl
  sum_both f h (x ∷ xs) =
      omega (arith, sum_more (f x + h x) (map (λ y. f y + h y) xs), sum_more (f x) (map f xs), sum_more (h x) (map h xs), sum_both f h xs)

  pub sum_times : (k : ℕ) (f : X → ℕ) (xs : List X) → sum (map (λ x. k * f x) xs) ≡ k * sum (map f xs)
  sum_times k f [] = none k
    where
      none : (k : ℕ) → 0 ≡ k * 0
      none k = omega arith
  sum_times k f (x ∷ xs) =
      sum_more (k * f x) (map (λ y. k * f y) xs) ∙ ap (λ (rest : ℕ). k * f x + rest) (sum_times k f xs) ∙ whole k (f x) (sum (map f xs))
      ∙ ap (λ (all : ℕ). k * all) (sym (sum_more (f x) (map f xs)))
    where
      whole : (k m n : ℕ) → k * m + k * n ≡ k * (m + n)
      whole k m n = grind arith

  pub sum_append : (f : X → ℕ) (xs ys : List X) → sum (map f (xs ++ ys)) ≡ sum (map f xs) + sum (map f ys)
  sum_append f [] ys = omega arith
  sum_append f (x ∷ xs) ys = omega (arith, sum_more (f x) (map f (xs ++ ys)), sum_more (f x) (map f xs), sum_append f xs ys)

module _ {X Y : Type 0} where
  pub sum_map : (f : Y → ℕ) (h : X → Y) (xs : List X) → sum (map f (map h xs)) ≡ sum (map (λ x. f (h x)) xs)
  sum_map f h [] = refl
  sum_map f h (x ∷ xs) = omega (arith, sum_more (f (h x)) (map f (map h xs)), sum_more (f (h x)) (map (λ y. f (h y)) xs), sum_map f h xs)

  -- rows first or columns first
  pub sum_exchanged : (f : X → Y → ℕ) (xs : List X) (ys : List Y) → sum (map (λ x. sum (map (f x) ys)) xs) ≡ sum (map (λ y. sum (map (λ x. f x y) xs)) ys)
  sum_exchanged f [] ys = sym (sum_none (λ y. 0) ys (λ y there. refl))
  sum_exchanged f (x ∷ xs) ys =
      sum_more (sum (map (f x) ys)) (map (λ z. sum (map (f z) ys)) xs)
      ∙ ap (λ (rest : ℕ). sum (map (f x) ys) + rest) (sum_exchanged f xs ys)
      ∙ sym (sum_both (f x) (λ y. sum (map (λ z. f z y) xs)) ys)
      ∙ sum_same (λ y. f x y + sum (map (λ z. f z y) xs)) (λ y. sum (map (λ z. f z y) (x ∷ xs))) ys (λ y there. sym (sum_more (f x y) (map (λ z. f z y) xs)))

pub length_made : {X A : Type 0} (f : X → List A) (xs : List X) → length (flat_map f xs) ≡ sum (map (λ x. length (f x)) xs)
length_made f xs = length-flat_map f xs ∙ sym (sum-map (λ x. length (f x)) xs)

-- ---- ranges

pub in_range : (d start n : ℕ) → IsIn d (range_with_len start n) → (start ≤ d) × (d < start + n)
in_range d start zero there = absurd there
in_range d start (suc n) (inl same) = (omega arith, omega arith)
in_range d start (suc n) (inr there) = let found = in_range d (start + 1) n there in (omega (arith, found.0), omega (arith, found.1))

-- the terms of one number more
sum_later : (f : ℕ → ℕ) (start n : ℕ) → sum (map f (range_with_len (start + 1) n)) ≡ sum (map (λ d. f (suc d)) (range_with_len start n))
sum_later f start zero = refl
sum_later f start (suc n) =
    omega (
      arith,
      sum_more (f (start + 1)) (map f (range_with_len (start + 1 + 1) n)),
      sum_more (f (suc start)) (map (λ d. f (suc d)) (range_with_len (start + 1) n)),
      ap f (next start),
      sum_later f (start + 1) n,
    )
  where
    next : (n : ℕ) → n + 1 ≡ suc n
    next n = omega arith

pub sum_first : (f : ℕ → ℕ) (n : ℕ) → sum (map f (range_with_len 0 (suc n))) ≡ f 0 + sum (map (λ d. f (suc d)) (range_with_len 0 n))
sum_first f n = sum_more (f 0) (map f (range_with_len 1 n)) ∙ ap (λ (rest : ℕ). f 0 + rest) (sum_later f 0 n)

pub sum_last : (f : ℕ → ℕ) (n : ℕ) → sum (map f (range_with_len 0 (suc n))) ≡ sum (map f (range_with_len 0 n)) + f n
sum_last f n = ap (λ (k : ℕ). sum (map f (range_with_len 0 k))) (next n) ∙ sum_by-map-range_with_len_more (λ (x : ℕ). x) f 0 n n (none n)
  where
    next : (n : ℕ) → suc n ≡ n + 1
    next n = omega arith

    none : (n : ℕ) → 0 + n ≡ n
    none n = omega arith
