-- Binomial coefficients, and sums with them.
use Rattle.std.proofs.Common.{◌≡◌, ℕ, zero, suc, ◌+◌, ◌-◌, ◌*◌, ◌<◌, List, map, refl, sym, ap, ◌∙◌, arith}
use Rattle.std.specs.List.{sum, range_with_len}
use Rattle.lists.specs.Enumeration.{IsIn}
use Rattle.lists.proofs.RangeSums.{sum_same, sum_both, in_range, sum_first, sum_last}
use Rattle.count_laws.specs.Choose.{choose}
use Rattle.count_laws.specs.Convolution.{shifted, convolved}

pub choose_none : (n d : ℕ) → n < d → choose n d ≡ 0
choose_none n zero h = absurd (omega arith)
choose_none zero (suc d) h = refl
choose_none (suc n) (suc d) h = omega (arith, choose_none n d (omega arith), choose_none n (suc d) (omega arith))

pub choose_all : (n : ℕ) → choose n n ≡ 1
choose_all zero = refl
choose_all (suc n) = omega (arith, choose_all n, choose_none n (suc n) (omega arith))

-- Pascal's rule from a row to the one before
pub choose_before : (n d : ℕ) → 0 < n → 0 < d → choose n d ≡ choose (n - 1) (d - 1) + choose (n - 1) d
choose_before zero d some taken = absurd (omega arith)
choose_before (suc n) zero some taken = absurd (omega arith)
choose_before (suc n) (suc d) some taken = λ i. choose (same n i) (same d i) + choose (same n i) (suc d)
  where
    same : (n : ℕ) → n ≡ suc n - 1
    same n = omega arith

-- what the choices of d labels give
abbrev term : (ℕ → ℕ) → (ℕ → ℕ) → ℕ → ℕ → ℕ
term first others n d = choose n d * (first d * others (n - d))

spread : (a b x y z : ℕ) → x ≡ y → (a + b) * (z * x) ≡ a * (z * y) + b * (z * x)
spread a b x y z same = grind arith

module _ (first others : ℕ → ℕ) (n : ℕ) where
  -- the choices of n labels, where there is one label more
  abbrev without : ℕ → ℕ
  without d = choose n d * (first d * others (suc n - d))

  rest_is : (d : ℕ) → others (suc n - suc d) ≡ others (n - d)
  rest_is d = ap others (less n d)
    where
      less : (n d : ℕ) → suc n - suc d ≡ n - d
      less n d = omega arith

  by_first_label : (d : ℕ) → term first others (suc n) (suc d) ≡ term (shifted first) others n d + without (suc d)
  by_first_label d = spread (choose n d) (choose n (suc d)) (others (suc n - suc d)) (others (n - d)) (first (suc d)) (rest_is d)

  without_is : (d : ℕ) → IsIn d (range_with_len 0 (suc n)) → without d ≡ term first (shifted others) n d
  without_is d there = ap (λ (k : ℕ). choose n d * (first d * others k)) (more (in_range d 0 (suc n) there).1)
    where
      more : d < 0 + suc n → suc n - d ≡ suc (n - d)
      more h = omega arith

  left_out : sum (map without (range_with_len 0 (suc (suc n)))) ≡ sum (map (term first (shifted others) n) (range_with_len 0 (suc n)))
  left_out =
      sum_last without (suc n) ∙ ap (λ (last : ℕ). sum (map without (range_with_len 0 (suc n))) + last) none ∙ all (sum (map without (range_with_len 0 (suc n))))
      ∙ sum_same without (term first (shifted others) n) (range_with_len 0 (suc n)) without_is
    where
      none : without (suc n) ≡ 0
      none = ap (λ (ways : ℕ). ways * (first (suc n) * others (suc n - suc n))) (choose_none n (suc n) (omega arith)) ∙ nothing (first (suc n) * others (suc n - suc n))
        where
          nothing : (k : ℕ) → 0 * k ≡ 0
          nothing k = omega arith

      all : (k : ℕ) → k + 0 ≡ k
      all k = omega arith

  -- a sum over one label more by what becomes of that label
  one_label_more : sum (map (term first others (suc n)) (range_with_len 0 (suc (suc n))))
      ≡ sum (map (term (shifted first) others n) (range_with_len 0 (suc n))) + sum (map (term first (shifted others) n) (range_with_len 0 (suc n)))
  one_label_more =
      let numbers : List ℕ = range_with_len 0 (suc n) in
      let later : sum (map (λ d. term first others (suc n) (suc d)) numbers) ≡ sum (map (term (shifted first) others n) numbers) + sum (map (λ d. without (suc d)) numbers)
      = sum_same (λ d. term first others (suc n) (suc d)) (λ d. term (shifted first) others n d + without (suc d)) numbers (λ d there. by_first_label d)
      ∙ sum_both (term (shifted first) others n) (λ d. without (suc d)) numbers in
      regroup (without 0) (sum (map (term (shifted first) others n) numbers)) (sum (map (λ d. without (suc d)) numbers))
      (sum (map (term first (shifted others) n) numbers)) (sum (map (term first others (suc n)) (range_with_len 0 (suc (suc n)))))
      (sum_first (term first others (suc n)) (suc n) ∙ ap (λ (rest : ℕ). without 0 + rest) later)
      (sym (sum_first without (suc n)) ∙ left_out)
    where
      regroup : (initial a b c whole : ℕ) → whole ≡ initial + (a + b) → initial + b ≡ c → whole ≡ a + c
      regroup initial a b c whole p q = omega arith

by_binomials : (first others : ℕ → ℕ) (n : ℕ) → convolved first others n ≡ sum (map (term first others n) (range_with_len 0 (suc n)))
by_binomials first others zero = once (first 0 * others 0)
  where
    once : (k : ℕ) → k ≡ 0 + 1 * k
    once k = omega arith
by_binomials first others (suc n) =
    (λ i. by_binomials (shifted first) others n i + by_binomials first (shifted others) n i) ∙ sym (one_label_more first others n)

-- by first labels or by the number of labels that fall to the first structure
pub with_binomials : (first others : ℕ → ℕ) (n : ℕ)
    → convolved first others n ≡ sum (map (λ d. choose n d * (first d * others (n - d))) (range_with_len 0 (n + 1)))
with_binomials first others n = by_binomials first others n ∙ ap (λ (k : ℕ). sum (map (term first others n) (range_with_len 0 k))) (next n)
  where
    next : (n : ℕ) → suc n ≡ n + 1
    next n = omega arith
