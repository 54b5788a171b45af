-- Sums of products over the ways to share out labels: linear in what is shared with, and no matter which of two comes first.
use Rattle.std.proofs.Common.{◌≡◌, ℕ, zero, suc, ◌+◌, ◌*◌, ◌∙◌, arith}
use Rattle.count_laws.specs.Convolution.{shifted, convolved}

pub convolved_same : (a f h : ℕ → ℕ) (n : ℕ) → ((k : ℕ) → f k ≡ h k) → convolved a f n ≡ convolved a h n
convolved_same a f h n same = λ i. convolved a (λ k. same k i) n

pub convolved_none : (a : ℕ → ℕ) (n : ℕ) → convolved a (λ k. 0) n ≡ 0
convolved_none a zero = none (a 0)
  where
    none : (k : ℕ) → k * 0 ≡ 0
    none k = omega arith
convolved_none a (suc n) = omega (arith, convolved_none (shifted a) n, convolved_none a n)

pub convolved_times : (k : ℕ) (a f : ℕ → ℕ) (n : ℕ) → convolved a (λ m. k * f m) n ≡ k * convolved a f n
convolved_times k a f zero = regroup k (a 0) (f 0)
  where
    regroup : (k m n : ℕ) → m * (k * n) ≡ k * (m * n)
    regroup k m n = grind arith
convolved_times k a f (suc n) =
    (λ i. convolved_times k (shifted a) f n i + convolved_times k a (shifted f) n i) ∙ whole k (convolved (shifted a) f n) (convolved a (shifted f) n)
  where
    whole : (k m n : ℕ) → k * m + k * n ≡ k * (m + n)
    whole k m n = grind arith

pub convolved_both : (a f h : ℕ → ℕ) (n : ℕ) → convolved a (λ k. f k + h k) n ≡ convolved a f n + convolved a h n
convolved_both a f h zero = spread (a 0) (f 0) (h 0)
  where
    spread : (k m n : ℕ) → k * (m + n) ≡ k * m + k * n
    spread k m n = grind arith
convolved_both a f h (suc n) = omega (arith, convolved_both (shifted a) f h n, convolved_both a (shifted f) (shifted h) n)

-- either of two may take its labels first
pub convolved_exchanged : (a b f : ℕ → ℕ) (n : ℕ) → convolved a (convolved b f) n ≡ convolved b (convolved a f) n
convolved_exchanged a b f zero = regroup (a 0) (b 0) (f 0)
  where
    regroup : (k m n : ℕ) → k * (m * n) ≡ m * (k * n)
    regroup k m n = grind arith
convolved_exchanged a b f (suc n) =
    omega (
      arith,
      convolved_both a (convolved (shifted b) f) (convolved b (shifted f)) n,
      convolved_both b (convolved (shifted a) f) (convolved a (shifted f)) n,
      convolved_exchanged (shifted a) b f n,
      convolved_exchanged a (shifted b) f n,
      convolved_exchanged a b (shifted f) n,
    )
