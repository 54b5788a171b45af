-- Binomial coefficients.
use Rattle.std.specs.Prelude.{ℕ, zero, suc, ◌+◌}

-- the number of ways to choose d of n things, by Pascal's rule
abbrev pub choose : ℕ → ℕ → ℕ
choose n zero = 1
choose zero (suc d) = 0
choose (suc n) (suc d) = choose n d + choose n (suc d)
