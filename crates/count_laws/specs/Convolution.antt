-- Sums of products over the ways to share out labels.
use Rattle.std.specs.Prelude.{ℕ, zero, suc, ◌+◌, ◌*◌}

-- what it tells of one number more
abbrev pub shifted : (ℕ → ℕ) → ℕ → ℕ
shifted f n = f (suc n)

-- In how many ways n labels can be shared out between a first and another structure, where first and others tell the numbers of
-- structures on so many labels: the first label falls to the one or to the other.
abbrev pub convolved : (ℕ → ℕ) → (ℕ → ℕ) → ℕ → ℕ
convolved first others zero = first 0 * others 0
convolved first others (suc n) = convolved (shifted first) others n + convolved first (shifted others) n
