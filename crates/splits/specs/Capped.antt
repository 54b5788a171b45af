-- Numbers of up to 128 bits.
use Rattle.std.specs.Prelude.{◌≡◌, ℕ, ◌^◌, ◌<◌, ◌≤◌, Option, Some, None}

-- it tells the number: its value where that has at most 128 bits, and None where it has more
abbrev pub Tells : Option ℕ → ℕ → Type 0
Tells None n = 2 ^ 128 ≤ n
Tells (Some value) n = (value ≡ n) × (n < 2 ^ 128)
