-- Laws of the numbers that digits write.
use Rattle.std.proofs.Common.{◌≡◌, ℕ, suc, ◌+◌, ◌*◌, ◌-◌, ◌<◌, ◌≤◌, List, [], ◌∷◌, length, drop, get_or, ap, arith, add-one, drop-cons}
use Rattle.std.specs.List.{fold}
use Rattle.spec_reader.specs.Tokens.{with_digit}

-- a digit is taken in
pub value-step : (n i : ℕ) (digits : List ℕ) → i < length digits
    → fold with_digit n (drop i digits) ≡ fold with_digit (n * 10 + (get_or digits i 0 - 48)) (drop (i + 1) digits)
value-step n i digits within =
    let e : 10 * n + (get_or digits i 0 - 48) ≡ n * 10 + (get_or digits i 0 - 48) = omega arith in
    rw (add-one, drop-cons digits i 0) (ap (λ m. fold with_digit m (drop (suc i) digits)) e)

-- more digits make no smaller number
pub value-grows : (n : ℕ) (digits : List ℕ) → n ≤ fold with_digit n digits
value-grows n [] = omega arith
value-grows n (digit ∷ digits) = omega (arith, value-grows (with_digit n digit) digits)

-- a number that is too big with one more digit, or before it, is too big
pub value-big : (n i limit : ℕ) (digits : List ℕ) → i < length digits → limit ≤ n * 10 + (get_or digits i 0 - 48) → limit ≤ fold with_digit n (drop i digits)
value-big n i limit digits within big =
    rw (value-step n i digits within) (omega (arith, value-grows (n * 10 + (get_or digits i 0 - 48)) (drop (i + 1) digits)))
