-- Lists of bits, and the bits of numbers and of hexadecimal digits, highest first.
use Rattle.std.specs.Prelude.{◌≡◌, ℕ, zero, suc, ◌-◌, ◌/◌, ◌%◌, ◌^◌, ◌==◌, ◌≤◌, Bool, ◌&&◌, nat_le, List, [], ◌∷◌, ◌++◌, Option, Some, None, take, drop, length, if◌then◌else◌}
use Rattle.std.specs.Option.{option_map_or}
use Rattle.choice_laws.specs.Bits.{number_from}

-- what was left before a bit was given
abbrev pub before : Option Bool → List Bool → List Bool
before None later = []
before (Some bit) later = bit ∷ later

-- the first k bits were taken: their number, and what is left
pub record IsTaken (k : ℕ) (given : List Bool) (value : ℕ) (left : List Bool) : Type 0 where
  pub value_is : value ≡ number_from 0 (take k given)
  pub left_is : left ≡ drop k given
  pub enough : k ≤ length given

-- the lowest k bits of n, highest first
abbrev pub bits_of : ℕ → ℕ → List Bool
bits_of zero n = []
bits_of (suc k) n = (n / 2 ^ k % 2 == 1) ∷ bits_of k n

-- the value of a hexadecimal digit
abbrev pub digit_value : ℕ → Option ℕ
digit_value byte =
    if nat_le 48 byte && nat_le byte 57 then Some (byte - 48)
    else if nat_le 65 byte && nat_le byte 70 then Some (byte - 55)
    else if nat_le 97 byte && nat_le byte 102 then Some (byte - 87)
    else None

-- the bits of the digits, where each is one
abbrev pub bits_of_digits : List ℕ → Option (List Bool)
bits_of_digits [] = Some []
bits_of_digits (d ∷ ds) =
    option_map_or (λ value. option_map_or (λ bits. Some (bits_of 4 value ++ bits)) (bits_of_digits ds) None) (digit_value d) None
