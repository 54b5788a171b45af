-- Hexadecimal digits, as they are read one after another.
use Rattle.std.proofs.Common.{◌≡◌, ℕ, Bool, List, [], ◌∷◌, ◌++◌, Option, Some, None, refl, sym, ap, ◌∙◌, append_assoc}
use Rattle.std.specs.Option.{option_map_or}
use Rattle.choice_bits.specs.Bits.{bits_of, bits_of_digits, digit_value}

-- these bits in front of those of the digits
abbrev pub in_front : List Bool → List ℕ → Option (List Bool)
in_front front digits = option_map_or (λ bits. Some (front ++ bits)) (bits_of_digits digits) None

pub nothing_in_front : (digits : List ℕ) → in_front [] digits ≡ bits_of_digits digits
nothing_in_front digits = by_cases (bits_of_digits digits)
  where
    by_cases : (read : Option (List Bool)) → option_map_or (λ bits. Some ([] ++ bits)) read None ≡ read
    by_cases None = refl
    by_cases (Some bits) = refl

pub digit_in_front : (front : List Bool) (d value : ℕ) (ds : List ℕ) → digit_value d ≡ Some value → in_front front (d ∷ ds) ≡ in_front (front ++ bits_of 4 value) ds
digit_in_front front d value ds is =
    ap (λ told. option_map_or (λ bits. Some (front ++ bits)) (option_map_or (λ n. option_map_or (λ bits. Some (bits_of 4 n ++ bits)) (bits_of_digits ds) None) told None) None) is
    ∙ by_cases (bits_of_digits ds)
  where
    by_cases : (read : Option (List Bool))
        → option_map_or (λ bits. Some (front ++ bits)) (option_map_or (λ bits. Some (bits_of 4 value ++ bits)) read None) None
        ≡ option_map_or (λ bits. Some ((front ++ bits_of 4 value) ++ bits)) read None
    by_cases None = refl
    by_cases (Some bits) = ap Some (sym (append_assoc front (bits_of 4 value) bits))

pub no_digit_in_front : (front : List Bool) (d : ℕ) (ds : List ℕ) → digit_value d ≡ None → in_front front (d ∷ ds) ≡ None
no_digit_in_front front d ds is =
    ap (λ told. option_map_or (λ bits. Some (front ++ bits)) (option_map_or (λ n. option_map_or (λ bits. Some (bits_of 4 n ++ bits)) (bits_of_digits ds) None) told None) None) is
