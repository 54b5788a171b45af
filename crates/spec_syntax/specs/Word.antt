-- Words, as they name rules.
use Rattle.std.specs.Prelude.{ℕ, Bool, false, ◌&&◌, ◌||◌, nat_le, nat_eq, List, [], ◌∷◌}
use Rattle.std.specs.List.{list_all}

abbrev is_between : ℕ → ℕ → ℕ → Bool
is_between low high b = nat_le low b && nat_le b high

-- an ASCII letter, or `_`
abbrev pub is_word_start : ℕ → Bool
is_word_start b = is_between 65 90 b || is_between 97 122 b || nat_eq b 95

-- a decimal digit
abbrev pub is_digit : ℕ → Bool
is_digit b = is_between 48 57 b

-- a letter, a digit or `_`
abbrev pub is_word_byte : ℕ → Bool
is_word_byte b = is_word_start b || is_digit b

-- a letter or `_`, and then letters, digits and `_`
abbrev pub is_word : List ℕ → Bool
is_word [] = false
is_word (b ∷ bs) = is_word_start b && list_all is_word_byte bs
