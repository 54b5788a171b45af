-- The words and numbers at the front of a text.
use Rattle.std.proofs.Common.{◌≡◌, ℕ, ◌<◌, Bool, true, List, [], ◌∷◌, length, take, get_or, refl, ap, ◌∙◌, arith}
use Rattle.std.proofs.lemmas.List.Sums.{take_while-cons}
use Rattle.std.specs.List.{list_all, prefix_len}
use Rattle.spec_syntax.specs.Word.{is_word_start, is_word_byte, is_digit, is_word}

-- what is taken while a test holds passes it
pub list_all-front : (p : ℕ → Bool) (text : List ℕ) → list_all p (take (prefix_len p text) text) ≡ true
list_all-front p [] = refl
list_all-front p (b ∷ rest) = ap (list_all p) (take_while-cons p b rest) ∙ grind (arith, list_all-front p rest)

front-word : (b : ℕ) (rest : List ℕ) → is_word_start b ≡ true → is_word (take (prefix_len is_word_byte (b ∷ rest)) (b ∷ rest)) ≡ true
front-word b rest start =
    ap is_word (take_while-cons is_word_byte b rest) ∙ grind (arith, start, list_all-front is_word_byte rest)

pub is_word-front : (text : List ℕ) (len : ℕ) → len ≡ prefix_len is_word_byte text → 0 < length text → is_word_start (get_or text 0 0) ≡ true → is_word (take len text) ≡ true
is_word-front [] len is some start = absurd (omega arith)
is_word-front (b ∷ rest) len is some start = rw is (front-word b rest start)

pub digits-front : (text : List ℕ) (len : ℕ) → len ≡ prefix_len is_digit text → list_all is_digit (take len text) ≡ true
digits-front text len is = rw is (list_all-front is_digit text)
