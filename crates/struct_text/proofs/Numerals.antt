-- Numerals and labels as text: what they begin with, and where they end.
use Rattle.std.proofs.Common.{◌≡◌, ◌≤◌, ◌<◌, ◌^◌, ℕ, zero, suc, ◌+◌, Bool, true, false, List, [], ◌∷◌, ◌++◌, map, get_or, codes, refl, sym, ap, ◌∙◌, arith, append_assoc, true≢false}
use Rattle.std.specs.Fmt.{decimal}
use Rattle.std.specs.List.{list_all}
use Rattle.std.specs.Int.Digits.{digits_of, AllBelowBase}
use Rattle.std.proofs.lemmas.Fmt.{decimal_digit, decimal-digits_of}
use Rattle.std.proofs.lemmas.Int.Digits.{all_below_base_digits_of, first_digits_of, same_from_digits_of}
use Rattle.std.proofs.lemmas.Bool.{and_parts}
use Rattle.spec_syntax.specs.Word.{is_digit}
use Rattle.struct_text.specs.Text.{numeral, label_text}

-- lists whose elements pass a test end where one fails it
pub passing_before : {X : Type 0} (test : X → Bool) (xs ys : List X) (x y : X) (more others : List X) → list_all test xs ≡ true → list_all test ys ≡ true
    → test x ≡ false → test y ≡ false → xs ++ x ∷ more ≡ ys ++ y ∷ others → (xs ≡ ys) × (x ≡ y) × (more ≡ others)
passing_before test [] [] x y more others first second fails fails' same = (refl, cc, cc)
passing_before test [] (b ∷ ys) x y more others first second fails fails' same =
    let head : x ≡ b = cc in absurd (true≢false (sym (and_parts (test b) (list_all test ys) second).0 ∙ ap test (sym head) ∙ fails))
passing_before test (a ∷ xs) [] x y more others first second fails fails' same =
    let head : a ≡ y = cc in absurd (true≢false (sym (and_parts (test a) (list_all test xs) first).0 ∙ ap test head ∙ fails'))
passing_before test (a ∷ xs) (b ∷ ys) x y more others first second fails fails' same =
    let head : a ≡ b = cc in
    let tail : xs ++ x ∷ more ≡ ys ++ y ∷ others = cc in
    let rest = passing_before test xs ys x y more others (and_parts (test a) (list_all test xs) first).1 (and_parts (test b) (list_all test ys) second).1 fails fails' tail in
    (cc, rest.1, rest.2)

digit_of : (d : ℕ) → d < 10 → is_digit (48 + d) ≡ true
digit_of d low = grind (arith, low)

digits_of_all : (ds : List ℕ) → AllBelowBase 10 ds → list_all is_digit (map (λ d. 48 + d) ds) ≡ true
digits_of_all [] low = refl
digits_of_all (d ∷ ds) low = grind (arith, digit_of d, digits_of_all ds, low)

-- a numeral above 0 is its digits
pub written : (n : ℕ) → 0 < n → numeral n ≡ map (λ d. 48 + d) (digits_of 10 n)
written zero positive = absurd (omega arith)
written (suc n) positive = refl

-- a numeral consists of digits
pub digits_in_numeral : (n : ℕ) → list_all is_digit (numeral n) ≡ true
digits_in_numeral zero = refl
digits_in_numeral (suc n) = digits_of_all (digits_of 10 (suc n)) (all_below_base_digits_of 10 (suc n) (omega arith))

begins : (ds : List ℕ) → 0 < get_or ds 0 0 → AllBelowBase 10 ds → (b : ℕ) × (bs : List ℕ) × (map (λ d. 48 + d) ds ≡ b ∷ bs) × (49 ≤ b) × (b ≤ 57)
begins [] positive low = absurd (omega (arith, positive))
begins (d ∷ ds) positive low = (48 + d, map (λ d. 48 + d) ds, refl, omega (arith, positive), omega (arith, low.0))

-- the numeral of a number above 0 begins with a digit from 1 to 9
pub numeral_begins : (n : ℕ) → 0 < n → (b : ℕ) × (bs : List ℕ) × (numeral n ≡ b ∷ bs) × (49 ≤ b) × (b ≤ 57)
numeral_begins n positive =
    let digits = begins (digits_of 10 n) (first_digits_of 10 n (omega arith) positive) (all_below_base_digits_of 10 n (omega arith)) in
    (digits.0, digits.1, written n positive ∙ digits.2, digits.3, digits.4)

same_digits : (ds es : List ℕ) → map (λ d. 48 + d) ds ≡ map (λ d. 48 + d) es → ds ≡ es
same_digits [] [] same = refl
same_digits [] (e ∷ es) same = absurd (cc)
same_digits (d ∷ ds) [] same = absurd (cc)
same_digits (d ∷ ds) (e ∷ es) same =
    let heads : 48 + d ≡ 48 + e = cc in
    let head : d ≡ e = omega (arith, heads) in
    let tail : map (λ d. 48 + d) ds ≡ map (λ d. 48 + d) es = cc in
    let tails : ds ≡ es = same_digits ds es tail in cc

no_zero : (n : ℕ) → codes "0" ≡ numeral (suc n) → ⊥
no_zero n same =
    let first = numeral_begins (suc n) (omega arith) in
    let whole : codes "0" ≡ first.0 ∷ first.1 = same ∙ first.2 in
    let head : 48 ≡ first.0 = cc in
    let low : 49 ≤ first.0 = first.3 in omega (arith, head, low)

-- a numeral begins with a digit
pub numeral_starts : (n : ℕ) → (b : ℕ) × (bs : List ℕ) × (numeral n ≡ b ∷ bs) × (is_digit b ≡ true)
numeral_starts zero = (48, [], refl, refl)
numeral_starts (suc n) =
    let first = numeral_begins (suc n) (omega arith) in
    let low : 49 ≤ first.0 = first.3 in
    let high : first.0 ≤ 57 = first.4 in (first.0, first.1, first.2, grind (arith, low, high))

-- a numeral is that of one number
pub same_numeral : (a b : ℕ) → numeral a ≡ numeral b → a ≡ b
same_numeral zero zero same = refl
same_numeral zero (suc b) same = absurd (no_zero b same)
same_numeral (suc a) zero same = absurd (no_zero a (sym same))
same_numeral (suc a) (suc b) same = same_from_digits_of 10 (suc a) (suc b) (omega arith) (same_digits (digits_of 10 (suc a)) (digits_of 10 (suc b)) same)

-- a numeral ends where its digits end
pub same_numeral_before : (a b x y : ℕ) (more others : List ℕ) → is_digit x ≡ false → is_digit y ≡ false → numeral a ++ x ∷ more ≡ numeral b ++ y ∷ others
    → (a ≡ b) × (x ≡ y) × (more ≡ others)
same_numeral_before a b x y more others ends ends' same =
    let parts = passing_before is_digit (numeral a) (numeral b) x y more others (digits_in_numeral a) (digits_in_numeral b) ends ends' same in
    (same_numeral a b parts.0, parts.1, parts.2)

-- a label ends with its bracket
pub same_label_before : (a b : ℕ) (more others : List ℕ) → 0 < a → 0 < b → label_text a ++ more ≡ label_text b ++ others → (a ≡ b) × (more ≡ others)
same_label_before zero b more others low low' same = absurd (omega (arith, low))
same_label_before (suc a) zero more others low low' same = absurd (omega (arith, low'))
same_label_before (suc a) (suc b) more others low low' same =
    let inside : (numeral (suc a) ++ codes "]") ++ more ≡ (numeral (suc b) ++ codes "]") ++ others = cc in
    let parts = same_numeral_before (suc a) (suc b) 93 93 more others refl refl
    (sym (append_assoc (numeral (suc a)) (codes "]") more) ∙ inside ∙ append_assoc (numeral (suc b)) (codes "]") others) in
    (parts.0, parts.2)

-- std's digits are the numeral
pub decimal_is_numeral : (n : ℕ) → n < 2 ^ 64 → decimal n ≡ numeral n
decimal_is_numeral zero small = decimal_digit 0 (omega arith)
decimal_is_numeral (suc n) small = decimal-digits_of (suc n) (omega arith) small
