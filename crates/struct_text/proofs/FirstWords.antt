-- How words, numbers and labels are taken off a text.
use Rattle.std.proofs.Common.{◌≡◌, ◌≤◌, ◌<◌, ◌^◌, ℕ, zero, suc, ◌+◌, ◌-◌, ◌*◌, ◌/◌, ◌%◌, Bool, true, false, not, List, [], ◌∷◌, ◌++◌, map, codes, length, take, drop, nat_eq, IsTrue, refl, sym, ap, ◌∙◌, arith, append_assoc, true≢false}
use Rattle.std.specs.List.{list_all}
use Rattle.std.specs.Cmp.Lexicographic.{pointwise, same_text, other_text}
use Rattle.std.specs.Int.Digits.{digits_of, number_from_digits, number_from_digits_after}
use Rattle.std.proofs.lemmas.Int.Digits.{digits_of_step, number_digits_of, number_after_append, number_after_ge}
use Rattle.std.proofs.lemmas.Bool.{and_parts}
use Rattle.std.proofs.lemmas.List.{append_cancel_left, append-nil, take-append-drop}
use Rattle.std.proofs.Math.Seq.{take-append_seam}
use Rattle.spec_syntax.specs.declared.statement.Universe.TheVariants.{Labelled}
use Rattle.spec_syntax.specs.Word.{is_digit}
use Rattle.struct_model.specs.Membership.{is_label}
use Rattle.struct_text.specs.Text.{numeral, label_text}
use Rattle.struct_text.specs.Lexing.{begins_no_digit, IsLabelRead}
use Rattle.struct_text.proofs.Numerals.{written, digits_in_numeral, numeral_starts, numeral_begins, same_numeral_before, same_label_before}

-- ---- words

pub word_next : (text word : List ℕ) → true ≡ pointwise nat_eq (take (length word) text) word → text ≡ word ++ drop (length word) text
word_next text word same = sym (take-append-drop (length word) text) ∙ ap (λ front. front ++ drop (length word) text) (same_text (take (length word) text) word same)

pub word_not_next : (text word rest : List ℕ) → false ≡ pointwise nat_eq (take (length word) text) word → text ≡ word ++ rest → ⊥
word_not_next text word rest other is = other_text (take (length word) text) word other (ap (take (length word)) is ∙ take-append_seam word rest)

-- ---- numbers

tenth : (n d : ℕ) → d < 10 → (n * 10 + d) / 10 ≡ n
tenth n d low = omega arith

unit : (n d : ℕ) → d < 10 → (n * 10 + d) % 10 ≡ d
unit n d low = omega arith

digits_push : (n d : ℕ) → 0 < n * 10 + d → d < 10 → digits_of 10 (n * 10 + d) ≡ digits_of 10 n ++ d ∷ []
digits_push n d positive low =
    digits_of_step 10 (n * 10 + d) (omega arith) positive
    ∙ ap (λ (m : ℕ). digits_of 10 m ++ ((n * 10 + d) % 10) ∷ []) (tenth n d low)
    ∙ ap (λ (e : ℕ). digits_of 10 n ++ e ∷ []) (unit n d low)

map_push : (ds : List ℕ) (d : ℕ) → map (λ d. 48 + d) (ds ++ d ∷ []) ≡ map (λ d. 48 + d) ds ++ (48 + d) ∷ []
map_push [] d = refl
map_push (e ∷ ds) d = ap (λ (es : List ℕ). (48 + e) ∷ es) (map_push ds d)

-- a digit behind a numeral
pub numeral_push : (n d : ℕ) → 0 < n → d < 10 → numeral (n * 10 + d) ≡ numeral n ++ (48 + d) ∷ []
numeral_push n d positive low =
    written (n * 10 + d) (omega (arith, positive))
    ∙ ap (map (λ d. 48 + d)) (digits_push n d (omega (arith, positive)) low)
    ∙ map_push (digits_of 10 n) d
    ∙ ap (λ (front : List ℕ). front ++ (48 + d) ∷ []) (sym (written n positive))

-- a digit alone
pub numeral_one : (d : ℕ) → 0 < d → d < 10 → numeral d ≡ (48 + d) ∷ []
numeral_one d positive low =
    let same : 0 * 10 + d ≡ d = omega arith in
    written d positive ∙ ap (map (λ d. 48 + d)) (ap (digits_of 10) (sym same) ∙ digits_push 0 d (omega (arith, positive)) low)

-- the text goes on with another digit
pub numeral_grows : (text left more : List ℕ) (n d longer : ℕ) → 0 < n → d < 10 → longer ≡ n * 10 + d → text ≡ numeral n ++ left → left ≡ (48 + d) ∷ more → text ≡ numeral longer ++ more
numeral_grows text left more n d longer positive low is whole next =
    whole ∙ ap (λ (l : List ℕ). numeral n ++ l) next ∙ sym (append_assoc (numeral n) ((48 + d) ∷ []) more)
    ∙ ap (λ (front : List ℕ). front ++ more) (sym (numeral_push n d positive low)) ∙ ap (λ (m : ℕ). numeral m ++ more) (sym is)

-- the same, where the parts of the sum are known by other names
pub grown : (text left more : List ℕ) (n d a b : ℕ) → 1 ≤ n → a ≡ n → b ≡ d → d < 10 → text ≡ numeral n ++ left → left ≡ (48 + d) ∷ more → (1 ≤ a * 10 + b) × (text ≡ numeral (a * 10 + b) ++ more)
grown text left more n d a b positive is_n is_d low whole next =
    (omega (arith, positive, is_n), numeral_grows text left more n d (a * 10 + b) (omega (arith, positive)) low (omega (arith, is_n, is_d)) whole next)

-- the first digit, which isn't 0
pub first_digit : (text more : List ℕ) (d : ℕ) → (d ≡ 0 → ⊥) → d < 10 → text ≡ (48 + d) ∷ more → (1 ≤ d) × (text ≡ numeral d ++ more)
first_digit text more d some low next =
    let positive : 0 < d = omega (arith, some) in (omega (arith, positive), next ∙ ap (λ (front : List ℕ). front ++ more) (sym (numeral_one d positive low)))

pub no_digit : (text : List ℕ) (number : ℕ) (rest : List ℕ) → IsTrue (begins_no_digit text) → text ≡ numeral number ++ rest → ⊥
no_digit text number rest none same =
    let first = numeral_starts number in
    let whole : text ≡ first.0 ∷ (first.1 ++ rest) = same ∙ ap (λ (front : List ℕ). front ++ rest) first.2 in
    true≢false (sym none ∙ ap begins_no_digit whole ∙ ap not first.3)

pub zero_first : (text more : List ℕ) (d number : ℕ) (rest : List ℕ) → d ≡ 0 → text ≡ (48 + d) ∷ more → 1 ≤ number → text ≡ numeral number ++ rest → ⊥
zero_first text more d number rest is_zero next low same =
    let first = numeral_begins number (omega (arith, low)) in
    let whole : (48 + d) ∷ more ≡ first.0 ∷ (first.1 ++ rest) = sym next ∙ same ∙ ap (λ (front : List ℕ). front ++ rest) first.2 in
    let head : 48 + d ≡ first.0 = cc in
    let high : 49 ≤ first.0 = first.3 in omega (arith, head, high, is_zero)

-- the digits in front of a text are in front of each split of it before a byte that is no digit
in_front : (xs ys more rest : List ℕ) → list_all is_digit xs ≡ true → begins_no_digit rest ≡ true → xs ++ more ≡ ys ++ rest → (zs : List ℕ) × (ys ≡ xs ++ zs)
in_front [] ys more rest digits ends same = (ys, refl)
in_front (x ∷ xs) [] more [] digits ends same = absurd (cc)
in_front (x ∷ xs) [] more (b ∷ rest) digits ends same =
    let head : x ≡ b = cc in
    let digit : is_digit b ≡ true = sym (ap is_digit head) ∙ (and_parts (is_digit x) (list_all is_digit xs) digits).0 in
    absurd (true≢false (sym ends ∙ ap not digit))
in_front (x ∷ xs) (y ∷ ys) more rest digits ends same =
    let head : x ≡ y = cc in
    let tail : xs ++ more ≡ ys ++ rest = cc in
    let behind = in_front xs ys more rest (and_parts (is_digit x) (list_all is_digit xs) digits).1 ends tail in
    (behind.0, ap (λ (b : ℕ). b ∷ ys) (sym head) ∙ ap (λ (bs : List ℕ). x ∷ bs) behind.1)

abbrev value : List ℕ → ℕ
value bs = number_from_digits 10 (map (λ b. b - 48) bs)

map_back : (ds : List ℕ) → map (λ b. b - 48) (map (λ d. 48 + d) ds) ≡ ds
map_back [] = refl
map_back (d ∷ ds) = let head : 48 + d - 48 ≡ d = omega arith in ap (λ (e : ℕ). e ∷ map (λ b. b - 48) (map (λ d. 48 + d) ds)) head ∙ ap (λ (es : List ℕ). d ∷ es) (map_back ds)

value_of_numeral : (n : ℕ) → 0 < n → value (numeral n) ≡ n
value_of_numeral n positive =
    ap value (written n positive) ∙ ap (number_from_digits 10) (map_back (digits_of 10 n)) ∙ number_digits_of 10 n (omega arith)

map_append : (xs ys : List ℕ) → map (λ b. b - 48) (xs ++ ys) ≡ map (λ b. b - 48) xs ++ map (λ b. b - 48) ys
map_append [] ys = refl
map_append (x ∷ xs) ys = ap (λ (bs : List ℕ). (x - 48) ∷ bs) (map_append xs ys)

value_grows : (xs zs : List ℕ) → value xs ≤ value (xs ++ zs)
value_grows xs zs =
    let whole : value (xs ++ zs) ≡ number_from_digits_after 10 (value xs) (map (λ b. b - 48) zs) =
    ap (number_from_digits 10) (map_append xs zs) ∙ number_after_append 10 0 (map (λ b. b - 48) xs) (map (λ b. b - 48) zs) in
    omega (arith, whole, number_after_ge 10 (value xs) (map (λ b. b - 48) zs))

-- a text that begins with the digits of a number has no smaller one in front
pub number_grows : (text : List ℕ) (n k : ℕ) (more rest : List ℕ) → 0 < n → 0 < k → IsTrue (begins_no_digit rest) → text ≡ numeral n ++ more → text ≡ numeral k ++ rest → n ≤ k
number_grows text n k more rest positive positive' ends whole same =
    let behind = in_front (numeral n) (numeral k) more rest (digits_in_numeral n) ends (sym whole ∙ same) in
    let more_value = value_grows (numeral n) behind.0 in
    let of_k : value (numeral n ++ behind.0) ≡ k = ap value (sym behind.1) ∙ value_of_numeral k positive' in
    omega (arith, more_value, of_k, value_of_numeral n positive)

-- the number in front of a text is one
pub numbers_alike : (text : List ℕ) (n k : ℕ) (left others : List ℕ) (y : ℕ) → is_digit y ≡ false → IsTrue (begins_no_digit left) → text ≡ numeral n ++ left → text ≡ numeral k ++ y ∷ others
    → (n ≡ k) × (left ≡ y ∷ others)
numbers_alike text n k [] others y ends' ends whole same =
    let behind = in_front (numeral k) (numeral n) (y ∷ others) [] (digits_in_numeral k) refl (sym same ∙ whole) in
    let cut : numeral k ++ y ∷ others ≡ numeral k ++ behind.0 = sym same ∙ whole ∙ append-nil (numeral n) ∙ behind.1 in
    let digits : list_all is_digit (numeral k ++ y ∷ others) ≡ true = ap (list_all is_digit) (sym same ∙ whole ∙ append-nil (numeral n)) ∙ digits_in_numeral n in
    absurd (stops (numeral k) digits)
  where
    stops : (xs : List ℕ) → list_all is_digit (xs ++ y ∷ others) ≡ true → ⊥
    stops [] digits = true≢false (sym (and_parts (is_digit y) (list_all is_digit others) digits).0 ∙ ends')
    stops (x ∷ xs) digits = stops xs (and_parts (is_digit x) (list_all is_digit (xs ++ y ∷ others)) digits).1
numbers_alike text n k (x ∷ left) others y ends' ends whole same =
    let parts = same_numeral_before n k x y left others (is_no ends) ends' (sym whole ∙ same) in
    (parts.0, ap (λ (b : ℕ). b ∷ left) parts.1 ∙ ap (λ (bs : List ℕ). y ∷ bs) parts.2)
  where
    no : (b : Bool) → not b ≡ true → b ≡ false
    no true h = absurd (true≢false (sym h))
    no false h = refl

    is_no : not (is_digit x) ≡ true → is_digit x ≡ false
    is_no h = no (is_digit x) h

-- ---- labels

-- the text of a label of the labelled universe, part by part
pub label_parts : (text : List ℕ) (label : ℕ) (rest : List ℕ) → IsTrue (is_label Labelled label) → text ≡ label_text label ++ rest
    → (0 < label) × (text ≡ codes "[" ++ numeral label ++ 93 ∷ rest)
label_parts text zero rest is whole = absurd (true≢false (sym is))
label_parts text (suc l) rest is whole =
    (omega arith, whole ∙ ap (λ (bs : List ℕ). codes "[" ++ bs) (append_assoc (numeral (suc l)) (codes "]") rest))

-- a label that was read
pub label_read : (text inside behind left : List ℕ) (label : ℕ) → 0 < label → text ≡ codes "[" ++ inside → inside ≡ numeral label ++ behind → behind ≡ codes "]" ++ left
    → IsLabelRead Labelled text label left
label_read text inside behind left zero positive first second third = absurd (omega (arith, positive))
label_read text inside behind left (suc l) positive first second third =
    let whole : text ≡ label_text (suc l) ++ left =
    first ∙ ap (λ (bs : List ℕ). codes "[" ++ bs) (second ∙ ap (λ (bs : List ℕ). numeral (suc l) ++ bs) third)
    ∙ ap (λ (bs : List ℕ). codes "[" ++ bs) (sym (append_assoc (numeral (suc l)) (codes "]") left)) in
    record {
      whole = whole;
      only = λ other rest is small same.
          let parts = label_parts text other rest is same in
          let alike = same_label_before other (suc l) rest left parts.0 (omega arith) (sym same ∙ whole) in (alike.0, alike.1);
    }

pub no_number : (text inside : List ℕ) (label : ℕ) (rest : List ℕ) → text ≡ codes "[" ++ inside → IsTrue (is_label Labelled label) → label < 2 ^ 32 → text ≡ label_text label ++ rest
    → ((number : ℕ) (more : List ℕ) → 1 ≤ number → number < 2 ^ 32 → IsTrue (begins_no_digit more) → inside ≡ numeral number ++ more → ⊥) → ⊥
no_number text inside label rest first is small whole none =
    let parts = label_parts text label rest is whole in
    none label (93 ∷ rest) (omega (arith, parts.0)) small refl (append_cancel_left (codes "[") inside (numeral label ++ 93 ∷ rest) (sym first ∙ parts.1))

pub no_end : (text inside behind : List ℕ) (n label : ℕ) (rest : List ℕ) → text ≡ codes "[" ++ inside → inside ≡ numeral n ++ behind → IsTrue (begins_no_digit behind)
    → IsTrue (is_label Labelled label) → text ≡ label_text label ++ rest → ((more : List ℕ) → behind ≡ codes "]" ++ more → ⊥) → ⊥
no_end text inside behind n label rest first second ends is whole none =
    let parts = label_parts text label rest is whole in
    let alike = numbers_alike inside n label behind rest 93 refl ends second (append_cancel_left (codes "[") inside (numeral label ++ 93 ∷ rest) (sym first ∙ parts.1)) in
    none rest alike.1
