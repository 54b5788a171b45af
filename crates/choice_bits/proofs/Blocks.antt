-- Blocks of bits, as they are taken.
use Rattle.std.proofs.Common.{◌≡◌, ℕ, suc, ◌+◌, ◌-◌, ◌<◌, ◌≤◌, ◌^◌, Bool, List, [], ◌∷◌, ◌++◌, Some, take, drop, length, sym, ap, ◌∙◌, subst, arith, drop-cons, length-drop, get_or}
use Rattle.std.proofs.Math.Seq.{take-suc}
use Rattle.std.proofs.lemmas.List.{length-take-le, take-append-drop}
use Rattle.std.proofs.Math.Pow.{pow_mono}
use Rattle.choice_laws.specs.Bits.{number_from, with_bit, picked, block_length}
use Rattle.choice_laws.proofs.Blocks.{number_of_one_more, number_fits}
use Rattle.choice_laws.proofs.Picked.{picked_at_once, passed_by}
use Rattle.choice_bits.specs.Bits.{IsTaken}

head_is : (x y : Bool) (xs ys : List Bool) → x ∷ xs ≡ y ∷ ys → x ≡ y
head_is x y xs ys h = ap (λ (zs : List Bool). get_or zs 0 x) h

tail_is : (x y : Bool) (xs ys : List Bool) → x ∷ xs ≡ y ∷ ys → xs ≡ ys
tail_is x y xs ys h = ap (λ (zs : List Bool). drop 1 zs) h

some_left : (k : ℕ) (given : List Bool) (bit : Bool) (later : List Bool) → drop k given ≡ bit ∷ later → k < length given
some_left k given bit later h =
    let long : length (drop k given) ≡ suc (length later) = ap length h in
    let same : length (drop k given) ≡ length given - k = length-drop k given in
    omega (arith, long, same)

-- with one more bit
pub taken_more : (k : ℕ) (given : List Bool) (value : ℕ) (left : List Bool) (bit : Bool) (later : List Bool)
    → IsTaken k given value left → left ≡ bit ∷ later → IsTaken (k + 1) given (with_bit value bit) later
taken_more k given value left bit later taken first =
    let next = sym taken.left_is ∙ first in
    let more : k < length given = some_left k given bit later next in
    let split = sym (drop-cons given k bit more) ∙ next in
    let same = head_is (get_or given k bit) bit (drop (suc k) given) later split in
    let rest = tail_is (get_or given k bit) bit (drop (suc k) given) later split in
    let block : take (suc k) given ≡ take k given ++ bit ∷ [] = take-suc given k bit more ∙ ap (λ b. take k given ++ b ∷ []) same in
    record {
      value_is = ap (λ n. with_bit n bit) taken.value_is ∙ sym (ap (number_from 0) block ∙ number_of_one_more 0 (take k given) bit) ∙ ap (λ n. number_from 0 (take n given)) (one_more k);
      left_is = sym rest ∙ ap (λ n. drop n given) (one_more k);
      enough = omega (arith, more);
    }
  where
    one_more : (n : ℕ) → suc n ≡ n + 1
    one_more n = omega arith

pub taken_fits : (k width : ℕ) (given : List Bool) (value : ℕ) (left : List Bool) → IsTaken k given value left → k < width → width ≤ 128 → value < 2 ^ 127
taken_fits k width given value left taken more few =
    let small : number_from 0 (take k given) < 2 ^ (length (take k given) + 0) = number_fits 0 0 (take k given) (omega arith) in
    let long : length (take k given) ≡ k = length-take-le k given taken.enough in
    let power : 2 ^ (length (take k given) + 0) ≤ 2 ^ 127 = pow_mono {i = length (take k given) + 0} {j = 127} (omega (arith, long, more, few)) in
    omega (arith, small, power, taken.value_is)

pub taken_all : (k width : ℕ) (given : List Bool) (value : ℕ) (left : List Bool) → IsTaken k given value left → left ≡ [] → k < width → length given < width
taken_all k width given value left taken none more =
    let gone : length (drop k given) ≡ 0 = ap length (sym taken.left_is ∙ none) in
    let same : length (drop k given) ≡ length given - k = length-drop k given in
    omega (arith, gone, same, more)

-- ---- picking

-- a block below the bound is picked
pub picked_below : (bound : ℕ) (bits : List Bool) (value : ℕ) (left : List Bool) → IsTaken (block_length bound) bits value left → value < bound → picked bound bits ≡ Some (value, left)
picked_below bound bits value left taken below =
    let k = block_length bound in
    ap (picked bound) (sym (take-append-drop k bits))
    ∙ picked_at_once bound (take k bits) (drop k bits) (length-take-le k bits taken.enough) (subst (λ n. n < bound) taken.value_is below)
    ∙ (λ i. Some (sym taken.value_is i, sym taken.left_is i))

-- a block at or above it is passed over
pub passed_over : (bound : ℕ) (bits : List Bool) (value : ℕ) (left : List Bool) → IsTaken (block_length bound) bits value left → bound ≤ value → 1 ≤ bound → picked bound left ≡ picked bound bits
passed_over bound bits value left taken above some =
    let k = block_length bound in
    ap (picked bound) taken.left_is
    ∙ sym (passed_by bound (take k bits) (drop k bits) (length-take-le k bits taken.enough) (subst (λ n. bound ≤ n) taken.value_is above))
    ∙ ap (picked bound) (take-append-drop k bits)
