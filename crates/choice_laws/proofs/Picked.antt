-- What is picked, block by block.
use Rattle.std.proofs.Common.{◌≡◌, ℕ, zero, suc, ◌+◌, ◌-◌, ◌*◌, ◌<◌, ◌≤◌, Bool, true, false, cond, List, [], ◌∷◌, ◌++◌, Option, Some, None, take, drop, length, nat_lt, refl, sym, ap, ◌∙◌, subst, arith, length-drop, length-append, append_assoc, replicate}
use Rattle.std.specs.Option.{option_map_or}
use Rattle.std.proofs.Math.Seq.{take-append_seam, drop-append_seam}
use Rattle.std.proofs.lemmas.List.{length-take-le, take-append-le, drop-append-le, take-append-drop, length-replicate, append-nil}
use Rattle.std.proofs.lemmas.Bool.{cond-true, cond-false, lt-ltb, le-ltb, ltb-true, ltb-false}
use Rattle.choice_laws.specs.Bits.{number_from, picked_block, picked, block_length}
use Rattle.choice_laws.proofs.Blocks.{no_block}
use Rattle.choice_laws.specs.Laws.{block, FirstBlockIsPicked}

-- ---- the parts of an answer

pub value_of : (value : ℕ) (left : List Bool) (other : ℕ) (more : List Bool) → ◌≡◌ {A = Option (ℕ × List Bool)} (Some (value, left)) (Some (other, more)) → value ≡ other
value_of value left other more same = ap (λ found. option_map_or (λ (p : ℕ × List Bool). p.0) found 0) same

pub left_of : {X : Type 0} (x : X) (left : List Bool) (y : X) (more : List Bool) → ◌≡◌ {A = Option (X × List Bool)} (Some (x, left)) (Some (y, more)) → left ≡ more
left_of {X} x left y more same = ap (λ found. option_map_or (λ (p : X × List Bool). p.1) found []) same

pub end_of : {X : Type 0} (x : X) (left : List Bool) (y : X) (more : List Bool) → ◌≡◌ {A = Option (X × List Bool)} (Some (x, left)) (Some (y, more)) → x ≡ y
end_of {X} x left y more same = ap (λ found. option_map_or (λ (p : X × List Bool). p.0) found x) same

module _ (k bound : ℕ) where
  -- what a whole block gives, or else the blocks behind it
  abbrev from_block : (most : ℕ) (bits more : List Bool) → Option (ℕ × List Bool)
  from_block most bits more = cond (nat_lt (number_from 0 bits) bound) (Some (number_from 0 bits, more)) (picked_block most k bound more)

  whole_block : (most : ℕ) (bits : List Bool) → k ≤ length bits → picked_block (suc most) k bound bits ≡ from_block most (take k bits) (drop k bits)
  whole_block most bits enough = cond-false (nat_lt (length bits) k) None (from_block most (take k bits) (drop k bits)) (le-ltb (length bits) k enough)

  pub block_in_front : (most : ℕ) (bits more : List Bool) → length bits ≡ k → picked_block (suc most) k bound (bits ++ more) ≡ from_block most bits more
  block_in_front most bits more long =
      whole_block most (bits ++ more) (let both : length (bits ++ more) ≡ length bits + length more = length-append bits more in omega (arith, both, long))
      ∙ (λ i. from_block most (front i) (back i))
    where
      front : take k (bits ++ more) ≡ bits
      front = ap (λ (n : ℕ). take n (bits ++ more)) (sym long) ∙ take-append_seam bits more

      back : drop k (bits ++ more) ≡ more
      back = ap (λ (n : ℕ). drop n (bits ++ more)) (sym long) ∙ drop-append_seam bits more

  pub too_few : (most : ℕ) (bits : List Bool) → length bits < k → picked_block (suc most) k bound bits ≡ None
  too_few most bits few = cond-true (nat_lt (length bits) k) None (from_block most (take k bits) (drop k bits)) (lt-ltb (length bits) k few)

  -- how many blocks may be looked at doesn't matter where there are enough
  pub enough_blocks : (m n : ℕ) (bits : List Bool) → 1 ≤ k → length bits < m → length bits < n → picked_block m k bound bits ≡ picked_block n k bound bits
  enough_blocks zero n bits some few few' = absurd (omega (arith, few))
  enough_blocks (suc m) zero bits some few few' = absurd (omega (arith, few'))
  enough_blocks (suc m) (suc n) bits some few few' =
      by (λ long. enough_blocks m n (drop k bits) some (shorter long m few) (shorter long n few')) (nat_lt (length bits) k) refl
    where
      shorter : k ≤ length bits → (most : ℕ) → length bits < suc most → length (drop k bits) < most
      shorter long most few = let rest : length (drop k bits) ≡ length bits - k = length-drop k bits in omega (arith, long, rest, some, few)

      value : ℕ
      value = number_from 0 (take k bits)

      by : (k ≤ length bits → picked_block m k bound (drop k bits) ≡ picked_block n k bound (drop k bits)) → (short : Bool) → nat_lt (length bits) k ≡ short
          → picked_block (suc m) k bound bits ≡ picked_block (suc n) k bound bits
      by later true is = let few = ltb-true (length bits) k is in too_few m bits few ∙ sym (too_few n bits few)
      by later false is =
          let long = ltb-false (length bits) k is in
          whole_block m bits long ∙ ap (cond (nat_lt value bound) (Some (value, drop k bits))) (later long) ∙ sym (whole_block n bits long)

  -- what is picked is below the bound, and the same with more bits behind
  pub below : (most : ℕ) (bits : List Bool) (value : ℕ) (left : List Bool) → picked_block most k bound bits ≡ Some (value, left) → value < bound
  below zero bits value left is = absurd (cc)
  below (suc most) bits value left is =
      by (below most (drop k bits) value left) (nat_lt (length bits) k) (nat_lt (number_from 0 (take k bits)) bound) refl is
    where
      number : ℕ
      number = number_from 0 (take k bits)

      by : (picked_block most k bound (drop k bits) ≡ Some (value, left) → value < bound) → (short small : Bool) → nat_lt number bound ≡ small
          → cond short None (cond small (Some (number, drop k bits)) (picked_block most k bound (drop k bits))) ≡ Some (value, left) → value < bound
      by later true small is_small is = absurd (cc)
      by later false true is_small is = subst (λ n. n < bound) (value_of number (drop k bits) value left is) (ltb-true number bound is_small)
      by later false false is_small is = later is

  pub alike : (most also : ℕ) (bits : List Bool) (value : ℕ) (left more : List Bool) → most ≤ also → picked_block most k bound bits ≡ Some (value, left)
      → picked_block also k bound (bits ++ more) ≡ Some (value, left ++ more)
  alike zero also bits value left more few is = absurd (cc)
  alike (suc most) zero bits value left more few is = absurd (omega (arith, few))
  alike (suc most) (suc also) bits value left more few is =
      by (alike most also (drop k bits) value left more (omega (arith, few))) (nat_lt (length bits) k) refl (nat_lt number bound) refl is
    where
      number : ℕ
      number = number_from 0 (take k bits)

      step_is : k ≤ length bits → picked_block (suc also) k bound (bits ++ more) ≡ from_block also (take k bits) (drop k bits ++ more)
      step_is long =
          whole_block also (bits ++ more) (let both : length (bits ++ more) ≡ length bits + length more = length-append bits more in omega (arith, both, long))
          ∙ (λ i. from_block also (take-append-le k bits more long i) (drop-append-le k bits more long i))

      by : (picked_block most k bound (drop k bits) ≡ Some (value, left) → picked_block also k bound (drop k bits ++ more) ≡ Some (value, left ++ more))
          → (short : Bool) → nat_lt (length bits) k ≡ short → (small : Bool) → nat_lt number bound ≡ small
          → cond short None (cond small (Some (number, drop k bits)) (picked_block most k bound (drop k bits))) ≡ Some (value, left)
          → picked_block (suc also) k bound (bits ++ more) ≡ Some (value, left ++ more)
      by later true is_short small is_small is = absurd (cc)
      by later false is_short true is_small is =
          step_is (ltb-false (length bits) k is_short)
          ∙ cond-true (nat_lt number bound) (Some (number, drop k bits ++ more)) (picked_block also k bound (drop k bits ++ more)) is_small
          ∙ (λ i. Some (value_of number (drop k bits) value left is i, left_of number (drop k bits) value left is i ++ more))
      by later false is_short false is_small is =
          step_is (ltb-false (length bits) k is_short)
          ∙ cond-false (nat_lt number bound) (Some (number, drop k bits ++ more)) (picked_block also k bound (drop k bits ++ more)) is_small
          ∙ later is

-- ---- picked

none_long : (bits : List Bool) → length bits ≡ 0 → bits ≡ []
none_long [] none = refl
none_long (b ∷ bits) none = absurd (cc)

pub picked_at_once : (bound : ℕ) (bits more : List Bool) → length bits ≡ block_length bound → number_from 0 bits < bound → picked bound (bits ++ more) ≡ Some (number_from 0 bits, more)
unfolding picked
picked_at_once bound bits more long small =
    block_in_front (block_length bound) bound (length (bits ++ more)) bits more long
    ∙ cond-true (nat_lt (number_from 0 bits) bound) (Some (number_from 0 bits, more)) (picked_block (length (bits ++ more)) (block_length bound) bound more) (lt-ltb (number_from 0 bits) bound small)

pub passed_by : (bound : ℕ) (bits more : List Bool) → length bits ≡ block_length bound → bound ≤ number_from 0 bits → picked bound (bits ++ more) ≡ picked bound more
unfolding picked
passed_by bound bits more long large = by (block_length bound) refl
  where
    by : (k : ℕ) → block_length bound ≡ k → picked bound (bits ++ more) ≡ picked bound more
    by zero is = ap (λ (front : List Bool). picked bound (front ++ more)) (none_long bits (long ∙ is))
    by (suc k) is =
        block_in_front (block_length bound) bound (length (bits ++ more)) bits more long
        ∙ cond-false (nat_lt (number_from 0 bits) bound) (Some (number_from 0 bits, more)) (picked_block (length (bits ++ more)) (block_length bound) bound more) (le-ltb (number_from 0 bits) bound large)
        ∙ enough_blocks (block_length bound) bound (length (bits ++ more)) (suc (length more)) more (omega (arith, is))
        (let both : length (bits ++ more) ≡ length bits + length more = length-append bits more in omega (arith, both, long, is)) (omega arith)

pub picked_short : (bound : ℕ) (bits : List Bool) → length bits < block_length bound → picked bound bits ≡ None
unfolding picked
picked_short bound bits few = too_few (block_length bound) bound (length bits) bits few

pub picked_below : (bound value : ℕ) (bits left : List Bool) → picked bound bits ≡ Some (value, left) → value < bound
unfolding picked
picked_below bound value bits left is = below (block_length bound) bound (suc (length bits)) bits value left is

pub picked_alike : (bound value : ℕ) (bits left more : List Bool) → picked bound bits ≡ Some (value, left) → picked bound (bits ++ more) ≡ Some (value, left ++ more)
unfolding picked
picked_alike bound value bits left more is =
    alike (block_length bound) bound (suc (length bits)) (suc (length (bits ++ more))) bits value left more
    (let both : length (bits ++ more) ≡ length bits + length more = length-append bits more in omega (arith, both)) is

no_bits : 0 ≡ block_length 1
unfolding block_length
no_bits = refl

pub picked_one : (bits : List Bool) → picked 1 bits ≡ Some (0, bits)
picked_one bits = picked_at_once 1 [] bits no_bits (omega arith)

drop_drop : (m n : ℕ) (bits : List Bool) → drop m (drop n bits) ≡ drop (n + m) bits
drop_drop m zero bits = ap (λ (k : ℕ). drop k bits) (none m)
  where
    none : (n : ℕ) → n ≡ 0 + n
    none n = omega arith
drop_drop m (suc n) [] = all m ∙ sym (all (suc n + m))
  where
    all : (m : ℕ) → drop {A = Bool} m [] ≡ []
    all zero = refl
    all (suc m) = refl
drop_drop m (suc n) (b ∷ bits) = drop_drop m n bits ∙ ap (λ (k : ℕ). drop k (b ∷ bits)) (one_more n m)
  where
    one_more : (n m : ℕ) → suc (n + m) ≡ suc n + m
    one_more n m = omega arith

some_is_not_none : {X : Type 0} (x : X) (found : Option X) → found ≡ Some x → found ≡ None → ⊥
some_is_not_none x found some none = absurd (cc)

-- where nothing is picked, the first block is at or above the bound
first_block : (bound : ℕ) (bits : List Bool) → picked bound bits ≡ None → block_length bound ≤ length bits → bound ≤ number_from 0 (take (block_length bound) bits)
first_block bound bits none enough = by (nat_lt value bound) refl
  where
    k : ℕ
    k = block_length bound

    value : ℕ
    value = number_from 0 (take k bits)

    by : (small : Bool) → nat_lt value bound ≡ small → bound ≤ value
    by true is =
        let found = picked_at_once bound (take k bits) (drop k bits) (length-take-le k bits enough) (ltb-true value bound is) in
        absurd (some_is_not_none (value, drop k bits) (picked bound (take k bits ++ drop k bits)) found (ap (picked bound) (take-append-drop k bits) ∙ none))
    by false is = ltb-false value bound is

pub no_block_below : (bound i : ℕ) (bits : List Bool) → picked bound bits ≡ None → suc i * block_length bound ≤ length bits
    → bound ≤ number_from 0 (block (block_length bound) i bits)
no_block_below bound zero bits none enough =
    subst (λ (n : ℕ). bound ≤ number_from 0 (take (block_length bound) (drop n bits))) (nothing (block_length bound)) (first_block bound bits none (grind (arith, enough)))
  where
    nothing : (k : ℕ) → 0 ≡ 0 * k
    nothing k = omega arith
no_block_below bound (suc i) bits none enough =
    let k = block_length bound in
    let within : k ≤ length bits = grind (arith, enough) in
    let rest : length (drop k bits) ≡ length bits - k = length-drop k bits in
    let passed : picked bound (drop k bits) ≡ None =
    sym (passed_by bound (take k bits) (drop k bits) (length-take-le k bits within) (first_block bound bits none within))
    ∙ ap (picked bound) (take-append-drop k bits) ∙ none in
    let later = no_block_below bound i (drop k bits) passed (fewer (length bits) k i (length (drop k bits)) enough rest) in
    subst (λ (front : List Bool). bound ≤ number_from 0 (take k front)) (drop_drop (i * k) k bits ∙ ap (λ (n : ℕ). drop n bits) (one_more k i)) later
  where
    fewer : (all k i rest : ℕ) → suc (suc i) * k ≤ all → rest ≡ all - k → suc i * k ≤ rest
    fewer all k i rest enough is = let split : suc (suc i) * k ≡ k + suc i * k = spread k i in omega (arith, split, enough, is)
      where
        spread : (k i : ℕ) → suc (suc i) * k ≡ k + suc i * k
        spread k i = grind arith

    one_more : (k i : ℕ) → k + i * k ≡ suc i * k
    one_more k i = grind arith

pub first_block_is_picked : FirstBlockIsPicked
first_block_is_picked = record {
  at_once = picked_at_once;
  later = passed_by;
  short = picked_short;
  one = picked_one;
  below = picked_below;
  no_block = no_block_below;
}

-- ---- with more bits

-- some more bits pick something
pub record PicksWithMore (bound : ℕ) (bits : List Bool) : Type 0 where
  pub more : List Bool
  pub value : ℕ
  pub left : List Bool
  pub picks : picked bound (bits ++ more) ≡ Some (value, left)

abbrev zeros : ℕ → List Bool
zeros n = replicate n false

no_number : (n : ℕ) → number_from 0 (zeros n) ≡ 0
no_number zero = refl
no_number (suc n) = no_number n

-- a block of zeros is below each bound
zeros_picked : (bound : ℕ) → 0 < bound → PicksWithMore bound []
zeros_picked bound some =
    let k = block_length bound in
    record {
      more = zeros k ++ [];
      value = number_from 0 (zeros k);
      left = [];
      picks = picked_at_once bound (zeros k) [] (length-replicate k false) (omega (arith, some, no_number k));
    }

-- behind a whole block
behind_block : (bound : ℕ) (bits rest : List Bool) → length bits ≡ block_length bound → PicksWithMore bound rest → PicksWithMore bound (bits ++ rest)
behind_block bound bits rest long later = by (nat_lt (number_from 0 bits) bound) refl
  where
    by : (small : Bool) → nat_lt (number_from 0 bits) bound ≡ small → PicksWithMore bound (bits ++ rest)
    by true is = record {
      more = [];
      value = number_from 0 bits;
      left = rest ++ [];
      picks = ap (picked bound) (append_assoc bits rest []) ∙ picked_at_once bound bits (rest ++ []) long (ltb-true (number_from 0 bits) bound is);
    }
    by false is = record {
      more = later.more;
      value = later.value;
      left = later.left;
      picks = ap (picked bound) (append_assoc bits rest later.more) ∙ passed_by bound bits (rest ++ later.more) long (ltb-false (number_from 0 bits) bound is) ∙ later.picks;
    }

completed : (bound : ℕ) (bits : List Bool) → 0 < bound → length bits < block_length bound → PicksWithMore bound bits
completed bound bits some few =
    let missing = zeros (block_length bound - length bits) in
    let whole = behind_block bound (bits ++ missing) [] long (zeros_picked bound some) in
    record {
      more = missing ++ whole.more;
      value = whole.value;
      left = whole.left;
      picks = ap (picked bound) (sym (append_assoc bits missing whole.more)) ∙ ap (λ (front : List Bool). picked bound (front ++ whole.more)) (sym (append-nil (bits ++ missing))) ∙ whole.picks;
    }
  where
    long : length (bits ++ zeros (block_length bound - length bits)) ≡ block_length bound
    long =
        let both = length-append bits (zeros (block_length bound - length bits)) in
        let zeros_long : length (zeros (block_length bound - length bits)) ≡ block_length bound - length bits = length-replicate (block_length bound - length bits) false in
        omega (arith, both, zeros_long, few)

picks_within : (most bound : ℕ) (bits : List Bool) → 0 < bound → 1 ≤ block_length bound → length bits < most → PicksWithMore bound bits
picks_within zero bound bits some long few = absurd (omega (arith, few))
picks_within (suc most) bound bits some long few = by (λ rest shorter. picks_within most bound rest some long shorter) (nat_lt (length bits) (block_length bound)) refl
  where
    k : ℕ
    k = block_length bound

    by : ((rest : List Bool) → length rest < most → PicksWithMore bound rest) → (short : Bool) → nat_lt (length bits) k ≡ short → PicksWithMore bound bits
    by later true is = completed bound bits some (ltb-true (length bits) k is)
    by later false is =
        let enough : k ≤ length bits = ltb-false (length bits) k is in
        let rest : length (drop k bits) ≡ length bits - k = length-drop k bits in
        subst (PicksWithMore bound) (take-append-drop k bits)
        (behind_block bound (take k bits) (drop k bits) (length-take-le k bits enough) (later (drop k bits) (omega (arith, rest, enough, long, few))))

pub picks_with_more : (bound : ℕ) (bits : List Bool) → 1 < bound → PicksWithMore bound bits
picks_with_more bound bits some = picks_within (suc (length bits)) bound bits (omega (arith, some)) (by (block_length bound) refl) (omega arith)
  where
    by : (k : ℕ) → block_length bound ≡ k → 1 ≤ k
    by zero is = let small : bound ≤ 1 = no_block bound is in absurd (omega (arith, small, some))
    by (suc k) is = omega arith
