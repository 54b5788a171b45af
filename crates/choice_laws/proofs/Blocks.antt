-- How long a block of bits is, and what its bits write.
use Rattle.std.proofs.Common.{◌≡◌, ℕ, zero, suc, ◌+◌, ◌*◌, ◌<◌, ◌≤◌, ◌^◌, Bool, true, false, List, [], ◌∷◌, ◌++◌, nat_le, length, refl, sym, ap, ◌∙◌, arith}
use Rattle.std.proofs.lemmas.Bool.{cond-true, cond-false, le-leb, lt-leb, leb-true}
use Rattle.std.proofs.Math.Nat.{pow-suc, suc-ne-zero}
use Rattle.choice_laws.specs.Bits.{doublings, block_length, number_from, with_bit}

more_doubled : (bound power q : ℕ) → power * (q * 2) < 2 * bound → 0 < q → power < bound
more_doubled bound power q h positive = grind arith

twice : (power q : ℕ) → power * (q * 2) ≡ 2 * power * q
twice power q = grind arith

pub doublings_is : (most bound d power : ℕ) → d ≤ most → bound ≤ power * 2 ^ d → power * 2 ^ d < 2 * bound → doublings most bound power ≡ d
doublings_is zero bound zero power few reaches least = refl
doublings_is zero bound (suc d) power few reaches least = absurd (omega (arith, few))
doublings_is (suc most) bound zero power few reaches least = cond-true (nat_le bound power) 0 (suc (doublings most bound (2 * power))) (le-leb bound power (omega (arith, reaches)))
doublings_is (suc most) bound (suc d) power few reaches least =
    cond-false (nat_le bound power) 0 (suc (doublings most bound (2 * power))) (lt-leb bound power (more_doubled bound power (2 ^ d) (grind (arith, pow-suc, least)) (grind arith)))
    ∙ ap suc (doublings_is most bound d (2 * power) (omega (arith, few)) (grind (arith, pow-suc, twice, reaches)) (grind (arith, pow-suc, twice, least)))

below_power : (k : ℕ) → suc k ≤ 2 ^ k
below_power zero = omega arith
below_power (suc k) = grind (arith, pow-suc, below_power k)

few_doublings : (bound m : ℕ) → 2 ^ m < 2 * bound → m ≤ bound
few_doublings bound zero least = omega arith
few_doublings bound (suc k) least = grind (arith, pow-suc, below_power k, least)

-- the least power of 2 that is at least the bound tells the length of a block
pub block_length_is : (bound m : ℕ) → bound ≤ 2 ^ m → 2 ^ m < 2 * bound → block_length bound ≡ m
unfolding block_length
block_length_is bound m reaches least = doublings_is bound bound m 1 (few_doublings bound m least) (grind (arith, reaches)) (grind (arith, least))

-- ---- the numbers that bits write

pub number_of_one_more : (n : ℕ) (bits : List Bool) (bit : Bool) → number_from n (bits ++ bit ∷ []) ≡ with_bit (number_from n bits) bit
number_of_one_more n [] bit = refl
number_of_one_more n (b ∷ bits) bit = number_of_one_more (with_bit n b) bits bit

with_bit_bound : (n k : ℕ) (bit : Bool) → n < 2 ^ k → with_bit n bit < 2 ^ suc k
with_bit_bound n k true h = grind (arith, pow-suc, h)
with_bit_bound n k false h = grind (arith, pow-suc, h)

-- so many bits write a number below that power of 2
pub number_fits : (k n : ℕ) (bits : List Bool) → n < 2 ^ k → number_from n bits < 2 ^ (length bits + k)
number_fits k n [] h = grind (arith, h)
number_fits k n (b ∷ bits) h = grind (arith, number_fits (suc k) (with_bit n b) bits (with_bit_bound n k b h))

-- only the bound 1 takes no bits
pub no_block : (bound : ℕ) → block_length bound ≡ 0 → bound ≤ 1
unfolding block_length
no_block zero h = omega arith
no_block (suc b) h = by_cases (nat_le (suc b) 1) refl
  where
    by_cases : (small : Bool) → nat_le (suc b) 1 ≡ small → suc b ≤ 1
    by_cases true is = leb-true (suc b) 1 is
    by_cases false is = absurd (suc-ne-zero (doublings b (suc b) 2) (sym (cond-false (nat_le (suc b) 1) 0 (suc (doublings b (suc b) 2)) is) ∙ h))
