-- The values that blocks of bits write, each once.
use Rattle.std.proofs.Common.{◌≡◌, ℕ, zero, suc, ◌+◌, ◌-◌, ◌*◌, ◌<◌, ◌≤◌, ◌^◌, Bool, true, false, cond, List, [], ◌∷◌, nat_lt, nat_le, length, refl, sym, ap, ◌∙◌, subst, arith}
use Rattle.std.specs.Prelude.{if◌then◌else◌}
use Rattle.std.proofs.lemmas.Bool.{ltb-true, ltb-false, leb-true, leb-false}
use Rattle.std.proofs.Math.Nat.{pow-suc}
use Rattle.choice_laws.specs.Bits.{doublings, block_length, number_from}
use Rattle.choice_laws.specs.Laws.{BlocksWriteValues}
use Rattle.choice_laws.proofs.Blocks.{number_fits}

-- what the highest bit adds
number_behind : (n : ℕ) (bits : List Bool) → number_from n bits ≡ n * 2 ^ length bits + number_from 0 bits
number_behind n [] = by_one n
  where
    by_one : (n : ℕ) → n ≡ n * 1 + 0
    by_one n = omega arith
number_behind n (true ∷ bits) =
    number_behind (2 * n + 1) bits ∙ spread n (2 ^ length bits) (number_from 0 bits)
    ∙ (λ i. n * sym (pow-suc 2 (length bits)) i + sym (number_behind 1 bits) i)
  where
    spread : (n p k : ℕ) → (2 * n + 1) * p + k ≡ n * (p * 2) + (1 * p + k)
    spread n p k = grind arith
number_behind n (false ∷ bits) = number_behind (2 * n) bits ∙ spread n (2 ^ length bits) (number_from 0 bits) ∙ ap (λ (q : ℕ). n * q + number_from 0 bits) (sym (pow-suc 2 (length bits)))
  where
    spread : (n p k : ℕ) → 2 * n * p + k ≡ n * (p * 2) + k
    spread n p k = grind arith

two_powers : (k : ℕ) → 2 ^ suc k ≡ 2 ^ k + 2 ^ k
two_powers k = pow-suc 2 k ∙ twice (2 ^ k)
  where
    twice : (n : ℕ) → n * 2 ≡ n + n
    twice n = omega arith

-- a number of the highest bit and the others
with_front : (b : Bool) (bits : List Bool) → number_from 0 (b ∷ bits) ≡ (if b then 2 ^ length bits else 0) + number_from 0 bits
with_front true bits = number_behind 1 bits ∙ by_one (2 ^ length bits) (number_from 0 bits)
  where
    by_one : (p k : ℕ) → 1 * p + k ≡ p + k
    by_one p k = grind arith
with_front false bits = none (number_from 0 bits)
  where
    none : (k : ℕ) → k ≡ 0 + k
    none k = omega arith

-- the block that writes a value
pub record Writes (k value : ℕ) : Type 0 where
  pub bits : List Bool
  pub long : length bits ≡ k
  pub is : number_from 0 bits ≡ value

pub written : (k value : ℕ) → value < 2 ^ k → Writes k value
written zero value small = record { bits = []; long = refl; is = omega (arith, small) }
written (suc k) value small = by (λ less fits. written k less fits) (nat_lt value (2 ^ k)) refl
  where
    in_front : (b : Bool) (less : ℕ) → (if b then 2 ^ k else 0) + less ≡ value → Writes k less → Writes (suc k) value
    in_front b less sum rest = record {
      bits = b ∷ rest.bits;
      long = ap suc rest.long;
      is = with_front b rest.bits ∙ (λ i. (if b then 2 ^ rest.long i else 0) + rest.is i) ∙ sum;
    }

    by : ((less : ℕ) → less < 2 ^ k → Writes k less) → (low : Bool) → nat_lt value (2 ^ k) ≡ low → Writes (suc k) value
    by later true is = in_front false value (none value) (later value (ltb-true value (2 ^ k) is))
      where
        none : (n : ℕ) → 0 + n ≡ n
        none n = omega arith
    by later false is =
        let large = ltb-false value (2 ^ k) is in
        in_front true (value - 2 ^ k) (omega (arith, large)) (later (value - 2 ^ k) (omega (arith, large, small, two_powers k)))

small_number : (bits : List Bool) → number_from 0 bits < 2 ^ length bits
small_number bits = number_fits_all (length bits) refl
  where
    number_fits_all : (n : ℕ) → length bits ≡ n → number_from 0 bits < 2 ^ n
    number_fits_all n is = let fits = number_fits 0 0 bits (omega arith) in subst (λ (m : ℕ). number_from 0 bits < 2 ^ m) (none (length bits) ∙ is) fits
      where
        none : (k : ℕ) → k + 0 ≡ k
        none k = omega arith

pub written_once : (bits other : List Bool) → length bits ≡ length other → number_from 0 bits ≡ number_from 0 other → bits ≡ other
written_once [] [] long same = refl
written_once [] (b ∷ bits) long same = absurd (cc)
written_once (b ∷ bits) [] long same = absurd (cc)
written_once (b ∷ bits) (d ∷ other) long same =
    by b d (sym (with_front b bits) ∙ same ∙ with_front d other) (λ tails. written_once bits other tail_long tails)
  where
    tail_long : length bits ≡ length other
    tail_long = omega (arith, long)

    power : 2 ^ length bits ≡ 2 ^ length other
    power = ap (λ (n : ℕ). 2 ^ n) tail_long

    by : (b d : Bool) → (if b then 2 ^ length bits else 0) + number_from 0 bits ≡ (if d then 2 ^ length other else 0) + number_from 0 other
        → (number_from 0 bits ≡ number_from 0 other → bits ≡ other) → b ∷ bits ≡ d ∷ other
    by true true sums later = ap (λ tail. true ∷ tail) (later (omega (arith, sums, power)))
    by true false sums later = absurd (omega (arith, sums, power, small_number other))
    by false true sums later = absurd (omega (arith, sums, power, small_number bits))
    by false false sums later = ap (λ tail. false ∷ tail) (later (omega (arith, sums)))

-- ---- the length of blocks

doublings_reach : (most bound power : ℕ) → bound ≤ power * 2 ^ most → bound ≤ power * 2 ^ doublings most bound power
doublings_reach zero bound power reaches = reaches
doublings_reach (suc most) bound power reaches = by (doublings_reach most bound (2 * power)) (nat_le bound power) refl
  where
    twice : (q : ℕ) → power * (q * 2) ≡ 2 * power * q
    twice q = grind arith

    by : (bound ≤ 2 * power * 2 ^ most → bound ≤ 2 * power * 2 ^ doublings most bound (2 * power)) → (small : Bool) → nat_le bound power ≡ small
        → bound ≤ power * 2 ^ cond small 0 (suc (doublings most bound (2 * power)))
    by later true is = let low = leb-true bound power is in omega (arith, low)
    by later false is =
        let next = later (omega (arith, reaches, ap (λ (q : ℕ). power * q) (pow-suc 2 most), twice (2 ^ most))) in
        let d : ℕ = doublings most bound (2 * power) in
        omega (arith, next, ap (λ (q : ℕ). power * q) (pow-suc 2 d), twice (2 ^ d))

doublings_least : (most bound power k : ℕ) → bound ≤ power * 2 ^ k → doublings most bound power ≤ k
doublings_least zero bound power k reaches = omega arith
doublings_least (suc most) bound power k reaches = by k reaches (λ j. doublings_least most bound (2 * power) j) (nat_le bound power) refl
  where
    twice : (q : ℕ) → power * (q * 2) ≡ 2 * power * q
    twice q = grind arith

    by : (k : ℕ) → bound ≤ power * 2 ^ k → ((j : ℕ) → bound ≤ 2 * power * 2 ^ j → doublings most bound (2 * power) ≤ j) → (small : Bool) → nat_le bound power ≡ small
        → cond small 0 (suc (doublings most bound (2 * power))) ≤ k
    by k reaches later true is = omega arith
    by zero reaches later false is = let high = leb-false bound power is in absurd (omega (arith, high, reaches))
    by (suc j) reaches later false is =
        let less = later j (omega (arith, reaches, ap (λ (q : ℕ). power * q) (pow-suc 2 j), twice (2 ^ j))) in omega (arith, less)

below_power : (k : ℕ) → suc k ≤ 2 ^ k
below_power zero = omega arith
below_power (suc k) = omega (arith, two_powers k, below_power k)

pub long_enough : (bound : ℕ) → bound ≤ 2 ^ block_length bound
unfolding block_length
long_enough bound = let reached = doublings_reach bound bound 1 (omega (arith, below_power bound)) in omega (arith, reached)

pub least_length : (bound k : ℕ) → bound ≤ 2 ^ k → block_length bound ≤ k
unfolding block_length
least_length bound k reaches = doublings_least bound bound 1 k (omega (arith, reaches))

pub blocks_write_values : BlocksWriteValues
blocks_write_values = record {
  enough = long_enough;
  least = least_length;
  written = λ k value small. let block = written k value small in (block.bits, block.long, block.is);
  once = written_once;
}
