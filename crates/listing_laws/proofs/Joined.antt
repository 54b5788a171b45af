-- How many pairs of a first and another structure there are, by the sizes of the first.
use Rattle.std.proofs.Common.{◌≡◌, ℕ, suc, ◌+◌, ◌-◌, ◌*◌, ◌<◌, ◌≤◌, Bool, true, false, List, map, nat_eq, refl, sym, ap, ◌∙◌, arith}
use Rattle.std.specs.Prelude.{if◌then◌else◌}
use Rattle.std.specs.List.{sum, range_with_len}
use Rattle.std.proofs.lemmas.Bool.{eq-eqb, ne_eqb}
use Rattle.spec_syntax.specs.declared.statement.Universe.{Universe}
use Rattle.spec_syntax.specs.declared.statement.Universe.TheVariants.{Labelled, Unlabelled}
use Rattle.lists.specs.Enumeration.{IsIn}
use Rattle.lists.proofs.RangeSums.{sum_same, sum_none, sum_times, sum_exchanged, in_range, sum_last}
use Rattle.struct_model.specs.Membership.{supply}
use Rattle.struct_model.proofs.SupplyLaws.{supply_is, supply_size}
use Rattle.count_laws.specs.Convolution.{convolved}
use Rattle.count_laws.proofs.Binomials.{choose_all, with_binomials}
use Rattle.splits.specs.Splits.{splits}
use Rattle.splits.proofs.SplitSums.{shared, labels_shared, zeros_shared}
use Rattle.listing_laws.specs.Numbers.{ways, joined, one_at}

-- ---- one word

if_true : (b : Bool) (m n : ℕ) → b ≡ true → (if b then m else n) ≡ m
if_true b m n is_true = ap (λ (c : Bool). if c then m else n) is_true

if_false : (b : Bool) (m n : ℕ) → b ≡ false → (if b then m else n) ≡ n
if_false b m n is_false = ap (λ (c : Bool). if c then m else n) is_false

pub at_size : (size n : ℕ) → n ≡ size → one_at size n ≡ 1
at_size size n same = if_true (nat_eq n size) 1 0 (eq-eqb n size same)

pub at_other : (size n : ℕ) → (n ≡ size → ⊥) → one_at size n ≡ 0
at_other size n other = if_false (nat_eq n size) 1 0 (ne_eqb n size other)

-- ---- pairs

no_more : (n : ℕ) → n * 0 ≡ 0
no_more n = omega arith

within : (d n : ℕ) → IsIn d (range_with_len 0 (n + 1)) → d ≤ n
within d n there = omega (arith, (in_range d 0 (n + 1) there).1)

-- the sum over the splits of the labels of a size
pub supply_shared : (universe : Universe) (first others : ℕ → ℕ) (n : ℕ) → sum (map (shared first others) (splits (supply universe n))) ≡ joined universe first others n
supply_shared Labelled first others n =
    labels_shared first others 0 (supply Labelled n) (supply_is Labelled n) ∙ ap (convolved first others) (supply_size Labelled n) ∙ with_binomials first others n
supply_shared Unlabelled first others n =
    zeros_shared first others n
    ∙ sum_same (λ d. first d * others (n - d)) (λ d. 1 * (first d * others (n - d))) (range_with_len 0 (n + 1)) (λ d there. once (first d * others (n - d)))
  where
    once : (k : ℕ) → k ≡ 1 * k
    once k = omega arith

ways_all : (universe : Universe) (n : ℕ) → ways universe n n ≡ 1
ways_all Labelled n = choose_all n
ways_all Unlabelled n = refl

module _ (universe : Universe) where
  pub joined_same : (first also others more : ℕ → ℕ) (n : ℕ) → ((d : ℕ) → d ≤ n → first d * others (n - d) ≡ also d * more (n - d))
      → joined universe first others n ≡ joined universe also more n
  joined_same first also others more n same =
      sum_same (λ d. ways universe n d * (first d * others (n - d))) (λ d. ways universe n d * (also d * more (n - d))) (range_with_len 0 (n + 1))
      (λ d there. ap (λ (pairs : ℕ). ways universe n d * pairs) (same d (within d n there)))

  pub joined_none : (first others : ℕ → ℕ) (n : ℕ) → ((d : ℕ) → d ≤ n → first d * others (n - d) ≡ 0) → joined universe first others n ≡ 0
  joined_none first others n none =
      sum_none (λ d. ways universe n d * (first d * others (n - d))) (range_with_len 0 (n + 1))
      (λ d there. ap (λ (pairs : ℕ). ways universe n d * pairs) (none d (within d n there)) ∙ no_more (ways universe n d))

  -- joined with a sum
  pub joined_sum : {X : Type 0} (first : ℕ → ℕ) (others : X → ℕ → ℕ) (xs : List X) (n : ℕ)
      → joined universe first (λ k. sum (map (λ x. others x k) xs)) n ≡ sum (map (λ x. joined universe first (others x) n) xs)
  joined_sum first others xs n =
      sum_same (λ d. ways universe n d * (first d * sum (map (λ x. others x (n - d)) xs))) (λ d. sum (map (λ x. ways universe n d * (first d * others x (n - d))) xs))
      (range_with_len 0 (n + 1))
      (λ d there. ap (λ (pairs : ℕ). ways universe n d * pairs) (sym (sum_times (first d) (λ x. others x (n - d)) xs))
      ∙ sym (sum_times (ways universe n d) (λ x. first d * others x (n - d)) xs))
      ∙ sum_exchanged (λ d x. ways universe n d * (first d * others x (n - d))) (range_with_len 0 (n + 1)) xs

  pub joined_where : (b : Bool) (first others : ℕ → ℕ) (n : ℕ) → joined universe first (λ k. if b then others k else 0) n ≡ (if b then joined universe first others n else 0)
  joined_where true first others n = refl
  joined_where false first others n = joined_none first (λ k. 0) n (λ d small. no_more (first d))

  -- joined with what has size 0 alone
  pub joined_empty : (first : ℕ → ℕ) (n : ℕ) → joined universe first (one_at 0) n ≡ first n
  joined_empty first n =
      ap (λ (k : ℕ). sum (map pair (range_with_len 0 k))) (next n) ∙ sum_last pair n
      ∙ alone (sum (map pair (range_with_len 0 n))) (pair n) (first n) (sum_none pair (range_with_len 0 n) earlier) last
    where
      pair : ℕ → ℕ
      pair d = ways universe n d * (first d * one_at 0 (n - d))

      next : (n : ℕ) → n + 1 ≡ suc n
      next n = omega arith

      alone : (a b c : ℕ) → a ≡ 0 → b ≡ c → a + b ≡ c
      alone a b c p q = omega arith

      earlier : (d : ℕ) → IsIn d (range_with_len 0 n) → ways universe n d * (first d * one_at 0 (n - d)) ≡ 0
      earlier d there =
          let less : d < n = omega (arith, (in_range d 0 n there).1) in
          ap (λ (k : ℕ). ways universe n d * (first d * k)) (at_other 0 (n - d) (λ same. omega arith))
          ∙ ap (λ (k : ℕ). ways universe n d * k) (no_more (first d)) ∙ no_more (ways universe n d)

      last : ways universe n n * (first n * one_at 0 (n - n)) ≡ first n
      last = (λ i. ways_all universe n i * (first n * at_size 0 (n - n) (all n) i)) ∙ once (first n)
        where
          all : (n : ℕ) → n - n ≡ 0
          all n = omega arith

          once : (k : ℕ) → 1 * (k * 1) ≡ k
          once k = omega arith
