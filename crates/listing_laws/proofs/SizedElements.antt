-- The numbers of multisets and subsets of elements of which there are so many of each size.
use Rattle.std.proofs.Common.{◌≡◌, ℕ, zero, suc, ◌+◌, ◌-◌, ◌*◌, ◌<◌, ◌≤◌, nat_le, List, [], ◌∷◌, ◌++◌, map, flat_map, length, replicate, refl, sym, ap, ◌∙◌, subst, inl, inr, arith}
use Rattle.std.specs.Prelude.{if◌then◌else◌}
use Rattle.std.specs.List.{sum, range_with_len}
use Rattle.std.proofs.lemmas.Bool.{cases_lt}
use Rattle.std.proofs.lemmas.Grind.{flat_map-append}
use Rattle.spec_syntax.specs.declared.statement.Universe.TheVariants.{Unlabelled}
use Rattle.lists.specs.Enumeration.{IsIn}
use Rattle.lists.proofs.Enumerated.{in_flat_map, from_flat_map}
use Rattle.lists.proofs.FlatMaps.{range-append}
use Rattle.lists.proofs.RangeSums.{sum_same, sum_append, in_range}
use Rattle.lists.proofs.Sums.{sum_more}
use Rattle.count_laws.specs.Multisets.{none_taken}
use Rattle.count_laws.specs.SetNumbers.{number_of_multisets, number_of_subsets, with_less, number_pointed, number_avoiding}
use Rattle.count_laws.proofs.Enlarged.{less_none, less_some}
use Rattle.count_laws.proofs.MultisetNumbers.{multisets_are_counted}
use Rattle.count_laws.proofs.SubsetNumbers.{subsets_are_counted}
use Rattle.listing_laws.specs.Numbers.{one_at}
use Rattle.listing_laws.proofs.Ranges.{range_is}
use Rattle.listing_laws.proofs.Joined.{at_other, joined_empty}

-- ---- numbers that agree up to a size

with_less_same : (size : ℕ) (number also : ℕ → ℕ) (n : ℕ) → ((m : ℕ) → m ≤ n → number m ≡ also m) → with_less size number n ≡ with_less size also n
with_less_same size number also n same = ap (λ (k : ℕ). if nat_le size n then k else 0) (same (n - size) (omega arith))

module _ (number also : ℕ → ℕ → ℕ) (most : ℕ) (same : (c m : ℕ) → m ≤ most → number c m ≡ also c m) where
  pointed_same : (d c : ℕ) → number_pointed number d c most ≡ number_pointed also d c most
  pointed_same d c =
      sum_same (λ j. with_less (j * d) (number (c - j)) most) (λ j. with_less (j * d) (also (c - j)) most) (range_with_len 1 c)
      (λ j there. with_less_same (j * d) (number (c - j)) (also (c - j)) most (same (c - j)))

  avoiding_same : (d c n : ℕ) → n ≤ most → number_avoiding number d c n ≡ number_avoiding also d c n
  avoiding_same d zero n small = same zero n small
  avoiding_same d (suc c) n small =
      λ i. same (suc c) n small i
      - with_less_same d (number_avoiding number d c) (number_avoiding also d c) n (λ m less. avoiding_same d c m (omega arith)) i

-- ---- no element, and one

none_length : (n : ℕ) → length (none_taken {X = ℕ} 0 n) ≡ one_at 0 n
none_length zero = refl
none_length (suc n) = sym (at_other 0 (suc n) (λ same. omega arith))

pub once : (k : ℕ) → k ≡ 1 * k
once k = omega arith

last_term : (k : ℕ) → sum (k ∷ []) ≡ k
last_term k = sum_more k [] ∙ alone k
  where
    alone : (k : ℕ) → k + 0 ≡ k
    alone k = omega arith

within : (d n : ℕ) → IsIn d (range_with_len 1 n) → d ≤ n
within d n there = omega (arith, (in_range d 1 n there).1)

-- joined with nothing, all of the size is left to the first
at_end : (first : ℕ → ℕ) (n : ℕ) → first 0 ≡ 0 → sum (map (λ d. first d * one_at 0 (n - d)) (range_with_len 1 n)) ≡ first n
at_end first n never_empty =
    sum_same (λ d. first d * one_at 0 (n - d)) pair (range_with_len 1 n) (λ d there. once (first d * one_at 0 (n - d)))
    ∙ behind (pair 0) (sum (map pair (range_with_len 1 n))) (first n) empty
    (sym (sum_more (pair 0) (map pair (range_with_len 1 n))) ∙ ap (λ (k : ℕ). sum (map pair (range_with_len 0 k))) (next n) ∙ joined_empty Unlabelled first n)
  where
    pair : ℕ → ℕ
    pair d = 1 * (first d * one_at 0 (n - d))

    next : (n : ℕ) → suc n ≡ n + 1
    next n = omega arith

    nothing : (k : ℕ) → 1 * (0 * k) ≡ 0
    nothing k = omega arith

    empty : pair 0 ≡ 0
    empty = ap (λ (k : ℕ). 1 * (k * one_at 0 (n - 0))) never_empty ∙ nothing (one_at 0 (n - 0))

    behind : (a b c : ℕ) → a ≡ 0 → a + b ≡ c → b ≡ c
    behind a b c none whole = omega arith

-- ---- so many elements of each size

module _ (number : ℕ → ℕ) where
  -- those of these sizes, each element by its size
  abbrev pub sized : List ℕ → List ℕ
  sized ds = flat_map (λ d. replicate (number d) d) ds

  abbrev pub up_to : ℕ → List ℕ
  up_to n = sized (range_with_len 1 n)

  sum_alike : (f : ℕ → ℕ) (k d : ℕ) → sum (map f (replicate k d)) ≡ k * f d
  sum_alike f zero d = none (f d)
    where
      none : (k : ℕ) → 0 ≡ 0 * k
      none k = omega arith
  sum_alike f (suc k) d = sum_more (f d) (map f (replicate k d)) ∙ ap (λ (m : ℕ). f d + m) (sum_alike f k d) ∙ one_more k (f d)
    where
      one_more : (k m : ℕ) → m + k * m ≡ suc k * m
      one_more k m = grind arith

  sum_sized : (f : ℕ → ℕ) (ds : List ℕ) → sum (map f (sized ds)) ≡ sum (map (λ d. number d * f d) ds)
  sum_sized f [] = refl
  sum_sized f (d ∷ ds) =
      sum_append f (replicate (number d) d) (sized ds) ∙ (λ i. sum_alike f (number d) d i + sum_sized f ds i)
      ∙ sym (sum_more (number d * f d) (map (λ k. number k * f k) ds))

  one_of : (k d x : ℕ) → IsIn x (replicate k d) → x ≡ d
  one_of zero d x there = absurd there
  one_of (suc k) d x (inl same) = same
  one_of (suc k) d x (inr there) = one_of k d x there

  in_sized : (ds : List ℕ) (x : ℕ) → IsIn x (sized ds) → IsIn x ds
  in_sized ds x there =
      let found : (d : ℕ) × IsIn d ds × IsIn x (replicate (number d) d) = from_flat_map (λ d. replicate (number d) d) ds x there in
      subst (λ (d : ℕ). IsIn d ds) (sym (one_of (number found.0) found.0 x found.2)) found.1

  -- the larger elements behind the smaller ones
  larger_behind : (m n : ℕ) → m ≤ n → up_to n ≡ up_to m ++ sized (range_with_len (1 + m) (n - m))
  larger_behind m n small =
      ap up_to (whole m n small) ∙ ap sized (range-append 1 m (n - m))
      ∙ flat_map-append (λ d. replicate (number d) d) (range_with_len 1 m) (range_with_len (1 + m) (n - m))
    where
      whole : (m n : ℕ) → m ≤ n → n ≡ m + (n - m)
      whole m n small = omega arith

  are_larger : (m n x : ℕ) → IsIn x (sized (range_with_len (1 + m) (n - m))) → m < x
  are_larger m n x there =
      let between = in_range x (1 + m) (n - m) (in_sized (range_with_len (1 + m) (n - m)) x there) in
      omega (arith, between.0)

  -- ---- multisets

  abbrev pub with_repeats : ℕ → ℕ → ℕ
  with_repeats c n = number_of_multisets (λ d. d) (up_to n) c n

  multisets_small : (n c m : ℕ) → m ≤ n → number_of_multisets (λ d. d) (up_to n) c m ≡ with_repeats c m
  multisets_small n c m small =
      ap (λ (ds : List ℕ). number_of_multisets (λ d. d) ds c m) (larger_behind m n small)
      ∙ ap length ((multisets_are_counted ℕ).of_small (λ d. d) (up_to m) (sized (range_with_len (1 + m) (n - m))) c m (are_larger m n))

  pub multisets_recur : (c n : ℕ) → c * with_repeats c n ≡ sum (map (λ d. number d * number_pointed with_repeats d c n) (range_with_len 1 n))
  multisets_recur c n =
      let all : ℕ → ℕ → ℕ = number_of_multisets (λ d. d) (up_to n) in
      (multisets_are_counted ℕ).elements (λ d. d) (up_to n) c n ∙ sum_sized (λ d. number_pointed all d c n) (range_with_len 1 n)
      ∙ sum_same (λ d. number d * number_pointed all d c n) (λ d. number d * number_pointed with_repeats d c n) (range_with_len 1 n)
      (λ d there. ap (λ (k : ℕ). number d * k) (pointed_same all with_repeats n (multisets_small n) d c))

  pub no_multiset : (n : ℕ) → with_repeats 0 n ≡ one_at 0 n
  no_multiset n = ap length ((multisets_are_counted ℕ).none (λ d. d) (up_to n) n) ∙ none_length n

  pub one_multiset : (n : ℕ) → number 0 ≡ 0 → with_repeats 1 n ≡ number n
  one_multiset n never_empty =
      once (with_repeats 1 n) ∙ multisets_recur 1 n
      ∙ sum_same (λ d. number d * number_pointed with_repeats d 1 n) (λ d. number d * one_at 0 (n - d)) (range_with_len 1 n)
      (λ d there. ap (λ (k : ℕ). number d * k) (alone d there))
      ∙ at_end number n never_empty
    where
      none_left : (d : ℕ) → 1 * d ≡ d
      none_left d = omega arith

      alone : (d : ℕ) → IsIn d (range_with_len 1 n) → number_pointed with_repeats d 1 n ≡ one_at 0 (n - d)
      alone d there =
          last_term (with_less (1 * d) (with_repeats 0) n) ∙ ap (λ (size : ℕ). with_less size (with_repeats 0) n) (none_left d)
          ∙ less_some d (with_repeats 0) n (within d n there) ∙ no_multiset (n - d)

  -- ---- subsets

  abbrev pub without_repeats : ℕ → ℕ → ℕ
  without_repeats c n = number_of_subsets (λ d. d) (up_to n) c n

  subsets_small : (n c m : ℕ) → m ≤ n → number_of_subsets (λ d. d) (up_to n) c m ≡ without_repeats c m
  subsets_small n c m small =
      ap (λ (ds : List ℕ). number_of_subsets (λ d. d) ds c m) (larger_behind m n small)
      ∙ ap length ((subsets_are_counted ℕ).of_small (λ d. d) (up_to m) (sized (range_with_len (1 + m) (n - m))) c m (are_larger m n))

  pub subsets_recur : (c n : ℕ)
      → suc c * without_repeats (suc c) n ≡ sum (map (λ d. number d * number_avoiding without_repeats d c (n - d)) (range_with_len 1 n))
  subsets_recur c n =
      let all : ℕ → ℕ → ℕ = number_of_subsets (λ d. d) (up_to n) in
      (subsets_are_counted ℕ).elements (λ d. d) (up_to n) c n ∙ sum_sized (λ d. with_less d (number_avoiding all d c) n) (range_with_len 1 n)
      ∙ sum_same (λ d. number d * with_less d (number_avoiding all d c) n) (λ d. number d * number_avoiding without_repeats d c (n - d)) (range_with_len 1 n)
      (λ d there. ap (λ (k : ℕ). number d * k)
      (less_some d (number_avoiding all d c) n (within d n there) ∙ avoiding_same all without_repeats n (subsets_small n) d c (n - d) (omega arith)))

  alike_there : (k d : ℕ) → 0 < k → IsIn d (replicate k d)
  alike_there zero d some = absurd (omega arith)
  alike_there (suc k) d some = inl refl

  some_size : (d : ℕ) → number 0 ≡ 0 → 0 < number d → 1 ≤ d
  some_size zero never_empty some = absurd (omega (arith, never_empty, some))
  some_size (suc d) never_empty some = omega arith

  -- no more subsets have one element than there are in all
  pub subsets_exact : (c n d : ℕ) → number 0 ≡ 0 → 0 < number d → with_less d (number_avoiding without_repeats d c) n ≤ without_repeats (suc c) n
  subsets_exact c n d never_empty some = elim (cases_lt n d) [
    | inl large ↦ omega (arith, less_none d (number_avoiding without_repeats d c) n large)
    | inr small ↦ small_enough small
  ]
    where
      all : ℕ → ℕ → ℕ
      all = number_of_subsets (λ d. d) (up_to n)

      small_enough : d ≤ n → with_less d (number_avoiding without_repeats d c) n ≤ without_repeats (suc c) n
      small_enough small =
          let there : IsIn d (up_to n) =
          in_flat_map (λ d. replicate (number d) d) d (range_with_len 1 n) d ((range_is 1 n).complete d (some_size d never_empty some, omega arith))
          (alike_there (number d) d some)
          in
          subst (λ (k : ℕ). k ≤ without_repeats (suc c) n)
          (with_less_same d (number_avoiding all d c) (number_avoiding without_repeats d c) n (avoiding_same all without_repeats n (subsets_small n) d c))
          ((subsets_are_counted ℕ).exact (λ d. d) (up_to n) c n d there)

  pub no_subset : (n : ℕ) → without_repeats 0 n ≡ one_at 0 n
  no_subset n = ap length ((subsets_are_counted ℕ).none (λ d. d) (up_to n) n) ∙ none_length n

  pub one_subset : (n : ℕ) → number 0 ≡ 0 → without_repeats 1 n ≡ number n
  one_subset n never_empty =
      once (without_repeats 1 n) ∙ subsets_recur 0 n
      ∙ sum_same (λ d. number d * without_repeats 0 (n - d)) (λ d. number d * one_at 0 (n - d)) (range_with_len 1 n)
      (λ d there. ap (λ (k : ℕ). number d * k) (no_subset (n - d)))
      ∙ at_end number n never_empty
