-- The lexicographic order of lists of numbers.
use Rattle.std.proofs.Common.{◌≡◌, ◌⊎◌, ℕ, ◌<◌, true, List, ◌∷◌, refl, ap, ◌∙◌, sym, inl, inr, arith, Ordering, Less, nat_cmp}
use Rattle.std.specs.declared.cmp.Ordering.TheVariants.{Equal, Greater}
use Rattle.std.specs.Ordering.{ordering_then, ordering_reverse, is_lt}
use Rattle.std.specs.Cmp.Lexicographic.{slice_cmp}
use Rattle.std.proofs.lemmas.Bool.{cases_order}
use Rattle.std.proofs.lemmas.Bool.Decides.{nat_tests}
use Rattle.std.proofs.lemmas.Cmp.{nat_cmp_total, nat_list_cmp_total, tied_itself}

pub same_first : (n : ℕ) (ms ns : List ℕ) → slice_cmp nat_cmp (n ∷ ms) (n ∷ ns) ≡ slice_cmp nat_cmp ms ns
same_first n ms ns = ap (λ o. ordering_then o (slice_cmp nat_cmp ms ns)) (tied_itself nat_cmp_total n)

pub lesser_first : (m n : ℕ) (ms ns : List ℕ) → m < n → slice_cmp nat_cmp (m ∷ ms) (n ∷ ns) ≡ Less
lesser_first m n ms ns h = grind (arith, nat_tests)

greater_first : (m n : ℕ) (ms ns : List ℕ) → n < m → slice_cmp nat_cmp (m ∷ ms) (n ∷ ns) ≡ Greater
greater_first m n ms ns h = grind (arith, nat_tests)

-- what is before a list begins with a lesser number, or with the same one and goes on before it
pub from_first : (m n : ℕ) (ms ns : List ℕ) → slice_cmp nat_cmp (m ∷ ms) (n ∷ ns) ≡ Less → (m < n) ⊎ ((m ≡ n) × (slice_cmp nat_cmp ms ns ≡ Less))
from_first m n ms ns h = elim (cases_order m n) [
  | inl same ↦ inr (same, at_same m n ms ns same h)
  | inr (inl below) ↦ inl below
  | inr (inr above) ↦ absurd (let e : Greater ≡ Less = sym (greater_first m n ms ns above) ∙ h in cc)
]
  where
    at_same : (m n : ℕ) (ms ns : List ℕ) → m ≡ n → slice_cmp nat_cmp (m ∷ ms) (n ∷ ns) ≡ Less → slice_cmp nat_cmp ms ns ≡ Less
    at_same m n ms ns same h = sym (same_first n ms ns) ∙ (ap (λ (k : ℕ). slice_cmp nat_cmp (k ∷ ms) (n ∷ ns)) (sym same) ∙ h)

-- nothing is before itself
pub not_before_itself : (ms : List ℕ) → slice_cmp nat_cmp ms ms ≡ Less → ⊥
not_before_itself ms h = let e : Equal ≡ Less = sym (tied_itself nat_list_cmp_total ms) ∙ h in cc

pub before_both : (ks ms ns : List ℕ) → slice_cmp nat_cmp ks ms ≡ Less → slice_cmp nat_cmp ms ns ≡ Less → slice_cmp nat_cmp ks ns ≡ Less
before_both ks ms ns = nat_list_cmp_total.trans ks ms ns

pub not_both_ways : (ms ns : List ℕ) → slice_cmp nat_cmp ms ns ≡ Less → slice_cmp nat_cmp ns ms ≡ Less → ⊥
not_both_ways ms ns h k = not_before_itself ms (before_both ms ns ms h k)

-- where a list isn't before another, the other is before all that it is before
pub up_to : (ks ms ns : List ℕ) → (slice_cmp nat_cmp ms ks ≡ Less → ⊥) → slice_cmp nat_cmp ms ns ≡ Less → slice_cmp nat_cmp ks ns ≡ Less
up_to ks ms ns h k = by_cases (slice_cmp nat_cmp ks ms) refl
  where
    by_cases : (o : Ordering) → slice_cmp nat_cmp ks ms ≡ o → slice_cmp nat_cmp ks ns ≡ Less
    by_cases Less is = before_both ks ms ns is k
    by_cases Equal is = nat_list_cmp_total.congr ks ms ns is ∙ k
    by_cases Greater is = absurd (h (nat_list_cmp_total.antisymm ms ks ∙ ap ordering_reverse is))

-- ---- the test

less_from : (o : Ordering) → is_lt o ≡ true → o ≡ Less
less_from Less h = cc
less_from Equal h = absurd (cc)
less_from Greater h = absurd (cc)

pub before_true : (ms ns : List ℕ) → is_lt (slice_cmp nat_cmp ms ns) ≡ true → slice_cmp nat_cmp ms ns ≡ Less
before_true ms ns h = less_from (slice_cmp nat_cmp ms ns) h

pub before_is : (ms ns : List ℕ) → slice_cmp nat_cmp ms ns ≡ Less → is_lt (slice_cmp nat_cmp ms ns) ≡ true
before_is ms ns h = ap is_lt h
