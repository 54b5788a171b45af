-- The parts of zeros: they are told by their number.
use Rattle.std.proofs.Common.{◌≡◌, ℕ, zero, suc, ◌+◌, ◌<◌, ◌≤◌, Bool, true, List, [], ◌∷◌, length, replicate, Option, Some, None, IfSome, refl, sym, ap, ◌∙◌, subst, inl, inr, arith, Less, nat_cmp}
use Rattle.std.specs.Cmp.Lexicographic.{slice_cmp}
use Rattle.std.proofs.lemmas.List.{length-replicate}
use Rattle.lists.specs.Ascending.{ascends_above}
use Rattle.lists.specs.Enumeration.{IsIn}
use Rattle.lists.proofs.Within.{in_left}
use Rattle.lists.proofs.Enumerated.{in_map}
use Rattle.splits.specs.Splits.{taking, splits}
use Rattle.lists.proofs.NumberOrder.{same_first}
use Rattle.splits.proofs.Selections.{Selects, selects_length, selects_above}
use Rattle.splits.specs.Lengths.{is_admitted, IsLeastFrom}
use Rattle.splits.proofs.NextPart.{Fits, IsNext, Follows}
use Rattle.splits.proofs.PartLemmas.{fit, fit_admitted}

pub zeros_only : (n : ℕ) (part : List ℕ) → Selects part (replicate n 0) → part ≡ replicate (length part) 0
zeros_only zero [] s = refl
zeros_only zero (p ∷ ps) s = absurd s
zeros_only (suc n) [] s = refl
zeros_only (suc n) (p ∷ ps) (inl both) = let e = zeros_only n ps both.1 in cc (both.0)
zeros_only (suc n) (p ∷ ps) (inr later) = zeros_only n (p ∷ ps) later

pub zeros_select : (k n : ℕ) → k ≤ n → Selects (replicate k 0) (replicate n 0)
zeros_select zero n h = tt
zeros_select (suc k) zero h = absurd (omega arith)
zeros_select (suc k) (suc n) h = inl (refl, zeros_select k n (omega arith))

pub zeros_split : (k m n : ℕ) → k + m ≡ n → IsIn (record { part = replicate k 0; rest = replicate m 0 }) (splits (replicate n 0))
zeros_split zero m zero e = inl (ap (λ (j : ℕ). record { part = []; rest = replicate j 0 }) (let none : m ≡ 0 = omega arith in none))
zeros_split zero m (suc n) e = inl (ap (λ (j : ℕ). record { part = []; rest = replicate j 0 }) (let all : m ≡ suc n = omega arith in all))
zeros_split (suc k) m zero e = absurd (omega arith)
zeros_split (suc k) m (suc n) e =
    inr (in_left _ _ _ (in_map (taking 0) (record { part = replicate k 0; rest = replicate m 0 }) (splits (replicate n 0)) (zeros_split k m n (omega arith))))

pub zeros_before : (k n : ℕ) → k < n → slice_cmp nat_cmp (replicate k 0) (replicate n 0) ≡ Less
zeros_before k zero h = absurd (omega arith)
zeros_before zero (suc n) h = refl
zeros_before (suc k) (suc n) h = same_first 0 (replicate k 0) (replicate n 0) ∙ zeros_before k n (omega arith)

fewer_zeros : (k n : ℕ) → slice_cmp nat_cmp (replicate k 0) (replicate n 0) ≡ Less → k < n
fewer_zeros zero zero h = absurd (cc)
fewer_zeros zero (suc n) h = omega arith
fewer_zeros (suc k) zero h = absurd (cc)
fewer_zeros (suc k) (suc n) h = let less : k < n = fewer_zeros k n (sym (same_first 0 (replicate k 0) (replicate n 0)) ∙ h) in omega arith

-- the number of zeros of a part that fits decides
pub zeros_after : (lengths : List Bool) (n k : ℕ) (other : List ℕ) → Fits lengths 0 (replicate n 0) other → slice_cmp nat_cmp (replicate k 0) other ≡ Less → k < length other
zeros_after lengths n k other f before =
    fewer_zeros k (length other) (subst (λ (o : List ℕ). slice_cmp nat_cmp (replicate k 0) o ≡ Less) (zeros_only n other f.selects) before)

pub zeros_ahead : (lengths : List Bool) (n k : ℕ) (other : List ℕ) → Fits lengths 0 (replicate n 0) other → slice_cmp nat_cmp other (replicate k 0) ≡ Less → length other < k
zeros_ahead lengths n k other f before =
    fewer_zeros (length other) k (subst (λ (o : List ℕ). slice_cmp nat_cmp o (replicate k 0) ≡ Less) (zeros_only n other f.selects) before)

-- a part that fits is at least as long as the least length that is admitted
pub fits_long : (lengths : List Bool) (from least : ℕ) (u other : List ℕ) → Fits lengths 0 u other → from ≤ length other → IsLeastFrom lengths from (Some least) → least ≤ length other
fits_long lengths from least u other f behind l = l.2 (length other) behind (fit_admitted lengths u other f)

-- the zeros of the next admitted length
pub zeros_next : (lengths : List Bool) (n k more : ℕ) → IsLeastFrom lengths (k + 1) (Some more) → more ≤ n → IsNext lengths 0 (replicate n 0) (replicate k 0) (replicate more 0)
zeros_next lengths n k more l there = record {
  fits = fit lengths (replicate n 0) (replicate more 0) (zeros_select more n there)
      (subst (λ (m : ℕ). is_admitted lengths m ≡ true) (sym (length-replicate {A = ℕ} more 0)) l.1);
  later = zeros_before k more (omega (arith, l.0));
  least = λ other f before first. omega (
    arith,
    zeros_ahead lengths n more other f first,
    fits_long lengths (k + 1) more (replicate n 0) other f (omega (arith, zeros_after lengths n k other f before)) l,
  );
}

pub zeros_last : (lengths : List Bool) (n k : ℕ) (longer : Option ℕ) → IsLeastFrom lengths (k + 1) longer → IfSome longer (λ more. n < more)
    → Follows lengths 0 (replicate n 0) (replicate k 0) None
zeros_last lengths n k None l past = λ other f before. l (length other) (omega (arith, zeros_after lengths n k other f before)) (fit_admitted lengths (replicate n 0) other f)
zeros_last lengths n k (Some more) l past = λ other f before. omega (
  arith,
  past,
  fits_long lengths (k + 1) more (replicate n 0) other f (omega (arith, zeros_after lengths n k other f before)) l,
  selects_length other (replicate n 0) f.selects,
  length-replicate {A = ℕ} n 0,
)

-- no zero is selected from labels above low
pub no_zeros : (low k : ℕ) (u : List ℕ) → Selects (replicate k 0) u → ascends_above low u ≡ true → k ≡ 0
no_zeros low zero u s h = refl
no_zeros low (suc k) u s h = absurd (omega (arith, selects_above low 0 (replicate k 0) u h s))
