-- What becomes of lists that have this much less of the total size.
use Rattle.std.proofs.Common.{◌≡◌, ℕ, ◌+◌, ◌-◌, ◌<◌, ◌≤◌, Bool, true, false, nat_le, List, [], ◌∷◌, ◌++◌, map, flat_map, length, refl, sym, ap, ◌∙◌, inl, inr, arith}
use Rattle.std.specs.Prelude.{if◌then◌else◌}
use Rattle.std.proofs.lemmas.List.{map-append, length-map}
use Rattle.std.proofs.lemmas.Bool.{leb-true, leb-false, lt-leb, le-leb}
use Rattle.lists.specs.Enumeration.{IsIn}
use Rattle.lists.proofs.Enumerated.{from_map}
use Rattle.count_laws.specs.Pointed.{enlarged, MeetsTimes}
use Rattle.count_laws.specs.SetNumbers.{with_less}
use Rattle.count_laws.proofs.MetTimes.{Alike, same, alike_mapped, times_mapped, none_of_none}

map_same : {X Y : Type 0} (f h : X → Y) (xs : List X) → ((x : X) → IsIn x xs → f x ≡ h x) → map f xs ≡ map h xs
map_same f h [] agree = refl
map_same f h (x ∷ xs) agree = λ i. agree x (inl refl) i ∷ map_same f h xs (λ y there. agree y (inr there)) i

map_twice : {X Y Z : Type 0} (f : Y → Z) (h : X → Y) (xs : List X) → map f (map h xs) ≡ map (λ x. f (h x)) xs
map_twice f h [] = refl
map_twice f h (x ∷ xs) = λ i. f (h x) ∷ map_twice f h xs i

module _ {X : Type 0} where
  pub enlarged_both : (change : List X → List X) (size : ℕ) (lists others : ℕ → List (List X)) (n : ℕ)
      → enlarged change size (λ m. lists m ++ others m) n ≡ enlarged change size lists n ++ enlarged change size others n
  enlarged_both change size lists others n = by (nat_le size n)
    where
      by : (b : Bool) → (if b then map change (lists (n - size) ++ others (n - size)) else [])
          ≡ (if b then map change (lists (n - size)) else []) ++ (if b then map change (others (n - size)) else [])
      by true = map-append change (lists (n - size)) (others (n - size))
      by false = refl

  pub enlarged_none : (change : List X → List X) (size n : ℕ) → enlarged change size (λ m. []) n ≡ []
  enlarged_none change size n = by (nat_le size n)
    where
      by : (b : Bool) → (if b then map change [] else []) ≡ []
      by true = refl
      by false = refl

  pub enlarged_made : {Y : Type 0} (change : List X → List X) (size : ℕ) (lists : Y → ℕ → List (List X)) (n : ℕ) (ys : List Y)
      → flat_map (λ y. enlarged change size (lists y) n) ys ≡ enlarged change size (λ m. flat_map (λ y. lists y m) ys) n
  enlarged_made change size lists n [] = sym (enlarged_none change size n)
  enlarged_made change size lists n (y ∷ ys) =
      ap (λ rest. enlarged change size (lists y) n ++ rest) (enlarged_made change size lists n ys)
      ∙ sym (enlarged_both change size (lists y) (λ m. flat_map (λ z. lists z m) ys) n)

  pub enlarged_alike : (change : List X → List X) (size : ℕ) (lists others : ℕ → List (List X)) (n : ℕ) → ((m : ℕ) → Alike (lists m) (others m))
      → Alike (enlarged change size lists n) (enlarged change size others n)
  enlarged_alike change size lists others n alike = by (nat_le size n)
    where
      by : (b : Bool) → Alike (if b then map change (lists (n - size)) else []) (if b then map change (others (n - size)) else [])
      by true = alike_mapped change (lists (n - size)) (others (n - size)) (alike (n - size))
      by false = same refl

  pub enlarged_times : (c : ℕ) (change : List X → List X) (size : ℕ) (met lists : ℕ → List (List X)) (n : ℕ) → ((m : ℕ) → MeetsTimes c (met m) (lists m))
      → MeetsTimes c (enlarged change size met n) (enlarged change size lists n)
  enlarged_times c change size met lists n meets = by (nat_le size n)
    where
      by : (b : Bool) → MeetsTimes c (if b then map change (met (n - size)) else []) (if b then map change (lists (n - size)) else [])
      by true = times_mapped c change (met (n - size)) (lists (n - size)) (meets (n - size))
      by false = none_of_none c

  -- two changes that agree on the lists
  pub enlarged_same : (change also : List X → List X) (size : ℕ) (lists : ℕ → List (List X)) (n : ℕ) → ((m : ℕ) (xs : List X) → IsIn xs (lists m) → change xs ≡ also xs)
      → enlarged change size lists n ≡ enlarged also size lists n
  enlarged_same change also size lists n agree = by (nat_le size n)
    where
      by : (b : Bool) → (if b then map change (lists (n - size)) else []) ≡ (if b then map also (lists (n - size)) else [])
      by true = map_same change also (lists (n - size)) (agree (n - size))
      by false = refl

  -- one change after another
  pub enlarged_twice : (change also : List X → List X) (size more : ℕ) (lists : ℕ → List (List X)) (n : ℕ)
      → enlarged change size (enlarged also more lists) n ≡ enlarged (λ xs. change (also xs)) (size + more) lists n
  enlarged_twice change also size more lists n = by (nat_le size n) (nat_le more (n - size)) (nat_le (size + more) n) refl refl refl
    where
      less : (n a b : ℕ) → n - a - b ≡ n - (a + b)
      less n a b = omega arith

      by : (b d e : Bool) → nat_le size n ≡ b → nat_le more (n - size) ≡ d → nat_le (size + more) n ≡ e
          → (if b then map change (if d then map also (lists (n - size - more)) else []) else []) ≡ (if e then map (λ xs. change (also xs)) (lists (n - (size + more))) else [])
      by true true true b d e = map_twice change also (lists (n - size - more)) ∙ ap (λ (k : ℕ). map (λ xs. change (also xs)) (lists k)) (less n size more)
      by true true false b d e =
          let first = leb-true size n b in let second = leb-true more (n - size) d in let third = leb-false (size + more) n e in absurd (omega (arith, first, second, third))
      by true false true b d e =
          let second = leb-false more (n - size) d in let third = leb-true (size + more) n e in absurd (omega (arith, second, third))
      by true false false b d e = refl
      by false true true b d e = let first = leb-false size n b in let third = leb-true (size + more) n e in absurd (omega (arith, first, third))
      by false false true b d e = let first = leb-false size n b in let third = leb-true (size + more) n e in absurd (omega (arith, first, third))
      by false true false b d e = refl
      by false false false b d e = refl

  -- changes in whichever order
  pub enlarged_exchanged : (change also : List X → List X) (size more : ℕ) (lists : ℕ → List (List X)) (n : ℕ) → ((xs : List X) → change (also xs) ≡ also (change xs))
      → enlarged change size (enlarged also more lists) n ≡ enlarged also more (enlarged change size lists) n
  enlarged_exchanged change also size more lists n agree =
      enlarged_twice change also size more lists n
      ∙ enlarged_same (λ xs. change (also xs)) (λ xs. also (change xs)) (size + more) lists n (λ m xs there. agree xs)
      ∙ ap (λ (k : ℕ). enlarged (λ xs. also (change xs)) k lists n) (swapped size more)
      ∙ sym (enlarged_twice also change more size lists n)
    where
      swapped : (a b : ℕ) → a + b ≡ b + a
      swapped a b = omega arith

  pub from_enlarged : (change : List X → List X) (size : ℕ) (lists : ℕ → List (List X)) (n : ℕ) (xs : List X) → IsIn xs (enlarged change size lists n)
      → (ys : List X) × IsIn ys (lists (n - size)) × (xs ≡ change ys)
  from_enlarged change size lists n xs = by (nat_le size n)
    where
      by : (b : Bool) → IsIn xs (if b then map change (lists (n - size)) else []) → (ys : List X) × IsIn ys (lists (n - size)) × (xs ≡ change ys)
      by true there = from_map change xs (lists (n - size)) there
      by false there = absurd there

-- ---- how many

pub enlarged_length : {X : Type 0} (change : List X → List X) (size : ℕ) (lists : ℕ → List (List X)) (n : ℕ)
    → length (enlarged change size lists n) ≡ with_less size (λ m. length (lists m)) n
enlarged_length change size lists n = by (nat_le size n)
  where
    by : (b : Bool) → length (if b then map change (lists (n - size)) else []) ≡ (if b then length (lists (n - size)) else 0)
    by true = length-map (lists (n - size)) change
    by false = refl

pub less_none : (size : ℕ) (number : ℕ → ℕ) (n : ℕ) → n < size → with_less size number n ≡ 0
less_none size number n large = ap (λ (b : Bool). if b then number (n - size) else 0) (lt-leb size n large)

pub less_some : (size : ℕ) (number : ℕ → ℕ) (n : ℕ) → size ≤ n → with_less size number n ≡ number (n - size)
less_some size number n small = ap (λ (b : Bool). if b then number (n - size) else 0) (le-leb size n small)
