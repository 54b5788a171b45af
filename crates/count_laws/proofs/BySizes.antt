-- Sums over elements, by their sizes.
use Rattle.std.proofs.Common.{◌≡◌, ℕ, zero, suc, ◌+◌, ◌*◌, ◌<◌, Bool, true, false, nat_le, nat_eq, List, [], ◌∷◌, length, map, filter, cond, refl, sym, ap, ◌∙◌, subst, inl, inr, arith}
use Rattle.std.specs.Prelude.{if◌then◌else◌}
use Rattle.std.specs.List.{sum, range_with_len}
use Rattle.std.proofs.lemmas.Bool.{leb-true, leb-false, lt-leb, eqb-true, eqb-false}
use Rattle.std.proofs.lemmas.List.FromFn.{sum_by-map-range_with_len_more}
use Rattle.lists.specs.Enumeration.{IsIn}
use Rattle.lists.proofs.Enumerated.{from_filter}
use Rattle.lists.proofs.Sums.{sum_more}
use Rattle.lists.proofs.RangeSums.{sum_none, sum_both}
use Rattle.count_laws.specs.SetNumbers.{number_of_size}

sum_last : (f : ℕ → ℕ) (n : ℕ) → sum (map f (range_with_len 1 (suc n))) ≡ sum (map f (range_with_len 1 n)) + f (suc n)
sum_last f n =
    ap (λ (k : ℕ). sum (map f (range_with_len 1 k))) (next n) ∙ sum_by-map-range_with_len_more (λ (x : ℕ). x) f 1 n (suc n) (from_one n)
  where
    next : (n : ℕ) → suc n ≡ n + 1
    next n = omega arith

    from_one : (n : ℕ) → 1 + n ≡ suc n
    from_one n = omega arith

-- is it this number
abbrev once : ℕ → ℕ → ℕ
once size d = if nat_eq size d then 1 else 0

one_term : (number : ℕ → ℕ) (size n : ℕ) → 0 < size → sum (map (λ d. once size d * number d) (range_with_len 1 n)) ≡ (if nat_le size n then number size else 0)
one_term number size zero some = sym (ap (λ (b : Bool). if b then number size else 0) (lt-leb size 0 some))
one_term number size (suc n) some =
    sum_last (λ d. once size d * number d) n ∙ ap (λ (k : ℕ). k + once size (suc n) * number (suc n)) (one_term number size n some)
    ∙ by (nat_le size n) (nat_eq size (suc n)) (nat_le size (suc n)) refl refl refl
  where
    without : (k m : ℕ) → k + 0 * m ≡ k
    without k m = omega arith

    with : (k m : ℕ) → k ≡ m → 0 + 1 * m ≡ k
    with k m same = omega (arith, same)

    by : (b d e : Bool) → nat_le size n ≡ b → nat_eq size (suc n) ≡ d → nat_le size (suc n) ≡ e
        → (if b then number size else 0) + (if d then 1 else 0) * number (suc n) ≡ (if e then number size else 0)
    by true true e b d rest = let first = leb-true size n b in let second = eqb-true size (suc n) d in absurd (omega (arith, first, second))
    by true false true b d e = without (number size) (number (suc n))
    by true false false b d e = let first = leb-true size n b in let third = leb-false size (suc n) e in absurd (omega (arith, first, third))
    by false true true b d e = with (number size) (number (suc n)) (ap number (eqb-true size (suc n) d))
    by false true false b d e = let second = eqb-true size (suc n) d in let third = leb-false size (suc n) e in absurd (omega (arith, second, third))
    by false false true b d e =
        let first = leb-false size n b in let third = leb-true size (suc n) e in absurd (eqb-false size (suc n) d (omega (arith, first, third)))
    by false false false b d e = without 0 (number (suc n))

module _ {X : Type 0} (size : X → ℕ) where
  one_more : (x : X) (xs : List X) (d : ℕ) → number_of_size size (x ∷ xs) d ≡ once (size x) d + number_of_size size xs d
  one_more x xs d = by (nat_eq (size x) d)
    where
      by : (b : Bool) → length (cond b (x ∷ filter (λ y. nat_eq (size y) d) xs) (filter (λ y. nat_eq (size y) d) xs)) ≡ (if b then 1 else 0) + number_of_size size xs d
      by true = omega arith
      by false = omega arith

  -- where what is told of a size depends on it alone, and is nothing of those above n
  pub by_sizes : (number : ℕ → ℕ) (n : ℕ) → ((d : ℕ) → n < d → number d ≡ 0) → (xs : List X) → ((x : X) → IsIn x xs → 0 < size x)
      → sum (map (λ x. number (size x)) xs) ≡ sum (map (λ d. number_of_size size xs d * number d) (range_with_len 1 n))
  by_sizes number n above [] some = sym (sum_none (λ d. 0 * number d) (range_with_len 1 n) (λ d there. nothing (number d)))
    where
      nothing : (k : ℕ) → 0 * k ≡ 0
      nothing k = omega arith
  by_sizes number n above (x ∷ xs) some =
      sum_more (number (size x)) (map (λ y. number (size y)) xs)
      ∙ (λ i. first i + by_sizes number n above xs (λ y there. some y (inr there)) i)
      ∙ sym (sum_both (λ d. once (size x) d * number d) (λ d. number_of_size size xs d * number d) (range_with_len 1 n))
      ∙ (λ i. sum (map (λ d. whole d i) (range_with_len 1 n)))
    where
      first : number (size x) ≡ sum (map (λ d. once (size x) d * number d) (range_with_len 1 n))
      first = sym (one_term number (size x) n (some x (inl refl)) ∙ by (nat_le (size x) n) refl)
        where
          by : (b : Bool) → nat_le (size x) n ≡ b → (if b then number (size x) else 0) ≡ number (size x)
          by true small = refl
          by false large = sym (above (size x) (leb-false (size x) n large))

      whole : (d : ℕ) → once (size x) d * number d + number_of_size size xs d * number d ≡ number_of_size size (x ∷ xs) d * number d
      whole d = spread (once (size x) d) (number_of_size size xs d) (number d) ∙ ap (λ (k : ℕ). k * number d) (sym (one_more x xs d))
        where
          spread : (k m n : ℕ) → k * n + m * n ≡ (k + m) * n
          spread k m n = grind arith

-- one of the elements of a size that some have
pub of_size : {X : Type 0} (size : X → ℕ) (d : ℕ) (xs : List X) → 0 < number_of_size size xs d → (x : X) × IsIn x xs × (size x ≡ d)
of_size {X} size d xs some = by (filter (λ x. nat_eq (size x) d) xs) refl some
  where
    by : (ys : List X) → filter (λ x. nat_eq (size x) d) xs ≡ ys → 0 < length ys → (x : X) × IsIn x xs × (size x ≡ d)
    by [] is more = absurd (omega arith)
    by (y ∷ ys) is more =
        let found = from_filter (λ x. nat_eq (size x) d) y xs (subst (IsIn y) (sym is) (inl refl)) in
        (y, found.0, eqb-true (size y) d found.1)
