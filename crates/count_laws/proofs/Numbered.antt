-- Elements with their places: in order, whatever the elements are, and as many lists of them.
use Rattle.std.proofs.Common.{◌≡◌, ℕ, zero, suc, ◌+◌, ◌≤◌, Bool, true, false, nat_lt, List, [], ◌∷◌, map, refl, sym, ap, ◌∙◌, inl, inr, arith}
use Rattle.std.specs.List.{sum}
use Rattle.std.proofs.lemmas.Bool.{lt-ltb, le-ltb}
use Rattle.std.proofs.lemmas.List.{length-append}
use Rattle.lists.specs.Enumeration.{IsIn, Ascends}
use Rattle.lists.proofs.Sums.{sum_more}
use Rattle.count_laws.specs.Multisets.{in_front, multisets, subsets}
use Rattle.count_laws.specs.Pointed.{IsAscending}
use Rattle.count_laws.proofs.Enlarged.{enlarged_length}
use Rattle.count_laws.specs.SetNumbers.{with_less, number_of_multisets, number_of_subsets}

module _ {X : Type 0} (size : X → ℕ) (x : X) (xs : List X) (c n : ℕ) where
  multisets_more : number_of_multisets size (x ∷ xs) (suc c) n ≡ with_less (size x) (number_of_multisets size (x ∷ xs) c) n + number_of_multisets size xs (suc c) n
  multisets_more =
      length-append (in_front (size x) x (multisets size (x ∷ xs) c) n) (multisets size xs (suc c) n)
      ∙ ap (λ (k : ℕ). k + number_of_multisets size xs (suc c) n) (enlarged_length (λ ys. x ∷ ys) (size x) (multisets size (x ∷ xs) c) n)

  subsets_more : number_of_subsets size (x ∷ xs) (suc c) n ≡ with_less (size x) (number_of_subsets size xs c) n + number_of_subsets size xs (suc c) n
  subsets_more =
      length-append (in_front (size x) x (subsets size xs c) n) (subsets size xs (suc c) n)
      ∙ ap (λ (k : ℕ). k + number_of_subsets size xs (suc c) n) (enlarged_length (λ ys. x ∷ ys) (size x) (subsets size xs c) n)

-- an element and its place
abbrev pub Placed : Type 0 → Type 0
Placed X = ℕ × X

module _ {X : Type 0} where
  abbrev pub is_earlier : Placed X → Placed X → Bool
  is_earlier p q = nat_lt p.0 q.0

  abbrev pub numbered : ℕ → List X → List (Placed X)
  numbered i [] = []
  numbered i (x ∷ xs) = (i, x) ∷ numbered (suc i) xs

  not_below : (i : ℕ) (xs : List X) (p : Placed X) → IsIn p (numbered i xs) → i ≤ p.0
  not_below i [] p there = absurd there
  not_below i (x ∷ xs) p (inl same) = let place : p.0 ≡ i = ap (λ (q : Placed X). q.0) same in omega (arith, place)
  not_below i (x ∷ xs) p (inr there) = omega (arith, not_below (suc i) xs p there)

  ascends : (i : ℕ) (xs : List X) → Ascends (λ p q. (is_earlier p q ≡ true) × (is_earlier q p ≡ false)) (numbered i xs)
  ascends i [] = tt
  ascends i (x ∷ xs) = (
    (λ p there. let later : suc i ≤ p.0 = not_below (suc i) xs p there in (lt-ltb i p.0 (omega arith), le-ltb p.0 i (omega arith))),
    ascends (suc i) xs,
  )

  pub numbered_ascending : (xs : List X) → IsAscending is_earlier (numbered 0 xs)
  numbered_ascending xs = record {
    irreflexive = λ p. le-ltb p.0 p.0 (omega arith);
    ascends = ascends 0 xs;
  }

  pub sum_numbered : (f : X → ℕ) (i : ℕ) (xs : List X) → sum (map (λ (p : Placed X). f p.1) (numbered i xs)) ≡ sum (map f xs)
  sum_numbered f i [] = refl
  sum_numbered f i (x ∷ xs) =
      omega (arith, sum_more (f x) (map (λ (p : Placed X). f p.1) (numbered (suc i) xs)), sum_more (f x) (map f xs), sum_numbered f (suc i) xs)

  pub in_numbered : (x : X) (i : ℕ) (xs : List X) → IsIn x xs → (k : ℕ) × IsIn (k, x) (numbered i xs)
  in_numbered x i [] there = absurd there
  in_numbered x i (y ∷ xs) (inl same) = (i, inl (λ k. (i, same k)))
  in_numbered x i (y ∷ xs) (inr there) = let found = in_numbered x (suc i) xs there in (found.0, inr found.1)

  module _ (size : X → ℕ) where
    abbrev placed_size : Placed X → ℕ
    placed_size p = size p.1

    multisets_numbered : (i : ℕ) (xs : List X) (c n : ℕ) → number_of_multisets placed_size (numbered i xs) c n ≡ number_of_multisets size xs c n
    multisets_numbered i [] zero zero = refl
    multisets_numbered i [] zero (suc n) = refl
    multisets_numbered i [] (suc c) n = refl
    multisets_numbered i (x ∷ xs) zero n = multisets_numbered (suc i) xs zero n
    multisets_numbered i (x ∷ xs) (suc c) n =
        multisets_more placed_size (i, x) (numbered (suc i) xs) c n
        ∙ (λ k. with_less (size x) (λ m. multisets_numbered i (x ∷ xs) c m k) n + multisets_numbered (suc i) xs (suc c) n k)
        ∙ sym (multisets_more size x xs c n)

    subsets_numbered : (i : ℕ) (xs : List X) (c n : ℕ) → number_of_subsets placed_size (numbered i xs) c n ≡ number_of_subsets size xs c n
    subsets_numbered i [] zero zero = refl
    subsets_numbered i [] zero (suc n) = refl
    subsets_numbered i [] (suc c) n = refl
    subsets_numbered i (x ∷ xs) zero n = subsets_numbered (suc i) xs zero n
    subsets_numbered i (x ∷ xs) (suc c) n =
        subsets_more placed_size (i, x) (numbered (suc i) xs) c n
        ∙ (λ k. with_less (size x) (λ m. subsets_numbered (suc i) xs c m k) n + subsets_numbered (suc i) xs (suc c) n k)
        ∙ sym (subsets_more size x xs c n)

    -- as functions of the number of elements and of the size
    pub as_many_multisets : (xs : List X) → number_of_multisets placed_size (numbered 0 xs) ≡ number_of_multisets size xs
    as_many_multisets xs = λ i c n. multisets_numbered 0 xs c n i

    pub as_many_subsets : (xs : List X) → number_of_subsets placed_size (numbered 0 xs) ≡ number_of_subsets size xs
    as_many_subsets xs = λ i c n. subsets_numbered 0 xs c n i
