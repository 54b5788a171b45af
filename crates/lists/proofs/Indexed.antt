-- Lists whose elements are numbered, and what is made of each element and its number.
use Rattle.std.proofs.Common.{◌≡◌, ℕ, zero, suc, ◌+◌, List, [], ◌∷◌, ◌++◌, length, map, slice_get, option_map, Some, refl, sym, ap, ◌∙◌, arith, append_assoc, length-append}
use Rattle.std.specs.List.{enumerate_from}
use Rattle.std.proofs.lemmas.List.{length-map}
use Rattle.std.proofs.lemmas.List.FromFn.{length-enumerate_from}

-- what stands at a place, with its number
pub slice_get-enumerate_from : {X : Type 0} (n i m : ℕ) (xs : List X) → n + i ≡ m → slice_get (enumerate_from n xs) i ≡ option_map (λ x. (m, x)) (slice_get xs i)
slice_get-enumerate_from n i m [] number = refl
slice_get-enumerate_from n zero m (x ∷ xs) number = ap (λ (k : ℕ). Some (k, x)) (let same : n ≡ m = omega arith in same)
slice_get-enumerate_from n (suc i) m (x ∷ xs) number = slice_get-enumerate_from (n + 1) i m xs (omega arith)

module _ {X Y : Type 0} (f : ℕ × X → Y) where
  abbrev made : ℕ → List X → List Y
  made n xs = map f (enumerate_from n xs)

  pub length-made : (n : ℕ) (xs : List X) → length (map f (enumerate_from n xs)) ≡ length xs
  length-made n xs = length-map (enumerate_from n xs) f ∙ length-enumerate_from n xs

  pub get-made : (n i m : ℕ) (xs : List X) → n + i ≡ m → slice_get (map f (enumerate_from n xs)) i ≡ option_map (λ x. f (m, x)) (slice_get xs i)
  get-made n i m [] number = refl
  get-made n zero m (x ∷ xs) number = let same : n ≡ m = omega arith in ap (λ (k : ℕ). Some (f (k, x))) same
  get-made n (suc i) m (x ∷ xs) number = get-made (n + 1) i m xs (omega arith)

  made-append : (n : ℕ) (xs ys : List X) → made n (xs ++ ys) ≡ made n xs ++ made (n + length xs) ys
  made-append n [] ys = ap (λ (m : ℕ). made m ys) (number n)
    where
      number : (m : ℕ) → m ≡ m + 0
      number m = omega arith
  made-append n (x ∷ xs) ys = ap (λ others. f (n, x) ∷ others) (made-append (n + 1) xs ys ∙ ap (λ (m : ℕ). made (n + 1) xs ++ made m ys) (number n (length xs)))
    where
      number : (m k : ℕ) → m + 1 + k ≡ m + suc k
      number m k = omega arith

  -- how long a table is that grew by what is made of some elements
  pub grown_length : (old new : List Y) (xs : List X) → new ≡ old ++ map f (enumerate_from (length old) xs) → length new ≡ length old + length xs
  grown_length old new xs grown = ap length grown ∙ length-append old (made (length old) xs) ∙ ap (λ (k : ℕ). length old + k) (length-made (length old) xs)

  -- what is still to come of a table, before and after what is made of some elements
  pub grown_step : (old middle : List Y) (xs ys all : List X) → middle ≡ old ++ map f (enumerate_from (length old) xs) → all ≡ xs ++ ys
      → old ++ map f (enumerate_from (length old) all) ≡ middle ++ map f (enumerate_from (length middle) ys)
  grown_step old middle xs ys all first split =
      ap (λ es. old ++ made (length old) es) split
      ∙ ap (λ others. old ++ others) (made-append (length old) xs ys)
      ∙ sym (append_assoc old (made (length old) xs) (made (length old + length xs) ys))
      ∙ ap (λ (m : ℕ). (old ++ made (length old) xs) ++ made m ys) (sym (grown_length old middle xs first))
      ∙ ap (λ table. table ++ made (length middle) ys) (sym first)
