-- Lists of what each element gives, and ranges.
use Rattle.std.proofs.Common.{◌≡◌, ℕ, zero, suc, ◌+◌, Bool, true, false, cond, List, [], ◌∷◌, ◌++◌, filter, flat_map, refl, ap, ◌∙◌, inl, inr, arith}
use Rattle.std.specs.List.{range_with_len}
use Rattle.std.proofs.lemmas.List.{append-nil}
use Rattle.std.proofs.lemmas.Grind.{flat_map-append}
use Rattle.lists.specs.Enumeration.{IsIn}

module _ {X A : Type 0} (f : X → List A) where
  -- what agrees on each element makes the same list
  pub same_made : (h : X → List A) (xs : List X) → ((x : X) → IsIn x xs → f x ≡ h x) → flat_map f xs ≡ flat_map h xs
  same_made h [] same = refl
  same_made h (x ∷ xs) same = λ i. same x (inl refl) i ++ same_made h xs (λ y there. same y (inr there)) i

  -- where each element gives nothing, all of them do
  pub nothing_of : (xs : List X) → ((x : X) → IsIn x xs → f x ≡ []) → flat_map f xs ≡ []
  nothing_of [] none = refl
  nothing_of (x ∷ xs) none = ap (λ (first : List A). first ++ flat_map f xs) (none x (inl refl)) ∙ nothing_of xs (λ y there. none y (inr there))

  -- elements that give nothing may be left out
  pub left_out : (keep : X → Bool) (xs : List X) → ((x : X) → IsIn x xs → keep x ≡ false → f x ≡ []) → flat_map f xs ≡ flat_map f (filter keep xs)
  left_out keep [] none = refl
  left_out keep (x ∷ xs) none = by (keep x) refl (left_out keep xs (λ y there. none y (inr there)))
    where
      by : (b : Bool) → keep x ≡ b → flat_map f xs ≡ flat_map f (filter keep xs) → f x ++ flat_map f xs ≡ flat_map f (cond b (x ∷ filter keep xs) (filter keep xs))
      by true kept others = ap (λ rest. f x ++ rest) others
      by false left others = ap (λ first. first ++ flat_map f xs) (none x (inl refl) left) ∙ others

-- ---- ranges

pub range-append : (start a b : ℕ) → range_with_len start (a + b) ≡ range_with_len start a ++ range_with_len (start + a) b
range-append start zero b = λ i. range_with_len (from start i) (none b i)
  where
    none : (b : ℕ) → zero + b ≡ b
    none b = omega arith

    from : (start : ℕ) → start ≡ start + 0
    from start = omega arith
range-append start (suc a) b =
    ap (range_with_len start) (more a b) ∙ ap (λ rest. start ∷ rest) (range-append (start + 1) a b)
    ∙ ap (λ (k : ℕ). start ∷ range_with_len (start + 1) a ++ range_with_len k b) (further start a)
  where
    more : (a b : ℕ) → suc a + b ≡ suc (a + b)
    more a b = omega arith

    further : (start a : ℕ) → start + 1 + a ≡ start + suc a
    further start a = omega arith

-- a loop over the numbers from 0 that has come past one
pub sizes-more : {A : Type 0} (f : ℕ → List A) (n : ℕ) → flat_map f (range_with_len 0 (n + 1)) ≡ flat_map f (range_with_len 0 n) ++ f n
sizes-more f n =
    ap (flat_map f) (range-append 0 n 1) ∙ flat_map-append f (range_with_len 0 n) (range_with_len (0 + n) 1)
    ∙ ap (λ rest. flat_map f (range_with_len 0 n) ++ rest) (append-nil (f (0 + n))) ∙ ap (λ (k : ℕ). flat_map f (range_with_len 0 n) ++ f k) (none n)
  where
    none : (k : ℕ) → 0 + k ≡ k
    none k = omega arith
