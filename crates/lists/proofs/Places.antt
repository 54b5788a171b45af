-- What stands at the places of a list, and lists that stand within a list.
use Rattle.std.proofs.Common.{◌≡◌, ◌⊎◌, ℕ, zero, suc, ◌+◌, ◌<◌, ◌≤◌, Bool, true, List, [], ◌∷◌, ◌++◌, length, take, drop, get_or, slice_get, Some, refl, sym, ap, ◌∙◌, subst, inl, inr, arith}
use Rattle.std.specs.List.{list_all}
use Rattle.std.proofs.lemmas.Option.{slice_get_within}
use Rattle.lists.specs.Enumeration.{IsIn}
use Rattle.lists.proofs.Tests.{passes}

module _ {X : Type 0} where
  -- ---- elements and their places

  pub in_of_get : (xs : List X) (i : ℕ) (x : X) → slice_get xs i ≡ Some x → IsIn x xs
  in_of_get [] i x h = absurd (cc)
  in_of_get (y ∷ xs) zero x h = inl (let same : y ≡ x = cc in sym same)
  in_of_get (y ∷ xs) (suc i) x h = inr (in_of_get xs i x h)

  pub get_of_in : (xs : List X) (x : X) → IsIn x xs → (i : ℕ) × (slice_get xs i ≡ Some x)
  get_of_in [] x h = absurd h
  get_of_in (y ∷ xs) x (inl same) = (0, ap Some (sym same))
  get_of_in (y ∷ xs) x (inr there) = let found = get_of_in xs x there in (suc found.0, found.1)

  pub is_in_get_or : (xs : List X) (i : ℕ) (d : X) → i < length xs → IsIn (get_or xs i d) xs
  is_in_get_or [] i d within = absurd (omega arith)
  is_in_get_or (x ∷ xs) zero d within = inl refl
  is_in_get_or (x ∷ xs) (suc i) d within = inr (is_in_get_or xs i d (omega arith))

  -- an element of the first ones and one more is one of the first ones or that one
  pub is_in_more : (xs : List X) (i : ℕ) (x d : X) → i < length xs → IsIn x (take (suc i) xs) → IsIn x (take i xs) ⊎ (x ≡ get_or xs i d)
  is_in_more [] i x d within at = absurd (omega arith)
  is_in_more (y ∷ xs) zero x d within at = elim at [ inl same ↦ inr same | inr later ↦ absurd later ]
  is_in_more (y ∷ xs) (suc i) x d within at =
      elim at [ inl same ↦ inl (inl same) | inr later ↦ elim (is_in_more xs i x d (omega arith) later) [ inl before ↦ inl (inr before) | inr here ↦ inr here ] ]

  pub is_empty : (xs : List X) → ((x : X) → IsIn x xs → ⊥) → xs ≡ []
  is_empty [] none = refl
  is_empty (x ∷ xs) none = absurd (none x (inl refl))

  -- the list from a place on begins with what stands there
  pub drop_at : (xs : List X) (i : ℕ) (x : X) → slice_get xs i ≡ Some x → drop i xs ≡ x ∷ drop (i + 1) xs
  drop_at [] i x at = absurd (cc)
  drop_at (y ∷ xs) zero x at = let same : y ≡ x = cc in ap (λ z. z ∷ xs) same
  drop_at (y ∷ xs) (suc i) x at = drop_at xs i x at ∙ ap (λ (k : ℕ). x ∷ drop k (y ∷ xs)) (next i)
    where
      next : (n : ℕ) → suc (n + 1) ≡ suc n + 1
      next n = omega arith

  -- ---- two lists one after the other

  pub get_left : (xs ys : List X) (i : ℕ) (x : X) → slice_get xs i ≡ Some x → slice_get (xs ++ ys) i ≡ Some x
  get_left [] ys i x h = absurd (cc)
  get_left (y ∷ xs) ys zero x h = h
  get_left (y ∷ xs) ys (suc i) x h = get_left xs ys i x h

  pub get_right : (xs ys : List X) (i k : ℕ) → length xs + k ≡ i → slice_get (xs ++ ys) i ≡ slice_get ys k
  get_right [] ys i k same = let e : i ≡ k = omega arith in ap (slice_get ys) e
  get_right (y ∷ xs) ys zero k same = absurd (omega arith)
  get_right (y ∷ xs) ys (suc i) k same = get_right xs ys i k (omega arith)

  -- a place of two lists together is one of the first or one of the second
  pub get_either : (xs ys : List X) (i : ℕ) (x : X) → slice_get (xs ++ ys) i ≡ Some x
      → (slice_get xs i ≡ Some x) ⊎ ((k : ℕ) × (length xs + k ≡ i) × (slice_get ys k ≡ Some x))
  get_either [] ys i x h = inr (i, omega arith, h)
  get_either (y ∷ xs) ys zero x h = inl h
  get_either (y ∷ xs) ys (suc i) x h = elim (get_either xs ys i x h) [
    | inl here ↦ inl here
    | inr there ↦ inr (there.0, shift there.0 there.1, there.2)
  ]
    where
      shift : (k : ℕ) → length xs + k ≡ i → suc (length xs) + k ≡ suc i
      shift k same = omega arith

  -- a place of a list with one more element is one before it or that of the last one
  pub pushed_at : (xs : List X) (last : X) (i : ℕ) (x : X) → slice_get (xs ++ last ∷ []) i ≡ Some x → (slice_get xs i ≡ Some x) ⊎ ((i ≡ length xs) × (x ≡ last))
  pushed_at [] last zero x at = inr (refl, (cc))
  pushed_at [] last (suc i) x at = absurd (cc)
  pushed_at (first ∷ xs) last zero x at = inl at
  pushed_at (first ∷ xs) last (suc i) x at = elim (pushed_at xs last i x at) [ inl before ↦ inl before | inr here ↦ inr (ap suc here.0, here.1) ]

  -- ---- lists within a list

  -- the part stands in the list from place n on
  pub record Holds (all : List X) (n : ℕ) (part : List X) : Type 0 where
    pub at : (k m : ℕ) (x : X) → n + k ≡ m → slice_get part k ≡ Some x → slice_get all m ≡ Some x

  pub holds_itself : (xs : List X) → Holds xs 0 xs
  holds_itself xs = record { at = λ k m x same h. subst (λ (j : ℕ). slice_get xs j ≡ Some x) (number k m same) h }
    where
      number : (k m : ℕ) → 0 + k ≡ m → k ≡ m
      number k m same = omega arith

  pub holds_left : (all : List X) (n : ℕ) (xs ys : List X) → Holds all n (xs ++ ys) → Holds all n xs
  holds_left all n xs ys h = record { at = λ k m x same at. h.at k m x same (get_left xs ys k x at) }

  pub holds_right : (all : List X) (n m : ℕ) (xs ys : List X) → n + length xs ≡ m → Holds all n (xs ++ ys) → Holds all m ys
  holds_right all n m xs ys same h = record { at = λ k j x number at. h.at (length xs + k) j x (further k j number) (get_right xs ys (length xs + k) k refl ∙ at) }
    where
      further : (k j : ℕ) → m + k ≡ j → n + (length xs + k) ≡ j
      further k j number = omega arith

  pub holds_tail : (all : List X) (n : ℕ) (x : X) (xs : List X) → Holds all n (x ∷ xs) → Holds all (n + 1) xs
  holds_tail all n x xs h = record { at = λ k j y number at. h.at (suc k) j y (further k j number) at }
    where
      further : (k j : ℕ) → n + 1 + k ≡ j → n + suc k ≡ j
      further k j number = omega arith

  -- a test that all elements of a list pass is passed by all of a part
  pub all_pass : (test : X → Bool) (all : List X) (n : ℕ) (part : List X) → Holds all n part → list_all test all ≡ true → list_all test part ≡ true
  all_pass test all n [] h each = refl
  all_pass test all n (x ∷ part) h each =
      both (passes test x all each (in_of_get all (n + 0) x (h.at 0 (n + 0) x refl refl))) (all_pass test all (n + 1) part (holds_tail all n x part h) each)
    where
      both : test x ≡ true → list_all test part ≡ true → list_all test (x ∷ part) ≡ true
      both first others = cc

  -- a part that is not empty ends within the list
  pub holds_within : (all : List X) (n : ℕ) (part : List X) → 0 < length part → Holds all n part → n + length part ≤ length all
  holds_within all n [] some h = absurd (omega arith)
  holds_within all n (x ∷ []) some h =
      let within : n < length all = slice_get_within all n x (h.at 0 n x (omega arith) refl) in omega arith
  holds_within all n (x ∷ y ∷ part) some h = omega (arith, holds_within all (n + 1) (y ∷ part) (omega arith) (holds_tail all n x (y ∷ part) h))
