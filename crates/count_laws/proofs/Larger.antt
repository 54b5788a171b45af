-- Elements that are larger than the total size do not matter.
use Rattle.std.proofs.Common.{◌≡◌, ℕ, zero, suc, ◌-◌, ◌<◌, ◌≤◌, Bool, nat_le, List, [], ◌∷◌, ◌++◌, map, refl, ap, ◌∙◌, inl, inr, arith}
use Rattle.std.specs.Prelude.{if◌then◌else◌}
use Rattle.std.proofs.lemmas.Bool.{lt-leb}
use Rattle.lists.specs.Enumeration.{IsIn}
use Rattle.count_laws.specs.Multisets.{Sized, none_taken, in_front, with_any, with_one, multisets, subsets}

module _ {X : Type 0} where
  in_front_same : (size : ℕ) (x : X) (others also : ℕ → List (List X)) (n : ℕ) → ((m : ℕ) → m ≤ n → others m ≡ also m) → in_front size x others n ≡ in_front size x also n
  in_front_same size x others also n same =
      ap (λ yss. if nat_le size n then map (λ ys. x ∷ ys) yss else []) (same (n - size) (omega arith))

  too_large : (size : ℕ) (x : X) (others : ℕ → List (List X)) (n : ℕ) → n < size → in_front size x others n ≡ []
  too_large size x others n large = ap (λ (b : Bool). if b then map (λ ys. x ∷ ys) (others (n - size)) else []) (lt-leb size n large)

  with_any_same : (size : ℕ) (x : X) (others also : Sized X) (c n : ℕ) → ((b m : ℕ) → m ≤ n → others b m ≡ also b m) → with_any size x others c n ≡ with_any size x also c n
  with_any_same size x others also zero n same = same zero n (omega arith)
  with_any_same size x others also (suc c) n same =
      λ i. in_front_same size x (with_any size x others c) (with_any size x also c) n (λ m small. with_any_same size x others also c m (λ b k less. same b k (omega arith))) i
      ++ same (suc c) n (omega arith) i

  with_one_same : (size : ℕ) (x : X) (others also : Sized X) (c n : ℕ) → ((b m : ℕ) → m ≤ n → others b m ≡ also b m) → with_one size x others c n ≡ with_one size x also c n
  with_one_same size x others also zero n same = same zero n (omega arith)
  with_one_same size x others also (suc c) n same =
      λ i. in_front_same size x (others c) (also c) n (λ m small. same c m small) i ++ same (suc c) n (omega arith) i

  with_any_large : (size : ℕ) (x : X) (others : Sized X) (c n : ℕ) → n < size → with_any size x others c n ≡ others c n
  with_any_large size x others zero n large = refl
  with_any_large size x others (suc c) n large = ap (λ front. front ++ others (suc c) n) (too_large size x (with_any size x others c) n large)

  with_one_large : (size : ℕ) (x : X) (others : Sized X) (c n : ℕ) → n < size → with_one size x others c n ≡ others c n
  with_one_large size x others zero n large = refl
  with_one_large size x others (suc c) n large = ap (λ front. front ++ others (suc c) n) (too_large size x (others c) n large)

  module _ (size : X → ℕ) (most : ℕ) where
    multisets_none : (ys : List X) → ((y : X) → IsIn y ys → most < size y) → (c n : ℕ) → n ≤ most → multisets size ys c n ≡ none_taken c n
    multisets_none [] large c n small = refl
    multisets_none (y ∷ ys) large c n small =
        let above : most < size y = large y (inl refl) in
        with_any_large (size y) y (multisets size ys) c n (omega arith) ∙ multisets_none ys (λ z there. large z (inr there)) c n small

    subsets_none : (ys : List X) → ((y : X) → IsIn y ys → most < size y) → (c n : ℕ) → n ≤ most → subsets size ys c n ≡ none_taken c n
    subsets_none [] large c n small = refl
    subsets_none (y ∷ ys) large c n small =
        let above : most < size y = large y (inl refl) in
        with_one_large (size y) y (subsets size ys) c n (omega arith) ∙ subsets_none ys (λ z there. large z (inr there)) c n small

    pub multisets_of_small : (xs ys : List X) → ((y : X) → IsIn y ys → most < size y) → (c n : ℕ) → n ≤ most → multisets size (xs ++ ys) c n ≡ multisets size xs c n
    multisets_of_small [] ys large c n small = multisets_none ys large c n small
    multisets_of_small (x ∷ xs) ys large c n small =
        with_any_same (size x) x (multisets size (xs ++ ys)) (multisets size xs) c n (λ b m less. multisets_of_small xs ys large b m (omega arith))

    pub subsets_of_small : (xs ys : List X) → ((y : X) → IsIn y ys → most < size y) → (c n : ℕ) → n ≤ most → subsets size (xs ++ ys) c n ≡ subsets size xs c n
    subsets_of_small [] ys large c n small = subsets_none ys large c n small
    subsets_of_small (x ∷ xs) ys large c n small =
        with_one_same (size x) x (subsets size (xs ++ ys)) (subsets size xs) c n (λ b m less. subsets_of_small xs ys large b m (omega arith))
