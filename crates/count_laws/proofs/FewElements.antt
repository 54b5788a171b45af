-- Lists of no elements, and of more elements than their total size.
use Rattle.std.proofs.Common.{◌≡◌, ℕ, zero, suc, ◌-◌, ◌<◌, ◌≤◌, Bool, true, false, nat_le, List, [], ◌∷◌, ◌++◌, map, refl, ap, inl, inr, arith}
use Rattle.std.specs.Prelude.{if◌then◌else◌}
use Rattle.std.proofs.lemmas.Bool.{leb-true}
use Rattle.lists.specs.Enumeration.{IsIn}
use Rattle.count_laws.specs.Multisets.{Sized, none_taken, in_front, with_any, multisets, subsets}

module _ {X : Type 0} where
  in_front_none : (size : ℕ) (x : X) (others : ℕ → List (List X)) (n : ℕ) → (size ≤ n → others (n - size) ≡ []) → in_front size x others n ≡ []
  in_front_none size x others n none = by (nat_le size n) refl
    where
      by : (b : Bool) → nat_le size n ≡ b → (if b then map (λ ys. x ∷ ys) (others (n - size)) else []) ≡ []
      by true small = ap (map (λ ys. x ∷ ys)) (none (leb-true size n small))
      by false large = refl

  with_any_few : (size : ℕ) (x : X) (others : Sized X) → 0 < size → ((c n : ℕ) → n < c → others c n ≡ []) → (c n : ℕ) → n < c → with_any size x others c n ≡ []
  with_any_few size x others some few zero n less = absurd (omega arith)
  with_any_few size x others some few (suc c) n less =
      λ i. in_front_none size x (with_any size x others c) n (λ small. with_any_few size x others some few c (n - size) (omega arith)) i ++ few (suc c) n less i

  module _ (size : X → ℕ) where
    pub no_multisets : (xs : List X) (n : ℕ) → multisets size xs 0 n ≡ none_taken 0 n
    no_multisets [] n = refl
    no_multisets (x ∷ xs) n = no_multisets xs n

    pub no_subsets : (xs : List X) (n : ℕ) → subsets size xs 0 n ≡ none_taken 0 n
    no_subsets [] n = refl
    no_subsets (x ∷ xs) n = no_subsets xs n

    pub few_multisets : (xs : List X) → ((x : X) → IsIn x xs → 0 < size x) → (c n : ℕ) → n < c → multisets size xs c n ≡ []
    few_multisets [] some zero n less = absurd (omega arith)
    few_multisets [] some (suc c) n less = refl
    few_multisets (x ∷ xs) some c n less =
        with_any_few (size x) x (multisets size xs) (some x (inl refl)) (λ b m small. few_multisets xs (λ y there. some y (inr there)) b m small) c n less

    pub few_subsets : (xs : List X) → ((x : X) → IsIn x xs → 0 < size x) → (c n : ℕ) → n < c → subsets size xs c n ≡ []
    few_subsets [] some zero n less = absurd (omega arith)
    few_subsets [] some (suc c) n less = refl
    few_subsets (x ∷ xs) some zero n less = absurd (omega arith)
    few_subsets (x ∷ xs) some (suc c) n less =
        let positive : 0 < size x = some x (inl refl) in
        λ i. in_front_none (size x) x (subsets size xs c) n (λ small. few_subsets xs (λ y there. some y (inr there)) c (n - size x) (omega arith)) i
        ++ few_subsets xs (λ y there. some y (inr there)) (suc c) n less i
