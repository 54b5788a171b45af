-- Numbers that a sort puts in order are the ascending ones.
use Rattle.std.proofs.Common.{◌≡◌, ℕ, suc, ◌+◌, ◌<◌, ◌≤◌, nat_eq, nat_cmp, List, [], ◌∷◌, length, get_or, refl, sym, ap, ◌∙◌, inl, inr, arith}
use Rattle.std.specs.Prelude.{if◌then◌else◌}
use Rattle.std.specs.List.{sum_by}
use Rattle.std.specs.List.Sorted.{IsPermutation, IsSorted, IsNonDecreasing}
use Rattle.std.proofs.lemmas.Bool.{cases_order}
use Rattle.std.proofs.lemmas.Bool.Decides.{nat_tests}
use Rattle.std.proofs.lemmas.List.Sums.{sum_by-cons}
use Rattle.std.proofs.lemmas.List.Sorted.{sum_by-IsPermutation, IsNonDecreasingBy-from_sort}
use Rattle.lists.specs.Ascending.{inserted, ascending}
use Rattle.lists.proofs.Ascending.{AtLeast, Rises, lower, rises_ascending, inserted_first, inserted_later}

abbrev one_if : ℕ → ℕ → ℕ
one_if k x = if nat_eq k x then 1 else 0

itself : (k : ℕ) → one_if k k ≡ 1
itself k = grind (arith, nat_tests)

another : (k x : ℕ) → k < x → one_if k x ≡ 0
another k x h = grind (arith, nat_tests)

-- how often the number is there
abbrev occurs : ℕ → List ℕ → ℕ
occurs k xs = sum_by (one_if k) xs

occurs-cons : (k x : ℕ) (xs : List ℕ) → occurs k (x ∷ xs) ≡ one_if k x + occurs k xs
occurs-cons k x xs = sum_by-cons (one_if k) x xs

absent : (k : ℕ) (xs : List ℕ) → AtLeast (suc k) xs → occurs k xs ≡ 0
absent k [] above = refl
absent k (x ∷ xs) above = omega (arith, occurs-cons k x xs, another k x (omega (arith, above.0)), absent k xs above.1)

occurs-inserted : (k x : ℕ) (xs : List ℕ) → occurs k (inserted x xs) ≡ one_if k x + occurs k xs
occurs-inserted k x [] = occurs-cons k x []
occurs-inserted k x (y ∷ xs) = elim (cases_order x y) [
  | inl same ↦ ap (occurs k) (inserted_first x y xs (omega arith)) ∙ occurs-cons k x (y ∷ xs)
  | inr (inl below) ↦ ap (occurs k) (inserted_first x y xs (omega arith)) ∙ occurs-cons k x (y ∷ xs)
  | inr (inr above) ↦ omega (
    arith,
    ap (occurs k) (inserted_later x y xs above),
    occurs-cons k y (inserted x xs),
    occurs-cons k y xs,
    occurs-inserted k x xs,
  )
]

occurs-ascending : (k : ℕ) (xs : List ℕ) → occurs k (ascending xs) ≡ occurs k xs
occurs-ascending k [] = refl
occurs-ascending k (x ∷ xs) = omega (arith, occurs-inserted k x (ascending xs), occurs-ascending k xs, occurs-cons k x xs)

-- rising numbers are told by how often each is there
same_rising : (xs ys : List ℕ) → Rises xs → Rises ys → ((k : ℕ) → occurs k xs ≡ occurs k ys) → xs ≡ ys
same_rising [] [] r s same = refl
same_rising [] (y ∷ ys) r s same =
    let none : 0 ≡ occurs y (y ∷ ys) = same y in
    absurd (omega (arith, none, occurs-cons y y ys, itself y))
same_rising (x ∷ xs) [] r s same =
    let none : occurs x (x ∷ xs) ≡ 0 = same x in
    absurd (omega (arith, none, occurs-cons x x xs, itself x))
same_rising (x ∷ xs) (y ∷ ys) r s same = elim (cases_order x y) [
  | inl first ↦
      let others : xs ≡ ys = same_rising xs ys r.1 s.1 (λ k. omega (arith, same k, occurs-cons k x xs, occurs-cons k y ys, ap (one_if k) first)) in
      λ i. first i ∷ others i
  | inr (inl below) ↦ absurd (omega (arith, same x, occurs-cons x x xs, itself x, absent x (y ∷ ys) (omega arith, lower (suc x) y ys (omega arith) s.0)))
  | inr (inr above) ↦ absurd (omega (arith, same y, occurs-cons y y ys, itself y, absent y (x ∷ xs) (omega arith, lower (suc y) x xs (omega arith) r.0)))
]

at_least : (low : ℕ) (xs : List ℕ) → ((j : ℕ) → j < length xs → low ≤ get_or xs j 0) → AtLeast low xs
at_least low [] each = tt
at_least low (x ∷ xs) each = (each 0 (omega arith), at_least low xs (λ j within. each (suc j) (omega arith)))

rises : (xs : List ℕ) → IsNonDecreasing xs → Rises xs
rises [] up = tt
rises (x ∷ xs) up = (
  at_least x xs (λ j within. up 0 (suc j) 0 (omega arith) (omega arith)),
  rises xs (λ i j d order within. up (suc i) (suc j) d (omega arith) (omega arith)),
)

pub sorted_is : (xs ys : List ℕ) → IsPermutation xs ys → IsSorted nat_cmp ys → ys ≡ ascending xs
sorted_is xs ys moved up =
    same_rising ys (ascending xs) (rises ys (IsNonDecreasingBy-from_sort (λ x. x) ys up)) (rises_ascending xs)
    (λ k. sum_by-IsPermutation (one_if k) xs ys moved ∙ sym (occurs-ascending k xs))
