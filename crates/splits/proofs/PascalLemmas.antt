-- Rows of Pascal's triangle as they grow.
use Rattle.std.proofs.Common.{◌≡◌, ℕ, ◌+◌, ◌-◌, ◌<◌, List, [], ◌∷◌, ◌++◌, length, get_or, sym, ap, ◌∙◌, subst, inl, inr, arith, Option, Some}
use Rattle.std.proofs.lemmas.Bool.{cases_lt}
use Rattle.std.proofs.Math.Seq.{get_or-append_seam}
use Rattle.std.proofs.lemmas.List.{get_or_append_left, length-append}
use Rattle.count_laws.specs.Choose.{choose}
use Rattle.count_laws.proofs.Binomials.{choose_before, choose_all}
use Rattle.splits.specs.Capped.{Tells}
use Rattle.splits.specs.Pascal.{AreChoices}

-- one coefficient more
pub choices_push : (n : ℕ) (numbers : List (Option ℕ)) (number : Option ℕ) → AreChoices n numbers → Tells number (choose n (length numbers)) → AreChoices n (numbers ++ number ∷ [])
choices_push n numbers number are told d other within = elim (cases_lt d (length numbers)) [
  | inl earlier ↦ subst (λ (found : Option ℕ). Tells found (choose n d)) (sym (get_or_append_left numbers (number ∷ []) other d earlier)) (are d other earlier)
  | inr last ↦
      let here : length numbers ≡ d = omega (arith, length-append numbers (number ∷ [])) in
      subst (λ (k : ℕ). Tells (get_or (numbers ++ number ∷ []) k other) (choose n k)) here
      (subst (λ (found : Option ℕ). Tells found (choose n (length numbers))) (sym (get_or-append_seam numbers number [] other)) told)
]

one_tells : (n : ℕ) → n ≡ 1 → Tells (Some 1) n
one_tells n same = (sym same, omega arith)

-- the sum of two neighbours of the row before
pub next_choice : (row numbers : List (Option ℕ)) (d : ℕ) (left right number : Option ℕ) → AreChoices (length row - 1) row → AreChoices (length row) numbers
    → length numbers ≡ d → 0 < d → d < length row → left ≡ get_or row (d - 1) left → right ≡ get_or row d right
    → ((m n : ℕ) → Tells left m → Tells right n → Tells number (m + n)) → AreChoices (length row) (numbers ++ number ∷ [])
next_choice row numbers d left right number before are long some within is_left is_right sum_tells =
    let left_tells : Tells left (choose (length row - 1) (d - 1)) = subst (λ (o : Option ℕ). Tells o (choose (length row - 1) (d - 1))) (sym is_left) (before (d - 1) left (omega arith)) in
    let right_tells : Tells right (choose (length row - 1) d) = subst (λ (o : Option ℕ). Tells o (choose (length row - 1) d)) (sym is_right) (before d right within) in
    choices_push (length row) numbers number are
    (subst (Tells number) (sym (choose_before (length row) d (omega arith) some) ∙ ap (choose (length row)) (sym long))
    (sum_tells (choose (length row - 1) (d - 1)) (choose (length row - 1) d) left_tells right_tells))

pub last_choice : (n : ℕ) (numbers : List (Option ℕ)) → AreChoices n numbers → length numbers ≡ n → AreChoices n (numbers ++ Some 1 ∷ [])
last_choice n numbers are long = choices_push n numbers (Some 1) are (one_tells (choose n (length numbers)) (ap (choose n) long ∙ choose_all n))
