-- The least admitted length from a number on.
use Rattle.std.proofs.Common.{◌≡◌, ℕ, zero, suc, ◌+◌, ◌<◌, ◌≤◌, ◌&&◌, Bool, true, false, cond, List, [], ◌∷◌, ◌++◌, length, nat_le, Option, Some, None, refl, sym, ap, ◌∙◌, subst, inl, inr, arith}
use Rattle.std.proofs.lemmas.Bool.{cases_lt, cases_Bool, cond-true, cond-false}
use Rattle.std.proofs.lemmas.List.{get_or_past, get_or_append_left, length-append}
use Rattle.std.proofs.Math.Seq.{get_or-append_seam}
use Rattle.splits.specs.Lengths.{is_admitted, IsLeastFrom}

-- no length past the marks is admitted
pub not_past : (lengths : List Bool) (n : ℕ) → length lengths ≤ n → is_admitted lengths n ≡ true → ⊥
not_past lengths n past is = let none : is_admitted lengths n ≡ false = get_or_past lengths n false past in cc

-- ---- it is computed

-- the least admitted one of so many lengths from a number on
searched : List Bool → ℕ → ℕ → Option ℕ
searched lengths from zero = None
searched lengths from (suc count) = cond (is_admitted lengths from) (Some from) (searched lengths (from + 1) count)

from_next : (lengths : List Bool) (from : ℕ) (found : Option ℕ) → is_admitted lengths from ≡ false → IsLeastFrom lengths (from + 1) found → IsLeastFrom lengths from found
from_next lengths from None isnt l = λ n behind is. elim (cases_lt from n) [
  | inl above ↦ l n (omega arith) is
  | inr reached ↦ let same : n ≡ from = omega arith in cc
]
from_next lengths from (Some least) isnt l = (
  omega (arith, l.0),
  l.1,
  λ n behind is. elim (cases_lt from n) [
    | inl above ↦ l.2 n (omega arith) is
    | inr reached ↦ let same : n ≡ from = omega arith in absurd (cc)
  ],
)

searched_is : (lengths : List Bool) (from count : ℕ) → length lengths ≤ from + count → IsLeastFrom lengths from (searched lengths from count)
unfolding searched
searched_is lengths from zero all = λ n behind is. not_past lengths n (omega arith) is
searched_is lengths from (suc count) all = elim (cases_Bool (is_admitted lengths from)) [
  | inl is ↦ subst (IsLeastFrom lengths from) (sym (cond-true (is_admitted lengths from) _ _ is)) (omega arith, is, λ n behind there. behind)
  | inr isnt ↦ subst (IsLeastFrom lengths from) (sym (cond-false (is_admitted lengths from) _ _ isnt))
      (from_next lengths from (searched lengths (from + 1) count) isnt (searched_is lengths (from + 1) count (omega arith)))
]

pub least_from : List Bool → ℕ → Option ℕ
least_from lengths from = searched lengths from (length lengths)

pub least_from_is : (lengths : List Bool) (from : ℕ) → IsLeastFrom lengths from (least_from lengths from)
unfolding least_from
least_from_is lengths from = searched_is lengths from (length lengths) (omega arith)

-- ---- there is one alone

pub one_least : (lengths : List Bool) (from : ℕ) (a b : Option ℕ) → IsLeastFrom lengths from a → IsLeastFrom lengths from b → a ≡ b
one_least lengths from None None l m = refl
one_least lengths from None (Some n) l m = absurd (l n m.0 m.1)
one_least lengths from (Some k) None l m = absurd (m k l.0 l.1)
one_least lengths from (Some k) (Some n) l m = ap Some (omega (arith, l.2 n m.0 m.1, m.2 k l.0 l.1))

-- ---- the search

-- the lengths that were passed aren't admitted
abbrev pub NonePassed : List Bool → ℕ → ℕ → Type 0
NonePassed lengths from passed = (n : ℕ) → from ≤ n → n < passed → is_admitted lengths n ≡ true → ⊥

-- ---- the marks of the lengths within bounds

-- so many marks stand there, and those of the lengths from low to high are true
pub record AreMarked (low high : ℕ) (lengths : List Bool) (count : ℕ) : Type 0 where
  pub long : length lengths ≡ count
  pub marks : (n : ℕ) → n < count → is_admitted lengths n ≡ nat_le low n && nat_le n high

pub marked_more : (low high : ℕ) (lengths more : List Bool) (count : ℕ) (mark : Bool) → AreMarked low high lengths count → mark ≡ nat_le low count && nat_le count high
    → more ≡ lengths ++ mark ∷ [] → AreMarked low high more (count + 1)
marked_more low high lengths more count mark m is grown = subst (λ (ms : List Bool). AreMarked low high ms (count + 1)) (sym grown) (record {
  long = omega (arith, m.long, length-append lengths (mark ∷ []));
  marks = λ n within. elim (cases_lt n count) [
    | inl earlier ↦ get_or_append_left lengths (mark ∷ []) false n (omega (arith, m.long)) ∙ m.marks n earlier
    | inr last ↦
        let here : length lengths ≡ n = omega (arith, m.long) in
        let at : n ≡ count = omega arith in
        subst (λ (k : ℕ). is_admitted (lengths ++ mark ∷ []) k ≡ mark) here (get_or-append_seam lengths mark [] false)
        ∙ (is ∙ ap (λ (k : ℕ). nat_le low k && nat_le k high) (sym at))
  ];
})
