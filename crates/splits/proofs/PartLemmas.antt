-- The list of parts: from the part that follows on it has what comes after a part.
use Rattle.std.proofs.Common.{◌≡◌, ◌⊎◌, ℕ, ◌≤◌, ◌&&◌, Bool, true, false, not, List, [], ◌∷◌, filter, length, nat_le, Option, Some, None, sym, ap, ◌∙◌, subst, inl, inr, arith, Less, nat_cmp}
use Rattle.std.specs.Cmp.Lexicographic.{slice_cmp}
use Rattle.std.proofs.lemmas.Bool.{cond-true, cond-false, cases_Bool, false_from_ne_true, not_from_false, not_from_true}
use Rattle.lists.specs.Ascending.{ascends_above}
use Rattle.lists.specs.Enumeration.{IsIn, Ascends}
use Rattle.lists.proofs.Places.{is_empty}
use Rattle.lists.proofs.Filters.{filter_same, filter_all, filter_none}
use Rattle.lists.proofs.Enumerated.{in_map, from_map, in_filter, from_filter, filtered}
use Rattle.lists.proofs.Ascending.{Rises}
use Rattle.splits.specs.Splits.{Split, splits}
use Rattle.splits.specs.Parts.{has_length, parts, has_admitted, parts_of, comes_before, after, from_part, IsPart}
use Rattle.splits.specs.Lengths.{is_admitted}
use Rattle.splits.specs.Laws.{PartBefore}
use Rattle.splits.proofs.SplitLaws.{MakesUp, splits_are}
use Rattle.lists.proofs.NumberOrder.{before_true, before_is, not_before_itself, not_both_ways, up_to}
use Rattle.splits.proofs.Selections.{Selects, selects_length, split_at, selection_splits, split_selects}
use Rattle.splits.proofs.NextPart.{Fits, Follows}

-- ---- the parts are those that fit

-- behind no label that is kept the length is that of the part
pub fit : (lengths : List Bool) (u part : List ℕ) → Selects part u → is_admitted lengths (length part) ≡ true → Fits lengths 0 u part
fit lengths u part selects is = record { selects = selects; admitted = subst (λ (n : ℕ). is_admitted lengths n ≡ true) (omega arith) is }

pub fit_admitted : (lengths : List Bool) (u part : List ℕ) → Fits lengths 0 u part → is_admitted lengths (length part) ≡ true
fit_admitted lengths u part f = subst (λ (n : ℕ). is_admitted lengths n ≡ true) (omega arith) f.admitted

pub split_fits : (lengths : List Bool) (u : List ℕ) (split : Split) → IsIn split (parts_of lengths u) → Fits lengths 0 u split.part
split_fits lengths u split there =
    let found = from_filter (has_admitted lengths) split (splits u) there in
    fit lengths u split.part (split_selects u split found.0) found.1

pub part_split : (part : List ℕ) (ss : List Split) → IsPart part ss → (split : Split) × IsIn split ss × (part ≡ split.part)
part_split part ss there = from_map (λ (s : Split). s.part) part ss there

pub part_fits : (lengths : List Bool) (u part : List ℕ) → IsPart part (parts_of lengths u) → Fits lengths 0 u part
part_fits lengths u part there =
    let found = part_split part (parts_of lengths u) there in
    subst (Fits lengths 0 u) (sym found.2) (split_fits lengths u found.0 found.1)

pub split_in : (lengths : List Bool) (u : List ℕ) (split : Split) → IsIn split (splits u) → is_admitted lengths (length split.part) ≡ true → IsIn split (parts_of lengths u)
split_in lengths u split there is = in_filter (has_admitted lengths) split (splits u) there is

pub part_in : (ss : List Split) (split : Split) → IsIn split ss → IsPart split.part ss
part_in ss split there = in_map (λ (s : Split). s.part) split ss there

-- a part of an admitted length is a part
pub part_within : (lengths : List Bool) (u part : List ℕ) → IsPart part (parts_of lengths u) → IsPart part (splits u)
part_within lengths u part there =
    let found = part_split part (parts_of lengths u) there in
    subst (λ (p : List ℕ). IsPart p (splits u)) (sym found.2) (part_in (splits u) found.0 (from_filter (has_admitted lengths) found.0 (splits u) found.1).0)

pub fitting_part : (above : ℕ) (lengths : List Bool) (u part : List ℕ) → ascends_above above u ≡ true → Fits lengths 0 u part → IsPart part (parts_of lengths u)
fitting_part above lengths u part h f =
    part_in (parts_of lengths u) (split_at part u) (split_in lengths u (split_at part u) (selection_splits above part u h f.selects) (fit_admitted lengths u part f))

-- ---- the parts within bounds are those whose lengths are marked

pub parts_between : (low high : ℕ) (lengths : List Bool) (u : List ℕ) → ((n : ℕ) → n ≤ length u → is_admitted lengths n ≡ nat_le low n && nat_le n high)
    → parts_of lengths u ≡ parts low high u
parts_between low high lengths u marked =
    filter_same (has_admitted lengths) (has_length low high) (splits u) (λ split there. marked (length split.part) (selects_length split.part u (split_selects u split there)))

-- ---- the parts in their order

pub parts_ascend : (lengths : List Bool) (u : List ℕ) → Rises u → Ascends PartBefore (parts_of lengths u)
parts_ascend lengths u r = (filtered PartBefore (MakesUp u) (has_admitted lengths) (splits u) (splits_are u r)).ascends

-- not before is no longer true where it was false
not_before : (ms ns : List ℕ) → (slice_cmp nat_cmp ms ns ≡ Less → ⊥) → comes_before ms ns ≡ false
not_before ms ns h = false_from_ne_true (comes_before ms ns) (λ is. h (before_true ms ns is))

is_from : (ms ns : List ℕ) → (slice_cmp nat_cmp ms ns ≡ Less → ⊥) → not (comes_before ms ns) ≡ true
is_from ms ns h = not_from_false (comes_before ms ns) (not_before ms ns h)

-- from the part that follows on the list has what comes after the part
pub after_is : (lengths : List Bool) (u part : List ℕ) (next : Option (List ℕ)) → Follows lengths 0 u part next → from_part next (parts_of lengths u) ≡ after part (parts_of lengths u)
after_is lengths u part None none =
    sym (filter_none (λ (s : Split). comes_before part s.part) (parts_of lengths u)
    (λ split there. not_before part split.part (λ before. none split.part (split_fits lengths u split there) before)))
after_is lengths u part (Some next) n =
    filter_same (λ (s : Split). not (comes_before s.part next)) (λ (s : Split). comes_before part s.part) (parts_of lengths u)
    (λ split there. at_split split (split_fits lengths u split there) (cases_Bool (comes_before part split.part)))
  where
    at_split : (split : Split) → Fits lengths 0 u split.part → (comes_before part split.part ≡ true) ⊎ (comes_before part split.part ≡ false)
        → not (comes_before split.part next) ≡ comes_before part split.part
    at_split split f (inl is) = is_from split.part next (λ first. n.least split.part f (before_true part split.part is) first) ∙ sym is
    at_split split f (inr isnt) =
        not_from_true (comes_before split.part next) (before_is split.part next (up_to split.part part next (λ before. absurd (let e : true ≡ false = sym (before_is part split.part before) ∙ isnt in cc)) n.later)) ∙ sym isnt

-- from a part on the list has its split, and then what comes after it
pub head_is : (split : Split) (ss : List Split) → Ascends PartBefore ss → IsIn split ss → from_part (Some split.part) ss ≡ split ∷ after split.part ss
head_is split [] a there = absurd there
head_is split (s ∷ ss) a (inl same) = subst (λ (t : Split). from_part (Some t.part) (s ∷ ss) ≡ t ∷ after t.part (s ∷ ss)) (sym same) (here s ss a.0)
  where
    here : (s : Split) (ss : List Split) → ((t : Split) → IsIn t ss → PartBefore s t) → from_part (Some s.part) (s ∷ ss) ≡ s ∷ after s.part (s ∷ ss)
    here s ss first =
        let itself : filter (λ (t : Split). not (comes_before t.part s.part)) (s ∷ ss) ≡ s ∷ filter (λ (t : Split). not (comes_before t.part s.part)) ss
        = cond-true (not (comes_before s.part s.part)) _ _ (is_from s.part s.part (not_before_itself s.part)) in
        let others : filter (λ (t : Split). not (comes_before t.part s.part)) ss ≡ ss
        = filter_all (λ (t : Split). not (comes_before t.part s.part)) ss (λ t there. is_from t.part s.part (λ before. not_both_ways s.part t.part (first t there) before)) in
        let skipped : after s.part (s ∷ ss) ≡ after s.part ss = cond-false (comes_before s.part s.part) _ _ (not_before s.part s.part (not_before_itself s.part)) in
        let behind : after s.part ss ≡ ss = filter_all (λ (t : Split). comes_before s.part t.part) ss (λ t there. before_is s.part t.part (first t there)) in
        itself ∙ (ap (λ (ts : List Split). s ∷ ts) others ∙ ap (λ (ts : List Split). s ∷ ts) (sym (skipped ∙ behind)))
head_is split (s ∷ ss) a (inr there) =
    let first : slice_cmp nat_cmp s.part split.part ≡ Less = a.0 split there in
    let skipped : from_part (Some split.part) (s ∷ ss) ≡ from_part (Some split.part) ss
    = cond-false (not (comes_before s.part split.part)) _ _ (not_from_true (comes_before s.part split.part) (before_is s.part split.part first)) in
    let passed : after split.part (s ∷ ss) ≡ after split.part ss
    = cond-false (comes_before split.part s.part) _ _ (not_before split.part s.part (λ before. not_both_ways s.part split.part first before)) in
    skipped ∙ (head_is split ss a.1 there ∙ ap (λ (ts : List Split). split ∷ ts) (sym passed))

-- the list from its first part on is the whole list
pub from_first_part : (lengths : List Bool) (u part : List ℕ) → ((other : List ℕ) → Fits lengths 0 u other → slice_cmp nat_cmp other part ≡ Less → ⊥)
    → from_part (Some part) (parts_of lengths u) ≡ parts_of lengths u
from_first_part lengths u part least =
    filter_all (λ (s : Split). not (comes_before s.part part)) (parts_of lengths u) (λ split there. is_from split.part part (least split.part (split_fits lengths u split there)))

pub no_parts : (lengths : List Bool) (u : List ℕ) → ((other : List ℕ) → Fits lengths 0 u other → ⊥) → parts_of lengths u ≡ []
no_parts lengths u none = is_empty (parts_of lengths u) (λ split there. none split.part (split_fits lengths u split there))
