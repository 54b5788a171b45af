-- A split among those that stand in the order of their parts.
use Rattle.std.proofs.Common.{◌≡◌, ℕ, Bool, true, false, List, [], ◌∷◌, ◌++◌, map, filter, nat_cmp, Less, sym, ap, ◌∙◌, subst, inl, inr}
use Rattle.std.specs.Prelude.{if◌then◌else◌}
use Rattle.std.specs.Cmp.Lexicographic.{slice_cmp}
use Rattle.std.proofs.lemmas.Bool.{cond-false, false_from_ne_true}
use Rattle.lists.specs.Enumeration.{IsIn, Ascends}
use Rattle.lists.proofs.Filters.{filter_all}
use Rattle.lists.proofs.Within.{in_left}
use Rattle.lists.proofs.Enumerated.{from_filter}
use Rattle.lists.proofs.Ascending.{Rises}
use Rattle.lists.proofs.NumberOrder.{before_true, before_is, not_before_itself, not_both_ways}
use Rattle.splits.specs.Splits.{Split, splits, taking, leaving, begins_above}
use Rattle.splits.specs.Parts.{has_admitted, comes_before, after}
use Rattle.splits.specs.Laws.{PartBefore}
use Rattle.splits.proofs.SplitLaws.{splits_are}
use Rattle.struct_walk.specs.declared.tail.Tail.{Tail}
use Rattle.struct_walk.specs.declared.tail.Tail.TheVariants.{Components, Elements, SetElements, CycleElements}
use Rattle.struct_walk.specs.SplitWalkView.{least_splits}
use Rattle.struct_walk.specs.Tails.{first_splits, first_parts}
use Rattle.struct_walk.proofs.SplitWalkLemmas.{least_within}

not_before : (ms ns : List ℕ) → (slice_cmp nat_cmp ms ns ≡ Less → ⊥) → comes_before ms ns ≡ false
not_before ms ns h = false_from_ne_true (comes_before ms ns) (λ is. h (before_true ms ns is))

-- the splits are those before this one, itself, and those with a part after its own
pub split_among : (split : Split) (ss : List Split) → Ascends PartBefore ss → IsIn split ss
    → (earlier : List Split) × (ss ≡ earlier ++ split ∷ after split.part ss)
split_among split [] a there = absurd there
split_among split (s ∷ ss) a (inl same) =
    ([], subst (λ (t : Split). s ∷ ss ≡ t ∷ after t.part (s ∷ ss)) (sym same) (ap (λ (ts : List Split). s ∷ ts) (sym behind)))
  where
    behind : after s.part (s ∷ ss) ≡ ss
    behind =
        cond-false (comes_before s.part s.part) _ _ (not_before s.part s.part (not_before_itself s.part))
        ∙ filter_all (λ (t : Split). comes_before s.part t.part) ss (λ t there. before_is s.part t.part (a.0 t there))
split_among split (s ∷ ss) a (inr there) =
    let first : slice_cmp nat_cmp s.part split.part ≡ Less = a.0 split there in
    let passed : after split.part (s ∷ ss) ≡ after split.part ss
    = cond-false (comes_before split.part s.part) _ _ (not_before split.part s.part (λ before. not_both_ways s.part split.part first before)) in
    let found = split_among split ss a.1 there in
    (s ∷ found.0, ap (λ (ts : List Split). s ∷ ts) (found.1 ∙ ap (λ (ts : List Split). found.0 ++ split ∷ ts) (sym passed)))

-- there is one split of each part
pub same_split : (first second : Split) (ss : List Split) → Ascends PartBefore ss → IsIn first ss → IsIn second ss → first.part ≡ second.part → first ≡ second
same_split first second [] a one other same = absurd one
same_split first second (s ∷ ss) a (inl here) (inl there) same = here ∙ sym there
same_split first second (s ∷ ss) a (inl here) (inr there) same =
    absurd (not_before_itself second.part
    (subst (λ (part : List ℕ). slice_cmp nat_cmp part second.part ≡ Less) (ap (λ (t : Split). t.part) (sym here) ∙ same) (a.0 second there)))
same_split first second (s ∷ ss) a (inr there) (inl here) same =
    absurd (not_before_itself first.part
    (subst (λ (part : List ℕ). slice_cmp nat_cmp part first.part ≡ Less) (ap (λ (t : Split). t.part) (sym here) ∙ sym same) (a.0 first there)))
same_split first second (s ∷ ss) a (inr one) (inr other) same = same_split first second ss a.1 one other same

-- ---- the splits on which lists have their first component

-- each is a split
pub first_within : (tail : Tail) (u : List ℕ) (split : Split) → IsIn split (first_splits tail u) → IsIn split (splits u)
first_within (Components node place) u split there = there
first_within (Elements node element card) u split there = there
first_within (SetElements node element card) u split there = least_within u split there
first_within (CycleElements node element card) u split there = least_within u split there

ascends_left : {X : Type 0} (R : X → X → Type 0) (xs ys : List X) → Ascends R (xs ++ ys) → Ascends R xs
ascends_left R [] ys a = tt
ascends_left R (x ∷ xs) ys a = ((λ y there. a.0 y (in_left y xs ys there)), ascends_left R xs ys a.1)

least_ascend : (u : List ℕ) → Ascends PartBefore (splits u) → Ascends PartBefore (least_splits u)
least_ascend [] a = tt
least_ascend (label ∷ labels) a = ascends_left PartBefore (map (taking label) (splits labels)) (map (leaving label) (filter (begins_above label) (splits labels))) a.1

splits_ascend : (tail : Tail) (u : List ℕ) → Ascends PartBefore (splits u) → Ascends PartBefore (first_splits tail u)
splits_ascend (Components node place) u a = a
splits_ascend (Elements node element card) u a = a
splits_ascend (SetElements node element card) u a = least_ascend u a
splits_ascend (CycleElements node element card) u a = least_ascend u a

ascends_kept : {X : Type 0} (R : X → X → Type 0) (keep : X → Bool) (xs : List X) → Ascends R xs → Ascends R (filter keep xs)
ascends_kept R keep [] a = tt
ascends_kept R keep (x ∷ xs) a = by (keep x) (ascends_kept R keep xs a.1)
  where
    by : (b : Bool) → Ascends R (filter keep xs) → Ascends R (if b then x ∷ filter keep xs else filter keep xs)
    by true others = ((λ y there. a.0 y (from_filter keep y xs there).0), others)
    by false others = others

-- they stand in the order of their parts
pub first_ascend : (tail : Tail) (lengths : List Bool) (u : List ℕ) → Rises u → Ascends PartBefore (first_parts tail lengths u)
first_ascend tail lengths u r = ascends_kept PartBefore (has_admitted lengths) (first_splits tail u) (splits_ascend tail u (splits_are u r).ascends)
