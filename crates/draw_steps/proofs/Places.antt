-- The place of a weight that bits choose.
use Rattle.std.proofs.Common.{◌≡◌, ℕ, zero, suc, ◌+◌, ◌-◌, ◌<◌, ◌≤◌, Bool, true, false, List, [], ◌∷◌, map, length, take, drop, get_or, slice_index_or, nat_lt, refl, sym, ap, ◌∙◌, subst, arith, Option, Some, None}
use Rattle.std.specs.Prelude.{if◌then◌else◌, IfSome, IfNone}
use Rattle.std.specs.Option.{option_and_then, is_some}
use Rattle.std.specs.List.{sum, enumerate_from}
use Rattle.std.proofs.lemmas.Bool.{cond-true, cond-false, lt-ltb, le-ltb, ltb-true}
use Rattle.std.proofs.lemmas.List.{drop_all}
use Rattle.std.proofs.lemmas.Option.{slice_get-get_or}
use Rattle.lists.proofs.Sums.{sum_more}
use Rattle.lists.proofs.Places.{drop_at}
use Rattle.choice_laws.specs.Trees.{Branches, end, step, more_branches, branches_of, total}
use Rattle.choice_laws.specs.Bits.{follow, follow_branch, number_from, block_length, picked_block, picked}
use Rattle.draw_steps.specs.Steps.{by_weight, place_from}

-- the branches to the places from a first one on
abbrev pub from_place : ℕ → List ℕ → Branches ℕ
from_place first weights = branches_of (map (λ p. (p.1, end p.0)) (enumerate_from first weights))

pub total_from : (first : ℕ) (weights : List ℕ) → total (from_place first weights) ≡ sum weights
total_from first [] = refl
total_from first (zero ∷ weights) = total_from (first + 1) weights ∙ sym (sum_more 0 weights ∙ none (sum weights))
  where
    none : (n : ℕ) → 0 + n ≡ n
    none n = omega arith
total_from first (suc w ∷ weights) = ap (λ (n : ℕ). suc w + n) (total_from (first + 1) weights) ∙ sym (sum_more (suc w) weights)

pub branch_from : (first : ℕ) (weights : List ℕ) (value : ℕ) (bits : List Bool) → follow_branch (from_place first weights) value bits ≡ place_from first weights value bits
branch_from first [] value bits = refl
branch_from first (zero ∷ weights) value bits =
    branch_from (first + 1) weights value bits
    ∙ ap (λ (n : ℕ). place_from (first + 1) weights n bits) (let e : value ≡ value - 0 = omega arith in e)
    ∙ sym (cond-false (nat_lt value 0) _ _ (le-ltb value 0 (omega arith)))
branch_from first (suc w ∷ weights) value bits =
    ap (λ o. if nat_lt value (suc w) then Some (first, bits) else o) (branch_from (first + 1) weights (value - suc w) bits)

-- ---- the only weight above 0

-- the weights at the first i places: all are 0, or one alone isn't
abbrev pub Passed : List ℕ → ℕ → Option ℕ → Type 0
Passed weights i None = from_place 0 weights ≡ from_place i (drop i weights)
Passed weights i (Some p) = (w : ℕ) × (slice_index_or weights p 0 ≡ suc w) × (from_place 0 weights ≡ more_branches (suc w) (end p) (from_place i (drop i weights)))

next_drop : (weights : List ℕ) (i other : ℕ) → i < length weights → drop i weights ≡ get_or weights i other ∷ drop (i + 1) weights
next_drop weights i other within = drop_at weights i (get_or weights i other) (slice_get-get_or weights i other within)

without : (weights : List ℕ) (i w other : ℕ) → i < length weights → get_or weights i other ≡ w → w ≡ 0 → from_place i (drop i weights) ≡ from_place (i + 1) (drop (i + 1) weights)
without weights i w other within at none = ap (from_place i) (next_drop weights i other within ∙ ap (λ (n : ℕ). n ∷ drop (i + 1) weights) (at ∙ none))

with : (weights : List ℕ) (i w other : ℕ) → i < length weights → get_or weights i other ≡ suc w
    → from_place i (drop i weights) ≡ more_branches (suc w) (end i) (from_place (i + 1) (drop (i + 1) weights))
with weights i w other within at = ap (from_place i) (next_drop weights i other within ∙ ap (λ (n : ℕ). n ∷ drop (i + 1) weights) at)

pub passed_none : (weights : List ℕ) (i w other : ℕ) (only : Option ℕ) → i < length weights → get_or weights i other ≡ w → w ≡ 0 → Passed weights i only → Passed weights (i + 1) only
passed_none weights i w other None within at none h = h ∙ without weights i w other within at none
passed_none weights i w other (Some p) within at none h = (h.0, h.1, h.2 ∙ ap (more_branches (suc h.0) (end p)) (without weights i w other within at none))

pub passed_some : (weights : List ℕ) (i w : ℕ) (only : Option ℕ) → i < length weights → get_or weights i 0 ≡ w → 0 < w → is_some only ≡ false → Passed weights i only → Passed weights (i + 1) (Some i)
passed_some weights i zero only within at some first h = absurd (omega arith)
passed_some weights i (suc w) None within at some first h = (w, at, h ∙ with weights i w 0 within at)
passed_some weights i (suc w) (Some p) within at some first h = let e : true ≡ false = first in cc

pub two_places : (weights : List ℕ) (i w other : ℕ) (only : Option ℕ) → i < length weights → get_or weights i other ≡ w → 0 < w → is_some only ≡ true → Passed weights i only
    → (bits : List Bool) → follow (by_weight weights) bits ≡ option_and_then (λ p. place_from 0 weights p.0 p.1) (picked (sum weights) bits)
two_places weights i zero other only within at some first h = absurd (omega arith)
two_places weights i (suc w) other None within at some first h = let e : false ≡ true = first in cc
two_places weights i (suc w) other (Some p) within at some first h = λ bits.
    let two : from_place 0 weights ≡ more_branches (suc h.0) (end p) (more_branches (suc w) (end i) (from_place (i + 1) (drop (i + 1) weights)))
    = h.2 ∙ ap (more_branches (suc h.0) (end p)) (with weights i w other within at) in
    ap (λ bs. follow (step bs) bits) two
    ∙ ap (λ (n : ℕ). option_and_then (λ q. follow_branch (more_branches (suc h.0) (end p) (more_branches (suc w) (end i) (from_place (i + 1) (drop (i + 1) weights)))) q.0 q.1) (picked n bits))
    (ap total (sym two) ∙ total_from 0 weights)
    ∙ ap (λ bs. option_and_then (λ q. follow_branch bs q.0 q.1) (picked (sum weights) bits)) (sym two)
    ∙ by (picked (sum weights) bits)
  where
    by : (o : Option (ℕ × List Bool)) → option_and_then (λ q. follow_branch (from_place 0 weights) q.0 q.1) o ≡ option_and_then (λ q. place_from 0 weights q.0 q.1) o
    by None = refl
    by (Some q) = branch_from 0 weights q.0 q.1

-- at the end
pub only_follows : (weights : List ℕ) (i p : ℕ) → length weights ≤ i → Passed weights i (Some p) → (bits : List Bool) → follow (by_weight weights) bits ≡ Some (p, bits)
only_follows weights i p last h bits =
    ap (λ bs. follow (step bs) bits) (h.2 ∙ ap (λ ds. more_branches (suc h.0) (end p) (from_place i ds)) (drop_all i weights last))

pub only_positive : (weights : List ℕ) (i p : ℕ) → Passed weights i (Some p) → 0 < slice_index_or weights p 0
only_positive weights i p h = subst (λ (n : ℕ). 0 < n) (sym h.1) (omega arith)

pub none_left : (weights : List ℕ) (i : ℕ) → length weights ≤ i → 0 < sum weights → Passed weights i None → ⊥
none_left weights i last some h =
    let all : sum weights ≡ 0 = sym (total_from 0 weights) ∙ ap total (h ∙ ap (from_place i) (drop_all i weights last)) in
    omega arith

-- ---- the place of a value

-- behind the first i weights the value that is left leads to the same place
pub record Sought (weights : List ℕ) (value left i : ℕ) : Type 0 where
  pub same : (bits : List Bool) → place_from 0 weights value bits ≡ place_from i (drop i weights) left bits
  pub below : left < sum (drop i weights)

pub sought_next : (weights : List ℕ) (value left i w other : ℕ) → i < length weights → get_or weights i other ≡ w → w ≤ left → Sought weights value left i → Sought weights value (left - w) (i + 1)
sought_next weights value left i w other within at more s =
    let here : drop i weights ≡ w ∷ drop (i + 1) weights = next_drop weights i other within ∙ ap (λ (n : ℕ). n ∷ drop (i + 1) weights) at in
    record {
      same = λ bits. s.same bits ∙ ap (λ ds. place_from i ds left bits) here ∙ cond-false (nat_lt left w) _ _ (le-ltb left w more);
      below = omega (arith, s.below, ap sum here, sum_more w (drop (i + 1) weights));
    }

pub sought_here : (weights : List ℕ) (value left i w other : ℕ) → i < length weights → get_or weights i other ≡ w → left < w → Sought weights value left i
    → (bits : List Bool) → place_from 0 weights value bits ≡ Some (i, bits)
sought_here weights value left i w other within at less s bits =
    let here : drop i weights ≡ w ∷ drop (i + 1) weights = next_drop weights i other within ∙ ap (λ (n : ℕ). n ∷ drop (i + 1) weights) at in
    s.same bits ∙ ap (λ ds. place_from i ds left bits) here ∙ cond-true (nat_lt left w) _ _ (lt-ltb left w less)

pub sought_end : (weights : List ℕ) (value left i : ℕ) → length weights ≤ i → Sought weights value left i → ⊥
sought_end weights value left i last s = let none : sum (drop i weights) ≡ 0 = ap sum (drop_all i weights last) in omega (arith, s.below)

pub only_is : (weights : List ℕ) (i : ℕ) (only : Option ℕ) → length weights ≤ i → Passed weights i only → IfSome only (λ p. (bits : List Bool) → follow (by_weight weights) bits ≡ Some (p, bits))
only_is weights i None last h = tt
only_is weights i (Some p) last h = only_follows weights i p last h

pub only_above : (weights : List ℕ) (i : ℕ) (only : Option ℕ) → Passed weights i only → IfSome only (λ p. 0 < slice_index_or weights p 0)
only_above weights i None h = tt
only_above weights i (Some p) h = only_positive weights i p h

pub not_none : (weights : List ℕ) (i : ℕ) (only : Option ℕ) → length weights ≤ i → 0 < sum weights → Passed weights i only → only ≡ None → ⊥
not_none weights i None last some h same = none_left weights i last some h
not_none weights i (Some p) last some h same = let e : Some p ≡ None = same in cc

pub ends_some : (weights : List ℕ) (i : ℕ) (only : Option ℕ) (P : Type 0) → length weights ≤ i → 0 < sum weights → Passed weights i only → IfNone only P
ends_some weights i None P last some h = absurd (none_left weights i last some h)
ends_some weights i (Some p) P last some h = tt

-- ---- sums and picks

pub total_within : (weights : List ℕ) (i other : ℕ) → i < length weights → sum (take i weights) + get_or weights i other ≤ sum weights
total_within [] i other within = absurd (omega arith)
total_within (w ∷ weights) zero other within = omega (arith, sum_more w weights)
total_within (w ∷ weights) (suc i) other within = omega (arith, sum_more w weights, sum_more w (take i weights), total_within weights i other (omega arith))

-- what is picked is below the bound
block_below : (most k bound : ℕ) (bits : List Bool) (value : ℕ) (after : List Bool) → picked_block most k bound bits ≡ Some (value, after) → value < bound
block_below zero k bound bits value after h = absurd (cc)
block_below (suc most) k bound bits value after h =
    by (nat_lt (length bits) k) (nat_lt (number_from 0 (take k bits)) bound) refl h (block_below most k bound (drop k bits) value after)
  where
    by : (short less : Bool) → nat_lt (number_from 0 (take k bits)) bound ≡ less
        → (if short then None else if less then Some (number_from 0 (take k bits), drop k bits) else picked_block most k bound (drop k bits)) ≡ Some (value, after)
        → (picked_block most k bound (drop k bits) ≡ Some (value, after) → value < bound) → value < bound
    by true less is h later = absurd (cc)
    by false true is h later = let both : ◌≡◌ {A = ℕ × List Bool} (number_from 0 (take k bits), drop k bits) (value, after) = cc in let same : number_from 0 (take k bits) ≡ value = ap (λ (p : ℕ × List Bool). p.0) both in omega (arith, ltb-true (number_from 0 (take k bits)) bound is)
    by false false is h later = later h

pub picked_below : (bound : ℕ) (bits : List Bool) (value : ℕ) (after : List Bool) → picked bound bits ≡ Some (value, after) → value < bound
unfolding picked
picked_below bound bits value after h = block_below (suc (length bits)) (block_length bound) bound bits value after h
