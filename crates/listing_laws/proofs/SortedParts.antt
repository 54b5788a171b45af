-- The tests of sorted components.
use Rattle.std.proofs.Common.{◌≡◌, Bool, true, false, not, ◌&&◌, Option, Some, None, List, [], ◌∷◌, refl, sym, ap, ◌∙◌}
use Rattle.std.specs.declared.cmp.Ordering.{Ordering}
use Rattle.std.specs.declared.cmp.Ordering.TheVariants.{Less, Equal, Greater}
use Rattle.std.specs.Ordering.{ordering_reverse, is_lt, is_gt}
use Rattle.std.proofs.lemmas.Bool.{and_parts, and_from}
use Rattle.struct_model.specs.Structure.{Structure}
use Rattle.struct_model.specs.Order.{order, is_sorted, is_strictly_sorted}
use Rattle.struct_model.specs.Listing.{Before}
use Rattle.struct_model.proofs.OrderLaws.{order_total}
use Rattle.count_laws.specs.SortedLists.{MayFollow, EachNext}
use Rattle.listing_laws.specs.SortedListing.{may_follow, follows}

-- do the components ascend, or does none stand after the next one
abbrev pub are_sorted : Bool → List Structure → Bool
are_sorted true ss = is_strictly_sorted ss
are_sorted false ss = is_sorted ss

-- the same with the structure in front, if there is one
abbrev pub are_sorted_from : Bool → Option Structure → List Structure → Bool
are_sorted_from strict None ss = are_sorted strict ss
are_sorted_from strict (Some first) ss = are_sorted strict (first ∷ ss)

less_of : (o : Ordering) → is_lt o ≡ true → o ≡ Less
less_of Less h = refl
less_of Equal h = absurd (cc)
less_of Greater h = absurd (cc)

not_greater : (o : Ordering) → not (is_gt o) ≡ true → ordering_reverse o ≡ Less → ⊥
not_greater Less h e = cc
not_greater Equal h e = cc
not_greater Greater h e = cc

reversed : (o : Ordering) → (ordering_reverse o ≡ Less → ⊥) → not (is_gt o) ≡ true
reversed Less h = refl
reversed Equal h = refl
reversed Greater h = absurd (h refl)

pub follows_from : (strict : Bool) (s t : Structure) → may_follow strict s t ≡ true → MayFollow strict Before s t
follows_from true s t h = less_of (order s t) h
follows_from false s t h = λ before. not_greater (order s t) h (sym (order_total.antisymm t s) ∙ before)

pub follows_is : (strict : Bool) (s t : Structure) → MayFollow strict Before s t → may_follow strict s t ≡ true
follows_is true s t before = ap is_lt before
follows_is false s t follows = reversed (order s t) (λ e. follows (order_total.antisymm t s ∙ e))

pub sorted_cut : (strict : Bool) (s t : Structure) (ss : List Structure) → are_sorted strict (s ∷ t ∷ ss) ≡ (may_follow strict s t && are_sorted strict (t ∷ ss))
sorted_cut true s t ss = refl
sorted_cut false s t ss = refl

pub short_sorted : (strict : Bool) (s : Structure) → are_sorted strict (s ∷ []) ≡ true
short_sorted true s = refl
short_sorted false s = refl

none_sorted : (strict : Bool) → are_sorted strict [] ≡ true
none_sorted true = refl
none_sorted false = refl

pub sorted_from : (strict : Bool) (ss : List Structure) → are_sorted strict ss ≡ true → EachNext (MayFollow strict Before) ss
sorted_from strict [] h = tt
sorted_from strict (s ∷ []) h = tt
sorted_from strict (s ∷ t ∷ ss) h =
    let both = and_parts (may_follow strict s t) (are_sorted strict (t ∷ ss)) (sym (sorted_cut strict s t ss) ∙ h) in
    (follows_from strict s t both.0, sorted_from strict (t ∷ ss) both.1)

pub sorted_is : (strict : Bool) (ss : List Structure) → EachNext (MayFollow strict Before) ss → are_sorted strict ss ≡ true
sorted_is strict [] all = none_sorted strict
sorted_is strict (s ∷ []) all = short_sorted strict s
sorted_is strict (s ∷ t ∷ ss) all = sorted_cut strict s t ss ∙ and_from _ _ (follows_is strict s t all.0) (sorted_is strict (t ∷ ss) all.1)

pub sorted_from_none : (strict : Bool) (from : Option Structure) → are_sorted_from strict from [] ≡ true
sorted_from_none strict None = none_sorted strict
sorted_from_none strict (Some first) = short_sorted strict first

-- the first one follows, and the others go on from it
pub sorted_from_first : (strict : Bool) (from : Option Structure) (s : Structure) (ss : List Structure)
    → are_sorted_from strict from (s ∷ ss) ≡ (follows strict from s && are_sorted_from strict (Some s) ss)
sorted_from_first strict None s ss = refl
sorted_from_first strict (Some first) s ss = sorted_cut strict first s ss
