-- Which components may follow a component, and by which there is nothing.
use Rattle.std.proofs.Common.{◌≡◌, ℕ, suc, ◌+◌, ◌<◌, ◌≤◌, nat_le, Bool, true, false, ◌&&◌, List, [], ◌∷◌, ◌++◌, map, filter, flat_map, length, replicate, refl, sym, ap, ◌∙◌, subst, inl, inr, arith, Option, Some, IsTrue, Less, nat_cmp}
use Rattle.std.specs.Prelude.{if◌then◌else◌}
use Rattle.std.specs.Cmp.Lexicographic.{slice_cmp}
use Rattle.std.specs.List.{range_with_len}
use Rattle.std.proofs.lemmas.Bool.{and_parts, and_from, false_from_ne_true}
use Rattle.std.proofs.lemmas.Bool.Decides.{nat_tests}
use Rattle.std.proofs.lemmas.List.{length-replicate}
use Rattle.std.proofs.lemmas.List.Elements.{filter-append}
use Rattle.std.proofs.lemmas.List.Folds.{flat_map-map}
use Rattle.lists.specs.Enumeration.{IsIn, Ascends}
use Rattle.lists.proofs.Filters.{filter_all, filter_none}
use Rattle.lists.proofs.Enumerated.{from_map}
use Rattle.lists.proofs.Places.{is_empty}
use Rattle.lists.proofs.RangeSums.{in_range}
use Rattle.lists.proofs.Within.{in_right}
use Rattle.spec_syntax.specs.declared.statement.Universe.TheVariants.{Unlabelled}
use Rattle.spec_syntax.specs.declared.expr.Card.{Card}
use Rattle.spec_syntax.specs.declared.expr.Kind.{Kind}
use Rattle.spec_syntax.specs.Card.{admits}
use Rattle.spec_syntax.specs.Expression as expr
use Rattle.spec_syntax.specs.Expression.{Expression}
use Rattle.spec_syntax.specs.Rules.{all_nodes, is_spec}
use Rattle.spec_syntax.specs.Grammar.{Grammar}
use Rattle.struct_model.specs.Structure.{Structure, part_list, parts_of, key}
use Rattle.struct_model.specs.Membership.{supply, is_supply}
use Rattle.struct_model.specs.Bounded.{listing}
use Rattle.struct_model.specs.Listing.{Before}
use Rattle.struct_model.proofs.OrderLaws.{order_strict}
use Rattle.well_founded.specs.WellFounded.{IsWellFounded}
use Rattle.splits.specs.Splits.{Split}
use Rattle.splits.specs.Parts.{has_length, parts}
use Rattle.splits.proofs.ZeroSplits.{of_zeros, splits-replicate}
use Rattle.listing_laws.specs.Lister.{each_going_on, after_one, admits_some}
use Rattle.listing_laws.specs.Laws.{IsListing}
use Rattle.listing_laws.specs.SortedListing.{may_follow, follows, sorted_on}
use Rattle.listing_laws.specs.Followers.{following, by_sizes, FollowersAreListed}
use Rattle.listing_laws.proofs.Components.{AreWith}
use Rattle.listing_laws.proofs.Listed.{listing_sound}
use Rattle.listing_laws.proofs.OrderFacts.{before_by_key}
use Rattle.listing_laws.proofs.SortedComponents.{are_going_on, ListsGoingOn, sorted_lists, going_on}
use Rattle.listing_laws.proofs.SortedParts.{are_sorted, are_sorted_from, sorted_cut, short_sorted, follows_from, follows_is}

-- ---- by the order

not_both : (s t : Structure) → Before s t → Before t s → ⊥
not_both s t before after = order_strict.irreflexive s (order_strict.transitive s t s before after)

-- what comes after a structure may follow it
later_follows : (strict : Bool) (s t : Structure) → Before s t → may_follow strict s t ≡ true
later_follows true s t before = follows_is true s t before
later_follows false s t before = follows_is false s t (not_both s t before)

-- and what comes before it may not
earlier_stays : (strict : Bool) (s t : Structure) → Before t s → may_follow strict s t ≡ false
earlier_stays true s t before = false_from_ne_true (may_follow true s t) (λ h. not_both t s before (follows_from true s t h))
earlier_stays false s t before = false_from_ne_true (may_follow false s t) (λ h. follows_from false s t h before)

repeats : (s : Structure) → may_follow false s s ≡ true
repeats s = follows_is false s s (order_strict.irreflexive s)

no_repeat : (s : Structure) → may_follow true s s ≡ false
no_repeat s = false_from_ne_true (may_follow true s s) (λ h. order_strict.irreflexive s (follows_from true s s h))

-- what may follow one structure may follow each earlier one
follows_earlier : (strict : Bool) (s t x : Structure) → Before s t → may_follow strict t x ≡ true → may_follow strict s x ≡ true
follows_earlier true s t x before h = follows_is true s x (order_strict.transitive s t x before (follows_from true t x h))
follows_earlier false s t x before h = follows_is false s x (λ after. follows_from false t x h (order_strict.transitive x s t after before))

-- ---- in a listing

module _ (g : Grammar) (e : Expression) (strict : Bool) (from : Structure) (u : List ℕ) where
  none_lesser : slice_cmp nat_cmp u (key from) ≡ Less → following g e strict from u ≡ []
  none_lesser less = filter_none (follows strict (Some from)) (listing g e u) (λ s there.
      earlier_stays strict from s (before_by_key s from (ap (λ (ls : List ℕ). slice_cmp nat_cmp ls (key from)) (listing_sound g e u s there).1 ∙ less)))

  all_greater : slice_cmp nat_cmp (key from) u ≡ Less → following g e strict from u ≡ listing g e u
  all_greater less = filter_all (follows strict (Some from)) (listing g e u) (λ s there.
      later_follows strict from s (before_by_key from s (ap (slice_cmp nat_cmp (key from)) (listing_sound g e u s there).1 ∙ less)))

module _ {X : Type 0} (R : X → X → Type 0) where
  ascends_behind : (xs ys : List X) → Ascends R (xs ++ ys) → Ascends R ys
  ascends_behind [] ys a = a
  ascends_behind (x ∷ xs) ys a = ascends_behind xs ys a.1

  ascends_between : (xs ys : List X) → Ascends R (xs ++ ys) → (x : X) → IsIn x xs → (y : X) → IsIn y ys → R x y
  ascends_between [] ys a x here y there = absurd here
  ascends_between (z ∷ xs) ys a x (inl same) y there = subst (λ (w : X). R w y) (sym same) (a.0 y (in_right y xs ys there))
  ascends_between (z ∷ xs) ys a x (inr here) y there = ascends_between xs ys a.1 x here y there

module _ (from : Structure) (earlier later : List Structure) (ascends : Ascends Before (earlier ++ from ∷ later)) where
  -- of those before it none may follow
  cut_off : (strict : Bool) → filter (may_follow strict from) (earlier ++ from ∷ later) ≡ filter (may_follow strict from) (from ∷ later)
  cut_off strict =
      filter-append (may_follow strict from) earlier (from ∷ later)
      ∙ ap (λ (ss : List Structure). ss ++ filter (may_follow strict from) (from ∷ later))
      (filter_none (may_follow strict from) earlier (λ s there.
      earlier_stays strict from s (ascends_between Before earlier (from ∷ later) ascends s there from (inl refl))))

  all_later : (strict : Bool) → filter (may_follow strict from) later ≡ later
  all_later strict = filter_all (may_follow strict from) later (λ s there. later_follows strict from s ((ascends_behind Before earlier (from ∷ later) ascends).0 s there))

  with_it : filter (may_follow false from) (earlier ++ from ∷ later) ≡ from ∷ later
  with_it =
      cut_off false ∙ ap (λ (b : Bool). if b then from ∷ filter (may_follow false from) later else filter (may_follow false from) later) (repeats from)
      ∙ ap (λ (ss : List Structure). from ∷ ss) (all_later false)

  without_it : filter (may_follow true from) (earlier ++ from ∷ later) ≡ later
  without_it =
      cut_off true ∙ ap (λ (b : Bool). if b then from ∷ filter (may_follow true from) later else filter (may_follow true from) later) (no_repeat from)
      ∙ all_later true

ascends_cut : (g : Grammar) (e : Expression) (from : Structure) (u : List ℕ) (earlier later : List Structure) → IsListing g e → is_supply g.universe u ≡ true
    → listing g e u ≡ earlier ++ from ∷ later → Ascends Before (earlier ++ from ∷ later)
ascends_cut g e from u earlier later is_listing supplied cut = subst (Ascends Before) cut (is_listing.lists u supplied).ascends

-- ---- dead ends

sorted_earlier : (strict : Bool) (s t : Structure) (ss : List Structure) → Before s t → are_sorted strict (t ∷ ss) ≡ true → are_sorted strict (s ∷ ss) ≡ true
sorted_earlier strict s t [] before h = short_sorted strict s
sorted_earlier strict s t (x ∷ ss) before h =
    let both = and_parts (may_follow strict t x) (are_sorted strict (x ∷ ss)) (sym (sorted_cut strict t x ss) ∙ h) in
    sorted_cut strict s x ss ∙ and_from _ _ (follows_earlier strict s t x before both.0) both.1

-- what goes on from one structure goes on from each earlier one
going_on_earlier : (g : Grammar) (e : Expression) (strict : Bool) (card : Card) (s t : Structure) (u : List ℕ) (ss : List Structure) → Before s t
    → AreWith (are_going_on g e strict (Some t) card) u ss → AreWith (are_going_on g e strict (Some s) card) u ss
going_on_earlier g e strict card s t u ss before p =
    let both = and_parts _ _ p.0 in
    let counted = and_parts (admits card (length (part_list (parts_of ss)))) (are_sorted_from strict (Some t) (part_list (parts_of ss))) both.0 in
    (and_from _ _ (and_from _ _ counted.0 (sorted_earlier strict s t (part_list (parts_of ss)) before counted.1)) both.1, p.1)

dead_ends : (g : Grammar) (kind : Kind) (e : Expression) (card other : Card) (strict : Bool) (s t : Structure) (u : List ℕ) → IsTrue (is_spec g.rules) → IsWellFounded g
    → IsIn (expr.Many kind e card) (all_nodes g.rules) → is_supply g.universe u ≡ true → Before s t
    → sorted_on g e strict other (Some s) u ≡ [] → sorted_on g e strict other (Some t) u ≡ []
dead_ends g kind e card other strict s t u spec founded there supplied before none =
    is_empty (sorted_on g e strict other (Some t) u) (λ ss within.
    subst (IsIn ss) none ((lists s).complete ss (going_on_earlier g e strict other s t u ss before ((lists t).sound ss within))))
  where
    lists : (from : Structure) → ListsGoingOn g e strict (Some from) other u (sorted_on g e strict other (Some from) u)
    lists from = sorted_lists g spec founded e kind card there strict (Some from) other u supplied

-- ---- sizes

long_enough : (n k l : ℕ) → l ≡ k → 1 ≤ k → k < 1 + n → (nat_le 1 l && nat_le l n) ≡ true
long_enough n k l same low high = grind (arith, nat_tests)

-- the parts of zeros that have one are told by their number
zero_parts : (n : ℕ) → parts 1 n (replicate n 0) ≡ map (of_zeros n) (range_with_len 1 n)
zero_parts n =
    ap (filter (has_length 1 n)) (splits-replicate n ∙ ap (λ (k : ℕ). map (of_zeros n) (range_with_len 0 k)) (next n))
    ∙ filter_all (has_length 1 n) (map (of_zeros n) (range_with_len 1 n)) each
  where
    next : (n : ℕ) → n + 1 ≡ suc n
    next n = omega arith

    each : (split : Split) → IsIn split (map (of_zeros n) (range_with_len 1 n)) → has_length 1 n split ≡ true
    each split there =
        let found = from_map (of_zeros n) split (range_with_len 1 n) there in
        let between = in_range found.0 1 n found.1 in
        ap (has_length 1 n) found.2 ∙ long_enough n found.0 (length (replicate {A = ℕ} found.0 0)) (length-replicate {A = ℕ} found.0 0) between.0 between.1

module _ (g : Grammar) (e : Expression) (strict : Bool) (card : Card) (from : Option Structure) where
  abbrev on_split : Split → List (List Structure)
  on_split split = each_going_on (filter (follows strict from) (listing g e split.part)) (λ s. sorted_on g e strict (after_one card) (Some s) split.rest)

  sizes_are : (n : ℕ) → 0 < n → sorted_on g e strict card from (supply Unlabelled n) ≡ (if admits_some card then by_sizes g e strict card from n else [])
  sizes_are n some =
      let size_is : length (supply Unlabelled n) ≡ n = length-replicate {A = ℕ} n 0 in
      going_on g e strict card from (supply Unlabelled n) (omega arith)
      ∙ ap (λ (some : List (List Structure)). if admits_some card then some else [])
      (ap (λ (k : ℕ). flat_map on_split (parts 1 k (supply Unlabelled n))) size_is ∙ ap (flat_map on_split) (zero_parts n) ∙ flat_map-map on_split (of_zeros n) (range_with_len 1 n))

pub followers_are_listed : FollowersAreListed
followers_are_listed = record {
  none_lesser = none_lesser;
  all_greater = all_greater;
  from_itself = λ g e from u earlier later is_listing supplied cut.
      ap (filter (may_follow false from)) cut ∙ with_it from earlier later (ascends_cut g e from u earlier later is_listing supplied cut);
  behind_itself = λ g e from u earlier later is_listing supplied cut.
      ap (filter (may_follow true from)) cut ∙ without_it from earlier later (ascends_cut g e from u earlier later is_listing supplied cut);
  dead_ends = dead_ends;
  size_by_size = sizes_are;
}
