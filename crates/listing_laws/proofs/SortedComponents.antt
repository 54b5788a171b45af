-- The structures of a Set and of a PowerSet are the sorted lists of components of its element, part by part of the supply.
use Rattle.std.proofs.Common.{◌≡◌, ℕ, zero, suc, ◌<◌, ◌≤◌, Bool, true, false, ◌&&◌, List, [], ◌∷◌, map, filter, length, refl, sym, ap, ◌∙◌, true≢false, arith, Option, Some, None}
use Rattle.std.specs.Prelude.{if◌then◌else◌, IsTrue}
use Rattle.std.proofs.lemmas.Bool.{and_parts, and_from}
use Rattle.spec_syntax.specs.declared.expr.Card.{Card}
use Rattle.spec_syntax.specs.declared.expr.Kind.{Kind}
use Rattle.spec_syntax.specs.declared.expr.Kind.TheVariants as kind
use Rattle.spec_syntax.specs.Card.{admits}
use Rattle.spec_syntax.specs.Expression as expr
use Rattle.spec_syntax.specs.Expression.{Expression}
use Rattle.spec_syntax.specs.Rules.{all_nodes, is_spec}
use Rattle.spec_syntax.specs.Grammar.{Grammar}
use Rattle.lists.specs.Enumeration.{IsIn, Enumerated}
use Rattle.lists.proofs.Ascending.{Rises}
use Rattle.lists.proofs.Enumerated as enumerated
use Rattle.lists.proofs.FlatMaps.{same_made}
use Rattle.struct_model.specs.declared.tree.Form5.TheVariants as form
use Rattle.struct_model.specs.Structure.{Structure, Tup, Structures, part_list, parts_of}
use Rattle.struct_model.specs.Membership.{is_of, are_of, supply, is_supply}
use Rattle.struct_model.specs.Bounded.{listing}
use Rattle.struct_model.specs.Listing.{Before, IsOne, Lists}
use Rattle.struct_model.proofs.SupplyLaws.{supply_is, supply_rises}
use Rattle.well_founded.specs.WellFounded.{IsWellFounded}
use Rattle.splits.specs.Splits.{Split}
use Rattle.splits.specs.Parts.{parts}
use Rattle.splits.proofs.SplitSupplies.{split_supplies}
use Rattle.listing_laws.specs.Lister.{each_going_on, after_one, admits_some, list_empty}
use Rattle.listing_laws.specs.Laws.{IsNeverEmpty}
use Rattle.listing_laws.specs.Relabelled.{relabelled}
use Rattle.listing_laws.specs.SetListing.{set, power_set}
use Rattle.listing_laws.specs.SortedListing.{follows, by_following, list_sorted, sorted_on, SortedListingsRecur}
use Rattle.listing_laws.proofs.Components.{AreWith, OneWith, IsBuilt, by_chosen_are, IsTogether, together_are}
use Rattle.listing_laws.proofs.OrderFacts.{PartsBefore}
use Rattle.listing_laws.proofs.Ranked.{child_at, element_full}
use Rattle.listing_laws.proofs.Recursion.{alike, alike_together, fewer_left, well_founded_is_listed}
use Rattle.listing_laws.proofs.Repeated.{MakesBetween, parts_are, has_some, rest_is_less, admits-after, are_repeated, some_label, some_size, none_only, none_repeated, empty_repeated}
use Rattle.listing_laws.proofs.SortedParts.{are_sorted_from, sorted_from_none, sorted_from_first}

module _ (g : Grammar) (e : Expression) (strict : Bool) where
  -- does the number of components keep the bound, are they sorted behind the structure in front, and is each one of the expression
  abbrev pub are_going_on : Option Structure → Card → Structures → Bool
  are_going_on from card ps = admits card (length (part_list ps)) && are_sorted_from strict from (part_list ps) && are_of g e ps

  abbrev pub ListsGoingOn : Option Structure → Card → List ℕ → List (List Structure) → Type 0
  ListsGoingOn from card u sss = Enumerated PartsBefore (AreWith (are_going_on from card) u) sss

  abbrev may_be_first : Option Structure → Structure → Bool
  may_be_first from s = is_of g e s && follows strict from s

  one_more : (from : Option Structure) (card : Card) → admits_some card ≡ true
      → IsBuilt (may_be_first from) (λ s. are_going_on (Some s) (after_one card)) (are_going_on from card)
  one_more from card admitted = record {
    joined = λ s ps first others.
        let both = and_parts _ _ others in
        let counted = and_parts (admits (after_one card) (length (part_list ps))) (are_sorted_from strict (Some s) (part_list ps)) both.0 in
        let one = and_parts (is_of g e s) (follows strict from s) first in
        and_from _ _
        (and_from _ _ (sym (admits-after card (length (part_list ps)) admitted) ∙ counted.0) (sorted_from_first strict from s (part_list ps) ∙ and_from _ _ one.1 counted.1))
        (and_from _ _ one.0 both.1);
    cut = λ s ps all.
        let both = and_parts _ _ all in
        let counted = and_parts (admits card (suc (length (part_list ps)))) (are_sorted_from strict from (s ∷ part_list ps)) both.0 in
        let ones = and_parts (is_of g e s) (are_of g e ps) both.1 in
        let sorted = and_parts (follows strict from s) (are_sorted_from strict (Some s) (part_list ps)) (sym (sorted_from_first strict from s (part_list ps)) ∙ counted.1) in
        (and_from _ _ ones.0 sorted.0, and_from _ _ (and_from _ _ (admits-after card (length (part_list ps)) admitted ∙ counted.0) sorted.1) ones.1);
  }

  -- they are also components of a Sequence
  unsorted : (from : Option Structure) (card : Card) (u : List ℕ) (ss : List Structure) → AreWith (are_going_on from card) u ss → AreWith (are_repeated g e card) u ss
  unsorted from card u ss p =
      let both = and_parts _ _ p.0 in
      (and_from _ _ (and_parts (admits card (length (part_list (parts_of ss)))) (are_sorted_from strict from (part_list (parts_of ss))) both.0).0 both.1, p.1)

  none_going_on : (from : Option Structure) (card : Card) (u : List ℕ) → 0 < length u → admits_some card ≡ false → ListsGoingOn from card u []
  none_going_on from card u some refused =
      enumerated.none PartsBefore (AreWith (are_going_on from card) u) (λ ss p. (none_repeated g e card u some refused).complete ss (unsorted from card u ss p))

  module _ (never_empty : IsNeverEmpty g e) where
    -- no components are sorted
    empty_going_on : (from : Option Structure) (card : Card) → ListsGoingOn from card [] (list_empty card)
    empty_going_on from card =
        enumerated.same_property PartsBefore (AreWith (are_repeated g e card) []) (AreWith (are_going_on from card) []) (list_empty card) (empty_repeated g e never_empty card)
        to (unsorted from card [])
      where
        to : (ss : List Structure) → AreWith (are_repeated g e card) [] ss → AreWith (are_going_on from card) [] ss
        to ss p =
            let both = and_parts (admits card (length (part_list (parts_of ss)))) (are_of g e (parts_of ss)) p.0 in
            let sorted : are_sorted_from strict from (part_list (parts_of ss)) ≡ true
            = ap (λ (ts : List Structure). are_sorted_from strict from (part_list (parts_of ts))) (none_only g e never_empty card ss p) ∙ sorted_from_none strict from in
            (and_from _ _ (and_from _ _ both.0 sorted) both.1, p.1)

    -- on a label or more, where the bound admits a component, they go part by part of the supply
    some_going_on : (from : Option Structure) (card : Card) (u : List ℕ) (first : List ℕ → List Structure) (others : Structure → List ℕ → List (List Structure))
        → Rises u → 0 < length u → admits_some card ≡ true
        → ((split : Split) → MakesBetween 1 (length u) u split → Lists g e split.part (first split.part))
        → ((split : Split) → MakesBetween 1 (length u) u split → (s : Structure) → ListsGoingOn (Some s) (after_one card) split.rest (others s split.rest))
        → ListsGoingOn from card u (by_following strict from first others u)
    some_going_on from card u first others rises some admitted f o =
        by_chosen_are (may_be_first from) (λ s. are_going_on (Some s) (after_one card)) (are_going_on from card) (one_more from card admitted)
        u (MakesBetween 1 (length u) u) (parts 1 (length u) u) (λ v. filter (follows strict from) (first v)) others
        (record {
          listed = parts_are 1 (length u) u rises;
          makes = λ split m. m.0;
          each = λ split s makes one. (makes, has_some u split makes (some_size g e never_empty split.part s ((and_parts (is_of g e s) (follows strict from s) one.0).0, one.1)));
        })
        (none_there u some)
        (λ split m. enumerated.same_property Before (λ s. IsOne g e split.part s × (follows strict from s ≡ true)) (OneWith (may_be_first from) split.part)
        (filter (follows strict from) (first split.part))
        (enumerated.filtered Before (IsOne g e split.part) (follows strict from) (first split.part) (f split m))
        (λ s p. (and_from _ _ p.0.0 p.1, p.0.1))
        (λ s p. let both = and_parts (is_of g e s) (follows strict from s) p.0 in ((both.0, p.1), both.1)))
        (λ split m s one. o split m s)
      where
        none_there : (v : List ℕ) → 0 < length v → AreWith (are_going_on from card) v [] → ⊥
        none_there [] more p = omega (arith, more)
        none_there (label ∷ ls) more p = some_label g e label ls p.1

    -- the sorted lists of components, where the first ones are listed on each supply
    going_on_are : (first : List ℕ → List Structure) → ((v : List ℕ) → is_supply g.universe v ≡ true → Lists g e v (first v))
        → (n : ℕ) (card : Card) (from : Option Structure) (u : List ℕ) → is_supply g.universe u ≡ true → length u ≤ n
        → ListsGoingOn from card u (list_sorted strict first n card from u)
    going_on_are first lists n card from [] supplied enough = empty_going_on from card
    going_on_are first lists zero card from (label ∷ ls) supplied enough = absurd (omega arith)
    going_on_are first lists (suc n) card from (label ∷ ls) supplied enough =
        by (admits_some card) refl (λ s v given fewer. going_on_are first lists n (after_one card) (Some s) v given fewer)
      where
        by : (b : Bool) → admits_some card ≡ b
            → ((s : Structure) (v : List ℕ) → is_supply g.universe v ≡ true → length v ≤ n → ListsGoingOn (Some s) (after_one card) v (list_sorted strict first n (after_one card) (Some s) v))
            → ListsGoingOn from card (label ∷ ls) (if b then by_following strict from first (λ s. list_sorted strict first n (after_one card) (Some s)) (label ∷ ls) else [])
        by true admitted others =
            some_going_on from card (label ∷ ls) first (λ s. list_sorted strict first n (after_one card) (Some s)) (supply_rises g.universe (label ∷ ls) supplied) (omega arith) admitted
            (λ split m. lists split.part (split_supplies g.universe (label ∷ ls) supplied split m.0).0)
            (λ split m s.
            others s split.rest (split_supplies g.universe (label ∷ ls) supplied split m.0).1 (omega (arith, rest_is_less (label ∷ ls) split m, enough)))
        by false refused others = none_going_on from card (label ∷ ls) (omega arith) refused

-- ---- put together

module _ (g : Grammar) (e : Expression) (card : Card) where
  pub set_together : IsTogether g form.Set (expr.Many kind.Set e card) (are_going_on g e false None card)
  set_together = record { passes = λ ps. refl; is_list = is_list }
    where
      is_list : (s : Structure) → is_of g (expr.Many kind.Set e card) s ≡ true → (ps : Structures) × (s ≡ Tup form.Set ps)
      is_list (Tup form.Set ps) of = (ps, refl)
      is_list s of = absurd (true≢false (sym of))

  pub power_set_together : IsTogether g form.PowerSet (expr.Many kind.PowerSet e card) (are_going_on g e true None card)
  power_set_together = record { passes = λ ps. refl; is_list = is_list }
    where
      is_list : (s : Structure) → is_of g (expr.Many kind.PowerSet e card) s ≡ true → (ps : Structures) × (s ≡ Tup form.PowerSet ps)
      is_list (Tup form.PowerSet ps) of = (ps, refl)
      is_list s of = absurd (true≢false (sym of))

-- ---- the recursion

same_going_on : (strict : Bool) (from : Option Structure) (first : List ℕ → List Structure) (others also : Structure → List ℕ → List (List Structure)) (u : List ℕ)
    → ((s : Structure) (v : List ℕ) → length v < length u → others s v ≡ also s v) → by_following strict from first others u ≡ by_following strict from first also u
same_going_on strict from first others also u same =
    same_made (λ (split : Split). each_going_on (filter (follows strict from) (first split.part)) (λ s. others s split.rest))
    (λ (split : Split). each_going_on (filter (follows strict from) (first split.part)) (λ s. also s split.rest)) (parts 1 (length u) u)
    (λ split there.
    same_made (λ (s : Structure). map (λ rest. s ∷ rest) (others s split.rest)) (λ (s : Structure). map (λ rest. s ∷ rest) (also s split.rest))
    (filter (follows strict from) (first split.part))
    (λ s within. ap (map (λ rest. s ∷ rest)) (same s split.rest (fewer_left u split there))))

-- how many components may come at most doesn't matter, where it is no less than the labels
enough_sorted : (strict : Bool) (first : List ℕ → List Structure) (n m : ℕ) (card : Card) (from : Option Structure) (u : List ℕ) → length u ≤ n → length u ≤ m
    → list_sorted strict first n card from u ≡ list_sorted strict first m card from u
enough_sorted strict first n m card from [] h k = refl
enough_sorted strict first zero m card from (label ∷ ls) h k = absurd (omega arith)
enough_sorted strict first (suc n) zero card from (label ∷ ls) h k = absurd (omega arith)
enough_sorted strict first (suc n) (suc m) card from (label ∷ ls) h k =
    ap (λ (some : List (List Structure)). if admits_some card then some else [])
    (same_going_on strict from first (λ s. list_sorted strict first n (after_one card) (Some s)) (λ s. list_sorted strict first m (after_one card) (Some s)) (label ∷ ls)
    (λ s v fewer. enough_sorted strict first n m (after_one card) (Some s) v (omega (arith, fewer, h)) (omega (arith, fewer, k))))

pub going_on : (g : Grammar) (e : Expression) (strict : Bool) (card : Card) (from : Option Structure) (u : List ℕ) → 0 < length u
    → sorted_on g e strict card from u
    ≡ (if admits_some card then by_following strict from (listing g e) (λ s. sorted_on g e strict (after_one card) (Some s)) u else [])
going_on g e strict card from [] some = absurd (omega arith)
going_on g e strict card from (label ∷ ls) some =
    ap (λ (some : List (List Structure)). if admits_some card then some else [])
    (same_going_on strict from (listing g e) (λ s. list_sorted strict (listing g e) (length ls) (after_one card) (Some s)) (λ s. sorted_on g e strict (after_one card) (Some s)) (label ∷ ls)
    (λ s v fewer. enough_sorted strict (listing g e) (length ls) (length v) (after_one card) (Some s) v (omega (arith, fewer)) (omega arith)))

-- ---- the law

module _ (g : Grammar) (spec : IsTrue (is_spec g.rules)) (founded : IsWellFounded g) (e : Expression) where
  pub sorted_lists : (kind : Kind) (card : Card) → IsIn (expr.Many kind e card) (all_nodes g.rules) → (strict : Bool) (from : Option Structure) (other : Card) (u : List ℕ)
      → is_supply g.universe u ≡ true → ListsGoingOn g e strict from other u (sorted_on g e strict other from u)
  sorted_lists kind card there strict from other u supplied =
      let is_listing = well_founded_is_listed.nodes g e spec founded (child_at g.rules (expr.Many kind e card) [] e [] there refl) in
      going_on_are g e strict (element_full g kind e card founded.no_null_elements there) (listing g e) is_listing.lists (length u) other from u supplied (omega arith)

  module _ (card other : Card) where
    sets : (u : List ℕ) → IsIn (expr.Many kind.Set e card) (all_nodes g.rules) → is_supply g.universe u ≡ true
        → listing g (expr.Many kind.Set e other) u ≡ map set (sorted_on g e false other None u)
    sets u there supplied =
        sym ((well_founded_is_listed.containers g kind.Set kind.Set e card other spec founded there).only u (map set (sorted_on g e false other None u)) supplied
        (together_are g form.Set (expr.Many kind.Set e other) (are_going_on g e false None other) (set_together g e other) u (sorted_on g e false other None u)
        (sorted_lists kind.Set card there false None other u supplied)))

    power_sets : (u : List ℕ) → IsIn (expr.Many kind.PowerSet e card) (all_nodes g.rules) → is_supply g.universe u ≡ true
        → listing g (expr.Many kind.PowerSet e other) u ≡ map power_set (sorted_on g e true other None u)
    power_sets u there supplied =
        sym ((well_founded_is_listed.containers g kind.PowerSet kind.PowerSet e card other spec founded there).only u (map power_set (sorted_on g e true other None u)) supplied
        (together_are g form.PowerSet (expr.Many kind.PowerSet e other) (are_going_on g e true None other) (power_set_together g e other) u (sorted_on g e true other None u)
        (sorted_lists kind.PowerSet card there true None other u supplied)))

    alike_sets : (u : List ℕ) → IsIn (expr.Many kind.Set e card) (all_nodes g.rules) → is_supply g.universe u ≡ true
        → sorted_on g e false other None u ≡ map (map (relabelled u)) (sorted_on g e false other None (supply g.universe (length u)))
    alike_sets u there supplied =
        let many : Expression = expr.Many kind.Set e other in
        let first : List ℕ = supply g.universe (length u) in
        alike_together form.Set u (listing g many u) (listing g many first) (sorted_on g e false other None u) (sorted_on g e false other None first)
        (alike g many u supplied (well_founded_is_listed.containers g kind.Set kind.Set e card other spec founded there))
        (sets u there supplied) (sets first there (supply_is g.universe (length u)))

    alike_power_sets : (u : List ℕ) → IsIn (expr.Many kind.PowerSet e card) (all_nodes g.rules) → is_supply g.universe u ≡ true
        → sorted_on g e true other None u ≡ map (map (relabelled u)) (sorted_on g e true other None (supply g.universe (length u)))
    alike_power_sets u there supplied =
        let many : Expression = expr.Many kind.PowerSet e other in
        let first : List ℕ = supply g.universe (length u) in
        alike_together form.PowerSet u (listing g many u) (listing g many first) (sorted_on g e true other None u) (sorted_on g e true other None first)
        (alike g many u supplied (well_founded_is_listed.containers g kind.PowerSet kind.PowerSet e card other spec founded there))
        (power_sets u there supplied) (power_sets first there (supply_is g.universe (length u)))

pub sorted_listings_recur : SortedListingsRecur
sorted_listings_recur = record {
  sets = λ g e card other u spec founded there supplied. sets g spec founded e card other u there supplied;
  power_sets = λ g e card other u spec founded there supplied. power_sets g spec founded e card other u there supplied;
  empty = λ g e strict card from. refl;
  going_on = going_on;
  alike_sets = λ g e card other u spec founded there supplied. alike_sets g spec founded e card other u there supplied;
  alike_power_sets = λ g e card other u spec founded there supplied. alike_power_sets g spec founded e card other u there supplied;
}
