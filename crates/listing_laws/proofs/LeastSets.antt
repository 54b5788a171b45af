-- Labelled lists that are sorted: the component with the least label comes first, and the others are sorted by themselves.
use Rattle.std.proofs.Common.{◌≡◌, ℕ, zero, suc, ◌+◌, ◌≤◌, Bool, true, false, ◌&&◌, nat_lt, List, [], ◌∷◌, ◌++◌, length, refl, sym, ap, ◌∙◌, subst, inl, inr, true≢false, arith}
use Rattle.std.specs.Prelude.{if◌then◌else◌}
use Rattle.std.proofs.lemmas.Bool.{and_parts, and_from}
use Rattle.spec_syntax.specs.declared.statement.Universe.TheVariants.{Labelled}
use Rattle.spec_syntax.specs.declared.expr.Card.{Card}
use Rattle.spec_syntax.specs.Card.{admits}
use Rattle.spec_syntax.specs.Expression.{Expression}
use Rattle.spec_syntax.specs.Grammar.{Grammar}
use Rattle.lists.specs.Ascending.{ascending, ascends_above}
use Rattle.lists.specs.Enumeration.{Enumerated}
use Rattle.lists.proofs.Enumerated as enumerated
use Rattle.lists.proofs.Ascending.{From, AtLeast, Rises, from_ascending, each_left, each_right}
use Rattle.lists.proofs.AscendingAbove.{above_all, rises_above}
use Rattle.struct_model.specs.Structure.{Structure, Structures, no_parts, part_list, parts_of, labels, labels_of_parts, key}
use Rattle.struct_model.specs.Membership.{is_of, are_of, is_supply}
use Rattle.struct_model.specs.Listing.{Before, Lists}
use Rattle.struct_model.proofs.OrderLaws.{order_strict}
use Rattle.count_laws.specs.SortedLists.{MayFollow}
use Rattle.splits.specs.Splits.{Split, taking}
use Rattle.splits.proofs.SplitLaws.{MakesUp, taking_is}
use Rattle.splits.proofs.SplitSupplies.{split_supplies}
use Rattle.listing_laws.specs.Lister.{after_one, admits_some, list_empty}
use Rattle.listing_laws.specs.Laws.{IsNeverEmpty}
use Rattle.listing_laws.specs.LeastFirst.{by_least, list_set}
use Rattle.listing_laws.proofs.Components.{AreWith, list_back}
use Rattle.listing_laws.proofs.OrderFacts.{PartsBefore}
use Rattle.listing_laws.proofs.Repeated.{admits-after, admits_one, split_size}
use Rattle.listing_laws.proofs.SortedParts.{are_sorted, sorted_from, sorted_is}
use Rattle.listing_laws.proofs.LeastFirst.{IsLeastFirst, by_least_are, takes_least, first_or_later, key_begins, lesser_before, none_of_no_label}

-- ---- a sorted list and one component more

module _ (strict : Bool) where
  sorted_more : (s t : Structure) (ss : List Structure) → Before s t → are_sorted strict (t ∷ ss) ≡ true → are_sorted strict (s ∷ t ∷ ss) ≡ true
  sorted_more s t ss before rest = sorted_is strict (s ∷ t ∷ ss) (follows strict, sorted_from strict (t ∷ ss) rest)
    where
      follows : (strict : Bool) → MayFollow strict Before s t
      follows true = before
      follows false = λ after. order_strict.irreflexive s (order_strict.transitive s t s before after)

  not_behind : (s t : Structure) (ss : List Structure) → are_sorted strict (s ∷ t ∷ ss) ≡ true → Before t s → ⊥
  not_behind s t ss sorted behind = by strict (sorted_from strict (s ∷ t ∷ ss) sorted).0
    where
      by : (strict : Bool) → MayFollow strict Before s t → ⊥
      by true before = order_strict.irreflexive s (order_strict.transitive s t s before behind)
      by false not_before = not_before behind

  sorted_less : (s : Structure) (ss : List Structure) → are_sorted strict (s ∷ ss) ≡ true → are_sorted strict ss ≡ true
  sorted_less s [] sorted = sorted_is strict [] tt
  sorted_less s (t ∷ ss) sorted = sorted_is strict (t ∷ ss) (sorted_from strict (s ∷ t ∷ ss) sorted).1

-- ---- on a supply of labels

-- the labels behind the least one are greater
pub others_above : (label : ℕ) (left : List ℕ) (split : Split) → ascends_above label left ≡ true → MakesUp left split → AtLeast (label + 1) split.rest
others_above label left split climbs makes =
    each_right (From (label + 1)) split.part split.rest
    (from_ascending (From (label + 1)) (split.part ++ split.rest) (subst (AtLeast (label + 1)) (sym makes.whole) (above_all label left climbs)))

-- a split of the labels behind the least one, which goes into the part, is one of the supply
pub supplies_least : (label : ℕ) (left : List ℕ) (split : Split) → is_supply Labelled (label ∷ left) ≡ true → AtLeast label left → Rises left → MakesUp left split
    → (is_supply Labelled (label ∷ split.part) ≡ true) × (is_supply Labelled split.rest ≡ true)
supplies_least label left split supplied least risen makes =
    split_supplies Labelled (label ∷ left) supplied (taking label split) (taking_is label left least risen split makes)

pub climbs_from : (label : ℕ) (left : List ℕ) → is_supply Labelled (label ∷ left) ≡ true → ascends_above label left ≡ true
climbs_from label left supplied = (and_parts (nat_lt 0 label) (ascends_above label left) supplied).1

module _ (g : Grammar) (e : Expression) (never_empty : IsNeverEmpty g e) where
  -- the others begin above the least label
  pub others_begin : (low : ℕ) (t : Structure) (ts : List Structure) (u : List ℕ) → is_of g e t ≡ true → AtLeast low u → ascending (labels_of_parts (parts_of (t ∷ ts))) ≡ u
      → (n : ℕ) × (ns : List ℕ) × (key t ≡ n ∷ ns) × (low ≤ n)
  others_begin low t ts u of least same =
      key_begins low t (never_empty t of)
      (each_left (From low) (labels t) (labels_of_parts (parts_of ts))
      (from_ascending (From low) (labels t ++ labels_of_parts (parts_of ts)) (subst (AtLeast low) (sym same) least)))

  module _ (strict : Bool) where
    -- is each component one of the expression, are they sorted, and does their number keep the bound
    abbrev pub are_set : Card → Structures → Bool
    are_set card ps = admits card (length (part_list ps)) && are_sorted strict (part_list ps) && are_of g e ps

    abbrev pub ListsSet : Card → List ℕ → List (List Structure) → Type 0
    ListsSet card u sss = Enumerated PartsBefore (AreWith (are_set card) u) sss

    sorted_back : (ss : List Structure) → are_sorted strict (part_list (parts_of ss)) ≡ are_sorted strict ss
    sorted_back ss = ap (are_sorted strict) (list_back ss)

    -- what is sorted begins with the least label
    least_first : (label : ℕ) (left : List ℕ) (s : Structure) (ss : List Structure) → AtLeast label left → Rises left → are_of g e (parts_of (s ∷ ss)) ≡ true
        → are_sorted strict (s ∷ ss) ≡ true → ascending (labels_of_parts (parts_of (s ∷ ss))) ≡ label ∷ left → (ns : List ℕ) × (key s ≡ label ∷ ns)
    least_first label left s [] least risen of sorted same =
        elim (first_or_later g e never_empty label left s [] least risen (and_parts _ _ of).0 same) [
          | inl first ↦ first
          | inr later ↦ absurd (no_more later.left later.others)
        ]
      where
        no_more : (ns : List ℕ) → [] ≡ label ∷ ns → ⊥
        no_more ns h = cc
    least_first label left s (t ∷ ts) least risen of sorted same =
        let ones = and_parts (is_of g e s) (are_of g e (parts_of (t ∷ ts))) of in
        elim (first_or_later g e never_empty label left s (t ∷ ts) least risen ones.0 same) [
          | inl first ↦ first
          | inr later ↦
              let next = least_first label later.left t ts later.least later.risen ones.1 (sorted_less strict s (t ∷ ts) sorted) later.others in
              absurd (not_behind strict s t ts sorted (lesser_before t s label later.first next.0 later.more next.1 later.key_is later.above))
        ]

    least_sorted : (label : ℕ) (part u : List ℕ) (s : Structure) (ss : List Structure) → key s ≡ label ∷ part → are_of g e (parts_of ss) ≡ true → are_sorted strict ss ≡ true
        → AtLeast (label + 1) u → ascending (labels_of_parts (parts_of ss)) ≡ u → are_sorted strict (s ∷ ss) ≡ true
    least_sorted label part u s [] begins of sorted above same = sorted_is strict (s ∷ []) tt
    least_sorted label part u s (t ∷ ts) begins of sorted above same =
        let next = others_begin (label + 1) t ts u (and_parts (is_of g e t) (are_of g e (parts_of ts)) of).0 above same in
        sorted_more strict s t ts (lesser_before s t label next.0 part next.1 begins next.2 (omega (arith, next.3))) sorted

    set_least_first : (card : Card) (label : ℕ) (left : List ℕ) (least : AtLeast label left) (risen : Rises left) → ascends_above label left ≡ true → admits_some card ≡ true
        → IsLeastFirst g e (are_set (after_one card)) (are_set card) label left least risen
    set_least_first card label left least risen climbs admitted = record {
      some = λ passed same. no_label same;
      joined = λ split s ss makes one others.
          let both = and_parts _ _ others.0 in
          let counted = and_parts _ _ both.0 in
          let sorted = least_sorted label split.part split.rest s ss one.1 both.1 (sym (sorted_back ss) ∙ counted.1) (others_above label left split climbs makes) others.1 in
          and_from _ _ (and_from _ _ (sym (admits-after card (length (part_list (parts_of ss))) admitted) ∙ counted.0) (sorted_back (s ∷ ss) ∙ sorted))
          (and_from _ _ one.0 both.1);
      cut = λ s ss same passed.
          let both = and_parts _ _ passed in
          let counted = and_parts _ _ both.0 in
          let ones = and_parts (is_of g e s) (are_of g e (parts_of ss)) both.1 in
          let sorted : are_sorted strict (s ∷ ss) ≡ true = sym (sorted_back (s ∷ ss)) ∙ counted.1 in
          let first = least_first label left s ss least risen both.1 sorted same in (
            ones.0,
            and_from _ _ (and_from _ _ (admits-after card (length (part_list (parts_of ss))) admitted ∙ counted.0) (sorted_back ss ∙ sorted_less strict s ss sorted)) ones.1,
            takes_least g e never_empty label left s ss least risen first.0 first.1 same,
          );
    }
      where
        no_label : [] ≡ label ∷ left → ⊥
        no_label h = cc

    set_none_only : (card : Card) (ss : List Structure) → AreWith (are_set card) [] ss → ss ≡ []
    set_none_only card ss p = none_of_no_label g e never_empty ss (and_parts _ _ p.0).1 p.1

    -- on no label it is the empty list, where the bound admits that
    empty_set : (card : Card) → ListsSet card [] (list_empty card)
    empty_set card = by (admits card 0) refl
      where
        by : (b : Bool) → admits card 0 ≡ b → ListsSet card [] (if b then [] ∷ [] else [])
        by true admitted = enumerated.one PartsBefore (AreWith (are_set card) []) [] (and_from _ _ (and_from _ _ admitted (sorted_is strict [] tt)) refl, refl) (set_none_only card)
        by false refused = enumerated.none PartsBefore (AreWith (are_set card) []) never
          where
            never : (ss : List Structure) → AreWith (are_set card) [] ss → ⊥
            never ss p =
                let all : are_set card no_parts ≡ true = ap (λ (ts : List Structure). are_set card (parts_of ts)) (sym (set_none_only card ss p)) ∙ p.0 in
                true≢false (sym (and_parts _ _ (and_parts _ _ all).0).0 ∙ refused)

    -- on a label or more there is nothing where the bound admits no component
    none_set : (card : Card) (label : ℕ) (left : List ℕ) → admits_some card ≡ false → ListsSet card (label ∷ left) []
    none_set card label left refused = enumerated.none PartsBefore (AreWith (are_set card) (label ∷ left)) never
      where
        no_label : [] ≡ label ∷ left → ⊥
        no_label h = cc

        never : (ss : List Structure) → AreWith (are_set card) (label ∷ left) ss → ⊥
        never [] p = no_label p.1
        never (s ∷ ss) p = true≢false (sym (admits_one card (length (part_list (parts_of ss))) (and_parts _ _ (and_parts _ _ p.0).0).0) ∙ refused)

    -- the lists of components, where the first ones are listed on each supply
    pub sets_are : (first : List ℕ → List Structure) → ((v : List ℕ) → is_supply Labelled v ≡ true → Lists g e v (first v))
        → (n : ℕ) (card : Card) (u : List ℕ) → is_supply Labelled u ≡ true → length u ≤ n → ListsSet card u (list_set first n card u)
    sets_are first lists n card [] supplied enough = empty_set card
    sets_are first lists zero card (label ∷ left) supplied enough = absurd (omega arith)
    sets_are first lists (suc n) card (label ∷ left) supplied enough =
        by (admits_some card) refl (λ v given fewer. sets_are first lists n (after_one card) v given fewer)
      where
        climbs : ascends_above label left ≡ true
        climbs = climbs_from label left supplied

        risen : Rises (label ∷ left)
        risen = rises_above 0 (label ∷ left) supplied

        by : (b : Bool) → admits_some card ≡ b
            → ((v : List ℕ) → is_supply Labelled v ≡ true → length v ≤ n → ListsSet (after_one card) v (list_set first n (after_one card) v))
            → ListsSet card (label ∷ left) (if b then by_least first (list_set first n (after_one card)) (label ∷ left) else [])
        by true admitted others =
            by_least_are g e (are_set (after_one card)) (are_set card) label left risen.0 risen.1 (set_least_first card label left risen.0 risen.1 climbs admitted)
            first (list_set first n (after_one card))
            (λ split makes. lists (label ∷ split.part) (supplies_least label left split supplied risen.0 risen.1 makes).0)
            (λ split makes.
            others split.rest (supplies_least label left split supplied risen.0 risen.1 makes).1 (omega (arith, split_size left split makes, enough)))
        by false refused others = none_set card label left refused
