-- Labelled cycles: the list that is its least rotation begins with the component that has the least label.
use Rattle.std.proofs.Common.{◌≡◌, ℕ, zero, suc, ◌+◌, ◌<◌, ◌≤◌, Bool, true, false, ◌&&◌, nat_lt, List, [], ◌∷◌, ◌++◌, length, take, drop, append-nil, refl, sym, ap, ◌∙◌, subst, inl, inr, true≢false, arith, Less}
use Rattle.std.specs.Prelude.{if◌then◌else◌}
use Rattle.std.specs.declared.cmp.Ordering.{Ordering}
use Rattle.std.specs.declared.cmp.Ordering.TheVariants.{Equal, Greater}
use Rattle.std.specs.Ordering.{ordering_then, ordering_reverse}
use Rattle.std.proofs.lemmas.Bool.{and_parts, and_from, lt-ltb}
use Rattle.spec_syntax.specs.declared.statement.Universe.TheVariants.{Labelled}
use Rattle.spec_syntax.specs.declared.expr.Card.{Card}
use Rattle.spec_syntax.specs.Card.{admits}
use Rattle.spec_syntax.specs.Expression.{Expression}
use Rattle.spec_syntax.specs.Grammar.{Grammar}
use Rattle.lists.specs.Ascending.{ascending, ascends_above}
use Rattle.lists.specs.Enumeration.{Enumerated}
use Rattle.lists.proofs.Enumerated as enumerated
use Rattle.lists.proofs.Ascending.{From, AtLeast, Rises, from_ascending, each_left, each_right}
use Rattle.lists.proofs.AscendingAbove.{rises_above}
use Rattle.struct_model.specs.Structure.{Structure, Structures, part_list, parts_of, labels, labels_of_parts, key}
use Rattle.struct_model.specs.Order.{order, list_order, rotated, is_least_rotation}
use Rattle.struct_model.specs.Membership.{is_of, are_of, is_supply, is_labelled}
use Rattle.struct_model.specs.Listing.{Before, Lists}
use Rattle.struct_model.proofs.OrderLaws.{order_total, list_order_equal}
use Rattle.struct_model.proofs.Rotations.{none_before, one_before}
use Rattle.listing_laws.specs.Lister.{after_one, admits_some, list_repeated}
use Rattle.listing_laws.specs.Laws.{IsNeverEmpty}
use Rattle.listing_laws.specs.LeastFirst.{by_least, list_cycle}
use Rattle.listing_laws.proofs.Components.{AreWith, list_back}
use Rattle.listing_laws.proofs.OrderFacts.{PartsBefore}
use Rattle.listing_laws.proofs.Repeated.{admits-after, admits_one, split_size, are_repeated, repeated_are}
use Rattle.listing_laws.proofs.LeastFirst.{IsLeastFirst, by_least_are, takes_least, first_or_later, key_begins, lesser_before, none_of_no_label}
use Rattle.listing_laws.proofs.LeastSets.{others_above, supplies_least, climbs_from}

-- ---- rotations

-- a first component before another one decides, and so does one behind it
first_before : (s t : Structure) (ss ts : List Structure) → Before s t → list_order (s ∷ ss) (t ∷ ts) ≡ Greater → ⊥
first_before s t ss ts before after = by (order s t) (list_order ss ts) before after
  where
    by : (o p : Ordering) → o ≡ Less → ordering_then o p ≡ Greater → ⊥
    by o p less greater = cc

first_behind : (s t : Structure) (ss ts : List Structure) → Before t s → list_order (s ∷ ss) (t ∷ ts) ≡ Greater
first_behind s t ss ts before = ap (λ o. ordering_then o (list_order ss ts)) (order_total.antisymm s t ∙ ap ordering_reverse before)

rotated_later : (s t : Structure) (ss ts : List Structure) (j : ℕ) → drop j ss ≡ t ∷ ts → rotated (s ∷ ss) (suc j) ≡ t ∷ (ts ++ s ∷ take j ss)
rotated_later s t ss ts j same = ap (λ zs. zs ++ s ∷ take j ss) same

module _ (g : Grammar) (e : Expression) (never_empty : IsNeverEmpty g e) where
  -- a component behind the first one begins with this label
  record BeginsWith (label : ℕ) (ss : List Structure) (j : ℕ) : Type 0 where
    first : Structure
    behind : List Structure
    more : List ℕ
    there : drop j ss ≡ first ∷ behind
    key_is : key first ≡ label ∷ more

  -- some component has the least label
  least_somewhere : (label : ℕ) (left : List ℕ) (ss : List Structure) → AtLeast label left → Rises left → are_of g e (parts_of ss) ≡ true
      → ascending (labels_of_parts (parts_of ss)) ≡ label ∷ left → (j : ℕ) × (j < length ss) × BeginsWith label ss j
  least_somewhere label left [] least risen of same = absurd (no_label same)
    where
      no_label : [] ≡ label ∷ left → ⊥
      no_label h = cc
  least_somewhere label left (s ∷ ss) least risen of same =
      let ones = and_parts (is_of g e s) (are_of g e (parts_of ss)) of in
      elim (first_or_later g e never_empty label left s ss least risen ones.0 same) [
        | inl first ↦ (0, omega arith, record { first = s; behind = ss; more = first.0; there = refl; key_is = first.1 })
        | inr later ↦
            let found = least_somewhere label later.left ss later.least later.risen ones.1 later.others in
            (suc found.0, next found.0 found.1, record { first = found.2.first; behind = found.2.behind; more = found.2.more; there = found.2.there; key_is = found.2.key_is })
      ]
    where
      next : (j : ℕ) → j < length ss → suc j < suc (length ss)
      next j less = omega arith

  -- what is its least rotation begins with the least label
  least_first : (label : ℕ) (left : List ℕ) (s : Structure) (ss : List Structure) → AtLeast label left → Rises left → are_of g e (parts_of (s ∷ ss)) ≡ true
      → is_least_rotation (s ∷ ss) ≡ true → ascending (labels_of_parts (parts_of (s ∷ ss))) ≡ label ∷ left → (ns : List ℕ) × (key s ≡ label ∷ ns)
  least_first label left s ss least risen of turned same =
      let ones = and_parts (is_of g e s) (are_of g e (parts_of ss)) of in
      elim (first_or_later g e never_empty label left s ss least risen ones.0 same) [
        | inl first ↦ first
        | inr later ↦
            let found = least_somewhere label later.left ss later.least later.risen ones.1 later.others in
            let at = found.2 in
            let before : Before at.first s = lesser_before at.first s label later.first at.more later.more at.key_is later.key_is later.above in
            absurd (true≢false (sym turned ∙ one_before (suc (length ss)) (s ∷ ss) (suc found.0) (next found.0 found.1)
            (ap (list_order (s ∷ ss)) (rotated_later s at.first ss at.behind found.0 at.there) ∙ first_behind s at.first ss (at.behind ++ s ∷ take found.0 ss) before)))
      ]
    where
      next : (j : ℕ) → j < length ss → suc j < suc (length ss)
      next j less = omega arith

  -- each component begins with one of the labels
  begins_from : (low j : ℕ) (ss : List Structure) → j < length ss → AtLeast low (labels_of_parts (parts_of ss)) → are_of g e (parts_of ss) ≡ true
      → (n : ℕ) × (low ≤ n) × BeginsWith n ss j
  begins_from low j [] less above of = absurd (omega arith)
  begins_from low zero (s ∷ ss) less above of =
      let next = key_begins low s (never_empty s (and_parts (is_of g e s) (are_of g e (parts_of ss)) of).0) (each_left (From low) (labels s) (labels_of_parts (parts_of ss)) above) in
      (next.0, next.3, record { first = s; behind = ss; more = next.1; there = refl; key_is = next.2 })
  begins_from low (suc j) (s ∷ ss) less above of =
      let found = begins_from low j ss (omega arith) (each_right (From low) (labels s) (labels_of_parts (parts_of ss)) above) (and_parts (is_of g e s) (are_of g e (parts_of ss)) of).1 in
      (found.0, found.1, record { first = found.2.first; behind = found.2.behind; more = found.2.more; there = found.2.there; key_is = found.2.key_is })

  -- what begins with the least label is its least rotation
  pub first_is_least : (label : ℕ) (part u : List ℕ) (s : Structure) (ss : List Structure) → key s ≡ label ∷ part → are_of g e (parts_of ss) ≡ true
      → AtLeast (label + 1) u → ascending (labels_of_parts (parts_of ss)) ≡ u → is_least_rotation (s ∷ ss) ≡ true
  first_is_least label part u s ss begins of above same = none_before (suc (length ss)) (s ∷ ss) at
    where
      none_after : (o : Ordering) → o ≡ Equal → o ≡ Greater → ⊥
      none_after o equal greater = cc

      at : (k : ℕ) → k < suc (length ss) → list_order (s ∷ ss) (rotated (s ∷ ss) k) ≡ Greater → ⊥
      at zero less after =
          none_after (list_order (s ∷ ss) (s ∷ ss ++ []))
          (ap (list_order (s ∷ ss)) (append-nil (s ∷ ss)) ∙ list_order_equal.itself (s ∷ ss)) after
      at (suc j) less after =
          let found = begins_from (label + 1) j ss (omega arith) (from_ascending (From (label + 1)) (labels_of_parts (parts_of ss)) (subst (AtLeast (label + 1)) (sym same) above)) of in
          let there = found.2 in
          first_before s there.first ss (there.behind ++ s ∷ take j ss)
          (lesser_before s there.first label found.0 part there.more begins there.key_is (omega (arith, found.1)))
          (ap (list_order (s ∷ ss)) (sym (rotated_later s there.first ss there.behind j there.there)) ∙ after)

  -- ---- the lists of components

  -- is each component one of the expression, is the list its least rotation, is it not empty, and does its length keep the bound
  abbrev pub are_cycle : Card → Structures → Bool
  are_cycle card ps =
      is_labelled g.universe && admits card (length (part_list ps)) && nat_lt 0 (length (part_list ps)) && is_least_rotation (part_list ps) && are_of g e ps

  abbrev pub ListsCycle : Card → List ℕ → List (List Structure) → Type 0
  ListsCycle card u sss = Enumerated PartsBefore (AreWith (are_cycle card) u) sss

  -- what a list that passes is
  record PassesCycle (card : Card) (ps : Structures) : Type 0 where
    admitted : admits card (length (part_list ps)) ≡ true
    turned : is_least_rotation (part_list ps) ≡ true
    are : are_of g e ps ≡ true

  passes_cycle : (card : Card) (ps : Structures) → are_cycle card ps ≡ true → PassesCycle card ps
  passes_cycle card ps passed =
      let both = and_parts _ _ passed in
      let turned = and_parts _ _ both.0 in
      let some = and_parts _ _ turned.0 in
      record { admitted = (and_parts _ _ some.0).1; turned = turned.1; are = both.1 }

  turned_back : (ss : List Structure) → is_least_rotation (part_list (parts_of ss)) ≡ is_least_rotation ss
  turned_back ss = ap is_least_rotation (list_back ss)

  cycle_least_first : (card : Card) (label : ℕ) (left : List ℕ) (least : AtLeast label left) (risen : Rises left) → is_labelled g.universe ≡ true
      → ascends_above label left ≡ true → admits_some card ≡ true → IsLeastFirst g e (are_repeated g e (after_one card)) (are_cycle card) label left least risen
  cycle_least_first card label left least risen labelled climbs admitted = record {
    some = λ passed same. no_label same;
    joined = λ split s ss makes one others.
        let both = and_parts (admits (after_one card) (length (part_list (parts_of ss)))) (are_of g e (parts_of ss)) others.0 in
        let turned = first_is_least label split.part split.rest s ss one.1 both.1 (others_above label left split climbs makes) others.1 in
        and_from _ _
        (and_from _ _ (and_from _ _ (and_from _ _ labelled (sym (admits-after card (length (part_list (parts_of ss))) admitted) ∙ both.0)) (not_none (length (part_list (parts_of ss))))) (turned_back (s ∷ ss) ∙ turned))
        (and_from _ _ one.0 both.1);
    cut = λ s ss same passed.
        let all = passes_cycle card (parts_of (s ∷ ss)) passed in
        let ones = and_parts (is_of g e s) (are_of g e (parts_of ss)) all.are in
        let first = least_first label left s ss least risen all.are (sym (turned_back (s ∷ ss)) ∙ all.turned) same in (
          ones.0,
          and_from _ _ (admits-after card (length (part_list (parts_of ss))) admitted ∙ all.admitted) ones.1,
          takes_least g e never_empty label left s ss least risen first.0 first.1 same,
        );
  }
    where
      no_label : [] ≡ label ∷ left → ⊥
      no_label h = cc

      not_none : (n : ℕ) → nat_lt 0 (suc n) ≡ true
      not_none n = lt-ltb 0 (suc n) (omega arith)

  -- no cycle is empty
  empty_cycle : (card : Card) → ListsCycle card [] []
  empty_cycle card = enumerated.none PartsBefore (AreWith (are_cycle card) []) never
    where
      never : (ss : List Structure) → AreWith (are_cycle card) [] ss → ⊥
      never [] p = true≢false (sym (and_parts _ _ (and_parts _ _ (and_parts _ _ p.0).0).0).1)
      never (s ∷ ss) p = some (none_of_no_label g e never_empty (s ∷ ss) (passes_cycle card (parts_of (s ∷ ss)) p.0).are p.1)
        where
          some : s ∷ ss ≡ [] → ⊥
          some h = cc

  -- on a label or more there is nothing where the bound admits no component
  none_cycle : (card : Card) (label : ℕ) (left : List ℕ) → admits_some card ≡ false → ListsCycle card (label ∷ left) []
  none_cycle card label left refused = enumerated.none PartsBefore (AreWith (are_cycle card) (label ∷ left)) never
    where
      no_label : [] ≡ label ∷ left → ⊥
      no_label h = cc

      never : (ss : List Structure) → AreWith (are_cycle card) (label ∷ left) ss → ⊥
      never [] p = no_label p.1
      never (s ∷ ss) p = true≢false (sym (admits_one card (length (part_list (parts_of ss))) (passes_cycle card (parts_of (s ∷ ss)) p.0).admitted) ∙ refused)

  -- the lists of components, where the first ones are listed on each supply
  pub cycles_are : (first : List ℕ → List Structure) → g.universe ≡ Labelled → ((v : List ℕ) → is_supply g.universe v ≡ true → Lists g e v (first v))
      → (n : ℕ) (card : Card) (u : List ℕ) → is_supply Labelled u ≡ true → length u ≤ n → ListsCycle card u (list_cycle first n card u)
  cycles_are first universe lists n card [] supplied enough = empty_cycle card
  cycles_are first universe lists zero card (label ∷ left) supplied enough = absurd (omega arith)
  cycles_are first universe lists (suc n) card (label ∷ left) supplied enough = by (admits_some card) refl
    where
      climbs : ascends_above label left ≡ true
      climbs = climbs_from label left supplied

      risen : Rises (label ∷ left)
      risen = rises_above 0 (label ∷ left) supplied

      supply_in : (v : List ℕ) → is_supply Labelled v ≡ true → is_supply g.universe v ≡ true
      supply_in v given = ap (λ all. is_supply all v) universe ∙ given

      by : (b : Bool) → admits_some card ≡ b
          → ListsCycle card (label ∷ left) (if b then by_least first (list_repeated first n (after_one card)) (label ∷ left) else [])
      by true admitted =
          by_least_are g e (are_repeated g e (after_one card)) (are_cycle card) label left risen.0 risen.1
          (cycle_least_first card label left risen.0 risen.1 (ap is_labelled universe) climbs admitted)
          first (list_repeated first n (after_one card))
          (λ split makes. lists (label ∷ split.part) (supply_in (label ∷ split.part) (supplies_least label left split supplied risen.0 risen.1 makes).0))
          (λ split makes.
          repeated_are g e never_empty first lists n (after_one card) split.rest (supply_in split.rest (supplies_least label left split supplied risen.0 risen.1 makes).1)
          (omega (arith, split_size left split makes, enough)))
      by false refused = none_cycle card label left refused
