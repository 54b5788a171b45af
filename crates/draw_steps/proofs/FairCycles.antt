-- A labelled cycle is met by each of its rotations.
use Rattle.std.proofs.Common.{◌≡◌, ℕ, zero, suc, ◌+◌, ◌<◌, ◌≤◌, Bool, true, false, ◌&&◌, nat_lt, List, [], ◌∷◌, ◌++◌, map, length, take, drop, slice_get, Some, append-nil, refl, sym, ap, ◌∙◌, subst, inl, inr, arith, length-append, append_assoc}
use Rattle.std.specs.List.{range_with_len}
use Rattle.std.specs.declared.cmp.Ordering.{Ordering}
use Rattle.std.specs.declared.cmp.Ordering.TheVariants.{Less, Equal, Greater}
use Rattle.std.specs.Ordering.{ordering_reverse}
use Rattle.std.proofs.lemmas.Bool.{and_parts, and_from, cases_lt, lt-ltb}
use Rattle.std.proofs.lemmas.List.{take-append-drop, length-map}
use Rattle.lists.specs.Ascending.{ascending}
use Rattle.lists.specs.Enumeration.{IsIn, Ascends, Enumerated}
use Rattle.lists.proofs.Enumerated as enumerated
use Rattle.lists.proofs.Enumerated.{in_map, from_map}
use Rattle.lists.proofs.Places.{get_left, in_of_get}
use Rattle.lists.proofs.Positions.{slice_some}
use Rattle.lists.proofs.RangeSums.{in_range}
use Rattle.spec_syntax.specs.declared.expr.Card.{Card}
use Rattle.spec_syntax.specs.declared.expr.Kind.{Kind}
use Rattle.spec_syntax.specs.declared.statement.Universe.{Universe}
use Rattle.spec_syntax.specs.declared.statement.Universe.TheVariants.{Labelled}
use Rattle.spec_syntax.specs.Card.{admits}
use Rattle.spec_syntax.specs.Expression.{Expression, Many}
use Rattle.spec_syntax.specs.Rules.{all_nodes, is_spec}
use Rattle.spec_syntax.specs.Grammar.{Grammar}
use Rattle.struct_model.specs.Structure.{Structure, part_list, parts_of, labels}
use Rattle.struct_model.specs.Order.{list_order, rotated, is_least_rotation, is_sorted}
use Rattle.struct_model.specs.Membership.{is_of, are_of, is_supply, is_labelled}
use Rattle.struct_model.specs.Bounded.{listing}
use Rattle.struct_model.proofs.OrderLaws.{list_order_total, list_order_strict, list_order_equal}
use Rattle.struct_model.proofs.Rotations.{none_before}
use Rattle.well_founded.specs.WellFounded.{IsWellFounded}
use Rattle.count_laws.specs.Pointed.{MeetsTimes}
use Rattle.listing_laws.specs.Numbers.{exactly}
use Rattle.listing_laws.specs.LeastFirst.{cycles_on}
use Rattle.listing_laws.proofs.Components.{AreWith, list_back}
use Rattle.listing_laws.proofs.LeastCycles.{are_cycle, cycles_are}
use Rattle.listing_laws.proofs.OrderFacts.{PartsBefore}
use Rattle.listing_laws.proofs.Ranges.{Less as Below, IsBetween, range_is}
use Rattle.listing_laws.proofs.Repeated.{are_repeated}
use Rattle.listing_laws.proofs.UnlabelledSets.{exactly_admits, exactly_is}
use Rattle.canon.specs.Rotations.{IsRotation}
use Rattle.canon.proofs.SortedLists.{with_item_sorted}
use Rattle.canon.proofs.Turning.{turned_again, length-rotated, rotated_at, rotated_none}
use Rattle.choice_laws.proofs.Rearranged.{Differs, met_by_fibres}
use Rattle.draw_steps.specs.Containers.{sorted, turned}
use Rattle.draw_steps.proofs.Among.{range_length}
use Rattle.draw_steps.proofs.Turned.{back, turned_is}
use Rattle.draw_steps.proofs.FairListings as listings
use Rattle.draw_steps.proofs.FairListings.{lists_once}
use Rattle.draw_steps.proofs.FairPulled.{labels_in, same_behind, labels_exchanged, item_length, item_labels, item_are, item_holds, item_differ, differ_ascends}
use Rattle.draw_steps.proofs.FairSets as sets

-- ---- rotations

abbrev pub rotations : List Structure → List (List Structure)
rotations ss = map (rotated ss) (range_with_len 0 (length ss))

turn_back : (ss ts : List Structure) → 0 < length ss → IsRotation ss ts → IsRotation ts ss
turn_back ss ts some r =
    let long : length ts ≡ length ss = ap length r.same ∙ length-rotated ss r.place in
    let left : length (drop r.place ss) ≤ length ts =
    let whole : length (rotated ss r.place) ≡ length (drop r.place ss) + length (take r.place ss) = length-append (drop r.place ss) (take r.place ss) in
    omega (arith, whole, ap length r.same) in
    let again : IsRotation ts (rotated (rotated ts 0) (length (drop r.place ss))) = turned_again ts 0 (length (drop r.place ss)) (omega (arith, long, some)) left in
    record {
      place = again.place;
      within = again.within;
      same = sym (back ss r.place) ∙ ap (λ zs. rotated zs (length (drop r.place ss))) (sym r.same ∙ sym (rotated_none ts)) ∙ again.same;
    }

in_rotations : (ss ts : List Structure) → IsRotation ss ts → IsIn ts (rotations ss)
in_rotations ss ts r =
    subst (λ zs. IsIn zs (rotations ss)) (sym r.same)
    (in_map (rotated ss) r.place (range_with_len 0 (length ss)) ((range_is 0 (length ss)).complete r.place (omega arith, omega (arith, r.within))))

from_rotations : (ss ts : List Structure) → IsIn ts (rotations ss) → IsRotation ss ts
from_rotations ss ts there =
    let found = from_map (rotated ss) ts (range_with_len 0 (length ss)) there in
    record { place = found.0; within = omega (arith, (in_range found.0 0 (length ss) found.1).1); same = found.2 }

-- one of the first rotations is after none of them
record LeastOf (ss : List Structure) (n : ℕ) : Type 0 where
  pub place : ℕ
  pub within : place < n
  pub least : (k : ℕ) → k < n → list_order (rotated ss place) (rotated ss k) ≡ Greater → ⊥

not_itself : (xs : List Structure) → list_order xs xs ≡ Greater → ⊥
not_itself xs greater = absurd (let same : list_order xs xs ≡ Equal = list_order_equal.itself xs in wrong (sym same ∙ greater))
  where
    wrong : Equal ≡ Greater → ⊥
    wrong h = cc

turned_less : (xs ys : List Structure) → list_order xs ys ≡ Greater → list_order ys xs ≡ Less
turned_less xs ys greater = list_order_total.antisymm ys xs ∙ ap ordering_reverse greater

turned_greater : (xs ys : List Structure) → list_order xs ys ≡ Less → list_order ys xs ≡ Greater
turned_greater xs ys less = list_order_total.antisymm ys xs ∙ ap ordering_reverse less

least_of : (ss : List Structure) (n : ℕ) → LeastOf ss (suc n)
least_of ss zero = record { place = 0; within = omega arith; least = λ k less greater. none k less greater }
  where
    none : (k : ℕ) → k < 1 → list_order (rotated ss 0) (rotated ss k) ≡ Greater → ⊥
    none zero less greater = not_itself (rotated ss 0) greater
    none (suc k) less greater = absurd (omega (arith, less))
least_of ss (suc n) = by (least_of ss n)
  where
    by : LeastOf ss (suc n) → LeastOf ss (suc (suc n))
    by found = decide (list_order (rotated ss found.place) (rotated ss (suc n))) refl
      where
        same : (k : ℕ) → suc n ≤ k → k < suc (suc n) → k ≡ suc n
        same k low high = omega (arith, low, high)

        keep : (list_order (rotated ss found.place) (rotated ss (suc n)) ≡ Greater → ⊥) → LeastOf ss (suc (suc n))
        keep not_after = record {
          place = found.place;
          within = omega (arith, found.within);
          least = λ k less greater. elim (cases_lt k (suc n)) [
            | inl earlier ↦ found.least k earlier greater
            | inr last ↦ not_after (subst (λ (m : ℕ). list_order (rotated ss found.place) (rotated ss m) ≡ Greater) (same k last less) greater)
          ];
        }

        decide : (o : Ordering) → list_order (rotated ss found.place) (rotated ss (suc n)) ≡ o → LeastOf ss (suc (suc n))
        decide Less is = keep (λ greater. not_both (sym is ∙ greater))
          where
            not_both : Less ≡ Greater → ⊥
            not_both h = cc
        decide Equal is = keep (λ greater. not_both (sym is ∙ greater))
          where
            not_both : Equal ≡ Greater → ⊥
            not_both h = cc
        decide Greater is = record {
          place = suc n;
          within = omega arith;
          least = λ k less greater. elim (cases_lt k (suc n)) [
            | inl earlier ↦
                found.least k earlier
                (turned_greater (rotated ss k) (rotated ss found.place)
                (list_order_strict.transitive (rotated ss k) (rotated ss (suc n)) (rotated ss found.place) (turned_less (rotated ss (suc n)) (rotated ss k) greater)
                (turned_less (rotated ss found.place) (rotated ss (suc n)) is)))
            | inr last ↦ not_itself (rotated ss (suc n)) (subst (λ (m : ℕ). list_order (rotated ss (suc n)) (rotated ss m) ≡ Greater) (same k last less) greater)
          ];
        }

-- each list turns to a least rotation
pub record Turns (ss : List Structure) : Type 0 where
  pub rotation : IsRotation ss (turned ss)
  pub least : is_least_rotation (turned ss) ≡ true

pub turns : (s : Structure) (ss : List Structure) → Turns (s ∷ ss)
turns s ss = record {
  rotation = subst (IsRotation whole) is rotation;
  least = subst (λ ts. is_least_rotation ts ≡ true) is least;
}
  where
    whole : List Structure
    whole = s ∷ ss

    found : LeastOf whole (suc (length ss))
    found = least_of whole (length ss)

    rotation : IsRotation whole (rotated whole found.place)
    rotation = record { place = found.place; within = found.within; same = refl }

    least : is_least_rotation (rotated whole found.place) ≡ true
    least =
        none_before (length (rotated whole found.place)) (rotated whole found.place)
        (λ k less greater.
        let again = turned_again whole found.place k (omega arith) (let long = length-rotated whole found.place in omega (arith, long, less)) in
        found.least again.place again.within (ap (list_order (rotated whole found.place)) (sym again.same) ∙ greater))

    is : rotated whole found.place ≡ turned whole
    is = turned_is whole (rotated whole found.place) (omega arith) rotation least

-- ---- what rotations have

labels_joined : (xs ys : List Structure) → labels_in (xs ++ ys) ≡ labels_in xs ++ labels_in ys
labels_joined [] ys = refl
labels_joined (x ∷ xs) ys = ap (λ ls. labels x ++ ls) (labels_joined xs ys) ∙ sym (append_assoc (labels x) (labels_in xs) (labels_in ys))

labels_turned : (ls ms : List ℕ) → ascending (ls ++ ms) ≡ ascending (ms ++ ls)
labels_turned ls ms =
    ap (λ ns. ascending (ls ++ ns)) (sym (append-nil ms)) ∙ labels_exchanged ls ms [] ∙ ap (λ ns. ascending (ms ++ ns)) (append-nil ls)

pub rotated_labels : (ss : List Structure) (i : ℕ) → ascending (labels_in (rotated ss i)) ≡ ascending (labels_in ss)
rotated_labels ss i =
    ap ascending (labels_joined (drop i ss) (take i ss)) ∙ labels_turned (labels_in (drop i ss)) (labels_in (take i ss))
    ∙ ap ascending (sym (labels_joined (take i ss) (drop i ss))) ∙ ap (λ ts. ascending (labels_in ts)) (take-append-drop i ss)

module _ (g : Grammar) (e : Expression) where
  are_joined : (xs ys : List Structure) → are_of g e (parts_of (xs ++ ys)) ≡ (are_of g e (parts_of xs) && are_of g e (parts_of ys))
  are_joined [] ys = refl
  are_joined (x ∷ xs) ys = ap (λ b. is_of g e x && b) (are_joined xs ys) ∙ grouped (is_of g e x) (are_of g e (parts_of xs)) (are_of g e (parts_of ys))
    where
      grouped : (a b c : Bool) → a && (b && c) ≡ (a && b) && c
      grouped true b c = refl
      grouped false b c = refl

  pub rotated_are : (ss : List Structure) (i : ℕ) → are_of g e (parts_of (rotated ss i)) ≡ are_of g e (parts_of ss)
  rotated_are ss i =
      are_joined (drop i ss) (take i ss) ∙ turned_and (are_of g e (parts_of (drop i ss))) (are_of g e (parts_of (take i ss))) ∙ sym (are_joined (take i ss) (drop i ss))
      ∙ ap (λ ts. are_of g e (parts_of ts)) (take-append-drop i ss)
    where
      turned_and : (a b : Bool) → a && b ≡ b && a
      turned_and true true = refl
      turned_and true false = refl
      turned_and false true = refl
      turned_and false false = refl

differ_at : (ss : List Structure) (i j : ℕ) (s : Structure) → Ascends Differs ss → i < j → slice_get ss i ≡ Some s → slice_get ss j ≡ Some s → ⊥
differ_at [] i j s a less at there = absurd (cc)
differ_at (t ∷ ts) zero zero s a less at there = absurd (omega (arith, less))
differ_at (t ∷ ts) zero (suc j) s a less at there = let same : t ≡ s = cc in a.0 s (in_of_get ts j s there) same
differ_at (t ∷ ts) (suc i) zero s a less at there = absurd (omega (arith, less))
differ_at (t ∷ ts) (suc i) (suc j) s a less at there = differ_at ts i j s a.1 (omega (arith, less)) at there

first_is : (ss : List Structure) (i : ℕ) (s : Structure) → i < length ss → slice_get ss i ≡ Some s → slice_get (rotated ss i) 0 ≡ Some s
first_is ss i s within at =
    rotated_at ss i 0 (omega (arith, within)) (omega (arith, within)) ∙ ap (slice_get (ss ++ ss)) (none i) ∙ get_left ss ss i s at
  where
    none : (n : ℕ) → n + 0 ≡ n
    none n = omega arith

-- where the components differ, so do the rotations
rotations_differ : (ss : List Structure) → Ascends Differs ss → Ascends Differs (rotations ss)
rotations_differ ss a =
    (enumerated.mapped Below (IsBetween 0 (length ss)) Differs (λ ts. IsIn ts (rotations ss)) (rotated ss) (range_with_len 0 (length ss)) (range_is 0 (length ss))
    keeps (λ i between. in_map (rotated ss) i (range_with_len 0 (length ss)) ((range_is 0 (length ss)).complete i between))
    (λ ts there. let found = from_map (rotated ss) ts (range_with_len 0 (length ss)) there in (found.0, (range_is 0 (length ss)).sound found.0 found.1, found.2))).ascends
  where
    keeps : (i j : ℕ) → IsBetween 0 (length ss) i → IsBetween 0 (length ss) j → i < j → rotated ss i ≡ rotated ss j → ⊥
    keeps i j p q less same =
        let at_i = slice_some ss i (omega (arith, p.1)) in
        let at_j = slice_some ss j (omega (arith, q.1)) in
        let firsts : Some at_i.0 ≡ Some at_j.0 =
        sym (first_is ss i at_i.0 (omega (arith, p.1)) at_i.1) ∙ ap (λ ts. slice_get ts 0) same ∙ first_is ss j at_j.0 (omega (arith, q.1)) at_j.1 in
        differ_at ss i j at_i.0 a less at_i.1 (at_j.1 ∙ sym firsts)

-- ---- sorted components

pub sorted_holds : (x : Structure) (ss : List Structure) → IsIn x ss → IsIn x (sorted ss)
sorted_holds x [] there = there
sorted_holds x (s ∷ ss) (inl is) = item_holds x s (sorted ss) (inl is)
sorted_holds x (s ∷ ss) (inr at) = item_holds x s (sorted ss) (inr (sorted_holds x ss at))

sorted_differ : (ss : List Structure) → Ascends Differs (sorted ss) → Ascends Differs ss
sorted_differ [] a = tt
sorted_differ (s ∷ ss) a =
    let others = item_differ s (sorted ss) a in
    ((λ y there same. others.0 (sorted_holds s ss (subst (λ z. IsIn z ss) (sym same) there))), sorted_differ ss others.1)

sorted_length : (ss : List Structure) → length (sorted ss) ≡ length ss
sorted_length [] = refl
sorted_length (s ∷ ss) = item_length s (sorted ss) ∙ ap suc (sorted_length ss)

pub sorted_is : (ss : List Structure) → is_sorted (sorted ss) ≡ true
sorted_is [] = refl
sorted_is (s ∷ ss) = with_item_sorted s (sorted ss) (sorted_is ss)

sorted_labels : (ss : List Structure) → ascending (labels_in (sorted ss)) ≡ ascending (labels_in ss)
sorted_labels [] = refl
sorted_labels (s ∷ ss) = item_labels s (sorted ss) ∙ same_behind (labels s) (labels_in (sorted ss)) (labels_in ss) (sorted_labels ss)

sorted_are : (g : Grammar) (e : Expression) (ss : List Structure) → are_of g e (parts_of (sorted ss)) ≡ are_of g e (parts_of ss)
sorted_are g e [] = refl
sorted_are g e (s ∷ ss) = item_are g e s (sorted ss) ∙ ap (λ b. is_of g e s && b) (sorted_are g e ss)

-- ---- cycles

module _ (g : Grammar) (container : Kind) (e : Expression) (card : Card) (spec : is_spec g.rules ≡ true) (founded : IsWellFounded g) (there : IsIn (Many container e card) (all_nodes g.rules))
    (universe : g.universe ≡ Labelled) where
  abbrev pub cycles : ℕ → List ℕ → List (List Structure)
  cycles c u = cycles_on g e (exactly c) u

  -- is the list a cycle of so many components
  abbrev turns_least : ℕ → List ℕ → List Structure → Type 0
  turns_least c u ss = AreWith (are_cycle g e (listings.never_empty g container e card spec founded there) (exactly c)) u ss

  abbrev is_list : ℕ → List ℕ → List Structure → Type 0
  is_list c u ss = AreWith (are_repeated g e (exactly c)) u ss

  cycles_listed : (c : ℕ) (u : List ℕ) → is_supply g.universe u ≡ true → Enumerated PartsBefore (turns_least c u) (cycles c u)
  cycles_listed c u supplied =
      cycles_are g e (listings.never_empty g container e card spec founded there) (listing g e) universe (listings.element_listed g container e card spec founded there).lists (length u) (exactly c) u
      (ap (λ (all : Universe). is_supply all u) (sym universe) ∙ supplied) (omega arith)

  -- what a list of so many components is
  record IsList (c : ℕ) (u : List ℕ) (ss : List Structure) : Type 0 where
    pub count : length ss ≡ c
    pub are : are_of g e (parts_of ss) ≡ true
    pub whole : ascending (labels_in ss) ≡ u

  from_list : (c : ℕ) (u : List ℕ) (ss : List Structure) → is_list c u ss → IsList c u ss
  from_list c u ss p =
      let both = and_parts _ _ p.0 in
      record { count = sym (ap length (list_back ss)) ∙ exactly_is c (length (part_list (parts_of ss))) both.0; are = both.1; whole = p.1 }

  to_list : (c : ℕ) (u : List ℕ) (ss : List Structure) → IsList c u ss → is_list c u ss
  to_list c u ss p = (and_from _ _ (ap (admits (exactly c)) (ap length (list_back ss) ∙ p.count) ∙ exactly_admits c) p.are, p.whole)

  from_cycle : (c : ℕ) (u : List ℕ) (ss : List Structure) → turns_least c u ss → IsList c u ss × (is_least_rotation ss ≡ true)
  from_cycle c u ss p =
      let both = and_parts _ _ p.0 in
      let least = and_parts _ _ both.0 in
      let some = and_parts _ _ least.0 in
      let bound = and_parts _ _ some.0 in (
        record { count = sym (ap length (list_back ss)) ∙ exactly_is c (length (part_list (parts_of ss))) bound.1; are = both.1; whole = p.1 },
        sym (ap is_least_rotation (list_back ss)) ∙ least.1,
      )

  to_cycle : (c : ℕ) (u : List ℕ) (ss : List Structure) → IsList (suc c) u ss → is_least_rotation ss ≡ true → turns_least (suc c) u ss
  to_cycle c u ss p least = (
    and_from _ _
        (and_from _ _
        (and_from _ _
        (and_from _ _ (ap is_labelled universe) (ap (admits (exactly (suc c))) long ∙ exactly_admits (suc c)))
        (ap (nat_lt 0) long ∙ lt-ltb 0 (suc c) (omega arith)))
        (ap is_least_rotation (list_back ss) ∙ least))
        p.are,
    p.whole,
  )
    where
      long : length (part_list (parts_of ss)) ≡ suc c
      long = ap length (list_back ss) ∙ p.count

  -- labelled components all differ
  list_differs : (c : ℕ) (u : List ℕ) (ss : List Structure) → is_supply g.universe u ≡ true → IsList c u ss → Ascends Differs ss
  list_differs c u ss supplied p =
      sorted_differ ss
      (differ_ascends (sorted ss)
      (sets.set_ascends g container e card spec founded there universe c u (sorted ss) supplied
      (sets.to_passes g container e card spec founded there universe c u (sorted ss) (record {
        count = sorted_length ss ∙ p.count;
        sorted = sorted_is ss;
        are = sorted_are g e ss ∙ p.are;
        whole = sorted_labels ss ∙ p.whole;
      }))))

  rotated_list : (c : ℕ) (u : List ℕ) (ss ts : List Structure) → IsList c u ss → IsRotation ss ts → IsList c u ts
  rotated_list c u ss ts p r = record {
    count = ap length r.same ∙ length-rotated ss r.place ∙ p.count;
    are = ap (λ zs. are_of g e (parts_of zs)) r.same ∙ rotated_are g e ss r.place ∙ p.are;
    whole = ap (λ zs. ascending (labels_in zs)) r.same ∙ rotated_labels ss r.place ∙ p.whole;
  }

  turns_of : (c : ℕ) (u : List ℕ) (ss : List Structure) → IsList (suc c) u ss → Turns ss
  turns_of c u [] p = absurd (let none : 0 ≡ suc c = p.count in omega (arith, none))
  turns_of c u (s ∷ ss) p = turns s ss

  pub cycles_meet : (c : ℕ) (u : List ℕ) → is_supply g.universe u ≡ true
      → MeetsTimes (suc c) (map turned (listings.repeated g container e card spec founded there (suc c) u)) (cycles (suc c) u)
  cycles_meet c u supplied =
      met_by_fibres (suc c) turned rotations (is_list (suc c) u) (turns_least (suc c) u) (listings.repeated g container e card spec founded there (suc c) u) (cycles (suc c) u)
      (lists_once (is_list (suc c) u) (listings.repeated g container e card spec founded there (suc c) u) (listings.repeated_listed g container e card spec founded there (suc c) u supplied))
      (lists_once (turns_least (suc c) u) (cycles (suc c) u) (cycles_listed (suc c) u supplied))
      (λ ss p. rotations_differ ss (list_differs (suc c) u ss supplied (from_cycle (suc c) u ss p).0))
      (λ ss p. length-map (range_with_len 0 (length ss)) (rotated ss) ∙ range_length 0 (length ss) ∙ (from_cycle (suc c) u ss p).0.count)
      (λ ss p ts at.
      let is = from_cycle (suc c) u ss p in
      let r = from_rotations ss ts at in
      let own = rotated_list (suc c) u ss ts is.0 r in (
        to_list (suc c) u ts own,
        sym (turned_is ts ss (omega (arith, own.count)) (turn_back ss ts (omega (arith, is.0.count)) r) is.1),
      ))
      (λ ss w.
      let p = from_list (suc c) u ss w in
      let t = turns_of c u ss p in (
        to_cycle c u (turned ss) (rotated_list (suc c) u ss (turned ss) p t.rotation) t.least,
        in_rotations (turned ss) ss (turn_back ss (turned ss) (omega (arith, p.count)) t.rotation),
      ))
