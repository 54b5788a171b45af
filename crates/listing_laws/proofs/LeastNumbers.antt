-- The numbers of labelled Sets, PowerSets, Cycles and Sequences of so many components.
use Rattle.std.proofs.Common.{◌≡◌, ℕ, zero, suc, ◌+◌, ◌*◌, ◌≤◌, Bool, true, List, [], ◌∷◌, map, flat_map, length, refl, sym, ap, ◌∙◌, arith}
use Rattle.std.specs.Prelude.{if◌then◌else◌, IsTrue}
use Rattle.std.specs.List.{sum}
use Rattle.std.proofs.lemmas.List.{length-map, nil_from_length}
use Rattle.spec_syntax.specs.declared.statement.Universe.{Universe}
use Rattle.spec_syntax.specs.declared.statement.Universe.TheVariants.{Labelled}
use Rattle.spec_syntax.specs.declared.expr.Card.{Card}
use Rattle.spec_syntax.specs.declared.expr.Kind.{Kind}
use Rattle.spec_syntax.specs.declared.expr.Kind.TheVariants as kind
use Rattle.spec_syntax.specs.Expression as expr
use Rattle.spec_syntax.specs.Expression.{Expression}
use Rattle.spec_syntax.specs.Rules.{all_nodes, is_spec}
use Rattle.spec_syntax.specs.Grammar.{Grammar}
use Rattle.lists.specs.Enumeration.{IsIn}
use Rattle.lists.proofs.AscendingAbove.{rises_above}
use Rattle.lists.proofs.RangeSums.{sum_same, length_made}
use Rattle.struct_model.specs.Structure.{Structure}
use Rattle.struct_model.specs.Membership.{supply, is_supply}
use Rattle.struct_model.specs.Bounded.{listing, number}
use Rattle.struct_model.proofs.SupplyLaws.{supply_is, supply_size}
use Rattle.well_founded.specs.WellFounded.{IsWellFounded}
use Rattle.count_laws.specs.Convolution.{shifted, convolved}
use Rattle.count_laws.specs.LabelledSets.{labelled_sets, labelled_lists, labelled_cycles}
use Rattle.splits.specs.Splits.{Split, splits}
use Rattle.splits.proofs.SplitLaws.{splits_are}
use Rattle.splits.proofs.SplitSums.{shared, labels_shared}
use Rattle.splits.proofs.SplitSupplies.{split_length, split_supplies}
use Rattle.listing_laws.specs.Lister.{sequence, each_before, by_parts, after_one, list_empty, list_repeated}
use Rattle.listing_laws.specs.Recursion.{repeated_on}
use Rattle.listing_laws.specs.Numbers.{exactly}
use Rattle.listing_laws.specs.SetListing.{set, power_set}
use Rattle.listing_laws.specs.LeastFirst.{cycle, by_least, list_set, list_cycle, sets_on, cycles_on, LabelledContainersAreCounted}
use Rattle.listing_laws.proofs.Numbers.{before_length, all_parts, one_less, admits_suc, admits_none, number_on, numbers_recur}
use Rattle.listing_laws.proofs.LeastSets.{climbs_from, supplies_least}
use Rattle.listing_laws.proofs.UnlabelledSets.{element_listing}
use Rattle.listing_laws.proofs.LeastListed.{labelled_containers_are_listed}

-- where first and others list so many pairs on each split as its lengths tell, there are so many lists of components
pairs_length : (first : List ℕ → List Structure) (others : List ℕ → List (List Structure)) (a h : ℕ → ℕ) (ss : List Split)
    → ((split : Split) → IsIn split ss → length (first split.part) * length (others split.rest) ≡ a (length split.part) * h (length split.rest))
    → length (flat_map (λ split. each_before (first split.part) (others split.rest)) ss) ≡ sum (map (shared a h) ss)
pairs_length first others a h ss pairs =
    length_made (λ (split : Split). each_before (first split.part) (others split.rest)) ss
    ∙ sum_same (λ (split : Split). length (each_before (first split.part) (others split.rest))) (shared a h) ss
    (λ split there. before_length (first split.part) (others split.rest) ∙ pairs split there)

module _ (first : List ℕ → List Structure) (a : ℕ → ℕ) (as_many : (v : List ℕ) → is_supply Labelled v ≡ true → length (first v) ≡ a (length v)) where
  -- the lists whose first component has the least label
  least_length : (others : List ℕ → List (List Structure)) (h : ℕ → ℕ) (label : ℕ) (left : List ℕ) → is_supply Labelled (label ∷ left) ≡ true
      → ((v : List ℕ) → is_supply Labelled v ≡ true → length v ≤ length left → length (others v) ≡ h (length v))
      → length (by_least first others (label ∷ left)) ≡ convolved (shifted a) h (length left)
  least_length others h label left supplied of_others =
      pairs_length (λ part. first (label ∷ part)) others (shifted a) h (splits left)
      (λ split there i. as_many (label ∷ split.part) (both split there).0 i * of_others split.rest (both split there).1 (fewer split there) i)
      ∙ labels_shared (shifted a) h label left (climbs_from label left supplied)
    where
      fewer : (split : Split) → IsIn split (splits left) → length split.rest ≤ length left
      fewer split there = omega (arith, split_length left split there)

      both : (split : Split) → IsIn split (splits left) → (is_supply Labelled (label ∷ split.part) ≡ true) × (is_supply Labelled split.rest ≡ true)
      both split there =
          let risen = rises_above 0 (label ∷ left) supplied in
          supplies_least label left split supplied risen.0 risen.1 ((splits_are left risen.1).sound split there)

  refused : (c : ℕ) → length (list_empty (exactly (suc c))) ≡ 0
  refused c = ap (λ (b : Bool). length {A = List Structure} (if b then [] ∷ [] else [])) (admits_none c)

  -- ---- sets

  sets_length : (n c : ℕ) (u : List ℕ) → is_supply Labelled u ≡ true → length u ≤ n → length (list_set first n (exactly c) u) ≡ labelled_sets a c (length u)
  sets_length n zero [] supplied enough = refl
  sets_length n (suc c) [] supplied enough = refused c
  sets_length zero c (label ∷ left) supplied enough = absurd (omega arith)
  sets_length (suc n) zero (label ∷ left) supplied enough = refl
  sets_length (suc n) (suc c) (label ∷ left) supplied enough =
      ap (λ (b : Bool). length (if b then by_least first (list_set first n (after_one (exactly (suc c)))) (label ∷ left) else [])) (admits_suc c)
      ∙ ap (λ (other : Card). length (by_least first (list_set first n other) (label ∷ left))) (one_less c)
      ∙ least_length (list_set first n (exactly c)) (labelled_sets a c) label left supplied (λ v given fewer. sets_length n c v given (omega arith))

  -- ---- lists

  module _ (never_empty : a 0 ≡ 0) where
    first_none : (v : List ℕ) → length v ≡ 0 → first v ≡ []
    first_none [] none = nil_from_length (first []) (as_many [] refl ∙ never_empty)
    first_none (label ∷ labels) none = absurd (omega arith)

    no_pair : (k : ℕ) → a 0 * k ≡ 0
    no_pair k = ap (λ (firsts : ℕ). firsts * k) never_empty ∙ nothing k
      where
        nothing : (k : ℕ) → 0 * k ≡ 0
        nothing k = omega arith

    lists_length : (n c : ℕ) (u : List ℕ) → is_supply Labelled u ≡ true → length u ≤ n → length (list_repeated first n (exactly c) u) ≡ labelled_lists a c (length u)
    lists_length n zero [] supplied enough = refl
    lists_length n (suc c) [] supplied enough = refused c ∙ sym (no_pair (labelled_lists a c 0))
    lists_length zero c (label ∷ left) supplied enough = absurd (omega arith)
    lists_length (suc n) zero (label ∷ left) supplied enough = refl
    lists_length (suc n) (suc c) (label ∷ left) supplied enough =
        ap (λ (b : Bool). length (if b then by_parts 1 (length (label ∷ left)) first (list_repeated first n (after_one (exactly (suc c)))) (label ∷ left) else [])) (admits_suc c)
        ∙ ap (λ (other : Card). length (by_parts 1 (length (label ∷ left)) first (list_repeated first n other) (label ∷ left))) (one_less c)
        ∙ ap length (all_parts first (list_repeated first n (exactly c)) (label ∷ left) first_none)
        ∙ pairs_length first (list_repeated first n (exactly c)) a (labelled_lists a c) (splits (label ∷ left))
        (λ split there.
        pair split.part split.rest (both split there).0 (split_length (label ∷ left) split there) (λ fewer. lists_length n c split.rest (both split there).1 fewer))
        ∙ labels_shared a (labelled_lists a c) 0 (label ∷ left) supplied
      where
        both : (split : Split) → IsIn split (splits (label ∷ left)) → (is_supply Labelled split.part ≡ true) × (is_supply Labelled split.rest ≡ true)
        both split there = split_supplies Labelled (label ∷ left) supplied split ((splits_are (label ∷ left) (rises_above 0 (label ∷ left) supplied)).sound split there)

        pair : (part rest : List ℕ) → is_supply Labelled part ≡ true → length part + length rest ≡ suc (length left)
            → (length rest ≤ n → length (list_repeated first n (exactly c) rest) ≡ labelled_lists a c (length rest))
            → length (first part) * length (list_repeated first n (exactly c) rest) ≡ a (length part) * labelled_lists a c (length rest)
        pair [] rest part_is total of_others =
            ap (λ (k : ℕ). k * length (list_repeated first n (exactly c) rest)) (as_many [] part_is)
            ∙ no_pair (length (list_repeated first n (exactly c) rest)) ∙ sym (no_pair (labelled_lists a c (length rest)))
        pair (l ∷ ls) rest part_is total of_others = let fewer : length rest ≤ n = omega (arith, total, enough) in λ i. as_many (l ∷ ls) part_is i * of_others fewer i

    -- ---- cycles

    cycles_length : (n c : ℕ) (u : List ℕ) → is_supply Labelled u ≡ true → length u ≤ n → length (list_cycle first n (exactly c) u) ≡ labelled_cycles a c (length u)
    cycles_length n zero [] supplied enough = refl
    cycles_length n (suc c) [] supplied enough = refl
    cycles_length zero c (label ∷ left) supplied enough = absurd (omega arith)
    cycles_length (suc n) zero (label ∷ left) supplied enough = refl
    cycles_length (suc n) (suc c) (label ∷ left) supplied enough =
        ap (λ (b : Bool). length (if b then by_least first (list_repeated first n (after_one (exactly (suc c)))) (label ∷ left) else [])) (admits_suc c)
        ∙ ap (λ (other : Card). length (by_least first (list_repeated first n other) (label ∷ left))) (one_less c)
        ∙ least_length (list_repeated first n (exactly c)) (labelled_lists a c) label left supplied (λ v given fewer. lists_length n c v given (omega arith))

-- ---- the law

module _ (g : Grammar) (container : Kind) (e : Expression) (card : Card) (spec : IsTrue (is_spec g.rules)) (founded : IsWellFounded g) (universe : g.universe ≡ Labelled)
    (there : IsIn (expr.Many container e card) (all_nodes g.rules)) where
  supplied_as : (all : Universe) (u : List ℕ) → g.universe ≡ all → is_supply all u ≡ true → is_supply g.universe u ≡ true
  supplied_as all u same given = ap (λ (all : Universe). is_supply all u) same ∙ given

  as_many : (v : List ℕ) → is_supply Labelled v ≡ true → length (listing g e v) ≡ number g e (length v)
  as_many v given = number_on g e v (supplied_as Labelled v universe given) (element_listing g container e card spec founded there)

  no_empty : number g e 0 ≡ 0
  no_empty = numbers_recur.element g container e card spec founded there

  abbrev first : ℕ → List ℕ
  first n = supply g.universe n

  labels_are : (n : ℕ) → is_supply Labelled (first n) ≡ true
  labels_are n = ap (λ (all : Universe). is_supply all (first n)) (sym universe) ∙ supply_is g.universe n

  sequences : (c n : ℕ) → number g (expr.Many kind.Sequence e (exactly c)) n ≡ labelled_lists (number g e) c n
  sequences c n =
      ap length (labelled_containers_are_listed.sequences g container e card (exactly c) (first n) spec founded there (supply_is g.universe n))
      ∙ length-map (repeated_on g e (exactly c) (first n)) sequence
      ∙ lists_length (listing g e) (number g e) as_many no_empty (length (first n)) c (first n) (labels_are n) (omega arith)
      ∙ ap (labelled_lists (number g e) c) (supply_size g.universe n)

  sets : (c n : ℕ) → number g (expr.Many kind.Set e (exactly c)) n ≡ labelled_sets (number g e) c n
  sets c n =
      ap length (labelled_containers_are_listed.sets g container e card (exactly c) (first n) spec founded universe there (supply_is g.universe n))
      ∙ length-map (sets_on g e (exactly c) (first n)) set
      ∙ sets_length (listing g e) (number g e) as_many (length (first n)) c (first n) (labels_are n) (omega arith)
      ∙ ap (labelled_sets (number g e) c) (supply_size g.universe n)

  power_sets : (c n : ℕ) → number g (expr.Many kind.PowerSet e (exactly c)) n ≡ labelled_sets (number g e) c n
  power_sets c n =
      ap length (labelled_containers_are_listed.power_sets g container e card (exactly c) (first n) spec founded universe there (supply_is g.universe n))
      ∙ length-map (sets_on g e (exactly c) (first n)) power_set
      ∙ sets_length (listing g e) (number g e) as_many (length (first n)) c (first n) (labels_are n) (omega arith)
      ∙ ap (labelled_sets (number g e) c) (supply_size g.universe n)

  cycles : (c n : ℕ) → number g (expr.Many kind.Cycle e (exactly c)) n ≡ labelled_cycles (number g e) c n
  cycles c n =
      ap length (labelled_containers_are_listed.cycles g container e card (exactly c) (first n) spec founded universe there (supply_is g.universe n))
      ∙ length-map (cycles_on g e (exactly c) (first n)) cycle
      ∙ cycles_length (listing g e) (number g e) as_many no_empty (length (first n)) c (first n) (labels_are n) (omega arith)
      ∙ ap (labelled_cycles (number g e) c) (supply_size g.universe n)

pub labelled_containers_are_counted : LabelledContainersAreCounted
labelled_containers_are_counted = record {
  sequences = λ g container e card c n spec founded universe there. sequences g container e card spec founded universe there c n;
  sets = λ g container e card c n spec founded universe there. sets g container e card spec founded universe there c n;
  power_sets = λ g container e card c n spec founded universe there. power_sets g container e card spec founded universe there c n;
  cycles = λ g container e card c n spec founded universe there. cycles g container e card spec founded universe there c n;
}
