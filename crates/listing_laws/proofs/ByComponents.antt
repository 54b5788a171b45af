-- The structures of a container by the number of components.
use Rattle.std.proofs.Common.{◌≡◌, ℕ, suc, ◌+◌, ◌<◌, ◌≤◌, Bool, true, false, List, [], length, map, refl, sym, ap, ◌∙◌, subst, arith, true≢false}
use Rattle.std.specs.Prelude.{if◌then◌else◌}
use Rattle.std.specs.List.{flat_map, range_with_len, sum}
use Rattle.std.proofs.lemmas.Bool.{and_parts, and_from}
use Rattle.std.proofs.lemmas.List.{length-map}
use Rattle.lists.specs.Enumeration.{IsIn, Enumerated}
use Rattle.lists.proofs.Enumerated as enumerated
use Rattle.lists.proofs.Places.{is_empty}
use Rattle.lists.proofs.RangeSums.{length_made, sum_same}
use Rattle.spec_syntax.specs.declared.statement.Universe.{Universe}
use Rattle.spec_syntax.specs.declared.statement.Universe.TheVariants.{Unlabelled}
use Rattle.spec_syntax.specs.declared.expr.Kind.{Kind}
use Rattle.spec_syntax.specs.declared.expr.Kind.TheVariants as kind
use Rattle.spec_syntax.specs.declared.expr.Card.{Card}
use Rattle.spec_syntax.specs.Card.{admits}
use Rattle.spec_syntax.specs.Expression as expr
use Rattle.spec_syntax.specs.Expression.{Expression}
use Rattle.spec_syntax.specs.Grammar.{Grammar}
use Rattle.struct_model.specs.declared.tree.Form5.TheVariants as form
use Rattle.struct_model.specs.Structure.{Structure, Tup, Structures, no_parts, more_parts, part_list, size}
use Rattle.struct_model.specs.Membership.{is_of, is_supply, supply}
use Rattle.struct_model.specs.Listing.{Before, IsOne}
use Rattle.struct_model.specs.Bounded.{listing, number}
use Rattle.struct_model.proofs.OrderLaws.{order_strict}
use Rattle.struct_model.proofs.SupplyLaws.{supply_is, supply_size}
use Rattle.well_founded.proofs.ManyLaws.{component_is}
use Rattle.count_laws.specs.Multisets.{multisets, subsets}
use Rattle.count_laws.proofs.MappedSorted.{multisets_by_sizes, subsets_by_sizes}
use Rattle.listing_laws.specs.Numbers.{exactly, admitted}
use Rattle.listing_laws.specs.Laws.{IsListing, IsNeverEmpty}
use Rattle.listing_laws.specs.SetListing.{set, power_set, elements}
use Rattle.listing_laws.specs.ContainerNumbers.{ContainersAreCounted}
use Rattle.listing_laws.proofs.BuildingUp.{part_count, few_parts}
use Rattle.listing_laws.proofs.Containers.{container_is}
use Rattle.listing_laws.proofs.Listed.{listing_sound}
use Rattle.listing_laws.proofs.Ranges.{Less as Below, IsBetween, range_is}
use Rattle.listing_laws.proofs.Recursion.{well_founded_is_listed}
use Rattle.listing_laws.proofs.SameMany.{Differs, each_once, same_many}
use Rattle.listing_laws.proofs.Sizes.{size_is}
use Rattle.listing_laws.proofs.UnlabelledSets.{exactly_admits, exactly_is, element_is_full, unlabelled_sets_are_listed}

-- the number of components
abbrev count : Structure → ℕ
count (Tup f ps) = length (part_list ps)
count s = 0

counted : (ps : Structures) → length (part_list ps) ≡ part_count ps
counted no_parts = refl
counted (more_parts s ps) = ap suc (counted ps)

module _ (g : Grammar) (e : Expression) where
  abbrev Has : Kind → Card → Structure → Type 0
  Has kind card s = is_of g (expr.Many kind e card) s ≡ true

  -- a structure keeps the bound
  within_bound : (kind : Kind) (card : Card) (s : Structure) → Has kind card s → admits card (count s) ≡ true
  within_bound kind.Sequence card (Tup form.Sequence ps) of = (and_parts _ _ of).0
  within_bound kind.Set card (Tup form.Set ps) of = (and_parts _ _ (and_parts _ _ of).0).0
  within_bound kind.PowerSet card (Tup form.PowerSet ps) of = (and_parts _ _ (and_parts _ _ of).0).0
  within_bound kind.Cycle card (Tup form.Cycle ps) of = (and_parts _ _ (and_parts _ _ (and_parts _ _ (and_parts _ _ of).0).0).0).1
  within_bound kind.Sequence card s of = absurd (true≢false (sym of))
  within_bound kind.Set card s of = absurd (true≢false (sym of))
  within_bound kind.PowerSet card s of = absurd (true≢false (sym of))
  within_bound kind.Cycle card s of = absurd (true≢false (sym of))

  -- and it is one with each other bound that admits its components
  rebound : (kind : Kind) (card other : Card) (s : Structure) → Has kind card s → admits other (count s) ≡ true → Has kind other s
  rebound kind.Sequence card other (Tup form.Sequence ps) of admitted = and_from _ _ admitted (and_parts _ _ of).1
  rebound kind.Set card other (Tup form.Set ps) of admitted =
      let both = and_parts _ _ of in
      and_from _ _ (and_from _ _ admitted (and_parts _ _ both.0).1) both.1
  rebound kind.PowerSet card other (Tup form.PowerSet ps) of admitted =
      let both = and_parts _ _ of in
      and_from _ _ (and_from _ _ admitted (and_parts _ _ both.0).1) both.1
  rebound kind.Cycle card other (Tup form.Cycle ps) of admitted =
      let ones = and_parts _ _ of in
      let least = and_parts _ _ ones.0 in
      let some = and_parts _ _ least.0 in
      let bound = and_parts _ _ some.0 in
      and_from _ _ (and_from _ _ (and_from _ _ (and_from _ _ bound.0 admitted) some.1) least.1) ones.1
  rebound kind.Sequence card other s of admitted = absurd (true≢false (sym of))
  rebound kind.Set card other s of admitted = absurd (true≢false (sym of))
  rebound kind.PowerSet card other s of admitted = absurd (true≢false (sym of))
  rebound kind.Cycle card other s of admitted = absurd (true≢false (sym of))

  module _ (never_empty : IsNeverEmpty g e) where
    -- no structure has more components than atoms
    few_components : (kind : Kind) (card : Card) (s : Structure) → Has kind card s → count s ≤ size s
    few_components kind card (Tup f ps) of =
        omega (arith, counted ps, few_parts ps (λ t there. never_empty t (component_is g e ps t (container_is g kind e card f ps of).are there)))
    few_components kind card s of = omega arith

    module _ (kind : Kind) (card : Card) (listed : (other : Card) → IsListing g (expr.Many kind e other)) (labels_are : List ℕ) (supplied : is_supply g.universe labels_are ≡ true) where
      abbrev pub on : Card → List Structure
      on other = listing g (expr.Many kind e other) labels_are

      -- those with c components, where the bound admits them
      abbrev pub row : ℕ → List Structure
      row c = if admits card c then on (exactly c) else []

      abbrev InRow : ℕ → Structure → Type 0
      InRow c s = (admits card c ≡ true) × IsOne g (expr.Many kind e (exactly c)) labels_are s

      pub each_listed : (other : Card) → Enumerated Differs (IsOne g (expr.Many kind e other) labels_are) (on other)
      each_listed other = each_once Before (IsOne g (expr.Many kind e other) labels_are) (on other) order_strict ((listed other).lists labels_are supplied)

      row_is : (c : ℕ) → Enumerated Differs (InRow c) (row c)
      row_is c = by (admits card c) refl
        where
          by : (b : Bool) → admits card c ≡ b → Enumerated Differs (InRow c) (if b then on (exactly c) else [])
          by true admitted =
              enumerated.same_property Differs (IsOne g (expr.Many kind e (exactly c)) labels_are) (InRow c) (on (exactly c)) (each_listed (exactly c)) (λ s one. (admitted, one)) (λ s p. p.1)
          by false refused = enumerated.none Differs (InRow c) (λ s p. true≢false (sym p.0 ∙ refused))

      count_is : (c : ℕ) (s : Structure) → Has kind (exactly c) s → count s ≡ c
      count_is c s of = exactly_is c (count s) (within_bound kind (exactly c) s of)

      apart : (a b : ℕ) → a < b → (s t : Structure) → InRow a s → InRow b t → s ≡ t → ⊥
      apart a b less s t p q same = omega (arith, count_is a s p.1.0, count_is b t q.1.0, ap count same)

      found : (s : Structure) → IsOne g (expr.Many kind e card) labels_are s → (c : ℕ) × IsBetween 0 (length labels_are + 1) c × InRow c s
      found s one = (
        count s,
        (omega arith, omega (arith, few_components kind card s one.0, size_is labels_are s one.1)),
        (within_bound kind card s one.0, (rebound kind card (exactly (count s)) s one.0 (exactly_admits (count s)), one.1)),
      )

      pub rows_are : Enumerated Differs (IsOne g (expr.Many kind e card) labels_are) (flat_map row (range_with_len 0 (length labels_are + 1)))
      rows_are =
          enumerated.made Below (IsBetween 0 (length labels_are + 1)) Differs InRow (IsOne g (expr.Many kind e card) labels_are) row (range_with_len 0 (length labels_are + 1))
          (range_is 0 (length labels_are + 1))
          (λ c between. row_is c)
          (λ a b p q less s t. apart a b less s t)
          (λ c s between p. (rebound kind (exactly c) card s p.1.0 (subst (λ (k : ℕ). admits card k ≡ true) (sym (count_is c s p.1.0)) p.0), p.1.1))
          found

    module _ (kind : Kind) (card : Card) (listed : (other : Card) → IsListing g (expr.Many kind e other)) (n : ℕ) where
      abbrev whole : List ℕ
      whole = supply g.universe n

      abbrev row_of : ℕ → List Structure
      row_of = row kind card listed whole (supply_is g.universe n)

      row_length : (c : ℕ) → length (row_of c) ≡ (if admits card c then number g (expr.Many kind e (exactly c)) n else 0)
      row_length c = by (admits card c)
        where
          by : (b : Bool) → length (if b then listing g (expr.Many kind e (exactly c)) whole else []) ≡ (if b then number g (expr.Many kind e (exactly c)) n else 0)
          by true = refl
          by false = refl

      by_components : number g (expr.Many kind e card) n ≡ admitted card (λ c. number g (expr.Many kind e (exactly c)) n) n
      by_components =
          same_many (IsOne g (expr.Many kind e card) whole) (listing g (expr.Many kind e card) whole) (flat_map row_of (range_with_len 0 (length whole + 1)))
          (each_listed kind card listed whole (supply_is g.universe n) card)
          (rows_are kind card listed whole (supply_is g.universe n))
          ∙ length_made row_of (range_with_len 0 (length whole + 1))
          ∙ ap (λ (k : ℕ). sum (map (λ c. length (row_of c)) (range_with_len 0 (k + 1)))) (supply_size g.universe n)
          ∙ sum_same (λ c. length (row_of c)) (λ c. if admits card c then number g (expr.Many kind e (exactly c)) n else 0) (range_with_len 0 (n + 1)) (λ c there. row_length c)

    few : (kind : Kind) (c n : ℕ) → n < c → number g (expr.Many kind e (exactly c)) n ≡ 0
    few kind c n less = ap length (is_empty (listing g (expr.Many kind e (exactly c)) (supply g.universe n)) none)
      where
        none : (s : Structure) → IsIn s (listing g (expr.Many kind e (exactly c)) (supply g.universe n)) → ⊥
        none s there =
            let one = listing_sound g (expr.Many kind e (exactly c)) (supply g.universe n) s there in
            omega (
              arith,
              less,
              few_components kind (exactly c) s one.0,
              exactly_is c (count s) (within_bound kind (exactly c) s one.0),
              size_is (supply g.universe n) s one.1,
              supply_size g.universe n,
            )

-- ---- the law

number_at : (g : Grammar) (e : Expression) (n : ℕ) → g.universe ≡ Unlabelled → number g e n ≡ length (listing g e (supply Unlabelled n))
number_at g e n unlabelled = ap (λ (u : Universe). length (listing g e (supply u n))) unlabelled

pub containers_are_counted : ContainersAreCounted
containers_are_counted = record {
  by_components = λ g kind e card n spec founded there.
      by_components g e (element_is_full g kind e card spec founded there) kind card
      (λ other. well_founded_is_listed.containers g kind kind e card other spec founded there) n;
  few = λ g kind e card c n spec founded there less. few g e (element_is_full g kind e card spec founded there) kind c n less;
  sets = λ g e card c n spec founded unlabelled there.
      number_at g (expr.Many kind.Set e (exactly c)) n unlabelled
      ∙ ap length (unlabelled_sets_are_listed.sets g e card c n spec founded unlabelled there) ∙ length-map (multisets size (elements g e n) c n) set
      ∙ multisets_by_sizes size (elements g e n) c n
      ∙ ap (λ (ds : List ℕ). length (multisets (λ (d : ℕ). d) ds c n)) (unlabelled_sets_are_listed.sizes g e n unlabelled);
  power_sets = λ g e card c n spec founded unlabelled there.
      number_at g (expr.Many kind.PowerSet e (exactly c)) n unlabelled
      ∙ ap length (unlabelled_sets_are_listed.power_sets g e card c n spec founded unlabelled there) ∙ length-map (subsets size (elements g e n) c n) power_set
      ∙ subsets_by_sizes size (elements g e n) c n
      ∙ ap (λ (ds : List ℕ). length (subsets (λ (d : ℕ). d) ds c n)) (unlabelled_sets_are_listed.sizes g e n unlabelled);
}
