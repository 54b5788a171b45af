-- Without labels the Sets and PowerSets with so many components are the multisets and subsets of the elements.
use Rattle.std.proofs.Common.{◌≡◌, ℕ, zero, suc, ◌≤◌, Bool, true, false, List, [], ◌∷◌, ◌++◌, map, length, length-append, replicate, refl, sym, ap, ◌∙◌, subst, inl, inr, arith, nat_cmp, IsTrue, None}
use Rattle.std.specs.List.{flat_map, range_with_len, sum}
use Rattle.std.specs.Cmp.Lexicographic.{slice_cmp}
use Rattle.std.proofs.lemmas.Bool.{and_parts, and_from, cases_lt}
use Rattle.std.proofs.lemmas.Bool.Decides.{nat_tests}
use Rattle.std.proofs.lemmas.List.{length-replicate, map-append}
use Rattle.lists.specs.Ascending.{ascending}
use Rattle.lists.specs.Enumeration.{IsIn, Enumerated}
use Rattle.lists.proofs.Ascending.{Each, each_append, each_left, each_right, each_ascending, from_ascending, length-ascending}
use Rattle.lists.proofs.Enumerated as enumerated
use Rattle.lists.proofs.Sums.{sum_more}
use Rattle.spec_syntax.specs.declared.statement.Universe.{Universe}
use Rattle.spec_syntax.specs.declared.statement.Universe.TheVariants.{Unlabelled}
use Rattle.spec_syntax.specs.declared.expr.Kind.{Kind}
use Rattle.spec_syntax.specs.declared.expr.Kind.TheVariants as kind
use Rattle.spec_syntax.specs.declared.expr.Card.{Card}
use Rattle.spec_syntax.specs.Card.{admits}
use Rattle.spec_syntax.specs.Expression as expr
use Rattle.spec_syntax.specs.Expression.{Expression}
use Rattle.spec_syntax.specs.Rules.{all_nodes, is_spec}
use Rattle.spec_syntax.specs.Grammar.{Grammar}
use Rattle.struct_model.specs.declared.tree.Form5.TheVariants as form
use Rattle.struct_model.specs.Structure.{Structure, part_list, parts_of, labels, labels_of_parts, size, key}
use Rattle.struct_model.specs.Membership.{is_of, are_of, supply, is_supply}
use Rattle.struct_model.specs.Listing.{Before, IsOne, Lists}
use Rattle.struct_model.specs.Bounded.{listing, number}
use Rattle.struct_model.proofs.OrderLaws.{order_strict}
use Rattle.struct_model.proofs.SupplyLaws.{supply_is}
use Rattle.well_founded.specs.WellFounded.{IsWellFounded}
use Rattle.well_founded.proofs.ManyLaws.{component_is}
use Rattle.well_founded.proofs.EndlessLaws.{in_size}
use Rattle.splits.proofs.ZeroParts.{zeros_before}
use Rattle.count_laws.specs.Multisets.{multisets, subsets}
use Rattle.count_laws.specs.SortedLists.{IsSorted}
use Rattle.count_laws.proofs.SortedLists.{IsLexicographic, multisets_are, subsets_are}
use Rattle.listing_laws.specs.Numbers.{exactly}
use Rattle.listing_laws.specs.Laws.{IsListing, IsNeverEmpty}
use Rattle.listing_laws.specs.SetListing.{set, power_set, elements, IsUpTo, UnlabelledSetsAreListed}
use Rattle.listing_laws.proofs.Components.{AreWith, list_back, together_are}
use Rattle.listing_laws.proofs.Listed.{listed_size}
use Rattle.listing_laws.proofs.OrderFacts.{PartsBefore, before_by_key, before_by_first, before_by_others}
use Rattle.listing_laws.proofs.Ranges.{Less as Below, IsBetween, range_is}
use Rattle.listing_laws.proofs.Ranked.{child_at, element_full}
use Rattle.listing_laws.proofs.Recursion.{well_founded_is_listed}
use Rattle.listing_laws.proofs.Sizes.{size_is}
use Rattle.listing_laws.proofs.SortedComponents.{are_going_on, set_together, power_set_together}
use Rattle.listing_laws.proofs.SortedParts.{are_sorted, sorted_from, sorted_is}

-- ---- labels that are all 0

abbrev IsZero : ℕ → Type 0
IsZero l = l ≡ 0

zeros_each : (n : ℕ) → Each IsZero (replicate n 0)
zeros_each zero = tt
zeros_each (suc n) = (refl, zeros_each n)

all_zeros : (ls : List ℕ) → Each IsZero ls → ls ≡ replicate (length ls) 0
all_zeros [] each = refl
all_zeros (l ∷ ls) each = λ i. each.0 i ∷ all_zeros ls each.1 i

-- labels that are all 0 are told by their number
zeros_ascend : (n : ℕ) (ls : List ℕ) → Each IsZero ls → length ls ≡ n → ascending ls ≡ replicate n 0
zeros_ascend n ls each same = all_zeros (ascending ls) (each_ascending IsZero ls each) ∙ ap (λ (k : ℕ). replicate k 0) (length-ascending ls ∙ same)

zeros_from : (n : ℕ) (ls : List ℕ) → ascending ls ≡ replicate n 0 → Each IsZero ls
zeros_from n ls same = from_ascending IsZero ls (subst (Each IsZero) (sym same) (zeros_each n))

-- ---- the labels of components

abbrev all_labels : List Structure → List ℕ
all_labels ss = labels_of_parts (parts_of ss)

labels_total : (ss : List Structure) → length (all_labels ss) ≡ sum (map size ss)
labels_total [] = refl
labels_total (s ∷ ss) = omega (arith, length-append (labels s) (all_labels ss), labels_total ss, sum_more (size s) (map size ss))

each_labels : (P : ℕ → Type 0) (ss : List Structure) → ((s : Structure) → IsIn s ss → Each P (labels s)) → Each P (all_labels ss)
each_labels P [] each = tt
each_labels P (s ∷ ss) each = each_append P (labels s) (all_labels ss) (each s (inl refl)) (each_labels P ss (λ t there. each t (inr there)))

labels_in : (P : ℕ → Type 0) (ss : List Structure) → Each P (all_labels ss) → (s : Structure) → IsIn s ss → Each P (labels s)
labels_in P [] all s there = absurd there
labels_in P (t ∷ ss) all s (inl same) = subst (λ (u : Structure). Each P (labels u)) (sym same) (each_left P (labels t) (all_labels ss) all)
labels_in P (t ∷ ss) all s (inr there) = labels_in P ss (each_right P (labels t) (all_labels ss) all) s there

-- no component has more labels than all of them
size_within : (ss : List Structure) (s : Structure) → IsIn s ss → size s ≤ length (all_labels ss)
size_within ss s there = in_size (parts_of ss) s (subst (IsIn s) (sym (list_back ss)) there)

parts_first : IsLexicographic Before PartsBefore
parts_first = record { first = λ s t ss ts before. before_by_first s t ss ts before; others = λ s ss ts before. before_by_others s ss ts before }

sizes_of : (d : ℕ) (ss : List Structure) → ((s : Structure) → IsIn s ss → size s ≡ d) → map size ss ≡ replicate (length ss) d
sizes_of d [] each = refl
sizes_of d (s ∷ ss) each = λ i. each s (inl refl) i ∷ sizes_of d ss (λ t there. each t (inr there)) i

pub exactly_admits : (c : ℕ) → admits (exactly c) c ≡ true
exactly_admits c = grind (arith, nat_tests)

pub exactly_is : (c k : ℕ) → admits (exactly c) k ≡ true → k ≡ c
exactly_is c k h = grind (arith, nat_tests)

module _ (g : Grammar) (e : Expression) (unlabelled : g.universe ≡ Unlabelled) where
  zeros_supplied : (n : ℕ) → is_supply g.universe (supply Unlabelled n) ≡ true
  zeros_supplied n = subst (λ (u : Universe). is_supply u (supply Unlabelled n) ≡ true) (sym unlabelled) (supply_is Unlabelled n)

  sizes_listed : (ds : List ℕ) → map size (flat_map (λ d. listing g e (supply Unlabelled d)) ds) ≡ flat_map (λ d. replicate (number g e d) d) ds
  sizes_listed [] = refl
  sizes_listed (d ∷ ds) =
      map-append size (listing g e (supply Unlabelled d)) (flat_map (λ k. listing g e (supply Unlabelled k)) ds) ∙ (λ i. firsts i ++ sizes_listed ds i)
    where
      firsts : map size (listing g e (supply Unlabelled d)) ≡ replicate (number g e d) d
      firsts =
          sizes_of d (listing g e (supply Unlabelled d)) (λ s there. listed_size g e (supply Unlabelled d) s there ∙ length-replicate {A = ℕ} d 0)
          ∙ ap (λ (u : Universe). replicate (length (listing g e (supply u d))) d) (sym unlabelled)

  module _ (is_listing : IsListing g e) (never_empty : IsNeverEmpty g e) where
    key_size : (d : ℕ) (s : Structure) → key s ≡ supply Unlabelled d → size s ≡ d
    key_size d s same = size_is (supply Unlabelled d) s same ∙ length-replicate {A = ℕ} d 0

    -- ---- the elements

    pub elements_are : (n : ℕ) → Enumerated Before (IsUpTo g e n) (elements g e n)
    elements_are n =
        enumerated.made Below (IsBetween 1 n) Before (λ d s. IsOne g e (supply Unlabelled d) s) (IsUpTo g e n) (λ d. listing g e (supply Unlabelled d)) (range_with_len 1 n)
        (range_is 1 n)
        (λ d between. is_listing.lists (supply Unlabelled d) (zeros_supplied d))
        (λ a b p q less s t one other. before_by_key s t ((λ i. slice_cmp nat_cmp (one.1 i) (other.1 i)) ∙ zeros_before a b less))
        (λ d s between one. (d, omega (arith, between.1), one))
        (λ s up_to. (up_to.0, (some up_to.0 s up_to.2, omega (arith, up_to.1)), up_to.2))
      where
        some : (d : ℕ) (s : Structure) → IsOne g e (supply Unlabelled d) s → 1 ≤ d
        some d s one = elim (cases_lt 0 d) [
          | inl more ↦ omega arith
          | inr none ↦ absurd (never_empty s one.0 (omega (arith, key_size d s one.1)))
        ]

    -- ---- sorted lists of them

    are_from : (ss : List Structure) → ((s : Structure) → IsIn s ss → is_of g e s ≡ true) → are_of g e (parts_of ss) ≡ true
    are_from [] each = refl
    are_from (s ∷ ss) each = and_from _ _ (each s (inl refl)) (are_from ss (λ t there. each t (inr there)))

    module _ (strict : Bool) (c n : ℕ) where
      to_ones : (ss : List Structure) → IsSorted strict Before size (elements g e n) c n ss → AreWith (are_going_on g e strict None (exactly c)) (supply Unlabelled n) ss
      to_ones ss s = (
        and_from _ _
            (and_from _ _
            (ap (λ (ts : List Structure). admits (exactly c) (length ts)) (list_back ss) ∙ ap (admits (exactly c)) s.count ∙ exactly_admits c)
            (ap (are_sorted strict) (list_back ss) ∙ sorted_is strict ss s.sorted))
            (are_from ss (λ t there. (one t there).2.0)),
        zeros_ascend n (all_labels ss) (each_labels IsZero ss (λ t there. zeros_from (one t there).0 (labels t) (one t there).2.1)) (labels_total ss ∙ s.total),
      )
        where
          one : (t : Structure) → IsIn t ss → IsUpTo g e n t
          one t there = (elements_are n).sound t (s.among t there)

      from_ones : (ss : List Structure) → AreWith (are_going_on g e strict None (exactly c)) (supply Unlabelled n) ss → IsSorted strict Before size (elements g e n) c n ss
      from_ones ss p =
          let passed = and_parts _ _ p.0 in
          let counted = and_parts _ _ passed.0 in
          record {
            among = λ t there. (elements_are n).complete t (
              size t,
              omega (arith, size_within ss t there, total),
              (
                component_is g e (parts_of ss) t passed.1 (subst (IsIn t) (sym (list_back ss)) there),
                zeros_ascend (size t) (labels t) (labels_in IsZero ss (zeros_from n (all_labels ss) p.1) t there) refl,
              ),
            );
            sorted = sorted_from strict ss (sym (ap (are_sorted strict) (list_back ss)) ∙ counted.1);
            count = sym (ap length (list_back ss)) ∙ exactly_is c (length (part_list (parts_of ss))) counted.0;
            total = sym (labels_total ss) ∙ total;
          }
        where
          total : length (all_labels ss) ≡ n
          total = sym (length-ascending (all_labels ss)) ∙ ap length p.1 ∙ length-replicate {A = ℕ} n 0

      ones_are : (sss : List (List Structure)) → Enumerated PartsBefore (IsSorted strict Before size (elements g e n) c n) sss
          → Enumerated PartsBefore (AreWith (are_going_on g e strict None (exactly c)) (supply Unlabelled n)) sss
      ones_are sss h =
          enumerated.same_property PartsBefore (IsSorted strict Before size (elements g e n) c n) (AreWith (are_going_on g e strict None (exactly c)) (supply Unlabelled n)) sss h to_ones from_ones

    pub sets_are : (c n : ℕ) → Lists g (expr.Many kind.Set e (exactly c)) (supply Unlabelled n) (map set (multisets size (elements g e n) c n))
    sets_are c n =
        together_are g form.Set (expr.Many kind.Set e (exactly c)) (are_going_on g e false None (exactly c)) (set_together g e (exactly c)) (supply Unlabelled n) (multisets size (elements g e n) c n)
        (ones_are false c n (multisets size (elements g e n) c n) (multisets_are order_strict PartsBefore parts_first size (elements g e n) (elements_are n).ascends c n))

    pub power_sets_are : (c n : ℕ) → Lists g (expr.Many kind.PowerSet e (exactly c)) (supply Unlabelled n) (map power_set (subsets size (elements g e n) c n))
    power_sets_are c n =
        together_are g form.PowerSet (expr.Many kind.PowerSet e (exactly c)) (are_going_on g e true None (exactly c)) (power_set_together g e (exactly c)) (supply Unlabelled n) (subsets size (elements g e n) c n)
        (ones_are true c n (subsets size (elements g e n) c n) (subsets_are order_strict PartsBefore parts_first size (elements g e n) (elements_are n).ascends c n))

-- ---- the law

module _ (g : Grammar) (kind : Kind) (e : Expression) (card : Card) (spec : IsTrue (is_spec g.rules)) (founded : IsWellFounded g) (there : IsIn (expr.Many kind e card) (all_nodes g.rules)) where
  pub element_listing : IsListing g e
  element_listing = well_founded_is_listed.nodes g e spec founded (child_at g.rules (expr.Many kind e card) [] e [] there refl)

  pub element_is_full : IsNeverEmpty g e
  element_is_full = element_full g kind e card founded.no_null_elements there

pub unlabelled_sets_are_listed : UnlabelledSetsAreListed
unlabelled_sets_are_listed = record {
  ascend = λ g kind e card n spec founded unlabelled there.
      elements_are g e unlabelled (element_listing g kind e card spec founded there) (element_is_full g kind e card spec founded there) n;
  sizes = λ g e n unlabelled. sizes_listed g e unlabelled (range_with_len 1 n);
  sets = λ g e card c n spec founded unlabelled there.
      sym ((well_founded_is_listed.containers g kind.Set kind.Set e card (exactly c) spec founded there).only (supply Unlabelled n) (map set (multisets size (elements g e n) c n))
      (zeros_supplied g e unlabelled n)
      (sets_are g e unlabelled (element_listing g kind.Set e card spec founded there) (element_is_full g kind.Set e card spec founded there) c n));
  power_sets = λ g e card c n spec founded unlabelled there.
      sym ((well_founded_is_listed.containers g kind.PowerSet kind.PowerSet e card (exactly c) spec founded there).only (supply Unlabelled n) (map power_set (subsets size (elements g e n) c n))
      (zeros_supplied g e unlabelled n)
      (power_sets_are g e unlabelled (element_listing g kind.PowerSet e card spec founded there) (element_is_full g kind.PowerSet e card spec founded there) c n));
}
