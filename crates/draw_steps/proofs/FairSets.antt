-- A labelled set is met from each of its components.
use Rattle.std.proofs.Common.{◌≡◌, ℕ, suc, ◌<◌, Bool, true, false, ◌&&◌, List, [], ◌∷◌, ◌++◌, map, flat_map, length, refl, sym, ap, ◌∙◌, subst, inl, true≢false, arith}
use Rattle.std.proofs.lemmas.Bool.{and_parts, and_from}
use Rattle.std.proofs.lemmas.List.{map-append}
use Rattle.lists.specs.Ascending.{ascending}
use Rattle.lists.specs.Enumeration.{IsIn, Ascends, Enumerated}
use Rattle.spec_syntax.specs.declared.expr.Card.{Card}
use Rattle.spec_syntax.specs.declared.expr.Kind.{Kind}
use Rattle.spec_syntax.specs.declared.statement.Universe.{Universe}
use Rattle.spec_syntax.specs.declared.statement.Universe.TheVariants.{Labelled}
use Rattle.spec_syntax.specs.Card.{admits}
use Rattle.spec_syntax.specs.Expression.{Expression, Many}
use Rattle.spec_syntax.specs.Rules.{all_nodes, is_spec}
use Rattle.spec_syntax.specs.Grammar.{Grammar}
use Rattle.struct_model.specs.Structure.{Structure, Structures, part_list, parts_of}
use Rattle.struct_model.specs.Order.{is_sorted, is_strictly_sorted}
use Rattle.struct_model.specs.Membership.{is_of, are_of, is_supply}
use Rattle.struct_model.specs.Listing.{Before, Lists}
use Rattle.struct_model.specs.Bounded.{listing}
use Rattle.well_founded.specs.WellFounded.{IsWellFounded}
use Rattle.count_laws.specs.Pointed.{MeetsTimes}
use Rattle.splits.specs.Splits.{Split, splits}
use Rattle.listing_laws.specs.Lister.{by_splits, each_before}
use Rattle.listing_laws.specs.Numbers.{exactly}
use Rattle.listing_laws.specs.LeastFirst.{sets_on}
use Rattle.listing_laws.proofs.Components.{AreWith, list_back}
use Rattle.listing_laws.proofs.LeastSets.{are_set, sets_are}
use Rattle.listing_laws.proofs.OrderFacts.{PartsBefore}
use Rattle.listing_laws.proofs.UnlabelledSets.{exactly_admits, exactly_is}
use Rattle.canon.specs.Sorted.{with_item}
use Rattle.canon.proofs.SortedLists.{with_item_sorted}
use Rattle.choice_laws.proofs.Rearranged.{met_by_fibres}
use Rattle.draw_steps.proofs.FairListings as listings
use Rattle.draw_steps.proofs.FairListings.{lists_once}
use Rattle.draw_steps.proofs.FairPulled.{labels_in, item_length, item_labels, item_are, ascends_strict, sorted_ascends, pulled, merged, length_pulled, in_pulled, pulled_is, merged_pulled, pulled_differ}

module _ (g : Grammar) (container : Kind) (e : Expression) (card : Card) (spec : is_spec g.rules ≡ true) (founded : IsWellFounded g) (there : IsIn (Many container e card) (all_nodes g.rules))
    (universe : g.universe ≡ Labelled) where
  abbrev pub sets : ℕ → List ℕ → List (List Structure)
  sets c u = sets_on g e (exactly c) u

  labelled : (u : List ℕ) → is_supply g.universe u ≡ true → is_supply Labelled u ≡ true
  labelled u supplied = ap (λ (all : Universe). is_supply all u) (sym universe) ∙ supplied

  first_lists : (v : List ℕ) → is_supply Labelled v ≡ true → Lists g e v (listing g e v)
  first_lists v given = (listings.element_listed g container e card spec founded there).lists v (ap (λ (all : Universe). is_supply all v) universe ∙ given)

  -- is the list one of so many components, sorted in this way
  abbrev pub passes : Bool → ℕ → Structures → Bool
  passes strict c ps = are_set g e (listings.never_empty g container e card spec founded there) strict (exactly c) ps

  pub sets_listed : (strict : Bool) (c : ℕ) (u : List ℕ) → is_supply g.universe u ≡ true → Enumerated PartsBefore (AreWith (passes strict c) u) (sets c u)
  sets_listed strict c u supplied =
      sets_are g e (listings.never_empty g container e card spec founded there) strict (listing g e) first_lists (length u) (exactly c) u (labelled u supplied) (omega arith)

  -- what a list that passes is
  pub record Passes (c : ℕ) (u : List ℕ) (ss : List Structure) : Type 0 where
    pub count : length ss ≡ c
    pub sorted : is_sorted ss ≡ true
    pub are : are_of g e (parts_of ss) ≡ true
    pub whole : ascending (labels_in ss) ≡ u

  pub from_passes : (c : ℕ) (u : List ℕ) (ss : List Structure) → AreWith (passes false c) u ss → Passes c u ss
  from_passes c u ss p =
      let both = and_parts _ _ p.0 in
      let counted = and_parts _ _ both.0 in
      record {
        count = sym (ap length (list_back ss)) ∙ exactly_is c (length (part_list (parts_of ss))) counted.0;
        sorted = sym (ap is_sorted (list_back ss)) ∙ counted.1;
        are = both.1;
        whole = p.1;
      }

  pub to_passes : (c : ℕ) (u : List ℕ) (ss : List Structure) → Passes c u ss → AreWith (passes false c) u ss
  to_passes c u ss p = (
    and_from _ _
        (and_from _ _ (ap (admits (exactly c)) (ap length (list_back ss) ∙ p.count) ∙ exactly_admits c) (ap is_sorted (list_back ss) ∙ p.sorted))
        p.are,
    p.whole,
  )

  -- no two components of a set are the same
  pub set_ascends : (c : ℕ) (u : List ℕ) (ss : List Structure) → is_supply g.universe u ≡ true → AreWith (passes false c) u ss → Ascends Before ss
  set_ascends c u ss supplied p =
      let strict = (sets_listed true c u supplied).sound ss ((sets_listed false c u supplied).complete ss p) in
      ascends_strict ss (sym (ap is_strictly_sorted (list_back ss)) ∙ (and_parts _ _ (and_parts _ _ strict.0).0).1)

  -- ---- with a first component

  abbrev Behind : ℕ → List ℕ → List Structure → Type 0
  Behind c u ss = AreWith (listings.one_more g container e card spec founded there (passes false c)) u ss

  put_in : (c : ℕ) (u : List ℕ) (x : List Structure) → Behind c u x → AreWith (passes false (suc c)) u (merged x)
  put_in c u [] p = absurd (true≢false (sym p.0))
  put_in c u (s ∷ ss) p =
      let both = and_parts (is_of g e s) (passes false c (parts_of ss)) p.0 in
      let others = from_passes c (ascending (labels_in ss)) ss (both.1, refl) in
      to_passes (suc c) u (with_item s ss) (record {
        count = item_length s ss ∙ ap suc others.count;
        sorted = with_item_sorted s ss others.sorted;
        are = item_are g e s ss ∙ and_from _ _ both.0 others.are;
        whole = item_labels s ss ∙ p.1;
      })

  in_its_fibre : (c : ℕ) (u : List ℕ) (x : List Structure) → Behind c u x → IsIn x (pulled (merged x))
  in_its_fibre c u [] p = absurd (true≢false (sym p.0))
  in_its_fibre c u (s ∷ ss) p = in_pulled s ss

  taken_out : (c : ℕ) (u : List ℕ) (ss : List Structure) → is_supply g.universe u ≡ true → AreWith (passes false (suc c)) u ss → (x : List Structure) → IsIn x (pulled ss) → Behind c u x
  taken_out c u ss supplied p x at =
      let pulls = pulled_is ss (set_ascends (suc c) u ss supplied p) x at in
      let whole = from_passes (suc c) u ss p in
      let are : is_of g e pulls.first && are_of g e (parts_of pulls.others) ≡ true = sym (item_are g e pulls.first pulls.others) ∙ ap (λ ts. are_of g e (parts_of ts)) pulls.back ∙ whole.are in
      let ones = and_parts (is_of g e pulls.first) (are_of g e (parts_of pulls.others)) are in
      let long : suc (length pulls.others) ≡ suc c = sym (item_length pulls.first pulls.others) ∙ ap length pulls.back ∙ whole.count in
      let others = to_passes c (ascending (labels_in pulls.others)) pulls.others (record {
        count = omega (arith, long);
        sorted = sorted_ascends pulls.others pulls.sorted;
        are = ones.1;
        whole = refl;
      }) in
      subst (Behind c u) (sym pulls.is)
      (and_from _ _ ones.0 others.0, sym (item_labels pulls.first pulls.others) ∙ ap (λ ts. ascending (labels_in ts)) pulls.back ∙ whole.whole)

  merged_before : (firsts : List Structure) (others : List (List Structure)) → map merged (each_before firsts others) ≡ flat_map (λ s. map (with_item s) others) firsts
  merged_before [] others = refl
  merged_before (s ∷ ss) others =
      map-append merged (map (λ rest. s ∷ rest) others) (each_before ss others) ∙ (λ i. one others i ++ merged_before ss others i)
    where
      one : (others : List (List Structure)) → map merged (map (λ rest. s ∷ rest) others) ≡ map (with_item s) others
      one [] = refl
      one (rest ∷ more) = ap (λ tail. with_item s rest ∷ tail) (one more)

  merged_splits : (c : ℕ) (ss : List Split)
      → map merged (flat_map (λ split. each_before (listing g e split.part) (sets c split.rest)) ss)
      ≡ flat_map (λ split. flat_map (λ s. map (with_item s) (sets c split.rest)) (listing g e split.part)) ss
  merged_splits c [] = refl
  merged_splits c (split ∷ ss) =
      map-append merged (each_before (listing g e split.part) (sets c split.rest)) (flat_map (λ split. each_before (listing g e split.part) (sets c split.rest)) ss)
      ∙ (λ i. merged_before (listing g e split.part) (sets c split.rest) i ++ merged_splits c ss i)

  pub sets_meet : (c : ℕ) (u : List ℕ) → is_supply g.universe u ≡ true
      → MeetsTimes (suc c) (flat_map (λ split. flat_map (λ s. map (with_item s) (sets c split.rest)) (listing g e split.part)) (splits u)) (sets (suc c) u)
  sets_meet c u supplied =
      subst (λ (met : List (List Structure)). MeetsTimes (suc c) met (sets (suc c) u)) (merged_splits c (splits u))
      (met_by_fibres (suc c) merged pulled (Behind c u) (AreWith (passes false (suc c)) u) (by_splits (listing g e) (sets c) u) (sets (suc c) u)
      (lists_once (Behind c u) (by_splits (listing g e) (sets c) u)
      (listings.firsts_with g container e card spec founded there (passes false c) (sets c) u supplied (λ v given. sets_listed false c v given)))
      (lists_once (AreWith (passes false (suc c)) u) (sets (suc c) u) (sets_listed false (suc c) u supplied))
      (λ ss p. pulled_differ ss (set_ascends (suc c) u ss supplied p))
      (λ ss p. length_pulled ss ∙ (from_passes (suc c) u ss p).count)
      (λ ss p x at. (taken_out c u ss supplied p x at, merged_pulled ss (set_ascends (suc c) u ss supplied p) x at))
      (λ x w. (put_in c u x w, in_its_fibre c u x w)))

  pub none_set : (u : List ℕ) → is_supply g.universe u ≡ true → 0 < length (sets 0 u) → sets 0 u ≡ [] ∷ []
  none_set [] supplied some = refl
  none_set (label ∷ left) supplied some = absurd (by (sets 0 (label ∷ left)) refl some)
    where
      never : (ss : List Structure) → AreWith (passes false 0) (label ∷ left) ss → ⊥
      never [] p = no_label p.1
        where
          no_label : [] ≡ label ∷ left → ⊥
          no_label h = cc
      never (s ∷ ss) p = let same = (from_passes 0 (label ∷ left) (s ∷ ss) p).count in omega (arith, same)

      by : (sss : List (List Structure)) → sets 0 (label ∷ left) ≡ sss → 0 < length sss → ⊥
      by [] is some = omega (arith, some)
      by (ss ∷ sss) is some = never ss ((sets_listed false 0 (label ∷ left) supplied).sound ss (subst (IsIn ss) (sym is) (inl refl)))
