-- How the lists behind the first components split, and how many there are.
use Rattle.std.proofs.Common.{◌≡◌, ◌⊎◌, inl, inr, ℕ, zero, suc, ◌+◌, ◌-◌, ◌≤◌, ◌<◌, Bool, true, false, ◌&&◌, nat_eq, nat_lt, nat_le, List, [], ◌∷◌, ◌++◌, map, flat_map, length, drop, get_or, slice_get, Option, Some, None, All, refl, sym, ap, ◌∙◌, subst, true≢false, arith}
use Rattle.std.specs.Prelude.{IsTrue, if◌then◌else◌}
use Rattle.std.specs.Option.{option_map, option_map_or}
use Rattle.std.specs.List.{filter, range_with_len}
use Rattle.std.proofs.lemmas.Bool.{cases_lt}
use Rattle.std.proofs.lemmas.Bool.Decides.{nat_tests}
use Rattle.std.proofs.lemmas.List.FromFn.{get_or-map-range_with_len}
use Rattle.std.proofs.lemmas.Option.{slice_get_within}
use Rattle.lists.specs.Enumeration.{IsIn}
use Rattle.lists.proofs.Enumerated.{from_filter}
use Rattle.lists.proofs.FlatMaps.{same_made, nothing_of, left_out}
use Rattle.std.proofs.lemmas.List.{append-nil, length-map}
use Rattle.std.proofs.lemmas.List.Concat.{flat_map_single}
use Rattle.std.proofs.lemmas.List.Folds.{flat_map-map}
use Rattle.std.proofs.lemmas.Grind.{flat_map-append}
use Rattle.lists.proofs.Places.{is_in_get_or}
use Rattle.lists.proofs.Positions.{slice_some}
use Rattle.spec_syntax.specs.declared.expr.Card.{Card}
use Rattle.spec_syntax.specs.Card.{admits, is_within}
use Rattle.spec_syntax.specs.declared.expr.Kind.{Kind}
use Rattle.spec_syntax.specs.declared.expr.Kind.TheVariants as kind
use Rattle.spec_syntax.specs.Expression as expr
use Rattle.spec_syntax.specs.Expression.{Expression, expressions_of}
use Rattle.spec_syntax.specs.Nodes.{node_at, children_at, arguments_at}
use Rattle.struct_model.specs.Structure.{Structure, size, labels_of_parts, parts_of}
use Rattle.struct_model.specs.declared.supplies.Supply.{Supply}
use Rattle.struct_model.specs.SupplyView.{supply_labels, supply_universe}
use Rattle.struct_model.specs.Membership.{supply, is_supply}
use Rattle.struct_model.specs.Bounded.{listing, number}
use Rattle.struct_model.proofs.SupplyLaws.{supply_rises}
use Rattle.well_founded.specs.NodeKinds.{container}
use Rattle.well_founded.specs.Checked.{Checked, IsChecked, grammar}
use Rattle.splits.specs.Splits.{Split, splits, taking, leaving, begins_above}
use Rattle.splits.specs.Lengths.{is_admitted}
use Rattle.splits.specs.Parts.{has_length, has_admitted}
use Rattle.splits.proofs.SplitLaws.{splits_are}
use Rattle.splits.proofs.SplitSupplies.{split_length, split_supplies}
use Rattle.listing_laws.specs.Lister.{list_no_components, each_before, by_parts, after_one, admits_some}
use Rattle.listing_laws.specs.Numbers.{one_at}
use Rattle.listing_laws.specs.NodeListing.{HasKind, listing_on, lists_on, number_of_node}
use Rattle.listing_laws.specs.SortedNodes.{IsContained}
use Rattle.listing_laws.specs.LeastFirst.{cycle, by_least}
use Rattle.listing_laws.specs.LeastNodes.{set_lists_on, cycle_lists_on}
use Rattle.listing_laws.proofs.LeastNodes.{labelled_nodes_are_listed}
use Rattle.listing_laws.proofs.NodeLemmas.{nodes_are_listed, nodes_are_counted, supplied}
use Rattle.size_counts.specs.CountedView.{Counts, IsCounted, number_of, suffix_of}
use Rattle.struct_walk.specs.declared.tail.Tail.{Tail}
use Rattle.struct_walk.specs.declared.tail.Tail.TheVariants.{Components, Elements, SetElements, CycleElements}
use Rattle.struct_walk.specs.declared.tail.Cut.{Cut}
use Rattle.struct_walk.specs.Tails.{AreComponents, AreElements, AreSetElements, AreCycleElements, IsTail, tail_on, tail_number, cut_of, on_splits, is_end, first_splits, first_parts, HasFirst, is_open, open_lengths}
use Rattle.struct_walk.specs.SplitWalkView.{least_splits}
use Rattle.struct_walk.specs.Stands.{IsCut, CanOpen}
use Rattle.struct_walk.proofs.ReachedNodes.{reached_child}
use Rattle.struct_walk.proofs.SplitWalkLemmas.{least_within}
use Rattle.struct_walk.proofs.TailListings as listings
use Rattle.struct_walk.proofs.TailListings.{no_items}

-- ---- lists of lists

before_nothing : (firsts : List Structure) → each_before firsts [] ≡ []
before_nothing [] = refl
before_nothing (first ∷ firsts) = before_nothing firsts

nothing_first : (firsts : List Structure) (others : List (List Structure)) → length firsts ≡ 0 → each_before firsts others ≡ []
nothing_first firsts others none = ap (λ (ss : List Structure). each_before ss others) (no_items firsts none)

nothing_behind : (firsts : List Structure) (others : List (List Structure)) → length others ≡ 0 → each_before firsts others ≡ []
nothing_behind firsts others none = ap (each_before firsts) (no_items others none) ∙ before_nothing firsts

none_there : {X : Type 0} (xs : List X) (i : ℕ) → slice_get xs i ≡ None → length xs ≤ i
none_there xs i none = elim (cases_lt i (length xs)) [
  | inl less ↦ let there : Some (slice_some xs i less).0 ≡ None = sym (slice_some xs i less).1 ∙ none in absurd (cc)
  | inr past ↦ past
]

-- of all splits one leaves nothing, which has all labels in its part
whole_part : (firsts : List ℕ → List Structure) (u : List ℕ)
    → flat_map (λ split. each_before (firsts split.part) (list_no_components split.rest)) (splits u) ≡ map (λ s. s ∷ []) (firsts u)
whole_part firsts [] = append-nil (each_before (firsts []) ([] ∷ [])) ∙ flat_map_single (λ s. s ∷ []) (firsts [])
whole_part firsts (label ∷ labels) =
    ap (λ ss. ss ++ flat_map each (map (taking label) (splits labels) ++ leaves)) (before_nothing (firsts []))
    ∙ flat_map-append each (map (taking label) (splits labels)) leaves
    ∙ (λ i. (flat_map-map each (taking label) (splits labels) ∙ whole_part (λ v. firsts (label ∷ v)) labels) i ++ none (filter (begins_above label) (splits labels)) i)
    ∙ append-nil (map (λ s. s ∷ []) (firsts (label ∷ labels)))
  where
    each : Split → List (List Structure)
    each split = each_before (firsts split.part) (list_no_components split.rest)

    leaves : List Split
    leaves = map (leaving label) (filter (begins_above label) (splits labels))

    none : (ss : List Split) → flat_map each (map (leaving label) ss) ≡ []
    none ss = flat_map-map each (leaving label) ss ∙ nothing_of (λ split. each (leaving label split)) ss (λ split there. before_nothing (firsts split.part))

-- ---- numbers on supplies

-- a node has as many structures on each supply of so many labels
pub listing_number : (checked : Checked) → IsChecked checked → (node : ℕ) (u : List ℕ) → IsTrue (is_supply checked.universe u)
    → length (listing_on checked node u) ≡ number_of_node checked node (length u)
listing_number checked passed node u in_order = listings.listing_number checked passed node u in_order

pub counted_number : (counts : Counts) (node n : ℕ) → number_of counts node n ≡ number_of_node counts.checked node n
counted_number counts node n = by (node_at counts.checked.rules node)
  where
    by : (o : Option Expression) → option_map_or (λ e. number (grammar counts.checked) e n) o 0
        ≡ length (option_map_or (λ e. listing (grammar counts.checked) e (supply counts.checked.universe n)) o [])
    by None = refl
    by (Some e) = refl

-- ---- cuts

abbrev component_cut : ℕ → ℕ → ℕ → Cut
component_cut node place child = record { first = child; behind = Components node (place + 1) }

abbrev element_cut : ℕ → ℕ → Card → Cut
element_cut node element card = record { first = element; behind = Elements node element (after_one card) }

abbrev set_cut : ℕ → ℕ → Card → Cut
set_cut node element card = record { first = element; behind = SetElements node element (after_one card) }

-- a bound that is lowered admits no more
still_within : (high : Option ℕ) (c : ℕ) → is_within (option_map (λ n. n - 1) high) c ≡ true → is_within high c ≡ true
still_within None c h = refl
still_within (Some n) c h = grind (arith, nat_tests)

-- ---- tests

some_not : (m n : ℕ) → (nat_lt 0 m && nat_lt 0 n) ≡ false → (m ≡ 0) ⊎ (n ≡ 0)
some_not zero n h = inl refl
some_not (suc m) zero h = inr refl
some_not (suc m) (suc n) h = grind (arith, nat_tests)

both_some : (m n : ℕ) → (nat_lt 0 m && nat_lt 0 n) ≡ true → (0 < m) × (0 < n)
both_some m n h = (grind (arith, nat_tests), grind (arith, nat_tests))

shorter : (n high : ℕ) → n ≤ high → (nat_le 1 n && nat_le n high) ≡ false → n ≡ 0
shorter n high h left = grind (arith, nat_tests)

-- a test of a number that is another one
pub tells_some : (m n : ℕ) → m ≡ n → (IsTrue (nat_lt 0 m) → 0 < n) × (0 < n → IsTrue (nat_lt 0 m))
tells_some m n same = (λ yes. grind (arith, nat_tests), λ some. grind (arith, nat_tests))

pub tells_none : (m n : ℕ) → n ≡ one_at 0 m → (IsTrue (nat_eq m 0) → 0 < n) × (0 < n → IsTrue (nat_eq m 0))
tells_none zero n same = (λ yes. omega (arith, same), λ some. refl)
tells_none (suc m) n same = (λ yes. grind (arith, nat_tests), λ some. grind (arith, nat_tests))

-- what the lengths tell
admitted_at : (f : ℕ → Bool) (n d : ℕ) → d ≤ n → is_admitted (map f (range_with_len 0 (n + 1))) d ≡ f d
admitted_at f n d h = get_or-map-range_with_len f 0 (n + 1) d d false (omega arith) (omega arith)

module _ (counts : Counts) (is : IsCounted counts) where
  abbrev checked : Checked
  checked = counts.checked

  abbrev passed : IsChecked counts.checked
  passed = is.passed

  -- the element is that of a container
  pub elements_kind : (node element : ℕ) (card : Card) → AreElements counts node element card → (k : Kind) × HasKind counts.checked node (container k)
  elements_kind node element card h = elim h.kind [ inl sequence ↦ (kind.Sequence, sequence) | inr cycle ↦ (kind.Cycle, cycle) ]

  pub is_element : (node element : ℕ) (card : Card) → AreElements counts node element card → IsContained counts.checked element
  is_element node element card h = let k = elements_kind node element card h in record { node = node; kind = k.0; is = k.1; child = h.child }

  pub sets_kind : (node element : ℕ) (card : Card) → AreSetElements counts node element card → (k : Kind) × HasKind counts.checked node (container k)
  sets_kind node element card h = elim h.kind [ inl set ↦ (kind.Set, set) | inr power_set ↦ (kind.PowerSet, power_set) ]

  pub is_set_element : (node element : ℕ) (card : Card) → AreSetElements counts node element card → IsContained counts.checked element
  is_set_element node element card h = let k = sets_kind node element card h in record { node = node; kind = k.0; is = k.1; child = h.child }

  pub is_cycle_element : (node element : ℕ) (card : Card) → AreCycleElements counts node element card → IsContained counts.checked element
  is_cycle_element node element card h = record { node = node; kind = kind.Cycle; is = h.cycle; child = h.child }

  -- and as many lists of components
  pub tail_length : (tail : Tail) (u : List ℕ) → IsTail counts tail → IsTrue (is_supply counts.checked.universe u)
      → length (tail_on counts.checked tail u) ≡ tail_number counts.checked tail (length u)
  tail_length (Components node place) u is_tail in_order = listings.later_length checked passed node place is_tail.prod u in_order
  tail_length (Elements node element card) u is_tail in_order = listings.lists_length checked passed element (is_element node element card is_tail) card u in_order
  tail_length (SetElements node element card) u is_tail in_order =
      listings.sets_length checked passed element (is_set_element node element card is_tail) is_tail.labelled card u in_order
  tail_length (CycleElements node element card) u is_tail in_order =
      listings.cycles_length checked passed element (is_cycle_element node element card is_tail) is_tail.labelled card u in_order

  -- ---- cutting

  pub cut_is : (tail : Tail) (n : ℕ) (cut : Cut) → IsTail counts tail → cut_of counts.checked tail n ≡ Some cut → IsCut counts cut
  cut_is (Components node place) n cut is_tail h = by (slice_get (children_at checked.rules node) place) refl h
    where
      by : (o : Option ℕ) → slice_get (children_at checked.rules node) place ≡ o → option_map (component_cut node place) o ≡ Some cut → IsCut counts cut
      by None at h = absurd (cc)
      by (Some child) at h =
          let same : component_cut node place child ≡ cut = cc in
          let within : place < length (children_at checked.rules node) = slice_get_within (children_at checked.rules node) place child at in
          subst (IsCut counts) same (record {
            first = reached_child counts is node place child is_tail.reached at;
            behind = record { reached = is_tail.reached; prod = is_tail.prod; within = omega (arith, within) };
          })
  cut_is (Elements node element card) zero cut is_tail h = absurd (cc)
  cut_is (Elements node element card) (suc n) cut is_tail h =
      let same : element_cut node element card ≡ cut = cc in
      subst (IsCut counts) same (record {
        first = reached_child counts is node 0 element is_tail.reached is_tail.child;
        behind = record {
          reached = is_tail.reached;
          kind = is_tail.kind;
          child = is_tail.child;
          below = λ own c at within. is_tail.below own c at (still_within card.high c within);
        };
      })
  cut_is (SetElements node element card) zero cut is_tail h = absurd (cc)
  cut_is (SetElements node element card) (suc n) cut is_tail h =
      let same : set_cut node element card ≡ cut = cc in
      subst (IsCut counts) same (record {
        first = reached_child counts is node 0 element is_tail.reached is_tail.child;
        behind = record {
          labelled = is_tail.labelled;
          reached = is_tail.reached;
          kind = is_tail.kind;
          child = is_tail.child;
          below = λ own c at within. is_tail.below own c at (still_within card.high c within);
        };
      })
  cut_is (CycleElements node element card) zero cut is_tail h = absurd (cc)
  cut_is (CycleElements node element card) (suc n) cut is_tail h =
      let same : element_cut node element card ≡ cut = cc in
      subst (IsCut counts) same (record {
        first = reached_child counts is node 0 element is_tail.reached is_tail.child;
        behind = record {
          reached = is_tail.reached;
          kind = inr is_tail.cycle;
          child = is_tail.child;
          below = λ own c at within. own_within own c (sym at ∙ is_tail.own) (still_within card.high c within);
        };
      })
    where
      own_within : (own : Card) (c : ℕ) → Some own ≡ Some card → is_within card.high c ≡ true → is_within own.high c ≡ true
      own_within own c same within = let e : own ≡ card = cc in subst (λ (k : Card). is_within k.high c ≡ true) (sym e) within

  -- both lists of a split are supplies, which have the labels between them
  record IsCutIn (u : List ℕ) (split : Split) : Type 0 where
    part : is_supply checked.universe split.part ≡ true
    rest : is_supply checked.universe split.rest ≡ true
    whole : length split.part + length split.rest ≡ length u

  split_is : (u : List ℕ) (split : Split) → is_supply checked.universe u ≡ true → IsIn split (splits u) → IsCutIn u split
  split_is u split in_order there =
      let both = split_supplies checked.universe u in_order split ((splits_are u (supply_rises checked.universe u in_order)).sound split there) in
      record { part = both.0; rest = both.1; whole = split_length u split there }

  -- those that lists begin with are splits
  first_within : (tail : Tail) (u : List ℕ) (split : Split) → IsIn split (first_splits tail u) → IsIn split (splits u)
  first_within (Components node place) u split there = there
  first_within (Elements node element card) u split there = there
  first_within (SetElements node element card) u split there = least_within u split there
  first_within (CycleElements node element card) u split there = least_within u split there

  -- a first component takes a label
  all_parts : (element : ℕ) (others : List ℕ → List (List Structure)) (u : List ℕ) → IsContained checked element
      → by_parts 1 (length u) (listing_on checked element) others u ≡ flat_map (λ split. each_before (listing_on checked element split.part) (others split.rest)) (splits u)
  all_parts element others u of =
      sym (left_out (λ (split : Split). each_before (listing_on checked element split.part) (others split.rest)) (has_length 1 (length u)) (splits u) nothing)
    where
      nothing : (split : Split) → IsIn split (splits u) → has_length 1 (length u) split ≡ false → each_before (listing_on checked element split.part) (others split.rest) ≡ []
      nothing split there left =
          let whole : length split.part + length split.rest ≡ length u = split_length u split there in
          ap (λ (firsts : List Structure). each_before firsts (others split.rest))
          (listings.no_element checked passed element of split.part (shorter (length split.part) (length u) (omega arith) left))

  -- where lists are there, the bound is one that admits a component
  admitted_first : (b : Bool) (lists all : List (List Structure)) → lists ≡ (if b then all else []) → 0 < length lists → lists ≡ all
  admitted_first true lists all is_list some = is_list
  admitted_first false lists all is_list some = absurd (omega (arith, some, ap length is_list))

  -- where no label is left, the bound is one that admits no component
  admitted_none : (b : Bool) (lists : List (List Structure)) → lists ≡ (if b then [] ∷ [] else []) → 0 < length lists → lists ≡ [] ∷ []
  admitted_none true lists is_list some = is_list
  admitted_none false lists is_list some = absurd (omega (arith, some, ap length is_list))

  -- what goes by the least label goes by the splits with it
  by_least_splits : (element : ℕ) (cut : Cut) (u : List ℕ) → cut.first ≡ element
      → by_least (listing_on checked element) (tail_on checked cut.behind) u ≡ on_splits checked cut (least_splits u)
  by_least_splits element cut [] same = refl
  by_least_splits element cut (label ∷ labels) same =
      (λ i. by_least (listing_on checked (sym same i)) (tail_on checked cut.behind) (label ∷ labels))
      ∙ sym (flat_map-map (λ split. each_before (listing_on checked cut.first split.part) (tail_on checked cut.behind split.rest)) (taking label) (splits labels))

  -- where lists have a first component, they go by splits of the supply
  pub tail_cut : (tail : Tail) (u : List ℕ) (cut : Cut) → IsTail counts tail → IsTrue (is_supply counts.checked.universe u) → cut_of counts.checked tail (length u) ≡ Some cut
      → 0 < length (tail_on counts.checked tail u) → tail_on counts.checked tail u ≡ on_splits counts.checked cut (first_splits tail u)
  tail_cut (Components node place) u cut is_tail in_order h some = by (slice_get (children_at checked.rules node) place) refl h
    where
      by : (o : Option ℕ) → slice_get (children_at checked.rules node) place ≡ o → option_map (component_cut node place) o ≡ Some cut
          → tail_on checked (Components node place) u ≡ on_splits checked cut (splits u)
      by None at h = absurd (cc)
      by (Some child) at h =
          let same : component_cut node place child ≡ cut = cc in
          nodes_are_listed.component checked node place child u is_tail.prod at ∙ ap (λ c. on_splits checked c (splits u)) same
  tail_cut (Elements node element card) [] cut is_tail in_order h some = absurd (cc)
  tail_cut (Elements node element card) (label ∷ labels) cut is_tail in_order h some =
      let same : element_cut node element card ≡ cut = cc in
      let of : IsContained checked element = is_element node element card is_tail in
      admitted_first (admits_some card) (lists_on checked element card (label ∷ labels)) _ (labelled_nodes_are_listed.lists checked element card (label ∷ labels) of (omega arith)) some
      ∙ all_parts element (lists_on checked element (after_one card)) (label ∷ labels) of
      ∙ ap (λ c. on_splits checked c (splits (label ∷ labels))) same
  tail_cut (SetElements node element card) [] cut is_tail in_order h some = absurd (cc)
  tail_cut (SetElements node element card) (label ∷ labels) cut is_tail in_order h some =
      let same : set_cut node element card ≡ cut = cc in
      let of : IsContained checked element = is_set_element node element card is_tail in
      admitted_first (admits_some card) (set_lists_on checked element card (label ∷ labels)) _ (labelled_nodes_are_listed.sets checked element card (label ∷ labels) of (omega arith)) some
      ∙ by_least_splits element (set_cut node element card) (label ∷ labels) refl
      ∙ ap (λ c. on_splits checked c (least_splits (label ∷ labels))) same
  tail_cut (CycleElements node element card) [] cut is_tail in_order h some = absurd (cc)
  tail_cut (CycleElements node element card) (label ∷ labels) cut is_tail in_order h some =
      let same : element_cut node element card ≡ cut = cc in
      let of : IsContained checked element = is_cycle_element node element card is_tail in
      admitted_first (admits_some card) (cycle_lists_on checked element card (label ∷ labels)) _ (labelled_nodes_are_listed.cycles checked element card (label ∷ labels) of (omega arith)) some
      ∙ by_least_splits element (element_cut node element card) (label ∷ labels) refl
      ∙ ap (λ c. on_splits checked c (least_splits (label ∷ labels))) same

  -- where they have none, there is the empty list alone
  pub tail_end : (tail : Tail) (u : List ℕ) → IsTail counts tail → IsTrue (is_supply counts.checked.universe u) → cut_of counts.checked tail (length u) ≡ None
      → 0 < length (tail_on counts.checked tail u) → tail_on counts.checked tail u ≡ [] ∷ []
  tail_end (Components node place) u is_tail in_order h some =
      none_left u (nodes_are_listed.no_component checked node place u is_tail.prod (past (slice_get (children_at checked.rules node) place) refl h))
    where
      past : (o : Option ℕ) → slice_get (children_at checked.rules node) place ≡ o → option_map (component_cut node place) o ≡ None
          → length (children_at checked.rules node) ≤ place
      past None at h = none_there (children_at checked.rules node) place at
      past (Some child) at h = absurd (cc)

      none_left : (v : List ℕ) → tail_on checked (Components node place) u ≡ list_no_components v → tail_on checked (Components node place) u ≡ [] ∷ []
      none_left [] is_list = is_list
      none_left (label ∷ labels) is_list = absurd (omega (arith, some, ap length is_list))
  tail_end (Elements node element card) [] is_tail in_order h some =
      admitted_none (admits card 0) (lists_on checked element card []) (labelled_nodes_are_listed.no_list checked element card (is_element node element card is_tail)) some
  tail_end (Elements node element card) (label ∷ labels) is_tail in_order h some = absurd (cc)
  tail_end (SetElements node element card) [] is_tail in_order h some =
      admitted_none (admits card 0) (set_lists_on checked element card []) (labelled_nodes_are_listed.no_set checked element card (is_set_element node element card is_tail)) some
  tail_end (SetElements node element card) (label ∷ labels) is_tail in_order h some = absurd (cc)
  tail_end (CycleElements node element card) [] is_tail in_order h some =
      absurd (omega (arith, some, ap length (labelled_nodes_are_listed.no_cycle checked element card (is_cycle_element node element card is_tail))))
  tail_end (CycleElements node element card) (label ∷ labels) is_tail in_order h some = absurd (cc)

  -- ---- the last component

  end_lists : (tail : Tail) (u : List ℕ) → IsTail counts tail → is_end counts.checked tail ≡ true → tail_on counts.checked tail u ≡ list_no_components u
  end_lists (Components node place) u is_tail ends =
      nodes_are_listed.no_component checked node place u is_tail.prod (grind (arith, nat_tests))
  end_lists (Elements node element card) u is_tail ends = absurd (true≢false (sym ends))
  end_lists (SetElements node element card) u is_tail ends = absurd (true≢false (sym ends))
  end_lists (CycleElements node element card) u is_tail ends = absurd (true≢false (sym ends))

  -- the last component of a Prod has all labels, and no other list ends so
  pub last_first : (tail : Tail) (n : ℕ) (cut : Cut) (u : List ℕ) → cut_of counts.checked tail n ≡ Some cut → is_end counts.checked cut.behind ≡ true → first_splits tail u ≡ splits u
  last_first (Components node place) n cut u h ends = refl
  last_first (Elements node element card) n cut u h ends = refl
  last_first (SetElements node element card) zero cut u h ends = absurd (cc)
  last_first (SetElements node element card) (suc n) cut u h ends =
      let same : set_cut node element card ≡ cut = cc in absurd (true≢false (sym ends ∙ ap (λ (c : Cut). is_end checked c.behind) (sym same)))
  last_first (CycleElements node element card) zero cut u h ends = absurd (cc)
  last_first (CycleElements node element card) (suc n) cut u h ends =
      let same : element_cut node element card ≡ cut = cc in absurd (true≢false (sym ends ∙ ap (λ (c : Cut). is_end checked c.behind) (sym same)))

  -- it has all labels
  pub last_splits : (cut : Cut) (u : List ℕ) → IsCut counts cut → is_end counts.checked cut.behind ≡ true
      → on_splits counts.checked cut (splits u) ≡ map (λ s. s ∷ []) (listing_on counts.checked cut.first u)
  last_splits cut u is_cut ends =
      same_made (λ (split : Split). each_before (listing_on checked cut.first split.part) (tail_on checked cut.behind split.rest))
      (λ split. each_before (listing_on checked cut.first split.part) (list_no_components split.rest)) (splits u)
      (λ split there. ap (each_before (listing_on checked cut.first split.part)) (end_lists cut.behind split.rest is_cut.behind ends))
      ∙ whole_part (listing_on checked cut.first) u

  -- behind it there is the empty list, without atoms
  pub end_number : (tail : Tail) → IsTail counts tail → is_end counts.checked tail ≡ true → 0 < tail_number counts.checked tail 0
  end_number tail is_tail ends =
      let same : tail_number counts.checked tail 0 ≡ length (list_no_components (supply checked.universe 0)) =
      ap length (end_lists tail (supply checked.universe 0) is_tail ends) in
      omega (arith, same, ap (λ u. length (list_no_components u)) (listings.no_labels checked.universe))

  -- ---- the lengths at which a first component and what stands behind it have structures

  -- the test of the length of a split's part tells whether both have some
  open_is : (cut : Cut) (u : List ℕ) (split : Split) → IsCut counts cut → is_supply checked.universe u ≡ true → IsIn split (splits u)
      → has_admitted (open_lengths checked cut (length u)) split
      ≡ (nat_lt 0 (length (listing_on checked cut.first split.part)) && nat_lt 0 (length (tail_on checked cut.behind split.rest)))
  open_is cut u split is_cut in_order there =
      let cut_in : IsCutIn u split = split_is u split in_order there in
      let left : length u - length split.part ≡ length split.rest = omega (arith, cut_in.whole) in
      admitted_at (is_open checked cut (length u)) (length u) (length split.part) (omega (arith, cut_in.whole))
      ∙ ap (λ k. nat_lt 0 (number_of_node checked cut.first (length split.part)) && nat_lt 0 (tail_number checked cut.behind k)) left
      ∙ (λ i. nat_lt 0 (sym (listing_number checked passed cut.first split.part cut_in.part) i) && nat_lt 0 (sym (tail_length cut.behind split.rest is_cut.behind cut_in.rest) i))

  pub open_splits : (tail : Tail) (cut : Cut) (u : List ℕ) → IsCut counts cut → IsTrue (is_supply counts.checked.universe u)
      → on_splits counts.checked cut (first_parts tail (open_lengths counts.checked cut (length u)) u) ≡ on_splits counts.checked cut (first_splits tail u)
  open_splits tail cut u is_cut in_order =
      sym (left_out (λ (split : Split). each_before (listing_on checked cut.first split.part) (tail_on checked cut.behind split.rest))
      (has_admitted (open_lengths checked cut (length u))) (first_splits tail u) nothing)
    where
      nothing : (split : Split) → IsIn split (first_splits tail u) → has_admitted (open_lengths checked cut (length u)) split ≡ false
          → each_before (listing_on checked cut.first split.part) (tail_on checked cut.behind split.rest) ≡ []
      nothing split there left =
          elim (some_not (length (listing_on checked cut.first split.part)) (length (tail_on checked cut.behind split.rest))
          (sym (open_is cut u split is_cut in_order (first_within tail u split there)) ∙ left)) [
            | inl none ↦ nothing_first (listing_on checked cut.first split.part) (tail_on checked cut.behind split.rest) none
            | inr none ↦ nothing_behind (listing_on checked cut.first split.part) (tail_on checked cut.behind split.rest) none
          ]

  abbrev keep : Cut → List ℕ → Split → Bool
  keep cut u = has_admitted (open_lengths checked cut (length u))

  pub can_open : (tail : Tail) (cut : Cut) (u : List ℕ) → IsCut counts cut → IsTrue (is_supply counts.checked.universe u) → length u ≤ counts.size
      → All (CanOpen counts cut) (first_parts tail (open_lengths counts.checked cut (length u)) u)
  can_open tail cut u is_cut in_order small k d within =
      opens (get_or (filter (keep cut u) (first_splits tail u)) k d)
      (from_filter (keep cut u) (get_or (filter (keep cut u) (first_splits tail u)) k d) (first_splits tail u) (is_in_get_or (filter (keep cut u) (first_splits tail u)) k d within))
    where
      opens : (split : Split) → IsIn split (first_splits tail u) × (keep cut u split ≡ true) → CanOpen counts cut split
      opens split found =
          let there : IsIn split (splits u) = first_within tail u split found.0 in
          let cut_in : IsCutIn u split = split_is u split in_order there in
          let both = both_some (length (listing_on checked cut.first split.part)) (length (tail_on checked cut.behind split.rest))
          (sym (open_is cut u split is_cut in_order there) ∙ found.1) in
          record { part = omega (arith, small, cut_in.whole); rest = omega (arith, small, cut_in.whole); first = both.0; others = both.1 }

  -- those that can be opened have all labels between them
  pub first_total : (tail : Tail) (lengths : List Bool) (u : List ℕ) (split : Split) → IsIn split (first_parts tail lengths u) → length split.part + length split.rest ≡ length u
  first_total tail lengths u split there =
      split_length u split (first_within tail u split (from_filter (has_admitted lengths) split (first_splits tail u) there).0)

  -- where the first component has the least label there is one
  pub first_there : (tail : Tail) (supply : Supply) (n : ℕ) (cut : Cut) → supply_universe supply ≡ counts.checked.universe → n ≡ length (supply_labels supply)
      → IsTail counts tail → cut_of counts.checked tail n ≡ Some cut → HasFirst tail supply
  first_there (Components node place) supply n cut universe long is_tail h = tt
  first_there (Elements node element card) supply n cut universe long is_tail h = tt
  first_there (SetElements node element card) supply zero cut universe long is_tail h = absurd (cc)
  first_there (SetElements node element card) supply (suc n) cut universe long is_tail h = (universe ∙ is_tail.labelled, omega (arith, long))
  first_there (CycleElements node element card) supply zero cut universe long is_tail h = absurd (cc)
  first_there (CycleElements node element card) supply (suc n) cut universe long is_tail h = (universe ∙ is_tail.labelled, omega (arith, long))

  -- ---- the numbers that tell whether there are lists

  pub first_lists : (node n : ℕ) → AreComponents counts node 0 → number_of counts node n ≡ tail_number counts.checked (Components node 0) n
  first_lists node n h = counted_number counts node n ∙ nodes_are_counted.prod checked node n passed h.prod

  pub later_lists : (node place n : ℕ) → AreComponents counts node place → suffix_of counts node (place + 1) n ≡ tail_number counts.checked (Components node place) n
  later_lists node place n h =
      ap (λ k. number (grammar checked) (expr.Prod (expressions_of (drop k (arguments_at checked.rules node)))) n) (back place)
      ∙ listings.later_number checked passed node place h.prod n
    where
      back : (k : ℕ) → k + 1 - 1 ≡ k
      back k = omega arith

  pub no_lists_left : (node place n : ℕ) → AreComponents counts node place → length (children_at counts.checked.rules node) ≤ place
      → tail_number counts.checked (Components node place) n ≡ one_at 0 n
  no_lists_left node place n h past = nodes_are_counted.no_component checked node place n passed h.prod past

  -- a Cycle has as many structures as there are lists of its components
  pub cycle_number : (node element n : ℕ) (card : Card) → AreCycleElements counts node element card
      → number_of counts node n ≡ tail_number counts.checked (CycleElements node element card) n
  cycle_number node element n card h =
      counted_number counts node n
      ∙ ap length (labelled_nodes_are_listed.cycle_node checked node element card (supply checked.universe n) passed h.labelled (supplied checked n) h.cycle h.child h.own)
      ∙ length-map (cycle_lists_on checked element card (supply checked.universe n)) cycle

  -- ---- sizes

  pub structure_size : (node : ℕ) (u : List ℕ) (s : Structure) → IsTrue (is_supply counts.checked.universe u) → IsIn s (listing_on counts.checked node u) → size s ≡ length u
  structure_size node u s in_order there = listings.node_size checked passed node u s there

  pub lists_size : (tail : Tail) (u : List ℕ) (ss : List Structure) → IsTail counts tail → IsTrue (is_supply counts.checked.universe u) → IsIn ss (tail_on counts.checked tail u)
      → length (labels_of_parts (parts_of ss)) ≡ length u
  lists_size (Components node place) u ss is_tail in_order there = listings.later_size checked passed node place is_tail.prod u ss in_order there
  lists_size (Elements node element card) u ss is_tail in_order there = listings.lists_size checked passed element (is_element node element card is_tail) card u ss in_order there
  lists_size (SetElements node element card) u ss is_tail in_order there =
      listings.sets_size checked passed element (is_set_element node element card is_tail) is_tail.labelled card u ss in_order there
  lists_size (CycleElements node element card) u ss is_tail in_order there =
      listings.cycles_size checked passed element (is_cycle_element node element card is_tail) is_tail.labelled card u ss in_order there
