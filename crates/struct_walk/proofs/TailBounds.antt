-- Whether a container with a bound has lists of a size, by the numbers of components that the bound admits.
use Rattle.std.proofs.Common.{◌≡◌, ℕ, ◌≤◌, ◌<◌, inl, inr, true, ◌&&◌, nat_le, List, [], length, Some, None, Option, ap, sym, ◌∙◌, subst, arith, slice_get}
use Rattle.std.specs.Option.{option_map_or}
use Rattle.std.proofs.lemmas.Bool.{cases_lt}
use Rattle.std.proofs.lemmas.Bool.Decides.{nat_tests}
use Rattle.spec_syntax.specs.declared.expr.Card.{Card}
use Rattle.spec_syntax.specs.declared.expr.Kind.TheVariants as kind
use Rattle.spec_syntax.specs.Card.{is_within, admits}
use Rattle.spec_syntax.specs.Expression.{Expression}
use Rattle.spec_syntax.specs.Nodes.{arguments_of}
use Rattle.struct_model.specs.Structure.{Structure}
use Rattle.struct_model.specs.Membership.{supply}
use Rattle.struct_model.specs.Bounded.{number}
use Rattle.well_founded.specs.Checked.{Checked, IsChecked, grammar}
use Rattle.listing_laws.specs.Numbers.{exactly}
use Rattle.listing_laws.specs.NodeListing.{lists_on, number_of_lists}
use Rattle.listing_laws.specs.LeastNodes.{set_lists_on, number_of_sets}
use Rattle.listing_laws.specs.SortedNodes.{IsContained}
use Rattle.listing_laws.proofs.LeastNodes.{labelled_nodes_are_counted}
use Rattle.listing_laws.proofs.NodeLemmas.{ContainerNode, container_node, supplied, nodes_are_counted}
use Rattle.size_counts.specs.CountedView.{Counts, IsCounted, lists_of, sets_of, with_exactly}
use Rattle.size_counts.specs.Numbers.{list_number, most_components}
use Rattle.struct_walk.specs.declared.tail.Tail.TheVariants.{Elements, SetElements}
use Rattle.struct_walk.specs.Tails.{AreElements, AreSetElements, tail_number}
use Rattle.struct_walk.proofs.TailLemmas.{elements_kind, is_element, is_set_element}
use Rattle.struct_walk.proofs.TailListings.{cycle_labelled, has_lists, lists_number, has_sets, sets_number, power_sets_number}

-- ---- bounds

admits_own : (c : ℕ) → admits (exactly c) c ≡ true
admits_own c = grind (arith, nat_tests)

own_alone : (c k : ℕ) → admits (exactly c) k ≡ true → k ≡ c
own_alone c k h = grind (arith, nat_tests)

at_least_low : (card : Card) (c : ℕ) → admits card c ≡ true → card.low ≤ c
at_least_low card c h = grind (arith, nat_tests)

admits_between : (card : Card) (c n : ℕ) → card.low ≤ c → c ≤ most_components card n → admits card c ≡ true
admits_between card c n low high = by card.high high
  where
    by : (most : Option ℕ) → c ≤ most_components (record { low = card.low; high = most }) n → (nat_le card.low c && is_within most c) ≡ true
    by None h = grind (arith, nat_tests)
    by (Some most) h = grind (arith, nat_tests)

below_most : (card : Card) (c n : ℕ) → admits card c ≡ true → c ≤ n → c ≤ most_components card n
below_most card c n h small = by card.high h
  where
    by : (most : Option ℕ) → (nat_le card.low c && is_within most c) ≡ true → c ≤ most_components (record { low = card.low; high = most }) n
    by None h = omega arith
    by (Some most) h = grind (arith, nat_tests)

-- lists by any bound, as many of so many components as are told
record AreTold (n : ℕ) (on : Card → List ℕ → List (List Structure)) (u : List ℕ) (told : ℕ → ℕ) : Type 0 where
  has : (card : Card) → 0 < length (on card u) → (count : ℕ) × (admits card count ≡ true) × ((other : Card) → admits other count ≡ true → 0 < length (on other u))
  tells : (c : ℕ) → told c ≡ length (on (exactly c) u)
  few : (c : ℕ) → n < c → length (on (exactly c) u) ≡ 0

-- there are lists of a number of components that the bound admits, and of no more than there are atoms
pub record HasCount (told : ℕ → ℕ) (card : Card) (n : ℕ) : Type 0 where
  pub count : ℕ
  pub low : card.low ≤ count
  pub high : count ≤ most_components card n
  pub some : 0 < told count

module _ (n : ℕ) (on : Card → List ℕ → List (List Structure)) (u : List ℕ) (told : ℕ → ℕ) (are : AreTold n on u told) (card : Card) where
  found_count : 0 < length (on card u) → HasCount told card n
  found_count some =
      let found = are.has card some in
      let lists : 0 < length (on (exactly found.0) u) = found.2 (exactly found.0) (admits_own found.0) in
      record {
        count = found.0;
        low = at_least_low card found.0 found.1;
        high = below_most card found.0 n found.1 (not_more found.0 lists);
        some = omega (arith, lists, are.tells found.0);
      }
    where
      not_more : (c : ℕ) → 0 < length (on (exactly c) u) → c ≤ n
      not_more c lists = elim (cases_lt n c) [ inl less ↦ absurd (omega (arith, lists, are.few c less)) | inr within ↦ within ]

  -- where there are lists of one such number, there are lists
  found_lists : (c : ℕ) → card.low ≤ c → c ≤ most_components card n → 0 < told c → 0 < length (on card u)
  found_lists c low high some =
      let lists : 0 < length (on (exactly c) u) = omega (arith, some, are.tells c) in
      let found = are.has (exactly c) lists in
      found.2 card (subst (λ k. admits card k ≡ true) (sym (own_alone c found.0 found.1)) (admits_between card c n low high))

module _ (counts : Counts) (is : IsCounted counts) (node element : ℕ) (card : Card) where
  abbrev checked : Checked
  checked = counts.checked

  abbrev passed : IsChecked counts.checked
  passed = is.passed

  abbrev atoms : ℕ → List ℕ
  atoms n = supply counts.checked.universe n

  -- ---- a Sequence or a Cycle

  module _ (h : AreElements counts node element card) where
    of : IsContained counts.checked element
    of = is_element counts is node element card h

    lists_are : (c n : ℕ) → lists_of counts node c n ≡ number_of_lists checked element c n
    lists_are c n =
        let k = elements_kind counts is node element card h in
        let there : ContainerNode checked k.0 node element = container_node checked k.0 node element k.1 h.child in
        ap (λ o. option_map_or (λ (e : Expression). list_number (grammar checked) e c n) (slice_get (option_map_or arguments_of o []) 0) 0) there.at
        ∙ lists_number checked passed element (record { node = node; kind = k.0; is = k.1; child = h.child }) c n

    few_are : (c n : ℕ) → n < c → number_of_lists checked element c n ≡ 0
    few_are c n less = elim h.kind [
      | inl sequence ↦ nodes_are_counted.few checked element c n passed (record { node = node; sequence = sequence; child = h.child }) less
      | inr cycle ↦ labelled_nodes_are_counted.few_lists checked element c n passed (cycle_labelled checked passed node element cycle h.child) of less
    ]

    lists_told : (n : ℕ) → AreTold n (lists_on checked element) (atoms n) (λ c. lists_of counts node c n)
    lists_told n = record {
      has = λ bound some. let found = has_lists checked passed element of bound (atoms n) (supplied checked n) some in (found.count, found.admitted, found.each);
      tells = λ c. lists_are c n;
      few = λ c less. few_are c n less;
    }

    pub some_count : (n : ℕ) → 0 < tail_number counts.checked (Elements node element card) n
        → HasCount (λ c. lists_of counts node c n) card n
    some_count n some = found_count n (lists_on checked element) (atoms n) (λ c. lists_of counts node c n) (lists_told n) card some

    pub count_some : (c n : ℕ) → card.low ≤ c → c ≤ most_components card n → 0 < lists_of counts node c n → 0 < tail_number counts.checked (Elements node element card) n
    count_some c n low high some = found_lists n (lists_on checked element) (atoms n) (λ c. lists_of counts node c n) (lists_told n) card c low high some

  -- ---- a Set or a PowerSet with labels

  module _ (h : AreSetElements counts node element card) where
    of_set : IsContained counts.checked element
    of_set = is_set_element counts is node element card h

    sets_are : (c n : ℕ) → sets_of counts node c n ≡ number_of_sets checked element c n
    sets_are c n = elim h.kind [
      | inl set ↦
          let there : ContainerNode checked kind.Set node element = container_node checked kind.Set node element set h.child in
          ap (λ o. option_map_or (λ e. number (grammar checked) (with_exactly c e) n) o 0) there.at
          ∙ sets_number checked passed element (record { node = node; kind = kind.Set; is = set; child = h.child }) h.labelled c n
      | inr power_set ↦
          let there : ContainerNode checked kind.PowerSet node element = container_node checked kind.PowerSet node element power_set h.child in
          ap (λ o. option_map_or (λ e. number (grammar checked) (with_exactly c e) n) o 0) there.at
          ∙ power_sets_number checked passed element (record { node = node; kind = kind.PowerSet; is = power_set; child = h.child }) h.labelled c n
    ]

    sets_told : (n : ℕ) → AreTold n (set_lists_on checked element) (atoms n) (λ c. sets_of counts node c n)
    sets_told n = record {
      has = λ bound some. let found = has_sets checked passed element of_set h.labelled bound (atoms n) (supplied checked n) some in (found.count, found.admitted, found.each);
      tells = λ c. sets_are c n;
      few = λ c less. labelled_nodes_are_counted.few_sets checked element c n passed h.labelled of_set less;
    }

    pub some_set_count : (n : ℕ) → 0 < tail_number counts.checked (SetElements node element card) n
        → HasCount (λ c. sets_of counts node c n) card n
    some_set_count n some = found_count n (set_lists_on checked element) (atoms n) (λ c. sets_of counts node c n) (sets_told n) card some

    pub count_some_set : (c n : ℕ) → card.low ≤ c → c ≤ most_components card n → 0 < sets_of counts node c n → 0 < tail_number counts.checked (SetElements node element card) n
    count_some_set c n low high some = found_lists n (set_lists_on checked element) (atoms n) (λ c. sets_of counts node c n) (sets_told n) card c low high some
