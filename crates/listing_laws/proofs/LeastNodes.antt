-- What labelled Sets, PowerSets and Cycles among the nodes of a checked grammar list, and how many structures they have.
use Rattle.std.proofs.Common.{◌≡◌, ℕ, suc, ◌*◌, ◌<◌, true, List, [], map, length, sym, ap, ◌∙◌}
use Rattle.std.specs.Prelude.{if◌then◌else◌}
use Rattle.std.specs.Option.{option_map_or}
use Rattle.std.proofs.lemmas.List.{length-map}
use Rattle.spec_syntax.specs.declared.statement.Universe.{Universe}
use Rattle.spec_syntax.specs.declared.statement.Universe.TheVariants.{Labelled}
use Rattle.spec_syntax.specs.declared.expr.Card.{Card}
use Rattle.spec_syntax.specs.declared.expr.Kind.{Kind}
use Rattle.spec_syntax.specs.declared.expr.Kind.TheVariants as kind
use Rattle.spec_syntax.specs.Expression as expr
use Rattle.spec_syntax.specs.Expression.{Expression}
use Rattle.spec_syntax.specs.Rules.{all_nodes}
use Rattle.spec_syntax.specs.Grammar.{Grammar}
use Rattle.spec_syntax.proofs.NodesLemmas.{in_nodes}
use Rattle.lists.specs.Enumeration.{IsIn}
use Rattle.struct_model.specs.Membership.{supply, is_supply}
use Rattle.struct_model.specs.Bounded.{number}
use Rattle.well_founded.specs.Checked.{Checked, IsChecked, grammar}
use Rattle.count_laws.specs.Convolution.{shifted, convolved}
use Rattle.count_laws.specs.LabelledSets.{labelled_sets, labelled_lists, labelled_cycles}
use Rattle.count_laws.proofs.Binomials.{with_binomials}
use Rattle.count_laws.proofs.FewComponents as few
use Rattle.count_laws.proofs.LabelledSets.{labelled_components}
use Rattle.listing_laws.specs.Lister.{sequence, by_parts, after_one, admits_some, list_empty}
use Rattle.listing_laws.specs.Recursion.{repeated_on}
use Rattle.listing_laws.specs.Relabelled.{relabelled}
use Rattle.listing_laws.specs.Numbers.{joined, exactly, admitted}
use Rattle.listing_laws.specs.NodeListing.{listing_on, lists_on, number_of_node, number_of_lists}
use Rattle.listing_laws.specs.SetListing.{set, power_set}
use Rattle.listing_laws.specs.LeastFirst.{cycle, by_least, sets_on, cycles_on}
use Rattle.listing_laws.specs.SortedNodes.{IsContained}
use Rattle.listing_laws.specs.LeastNodes.{set_lists_on, cycle_lists_on, number_of_sets, number_of_cycles, LabelledNodesAreListed, LabelledNodesAreCounted}
use Rattle.listing_laws.proofs.ByComponents.{containers_are_counted}
use Rattle.listing_laws.proofs.LeastListed.{labelled_containers_are_listed}
use Rattle.listing_laws.proofs.LeastNumbers.{labelled_containers_are_counted}
use Rattle.listing_laws.proofs.NodeLemmas.{ContainerNode, container_node, container_bound, listing_is, lists_are, number_is, supplied}
use Rattle.listing_laws.proofs.Numbers.{numbers_recur}
use Rattle.listing_laws.proofs.Recursion.{listings_recur}

-- the container of an element
contained : (checked : Checked) (element : ℕ) (is : IsContained checked element) → ContainerNode checked is.kind is.node element
contained checked element is = container_node checked is.kind is.node element is.is is.child

module _ (checked : Checked) (k : Kind) (node element : ℕ) (c : ContainerNode checked k node element) where
  abbrev g : Grammar
  g = grammar checked

  there : IsIn (expr.Many k c.e c.card) (all_nodes checked.rules)
  there = in_nodes checked.rules node (expr.Many k c.e c.card) c.at

  set_lists_are : (card : Card) (u : List ℕ) → set_lists_on checked element card u ≡ sets_on g c.e card u
  set_lists_are card u = ap (λ o. option_map_or (λ f. sets_on g f card u) o []) c.inside

  cycle_lists_are : (card : Card) (u : List ℕ) → cycle_lists_on checked element card u ≡ cycles_on g c.e card u
  cycle_lists_are card u = ap (λ o. option_map_or (λ f. cycles_on g f card u) o []) c.inside

  -- ---- by the least label

  no_set : (card : Card) → set_lists_on checked element card [] ≡ list_empty card
  no_set card = set_lists_are card []

  no_cycle : (card : Card) → cycle_lists_on checked element card [] ≡ []
  no_cycle card = cycle_lists_are card []

  no_list : (card : Card) → lists_on checked element card [] ≡ list_empty card
  no_list card = lists_are checked element c.e card [] c.inside

  sets_listed : (card : Card) (u : List ℕ) → 0 < length u
      → set_lists_on checked element card u ≡ (if admits_some card then by_least (listing_on checked element) (set_lists_on checked element (after_one card)) u else [])
  sets_listed card u some =
      set_lists_are card u ∙ labelled_containers_are_listed.some_set g c.e card u some
      ∙ (λ i. if admits_some card then by_least (λ labels. sym (listing_is checked element c.e labels c.inside) i) (λ labels. sym (set_lists_are (after_one card) labels) i) u else [])

  cycles_listed : (card : Card) (u : List ℕ) → 0 < length u
      → cycle_lists_on checked element card u ≡ (if admits_some card then by_least (listing_on checked element) (lists_on checked element (after_one card)) u else [])
  cycles_listed card u some =
      cycle_lists_are card u ∙ labelled_containers_are_listed.some_cycle g c.e card u some
      ∙ (λ i. if admits_some card then by_least (λ labels. sym (listing_is checked element c.e labels c.inside) i)
      (λ labels. sym (lists_are checked element c.e (after_one card) labels c.inside) i) u else [])

  lists_listed : (card : Card) (u : List ℕ) → 0 < length u
      → lists_on checked element card u ≡ (if admits_some card then by_parts 1 (length u) (listing_on checked element) (lists_on checked element (after_one card)) u else [])
  lists_listed card u some =
      lists_are checked element c.e card u c.inside
      ∙ listings_recur.repeated g c.e card u some
      ∙ (λ i. if admits_some card then by_parts 1 (length u) (λ labels. sym (listing_is checked element c.e labels c.inside) i)
      (λ labels. sym (lists_are checked element c.e (after_one card) labels c.inside) i) u else [])

  -- ---- numbers

  module _ (passed : IsChecked checked) where
    element_counted : number_of_node checked element 0 ≡ 0
    element_counted = number_is checked element c.e 0 c.inside ∙ numbers_recur.element g k c.e c.card passed.spec passed.well_founded there

    by_components : (n : ℕ) → number_of_node checked node n ≡ admitted c.card (λ m. number g (expr.Many k c.e (exactly m)) n) n
    by_components n = number_is checked node (expr.Many k c.e c.card) n c.at ∙ containers_are_counted.by_components g k c.e c.card n passed.spec passed.well_founded there

    lists_alike : (card : Card) (u : List ℕ) → is_supply checked.universe u ≡ true
        → lists_on checked element card u ≡ map (map (relabelled u)) (lists_on checked element card (supply checked.universe (length u)))
    lists_alike card u in_order =
        lists_are checked element c.e card u c.inside
        ∙ labelled_containers_are_listed.alike_sequences g k c.e c.card card u passed.spec passed.well_founded there in_order
        ∙ ap (map (map (relabelled u))) (sym (lists_are checked element c.e card (supply checked.universe (length u)) c.inside))

    module _ (universe : checked.universe ≡ Labelled) where
      sets_alike : (card : Card) (u : List ℕ) → is_supply checked.universe u ≡ true
          → set_lists_on checked element card u ≡ map (map (relabelled u)) (set_lists_on checked element card (supply checked.universe (length u)))
      sets_alike card u in_order =
          set_lists_are card u ∙ labelled_containers_are_listed.alike_sets g k c.e c.card card u passed.spec passed.well_founded universe there in_order
          ∙ ap (map (map (relabelled u))) (sym (set_lists_are card (supply checked.universe (length u))))

      cycles_alike : (card : Card) (u : List ℕ) → is_supply checked.universe u ≡ true
          → cycle_lists_on checked element card u ≡ map (map (relabelled u)) (cycle_lists_on checked element card (supply checked.universe (length u)))
      cycles_alike card u in_order =
          cycle_lists_are card u ∙ labelled_containers_are_listed.alike_cycles g k c.e c.card card u passed.spec passed.well_founded universe there in_order
          ∙ ap (map (map (relabelled u))) (sym (cycle_lists_are card (supply checked.universe (length u))))

      abbrev first : ℕ → List ℕ
      first n = supply checked.universe n

      set_number : (m n : ℕ) → number_of_sets checked element m n ≡ number g (expr.Many kind.Set c.e (exactly m)) n
      set_number m n =
          ap length (set_lists_are (exactly m) (first n)) ∙ sym (length-map (sets_on g c.e (exactly m) (first n)) set)
          ∙ sym (ap length (labelled_containers_are_listed.sets g k c.e c.card (exactly m) (first n) passed.spec passed.well_founded universe there (supplied checked n)))

      power_set_number : (m n : ℕ) → number_of_sets checked element m n ≡ number g (expr.Many kind.PowerSet c.e (exactly m)) n
      power_set_number m n =
          ap length (set_lists_are (exactly m) (first n)) ∙ sym (length-map (sets_on g c.e (exactly m) (first n)) power_set)
          ∙ sym (ap length (labelled_containers_are_listed.power_sets g k c.e c.card (exactly m) (first n) passed.spec passed.well_founded universe there (supplied checked n)))

      cycle_number : (m n : ℕ) → number_of_cycles checked element m n ≡ number g (expr.Many kind.Cycle c.e (exactly m)) n
      cycle_number m n =
          ap length (cycle_lists_are (exactly m) (first n)) ∙ sym (length-map (cycles_on g c.e (exactly m) (first n)) cycle)
          ∙ sym (ap length (labelled_containers_are_listed.cycles g k c.e c.card (exactly m) (first n) passed.spec passed.well_founded universe there (supplied checked n)))

      list_number : (m n : ℕ) → number_of_lists checked element m n ≡ number g (expr.Many kind.Sequence c.e (exactly m)) n
      list_number m n =
          ap length (lists_are checked element c.e (exactly m) (first n) c.inside) ∙ sym (length-map (repeated_on g c.e (exactly m) (first n)) sequence)
          ∙ sym (ap length (labelled_containers_are_listed.sequences g k c.e c.card (exactly m) (first n) passed.spec passed.well_founded there (supplied checked n)))

      sets_are : (m n : ℕ) → number_of_sets checked element m n ≡ labelled_sets (number_of_node checked element) m n
      sets_are m n =
          set_number m n ∙ labelled_containers_are_counted.sets g k c.e c.card m n passed.spec passed.well_founded universe there
          ∙ (λ i. labelled_sets (λ d. sym (number_is checked element c.e d c.inside) i) m n)

      cycles_are : (m n : ℕ) → number_of_cycles checked element m n ≡ labelled_cycles (number_of_node checked element) m n
      cycles_are m n =
          cycle_number m n ∙ labelled_containers_are_counted.cycles g k c.e c.card m n passed.spec passed.well_founded universe there
          ∙ (λ i. labelled_cycles (λ d. sym (number_is checked element c.e d c.inside) i) m n)

      lists_are_counted : (m n : ℕ) → number_of_lists checked element m n ≡ labelled_lists (number_of_node checked element) m n
      lists_are_counted m n =
          list_number m n ∙ labelled_containers_are_counted.sequences g k c.e c.card m n passed.spec passed.well_founded universe there
          ∙ (λ i. labelled_lists (λ d. sym (number_is checked element c.e d c.inside) i) m n)

      abbrev a : ℕ → ℕ
      a d = number_of_node checked element d

      shared_out : (f h : ℕ → ℕ) (n : ℕ) → convolved f h n ≡ joined checked.universe f h n
      shared_out f h n = with_binomials f h n ∙ ap (λ (all : Universe). joined all f h n) (sym universe)

      sets_by_first : (m n : ℕ) → number_of_sets checked element (suc m) (suc n) ≡ joined checked.universe (shifted a) (number_of_sets checked element m) n
      sets_by_first m n =
          sets_are (suc m) (suc n) ∙ shared_out (shifted a) (labelled_sets a m) n ∙ (λ i. joined checked.universe (shifted a) (λ d. sym (sets_are m d) i) n)

      cycles_by_first : (m n : ℕ) → number_of_cycles checked element (suc m) (suc n) ≡ joined checked.universe (shifted a) (number_of_lists checked element m) n
      cycles_by_first m n =
          cycles_are (suc m) (suc n) ∙ shared_out (shifted a) (labelled_lists a m) n ∙ (λ i. joined checked.universe (shifted a) (λ d. sym (lists_are_counted m d) i) n)

      lists_by_first : (m n : ℕ) → number_of_lists checked element (suc m) n ≡ joined checked.universe a (number_of_lists checked element m) n
      lists_by_first m n = lists_are_counted (suc m) n ∙ shared_out a (labelled_lists a m) n ∙ (λ i. joined checked.universe a (λ d. sym (lists_are_counted m d) i) n)

      sets_met : (m n : ℕ) → suc m * number_of_sets checked element (suc m) n ≡ joined checked.universe a (number_of_sets checked element m) n
      sets_met m n =
          ap (λ (all : ℕ). suc m * all) (sets_are (suc m) n) ∙ labelled_components.sets a m n element_counted ∙ shared_out a (labelled_sets a m) n
          ∙ (λ i. joined checked.universe a (λ d. sym (sets_are m d) i) n)

      cycles_met : (m n : ℕ) → suc m * number_of_cycles checked element (suc m) n ≡ number_of_lists checked element (suc m) n
      cycles_met m n = ap (λ (all : ℕ). suc m * all) (cycles_are (suc m) n) ∙ labelled_components.cycles a m n element_counted ∙ sym (lists_are_counted (suc m) n)

-- ---- the laws

pub labelled_nodes_are_listed : LabelledNodesAreListed
labelled_nodes_are_listed = record {
  set_node = λ checked node element card u passed universe in_order h child bound.
      let c = container_node checked kind.Set node element h child in
      listing_is checked node (expr.Many kind.Set c.e c.card) u c.at
      ∙ labelled_containers_are_listed.sets (grammar checked) kind.Set c.e c.card c.card u passed.spec passed.well_founded universe (there checked kind.Set node element c) in_order
      ∙ ap (map set) (sym (set_lists_are checked kind.Set node element c c.card u))
      ∙ ap (λ (own : Card). map set (set_lists_on checked element own u)) (container_bound checked kind.Set node element c card bound);
  power_set_node = λ checked node element card u passed universe in_order h child bound.
      let c = container_node checked kind.PowerSet node element h child in
      listing_is checked node (expr.Many kind.PowerSet c.e c.card) u c.at
      ∙ labelled_containers_are_listed.power_sets (grammar checked) kind.PowerSet c.e c.card c.card u passed.spec passed.well_founded universe (there checked kind.PowerSet node element c) in_order
      ∙ ap (map power_set) (sym (set_lists_are checked kind.PowerSet node element c c.card u))
      ∙ ap (λ (own : Card). map power_set (set_lists_on checked element own u)) (container_bound checked kind.PowerSet node element c card bound);
  cycle_node = λ checked node element card u passed universe in_order h child bound.
      let c = container_node checked kind.Cycle node element h child in
      listing_is checked node (expr.Many kind.Cycle c.e c.card) u c.at
      ∙ labelled_containers_are_listed.cycles (grammar checked) kind.Cycle c.e c.card c.card u passed.spec passed.well_founded universe (there checked kind.Cycle node element c) in_order
      ∙ ap (map cycle) (sym (cycle_lists_are checked kind.Cycle node element c c.card u))
      ∙ ap (λ (own : Card). map cycle (cycle_lists_on checked element own u)) (container_bound checked kind.Cycle node element c card bound);
  no_set = λ checked element card is. no_set checked is.kind is.node element (contained checked element is) card;
  sets = λ checked element card u is some. sets_listed checked is.kind is.node element (contained checked element is) card u some;
  no_cycle = λ checked element card is. no_cycle checked is.kind is.node element (contained checked element is) card;
  cycles = λ checked element card u is some. cycles_listed checked is.kind is.node element (contained checked element is) card u some;
  no_list = λ checked element card is. no_list checked is.kind is.node element (contained checked element is) card;
  lists = λ checked element card u is some. lists_listed checked is.kind is.node element (contained checked element is) card u some;
  alike_sets = λ checked element card u passed universe in_order is. sets_alike checked is.kind is.node element (contained checked element is) passed universe card u in_order;
  alike_cycles = λ checked element card u passed universe in_order is. cycles_alike checked is.kind is.node element (contained checked element is) passed universe card u in_order;
  alike_lists = λ checked element card u passed in_order is. lists_alike checked is.kind is.node element (contained checked element is) passed card u in_order;
}

pub labelled_nodes_are_counted : LabelledNodesAreCounted
labelled_nodes_are_counted = record {
  set_node = λ checked node element card n passed universe h child bound.
      let c = container_node checked kind.Set node element h child in
      by_components checked kind.Set node element c passed n
      ∙ (λ i. admitted c.card (λ m. sym (set_number checked kind.Set node element c passed universe m n) i) n)
      ∙ ap (λ (own : Card). admitted own (λ m. number_of_sets checked element m n) n) (container_bound checked kind.Set node element c card bound);
  power_set_node = λ checked node element card n passed universe h child bound.
      let c = container_node checked kind.PowerSet node element h child in
      by_components checked kind.PowerSet node element c passed n
      ∙ (λ i. admitted c.card (λ m. sym (power_set_number checked kind.PowerSet node element c passed universe m n) i) n)
      ∙ ap (λ (own : Card). admitted own (λ m. number_of_sets checked element m n) n) (container_bound checked kind.PowerSet node element c card bound);
  cycle_node = λ checked node element card n passed universe h child bound.
      let c = container_node checked kind.Cycle node element h child in
      by_components checked kind.Cycle node element c passed n
      ∙ (λ i. admitted c.card (λ m. sym (cycle_number checked kind.Cycle node element c passed universe m n) i) n)
      ∙ ap (λ (own : Card). admitted own (λ m. number_of_cycles checked element m n) n) (container_bound checked kind.Cycle node element c card bound);
  sets = λ checked element m n passed universe is. sets_are checked is.kind is.node element (contained checked element is) passed universe m n;
  cycles = λ checked element m n passed universe is. cycles_are checked is.kind is.node element (contained checked element is) passed universe m n;
  lists = λ checked element m n passed universe is. lists_are_counted checked is.kind is.node element (contained checked element is) passed universe m n;
  sets_by_first = λ checked element m n passed universe is. sets_by_first checked is.kind is.node element (contained checked element is) passed universe m n;
  cycles_by_first = λ checked element m n passed universe is. cycles_by_first checked is.kind is.node element (contained checked element is) passed universe m n;
  lists_by_first = λ checked element m n passed universe is. lists_by_first checked is.kind is.node element (contained checked element is) passed universe m n;
  sets_met = λ checked element m n passed universe is. sets_met checked is.kind is.node element (contained checked element is) passed universe m n;
  cycles_met = λ checked element m n passed universe is. cycles_met checked is.kind is.node element (contained checked element is) passed universe m n;
  few_sets = λ checked element m n passed universe is less.
      sets_are checked is.kind is.node element (contained checked element is) passed universe m n ∙ few.few_sets (number_of_node checked element) m n less;
  few_cycles = λ checked element m n passed universe is less.
      cycles_are checked is.kind is.node element (contained checked element is) passed universe m n
      ∙ few.few_cycles (number_of_node checked element) (element_counted checked is.kind is.node element (contained checked element is) passed) m n less;
  few_lists = λ checked element m n passed universe is less.
      lists_are_counted checked is.kind is.node element (contained checked element is) passed universe m n
      ∙ few.few_lists (number_of_node checked element) (element_counted checked is.kind is.node element (contained checked element is) passed) m n less;
  one_set = λ checked element n passed universe is.
      sets_are checked is.kind is.node element (contained checked element is) passed universe 1 n
      ∙ few.one_set (number_of_node checked element) (element_counted checked is.kind is.node element (contained checked element is) passed) n;
  one_cycle = λ checked element n passed universe is.
      cycles_are checked is.kind is.node element (contained checked element is) passed universe 1 n
      ∙ few.one_cycle (number_of_node checked element) (element_counted checked is.kind is.node element (contained checked element is) passed) n;
  one_list = λ checked element n passed universe is.
      lists_are_counted checked is.kind is.node element (contained checked element is) passed universe 1 n ∙ few.one_list (number_of_node checked element) n;
  element = λ checked element passed is. element_counted checked is.kind is.node element (contained checked element is) passed;
}
