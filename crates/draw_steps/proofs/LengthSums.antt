-- The sum of the weights of a component's numbers of atoms.
use Rattle.std.proofs.Common.{◌≡◌, ◌⊎◌, ℕ, suc, ◌+◌, ◌-◌, ◌*◌, ◌≤◌, [], map, length, slice_get, unwrap_or, Option, Some, sym, ap, ◌∙◌, inl, inr, arith}
use Rattle.std.specs.Option.{option_map_or}
use Rattle.std.specs.List.{sum, range_with_len}
use Rattle.lists.specs.Enumeration.{IsIn}
use Rattle.lists.proofs.Places.{in_of_get}
use Rattle.lists.proofs.Positions.{slice_some}
use Rattle.spec_syntax.specs.declared.statement.Universe.{Universe}
use Rattle.spec_syntax.specs.declared.expr.Kind.{Kind}
use Rattle.spec_syntax.specs.declared.expr.Kind.TheVariants as kinds
use Rattle.spec_syntax.specs.Expression as expr
use Rattle.spec_syntax.specs.Expression.{Expression}
use Rattle.spec_syntax.specs.Rules.{all_nodes}
use Rattle.spec_syntax.specs.Nodes.{arguments_of, children_at}
use Rattle.struct_model.specs.Bounded.{number}
use Rattle.well_founded.specs.declared.node.NodeKind.TheVariants as told
use Rattle.well_founded.specs.NodeKinds.{container}
use Rattle.well_founded.specs.Checked.{grammar}
use Rattle.listing_laws.specs.Numbers.{joined}
use Rattle.listing_laws.specs.NodeListing.{HasKind, number_of_node, number_from}
use Rattle.listing_laws.specs.ContainersRecur.{of_components}
use Rattle.listing_laws.proofs.Joined.{joined_same}
use Rattle.listing_laws.proofs.NodeLemmas.{ContainerNode, container_node, nodes_are_counted}
use Rattle.listing_laws.proofs.Numbers.{numbers_recur}
use Rattle.listing_laws.proofs.ContainersRecur.{containers_recur}
use Rattle.size_counts.specs.CountedView.{Counts, IsCounted, number_of, lists_of, sets_of, with_exactly}
use Rattle.size_counts.specs.Numbers.{list_number}
use Rattle.struct_walk.specs.Tails as tails
use Rattle.struct_walk.proofs.TailLemmas.{counted_number, later_lists}
use Rattle.struct_walk.proofs.TailListings.{cycle_labelled}
use Rattle.draw_steps.specs.declared.missing.Lists.{Lists}
use Rattle.draw_steps.specs.declared.missing.Lists.TheVariants.{Components, Elements, Members}
use Rattle.draw_steps.specs.Asked.{AreComponents, AreElements, AreMembers, AreMissing}
use Rattle.draw_steps.specs.Choices.{first_of, lists_number, times_met, length_weight}

once : (n : ℕ) → n ≡ 1 * n
once n = omega arith

one_back : (n : ℕ) → 1 ≤ n → suc (n - 1) ≡ n
one_back n some = omega arith

module _ (counts : Counts) (is : IsCounted counts) where
  module _ (k : Kind) (node element : ℕ) (h : HasKind counts.checked node (container k)) (child : slice_get (children_at counts.checked.rules node) 0 ≡ Some element) where
    abbrev here : ContainerNode counts.checked k node element
    here = container_node counts.checked k node element h child

    pub there : IsIn (expr.Many k here.e here.card) (all_nodes counts.checked.rules)
    there = in_of_get (all_nodes counts.checked.rules) node (expr.Many k here.e here.card) here.at

    pub element_is : (d : ℕ) → number_of counts element d ≡ number (grammar counts.checked) here.e d
    element_is d = ap (λ (o : Option Expression). option_map_or (λ e. number (grammar counts.checked) e d) o 0) here.inside

    pub lists_is : (c n : ℕ) → lists_of counts node c n ≡ of_components (grammar counts.checked) kinds.Sequence here.e c n
    lists_is c n = ap (λ (o : Option Expression). option_map_or (λ e. list_number (grammar counts.checked) e c n) (slice_get (option_map_or arguments_of o []) 0) 0) here.at

    pub sets_is : (c n : ℕ) → sets_of counts node c n ≡ of_components (grammar counts.checked) k here.e c n
    sets_is c n = ap (λ (o : Option Expression). option_map_or (λ e. number (grammar counts.checked) (with_exactly c e) n) o 0) here.at

  abbrev all : Lists → ℕ → ℕ → ℕ
  all lists missing m = sum (map (length_weight counts lists missing m) (range_with_len 0 (m + 1)))

  joins : (lists : Lists) (missing m : ℕ) (first others : ℕ → ℕ) → ((d : ℕ) → number_of counts (first_of counts lists missing) d ≡ first d)
      → ((d : ℕ) → lists_number counts lists (missing - 1) d ≡ others d) → all lists missing m ≡ joined counts.checked.universe first others m
  joins lists missing m first others f o =
      joined_same counts.checked.universe (number_of counts (first_of counts lists missing)) first (lists_number counts lists (missing - 1)) others m
      (λ d small. λ i. f d i * o (m - d) i)

  elements_sum : (node element missing m : ℕ) → AreElements counts node element missing → 1 ≤ missing → all (Elements node element) missing m ≡ lists_of counts node missing m
  elements_sum node element missing m e some = by e.kind
    where
      by : HasKind counts.checked node told.Sequence ⊎ HasKind counts.checked node told.Cycle → all (Elements node element) missing m ≡ lists_of counts node missing m
      by (inl h) =
          let c : ContainerNode counts.checked kinds.Sequence node element = container_node counts.checked kinds.Sequence node element h e.over.child in
          joins (Elements node element) missing m (number (grammar counts.checked) c.e) (of_components (grammar counts.checked) kinds.Sequence c.e (missing - 1))
          (element_is kinds.Sequence node element h e.over.child) (lists_is kinds.Sequence node element h e.over.child (missing - 1))
          ∙ sym (numbers_recur.lists (grammar counts.checked) c.e c.card (missing - 1) m is.passed.spec is.passed.well_founded (there kinds.Sequence node element h e.over.child))
          ∙ ap (λ (n : ℕ). of_components (grammar counts.checked) kinds.Sequence c.e n m) (one_back missing some)
          ∙ sym (lists_is kinds.Sequence node element h e.over.child missing m)
      by (inr h) =
          let c : ContainerNode counts.checked kinds.Cycle node element = container_node counts.checked kinds.Cycle node element h e.over.child in
          joins (Elements node element) missing m (number (grammar counts.checked) c.e) (of_components (grammar counts.checked) kinds.Sequence c.e (missing - 1))
          (element_is kinds.Cycle node element h e.over.child) (lists_is kinds.Cycle node element h e.over.child (missing - 1))
          ∙ ap (λ (u : Universe). joined u (number (grammar counts.checked) c.e) (of_components (grammar counts.checked) kinds.Sequence c.e (missing - 1)) m)
          (cycle_labelled counts.checked is.passed node element h e.over.child)
          ∙ sym (containers_recur.lists (grammar counts.checked) c.e c.card (missing - 1) m is.passed.spec is.passed.well_founded (there kinds.Cycle node element h e.over.child))
          ∙ ap (λ (n : ℕ). of_components (grammar counts.checked) kinds.Sequence c.e n m) (one_back missing some)
          ∙ sym (lists_is kinds.Cycle node element h e.over.child missing m)

  members_sum : (node element missing m : ℕ) → AreMembers counts node element missing → 1 ≤ missing → all (Members node element) missing m ≡ missing * sets_of counts node missing m
  members_sum node element missing m e some = by e.kind
    where
      by : HasKind counts.checked node told.Set ⊎ HasKind counts.checked node told.PowerSet → all (Members node element) missing m ≡ missing * sets_of counts node missing m
      by (inl h) =
          let c : ContainerNode counts.checked kinds.Set node element = container_node counts.checked kinds.Set node element h e.over.child in
          joins (Members node element) missing m (number (grammar counts.checked) c.e) (of_components (grammar counts.checked) kinds.Set c.e (missing - 1))
          (element_is kinds.Set node element h e.over.child) (sets_is kinds.Set node element h e.over.child (missing - 1))
          ∙ ap (λ (u : Universe). joined u (number (grammar counts.checked) c.e) (of_components (grammar counts.checked) kinds.Set c.e (missing - 1)) m) e.labelled
          ∙ sym (containers_recur.labelled_sets (grammar counts.checked) c.e c.card (missing - 1) m is.passed.spec is.passed.well_founded e.labelled (there kinds.Set node element h e.over.child))
          ∙ ap (λ (n : ℕ). n * of_components (grammar counts.checked) kinds.Set c.e n m) (one_back missing some)
          ∙ sym (ap (λ (n : ℕ). missing * n) (sets_is kinds.Set node element h e.over.child missing m))
      by (inr h) =
          let c : ContainerNode counts.checked kinds.PowerSet node element = container_node counts.checked kinds.PowerSet node element h e.over.child in
          joins (Members node element) missing m (number (grammar counts.checked) c.e) (of_components (grammar counts.checked) kinds.PowerSet c.e (missing - 1))
          (element_is kinds.PowerSet node element h e.over.child) (sets_is kinds.PowerSet node element h e.over.child (missing - 1))
          ∙ ap (λ (u : Universe). joined u (number (grammar counts.checked) c.e) (of_components (grammar counts.checked) kinds.PowerSet c.e (missing - 1)) m) e.labelled
          ∙ sym (containers_recur.labelled_power_sets (grammar counts.checked) c.e c.card (missing - 1) m is.passed.spec is.passed.well_founded e.labelled (there kinds.PowerSet node element h e.over.child))
          ∙ ap (λ (n : ℕ). n * of_components (grammar counts.checked) kinds.PowerSet c.e n m) (one_back missing some)
          ∙ sym (ap (λ (n : ℕ). missing * n) (sets_is kinds.PowerSet node element h e.over.child missing m))

  -- the first of a Prod's missing components
  pub component_at : (node missing : ℕ) → AreComponents counts node missing → 1 ≤ missing
      → slice_get (children_at counts.checked.rules node) (length (children_at counts.checked.rules node) - missing) ≡ Some (first_of counts (Components node) missing)
  component_at node missing e some =
      let found = slice_some (children_at counts.checked.rules node) (length (children_at counts.checked.rules node) - missing) (omega (arith, e.few)) in
      found.1 ∙ ap (λ (child : ℕ). Some child) (sym (ap (λ (i : ℕ). unwrap_or (slice_get (children_at counts.checked.rules node) i) 0) (back (length (children_at counts.checked.rules node) - missing))
      ∙ ap (λ (o : Option ℕ). unwrap_or o 0) found.1))
    where
      back : (n : ℕ) → n + 1 - 1 ≡ n
      back n = omega arith

  walked : (node missing : ℕ) → AreComponents counts node missing → (place : ℕ) → place ≤ length (children_at counts.checked.rules node) → tails.AreComponents counts node place
  walked node missing e place within = record { reached = e.reached; prod = e.prod; within = within }

  pub suffix_is : (node missing m : ℕ) → AreComponents counts node missing
      → lists_number counts (Components node) missing m ≡ number_from counts.checked node (length (children_at counts.checked.rules node) - missing) m
  suffix_is node missing m e = later_lists counts is node (length (children_at counts.checked.rules node) - missing) m (walked node missing e (length (children_at counts.checked.rules node) - missing) (omega arith))

  components_sum : (node missing m : ℕ) → AreComponents counts node missing → 1 ≤ missing → all (Components node) missing m ≡ lists_number counts (Components node) missing m
  components_sum node missing m e some =
      joins (Components node) missing m (number_of_node counts.checked (first_of counts (Components node) missing)) (number_from counts.checked node (place + 1))
      (λ d. counted_number counts (first_of counts (Components node) missing) d)
      (λ d. suffix_is node (missing - 1) d (record { reached = e.reached; prod = e.prod; few = omega (arith, e.few) })
      ∙ ap (λ (p : ℕ). number_from counts.checked node p d) (next (length (children_at counts.checked.rules node)) missing some e.few))
      ∙ sym (nodes_are_counted.component counts.checked node place (first_of counts (Components node) missing) m is.passed e.prod (component_at node missing e some))
      ∙ sym (suffix_is node missing m e)
    where
      place : ℕ
      place = length (children_at counts.checked.rules node) - missing

      next : (n c : ℕ) → 1 ≤ c → c ≤ n → n - (c - 1) ≡ n - c + 1
      next n c low high = omega arith

  -- the weights of all numbers of atoms
  pub weights_sum : (lists : Lists) (missing m : ℕ) → AreMissing counts lists missing → 1 ≤ missing
      → sum (map (length_weight counts lists missing m) (range_with_len 0 (m + 1))) ≡ times_met lists missing * lists_number counts lists missing m
  weights_sum (Components node) missing m e some = components_sum node missing m e some ∙ once (lists_number counts (Components node) missing m)
  weights_sum (Elements node element) missing m e some = elements_sum node element missing m e some ∙ once (lists_of counts node missing m)
  weights_sum (Members node element) missing m e some = members_sum node element missing m e some
