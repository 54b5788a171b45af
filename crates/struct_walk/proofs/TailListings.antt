-- The listings and the numbers of nodes and of lists of components, on any supply.
use Rattle.std.proofs.Common.{◌≡◌, ℕ, ◌<◌, true, ◌&&◌, List, [], ◌∷◌, ◌++◌, map, length, take, drop, Option, Some, None, slice_get, refl, sym, ap, ◌∙◌, subst, inl, true≢false, arith}
use Rattle.std.specs.Prelude.{IsTrue}
use Rattle.std.specs.Option.{option_map_or}
use Rattle.std.proofs.lemmas.List.{take-append-drop, length-map}
use Rattle.std.proofs.lemmas.Bool.{and_parts, and_from}
use Rattle.lists.specs.Enumeration.{IsIn}
use Rattle.lists.proofs.Enumerated.{in_map}
use Rattle.spec_syntax.specs.declared.statement.Universe.{Universe}
use Rattle.spec_syntax.specs.declared.statement.Universe.TheVariants.{Labelled, Unlabelled}
use Rattle.spec_syntax.specs.declared.expr.Card.{Card}
use Rattle.spec_syntax.specs.declared.expr.Kind.{Kind}
use Rattle.spec_syntax.specs.declared.expr.Kind.TheVariants as kind
use Rattle.spec_syntax.specs.Card.{admits}
use Rattle.spec_syntax.specs.Expression as expr
use Rattle.spec_syntax.specs.Expression.{Expression, expression_list, expressions_of}
use Rattle.spec_syntax.specs.Rules.{all_nodes}
use Rattle.spec_syntax.specs.Grammar.{Grammar}
use Rattle.spec_syntax.specs.Nodes.{node_at, children_at, arguments_at}
use Rattle.spec_syntax.proofs.NodesLemmas.{in_nodes}
use Rattle.struct_model.specs.declared.tree.Form5.TheVariants as form
use Rattle.struct_model.specs.Structure.{Structure, Tup, size, key, labels_of_parts, part_list, parts_of}
use Rattle.struct_model.specs.Membership.{supply, is_supply, is_of, are_of}
use Rattle.struct_model.specs.Order.{is_sorted}
use Rattle.struct_model.specs.Bounded.{listing, number}
use Rattle.well_founded.specs.declared.node.NodeKind.TheVariants as told
use Rattle.well_founded.specs.Checked.{Checked, IsChecked, grammar}
use Rattle.listing_laws.specs.Lister.{product, sequence}
use Rattle.listing_laws.specs.Recursion.{components_on, repeated_on}
use Rattle.listing_laws.specs.Relabelled.{relabelled}
use Rattle.listing_laws.specs.Numbers.{exactly}
use Rattle.listing_laws.specs.NodeListing.{HasKind, listing_on, later_on, lists_on, number_of_node, number_from, number_of_lists}
use Rattle.listing_laws.specs.SetListing.{set, power_set}
use Rattle.listing_laws.specs.LeastFirst.{cycle, sets_on, cycles_on}
use Rattle.listing_laws.specs.LeastNodes.{set_lists_on, cycle_lists_on, number_of_sets}
use Rattle.listing_laws.specs.SortedNodes.{IsContained}
use Rattle.listing_laws.proofs.ContainersRecur.{is_of_labelled}
use Rattle.listing_laws.proofs.LeastListed.{labelled_containers_are_listed}
use Rattle.listing_laws.proofs.LeastNodes.{labelled_nodes_are_listed, labelled_nodes_are_counted}
use Rattle.listing_laws.proofs.Listed.{listing_sound, listed_size}
use Rattle.listing_laws.proofs.NodeLemmas.{listing_is, supplied, ProdNode, prod_node, prod_arguments, prod_there, ContainerNode, container_node}
use Rattle.listing_laws.proofs.Recursion.{listings_recur, well_founded_is_listed}

pub no_labels : (universe : Universe) → supply universe 0 ≡ []
no_labels Labelled = refl
no_labels Unlabelled = refl

some_item : {X Y : Type 0} (xs : List X) (f : X → Y) (y : Y) → IsIn y (map f xs) → 0 < length xs
some_item [] f y there = absurd there
some_item (x ∷ xs) f y there = omega arith

pub no_items : {X : Type 0} (xs : List X) → length xs ≡ 0 → xs ≡ []
no_items [] h = refl
no_items (x ∷ xs) h = absurd (omega arith)

module _ (checked : Checked) (passed : IsChecked checked) where
  abbrev g : Grammar
  g = grammar checked

  -- ---- nodes

  -- a node has as many structures on each supply of so many labels
  pub listing_number : (node : ℕ) (u : List ℕ) → IsTrue (is_supply checked.universe u) → length (listing_on checked node u) ≡ number_of_node checked node (length u)
  listing_number node u in_order = by (node_at checked.rules node) refl
    where
      by : (o : Option Expression) → node_at checked.rules node ≡ o → length (listing_on checked node u) ≡ number_of_node checked node (length u)
      by None at =
          ap (λ o. length (option_map_or (λ e. listing g e u) o [])) at ∙ sym (ap (λ o. length (option_map_or (λ e. listing g e (supply checked.universe (length u))) o [])) at)
      by (Some e) at =
          ap length (listing_is checked node e u at
          ∙ listings_recur.alike g e u in_order (well_founded_is_listed.nodes g e passed.spec passed.well_founded (in_nodes checked.rules node e at)))
          ∙ length-map (listing g e (supply checked.universe (length u))) (relabelled u)
          ∙ sym (ap length (listing_is checked node e (supply checked.universe (length u)) at))

  -- each structure has as many atoms as there are labels
  pub node_size : (node : ℕ) (u : List ℕ) (s : Structure) → IsIn s (listing_on checked node u) → size s ≡ length u
  node_size node u s = by (node_at checked.rules node)
    where
      by : (o : Option Expression) → IsIn s (option_map_or (λ e. listing g e u) o []) → size s ≡ length u
      by None there = absurd there
      by (Some e) there = listed_size g e u s there

  -- ---- components of a Prod

  module _ (node place : ℕ) (h : HasKind checked node told.Prod) where
    abbrev prod : ProdNode checked node
    prod = prod_node checked node h

    abbrev all : List Expression
    all = expression_list prod.components

    abbrev later : List Expression
    later = drop place all

    later_is : (u : List ℕ) → later_on checked node place u ≡ components_on g (expressions_of later) u
    later_is u = ap (λ es. components_on g (expressions_of (drop place es)) u) (prod_arguments checked node prod)

    cut : IsIn (expr.Prod (expressions_of (take place all ++ later))) (all_nodes checked.rules)
    cut = prod_there checked node prod (take place all) later (take-append-drop place all)

    later_listed : (u : List ℕ) → IsTrue (is_supply checked.universe u) → listing g (expr.Prod (expressions_of later)) u ≡ map product (later_on checked node place u)
    later_listed u in_order = listings_recur.prod g (take place all) later u passed.spec passed.well_founded cut in_order ∙ ap (map product) (sym (later_is u))

    pub later_length : (u : List ℕ) → IsTrue (is_supply checked.universe u)
        → length (later_on checked node place u) ≡ length (later_on checked node place (supply checked.universe (length u)))
    later_length u in_order =
        ap length (later_is u ∙ listings_recur.alike_components g (take place all) later u passed.spec passed.well_founded cut in_order)
        ∙ length-map (components_on g (expressions_of later) (supply checked.universe (length u))) (map (relabelled u))
        ∙ sym (ap length (later_is (supply checked.universe (length u))))

    -- they are as many as the Prods of them
    pub later_number : (n : ℕ) → number g (expr.Prod (expressions_of (drop place (arguments_at checked.rules node)))) n ≡ number_from checked node place n
    later_number n =
        ap (λ es. number g (expr.Prod (expressions_of (drop place es))) n) (prod_arguments checked node prod)
        ∙ ap length (later_listed (supply checked.universe n) (supplied checked n)) ∙ length-map (later_on checked node place (supply checked.universe n)) product

    pub later_size : (u : List ℕ) (ss : List Structure) → IsTrue (is_supply checked.universe u) → IsIn ss (later_on checked node place u)
        → length (labels_of_parts (parts_of ss)) ≡ length u
    later_size u ss in_order there =
        listed_size g (expr.Prod (expressions_of later)) u (product ss)
        (subst (IsIn (product ss)) (sym (later_listed u in_order)) (in_map product ss (later_on checked node place u) there))

  -- ---- components of a container, by any bound

  -- a Cycle stands among labels
  pub cycle_labelled : (node element : ℕ) → HasKind checked node told.Cycle → slice_get (children_at checked.rules node) 0 ≡ Some element → checked.universe ≡ Labelled
  cycle_labelled node element h child =
      let c : ContainerNode checked kind.Cycle node element = container_node checked kind.Cycle node element h child in
      is_of_labelled g c.e c.card passed.well_founded.no_cycles (in_nodes checked.rules node (expr.Many kind.Cycle c.e c.card) c.at)

  -- a container's structure that has its components by one bound has them by each that admits as many
  record Admitted (k : Kind) (e : Expression) (card : Card) (s : Structure) : Type 0 where
    count : ℕ
    admitted : admits card count ≡ true
    each : (other : Card) → admits other count ≡ true → is_of g (expr.Many k e other) s ≡ true

  sequence_admitted : (e : Expression) (card : Card) (s : Structure) → is_of g (expr.Many kind.Sequence e card) s ≡ true → Admitted kind.Sequence e card s
  sequence_admitted e card (Tup form.Sequence ps) of =
      let parts = and_parts (admits card (length (part_list ps))) (are_of g e ps) of in
      record { count = length (part_list ps); admitted = parts.0; each = λ other admitted. and_from (admits other (length (part_list ps))) (are_of g e ps) admitted parts.1 }
  sequence_admitted e card s of = absurd (true≢false (sym of))

  set_admitted : (e : Expression) (card : Card) (s : Structure) → is_of g (expr.Many kind.Set e card) s ≡ true → Admitted kind.Set e card s
  set_admitted e card (Tup form.Set ps) of =
      let parts = and_parts (admits card (length (part_list ps)) && is_sorted (part_list ps)) (are_of g e ps) of in
      let first = and_parts (admits card (length (part_list ps))) (is_sorted (part_list ps)) parts.0 in
      record {
        count = length (part_list ps);
        admitted = first.0;
        each = λ other admitted.
            and_from (admits other (length (part_list ps)) && is_sorted (part_list ps)) (are_of g e ps) (and_from (admits other (length (part_list ps))) (is_sorted (part_list ps)) admitted first.1)
            parts.1;
      }
  set_admitted e card s of = absurd (true≢false (sym of))

  -- a list by one bound is one by each that admits as many
  pub record HasLists (on : Card → List ℕ → List (List Structure)) (card : Card) (u : List ℕ) : Type 0 where
    pub count : ℕ
    pub admitted : admits card count ≡ true
    pub each : (other : Card) → admits other count ≡ true → 0 < length (on other u)

  module _ (k : Kind) (e : Expression) (made : List Structure → Structure) (on : Card → List ℕ → List (List Structure)) (u : List ℕ)
      (listing_is : (card : Card) → listing g (expr.Many k e card) u ≡ map made (on card u))
      (listed : (card : Card) (s : Structure) → is_of g (expr.Many k e card) s ≡ true → key s ≡ u → IsIn s (listing g (expr.Many k e card) u))
      (each_admitted : (card : Card) (s : Structure) → is_of g (expr.Many k e card) s ≡ true → Admitted k e card s) where
    some_lists : (card : Card) → 0 < length (on card u) → HasLists on card u
    some_lists card some = by (on card u) refl
      where
        by : (lists : List (List Structure)) → on card u ≡ lists → HasLists on card u
        by [] are = absurd (omega (arith, some, ap length are))
        by (ss ∷ others) are =
            let within : IsIn (made ss) (listing g (expr.Many k e card) u) = subst (IsIn (made ss)) (sym (listing_is card ∙ ap (map made) are)) (inl refl) in
            let one = listing_sound g (expr.Many k e card) u (made ss) within in
            let found : Admitted k e card (made ss) = each_admitted card (made ss) one.0 in
            record {
              count = found.count;
              admitted = found.admitted;
              each = λ other admitted.
                  some_item (on other u) made (made ss) (subst (IsIn (made ss)) (listing_is other) (listed other (made ss) (found.each other admitted) one.1));
            }

  module _ (element : ℕ) (is : IsContained checked element) where
    abbrev node : ContainerNode checked is.kind is.node element
    node = container_node checked is.kind is.node element is.is is.child

    abbrev e : Expression
    e = node.e

    there : IsIn (expr.Many is.kind e node.card) (all_nodes checked.rules)
    there = in_nodes checked.rules is.node (expr.Many is.kind e node.card) node.at

    listed_by : (k : Kind) (u : List ℕ) → IsTrue (is_supply checked.universe u) → (card : Card) (s : Structure) → is_of g (expr.Many k e card) s ≡ true → key s ≡ u
        → IsIn s (listing g (expr.Many k e card) u)
    listed_by k u in_order card s of labelled =
        ((well_founded_is_listed.containers g is.kind k e node.card card passed.spec passed.well_founded there).lists u in_order).complete s (of, labelled)

    -- ---- lists

    lists_are : (card : Card) (u : List ℕ) → lists_on checked element card u ≡ repeated_on g e card u
    lists_are card u = ap (λ o. option_map_or (λ f. repeated_on g f card u) o []) node.inside

    pub lists_listed : (card : Card) (u : List ℕ) → IsTrue (is_supply checked.universe u)
        → listing g (expr.Many kind.Sequence e card) u ≡ map sequence (lists_on checked element card u)
    lists_listed card u in_order =
        labelled_containers_are_listed.sequences g is.kind e node.card card u passed.spec passed.well_founded there in_order ∙ ap (map sequence) (sym (lists_are card u))

    pub lists_length : (card : Card) (u : List ℕ) → IsTrue (is_supply checked.universe u)
        → length (lists_on checked element card u) ≡ length (lists_on checked element card (supply checked.universe (length u)))
    lists_length card u in_order =
        ap length (labelled_nodes_are_listed.alike_lists checked element card u passed in_order is)
        ∙ length-map (lists_on checked element card (supply checked.universe (length u))) (map (relabelled u))

    pub lists_size : (card : Card) (u : List ℕ) (ss : List Structure) → IsTrue (is_supply checked.universe u) → IsIn ss (lists_on checked element card u)
        → length (labels_of_parts (parts_of ss)) ≡ length u
    lists_size card u ss in_order within =
        listed_size g (expr.Many kind.Sequence e card) u (sequence ss)
        (subst (IsIn (sequence ss)) (sym (lists_listed card u in_order)) (in_map sequence ss (lists_on checked element card u) within))

    pub has_lists : (card : Card) (u : List ℕ) → IsTrue (is_supply checked.universe u) → 0 < length (lists_on checked element card u) → HasLists (lists_on checked element) card u
    has_lists card u in_order some =
        some_lists kind.Sequence e sequence (lists_on checked element) u (λ other. lists_listed other u in_order) (listed_by kind.Sequence u in_order) (sequence_admitted e) card some

    pub lists_number : (c n : ℕ) → number g (expr.Many kind.Sequence e (exactly c)) n ≡ number_of_lists checked element c n
    lists_number c n =
        ap length (lists_listed (exactly c) (supply checked.universe n) (supplied checked n)) ∙ length-map (lists_on checked element (exactly c) (supply checked.universe n)) sequence

    -- an element has an atom
    pub no_element : (u : List ℕ) → length u ≡ 0 → listing_on checked element u ≡ []
    no_element u none =
        let empty : u ≡ [] = no_items u none in
        no_items (listing_on checked element u)
        (ap (λ v. length (listing_on checked element v)) (empty ∙ sym (no_labels checked.universe)) ∙ labelled_nodes_are_counted.element checked element passed is)

    -- ---- Sets and Cycles with labels

    module _ (universe : checked.universe ≡ Labelled) where
      sets_are : (card : Card) (u : List ℕ) → set_lists_on checked element card u ≡ sets_on g e card u
      sets_are card u = ap (λ o. option_map_or (λ f. sets_on g f card u) o []) node.inside

      sets_listed : (card : Card) (u : List ℕ) → IsTrue (is_supply checked.universe u)
          → listing g (expr.Many kind.Set e card) u ≡ map set (set_lists_on checked element card u)
      sets_listed card u in_order =
          labelled_containers_are_listed.sets g is.kind e node.card card u passed.spec passed.well_founded universe there in_order ∙ ap (map set) (sym (sets_are card u))

      pub sets_length : (card : Card) (u : List ℕ) → IsTrue (is_supply checked.universe u)
          → length (set_lists_on checked element card u) ≡ length (set_lists_on checked element card (supply checked.universe (length u)))
      sets_length card u in_order =
          ap length (labelled_nodes_are_listed.alike_sets checked element card u passed universe in_order is)
          ∙ length-map (set_lists_on checked element card (supply checked.universe (length u))) (map (relabelled u))

      pub sets_size : (card : Card) (u : List ℕ) (ss : List Structure) → IsTrue (is_supply checked.universe u) → IsIn ss (set_lists_on checked element card u)
          → length (labels_of_parts (parts_of ss)) ≡ length u
      sets_size card u ss in_order within =
          listed_size g (expr.Many kind.Set e card) u (set ss)
          (subst (IsIn (set ss)) (sym (sets_listed card u in_order)) (in_map set ss (set_lists_on checked element card u) within))

      pub has_sets : (card : Card) (u : List ℕ) → IsTrue (is_supply checked.universe u) → 0 < length (set_lists_on checked element card u)
          → HasLists (set_lists_on checked element) card u
      has_sets card u in_order some =
          some_lists kind.Set e set (set_lists_on checked element) u (λ other. sets_listed other u in_order) (listed_by kind.Set u in_order) (set_admitted e) card some

      -- so many components of Sets, and of PowerSets
      pub sets_number : (c n : ℕ) → number g (expr.Many kind.Set e (exactly c)) n ≡ number_of_sets checked element c n
      sets_number c n =
          ap length (sets_listed (exactly c) (supply checked.universe n) (supplied checked n)) ∙ length-map (set_lists_on checked element (exactly c) (supply checked.universe n)) set

      pub power_sets_number : (c n : ℕ) → number g (expr.Many kind.PowerSet e (exactly c)) n ≡ number_of_sets checked element c n
      power_sets_number c n =
          ap length (labelled_containers_are_listed.power_sets g is.kind e node.card (exactly c) (supply checked.universe n) passed.spec passed.well_founded universe there (supplied checked n)
          ∙ ap (map power_set) (sym (sets_are (exactly c) (supply checked.universe n))))
          ∙ length-map (set_lists_on checked element (exactly c) (supply checked.universe n)) power_set

      cycles_are : (card : Card) (u : List ℕ) → cycle_lists_on checked element card u ≡ cycles_on g e card u
      cycles_are card u = ap (λ o. option_map_or (λ f. cycles_on g f card u) o []) node.inside

      cycles_listed : (card : Card) (u : List ℕ) → IsTrue (is_supply checked.universe u)
          → listing g (expr.Many kind.Cycle e card) u ≡ map cycle (cycle_lists_on checked element card u)
      cycles_listed card u in_order =
          labelled_containers_are_listed.cycles g is.kind e node.card card u passed.spec passed.well_founded universe there in_order ∙ ap (map cycle) (sym (cycles_are card u))

      pub cycles_length : (card : Card) (u : List ℕ) → IsTrue (is_supply checked.universe u)
          → length (cycle_lists_on checked element card u) ≡ length (cycle_lists_on checked element card (supply checked.universe (length u)))
      cycles_length card u in_order =
          ap length (labelled_nodes_are_listed.alike_cycles checked element card u passed universe in_order is)
          ∙ length-map (cycle_lists_on checked element card (supply checked.universe (length u))) (map (relabelled u))

      pub cycles_size : (card : Card) (u : List ℕ) (ss : List Structure) → IsTrue (is_supply checked.universe u) → IsIn ss (cycle_lists_on checked element card u)
          → length (labels_of_parts (parts_of ss)) ≡ length u
      cycles_size card u ss in_order within =
          listed_size g (expr.Many kind.Cycle e card) u (cycle ss)
          (subst (IsIn (cycle ss)) (sym (cycles_listed card u in_order)) (in_map cycle ss (cycle_lists_on checked element card u) within))
