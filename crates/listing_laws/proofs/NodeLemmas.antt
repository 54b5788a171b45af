-- What nodes of a checked grammar list on a supply, by the nodes below them, and how many structures they have.
use Rattle.std.proofs.Common.{◌≡◌, ℕ, suc, ◌+◌, ◌<◌, ◌≤◌, true, List, [], ◌∷◌, ◌++◌, map, length, take, drop, slice_get, unwrap_or, Option, Some, None, refl, sym, ap, ◌∙◌, subst, arith}
use Rattle.std.specs.Prelude.{if◌then◌else◌}
use Rattle.std.specs.Option.{option_map, option_map_or, option_and_then}
use Rattle.std.specs.List.{sum}
use Rattle.std.proofs.lemmas.List.{take-append-drop, drop_all, length-map}
use Rattle.std.proofs.lemmas.Option.{slice_get_within}
use Rattle.lists.specs.Enumeration.{IsIn}
use Rattle.lists.proofs.Places.{drop_at}
use Rattle.lists.proofs.Positions.{slice_some}
use Rattle.spec_syntax.specs.declared.expr.Card.{Card}
use Rattle.spec_syntax.specs.declared.expr.Kind.{Kind}
use Rattle.spec_syntax.specs.declared.expr.Kind.TheVariants as kind
use Rattle.spec_syntax.specs.Expression as expr
use Rattle.spec_syntax.specs.Expression.{Expression, Expressions, no_expressions, more_expressions, expression_list, expressions_of}
use Rattle.spec_syntax.specs.Rules.{Rules, symbol, right_side, rule_name, all_nodes}
use Rattle.spec_syntax.specs.Grammar.{Grammar}
use Rattle.spec_syntax.specs.Nodes.{node_at, right_node, children_of, children_at, name_of, name_at, card_of, card_at, arguments_of, arguments_at}
use Rattle.spec_syntax.proofs.NodesLemmas.{in_nodes, child_node, length-children_of, right_node_is}
use Rattle.spec_syntax.proofs.RuleNames.{number_own}
use Rattle.spec_syntax.proofs.RulesLemmas.{symbol_right, some_right}
use Rattle.struct_model.specs.Membership.{supply, is_supply}
use Rattle.struct_model.specs.Bounded.{listing, number}
use Rattle.struct_model.proofs.SupplyLaws.{supply_is}
use Rattle.well_founded.specs.declared.node.NodeKind.{NodeKind}
use Rattle.well_founded.specs.declared.node.NodeKind.TheVariants as told
use Rattle.well_founded.specs.NodeKinds.{kind_of, container}
use Rattle.well_founded.specs.Checked.{Checked, IsChecked, grammar}
use Rattle.well_founded.specs.Sizes.{IsLeast}
use Rattle.listing_laws.specs.Lister.{list_epsilon, list_atom, list_no_components, list_empty, alternatives, by_splits, by_parts, after_one, admits_some, product, sequence, named}
use Rattle.listing_laws.specs.Recursion.{components_on, repeated_on}
use Rattle.listing_laws.specs.Numbers.{joined, exactly, one_at, admitted}
use Rattle.listing_laws.specs.NodeListing.{HasKind, IsElement, listing_on, listing_of_node, rule_on, later_on, lists_on, least_at, number_of_node, number_from, number_of_lists, NodesAreListed, NodesAreCounted}
use Rattle.listing_laws.proofs.KindLemmas.{epsilon_is, atom_is, rule_is, union_is, prod_is, many_is}
use Rattle.listing_laws.proofs.Numbers.{numbers_recur}
use Rattle.listing_laws.proofs.Recursion.{listings_recur}

-- ---- lists of nodes

-- the nodes are those of the expressions, one of each
abbrev pub AreNodes : Rules → List ℕ → List Expression → Type 0
AreNodes rules [] [] = Unit {0}
AreNodes rules [] (e ∷ es) = ⊥
AreNodes rules (m ∷ ms) [] = ⊥
AreNodes rules (m ∷ ms) (e ∷ es) = (node_at rules m ≡ Some e) × AreNodes rules ms es

are_nodes : (rules : Rules) (ms : List ℕ) (es : List Expression) → length ms ≡ length es
    → ((i m : ℕ) → slice_get ms i ≡ Some m → node_at rules m ≡ slice_get es i) → AreNodes rules ms es
are_nodes rules [] [] same each = tt
are_nodes rules [] (e ∷ es) same each = absurd (omega arith)
are_nodes rules (m ∷ ms) [] same each = absurd (omega arith)
are_nodes rules (m ∷ ms) (e ∷ es) same each = (each 0 m refl, are_nodes rules ms es (omega arith) (λ i k at. each (suc i) k at))

pub children_are : (rules : Rules) (node : ℕ) (e : Expression) → node_at rules node ≡ Some e → AreNodes rules (children_of node e) (arguments_of e)
children_are rules node e at = are_nodes rules (children_of node e) (arguments_of e) (length-children_of node e) (λ i m child. child_node rules node e i m at child)

pub children_at_is : (rules : Rules) (node : ℕ) (e : Expression) → node_at rules node ≡ Some e → children_at rules node ≡ children_of node e
children_at_is rules node e at = ap (λ o. option_map_or (children_of node) o []) at

pub back_again : (es : Expressions) → expressions_of (expression_list es) ≡ es
back_again no_expressions = refl
back_again (more_expressions e es) = ap (λ others. more_expressions e others) (back_again es)

module _ (checked : Checked) where
  abbrev g : Grammar
  g = grammar checked

  pub supplied : (n : ℕ) → is_supply checked.universe (supply checked.universe n) ≡ true
  supplied n = supply_is checked.universe n

  pub kind_at : (node : ℕ) (told_kind : NodeKind) → HasKind checked node told_kind → (e : Expression) × (node_at checked.rules node ≡ Some e) × (kind_of e ≡ told_kind)
  kind_at node told_kind h = by (node_at checked.rules node) refl h
    where
      by : (o : Option Expression) → node_at checked.rules node ≡ o → option_map kind_of o ≡ Some told_kind
          → (e : Expression) × (node_at checked.rules node ≡ Some e) × (kind_of e ≡ told_kind)
      by None at h = absurd (cc)
      by (Some e) at h = let same : kind_of e ≡ told_kind = cc in (e, at, same)

  pub listing_is : (node : ℕ) (e : Expression) (u : List ℕ) → node_at checked.rules node ≡ Some e → listing_on checked node u ≡ listing g e u
  listing_is node e u at = ap (λ o. option_map_or (λ f. listing g f u) o []) at

  pub lists_are : (element : ℕ) (e : Expression) (card : Card) (u : List ℕ) → node_at checked.rules element ≡ Some e → lists_on checked element card u ≡ repeated_on g e card u
  lists_are element e card u at = ap (λ o. option_map_or (λ f. repeated_on g f card u) o []) at

  pub number_is : (node : ℕ) (e : Expression) (n : ℕ) → node_at checked.rules node ≡ Some e → number_of_node checked node n ≡ number g e n
  number_is node e n at = ap length (listing_is node e (supply checked.universe n) at)

  -- ---- the nodes of each kind

  pub epsilon_node : (node : ℕ) → HasKind checked node told.Epsilon → node_at checked.rules node ≡ Some expr.Epsilon
  epsilon_node node h = let at = kind_at node told.Epsilon h in at.1 ∙ ap Some (epsilon_is at.0 at.2)

  pub atom_node : (node : ℕ) → HasKind checked node told.Atom → node_at checked.rules node ≡ Some expr.Atom
  atom_node node h = let at = kind_at node told.Atom h in at.1 ∙ ap Some (atom_is at.0 at.2)

  -- a node that is a name, with the rule that it finds
  pub record NamedRule (node rule_number : ℕ) : Type 0 where
    pub name : List ℕ
    pub right : Expression
    pub at : node_at checked.rules node ≡ Some (expr.Name name)
    pub numbered : symbol checked.rules name ≡ Some rule_number
    pub sided : right_side checked.rules rule_number ≡ Some right

  pub named_rule : (node rule_number : ℕ) → HasKind checked node told.Rule → option_and_then (symbol checked.rules) (name_at checked.rules node) ≡ Some rule_number
      → NamedRule node rule_number
  named_rule node rule_number h found =
      let at = kind_at node told.Rule h in
      let rule = rule_is at.0 at.2 in
      let there : node_at checked.rules node ≡ Some (expr.Name rule.0) = at.1 ∙ ap Some rule.1 in
      let numbered : symbol checked.rules rule.0 ≡ Some rule_number = sym (ap (λ o. option_and_then (symbol checked.rules) (option_and_then name_of o)) there) ∙ found in
      let right = symbol_right checked.rules rule.0 rule_number numbered in
      record { name = rule.0; right = right.0; at = there; numbered = numbered; sided = right.1 }

  pub record UnionNode (node : ℕ) : Type 0 where
    pub arguments : Expressions
    pub at : node_at checked.rules node ≡ Some (expr.Union arguments)

  pub union_node : (node : ℕ) → HasKind checked node told.Union → UnionNode node
  union_node node h =
      let at = kind_at node told.Union h in
      let is = union_is at.0 at.2 in
      record { arguments = is.0; at = at.1 ∙ ap Some is.1 }

  pub record ProdNode (node : ℕ) : Type 0 where
    pub components : Expressions
    pub at : node_at checked.rules node ≡ Some (expr.Prod components)

  pub prod_node : (node : ℕ) → HasKind checked node told.Prod → ProdNode node
  prod_node node h =
      let at = kind_at node told.Prod h in
      let is = prod_is at.0 at.2 in
      record { components = is.0; at = at.1 ∙ ap Some is.1 }

  -- the node of a container and that of its element
  pub record ContainerNode (k : Kind) (node element : ℕ) : Type 0 where
    pub e : Expression
    pub card : Card
    pub at : node_at checked.rules node ≡ Some (expr.Many k e card)
    pub inside : node_at checked.rules element ≡ Some e

  pub container_node : (k : Kind) (node element : ℕ) → HasKind checked node (container k) → slice_get (children_at checked.rules node) 0 ≡ Some element → ContainerNode k node element
  container_node k node element h child =
      let at = kind_at node (container k) h in
      let is = many_is k at.0 at.2 in
      let there : node_at checked.rules node ≡ Some (expr.Many k is.0 is.1) = at.1 ∙ ap Some is.2 in
      let own : slice_get (children_of node (expr.Many k is.0 is.1)) 0 ≡ Some element =
      ap (λ ms. slice_get ms 0) (sym (children_at_is checked.rules node (expr.Many k is.0 is.1) there)) ∙ child in
      record { e = is.0; card = is.1; at = there; inside = child_node checked.rules node (expr.Many k is.0 is.1) 0 element there own }

  pub container_bound : (k : Kind) (node element : ℕ) (s : ContainerNode k node element) (card : Card) → card_at checked.rules node ≡ Some card → s.card ≡ card
  container_bound k node element s card h =
      let own : card_at checked.rules node ≡ Some s.card = ap (option_and_then card_of) s.at in
      let same : Some s.card ≡ Some card = sym own ∙ h in cc

  -- the node of a Sequence
  abbrev pub SequenceNode : ℕ → ℕ → Type 0
  SequenceNode node element = ContainerNode kind.Sequence node element

  pub sequence_node : (node element : ℕ) → HasKind checked node told.Sequence → slice_get (children_at checked.rules node) 0 ≡ Some element → SequenceNode node element
  sequence_node node element h child = container_node kind.Sequence node element h child

  pub bound_is : (node element : ℕ) (s : SequenceNode node element) (card : Card) → card_at checked.rules node ≡ Some card → s.card ≡ card
  bound_is node element s card h = container_bound kind.Sequence node element s card h

  -- ---- the components of a Prod

  module _ (node : ℕ) (prod : ProdNode node) where
    abbrev whole : Expression
    whole = expr.Prod prod.components

    abbrev all : List Expression
    all = expression_list prod.components

    pub prod_arguments : arguments_at checked.rules node ≡ all
    prod_arguments = ap (λ o. option_map_or arguments_of o []) prod.at

    pub prod_children : children_at checked.rules node ≡ children_of node whole
    prod_children = children_at_is checked.rules node whole prod.at

    pub prod_there : (earlier later : List Expression) → earlier ++ later ≡ all → IsIn (expr.Prod (expressions_of (earlier ++ later))) (all_nodes checked.rules)
    prod_there earlier later cut =
        subst (λ (es : Expressions). IsIn (expr.Prod es) (all_nodes checked.rules)) (sym (ap expressions_of cut ∙ back_again prod.components))
        (in_nodes checked.rules node whole prod.at)

    -- the child at the place, with its expression
    pub record Component (place child : ℕ) : Type 0 where
      pub e : Expression
      pub at : node_at checked.rules child ≡ Some e
      pub argument : slice_get all place ≡ Some e

    pub component : (place child : ℕ) → slice_get (children_at checked.rules node) place ≡ Some child → Component place child
    component place child here =
        let own : slice_get (children_of node whole) place ≡ Some child = ap (λ ms. slice_get ms place) (sym prod_children) ∙ here in
        let argument = slice_some all place (omega (arith, slice_get_within (children_of node whole) place child own, length-children_of node whole)) in
        record { e = argument.0; at = child_node checked.rules node whole place child prod.at own ∙ argument.1; argument = argument.1 }

    prod_is_later : (n : ℕ) (u : List ℕ) → later_on checked node n u ≡ components_on g (expressions_of (drop n all)) u
    prod_is_later n u = ap (λ es. components_on g (expressions_of (drop n es)) u) prod_arguments

    component_listed : (place child : ℕ) (u : List ℕ) → Component place child → later_on checked node place u ≡ by_splits (listing_on checked child) (later_on checked node (place + 1)) u
    component_listed place child u c =
        prod_is_later place u
        ∙ ap (λ es. components_on g (expressions_of es) u) (drop_at all place c.e c.argument)
        ∙ (λ i. by_splits (λ labels. sym (listing_is child c.e labels c.at) i) (λ labels. sym (prod_is_later (place + 1) labels) i) u)

    none_left : (place : ℕ) → length (children_at checked.rules node) ≤ place → drop place all ≡ []
    none_left place past = drop_all place all (omega (arith, past, ap length prod_children, length-children_of node whole))

-- ---- the laws

module _ (checked : Checked) (passed : IsChecked checked) where
  epsilon_listed : (node : ℕ) (u : List ℕ) → is_supply checked.universe u ≡ true → HasKind checked node told.Epsilon → listing_on checked node u ≡ list_epsilon u
  epsilon_listed node u in_order h = listing_is checked node expr.Epsilon u (epsilon_node checked node h) ∙ listings_recur.epsilon (grammar checked) u in_order

  atom_listed : (node : ℕ) (u : List ℕ) → is_supply checked.universe u ≡ true → HasKind checked node told.Atom → listing_on checked node u ≡ list_atom u
  atom_listed node u in_order h = listing_is checked node expr.Atom u (atom_node checked node h) ∙ listings_recur.atom (grammar checked) u in_order

  name_listed : (node rule_number : ℕ) (u : List ℕ) → is_supply checked.universe u ≡ true → NamedRule checked node rule_number
      → listing_on checked node u ≡ map (named rule_number) (listing_on checked (right_node checked.rules rule_number) u)
  name_listed node rule_number u in_order rule =
      listing_is checked node (expr.Name rule.name) u rule.at
      ∙ listings_recur.name (grammar checked) rule.name rule_number rule.right u passed.spec passed.well_founded rule.numbered rule.sided in_order
      ∙ ap (map (named rule_number)) (sym (listing_is checked (right_node checked.rules rule_number) rule.right u (right_node_is checked.rules rule_number rule.right rule.sided)))

  rule_listed : (rule_number : ℕ) (u : List ℕ) → is_supply checked.universe u ≡ true → 1 ≤ rule_number → rule_number ≤ length checked.rules
      → rule_on checked rule_number u ≡ map (named rule_number) (listing_on checked (right_node checked.rules rule_number) u)
  rule_listed rule_number u in_order low high =
      let right = some_right checked.rules rule_number low high in
      listings_recur.name (grammar checked) (rule_name checked.rules rule_number) rule_number right.0 u passed.spec passed.well_founded
      (number_own checked.rules rule_number passed.spec low high) right.1 in_order
      ∙ ap (map (named rule_number)) (sym (listing_is checked (right_node checked.rules rule_number) right.0 u (right_node_is checked.rules rule_number right.0 right.1)))

  listings_of : (u : List ℕ) (ms : List ℕ) (es : List Expression) → AreNodes checked.rules ms es → map (λ e. listing (grammar checked) e u) es ≡ map (λ m. listing_on checked m u) ms
  listings_of u [] [] nodes = refl
  listings_of u [] (e ∷ es) nodes = absurd nodes
  listings_of u (m ∷ ms) [] nodes = absurd nodes
  listings_of u (m ∷ ms) (e ∷ es) nodes = λ i. sym (listing_is checked m e u nodes.0) i ∷ listings_of u ms es nodes.1 i

  numbers_of : (n : ℕ) (ms : List ℕ) (es : List Expression) → AreNodes checked.rules ms es → map (λ e. number (grammar checked) e n) es ≡ map (λ m. number_of_node checked m n) ms
  numbers_of n [] [] nodes = refl
  numbers_of n [] (e ∷ es) nodes = absurd nodes
  numbers_of n (m ∷ ms) [] nodes = absurd nodes
  numbers_of n (m ∷ ms) (e ∷ es) nodes = λ i. sym (number_is checked m e n nodes.0) i ∷ numbers_of n ms es nodes.1 i

  union_listed : (node : ℕ) (u : List ℕ) → is_supply checked.universe u ≡ true → UnionNode checked node
      → listing_on checked node u ≡ alternatives 1 (map (λ child. listing_on checked child u) (children_at checked.rules node))
  union_listed node u in_order union =
      let whole : Expression = expr.Union union.arguments in
      listing_is checked node whole u union.at
      ∙ listings_recur.union (grammar checked) union.arguments u passed.spec passed.well_founded (in_nodes checked.rules node whole union.at) in_order
      ∙ ap (alternatives 1) (listings_of u (children_of node whole) (expression_list union.arguments) (children_are checked.rules node whole union.at))
      ∙ ap (λ ms. alternatives 1 (map (λ child. listing_on checked child u) ms)) (sym (children_at_is checked.rules node whole union.at))

  union_counted : (node n : ℕ) → UnionNode checked node → number_of_node checked node n ≡ sum (map (λ child. number_of_node checked child n) (children_at checked.rules node))
  union_counted node n union =
      let whole : Expression = expr.Union union.arguments in
      number_is checked node whole n union.at
      ∙ numbers_recur.union (grammar checked) union.arguments n passed.spec passed.well_founded (in_nodes checked.rules node whole union.at)
      ∙ ap sum (numbers_of n (children_of node whole) (expression_list union.arguments) (children_are checked.rules node whole union.at))
      ∙ ap (λ ms. sum (map (λ child. number_of_node checked child n) ms)) (sym (children_at_is checked.rules node whole union.at))

  module _ (node : ℕ) (prod : ProdNode checked node) where
    abbrev arguments : List Expression
    arguments = expression_list prod.components

    prod_listed : (u : List ℕ) → is_supply checked.universe u ≡ true → listing_on checked node u ≡ map product (later_on checked node 0 u)
    prod_listed u in_order =
        listing_is checked node (expr.Prod prod.components) u prod.at
        ∙ ap (λ es. listing (grammar checked) (expr.Prod es) u) (sym (back_again prod.components))
        ∙ listings_recur.prod (grammar checked) [] arguments u passed.spec passed.well_founded (prod_there checked node prod [] arguments refl) in_order
        ∙ ap (map product) (sym (prod_is_later checked node prod 0 u))

    cut : (place : ℕ) → IsIn (expr.Prod (expressions_of (take place arguments ++ drop place arguments))) (all_nodes checked.rules)
    cut place = prod_there checked node prod (take place arguments) (drop place arguments) (take-append-drop place arguments)

    -- the components from the place on are as many as the Prods of them
    later_number : (place n : ℕ) → number_from checked node place n ≡ number (grammar checked) (expr.Prod (expressions_of (drop place arguments))) n
    later_number place n =
        ap length (prod_is_later checked node prod place (supply checked.universe n))
        ∙ sym (length-map (components_on (grammar checked) (expressions_of (drop place arguments)) (supply checked.universe n)) product)
        ∙ sym (ap length (listings_recur.prod (grammar checked) (take place arguments) (drop place arguments) (supply checked.universe n) passed.spec passed.well_founded (cut place) (supplied checked n)))

    component_counted : (place child n : ℕ) → Component checked node prod place child
        → number_from checked node place n ≡ joined checked.universe (number_of_node checked child) (number_from checked node (place + 1)) n
    component_counted place child n c =
        later_number place n
        ∙ ap (λ es. number (grammar checked) (expr.Prod (expressions_of es)) n) (drop_at arguments place c.e c.argument)
        ∙ numbers_recur.prod (grammar checked) (take place arguments) c.e (drop (place + 1) arguments) n passed.spec passed.well_founded
        (subst (λ (es : List Expression). IsIn (expr.Prod (expressions_of (take place arguments ++ es))) (all_nodes checked.rules)) (drop_at arguments place c.e c.argument) (cut place))
        ∙ (λ i. joined checked.universe (λ k. sym (number_is checked child c.e k c.at) i) (λ k. sym (later_number (place + 1) k) i) n)

  module _ (node element : ℕ) (s : SequenceNode checked node element) where
    abbrev many : Card → Expression
    many card = expr.Many kind.Sequence s.e card

    there : IsIn (many s.card) (all_nodes checked.rules)
    there = in_nodes checked.rules node (many s.card) s.at

    lists_number : (card : Card) (n : ℕ) → length (lists_on checked element card (supply checked.universe n)) ≡ number (grammar checked) (many card) n
    lists_number card n =
        ap length (lists_are checked element s.e card (supply checked.universe n) s.inside)
        ∙ sym (length-map (repeated_on (grammar checked) s.e card (supply checked.universe n)) sequence)
        ∙ sym (ap length (listings_recur.sequence (grammar checked) s.e s.card card (supply checked.universe n) passed.spec passed.well_founded there (supplied checked n)))

    sequence_listed : (u : List ℕ) → is_supply checked.universe u ≡ true → listing_on checked node u ≡ map sequence (lists_on checked element s.card u)
    sequence_listed u in_order =
        listing_is checked node (many s.card) u s.at
        ∙ listings_recur.sequence (grammar checked) s.e s.card s.card u passed.spec passed.well_founded there in_order
        ∙ ap (map sequence) (sym (lists_are checked element s.e s.card u s.inside))

    sequence_counted : (n : ℕ) → number_of_node checked node n ≡ admitted s.card (λ c. number_of_lists checked element c n) n
    sequence_counted n =
        number_is checked node (many s.card) n s.at
        ∙ numbers_recur.sequence (grammar checked) s.e s.card n passed.spec passed.well_founded there
        ∙ (λ i. admitted s.card (λ c. sym (lists_number (exactly c) n) i) n)

    none_counted : (n : ℕ) → number_of_lists checked element 0 n ≡ one_at 0 n
    none_counted n = lists_number (exactly 0) n ∙ numbers_recur.no_lists (grammar checked) s.e s.card n passed.spec passed.well_founded there

    more_counted : (c n : ℕ) → number_of_lists checked element (suc c) n ≡ joined checked.universe (number_of_node checked element) (number_of_lists checked element c) n
    more_counted c n =
        lists_number (exactly (suc c)) n
        ∙ numbers_recur.lists (grammar checked) s.e s.card c n passed.spec passed.well_founded there
        ∙ (λ i. joined checked.universe (λ k. sym (number_is checked element s.e k s.inside) i) (λ k. sym (lists_number (exactly c) k) i) n)

    one_counted : (n : ℕ) → number_of_lists checked element 1 n ≡ number_of_node checked element n
    one_counted n =
        lists_number (exactly 1) n ∙ numbers_recur.one_list (grammar checked) s.e s.card n passed.spec passed.well_founded there ∙ sym (number_is checked element s.e n s.inside)

    few_counted : (c n : ℕ) → n < c → number_of_lists checked element c n ≡ 0
    few_counted c n less = lists_number (exactly c) n ∙ numbers_recur.few (grammar checked) s.e s.card c n passed.spec passed.well_founded there less

    element_counted : number_of_node checked element 0 ≡ 0
    element_counted = number_is checked element s.e 0 s.inside ∙ numbers_recur.element (grammar checked) kind.Sequence s.e s.card passed.spec passed.well_founded there

  pub least_entry : (node : ℕ) (e : Expression) → node_at checked.rules node ≡ Some e → slice_get checked.leasts node ≡ Some (least_at checked node)
  least_entry node e at =
      let found = slice_some checked.leasts node (omega (arith, passed.least.for_each, slice_get_within (all_nodes checked.rules) node e at)) in
      found.1 ∙ ap Some (sym (ap (λ (o : Option ℕ). unwrap_or o 0) found.1))

  pub least_is : (node : ℕ) (e : Expression) → node_at checked.rules node ≡ Some e → IsLeast (grammar checked) e (least_at checked node)
  least_is node e at = passed.least.each node (least_at checked node) e at (least_entry node e at)

  least_counted : (node n : ℕ) → n < least_at checked node → number_of_node checked node n ≡ 0
  least_counted node n low = by (node_at checked.rules node) refl
    where
      by : (o : Option Expression) → node_at checked.rules node ≡ o → number_of_node checked node n ≡ 0
      by None at = ap (λ o. length (option_map_or (λ f. listing (grammar checked) f (supply checked.universe n)) o [])) at
      by (Some e) at =
          number_is checked node e n at
          ∙ numbers_recur.below_least (grammar checked) e (least_at checked node) n passed.spec passed.well_founded (in_nodes checked.rules node e at) (least_is node e at) low

pub element_node : (checked : Checked) (element : ℕ) (is : IsElement checked element) → SequenceNode checked is.node element
element_node checked element is = sequence_node checked is.node element is.sequence is.child

no_component : (checked : Checked) (node place : ℕ) (u : List ℕ) → HasKind checked node told.Prod → length (children_at checked.rules node) ≤ place
    → later_on checked node place u ≡ list_no_components u
no_component checked node place u h past =
    let prod : ProdNode checked node = prod_node checked node h in
    prod_is_later checked node prod place u ∙ ap (λ es. components_on (grammar checked) (expressions_of es) u) (none_left checked node prod place past)

no_component_counted : (checked : Checked) (node place n : ℕ) → IsChecked checked → HasKind checked node told.Prod → length (children_at checked.rules node) ≤ place
    → number_from checked node place n ≡ one_at 0 n
no_component_counted checked node place n passed h past =
    let prod : ProdNode checked node = prod_node checked node h in
    later_number checked passed node prod place n
    ∙ ap (λ es. number (grammar checked) (expr.Prod (expressions_of es)) n) (none_left checked node prod place past) ∙ numbers_recur.no_components (grammar checked) n

lists_empty : (checked : Checked) (element : ℕ) (card : Card) → IsElement checked element → lists_on checked element card [] ≡ list_empty card
lists_empty checked element card is = lists_are checked element (element_node checked element is).e card [] (element_node checked element is).inside

lists_more : (checked : Checked) (element : ℕ) (card : Card) (u : List ℕ) → IsElement checked element → 0 < length u
    → lists_on checked element card u ≡ (if admits_some card then by_parts 1 (length u) (listing_on checked element) (lists_on checked element (after_one card)) u else [])
lists_more checked element card u is some =
    let s : SequenceNode checked is.node element = element_node checked element is in
    lists_are checked element s.e card u s.inside
    ∙ listings_recur.repeated (grammar checked) s.e card u some
    ∙ (λ i. if admits_some card then by_parts 1 (length u) (λ labels. sym (listing_is checked element s.e labels s.inside) i)
    (λ labels. sym (lists_are checked element s.e (after_one card) labels s.inside) i) u else [])

pub nodes_are_listed : NodesAreListed
nodes_are_listed = record {
  epsilon = λ checked node u passed in_order h. epsilon_listed checked passed node u in_order h;
  atom = λ checked node u passed in_order h. atom_listed checked passed node u in_order h;
  name = λ checked node rule_number u passed in_order h found. name_listed checked passed node rule_number u in_order (named_rule checked node rule_number h found);
  rule = λ checked rule_number u passed in_order low high. rule_listed checked passed rule_number u in_order low high;
  union = λ checked node u passed in_order h. union_listed checked passed node u in_order (union_node checked node h);
  prod = λ checked node u passed in_order h. prod_listed checked passed node (prod_node checked node h) u in_order;
  component = λ checked node place child u h here.
      component_listed checked node (prod_node checked node h) place child u (component checked node (prod_node checked node h) place child here);
  no_component = no_component;
  sequence = λ checked node element card u passed in_order h child bound.
      let s : SequenceNode checked node element = sequence_node checked node element h child in
      sequence_listed checked passed node element s u in_order ∙ ap (λ c. map sequence (lists_on checked element c u)) (bound_is checked node element s card bound);
  empty = lists_empty;
  lists = lists_more;
}

pub nodes_are_counted : NodesAreCounted
nodes_are_counted = record {
  epsilon = λ checked node n passed h. number_is checked node expr.Epsilon n (epsilon_node checked node h) ∙ numbers_recur.epsilon (grammar checked) n;
  atom = λ checked node n passed h. number_is checked node expr.Atom n (atom_node checked node h) ∙ numbers_recur.atom (grammar checked) n;
  name = λ checked node rule_number n passed h found.
      ap length (name_listed checked passed node rule_number (supply checked.universe n) (supplied checked n) (named_rule checked node rule_number h found))
      ∙ length-map (listing_of_node checked (right_node checked.rules rule_number) n) (named rule_number);
  union = λ checked node n passed h. union_counted checked passed node n (union_node checked node h);
  prod = λ checked node n passed h.
      ap length (prod_listed checked passed node (prod_node checked node h) (supply checked.universe n) (supplied checked n))
      ∙ length-map (later_on checked node 0 (supply checked.universe n)) product;
  component = λ checked node place child n passed h here.
      component_counted checked passed node (prod_node checked node h) place child n (component checked node (prod_node checked node h) place child here);
  no_component = no_component_counted;
  sequence = λ checked node element card n passed h child bound.
      let s : SequenceNode checked node element = sequence_node checked node element h child in
      sequence_counted checked passed node element s n ∙ ap (λ c. admitted c (λ k. number_of_lists checked element k n) n) (bound_is checked node element s card bound);
  no_lists = λ checked element n passed is. none_counted checked passed is.node element (element_node checked element is) n;
  lists = λ checked element c n passed is. more_counted checked passed is.node element (element_node checked element is) c n;
  one_list = λ checked element n passed is. one_counted checked passed is.node element (element_node checked element is) n;
  few = λ checked element c n passed is less. few_counted checked passed is.node element (element_node checked element is) c n less;
  element = λ checked element passed is. element_counted checked passed is.node element (element_node checked element is);
  below_least = λ checked node n passed low. least_counted checked passed node n low;
}
