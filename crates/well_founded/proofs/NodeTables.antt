-- What stands in the tables of a grammar's nodes.
use Rattle.std.proofs.Common.{◌≡◌, true, true≢false, ℕ, zero, suc, ◌+◌, ◌-◌, ◌<◌, ◌≤◌, List, [], ◌∷◌, length, get_or, take, slice_get, Option, Some, None, option_map, option_and_then, unwrap_or, refl, sym, ap, ◌∙◌, arith, length-append}
use Rattle.std.specs.Option.{option_map_or, option_or}
use Rattle.std.proofs.lemmas.Option.{slice_get_within, slice_get_read}
use Rattle.spec_syntax.specs.declared.expr.Kind.TheVariants as kind
use Rattle.spec_syntax.specs.Expression as expr
use Rattle.spec_syntax.specs.Expression.{Expression, preorder, nodes}
use Rattle.spec_syntax.specs.Rules.{Rules, symbol, right_side, all_nodes}
use Rattle.spec_syntax.proofs.RulesLemmas.{symbol-within, some_right}
use Rattle.well_founded.specs.declared.node.Node.{Node}
use Rattle.well_founded.specs.declared.node.NodeKind.TheVariants as told
use Rattle.well_founded.specs.Names.{name_without_rule, undefined_name}
use Rattle.spec_syntax.specs.Nodes.{all_right_nodes, node_at, right_node, children_of, arguments_of, card_of, card_at, name_of, name_at, children_at, arguments_at}
use Rattle.spec_syntax.proofs.NodesLemmas.{length-all_right_nodes, read-all_right_nodes, child_node, child_is, children_few, right_node_is}
use Rattle.well_founded.specs.NodeKinds.{kind_of, is_container}
use Rattle.lists.proofs.Indexed.{length-made, get-made}
use Rattle.well_founded.specs.NodeTable.{node_kind, node_children, node_rule, node_card, node_of, nodes_from, nodes_of}
use Rattle.well_founded.proofs.NodesLaws.{name_node_rule}

kind-node_of : (rules : Rules) (n : ℕ) (e : Expression) → node_kind (node_of rules n e) ≡ kind_of e
kind-node_of rules n expr.Epsilon = refl
kind-node_of rules n expr.Atom = refl
kind-node_of rules n (expr.Name name) = refl
kind-node_of rules n (expr.Union es) = refl
kind-node_of rules n (expr.Prod es) = refl
kind-node_of rules n (expr.Many kind element card) = refl

children-node_of : (rules : Rules) (n : ℕ) (e : Expression) → node_children (node_of rules n e) ≡ children_of n e
children-node_of rules n expr.Epsilon = refl
children-node_of rules n expr.Atom = refl
children-node_of rules n (expr.Name name) = refl
children-node_of rules n (expr.Union es) = refl
children-node_of rules n (expr.Prod es) = refl
children-node_of rules n (expr.Many kind element card) = refl

-- a node of the table, with its expression
pub record TableNode (rules : Rules) (n : ℕ) (x : Node) : Type 0 where
  pub e : Expression
  pub at : node_at rules n ≡ Some e
  pub is : x ≡ node_of rules n e

is_name : (e : Expression) → kind_of e ≡ told.Rule → (name : List ℕ) × (e ≡ expr.Name name)
is_name expr.Epsilon h = absurd (cc)
is_name expr.Atom h = absurd (cc)
is_name (expr.Name name) h = (name, refl)
is_name (expr.Union es) h = absurd (cc)
is_name (expr.Prod es) h = absurd (cc)
is_name (expr.Many kind.Sequence element card) h = absurd (cc)
is_name (expr.Many kind.Set element card) h = absurd (cc)
is_name (expr.Many kind.PowerSet element card) h = absurd (cc)
is_name (expr.Many kind.Cycle element card) h = absurd (cc)

-- a container's node has its bound
many_card : (rules : Rules) (n : ℕ) (e : Expression) → is_container (kind_of e) ≡ true → card_of e ≡ Some (node_card (node_of rules n e))
many_card rules n expr.Epsilon h = absurd (true≢false (sym h))
many_card rules n expr.Atom h = absurd (true≢false (sym h))
many_card rules n (expr.Name name) h = absurd (true≢false (sym h))
many_card rules n (expr.Union es) h = absurd (true≢false (sym h))
many_card rules n (expr.Prod es) h = absurd (true≢false (sym h))
many_card rules n (expr.Many kind element card) h = refl

all_named : (rules : Rules) → undefined_name rules None ≡ None → name_without_rule rules ≡ None
all_named rules h = by (name_without_rule rules) refl h
  where
    by : (found : Option (List ℕ)) → name_without_rule rules ≡ found → option_or found None ≡ None → name_without_rule rules ≡ None
    by None is h = is
    by (Some name) is h = absurd (cc)

module _ (rules : Rules) (table : List Node) (is : table ≡ nodes_of rules) where
  pub length-table : length table ≡ length (all_nodes rules)
  length-table = ap length is ∙ length-made (λ (node : ℕ × Expression). node_of rules node.0 node.1) 0 (all_nodes rules)

  pub table_node : (n : ℕ) (x : Node) → n < length (all_nodes rules) → x ≡ get_or table n x → TableNode rules n x
  table_node n x within read = by (node_at rules n) refl
    where
      got : slice_get (nodes_of rules) n ≡ Some x
      got = ap (λ xs. slice_get xs n) (sym is) ∙ slice_get_read table (length table) n x refl (omega (arith, length-table)) read

      mapped : slice_get (nodes_of rules) n ≡ option_map (node_of rules n) (node_at rules n)
      mapped = get-made (λ (node : ℕ × Expression). node_of rules node.0 node.1) 0 n n (all_nodes rules) (omega arith)

      by : (found : Option Expression) → node_at rules n ≡ found → TableNode rules n x
      by None at =
          let no : None ≡ Some x = sym (mapped ∙ ap (option_map (node_of rules n)) at) ∙ got in
          absurd (cc)
      by (Some e) at =
          let some : Some (node_of rules n e) ≡ Some x = sym (mapped ∙ ap (option_map (node_of rules n)) at) ∙ got in
          record { e = e; at = at; is = cc }

  pub table_kind : (n : ℕ) (x : Node) → n < length (all_nodes rules) → x ≡ get_or table n x → option_map kind_of (node_at rules n) ≡ Some (node_kind x)
  table_kind n x within read =
      let node = table_node n x within read in
      ap (option_map kind_of) node.at ∙ ap Some (sym (ap node_kind node.is ∙ kind-node_of rules n node.e))

  pub table_children : (n : ℕ) (x : Node) → n < length (all_nodes rules) → x ≡ get_or table n x → node_children x ≡ children_at rules n
  table_children n x within read =
      let node = table_node n x within read in
      ap node_children node.is ∙ children-node_of rules n node.e ∙ sym (ap (λ found. option_map_or (children_of n) found []) node.at)

  pub table_child : (n i m : ℕ) (x : Node) → n < length (all_nodes rules) → x ≡ get_or table n x → slice_get (node_children x) i ≡ Some m
      → node_at rules m ≡ slice_get (arguments_at rules n) i
  table_child n i m x within read child =
      let node = table_node n x within read in
      let inside : slice_get (children_of n node.e) i ≡ Some m =
      ap (λ places. slice_get places i) (sym (ap node_children node.is ∙ children-node_of rules n node.e)) ∙ child in
      child_node rules n node.e i m node.at inside ∙ sym (ap (λ found. slice_get (option_map_or arguments_of found []) i) node.at)

  pub table_child_within : (n i m : ℕ) (x : Node) → n < length (all_nodes rules) → x ≡ get_or table n x → slice_get (node_children x) i ≡ Some m → m < length (all_nodes rules)
  table_child_within n i m x within read child =
      let node = table_node n x within read in
      let inside : slice_get (children_of n node.e) i ≡ Some m =
      ap (λ places. slice_get places i) (sym (ap node_children node.is ∙ children-node_of rules n node.e)) ∙ child in
      let found : (f : Expression) × (node_at rules m ≡ Some f) = child_is rules n node.e i m node.at inside in
      slice_get_within (all_nodes rules) m found.0 found.1

  pub table_children_few : (n : ℕ) (x : Node) → n < length (all_nodes rules) → x ≡ get_or table n x → length (node_children x) ≤ length (all_nodes rules)
  table_children_few n x within read =
      let node = table_node n x within read in
      omega (arith, ap length (ap node_children node.is ∙ children-node_of rules n node.e), children_few rules n node.e node.at)

  pub table_card : (n : ℕ) (x : Node) → n < length (all_nodes rules) → x ≡ get_or table n x → option_map is_container (option_map kind_of (node_at rules n)) ≡ Some true
      → card_at rules n ≡ Some (node_card x)
  table_card n x within read told_is =
      let node = table_node n x within read in
      let told : Some (is_container (kind_of node.e)) ≡ Some true = sym (ap (λ found. option_map is_container (option_map kind_of found)) node.at) ∙ told_is in
      ap (option_and_then card_of) node.at ∙ many_card rules n node.e (cc) ∙ ap (λ (y : Node). Some (node_card y)) (sym node.is)

  pub table_rule : (n : ℕ) (x : Node) → n < length (all_nodes rules) → x ≡ get_or table n x → undefined_name rules None ≡ None
      → option_map kind_of (node_at rules n) ≡ Some told.Rule → option_and_then (symbol rules) (name_at rules n) ≡ Some (node_rule x)
  table_rule n x within read named rule =
      let node = table_node n x within read in
      let kind : Some (kind_of node.e) ≡ Some told.Rule = sym (ap (option_map kind_of) node.at) ∙ rule in
      let name : (name : List ℕ) × (node.e ≡ expr.Name name) = is_name node.e (cc) in
      let found : (number : ℕ) × (symbol rules name.0 ≡ Some number) =
      name_node_rule rules n name.0 (all_named rules named) (node.at ∙ ap Some name.1) in
      ap (λ e. option_and_then (symbol rules) (option_and_then name_of e)) (node.at ∙ ap Some name.1) ∙ found.1
      ∙ ap Some (sym (ap node_rule (node.is ∙ ap (node_of rules n) name.1) ∙ ap (λ number. unwrap_or number 0) found.1))

-- the number of a rule that a node names is the number of a rule
pub named_within : (rules : Rules) (n number : ℕ) → option_and_then (symbol rules) (name_at rules n) ≡ Some number → (1 ≤ number) × (number ≤ length rules)
named_within rules n number found = by (name_at rules n) found
  where
    by : (name : Option (List ℕ)) → option_and_then (symbol rules) name ≡ Some number → (1 ≤ number) × (number ≤ length rules)
    by None h = absurd (cc)
    by (Some name) h = symbol-within rules name number h

-- ---- the table of right sides

module _ (rules : Rules) (table : List ℕ) (is : table ≡ all_right_nodes rules) where
  pub length-right_table : length table ≡ length rules
  length-right_table = ap length is ∙ length-all_right_nodes rules

  pub table_right : (sym x : ℕ) → 1 ≤ sym → sym ≤ length rules → x ≡ get_or table (sym - 1) x → x ≡ right_node rules sym
  table_right number x low high read = read ∙ ap (λ (nodes : List ℕ). get_or nodes (number - 1) x) is ∙ read-all_right_nodes rules number x low high

  pub table_right_side : (sym x : ℕ) → 1 ≤ sym → sym ≤ length rules → x ≡ get_or table (sym - 1) x → node_at rules x ≡ right_side rules sym
  table_right_side number x low high read =
      let right = some_right rules number low high in
      ap (node_at rules) (table_right number x low high read) ∙ right_node_is rules number right.0 right.1 ∙ sym right.1

  pub table_right_within : (sym x : ℕ) → 1 ≤ sym → sym ≤ length rules → x ≡ get_or table (sym - 1) x → x < length (all_nodes rules)
  table_right_within number x low high read =
      let right = some_right rules number low high in
      slice_get_within (all_nodes rules) x right.0 (table_right_side number x low high read ∙ right.1)
