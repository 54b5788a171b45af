-- The listings and the numbers of the nodes of a checked grammar.
use Rattle.std.specs.Prelude.{◌≡◌, ℕ, suc, ◌+◌, ◌≤◌, ◌<◌, List, Some, [], map, drop, slice_get, unwrap_or, length, IsTrue, if◌then◌else◌}
use Rattle.std.specs.Option.{option_map, option_map_or, option_and_then}
use Rattle.std.specs.List.{sum}
use Rattle.spec_syntax.specs.declared.expr.Card.{Card}
use Rattle.spec_syntax.specs.Expression.{Name, expressions_of}
use Rattle.spec_syntax.specs.Rules.{symbol, right_side, rule_name}
use Rattle.spec_syntax.specs.Nodes.{node_at, right_node, children_at, arguments_at, name_at, card_at}
use Rattle.struct_model.specs.Structure.{Structure}
use Rattle.struct_model.specs.Membership.{supply, is_supply}
use Rattle.struct_model.specs.Bounded.{listing}
use Rattle.well_founded.specs.declared.node.NodeKind.{NodeKind}
use Rattle.well_founded.specs.declared.node.NodeKind.TheVariants as told
use Rattle.well_founded.specs.NodeKinds.{kind_of}
use Rattle.well_founded.specs.SameSize.{is_told_inside}
use Rattle.well_founded.specs.Checked.{Checked, IsChecked, grammar}
use Rattle.listing_laws.specs.Lister.{list_epsilon, list_atom, list_no_components, list_empty, alternatives, by_splits, by_parts, after_one, admits_some, product, sequence, named}
use Rattle.listing_laws.specs.Recursion.{components_on, repeated_on}
use Rattle.listing_laws.specs.Numbers.{joined, exactly, one_at, admitted}

-- the node is of this kind
abbrev pub HasKind : Checked → ℕ → NodeKind → Type 0
HasKind checked node kind = option_map kind_of (node_at checked.rules node) ≡ Some kind

-- the node is the element of a Sequence
pub record IsElement (checked : Checked) (element : ℕ) : Type 0 where
  pub node : ℕ
  pub sequence : HasKind checked node told.Sequence
  pub child : slice_get (children_at checked.rules node) 0 ≡ Some element

-- ---- listings

-- the structures of a node with the labels of a supply
abbrev pub listing_on : Checked → ℕ → List ℕ → List Structure
listing_on checked node u = option_map_or (λ e. listing (grammar checked) e u) (node_at checked.rules node) []

-- the structures of a node with n atoms, on the labels that a structure of the size carries
abbrev pub listing_of_node : Checked → ℕ → ℕ → List Structure
listing_of_node checked node n = listing_on checked node (supply checked.universe n)

-- the structures of rule number sym with the labels of a supply
abbrev pub rule_on : Checked → ℕ → List ℕ → List Structure
rule_on checked sym u = listing (grammar checked) (Name (rule_name checked.rules sym)) u

-- those with n atoms
abbrev pub listing_of_rule : Checked → ℕ → ℕ → List Structure
listing_of_rule checked sym n = rule_on checked sym (supply checked.universe n)

-- the lists of components, one of each child of the node from the place on, with the labels of a supply
abbrev pub later_on : Checked → ℕ → ℕ → List ℕ → List (List Structure)
later_on checked node place u = components_on (grammar checked) (expressions_of (drop place (arguments_at checked.rules node))) u

-- the lists of components of a Sequence of the node with the bound, with the labels of a supply
abbrev pub lists_on : Checked → ℕ → Card → List ℕ → List (List Structure)
lists_on checked element card u = option_map_or (λ e. repeated_on (grammar checked) e card u) (node_at checked.rules element) []

-- ---- least sizes and ranks

abbrev pub least_at : Checked → ℕ → ℕ
least_at checked node = unwrap_or (slice_get checked.leasts node) 0

abbrev pub rank_at : Checked → ℕ → ℕ
rank_at checked node = unwrap_or (slice_get checked.ranks node) 0

-- 1 above the rank of the right side of rule number sym, where its structures are told inside, and 0 where they are words
abbrev pub rule_rank : Checked → ℕ → ℕ
rule_rank checked sym =
    option_map_or (λ right. if is_told_inside right then rank_at checked (right_node checked.rules sym) + 1 else 0) (right_side checked.rules sym) 0

-- ---- numbers

abbrev pub number_of_node : Checked → ℕ → ℕ → ℕ
number_of_node checked node n = length (listing_of_node checked node n)

-- the number of lists of components, one of each child of the node from the place on, with n atoms in all
abbrev pub number_from : Checked → ℕ → ℕ → ℕ → ℕ
number_from checked node place n = length (later_on checked node place (supply checked.universe n))

-- the number of lists of c components of the node, with n atoms in all
abbrev pub number_of_lists : Checked → ℕ → ℕ → ℕ → ℕ
number_of_lists checked element c n = length (lists_on checked element (exactly c) (supply checked.universe n))

-- ---- laws

-- The listing of a node on a supply by the nodes below it: a name's by the node of the rule's right side, a Union's child by
-- child, a Prod's by its components from a place on, split by split the child at the place and then the later ones, and a
-- Sequence's by the lists of components of its element.
pub record NodesAreListed : Type 0 where
  pub epsilon : (checked : Checked) (node : ℕ) (u : List ℕ) → IsChecked checked → IsTrue (is_supply checked.universe u)
      → HasKind checked node told.Epsilon → listing_on checked node u ≡ list_epsilon u
  pub atom : (checked : Checked) (node : ℕ) (u : List ℕ) → IsChecked checked → IsTrue (is_supply checked.universe u)
      → HasKind checked node told.Atom → listing_on checked node u ≡ list_atom u
  pub name : (checked : Checked) (node sym : ℕ) (u : List ℕ) → IsChecked checked → IsTrue (is_supply checked.universe u)
      → HasKind checked node told.Rule → option_and_then (symbol checked.rules) (name_at checked.rules node) ≡ Some sym
      → listing_on checked node u ≡ map (named sym) (listing_on checked (right_node checked.rules sym) u)
  pub rule : (checked : Checked) (sym : ℕ) (u : List ℕ) → IsChecked checked → IsTrue (is_supply checked.universe u) → 1 ≤ sym → sym ≤ length checked.rules
      → rule_on checked sym u ≡ map (named sym) (listing_on checked (right_node checked.rules sym) u)
  pub union : (checked : Checked) (node : ℕ) (u : List ℕ) → IsChecked checked → IsTrue (is_supply checked.universe u)
      → HasKind checked node told.Union → listing_on checked node u ≡ alternatives 1 (map (λ child. listing_on checked child u) (children_at checked.rules node))
  pub prod : (checked : Checked) (node : ℕ) (u : List ℕ) → IsChecked checked → IsTrue (is_supply checked.universe u)
      → HasKind checked node told.Prod → listing_on checked node u ≡ map product (later_on checked node 0 u)
  pub component : (checked : Checked) (node place child : ℕ) (u : List ℕ) → HasKind checked node told.Prod
      → slice_get (children_at checked.rules node) place ≡ Some child → later_on checked node place u ≡ by_splits (listing_on checked child) (later_on checked node (place + 1)) u
  pub no_component : (checked : Checked) (node place : ℕ) (u : List ℕ) → HasKind checked node told.Prod
      → length (children_at checked.rules node) ≤ place → later_on checked node place u ≡ list_no_components u
  pub sequence : (checked : Checked) (node element : ℕ) (card : Card) (u : List ℕ) → IsChecked checked → IsTrue (is_supply checked.universe u)
      → HasKind checked node told.Sequence → slice_get (children_at checked.rules node) 0 ≡ Some element → card_at checked.rules node ≡ Some card
      → listing_on checked node u ≡ map sequence (lists_on checked element card u)
  pub empty : (checked : Checked) (element : ℕ) (card : Card) → IsElement checked element → lists_on checked element card [] ≡ list_empty card
  pub lists : (checked : Checked) (element : ℕ) (card : Card) (u : List ℕ) → IsElement checked element → 0 < length u
      → lists_on checked element card u ≡ (if admits_some card then by_parts 1 (length u) (listing_on checked element) (lists_on checked element (after_one card)) u else [])

-- The numbers of structures of nodes by those of the nodes below.
pub record NodesAreCounted : Type 0 where
  pub epsilon : (checked : Checked) (node n : ℕ) → IsChecked checked → HasKind checked node told.Epsilon → number_of_node checked node n ≡ one_at 0 n
  pub atom : (checked : Checked) (node n : ℕ) → IsChecked checked → HasKind checked node told.Atom → number_of_node checked node n ≡ one_at 1 n
  pub name : (checked : Checked) (node sym n : ℕ) → IsChecked checked → HasKind checked node told.Rule
      → option_and_then (symbol checked.rules) (name_at checked.rules node) ≡ Some sym → number_of_node checked node n ≡ number_of_node checked (right_node checked.rules sym) n
  pub union : (checked : Checked) (node n : ℕ) → IsChecked checked → HasKind checked node told.Union
      → number_of_node checked node n ≡ sum (map (λ child. number_of_node checked child n) (children_at checked.rules node))
  pub prod : (checked : Checked) (node n : ℕ) → IsChecked checked → HasKind checked node told.Prod → number_of_node checked node n ≡ number_from checked node 0 n
  pub component : (checked : Checked) (node place child n : ℕ) → IsChecked checked → HasKind checked node told.Prod → slice_get (children_at checked.rules node) place ≡ Some child
      → number_from checked node place n ≡ joined checked.universe (number_of_node checked child) (number_from checked node (place + 1)) n
  pub no_component : (checked : Checked) (node place n : ℕ) → IsChecked checked → HasKind checked node told.Prod
      → length (children_at checked.rules node) ≤ place → number_from checked node place n ≡ one_at 0 n
  pub sequence : (checked : Checked) (node element : ℕ) (card : Card) (n : ℕ) → IsChecked checked → HasKind checked node told.Sequence
      → slice_get (children_at checked.rules node) 0 ≡ Some element → card_at checked.rules node ≡ Some card
      → number_of_node checked node n ≡ admitted card (λ c. number_of_lists checked element c n) n
  pub no_lists : (checked : Checked) (element n : ℕ) → IsChecked checked → IsElement checked element → number_of_lists checked element 0 n ≡ one_at 0 n
  pub lists : (checked : Checked) (element c n : ℕ) → IsChecked checked → IsElement checked element
      → number_of_lists checked element (suc c) n ≡ joined checked.universe (number_of_node checked element) (number_of_lists checked element c) n
  pub one_list : (checked : Checked) (element n : ℕ) → IsChecked checked → IsElement checked element → number_of_lists checked element 1 n ≡ number_of_node checked element n
  pub few : (checked : Checked) (element c n : ℕ) → IsChecked checked → IsElement checked element → n < c → number_of_lists checked element c n ≡ 0
  pub element : (checked : Checked) (element : ℕ) → IsChecked checked → IsElement checked element → number_of_node checked element 0 ≡ 0
  pub below_least : (checked : Checked) (node n : ℕ) → IsChecked checked → n < least_at checked node → number_of_node checked node n ≡ 0
