-- The expressions of rules as nodes, numbered from 0 in preorder, rule by rule.
use Rattle.std.specs.Prelude.{ℕ, zero, suc, ◌+◌, List, [], ◌∷◌, length, map, take, Option, Some, None, slice_get}
use Rattle.std.specs.Option.{option_map_or, option_and_then}
use Rattle.std.specs.List.{flat_map, enumerate_from}
use Rattle.spec_syntax.specs.declared.expr.Card.{Card}
use Rattle.spec_syntax.specs.Expression.{Expression, Epsilon, Atom, Name, Union, Prod, Many, Expressions, no_expressions, more_expressions, expression_list, preorder, nodes}
use Rattle.spec_syntax.specs.Rules.{Rules, symbol, all_nodes}

-- ---- what stands at a node

-- the expression that is node number n
abbrev pub node_at : Rules → ℕ → Option Expression
node_at rules n = slice_get (all_nodes rules) n

-- the name, where the expression is one
abbrev pub name_of : Expression → Option (List ℕ)
name_of Epsilon = None
name_of Atom = None
name_of (Name name) = Some name
name_of (Union arguments) = None
name_of (Prod arguments) = None
name_of (Many kind element card) = None

-- the name that node number n is, where it is one
abbrev pub name_at : Rules → ℕ → Option (List ℕ)
name_at rules n = option_and_then name_of (node_at rules n)

-- the bound on the number of components, where the expression is a container
abbrev pub card_of : Expression → Option Card
card_of Epsilon = None
card_of Atom = None
card_of (Name name) = None
card_of (Union arguments) = None
card_of (Prod arguments) = None
card_of (Many kind element card) = Some card

-- the bound of the container that node number n is, where it is one
abbrev pub card_at : Rules → ℕ → Option Card
card_at rules n = option_and_then card_of (node_at rules n)

-- ---- what stands inside a node

-- the expressions directly inside the expression: the arguments of a Union or a Prod, or the element of a container
abbrev pub arguments_of : Expression → List Expression
arguments_of Epsilon = []
arguments_of Atom = []
arguments_of (Name name) = []
arguments_of (Union arguments) = expression_list arguments
arguments_of (Prod arguments) = expression_list arguments
arguments_of (Many kind element card) = element ∷ []

-- those directly inside node number n
abbrev pub arguments_at : Rules → ℕ → List Expression
arguments_at rules n = option_map_or arguments_of (node_at rules n) []

-- the nodes of expressions that follow one another, the first of which is node number n
abbrev pub places_from : ℕ → Expressions → List ℕ
places_from n no_expressions = []
places_from n (more_expressions e es) = n ∷ places_from (n + nodes e) es

-- the nodes directly inside the expression, which is node number n
abbrev pub children_of : ℕ → Expression → List ℕ
children_of n Epsilon = []
children_of n Atom = []
children_of n (Name name) = []
children_of n (Union arguments) = places_from (n + 1) arguments
children_of n (Prod arguments) = places_from (n + 1) arguments
children_of n (Many kind element card) = (n + 1) ∷ []

-- the nodes directly inside node number n
abbrev pub children_at : Rules → ℕ → List ℕ
children_at rules n = option_map_or (children_of n) (node_at rules n) []

-- ---- rules and their nodes

-- the node of the right side of rule number sym
abbrev pub right_node : Rules → ℕ → ℕ
right_node rules zero = 0
right_node rules (suc earlier) = length (all_nodes (take earlier rules))

-- the nodes of all right sides, rule by rule
abbrev pub all_right_nodes : Rules → List ℕ
all_right_nodes rules = map (λ rule. right_node rules rule.0) (enumerate_from 1 rules)

-- the nodes whose structures stand directly inside those of the expression, which is node number n: its children, or of
-- a name the right side of the rule
abbrev pub below : Rules → ℕ → Expression → List ℕ
below rules n Epsilon = []
below rules n Atom = []
below rules n (Name name) = option_map_or (λ sym. right_node rules sym ∷ []) (symbol rules name) []
below rules n (Union arguments) = children_of n (Union arguments)
below rules n (Prod arguments) = children_of n (Prod arguments)
below rules n (Many kind element card) = children_of n (Many kind element card)

-- for each node the number of its rule and its place among the expressions of the rule's right side in preorder, both
-- counted from 1
abbrev pub places_in_rules : Rules → List (ℕ × ℕ)
places_in_rules rules = flat_map (λ rule. map (λ node. (rule.0, node.0)) (enumerate_from 1 (preorder rule.1.1))) (enumerate_from 1 rules)

-- the number of the rule in which node number n stands, and its place there
abbrev pub place_in_rule : Rules → ℕ → Option (ℕ × ℕ)
place_in_rule rules n = slice_get (places_in_rules rules) n
