-- The nodes of the code, and the tables of them.
use Rattle.std.specs.Prelude.{ℕ, ◌+◌, List, [], ◌∷◌, map, None, unwrap_or}
use Rattle.std.specs.List.{enumerate_from}
use Rattle.spec_syntax.specs.declared.expr.Card.{Card}
use Rattle.spec_syntax.specs.Expression as expr
use Rattle.spec_syntax.specs.Expression.{Expression}
use Rattle.spec_syntax.specs.Rules.{Rules, symbol, all_nodes}
use Rattle.well_founded.specs.declared.node.Node.{Node}
use Rattle.well_founded.specs.declared.node.Node.TheVariants as node
use Rattle.well_founded.specs.declared.node.NodeKind.{NodeKind}
use Rattle.well_founded.specs.declared.node.NodeKind.TheVariants as told
use Rattle.spec_syntax.specs.Nodes.{places_from}
use Rattle.well_founded.specs.NodeKinds.{container}

-- what a node of the code is, the nodes directly inside it, the rule that it names, or 0, and its bound, or none
abbrev pub node_kind : Node → NodeKind
node_kind node.Epsilon = told.Epsilon
node_kind node.Atom = told.Atom
node_kind (node.Rule sym) = told.Rule
node_kind (node.Union places) = told.Union
node_kind (node.Prod places) = told.Prod
node_kind (node.Many kind place card) = container kind

abbrev pub node_children : Node → List ℕ
node_children node.Epsilon = []
node_children node.Atom = []
node_children (node.Rule sym) = []
node_children (node.Union places) = places
node_children (node.Prod places) = places
node_children (node.Many kind place card) = place ∷ []

abbrev pub node_rule : Node → ℕ
node_rule node.Epsilon = 0
node_rule node.Atom = 0
node_rule (node.Rule sym) = sym
node_rule (node.Union places) = 0
node_rule (node.Prod places) = 0
node_rule (node.Many kind place card) = 0

abbrev no_card : Card
no_card = record { low = 0; high = None }

abbrev pub node_card : Node → Card
node_card node.Epsilon = no_card
node_card node.Atom = no_card
node_card (node.Rule sym) = no_card
node_card (node.Union places) = no_card
node_card (node.Prod places) = no_card
node_card (node.Many kind place card) = card

-- the node of the code for the expression, which is node number n. A name without a rule has the number 0
abbrev pub node_of : Rules → ℕ → Expression → Node
node_of rules n expr.Epsilon = node.Epsilon
node_of rules n expr.Atom = node.Atom
node_of rules n (expr.Name name) = node.Rule (unwrap_or (symbol rules name) 0)
node_of rules n (expr.Union arguments) = node.Union (places_from (n + 1) arguments)
node_of rules n (expr.Prod arguments) = node.Prod (places_from (n + 1) arguments)
node_of rules n (expr.Many kind element card) = node.Many kind (n + 1) card

-- the nodes of these expressions, the first of which is node number n
abbrev pub nodes_from : Rules → ℕ → List Expression → List Node
nodes_from rules n es = map (λ node. node_of rules node.0 node.1) (enumerate_from n es)

-- the nodes of the rules
abbrev pub nodes_of : Rules → List Node
nodes_of rules = nodes_from rules 0 (all_nodes rules)
