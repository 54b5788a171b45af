-- Which nodes are reached from a rule, and marks of them.
use Rattle.std.specs.Prelude.{◌≡◌, ◌⊎◌, ℕ, Bool, List, length, map}
use Rattle.std.specs.List.{enumerate_from}
use Rattle.spec_syntax.specs.Rules.{Rules, all_nodes}
use Rattle.spec_syntax.specs.Nodes.{below, right_node}
use Rattle.graphs.specs.Graph.{Graph, Leads, IsMarked}

-- for each node those whose structures stand directly inside its own
abbrev pub below_graph : Rules → Graph
below_graph rules = map (λ node. below rules node.0 node.1) (enumerate_from 0 (all_nodes rules))

-- the node is that of the right side of rule number sym, or stands somewhere below it
abbrev pub IsReached : Rules → ℕ → ℕ → Type 0
IsReached rules sym node = (node ≡ right_node rules sym) ⊎ Leads (below_graph rules) (right_node rules sym) node

-- the marks are those of the nodes that are reached from rule number sym
pub record AreReached (rules : Rules) (sym : ℕ) (marks : List Bool) : Type 0 where
  pub for_each : length marks ≡ length (all_nodes rules)
  pub sound : (node : ℕ) → IsMarked marks node → IsReached rules sym node
  pub complete : (node : ℕ) → IsReached rules sym node → IsMarked marks node
