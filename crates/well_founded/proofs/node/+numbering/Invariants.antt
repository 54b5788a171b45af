use Rattle.std.proofs.Common.{◌≡◌, ◌+◌, ◌*◌, ◌++◌, length, drop}
use Rattle.spec_syntax.specs.Expression.{nodes, nodes_of_all, preorder_of_all, expressions_of}
use Rattle.well_founded.specs.NodeTable.{nodes_from}
use Rattle.well_founded.proofs.node.+numbering.Given as goal

abbrev pub decreases-push_nodes : goal.decreases-push_nodes
decreases-push_nodes l = 2 * nodes l.expr.now

abbrev pub decreases-push_all_nodes : goal.decreases-push_all_nodes
decreases-push_all_nodes l = 2 * nodes_of_all (expressions_of l.exprs.now) + 1

abbrev pub invariant-push_all_nodes-loop-expr : goal.invariant-push_all_nodes-loop-expr
invariant-push_all_nodes-loop-expr l =
    (l.initial.table.items ++ nodes_from l.spec (length l.initial.table.items) (preorder_of_all (expressions_of l.exprs))
    ≡ l.table.items ++ nodes_from l.spec (length l.table.items) (preorder_of_all (expressions_of (drop l.expr-index l.exprs))))
    × (length l.table.items + nodes_of_all (expressions_of (drop l.expr-index l.exprs)) ≡ length l.initial.table.items + nodes_of_all (expressions_of l.exprs))
