use Rattle.std.proofs.Common.{◌≡◌, ◌+◌, ◌*◌, ◌++◌, length, drop}
use Rattle.spec_syntax.specs.Expression.{nodes, nodes_of_all, preorder_of_all, expressions_of}
use Rattle.well_founded.specs.Least.{least_with, size_of_name}
use Rattle.well_founded.specs.SameSize.{followers_from}
use Rattle.well_founded.proofs.same_size.+following.Given as goal

abbrev pub decreases-push_followers : goal.decreases-push_followers
decreases-push_followers l = 2 * nodes l.expr.now

abbrev pub decreases-push_all_followers : goal.decreases-push_all_followers
decreases-push_all_followers l = 2 * nodes_of_all (expressions_of l.exprs.now) + 1

abbrev pub invariant-push_all_followers-loop-expr : goal.invariant-push_all_followers-loop-expr
invariant-push_all_followers-loop-expr l =
    (l.initial.graph.items ++ followers_from l.spec (least_with (size_of_name l.spec l.sizes)) (length l.initial.graph.items) (preorder_of_all (expressions_of l.exprs))
    ≡ l.graph.items ++ followers_from l.spec (least_with (size_of_name l.spec l.sizes)) (length l.graph.items) (preorder_of_all (expressions_of (drop l.expr-index l.exprs))))
    × (length l.graph.items + nodes_of_all (expressions_of (drop l.expr-index l.exprs)) ≡ length l.initial.graph.items + nodes_of_all (expressions_of l.exprs))
