use Rattle.std.proofs.Common.{◌≡◌, ◌+◌, ◌*◌, ◌++◌, map, drop}
use Rattle.spec_syntax.specs.Expression.{nodes, nodes_of_all, preorder_of_all, expressions_of}
use Rattle.well_founded.specs.Least.{least_by}
use Rattle.well_founded.proofs.leasts.+sizing.Given as goal

abbrev pub decreases-push_leasts : goal.decreases-push_leasts
decreases-push_leasts l = 2 * nodes l.expr.now

abbrev pub decreases-push_all_leasts : goal.decreases-push_all_leasts
decreases-push_all_leasts l = 2 * nodes_of_all (expressions_of l.exprs.now) + 1

abbrev pub invariant-push_all_leasts-loop-expr : goal.invariant-push_all_leasts-loop-expr
invariant-push_all_leasts-loop-expr l =
    l.initial.leasts.items ++ map (least_by l.spec l.sizes) (preorder_of_all (expressions_of l.exprs))
    ≡ l.leasts.items ++ map (least_by l.spec l.sizes) (preorder_of_all (expressions_of (drop l.expr-index l.exprs)))
