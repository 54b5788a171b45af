use Rattle.std.proofs.Common.{◌≡◌, ◌+◌, ◌*◌, drop}
use Rattle.std.specs.List.{list_all}
use Rattle.spec_syntax.specs.Expression.{nodes, nodes_of_all, preorder_of_all, expressions_of}
use Rattle.well_founded.specs.Least.{least_with, size_of_name}
use Rattle.well_founded.specs.Containers.{is_not_over_null}
use Rattle.well_founded.proofs.containers.+nulls.Given as goal

abbrev pub decreases-is_without_null : goal.decreases-is_without_null
decreases-is_without_null l = 2 * nodes l.expr.now

abbrev pub decreases-are_without_null : goal.decreases-are_without_null
decreases-are_without_null l = 2 * nodes_of_all (expressions_of l.exprs.now) + 1

abbrev pub invariant-are_without_null-loop-expr : goal.invariant-are_without_null-loop-expr
invariant-are_without_null-loop-expr l =
    list_all (is_not_over_null (least_with (size_of_name l.spec l.sizes))) (preorder_of_all (expressions_of l.exprs))
    ≡ list_all (is_not_over_null (least_with (size_of_name l.spec l.sizes))) (preorder_of_all (expressions_of (drop l.expr-index l.exprs)))
