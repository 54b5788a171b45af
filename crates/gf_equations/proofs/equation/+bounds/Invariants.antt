use Rattle.std.proofs.Common.{◌≡◌, ◌+◌, ◌*◌, drop}
use Rattle.std.specs.List.{list_all}
use Rattle.spec_syntax.specs.Expression.{nodes, nodes_of_all, preorder_of_all, expressions_of}
use Rattle.gf_equations.specs.Bounds.{is_no_bounded_set}
use Rattle.gf_equations.proofs.equation.+bounds.Given as goal

abbrev pub decreases-is_without_bounded_set : goal.decreases-is_without_bounded_set
decreases-is_without_bounded_set l = 2 * nodes l.expr.now

abbrev pub decreases-are_without_bounded_set : goal.decreases-are_without_bounded_set
decreases-are_without_bounded_set l = 2 * nodes_of_all (expressions_of l.exprs.now) + 1

abbrev pub invariant-are_without_bounded_set-loop-expr : goal.invariant-are_without_bounded_set-loop-expr
invariant-are_without_bounded_set-loop-expr l =
    list_all is_no_bounded_set (preorder_of_all (expressions_of l.exprs)) ≡ list_all is_no_bounded_set (preorder_of_all (expressions_of (drop l.expr-index l.exprs)))
