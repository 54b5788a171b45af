use Rattle.std.proofs.Common.{◌≡◌, ◌+◌, ◌*◌, drop}
use Rattle.std.specs.List.{list_all}
use Rattle.spec_syntax.specs.Expression.{nodes, nodes_of_all, preorder_of_all, expressions_of}
use Rattle.well_founded.specs.WellFounded.{is_no_cycle}
use Rattle.well_founded.proofs.containers.+cycles.Given as goal

abbrev pub decreases-is_without_cycle : goal.decreases-is_without_cycle
decreases-is_without_cycle l = 2 * nodes l.expr.now

abbrev pub decreases-are_without_cycle : goal.decreases-are_without_cycle
decreases-are_without_cycle l = 2 * nodes_of_all (expressions_of l.exprs.now) + 1

abbrev pub invariant-are_without_cycle-loop-expr : goal.invariant-are_without_cycle-loop-expr
invariant-are_without_cycle-loop-expr l =
    list_all is_no_cycle (preorder_of_all (expressions_of l.exprs)) ≡ list_all is_no_cycle (preorder_of_all (expressions_of (drop l.expr-index l.exprs)))
