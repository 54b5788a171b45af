use Rattle.std.proofs.Common.{◌≡◌, ◌+◌, ◌*◌, drop}
use Rattle.spec_syntax.specs.Expression.{nodes, nodes_of_all, expressions_of}
use Rattle.well_founded.proofs.node.+counting.Given as goal

abbrev pub decreases-count : goal.decreases-count
decreases-count l = 2 * nodes l.expr.now

abbrev pub decreases-count_all : goal.decreases-count_all
decreases-count_all l = 2 * nodes_of_all (expressions_of l.exprs.now) + 1

abbrev pub invariant-count_all-loop-expr : goal.invariant-count_all-loop-expr
invariant-count_all-loop-expr l = l.total + nodes_of_all (expressions_of (drop l.expr-index l.exprs)) ≡ nodes_of_all (expressions_of l.exprs)
