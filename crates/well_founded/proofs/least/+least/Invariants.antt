use Rattle.std.proofs.Common.{◌≡◌, ◌+◌, ◌*◌, drop}
use Rattle.spec_syntax.specs.Expression.{nodes, nodes_of_all, expressions_of}
use Rattle.well_founded.specs.Least.{IsSmall, lesser, together, least_of_some, least_of_all, size_of_name}
use Rattle.well_founded.proofs.least.+least.Given as goal

abbrev pub decreases-least_in : goal.decreases-least_in
decreases-least_in l = 2 * nodes l.expr.now

abbrev pub decreases-least_of_some : goal.decreases-least_of_some
decreases-least_of_some l = 2 * nodes_of_all (expressions_of l.exprs.now) + 1

abbrev pub decreases-least_of_all : goal.decreases-least_of_all
decreases-least_of_all l = 2 * nodes_of_all (expressions_of l.exprs.now) + 1

abbrev pub invariant-least_of_some-loop-expr : goal.invariant-least_of_some-loop-expr
invariant-least_of_some-loop-expr l =
    least_of_some (size_of_name l.spec l.sizes) (expressions_of l.exprs)
    ≡ lesser l.least (least_of_some (size_of_name l.spec l.sizes) (expressions_of (drop l.expr-index l.exprs)))

abbrev pub invariant-least_of_all-loop-expr : goal.invariant-least_of_all-loop-expr
invariant-least_of_all-loop-expr l =
    (least_of_all (size_of_name l.spec l.sizes) (expressions_of l.exprs)
    ≡ together l.least (least_of_all (size_of_name l.spec l.sizes) (expressions_of (drop l.expr-index l.exprs))))
    × IsSmall l.least
