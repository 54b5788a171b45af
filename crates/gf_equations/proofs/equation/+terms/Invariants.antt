use Rattle.std.proofs.Common.{◌≡◌, ◌+◌, ◌*◌, ◌++◌, drop}
use Rattle.spec_syntax.specs.Expression.{nodes, nodes_of_all, expressions_of}
use Rattle.gf_equations.specs.Text.{terms}
use Rattle.gf_equations.proofs.equation.+terms.Given as goal

abbrev pub decreases-term_of : goal.decreases-term_of
decreases-term_of l = 2 * nodes l.expr.now

abbrev pub decreases-terms_of : goal.decreases-terms_of
decreases-terms_of l = 2 * nodes_of_all (expressions_of l.exprs.now) + 1

abbrev pub invariant-terms_of-loop-expr : goal.invariant-terms_of-loop-expr
invariant-terms_of-loop-expr l =
    l.said.items ++ terms l.universe l.variable l.depth (expressions_of (drop l.expr-index l.exprs)) ≡ terms l.universe l.variable l.depth (expressions_of l.exprs)
