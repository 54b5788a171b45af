use Rattle.std.proofs.Common.{◌≡◌, ◌+◌, ◌*◌, take}
use Rattle.spec_syntax.specs.Expression.{nodes, nodes_of_all, expressions_of}
use Rattle.spec_syntax.proofs.expr.+copying.Given as goal

abbrev pub decreases-copy_expr : goal.decreases-copy_expr
decreases-copy_expr l = 2 * nodes l.expr.now

abbrev pub decreases-copy_exprs : goal.decreases-copy_exprs
decreases-copy_exprs l = 2 * nodes_of_all (expressions_of l.exprs.now) + 1

abbrev pub invariant-copy_exprs-loop-expr : goal.invariant-copy_exprs-loop-expr
invariant-copy_exprs-loop-expr l = l.copied ≡ take l.expr-index l.expr-items
