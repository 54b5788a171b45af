use Rattle.std.proofs.Common.{ℕ, ◌≡◌, ◌≤◌, ◌<◌, List, length, get_or, subst, arith}
use Rattle.spec_syntax.specs.Expression.{Expression, nodes, nodes_of_all, expressions_of}
use Rattle.spec_syntax.proofs.NodeSteps.{nodes_of_one}
use Rattle.spec_syntax.proofs.expr.+copying.Goals as goal

-- an item of a list has no more nodes than the list
item_le : (e : Expression) (es others : List Expression) (i : ℕ) → e ≡ get_or es i e → es ≡ others → i < length es → nodes e ≤ nodes_of_all (expressions_of others)
item_le e es others i is same within = subst (λ (xs : List Expression). nodes e ≤ nodes_of_all (expressions_of xs)) same (nodes_of_one es i e within is)

pub copy_exprs-copy_expr-requires : goal.copy_exprs-copy_expr-requires
copy_exprs-copy_expr-requires t c =
    (omega (arith, c.decreases, item_le c.expr-item.result c.as_slice-expr-items.result.now c.args.exprs.now c.loop-expr.expr-index c.expr-item.is c.as_slice-expr-items.ensures c.loop-expr-test.true), tt)
