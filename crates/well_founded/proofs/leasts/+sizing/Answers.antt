use Rattle.std.proofs.Common.{◌≤◌, arith}
use Rattle.spec_syntax.specs.Expression.{nodes, nodes_of_all, expressions_of}
use Rattle.spec_syntax.proofs.NodeSteps.{nodes_of_one}
use Rattle.well_founded.proofs.leasts.+sizing.Goals as goal

pub push_all_leasts-push_leasts-requires : goal.push_all_leasts-push_leasts-requires
push_all_leasts-push_leasts-requires t c =
    let small : nodes c.expr-item.result ≤ nodes_of_all (expressions_of c.args.exprs.now) =
    nodes_of_one c.args.exprs.now c.loop-expr.expr-index c.expr-item.result c.loop-expr-test.true c.expr-item.is in
    (omega (arith, c.decreases, small), (c.requires.for_each, c.requires.small))
