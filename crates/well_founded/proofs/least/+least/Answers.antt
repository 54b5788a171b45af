use Rattle.std.proofs.Common.{◌≤◌, sym, subst, arith}
use Rattle.spec_syntax.specs.Expression.{Expression, nodes, nodes_of_all, expressions_of}
use Rattle.spec_syntax.proofs.NodeSteps.{nodes_of_one}
use Rattle.well_founded.specs.Least.{IsSmall, size_of_name}
use Rattle.well_founded.proofs.LeastRounds.{least_small, name_small}
use Rattle.well_founded.proofs.LeastLoops.{least_of_all-start}
use Rattle.well_founded.proofs.least.+least.Goals as goal

pub least_of_some-least_in-requires : goal.least_of_some-least_in-requires
least_of_some-least_in-requires t c =
    let small : nodes c.expr-item.result ≤ nodes_of_all (expressions_of c.args.exprs.now) =
    nodes_of_one c.args.exprs.now c.loop-expr.expr-index c.expr-item.result c.loop-expr-test.true c.expr-item.is in
    (omega (arith, c.decreases, small), (c.requires.for_each, c.requires.small))

pub least_of_all-least_in-requires : goal.least_of_all-least_in-requires
least_of_all-least_in-requires t c =
    let small : nodes c.expr-item.result ≤ nodes_of_all (expressions_of c.args.exprs.now) =
    nodes_of_one c.args.exprs.now c.loop-expr.expr-index c.expr-item.result c.loop-expr-test.true c.expr-item.is in
    (omega (arith, c.decreases, small), (c.requires.for_each, c.requires.small))

pub least_of_all-loop-expr-init : goal.least_of_all-loop-expr-init
least_of_all-loop-expr-init t c = (least_of_all-start c.args.spec.now c.args.sizes.now c.args.exprs.now c.requires.small, omega arith)

pub least_of_all-together-least-requires-clause-other_small : goal.least_of_all-together-least-requires-clause-other_small
least_of_all-together-least-requires-clause-other_small t c =
    let sizes = size_of_name c.args.spec.now c.args.sizes.now in
    subst IsSmall (sym c.least_in.ensures) (least_small sizes (name_small c.args.sizes.now c.requires.small c.args.spec.now) c.expr-item.result)
