use Rattle.std.proofs.Common.{ℕ, ◌≤◌, ◌+◌, drop, arith, ◌∙◌}
use Rattle.spec_syntax.specs.Expression.{Expression, nodes, nodes_of_all, preorder, preorder_of_all, expressions_of}
use Rattle.well_founded.specs.Least.{least_with, size_of_name}
use Rattle.spec_syntax.proofs.NodeSteps.{nodes_step, nodes_of_one, preorder_step}
use Rattle.lists.proofs.Indexed.{grown_length, grown_step}
use Rattle.well_founded.specs.SameSize.{followers}
use Rattle.well_founded.proofs.same_size.+following.Goals as goal

pub push_all_followers-push_followers-requires : goal.push_all_followers-push_followers-requires
push_all_followers-push_followers-requires t c =
    let small : nodes c.expr-item.result ≤ nodes_of_all (expressions_of c.args.exprs.now) =
    nodes_of_one c.args.exprs.now c.loop-expr.expr-index c.expr-item.result c.loop-expr-test.true c.expr-item.is in (
      omega (arith, c.decreases, small),
      (
        c.requires.for_each,
        (
          c.requires.small,
          (
            c.requires.roots,
            omega (arith, nodes_step c.args.exprs.now c.loop-expr.expr-index c.expr-item.result c.loop-expr-test.true c.expr-item.is),
          ),
        ),
      ),
    )

pub push_all_followers-loop-expr-preserved : goal.push_all_followers-loop-expr-preserved
push_all_followers-loop-expr-preserved t c =
    let rules = c.args.spec.now in
    let sizes = least_with (size_of_name c.args.spec.now c.args.sizes.now) in
    let exprs = c.args.exprs.now in
    let i = c.loop-expr.expr-index in
    let expr = c.expr-item.result in (
      c.loop-expr.invariant.0
          ∙ grown_step (λ (node : ℕ × Expression). followers rules sizes node.0 node.1) c.loop-expr.graph.items c.push_followers.new.graph.items (preorder expr) (preorder_of_all (expressions_of (drop (i + 1) exprs)))
          (preorder_of_all (expressions_of (drop i exprs))) c.in_ok-push_followers.ensures (preorder_step exprs i expr c.loop-expr-test.true c.expr-item.is),
      omega (
        arith,
        grown_length (λ (node : ℕ × Expression). followers rules sizes node.0 node.1) c.loop-expr.graph.items c.push_followers.new.graph.items (preorder expr) c.in_ok-push_followers.ensures,
        nodes_step exprs i expr c.loop-expr-test.true c.expr-item.is,
      ),
    )
