use Rattle.std.proofs.Common.{ℕ, ◌≤◌, ◌+◌, length, drop, arith, ◌∙◌}
use Rattle.spec_syntax.specs.Expression.{Expression, preorder}
use Rattle.spec_syntax.specs.Rules.{all_nodes}
use Rattle.spec_syntax.proofs.RulesLemmas.{all_nodes-from_spec}
use Rattle.well_founded.specs.Least.{least_with, size_of_name}
use Rattle.spec_syntax.proofs.NodeSteps.{all_nodes_step, length_all_nodes_step}
use Rattle.lists.proofs.Indexed.{grown_length, grown_step}
use Rattle.well_founded.specs.SameSize.{followers}
use Rattle.well_founded.proofs.same_size.same_size_graph.Goals as goal

pub push_followers-requires-clause-room : goal.push_followers-requires-clause-room
push_followers-requires-clause-room c =
    let most : length (all_nodes c.args.spec.now) ≤ 128 = all_nodes-from_spec c.args.spec.now c.right.ensures.kept in
    omega (arith, length_all_nodes_step c.args.spec.now c.loop-place.place c.right.result.now c.right.ensures.value)

pub loop-place-preserved : goal.loop-place-preserved
loop-place-preserved c =
    let rules = c.args.spec.now in
    let sizes = least_with (size_of_name c.args.spec.now c.args.sizes.now) in
    let place = c.loop-place.place in
    let right = c.right.result.now in (
      c.loop-place.invariant.0
          ∙ grown_step (λ (node : ℕ × Expression). followers rules sizes node.0 node.1) c.loop-place.graph.items c.push_followers.new.graph.items (preorder right) (all_nodes (drop (place + 1) rules))
          (all_nodes (drop place rules)) c.in_ok-push_followers.ensures (all_nodes_step rules place right c.right.ensures.value),
      omega (
        arith,
        grown_length (λ (node : ℕ × Expression). followers rules sizes node.0 node.1) c.loop-place.graph.items c.push_followers.new.graph.items (preorder right) c.in_ok-push_followers.ensures,
        length_all_nodes_step rules place right c.right.ensures.value,
      ),
    )
