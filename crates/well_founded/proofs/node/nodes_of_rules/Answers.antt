use Rattle.std.proofs.Common.{ℕ, ◌≤◌, ◌+◌, length, drop, arith, ◌∙◌}
use Rattle.spec_syntax.specs.Expression.{Expression, preorder}
use Rattle.spec_syntax.specs.Rules.{all_nodes}
use Rattle.spec_syntax.proofs.RulesLemmas.{all_nodes-from_spec}
use Rattle.spec_syntax.proofs.NodeSteps.{all_nodes_step, length_all_nodes_step}
use Rattle.lists.proofs.Indexed.{grown_length, grown_step}
use Rattle.well_founded.specs.NodeTable.{node_of}
use Rattle.well_founded.proofs.node.nodes_of_rules.Goals as goal

pub push_nodes-requires : goal.push_nodes-requires
push_nodes-requires c =
    let most : length (all_nodes c.args.spec.now) ≤ 128 = all_nodes-from_spec c.args.spec.now c.right.ensures.kept in
    omega (arith, length_all_nodes_step c.args.spec.now c.loop-place.place c.right.result.now c.right.ensures.value)

pub loop-place-preserved : goal.loop-place-preserved
loop-place-preserved c =
    let rules = c.args.spec.now in
    let place = c.loop-place.place in
    let right = c.right.result.now in (
      c.loop-place.invariant.0
          ∙ grown_step (λ (node : ℕ × Expression). node_of rules node.0 node.1) c.loop-place.table.items c.push_nodes.new.table.items (preorder right) (all_nodes (drop (place + 1) rules))
          (all_nodes (drop place rules)) c.in_ok-push_nodes.ensures (all_nodes_step rules place right c.right.ensures.value),
      omega (
        arith,
        grown_length (λ (node : ℕ × Expression). node_of rules node.0 node.1) c.loop-place.table.items c.push_nodes.new.table.items (preorder right) c.in_ok-push_nodes.ensures,
        length_all_nodes_step rules place right c.right.ensures.value,
      ),
    )
