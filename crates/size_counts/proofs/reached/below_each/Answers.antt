use Rattle.std.proofs.Common.{arith, ◌∙◌}
use Rattle.std.proofs.lemmas.List.{take_all}
use Rattle.spec_syntax.proofs.RulesLemmas.{all_nodes-from_spec}
use Rattle.size_counts.specs.Reached.{below_graph}
use Rattle.size_counts.proofs.ReachedLemmas.{graph_step, length-below_graph, length_by}
use Rattle.size_counts.proofs.reached.below_each.Goals as goal

pub loop-node-preserved : goal.loop-node-preserved
loop-node-preserved c =
    c.in_ok-push.ensures.items
    ∙ graph_step c.args.grammar.now.rules c.loop-node.node c.loop-node.graph.items c.in_ok-below.field-0 (omega arith) c.in_ok-below.ensures c.loop-node.invariant

pub returns-clause-made : goal.returns-clause-made
returns-clause-made c = c.loop-node.invariant ∙ take_all c.loop-node.node (below_graph c.args.grammar.now.rules) (omega (arith, length-below_graph c.args.grammar.now.rules))

pub returns-clause-few : goal.returns-clause-few
returns-clause-few c =
    let made = c.loop-node.invariant ∙ take_all c.loop-node.node (below_graph c.args.grammar.now.rules) (omega (arith, length-below_graph c.args.grammar.now.rules)) in
    omega (arith, length_by c.args.grammar.now.rules c.loop-node.graph.items made, all_nodes-from_spec c.args.grammar.now.rules c.nodes-node-end.ensures.kept.spec)
