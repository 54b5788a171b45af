use Rattle.std.proofs.Common.{arith, ◌∙◌, ap, length}
use Rattle.size_counts.proofs.ReachedLemmas.{is_graph_by, length_by, reached_by}
use Rattle.size_counts.proofs.reached.reached_from.Goals as goal

pub reached-requires-clause-graph_is : goal.reached-requires-clause-graph_is
reached-requires-clause-graph_is c = is_graph_by c.args.grammar.now.rules c.as_slice.result.now (c.as_slice.ensures.value ∙ c.in_ok-graph.ensures.made)

pub reached-requires-clause-from_in : goal.reached-requires-clause-from_in
reached-requires-clause-from_in c =
    omega (arith, length_by c.args.grammar.now.rules c.as_slice.result.now (c.as_slice.ensures.value ∙ c.in_ok-graph.ensures.made), c.rule_node-right.ensures.within)

pub reached-requires-clause-few : goal.reached-requires-clause-few
reached-requires-clause-few c = omega (arith, c.in_ok-graph.ensures.few, c.as_slice.ensures.len, ap length c.as_slice.ensures.value)

pub index_mut-requires : goal.index_mut-requires
index_mut-requires c =
    omega (arith, length_by c.args.grammar.now.rules c.as_slice.result.now (c.as_slice.ensures.value ∙ c.in_ok-graph.ensures.made), c.rule_node-right.ensures.within, c.in_ok-marks.ensures.for_each)

pub returns-clause-reached : goal.returns-clause-reached
returns-clause-reached c =
    reached_by c.args.grammar.now.rules c.args.sym c.rule_node-right.result c.as_slice.result.now c.in_ok-marks.marks.items c.rule_node-right.ensures.value c.rule_node-right.ensures.within
    (c.as_slice.ensures.value ∙ c.in_ok-graph.ensures.made) c.in_ok-marks.ensures
