use Rattle.struct_walk.proofs.ReachedNodes.{reached_child}
use Rattle.draw_steps.proofs.copies.copies_weight.Goals as goal

pub number-requires-clause-reached : goal.number-requires-clause-reached
number-requires-clause-reached c = reached_child c.args.counted.now c.grammar.ensures.kept c.args.node 0 c.args.element c.requires.missing.over.reached c.requires.missing.over.child
