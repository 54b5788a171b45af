use Rattle.draw_steps.proofs.ContainerSums.{no_cycles}
use Rattle.draw_steps.proofs.counts.count_weight.Goals as goal

pub returns-in-Cycle : goal.returns-in-Cycle
returns-in-Cycle c = no_cycles c.args.counted.now c.args.kind c.args.node c.args.c c.args.n c.grammar.ensures.kept c.requires.container c.in-Cycle.is c.if-c-eq0.true
