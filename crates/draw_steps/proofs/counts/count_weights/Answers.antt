use Rattle.std.proofs.Common.{arith}
use Rattle.std.specs.Prelude.{if◌then◌else◌}
use Rattle.draw_steps.specs.Choices.{admits_at, number_with}
use Rattle.draw_steps.proofs.CountSums.{weights_more}
use Rattle.draw_steps.proofs.counts.count_weights.Goals as goal

pub loop-c-preserved : goal.loop-c-preserved
loop-c-preserved c =
    weights_more (λ k. if admits_at c.args.counted.now c.args.node k then number_with c.args.counted.now c.args.kind c.args.node k c.args.n else 0) 0 c.loop-c.c c.loop-c.c c.count_weight.result c.loop-c.weights.items c.push.new.self.items
    c.loop-c.invariant c.in_ok-push.ensures.items (omega arith) c.count_weight.ensures
