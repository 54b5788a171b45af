-- Each weight is within the sum.
use Rattle.std.proofs.Common.{◌^◌, arith}
use Rattle.draw_steps.specs.Choices.{length_weight}
use Rattle.draw_steps.proofs.CountSums.{weights_more}
use Rattle.draw_steps.proofs.LengthLemmas.{weight_fits}
use Rattle.draw_steps.proofs.lengths.length_weights.Goals as goal

pub length_weight-requires-clause-fits : goal.length_weight-requires-clause-fits
length_weight-requires-clause-fits c =
    weight_fits (length_weight c.args.counted.now c.args.lists c.args.missing c.args.m) c.args.m c.loop-d.d (2 ^ 128) c.loop-d-test.true c.requires.fits

pub loop-d-preserved : goal.loop-d-preserved
loop-d-preserved c =
    weights_more (length_weight c.args.counted.now c.args.lists c.args.missing c.args.m) 0 c.loop-d.d c.loop-d.d c.length_weight.result c.loop-d.weights.items c.push.new.self.items c.loop-d.invariant c.in_ok-push.ensures.items
    (omega arith) c.length_weight.ensures
