use Rattle.std.proofs.Common.{◌<◌, ◌^◌, map, subst, sym}
use Rattle.std.specs.List.{sum}
use Rattle.draw_steps.specs.Choices.{copies_weight}
use Rattle.draw_steps.proofs.CopySums.{few_at, weight_within}
use Rattle.draw_steps.proofs.copies.copies_weights.Goals as goal

pub copies_weight-requires-clause-size : goal.copies_weight-requires-clause-size
copies_weight-requires-clause-size c = (few_at c.args.missing c.args.m c.loop-copies.copies-index _ c.args.all.now c.requires.all c.loop-copies-test.true).size_high

pub copies_weight-requires-clause-number : goal.copies_weight-requires-clause-number
copies_weight-requires-clause-number c = (few_at c.args.missing c.args.m c.loop-copies.copies-index _ c.args.all.now c.requires.all c.loop-copies-test.true).number_high

pub copies_weight-requires-clause-fits : goal.copies_weight-requires-clause-fits
copies_weight-requires-clause-fits c =
    weight_within (copies_weight c.args.counted.now c.args.node c.args.element c.args.missing c.args.m) c.args.all.now c.loop-copies.copies-index (2 ^ 128) _ c.loop-copies-test.true
    (subst (λ all. sum (map (copies_weight c.args.counted.now c.args.node c.args.element c.args.missing c.args.m) all) < 2 ^ 128) (sym c.requires.all) c.requires.fits)
