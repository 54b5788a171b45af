-- Weight by weight.
use Rattle.std.proofs.Common.{refl}
use Rattle.draw_steps.proofs.Places.{sought_next, sought_here, sought_end}
use Rattle.draw_steps.proofs.place.place_of.Goals as goal

pub loop-place-init : goal.loop-place-init
loop-place-init c = record { same = λ bits. refl; below = c.requires }

pub returns-then-left-weight-clause-place : goal.returns-then-left-weight-clause-place
returns-then-left-weight-clause-place c =
    sought_here c.args.weights.now c.args.value c.loop-place.left c.loop-place.place _ 0 c.loop-place-test.true refl c.if-left-weight.true c.loop-place.invariant

pub loop-place-preserved : goal.loop-place-preserved
loop-place-preserved c =
    sought_next c.args.weights.now c.args.value c.loop-place.left c.loop-place.place _ 0 c.loop-place-test.true refl c.if-left-weight.false c.loop-place.invariant

pub unreachable-requires : goal.unreachable-requires
unreachable-requires c = sought_end c.args.weights.now c.args.value c.loop-place.left c.loop-place.place c.loop-place-test.false c.loop-place.invariant
