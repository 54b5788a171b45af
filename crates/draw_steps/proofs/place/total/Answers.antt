-- The sum of the weights so far.
use Rattle.std.proofs.Common.{arith}
use Rattle.draw_steps.proofs.Places.{total_within}
use Rattle.draw_steps.proofs.place.total.Goals as goal

pub overflow_add-total : goal.overflow_add-total
overflow_add-total c = omega (arith, total_within c.args.weights.now c.loop-weight.weight-index 0 c.loop-weight-test.true, c.requires, c.loop-weight.invariant)
