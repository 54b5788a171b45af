use Rattle.draw_steps.proofs.Places.{Sought}
use Rattle.draw_steps.proofs.place.place_of.Given as goal

abbrev pub invariant-loop-place : goal.invariant-loop-place
invariant-loop-place l = Sought l.weights l.value l.left l.place
