use Rattle.draw_steps.proofs.Places.{Passed}
use Rattle.draw_steps.proofs.place.only_place.Given as goal

abbrev pub invariant-loop-place : goal.invariant-loop-place
invariant-loop-place l = Passed l.weights l.place l.only
