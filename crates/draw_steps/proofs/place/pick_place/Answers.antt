-- What is picked is below the sum of the weights.
use Rattle.std.proofs.Common.{◌<◌, ℕ, subst}
use Rattle.draw_steps.proofs.Places.{picked_below}
use Rattle.draw_steps.proofs.place.pick_place.Goals as goal

pub place_of-requires : goal.place_of-requires
place_of-requires g c = subst (λ (n : ℕ). c.in_ok-value.value < n) c.total.ensures (picked_below c.total.result _ c.in_ok-value.value _ c.in_ok-value.ensures.picked)
