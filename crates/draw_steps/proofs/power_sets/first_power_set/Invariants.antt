use Rattle.std.proofs.Common.{ℕ, ◌<◌}
use Rattle.draw_steps.specs.PowerSets.{IsPowerSet}
use Rattle.draw_steps.proofs.power_sets.first_power_set.Given as goal

abbrev pub invariant-loop-node : goal.invariant-loop-node
invariant-loop-node l = (other : ℕ) → other < l.node → IsPowerSet l.counted other → ⊥
