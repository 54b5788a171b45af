use Rattle.std.proofs.Common.{◌+◌, ◌*◌, drop}
use Rattle.struct_model.specs.Structure.{nodes}
use Rattle.struct_walk.proofs.StepNodes.{weight}
use Rattle.struct_walk.proofs.stepping.+stepping.Given as goal

abbrev pub decreases-step : goal.decreases-step
decreases-step l = 8 * nodes l.s.now

abbrev pub decreases-step_argument : goal.decreases-step_argument
decreases-step_argument l = 8 * nodes l.inside.now + 1

abbrev pub decreases-step_components : goal.decreases-step_components
decreases-step_components l = 8 * weight l.components.now + 7

abbrev pub decreases-step_lists : goal.decreases-step_lists
decreases-step_lists l = 8 * weight (drop l.place l.components.now) + 2

abbrev pub decreases-step_parts : goal.decreases-step_parts
decreases-step_parts l = 8 * weight (drop l.place l.components.now) + 1

abbrev pub decreases-step_set : goal.decreases-step_set
decreases-step_set l = 8 * weight l.components.now + 6

abbrev pub decreases-step_sorted : goal.decreases-step_sorted
decreases-step_sorted l = 8 * weight (drop l.place l.components.now) + 5

abbrev pub decreases-step_first : goal.decreases-step_first
decreases-step_first l = 8 * nodes l.component + 1
