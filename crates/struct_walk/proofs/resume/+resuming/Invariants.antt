use Rattle.std.proofs.Common.{◌+◌, ◌*◌, drop}
use Rattle.struct_model.specs.Structure.{nodes}
use Rattle.struct_walk.proofs.StepNodes.{weight}
use Rattle.struct_walk.proofs.resume.+resuming.Given as goal

abbrev pub decreases-resume : goal.decreases-resume
decreases-resume l = 4 * nodes l.s.now + 3

abbrev pub decreases-resume_rule : goal.decreases-resume_rule
decreases-resume_rule l = 4 * nodes l.s.now + 2

abbrev pub decreases-resume_union : goal.decreases-resume_union
decreases-resume_union l = 4 * nodes l.s.now + 2

abbrev pub decreases-resume_set : goal.decreases-resume_set
decreases-resume_set l = 4 * nodes l.s.now + 2

abbrev pub decreases-resume_components : goal.decreases-resume_components
decreases-resume_components l = 4 * nodes l.s.now + 1

abbrev pub decreases-resume_sorted_components : goal.decreases-resume_sorted_components
decreases-resume_sorted_components l = 4 * nodes l.s.now + 1

abbrev pub decreases-resume_lists : goal.decreases-resume_lists
decreases-resume_lists l = 4 * weight (drop l.place l.parts.now) + 4

abbrev pub decreases-resume_sorted : goal.decreases-resume_sorted
decreases-resume_sorted l = 4 * weight (drop l.place l.parts.now) + 4
