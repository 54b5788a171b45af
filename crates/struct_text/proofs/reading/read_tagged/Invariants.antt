use Rattle.struct_text.specs.Reading.{weight}
use Rattle.struct_text.proofs.ReadSteps.{Reads}
use Rattle.struct_text.proofs.reading.read_tagged.Given as goal

abbrev pub invariant-loop-place : goal.invariant-loop-place
invariant-loop-place l = Reads l.grammar l.sym l.text l.holes l.place l.left

abbrev pub decreases-loop-place : goal.decreases-loop-place
decreases-loop-place l = weight l.grammar l.holes l.place l.left
