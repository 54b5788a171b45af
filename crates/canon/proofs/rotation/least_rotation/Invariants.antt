use Rattle.std.proofs.Common.{◌-◌, ◌+◌, ◌*◌, length}
use Rattle.canon.proofs.LeastPlaces.{IsSearch}
use Rattle.canon.proofs.rotation.least_rotation.Given as goal

abbrev pub invariant-loop-other : goal.invariant-loop-other
invariant-loop-other l = IsSearch l.items l.best l.other l.equal

-- the sum of the three rises with each comparison
abbrev pub decreases-loop-other : goal.decreases-loop-other
decreases-loop-other l = 4 * length l.items - (l.best + l.other + l.equal)
