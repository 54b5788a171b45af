use Rattle.std.proofs.Common.{◌-◌}
use Rattle.canon.proofs.SortedLists.{IsParted}
use Rattle.canon.proofs.sorted.place_of.Given as goal

abbrev pub invariant-loop-low : goal.invariant-loop-low
invariant-loop-low l = IsParted l.sorted l.item l.low l.high

abbrev pub decreases-loop-low : goal.decreases-loop-low
decreases-loop-low l = l.high - l.low
