use Rattle.well_founded.proofs.LeastRounds.{IsReachedTable, weight_of_all}
use Rattle.well_founded.proofs.least.least_sizes.Given as goal

abbrev pub invariant-loop-sizes : goal.invariant-loop-sizes
invariant-loop-sizes l = IsReachedTable l.spec l.sizes.items

abbrev pub decreases-loop-sizes : goal.decreases-loop-sizes
decreases-loop-sizes l = weight_of_all l.sizes.items
