use Rattle.std.proofs.Common.{◌≡◌, None, replicate}
use Rattle.well_founded.proofs.least.nothing_known.Given as goal

abbrev pub invariant-loop : goal.invariant-loop
invariant-loop l = l.sizes.items ≡ replicate l.counter None
