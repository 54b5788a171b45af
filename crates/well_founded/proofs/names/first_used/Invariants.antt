use Rattle.std.proofs.Common.{◌≡◌, drop, find}
use Rattle.well_founded.specs.Names.{names_used_in}
use Rattle.well_founded.specs.UsedNames.{lacks_rule}
use Rattle.well_founded.proofs.names.first_used.Given as goal

abbrev pub invariant-loop-place : goal.invariant-loop-place
invariant-loop-place l = find (lacks_rule l.spec) (names_used_in l.spec) ≡ find (lacks_rule l.spec) (names_used_in (drop l.place l.spec))
