use Rattle.std.proofs.Common.{◌≡◌, ◌++◌, drop}
use Rattle.well_founded.specs.SameSize.{picked}
use Rattle.well_founded.proofs.same_size.picked.Given as goal

abbrev pub invariant-loop-place : goal.invariant-loop-place
invariant-loop-place l = picked l.flags l.nodes ≡ l.row ++ picked (drop l.place l.flags) (drop l.place l.nodes)
