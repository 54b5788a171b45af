use Rattle.std.proofs.Common.{◌≡◌, take}
use Rattle.size_counts.specs.Layers.{told_row}
use Rattle.size_counts.proofs.layer.exact.Given as goal

abbrev pub invariant-loop-number : goal.invariant-loop-number
invariant-loop-number l = take l.number-index l.row ≡ told_row l.made
