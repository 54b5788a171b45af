use Rattle.std.proofs.Common.{◌≡◌, take}
use Rattle.size_counts.specs.Layers.{told_rows}
use Rattle.size_counts.proofs.layer.kept.Given as goal

abbrev pub invariant-loop-row : goal.invariant-loop-row
invariant-loop-row l = take l.row-index l.rows ≡ told_rows l.made
