use Rattle.std.proofs.Common.{◌≡◌, take}
use Rattle.size_counts.specs.Tables.{column}
use Rattle.size_counts.proofs.tables.column.Given as goal

abbrev pub invariant-loop-layer : goal.invariant-loop-layer
invariant-loop-layer l = l.made.items ≡ column (take l.layer-index l.layers) l.node l.i
