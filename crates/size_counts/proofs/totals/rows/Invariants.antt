use Rattle.std.proofs.Common.{◌≡◌, length}
use Rattle.size_counts.specs.Totals.{AreTotals}
use Rattle.size_counts.proofs.totals.rows.Given as goal

abbrev pub invariant-loop-n : goal.invariant-loop-n
invariant-loop-n l = (length l.made ≡ l.n) × AreTotals l.limits l.most l.made
