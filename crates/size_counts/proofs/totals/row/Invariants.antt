use Rattle.size_counts.proofs.TotalsTable.{RowTo}
use Rattle.size_counts.proofs.totals.row.Given as goal

abbrev pub invariant-loop-earlier : goal.invariant-loop-earlier
invariant-loop-earlier l = RowTo l.limits l.earlier l.n l.made
