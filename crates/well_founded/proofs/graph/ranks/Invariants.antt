use Rattle.graphs.proofs.Counts.{CountsSo}
use Rattle.well_founded.proofs.graph.ranks.Given as goal

abbrev pub invariant-loop-i : goal.invariant-loop-i
invariant-loop-i l = CountsSo l.graph l.i l.ranks.items
