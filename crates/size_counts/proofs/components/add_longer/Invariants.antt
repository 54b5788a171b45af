use Rattle.std.proofs.Common.{◌+◌, ℕ, slice_get, unwrap_or}
use Rattle.size_counts.specs.Components.{rests_of}
use Rattle.size_counts.proofs.SumLemmas.{AreAddedTo}
use Rattle.size_counts.proofs.components.add_longer.Given as goal

abbrev pub invariant-loop-i : goal.invariant-loop-i
invariant-loop-i l = AreAddedTo l.i l.fn.sums l.sums l.firsts (λ (i : ℕ). rests_of l.kind (i + 1) (unwrap_or (slice_get l.row (i + 1)) 0))
