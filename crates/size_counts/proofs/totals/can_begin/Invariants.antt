use Rattle.std.proofs.Common.{ℕ, ◌-◌, ◌*◌, ◌≤◌}
use Rattle.size_counts.specs.Tables.{cell}
use Rattle.size_counts.proofs.totals.can_begin.Given as goal

abbrev pub invariant-loop-earlier : goal.invariant-loop-earlier
invariant-loop-earlier l = (times : ℕ) → 1 ≤ times → times ≤ l.earlier → cell l.rows (l.n - times * l.d) (l.c - times) ≤ l.d
