use Rattle.std.proofs.Common.{ℕ, ◌-◌, ◌*◌, ◌/◌, ◌≤◌, ◌<◌, get_or}
use Rattle.size_counts.specs.Totals.{CanBegin}
use Rattle.size_counts.proofs.totals.greatest.Given as goal

abbrev pub invariant-loop-smaller : goal.invariant-loop-smaller
invariant-loop-smaller l = (d : ℕ) → l.n / l.c - l.smaller < d → d * l.c ≤ l.n → CanBegin l.rows (get_or l.limits d 0) d l.c l.n → ⊥
