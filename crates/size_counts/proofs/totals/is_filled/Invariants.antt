use Rattle.std.proofs.Common.{◌≡◌, ℕ, ◌≤◌, ◌<◌, true}
use Rattle.spec_syntax.specs.Card.{admits}
use Rattle.size_counts.specs.Tables.{cell}
use Rattle.size_counts.proofs.totals.is_filled.Given as goal

abbrev pub invariant-loop-c : goal.invariant-loop-c
invariant-loop-c l = (k : ℕ) → k < l.c → admits l.card k ≡ true → l.least ≤ cell l.rows l.n k → ⊥
