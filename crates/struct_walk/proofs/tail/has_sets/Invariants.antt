use Rattle.std.proofs.Common.{◌≡◌, ℕ, ◌≤◌, ◌<◌}
use Rattle.size_counts.specs.CountedView.{sets_of}
use Rattle.struct_walk.proofs.tail.has_sets.Given as goal

abbrev pub invariant-loop-components : goal.invariant-loop-components
invariant-loop-components l = (c : ℕ) → l.fn.card.low ≤ c → c < l.components → sets_of l.counted l.node c l.n ≡ 0
