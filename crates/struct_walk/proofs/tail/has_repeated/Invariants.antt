use Rattle.std.proofs.Common.{◌≡◌, ℕ, ◌≤◌, ◌<◌}
use Rattle.size_counts.specs.CountedView.{lists_of}
use Rattle.struct_walk.proofs.tail.has_repeated.Given as goal

abbrev pub invariant-loop-components : goal.invariant-loop-components
invariant-loop-components l = (c : ℕ) → l.fn.card.low ≤ c → c < l.components → lists_of l.counted l.node c l.n ≡ 0
