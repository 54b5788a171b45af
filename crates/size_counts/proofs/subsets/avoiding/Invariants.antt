use Rattle.std.proofs.Common.{◌≡◌, ◌-◌, ◌*◌}
use Rattle.count_laws.specs.SetNumbers.{number_avoiding}
use Rattle.size_counts.specs.Repeats.{fewer}
use Rattle.size_counts.proofs.subsets.avoiding.Given as goal

abbrev pub invariant-loop-step : goal.invariant-loop-step
invariant-loop-step l =
    l.number ≡ number_avoiding (fewer l.numbers) l.d (l.c - (l.steps - l.step)) (l.m - (l.steps - l.step) * l.d)
