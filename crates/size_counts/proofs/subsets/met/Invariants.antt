use Rattle.std.proofs.Common.{◌-◌, ◌*◌, map}
use Rattle.std.specs.List.{sum, range_with_len}
use Rattle.count_laws.specs.SetNumbers.{number_avoiding}
use Rattle.splits.specs.Capped.{Tells}
use Rattle.size_counts.specs.Repeats.{count_at, fewer}
use Rattle.size_counts.proofs.subsets.met.Given as goal

abbrev pub invariant-loop-d : goal.invariant-loop-d
invariant-loop-d l =
    Tells l.sum (sum (map (λ d. count_at l.layers l.element d * number_avoiding (fewer l.numbers) d (l.c - 1) (l.m - d)) (range_with_len 1 (l.d - 1))))
