use Rattle.std.proofs.Common.{◌≡◌, ◌-◌, ◌*◌, ◌<◌, map}
use Rattle.std.specs.List.{sum, range_with_len}
use Rattle.count_laws.specs.SetNumbers.{number_avoiding}
use Rattle.size_counts.specs.Repeats.{count_at, fewer}
use Rattle.size_counts.specs.Shared.{StandsFor}
use Rattle.size_counts.proofs.subsets.shared.Given as goal

abbrev pub invariant-loop-d : goal.invariant-loop-d
invariant-loop-d l = record {
  parts : l.sum.parts ≡ l.c;
  left : l.sum.rest < l.sum.parts;
  sum : StandsFor l.sum (sum (map (λ d. count_at l.layers l.element d * number_avoiding (fewer l.numbers) d (l.c - 1) (l.m - d)) (range_with_len 1 (l.d - 1))));
}
