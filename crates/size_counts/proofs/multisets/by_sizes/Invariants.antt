use Rattle.std.proofs.Common.{◌≡◌, [], map, slice_get, unwrap_or}
use Rattle.std.specs.List.{range_with_len}
use Rattle.size_counts.specs.Repeats.{by_components}
use Rattle.size_counts.proofs.multisets.by_sizes.Given as goal

abbrev pub invariant-loop-m : goal.invariant-loop-m
invariant-loop-m l =
    l.made.items ≡ map (λ m. by_components (unwrap_or (slice_get (unwrap_or (slice_get l.layers m) []) l.node) []) m) (range_with_len 0 l.m)
