use Rattle.std.proofs.Common.{◌≡◌, ◌/◌, ◌∷◌, map, slice_get, unwrap_or}
use Rattle.std.specs.List.{range_with_len}
use Rattle.listing_laws.specs.Numbers.{one_at}
use Rattle.size_counts.proofs.multisets.by_components.Given as goal

abbrev pub invariant-loop-earlier : goal.invariant-loop-earlier
invariant-loop-earlier l = l.made ≡ one_at 0 l.m ∷ map (λ k. unwrap_or (slice_get l.row k) 0 / k) (range_with_len 1 l.earlier)
