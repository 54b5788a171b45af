use Rattle.std.proofs.Common.{◌≡◌, take}
use Rattle.size_counts.specs.Totals.{limits_of}
use Rattle.size_counts.proofs.totals.limits.Given as goal

abbrev pub invariant-loop-layer : goal.invariant-loop-layer
invariant-loop-layer l = l.made.items ≡ limits_of (take l.layer-index l.layers) l.element l.strict
