use Rattle.std.proofs.Common.{◌≡◌}
use Rattle.size_counts.specs.Ways.{CanSplit, universe_of}
use Rattle.size_counts.specs.Filled.{IsFilledTo}
use Rattle.size_counts.proofs.counted.filled.Given as goal

abbrev pub invariant-loop-m : goal.invariant-loop-m
invariant-loop-m l = record {
  filled : IsFilledTo l.fn.tables l.tables l.m;
  ways : CanSplit l.tables.ways l.size;
  universe : universe_of l.tables.ways ≡ l.tables.grammar.universe;
}
