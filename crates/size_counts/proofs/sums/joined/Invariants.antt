use Rattle.std.proofs.Common.{ℕ}
use Rattle.splits.specs.Capped.{Tells}
use Rattle.size_counts.specs.Sums.{ProductsTold}
use Rattle.listing_laws.specs.Numbers.{ways}
use Rattle.size_counts.specs.Ways.{universe_of}
use Rattle.size_counts.proofs.SumLemmas.{joined_to}
use Rattle.size_counts.proofs.sums.joined.Given as goal

abbrev pub invariant-loop-d : goal.invariant-loop-d
invariant-loop-d l = (first other : ℕ → ℕ) → ProductsTold l.firsts l.others first other l.n → Tells l.sum (joined_to (ways (universe_of l.ways) l.n) first other l.n l.d)
