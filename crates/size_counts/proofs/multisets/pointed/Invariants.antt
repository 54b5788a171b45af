use Rattle.splits.specs.Capped.{Tells}
use Rattle.size_counts.specs.Repeats.{fewer}
use Rattle.size_counts.proofs.MultisetLemmas.{pointed_to}
use Rattle.size_counts.proofs.multisets.pointed.Given as goal

abbrev pub invariant-loop-earlier : goal.invariant-loop-earlier
invariant-loop-earlier l = Tells l.sum (pointed_to (fewer l.numbers) l.d l.c l.m l.earlier)
