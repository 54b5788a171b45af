use Rattle.std.proofs.Common.{◌≡◌, ◌+◌, ◌*◌, ◌<◌, ℕ}
use Rattle.size_counts.specs.Repeats.{fewer}
use Rattle.size_counts.specs.Shared.{StandsFor}
use Rattle.size_counts.proofs.MultisetLemmas.{pointed_to}
use Rattle.size_counts.proofs.multisets.add_pointed.Given as goal

abbrev pub invariant-loop-earlier : goal.invariant-loop-earlier
invariant-loop-earlier l = record {
  parts : l.sum.parts ≡ l.fn.sum.parts;
  left : l.sum.rest < l.sum.parts;
  sum : (n : ℕ) → StandsFor l.fn.sum n → StandsFor l.sum (n + l.elements * pointed_to (fewer l.numbers) l.d l.c l.m l.earlier);
}
