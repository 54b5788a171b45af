use Rattle.std.proofs.Common.{◌+◌, ◌*◌, ℕ, ◌∙◌, subst, arith}
use Rattle.size_counts.specs.Repeats.{fewer}
use Rattle.size_counts.specs.Shared.{StandsFor}
use Rattle.size_counts.proofs.MultisetLemmas.{pointed_all, each_more}
use Rattle.size_counts.proofs.multisets.add_pointed.Goals as goal

pub loop-earlier-preserved : goal.loop-earlier-preserved
loop-earlier-preserved c = record {
  parts = c.add.ensures.parts ∙ c.loop-earlier.invariant.parts;
  left = c.add.ensures.left;
  sum = λ n stands. subst (λ (k : ℕ). StandsFor c.add.new.self k)
      (each_more n c.args.elements (fewer c.args.numbers.now) c.loop-earlier.earlier c.args.d c.args.c c.args.m c.fewer.result
      (omega (arith, c.most_copies-earlier-end.ensures.room (c.loop-earlier.earlier + 1) (omega arith))) c.fewer.ensures)
      (c.add.ensures.sum _ (c.loop-earlier.invariant.sum n stands));
}

pub returns-clause-sum : goal.returns-clause-sum
returns-clause-sum c = λ n stands.
    subst (λ (k : ℕ). StandsFor c.loop-earlier.sum (n + c.args.elements * k))
    (pointed_all (fewer c.args.numbers.now) c.loop-earlier.earlier c.args.d c.args.c c.args.m c.requires.low (omega (arith, c.most_copies-earlier-end.ensures.few))
    (λ j more. c.most_copies-earlier-end.ensures.most j (omega arith)) c.requires.none) (c.loop-earlier.invariant.sum n stands)
