use Rattle.std.proofs.Common.{rules, ◌+◌, ℕ, subst, arith}
use Rattle.splits.specs.Capped.{Tells}
use Rattle.size_counts.specs.Repeats.{fewer}
use Rattle.size_counts.proofs.MultisetLemmas.{pointed_all, told_more}
use Rattle.size_counts.proofs.multisets.pointed.Goals as goal

pub loop-earlier-preserved : goal.loop-earlier-preserved
loop-earlier-preserved c =
    told_more (fewer c.args.numbers.now) c.loop-earlier.earlier c.args.d c.args.c c.args.m c.fewer.result c.loop-earlier.sum c.plus-sum.result
    (omega (arith, c.most_copies-earlier-end.ensures.room (c.loop-earlier.earlier + 1) (omega arith))) c.fewer.ensures (search rules) c.plus-sum.ensures c.loop-earlier.invariant

pub returns : goal.returns
returns c =
    subst (λ (n : ℕ). Tells c.loop-earlier.sum n)
    (pointed_all (fewer c.args.numbers.now) c.loop-earlier.earlier c.args.d c.args.c c.args.m c.requires.low (omega (arith, c.most_copies-earlier-end.ensures.few))
    (λ j more. c.most_copies-earlier-end.ensures.most j (omega arith)) c.requires.none) c.loop-earlier.invariant
