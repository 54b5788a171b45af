use Rattle.std.proofs.Common.{arith}
use Rattle.std.proofs.lemmas.Option.{slice_get-get_or}
use Rattle.size_counts.proofs.CountLemmas.{union_step, union_all}
use Rattle.size_counts.proofs.counts.union_count.Goals as goal

pub loop-i-preserved : goal.loop-i-preserved
loop-i-preserved c = λ arguments at each.
    union_step c.args.tables.now.grammar c.requires.ready.told.is_checked c.args.node c.args.m c.args.now.now arguments at each c.loop-i.i _ c.child-argument.result _ c.loop-i.sum c.plus-sum.result (omega arith)
    c.child-argument.ensures.value c.child-argument.ensures.argument c.child-argument.ensures.within
    (slice_get-get_or c.args.now.now c.child-argument.result _ (omega (arith, c.child-argument.ensures.within, c.requires.for_each)))
    c.plus-sum.ensures (c.loop-i.invariant arguments at each)

pub returns : goal.returns
returns c = λ arguments at each.
    union_all c.args.tables.now.grammar c.requires.ready.told.is_checked c.args.node c.args.m c.args.now.now arguments at c.loop-i.i c.loop-i.sum (omega (arith, c.children-i-end.ensures)) (c.loop-i.invariant arguments at each)
