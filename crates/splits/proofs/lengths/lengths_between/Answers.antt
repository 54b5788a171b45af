-- All lengths are marked.
use Rattle.std.proofs.Common.{arith}
use Rattle.splits.proofs.LengthLemmas.{marked_more}
use Rattle.splits.proofs.lengths.lengths_between.Goals as goal

pub loop-length-preserved : goal.loop-length-preserved
loop-length-preserved c = (
  omega arith,
  marked_more c.args.low c.args.high c.loop-length.lengths.items c.push.new.self.items c.loop-length.length c.lies_between.result c.loop-length.invariant.1 c.lies_between.ensures
      c.in_ok-push.ensures.items,
)

pub returns : goal.returns
returns c = λ n within. c.loop-length.invariant.1.marks n (omega arith)
