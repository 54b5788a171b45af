use Rattle.std.proofs.Common.{arith, refl}
use Rattle.size_counts.proofs.FilledLemmas.{if_err, fault_kept, filled_more}
use Rattle.size_counts.proofs.counted.filled.Goals as goal

pub returns-in_err-numbers-clause-fault : goal.returns-in_err-numbers-clause-fault
returns-in_err-numbers-clause-fault c =
    if_err c.from_residual.result c.in_err-numbers.field-0.0 _ c.from_residual.ensures.1
    (fault_kept c.args.tables c.loop-m.tables c.loop-m.m c.args.size c.in_err-numbers.field-0.0 c.loop-m.invariant.filled (omega arith) c.in_err-numbers.ensures)

pub loop-m-preserved : goal.loop-m-preserved
loop-m-preserved c = record {
  filled = filled_more c.args.tables c.loop-m.tables _ c.loop-m.m c.in_ok-numbers.numbers c.loop-m.invariant.filled c.in_ok-numbers.ensures.0 c.in_ok-numbers.ensures.1 refl refl c.in_ok-add.ensures;
  ways = c.loop-m.invariant.ways;
  universe = c.loop-m.invariant.universe;
}
