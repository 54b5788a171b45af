use Rattle.std.proofs.Common.{arith}
use Rattle.size_counts.proofs.TotalsTable.{row_more, row_all}
use Rattle.size_counts.proofs.totals.row.Goals as goal

pub loop-earlier-preserved : goal.loop-earlier-preserved
loop-earlier-preserved c =
    row_more c.args.limits.now c.loop-earlier.earlier c.args.n c.greatest.result c.loop-earlier.made c.push-in-loop-earlier.new.self c.loop-earlier.invariant c.greatest.ensures c.in_ok-push-2.ensures.ok

pub returns : goal.returns
returns c = row_all c.args.limits.now c.args.most c.loop-earlier.earlier c.args.n c.loop-earlier.made c.loop-earlier.invariant (omega (arith, c.min-earlier-end.ensures))
