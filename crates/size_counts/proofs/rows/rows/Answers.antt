use Rattle.size_counts.proofs.RowLemmas.{rows_more}
use Rattle.size_counts.proofs.rows.rows.Goals as goal

pub loop-node-preserved : goal.loop-node-preserved
loop-node-preserved c = rows_more c.args.tables.now c.args.m c.loop-node.node c.loop-node.made.items _ _ c.loop-node.invariant c.in_ok-push.ensures.items c.in_ok-row.ensures.told c.in_ok-row.ensures.empty
