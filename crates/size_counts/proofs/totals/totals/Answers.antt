use Rattle.size_counts.proofs.TotalsFilled.{kept_more}
use Rattle.size_counts.proofs.totals.totals.Goals as goal

pub loop-node-preserved : goal.loop-node-preserved
loop-node-preserved c =
    kept_more c.args.tables.now c.loop-node.node c.in_ok-of_node.field-0 c.loop-node.made.items c.push.new.self.items c.loop-node.invariant c.in_ok-of_node.ensures c.in_ok-push.ensures.items
