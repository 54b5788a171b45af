use Rattle.size_counts.proofs.FillLemmas.{beside_more}
use Rattle.size_counts.proofs.fill.longer_each.Goals as goal

pub loop-node-preserved : goal.loop-node-preserved
loop-node-preserved c = beside_more c.args.tables.now c.args.m c.loop-node.node c.loop-node.made.items c.push.new.self.items _ c.loop-node.invariant c.in_ok-push.ensures.items c.in_ok-longer_of.ensures
