use Rattle.std.proofs.Common.{arith}
use Rattle.size_counts.proofs.ReachedLemmas.{at_read}
use Rattle.size_counts.proofs.MultisetLemmas.{size_more}
use Rattle.size_counts.proofs.multisets.by_sizes.Goals as goal

pub loop-m-preserved : goal.loop-m-preserved
loop-m-preserved c =
    size_more c.args.layers.now c.args.node c.loop-m.m c.index-layers-m.result c.at.result.now c.in_ok-by_components.field-0 c.loop-m.made.items c.push.new.self.items
    (at_read c.args.layers.now c.loop-m.m c.index-layers-m.result (omega arith) c.index-layers-m.is) c.at.ensures c.in_ok-by_components.ensures c.in_ok-push.ensures.items c.loop-m.invariant
