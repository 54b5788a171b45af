use Rattle.size_counts.proofs.MultisetLemmas.{component_more}
use Rattle.size_counts.proofs.multisets.by_components.Goals as goal

pub loop-earlier-preserved : goal.loop-earlier-preserved
loop-earlier-preserved c =
    component_more c.args.row.now c.loop-earlier.made c.push-in-loop-earlier.new.self c.args.m c.loop-earlier.earlier c.at.result.now c.at.ensures c.in_ok-push-2.ensures.ok c.loop-earlier.invariant
