use Rattle.std.proofs.lemmas.Option.{slice_get-get_or}
use Rattle.size_counts.proofs.LayerLemmas.{exact_step}
use Rattle.size_counts.proofs.layer.exact.Goals as goal

pub loop-number-preserved : goal.loop-number-preserved
loop-number-preserved c =
    exact_step c.args.row.now c.loop-number.number-index c.unwrap_or.result _ c.loop-number.made c.push.new.self c.requires (slice_get-get_or c.args.row.now c.loop-number.number-index _ c.loop-number-test.true) c.unwrap_or.ensures
    c.in_ok-push.ensures.ok c.loop-number.invariant
