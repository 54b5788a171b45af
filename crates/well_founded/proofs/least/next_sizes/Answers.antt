use Rattle.well_founded.specs.Least.{least_with, size_of_name}
use Rattle.well_founded.proofs.LeastLoops.{next_sizes-step}
use Rattle.well_founded.proofs.least.next_sizes.Goals as goal

pub loop-place-preserved : goal.loop-place-preserved
loop-place-preserved c =
    next_sizes-step (least_with (size_of_name c.args.spec.now c.args.sizes.now)) c.args.spec.now c.loop-place.place c.right.result.now
    c.loop-place.next.items c.push.new.self.items c.least_in.result c.right.ensures.value c.in_ok-push.ensures.items c.least_in.ensures c.loop-place.invariant
