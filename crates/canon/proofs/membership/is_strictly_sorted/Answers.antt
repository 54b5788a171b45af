-- At the last structure the walk ends.
use Rattle.canon.proofs.Neighbours.{strictly_end}
use Rattle.canon.proofs.membership.is_strictly_sorted.Goals as goal

pub returns : goal.returns
returns c = strictly_end c.args.items.now c.loop-next.next c.loop-next-test.false c.loop-next.invariant
