-- At the last structure the walk ends.
use Rattle.canon.proofs.Neighbours.{sorted_end}
use Rattle.canon.proofs.membership.is_sorted.Goals as goal

pub returns : goal.returns
returns c = sorted_end c.args.items.now c.loop-next.next c.loop-next-test.false c.loop-next.invariant
