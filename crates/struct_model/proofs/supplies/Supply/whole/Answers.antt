-- The labels from 1 to a number ascend.
use Rattle.lists.proofs.AscendingAbove.{one_to_ascends}
use Rattle.struct_model.proofs.supplies.Supply.whole.Goals as goal

pub returns-in_ok-labels_to-in-Labelled-clause-in_order : goal.returns-in_ok-labels_to-in-Labelled-clause-in_order
returns-in_ok-labels_to-in-Labelled-clause-in_order c = rw c.in_ok-labels_to-in-Labelled.ensures (one_to_ascends c.args.n)
