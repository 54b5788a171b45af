-- What is left when all labels are passed is what remains.
use Rattle.splits.proofs.ChangeLemmas.{remaining_all, remaining_is}
use Rattle.splits.proofs.Selections.{remaining}
use Rattle.splits.proofs.labelled.remaining_labels.Goals as goal

pub returns : goal.returns
returns c =
    remaining_is 0 c.args.part.now c.args.labels.now c.loop-label.rest c.requires.ascending c.requires.part
    (remaining_all c.args.part.now c.args.labels.now c.loop-label.rest (remaining c.args.part.now c.args.labels.now) c.loop-label.label-index c.loop-label.taken c.loop-label-test.false c.loop-label.invariant)
