-- The change that is found makes the part that follows.
use Rattle.std.proofs.Common.{arith}
use Rattle.splits.proofs.ChangeLemmas.{sought_other, sought_kept, grown_is, sought_is, later_is, changed_part}
use Rattle.splits.proofs.labelled.next_change.Goals as goal
use Rattle.splits.proofs.labelled.next_change.Goals.{then-label-part, else-label-part}

pub loop-place-preserved : goal.loop-place-preserved
loop-place-preserved c = elim c.if-label-part.branch [
  | then-label-part w ↦
      rw (w.kept-is, w.change-is, w.longer-is, w.or-change.ensures, w.change_to-then-label-part.ensures)
      (sought_kept c.args.lengths.now c.args.labels.now c.args.part.now c.loop-place.place c.loop-place.kept c.loop-place.longer c.loop-place.change (omega arith) c.loop-place.invariant
      (omega arith) w.if-label-part.true w.least_above-longer.result w.least_above-longer.ensures)
  | else-label-part w ↦
      rw (w.kept-is, w.change-is, w.longer-is)
      (sought_other c.args.lengths.now c.args.labels.now c.args.part.now c.loop-place.place c.loop-place.kept c.loop-place.longer c.loop-place.change (omega arith) c.loop-place.invariant
      (omega arith) w.if-label-part.false)
]

pub returns-then-kept-part-clause-later : goal.returns-then-kept-part-clause-later
returns-then-kept-part-clause-later c =
    later_is 0 c.args.lengths.now c.args.labels.now c.args.part.now _ c.requires.ascending c.requires.part
    (rw (c.or.ensures, c.change_to.ensures)
    (grown_is c.args.lengths.now c.args.labels.now c.args.part.now c.loop-place.place c.loop-place.kept c.loop-place.longer c.loop-place.change (omega arith) c.loop-place.invariant
    c.if-kept-part.true))

pub returns-then-kept-part-clause-part : goal.returns-then-kept-part-clause-part
returns-then-kept-part-clause-part c =
    changed_part 0 c.args.lengths.now c.args.labels.now c.args.part.now c.or.result c.requires.ascending c.requires.part
    (rw (c.or.ensures, c.change_to.ensures)
    (grown_is c.args.lengths.now c.args.labels.now c.args.part.now c.loop-place.place c.loop-place.kept c.loop-place.longer c.loop-place.change (omega arith) c.loop-place.invariant
    c.if-kept-part.true))

pub returns-clause-later : goal.returns-clause-later
returns-clause-later c =
    later_is 0 c.args.lengths.now c.args.labels.now c.args.part.now _ c.requires.ascending c.requires.part
    (sought_is c.args.lengths.now c.args.labels.now c.args.part.now c.loop-place.place c.loop-place.kept c.loop-place.longer c.loop-place.change (omega arith) c.loop-place.invariant)

pub returns-clause-part : goal.returns-clause-part
returns-clause-part c =
    changed_part 0 c.args.lengths.now c.args.labels.now c.args.part.now c.loop-place.change c.requires.ascending c.requires.part
    (sought_is c.args.lengths.now c.args.labels.now c.args.part.now c.loop-place.place c.loop-place.kept c.loop-place.longer c.loop-place.change (omega arith) c.loop-place.invariant)
