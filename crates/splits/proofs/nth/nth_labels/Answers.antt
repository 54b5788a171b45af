-- Label by label, and at the end.
use Rattle.std.proofs.Common.{sym, refl, ◌∙◌, arith}
use Rattle.splits.proofs.NthPart.{enough, left_finds, taken_finds, nth_labels_is}
use Rattle.splits.proofs.nth.nth_labels.Goals as goal
use Rattle.splits.proofs.nth.nth_labels.Goals.{in-Some+in_ok-push-in-Some, in-None+in_ok-push-in-None}

pub passed-requires-clause-place : goal.passed-requires-clause-place
passed-requires-clause-place c =
    let here = c.loop-label in
    omega (arith, enough c.args.labels.now c.args.d c.args.r here.label-index here.behind here.missing here.earlier here.part here.rest here.invariant)

pub loop-label-preserved : goal.loop-label-preserved
loop-label-preserved c =
    let here = c.loop-label in
    let next = c.match-passed in
    elim c.match-passed.branch [
      | in-Some+in_ok-push-in-Some w ↦
          left_finds c.args.labels.now c.args.d c.args.r here.label-index here.behind here.missing here.earlier _ 0 here.part here.rest next.part next.rest here.invariant c.loop-label-test.true refl
          next.missing next.earlier w.in-Some.number (sym w.in-Some.is ∙ c.passed.ensures) w.part-is (w.rest-is ∙ w.in_ok-push-in-Some.ensures.ok) w.missing-is w.earlier-is
      | in-None+in_ok-push-in-None w ↦
          taken_finds c.args.labels.now c.args.d c.args.r here.label-index here.behind here.missing here.earlier _ 0 here.part here.rest next.part next.rest here.invariant c.loop-label-test.true refl
          next.missing next.earlier (sym w.in-None.is ∙ c.passed.ensures) (w.part-is ∙ w.in_ok-push-in-None.ensures.ok) w.rest-is w.missing-is w.earlier-is
    ]

pub returns : goal.returns
returns c =
    let here = c.loop-label in
    nth_labels_is c.args.labels.now c.args.n c.args.d c.args.r here.label-index here.behind here.missing here.earlier here.part here.rest c.requires.ascending c.requires.number c.requires.before
    here.invariant c.loop-label-test.false
