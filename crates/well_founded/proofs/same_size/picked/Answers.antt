use Rattle.std.proofs.Common.{◌+◌, ◌++◌, drop, arith, sym, ap, ◌∙◌}
use Rattle.well_founded.specs.SameSize.{picked}
use Rattle.well_founded.proofs.SameSizeCode.{picked_with, picked_without, picked_end}
use Rattle.well_founded.proofs.same_size.picked.Goals as goal
use Rattle.well_founded.proofs.same_size.picked.Goals.{then-flags-place+in_ok-push, else-flags-place}

pub loop-place-preserved : goal.loop-place-preserved
loop-place-preserved c =
    let flags = c.args.flags.now in
    let nodes = c.args.nodes.now in
    let place = c.loop-place.place in
    elim c.if-flags-place.branch [
      | then-flags-place+in_ok-push w ↦
          c.loop-place.invariant
          ∙ picked_with flags nodes c.loop-place.row place (omega (arith, c.min-place-end.ensures, c.loop-place-test.true)) (omega (arith, c.min-place-end.ensures, c.loop-place-test.true)) w.if-flags-place.true
          ∙ ap (λ row. row ++ picked (drop (place + 1) flags) (drop (place + 1) nodes)) (sym (w.row-is ∙ w.in_ok-push.ensures.ok))
      | else-flags-place w ↦
          c.loop-place.invariant
          ∙ picked_without flags nodes c.loop-place.row place (omega (arith, c.min-place-end.ensures, c.loop-place-test.true)) (omega (arith, c.min-place-end.ensures, c.loop-place-test.true)) w.if-flags-place.false
          ∙ ap (λ row. row ++ picked (drop (place + 1) flags) (drop (place + 1) nodes)) (sym w.row-is)
    ]

pub returns : goal.returns
returns c =
    sym (c.loop-place.invariant ∙ picked_end c.args.flags.now c.args.nodes.now c.loop-place.row c.loop-place.place (omega (arith, c.min-place-end.ensures, c.loop-place-test.false)))
