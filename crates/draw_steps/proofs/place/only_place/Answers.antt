-- Weight by weight, and at the end.
use Rattle.std.proofs.Common.{refl, arith, sym, ◌∙◌, subst, Option, ℕ, ◌+◌}
use Rattle.draw_steps.proofs.Places.{Passed, passed_none, passed_some, two_places, only_is, only_above, ends_some}
use Rattle.draw_steps.proofs.place.only_place.Goals as goal
use Rattle.draw_steps.proofs.place.only_place.Goals.{then-weight-gt0+else-is_some, else-weight-gt0}

pub loop-place-init : goal.loop-place-init
loop-place-init c = refl

pub returns-then-is_some-clause-more : goal.returns-then-is_some-clause-more
returns-then-is_some-clause-more c =
    two_places c.args.weights.now c.loop-place.place _ 0 c.loop-place.only c.loop-place-test.true refl c.if-weight-gt0.true (sym c.is_some.ensures ∙ c.if-is_some.true) c.loop-place.invariant

pub loop-place-preserved : goal.loop-place-preserved
loop-place-preserved c = elim c.if-weight-gt0.branch [
  | then-weight-gt0+else-is_some w ↦
      subst (λ (only : Option ℕ). Passed c.args.weights.now (c.loop-place.place + 1) only) (sym w.only-is)
      (passed_some c.args.weights.now c.loop-place.place _ c.loop-place.only c.loop-place-test.true refl w.if-weight-gt0.true (sym w.is_some.ensures ∙ w.if-is_some.false) c.loop-place.invariant)
  | else-weight-gt0 w ↦
      subst (λ (only : Option ℕ). Passed c.args.weights.now (c.loop-place.place + 1) only) (sym w.only-is)
      (passed_none c.args.weights.now c.loop-place.place _ 0 c.loop-place.only c.loop-place-test.true refl (let h = w.if-weight-gt0.false in omega arith) c.loop-place.invariant)
]

pub returns-clause-only : goal.returns-clause-only
returns-clause-only c = only_is c.args.weights.now c.loop-place.place c.loop-place.only c.loop-place-test.false c.loop-place.invariant

pub returns-clause-positive : goal.returns-clause-positive
returns-clause-positive c = only_above c.args.weights.now c.loop-place.place c.loop-place.only c.loop-place.invariant

pub returns-clause-more : goal.returns-clause-more
returns-clause-more c = ends_some c.args.weights.now c.loop-place.place c.loop-place.only _ c.loop-place-test.false c.requires c.loop-place.invariant
