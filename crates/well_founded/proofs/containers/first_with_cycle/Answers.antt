use Rattle.std.proofs.Common.{not, sym, ap, ◌∙◌}
use Rattle.well_founded.specs.Containers.{is_allowed}
use Rattle.well_founded.proofs.ContainerSteps.{rule_found, rule_passed}
use Rattle.well_founded.proofs.containers.first_with_cycle.Goals as goal

pub returns-then-not-is_allowed : goal.returns-then-not-is_allowed
returns-then-not-is_allowed c =
    rule_found (λ e. not (is_allowed c.args.universe e)) c.args.spec.now c.loop-place.place c.right.result.now _ c.right.ensures.value c.loop-place.invariant
    (ap not (sym c.is_allowed.ensures ∙ c.if-not-is_allowed.true))

pub loop-place-preserved : goal.loop-place-preserved
loop-place-preserved c =
    rule_passed (λ e. not (is_allowed c.args.universe e)) c.args.spec.now c.loop-place.place c.right.result.now _ c.right.ensures.value c.loop-place.invariant
    (ap not (sym c.is_allowed.ensures ∙ c.if-not-is_allowed.false))
