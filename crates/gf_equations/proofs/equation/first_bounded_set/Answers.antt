use Rattle.std.proofs.Common.{not, sym, ap, ◌∙◌}
use Rattle.gf_equations.specs.Bounds.{is_without_bounded_set}
use Rattle.well_founded.proofs.ContainerSteps.{rule_found, rule_passed}
use Rattle.gf_equations.proofs.equation.first_bounded_set.Goals as goal

pub returns-then-not-is_without_bounded_set-clause-value : goal.returns-then-not-is_without_bounded_set-clause-value
returns-then-not-is_without_bounded_set-clause-value c =
    rule_found (λ e. not (is_without_bounded_set e)) c.args.spec.now c.loop-place.place c.right.result.now _ c.right.ensures.value c.loop-place.invariant
    (ap not (sym c.is_without_bounded_set.ensures ∙ c.if-not-is_without_bounded_set.true))

pub loop-place-preserved : goal.loop-place-preserved
loop-place-preserved c =
    rule_passed (λ e. not (is_without_bounded_set e)) c.args.spec.now c.loop-place.place c.right.result.now _ c.right.ensures.value c.loop-place.invariant
    (ap not (sym c.is_without_bounded_set.ensures ∙ c.if-not-is_without_bounded_set.false))
