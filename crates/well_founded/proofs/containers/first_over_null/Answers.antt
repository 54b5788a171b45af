use Rattle.std.proofs.Common.{Bool, not, sym, ap, ◌∙◌}
use Rattle.spec_syntax.specs.Expression.{Expression}
use Rattle.well_founded.specs.Least.{least_with, size_of_name}
use Rattle.well_founded.specs.Containers.{is_without_null}
use Rattle.well_founded.proofs.ContainerSteps.{rule_found, rule_passed}
use Rattle.well_founded.proofs.containers.first_over_null.Goals as goal

pub returns-then-not-is_without_null : goal.returns-then-not-is_without_null
returns-then-not-is_without_null c =
    let test : Expression → Bool = λ e. not (is_without_null (least_with (size_of_name c.args.spec.now c.args.sizes.now)) e) in
    rule_found test c.args.spec.now c.loop-place.place c.right.result.now _ c.right.ensures.value c.loop-place.invariant
    (ap not (sym c.is_without_null.ensures ∙ c.if-not-is_without_null.true))

pub loop-place-preserved : goal.loop-place-preserved
loop-place-preserved c =
    let test : Expression → Bool = λ e. not (is_without_null (least_with (size_of_name c.args.spec.now c.args.sizes.now)) e) in
    rule_passed test c.args.spec.now c.loop-place.place c.right.result.now _ c.right.ensures.value c.loop-place.invariant
    (ap not (sym c.is_without_null.ensures ∙ c.if-not-is_without_null.false))
