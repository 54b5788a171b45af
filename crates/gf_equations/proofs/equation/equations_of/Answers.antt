use Rattle.std.proofs.Common.{◌+◌, ◌++◌, drop, codes, ap, ◌∙◌}
use Rattle.spec_syntax.specs.Rules.{rule_name}
use Rattle.gf_equations.specs.Text.{equation}
use Rattle.gf_equations.proofs.Rules.{nodes_of_right, rule_next, coming_step}
use Rattle.gf_equations.proofs.equation.equations_of.Goals as goal

pub push_equation-requires : goal.push_equation-requires
push_equation-requires c = nodes_of_right c.args.spec.now c.loop-place.place c.right.result.now c.right.ensures.kept c.right.ensures.value

pub loop-place-preserved : goal.loop-place-preserved
loop-place-preserved c =
    let rules = c.args.spec.now in
    let place = c.loop-place.place in
    coming_step (equation c.args.universe c.args.variable.now) (codes ", ") place (rule_name rules (place + 1), c.right.result.now) (drop place rules) (drop (place + 1) rules) _ _ _ _
    (rule_next rules place c.right.result.now c.right.ensures.value) c.in_ok-push_separator.ensures
    (c.in_ok-push_equation.ensures ∙ ap (λ n. c.push_separator.new.text ++ equation c.args.universe c.args.variable.now (n, c.right.result.now)) (c.as_slice-name.ensures ∙ c.name.ensures))
    c.loop-place.invariant
