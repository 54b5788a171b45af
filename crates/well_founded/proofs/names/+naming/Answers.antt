use Rattle.std.proofs.Common.{◌≡◌, ◌≤◌, ◌+◌, drop, find, Option, List, ℕ, sym, ap, subst, ◌∙◌, arith}
use Rattle.std.specs.Option.{option_or}
use Rattle.spec_syntax.specs.Expression.{Expression, Union, Prod, nodes, nodes_of_all, expressions_of}
use Rattle.spec_syntax.specs.ExpressionView.{expression_of}
use Rattle.spec_syntax.proofs.NodeSteps.{nodes_of_one}
use Rattle.well_founded.specs.Names.{used_names}
use Rattle.well_founded.specs.UsedNames.{lacks_rule, used_in_all}
use Rattle.well_founded.proofs.UsedNamesLaws.{used_in-arguments, find-used_in_all}
use Rattle.well_founded.proofs.names.+naming.Goals as goal

pub first_name-returns-in-Union : goal.first_name-returns-in-Union
first_name-returns-in-Union t c =
    let wanted = lacks_rule c.args.spec.now in
    let is : Union (expressions_of c.as_slice.result.now) ≡ c.args.expr.now =
    ap (λ (es : List Expression). Union (expressions_of es)) c.as_slice.ensures ∙ ap expression_of (sym c.in-Union.is) ∙ c.expr.view_is in
    c.first_name_of.ensures ∙ ap (find wanted) (sym (used_in-arguments c.as_slice.result.now)) ∙ ap (λ e. find wanted (used_names e)) is

pub first_name-returns-in-Prod : goal.first_name-returns-in-Prod
first_name-returns-in-Prod t c =
    let wanted = lacks_rule c.args.spec.now in
    let is : Prod (expressions_of c.as_slice-in-Prod.result.now) ≡ c.args.expr.now =
    ap (λ (es : List Expression). Prod (expressions_of es)) c.as_slice-in-Prod.ensures ∙ ap expression_of (sym c.in-Prod.is) ∙ c.expr.view_is in
    c.first_name_of-in-Prod.ensures ∙ ap (find wanted) (sym (used_in-arguments c.as_slice-in-Prod.result.now)) ∙ ap (λ e. find wanted (used_names e)) is

pub first_name_of-first_name-requires : goal.first_name_of-first_name-requires
first_name_of-first_name-requires t c =
    let small : nodes c.expr-item.result ≤ nodes_of_all (expressions_of c.args.exprs.now) =
    nodes_of_one c.args.exprs.now c.loop-expr.expr-index c.expr-item.result c.loop-expr-test.true c.expr-item.is in
    (omega (arith, c.decreases, small), tt)

pub first_name_of-returns-in-Some : goal.first_name_of-returns-in-Some
first_name_of-returns-in-Some t c =
    let wanted = lacks_rule c.args.spec.now in
    let rest : Option (List ℕ) = find wanted (used_in_all (drop (c.loop-expr.expr-index + 1) c.args.exprs.now)) in
    ap (λ found. option_or found rest) c.in-Some.ensures
    ∙ sym (c.loop-expr.invariant ∙ find-used_in_all wanted c.args.exprs.now c.loop-expr.expr-index c.expr-item.result c.loop-expr-test.true c.expr-item.is)

pub first_name_of-loop-expr-preserved : goal.first_name_of-loop-expr-preserved
first_name_of-loop-expr-preserved t c =
    let wanted = lacks_rule c.args.spec.now in
    let rest : Option (List ℕ) = find wanted (used_in_all (drop (c.loop-expr.expr-index + 1) c.args.exprs.now)) in
    c.loop-expr.invariant ∙ find-used_in_all wanted c.args.exprs.now c.loop-expr.expr-index c.expr-item.result c.loop-expr-test.true c.expr-item.is
    ∙ ap (λ found. option_or found rest) (sym c.in_default.ensures)
