use Rattle.std.proofs.Common.{◌≡◌, ◌≤◌, List, ℕ, Some, IfOk, length, sym, ap, subst, ◌∙◌}
use Rattle.std.proofs.lemmas.Result.{IfOk-weaker}
use Rattle.spec_syntax.specs.Rules.{Rules, rule_name, symbol as symbol_of}
use Rattle.well_founded.specs.Checked.{grammar}
use Rattle.size_counts.specs.CountedView.{Counts, FaultSays}
use Rattle.size_counts.proofs.PlaceWithin.{place_within}
use Rattle.session.specs.declared.refusal.Refusal.TheVariants as refusal
use Rattle.session.specs.Effect.{answering, refusing}
use Rattle.session.specs.Commands.{text_of, effect_of}
use Rattle.session.proofs.EffectsExist.{numbers_fit, number_too_large}
use Rattle.session.proofs.answer.answer_checked.Goals as goal

pub name-requires-clause-low : goal.name-requires-clause-low
name-requires-clause-low c =
    let checked = c.args.grammar in
    let says = subst (FaultSays (grammar checked) c.in-Some.sym c.args.size) c.in-Err-TooLarge.field-0-is (c.in-Err-TooLarge.ensures.fault c.in-Some.sym (sym c.in-Some.ensures.value)) in
    rw c.in-Err-TooLarge.field-0-is (place_within (grammar checked) c.in-Some.sym c.args.size c.in-Err-TooLarge.place says).0

pub name-requires-clause-high : goal.name-requires-clause-high
name-requires-clause-high c =
    let checked = c.args.grammar in
    let place = c.in-Err-TooLarge.place in
    let says = subst (FaultSays (grammar checked) c.in-Some.sym c.args.size) c.in-Err-TooLarge.field-0-is (c.in-Err-TooLarge.ensures.fault c.in-Some.sym (sym c.in-Some.ensures.value)) in
    rw c.in-Err-TooLarge.field-0-is
    (subst (λ (rules : Rules). place.rule ≤ length rules) c.requires.rules (place_within (grammar checked) c.in-Some.sym c.args.size place says).1)

pub returns-in-Ok-clause-does : goal.returns-in-Ok-clause-does
returns-in-Ok-clause-does c =
    λ texts symbol setting whole quiet starts numbers.
    let checked = c.args.grammar in
    let sym_is = sym c.in-Some.ensures.value in
    let found : symbol_of checked.rules symbol ≡ Some c.in-Some.sym = sym starts ∙ sym_is in
    let P : Counts → Type 0 =
    λ counts. symbol_of counts.checked.rules symbol ≡ Some c.in-Some.sym
    → IfOk c.answer_counted.result (λ answer. effect_of texts answer setting ≡ answering setting (text_of texts c.args.command (grammar counts.checked) symbol counts.size)) in
    let does = subst P c.in-Ok.ensures.counted (c.answer_counted.ensures.does texts symbol setting quiet) found in
    IfOk-weaker c.answer_counted.result _ _
    (λ answer is. numbers_fit (text_of texts c.args.command) (grammar checked) symbol c.args.size setting whole c.in-Some.sym found (c.in-Ok.ensures.fit c.in-Some.sym sym_is) numbers ∙ sym is) does

pub returns-in_ok-name-in-Err-TooLarge-clause-does : goal.returns-in_ok-name-in-Err-TooLarge-clause-does
returns-in_ok-name-in-Err-TooLarge-clause-does c =
    λ texts symbol setting whole quiet starts numbers.
    let checked = c.args.grammar in
    let place = c.in-Err-TooLarge.place in
    let sym_is = sym c.in-Some.ensures.value in
    let large = subst (FaultSays (grammar checked) c.in-Some.sym c.args.size) c.in-Err-TooLarge.field-0-is (c.in-Err-TooLarge.ensures.fault c.in-Some.sym sym_is) in
    let named : rule_name checked.rules place.rule ≡ c.in_ok-name-in-Err-TooLarge.name =
    ap (λ (rules : Rules). rule_name rules place.rule) c.requires.rules ∙ sym (c.in_ok-name-in-Err-TooLarge.ensures ∙ c.as_slice.ensures ∙ (rw c.in-Err-TooLarge.field-0-is at c.name.ensures)) in
    rw c.in-Err-TooLarge.field-0-is
    (number_too_large (text_of texts c.args.command) (grammar checked) symbol c.args.size setting whole c.in-Some.sym place (sym starts ∙ sym_is) large numbers
    ∙ ap (λ (name : List ℕ). refusing setting (refusal.TooLarge name place)) named)
