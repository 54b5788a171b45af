use Rattle.std.proofs.Common.{◌≡◌, List, ℕ, sym, ap, subst, ◌∙◌}
use Rattle.spec_syntax.specs.Rules.{Rules, symbol as symbol_of}
use Rattle.spec_syntax.specs.Grammar.{Grammar}
use Rattle.well_founded.specs.Checked.{grammar}
use Rattle.session.specs.declared.refusal.Refusal.{Refusal}
use Rattle.session.specs.Effect.{NumbersDo, refusing}
use Rattle.session.specs.Commands.{text_of}
use Rattle.session.proofs.ClassLemmas.{told_not_memory}
use Rattle.session.proofs.EffectsExist.{check_passes, check_refuses}
use Rattle.session.proofs.answer.answer_class.Goals as goal

pub returns-in-Ok-clause-does : goal.returns-in-Ok-clause-does
returns-in-Ok-clause-does c =
    λ texts setting whole quiet does.
    let symbol : List ℕ = c.args.symbol.now in
    let own : Grammar = record { rules = c.args.spec.now; universe = c.args.universe } in
    let numbers = check_passes (text_of texts c.args.command) own symbol c.args.size setting whole c.requires.spec c.in-Ok.ensures.passes does in
    let same : own ≡ grammar c.in-Ok.grammar = λ i. record { rules = sym c.in-Ok.ensures.rules i; universe = sym c.in-Ok.ensures.universe i } in
    let starts : c.in-Ok.grammar.start ≡ symbol_of c.in-Ok.grammar.rules symbol =
    c.in-Ok.ensures.start ∙ ap (λ (others : Rules). symbol_of others symbol) (sym c.in-Ok.ensures.rules) in
    c.answer_checked.ensures.does texts symbol setting whole quiet starts (subst (λ (g : Grammar). NumbersDo (text_of texts c.args.command) g symbol c.args.size setting whole) same numbers)

pub returns-in_ok-refusal-in-Err-clause-does : goal.returns-in_ok-refusal-in-Err-clause-does
returns-in_ok-refusal-in-Err-clause-does c =
    λ texts setting whole quiet does.
    let own : Grammar = record { rules = c.args.spec.now; universe = c.args.universe } in
    let culprit = c.in-Err.ensures.refused (told_not_memory c.in-Err.refused c.in_ok-refusal-in-Err.ensures.told) in
    check_refuses (text_of texts c.args.command) own c.args.symbol.now c.args.size setting whole c.in-Err.refused c.requires.spec culprit does
    ∙ ap (λ (why : Refusal). refusing setting why) (sym c.in_ok-refusal-in-Err.ensures.value)
