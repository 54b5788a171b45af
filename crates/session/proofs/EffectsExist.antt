-- Each statement that is in force has one effect.
use Rattle.std.proofs.Common.{◌≡◌, ℕ, true, List, Option, Some, None, refl, sym, subst, ◌∙◌}
use Rattle.spec_syntax.specs.declared.statement.Form.{Form}
use Rattle.spec_syntax.specs.declared.statement.Form.TheVariants as form
use Rattle.spec_syntax.specs.declared.statement.Job.{Job}
use Rattle.spec_syntax.specs.declared.statement.Job.TheVariants as job
use Rattle.spec_syntax.specs.declared.statement.ClassRef.TheVariants as class_ref
use Rattle.spec_syntax.specs.declared.statement.RulesRef.TheVariants as rules_ref
use Rattle.spec_syntax.specs.Rules.{is_spec, rule_name, symbol as symbol_of}
use Rattle.spec_syntax.specs.Grammar.{Grammar}
use Rattle.spec_syntax.proofs.RulesLemmas.{symbol-within}
use Rattle.spec_reader.specs.Laws.{JobIsInForce, JobPasses, FormIsInForce, FormKeeps}
use Rattle.well_founded.specs.declared.refused.Refused.{Refused}
use Rattle.well_founded.specs.WellFounded.{Checks}
use Rattle.well_founded.proofs.CheckExists.{says_some, says_one}
use Rattle.size_counts.specs.declared.place.Place.{Place}
use Rattle.size_counts.specs.Numbers.{NumbersSay}
use Rattle.size_counts.proofs.SaysLaws as numbers
use Rattle.struct_text.specs.declared.form.TextForm.{TextForm}
use Rattle.session.specs.declared.refusal.Refusal.TheVariants as refusal
use Rattle.session.specs.Effect.{Effect, Setting, AnswerText, NumberedDoes, NumbersDo, CheckedDoes, CheckDoes, JobDoes, FormDoes, doing_nothing, answering, refusing, listing_text, number_text}
use Rattle.session.specs.Laws.{SomeEffect, OneEffect}
use Rattle.session.proofs.ClassLemmas.{has_rule}

-- ---- some effect

some-numbered : (said : Option Place) (g : Grammar) (text : List ℕ) (setting : Setting) → (whole : Effect) × NumberedDoes said g.rules text setting whole
some-numbered None g text setting = (answering setting text, refl)
some-numbered (Some place) g text setting = (refusing setting (refusal.TooLarge (rule_name g.rules place.rule) place), refl)

some-checked : (said : Option Refused) (answer : AnswerText) (g : Grammar) (symbol : List ℕ) (size : ℕ) (setting : Setting) → is_spec g.rules ≡ true → Checks g (Some symbol) said
    → (whole : Effect) × CheckedDoes said answer g symbol size setting whole
some-checked None answer g symbol size setting keeps checks =
    let rule = has_rule g symbol checks in
    let within = symbol-within g.rules symbol rule.0 rule.1 in
    let said = numbers.says_some g rule.0 size keeps within.0 within.1 in
    let numbered = some-numbered said.0 g (answer g symbol size) setting in
    (numbered.0, record { sym = rule.0; has_rule = rule.1; said = said.0; numbers = said.1; does = numbered.1 })
some-checked (Some refused) answer g symbol size setting keeps checks = (refusing setting (refusal.Grammar refused), refl)

some-class : (answer : AnswerText) (g : Grammar) (symbol : List ℕ) (size : ℕ) (setting : Setting) → is_spec g.rules ≡ true → (whole : Effect) × CheckDoes answer g symbol size setting whole
some-class answer g symbol size setting keeps =
    let said = says_some g (Some symbol) keeps in
    let checked = some-checked said.0 answer g symbol size setting keeps said.1 in
    (checked.0, record { said = said.0; checks = said.1; does = checked.1 })

some-job : (answer : AnswerText) (work : Job) (setting : Setting) → JobIsInForce work → JobPasses is_spec work → (whole : Effect) × JobDoes answer work setting whole
some-job answer (job.Grammar (class_ref.Written symbol (rules_ref.Written rules) universe) size) setting in_force keeps =
    some-class answer (record { rules = rules; universe = universe }) symbol size setting keeps
some-job answer other setting in_force keeps = absurd in_force

some-form : (f : Form) (texts : TextForm) (setting : Setting) → FormIsInForce f → FormKeeps f → (whole : Effect) × FormDoes f texts setting whole
some-form form.Empty texts setting in_force keeps = (doing_nothing setting, refl)
some-form (form.Count work) texts setting in_force keeps = some-job number_text work setting in_force keeps
some-form (form.List work) texts setting in_force keeps = some-job (listing_text texts) work setting in_force keeps
some-form other texts setting in_force keeps = absurd in_force

pub some_effect : SomeEffect
some_effect statement line texts state in_force keeps = some-form statement.form texts (record { is_quiet = statement.quiet; line = line; state = state }) in_force keeps

-- ---- and no other

one-numbered : (said : Option Place) (g : Grammar) (text : List ℕ) (setting : Setting) (one other : Effect) → NumberedDoes said g.rules text setting one → NumberedDoes said g.rules text setting other → one ≡ other
one-numbered None g text setting one other p q = p ∙ sym q
one-numbered (Some place) g text setting one other p q = p ∙ sym q

number_same : {m n : ℕ} → Some m ≡ Some n → m ≡ n
number_same same = cc

-- the numbers of a class do one thing
pub one-numbers : (answer : AnswerText) (g : Grammar) (symbol : List ℕ) (size : ℕ) (setting : Setting) (one other : Effect)
    → NumbersDo answer g symbol size setting one → NumbersDo answer g symbol size setting other → one ≡ other
one-numbers answer g symbol size setting one other p q =
    let same_rule : p.sym ≡ q.sym = number_same (sym p.has_rule ∙ q.has_rule) in
    let own = subst (λ (n : ℕ). NumbersSay g n size p.said) same_rule p.numbers in
    let same = numbers.says_one g q.sym size p.said q.said own q.numbers in
    one-numbered q.said g (answer g symbol size) setting one other (subst (λ (said : Option Place). NumberedDoes said g.rules (answer g symbol size) setting one) same p.does) q.does

one-checked : (said : Option Refused) (answer : AnswerText) (g : Grammar) (symbol : List ℕ) (size : ℕ) (setting : Setting) (one other : Effect)
    → CheckedDoes said answer g symbol size setting one → CheckedDoes said answer g symbol size setting other → one ≡ other
one-checked None answer g symbol size setting one other p q = one-numbers answer g symbol size setting one other p q
one-checked (Some refused) answer g symbol size setting one other p q = p ∙ sym q

one-class : (answer : AnswerText) (g : Grammar) (symbol : List ℕ) (size : ℕ) (setting : Setting) (one other : Effect) → is_spec g.rules ≡ true
    → CheckDoes answer g symbol size setting one → CheckDoes answer g symbol size setting other → one ≡ other
one-class answer g symbol size setting one other keeps p q =
    let same = says_one g (Some symbol) p.said q.said keeps p.checks q.checks in
    one-checked q.said answer g symbol size setting one other (subst (λ (said : Option Refused). CheckedDoes said answer g symbol size setting one) same p.does) q.does

one-job : (answer : AnswerText) (work : Job) (setting : Setting) (one other : Effect) → JobIsInForce work → JobPasses is_spec work
    → JobDoes answer work setting one → JobDoes answer work setting other → one ≡ other
one-job answer (job.Grammar (class_ref.Written symbol (rules_ref.Written rules) universe) size) setting one other in_force keeps p q =
    one-class answer (record { rules = rules; universe = universe }) symbol size setting one other keeps p q
one-job answer other_work setting one other in_force keeps p q = absurd in_force

one-form : (f : Form) (texts : TextForm) (setting : Setting) (one other : Effect) → FormIsInForce f → FormKeeps f → FormDoes f texts setting one → FormDoes f texts setting other → one ≡ other
one-form form.Empty texts setting one other in_force keeps p q = p ∙ sym q
one-form (form.Count work) texts setting one other in_force keeps p q = one-job number_text work setting one other in_force keeps p q
one-form (form.List work) texts setting one other in_force keeps p q = one-job (listing_text texts) work setting one other in_force keeps p q
one-form other_form texts setting one other in_force keeps p q = absurd in_force

pub one_effect : OneEffect
one_effect statement line texts state one other in_force keeps p q =
    one-form statement.form texts (record { is_quiet = statement.quiet; line = line; state = state }) one other in_force keeps p q

-- ---- what is done where it is known what the check and the numbers say

-- a class whose numbers fit is answered
pub numbers_fit : (answer : AnswerText) (g : Grammar) (symbol : List ℕ) (size : ℕ) (setting : Setting) (whole : Effect) (n : ℕ) → symbol_of g.rules symbol ≡ Some n → NumbersSay g n size None
    → NumbersDo answer g symbol size setting whole → whole ≡ answering setting (answer g symbol size)
numbers_fit answer g symbol size setting whole n found fit does =
    one-numbers answer g symbol size setting whole (answering setting (answer g symbol size)) does (record { sym = n; has_rule = found; said = None; numbers = fit; does = refl })

-- and another one is refused
pub number_too_large : (answer : AnswerText) (g : Grammar) (symbol : List ℕ) (size : ℕ) (setting : Setting) (whole : Effect) (n : ℕ) (place : Place) → symbol_of g.rules symbol ≡ Some n
    → NumbersSay g n size (Some place) → NumbersDo answer g symbol size setting whole → whole ≡ refusing setting (refusal.TooLarge (rule_name g.rules place.rule) place)
number_too_large answer g symbol size setting whole n place found large does =
    one-numbers answer g symbol size setting whole (refusing setting (refusal.TooLarge (rule_name g.rules place.rule) place)) does
    (record { sym = n; has_rule = found; said = Some place; numbers = large; does = refl })

-- the numbers of a class that passes the check are looked at
pub check_passes : (answer : AnswerText) (g : Grammar) (symbol : List ℕ) (size : ℕ) (setting : Setting) (whole : Effect) → is_spec g.rules ≡ true → Checks g (Some symbol) None
    → CheckDoes answer g symbol size setting whole → NumbersDo answer g symbol size setting whole
check_passes answer g symbol size setting whole keeps passes does =
    let said = says_one g (Some symbol) does.said None keeps does.checks passes in
    subst (λ (said : Option Refused). CheckedDoes said answer g symbol size setting whole) said does.does

-- and another one is refused
pub check_refuses : (answer : AnswerText) (g : Grammar) (symbol : List ℕ) (size : ℕ) (setting : Setting) (whole : Effect) (refused : Refused) → is_spec g.rules ≡ true
    → Checks g (Some symbol) (Some refused) → CheckDoes answer g symbol size setting whole → whole ≡ refusing setting (refusal.Grammar refused)
check_refuses answer g symbol size setting whole refused keeps checks does =
    let said = says_one g (Some symbol) does.said (Some refused) keeps does.checks checks in
    subst (λ (said : Option Refused). CheckedDoes said answer g symbol size setting whole) said does.does
