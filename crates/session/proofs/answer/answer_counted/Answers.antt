use Rattle.std.proofs.Common.{◌≡◌, ◌++◌, ℕ, codes, decimal, sym, ap, subst, ◌∙◌}
use Rattle.well_founded.specs.Checked.{Checked, grammar}
use Rattle.session.specs.declared.answer.Command.{Command}
use Rattle.session.specs.Commands.{text_of}
use Rattle.session.specs.Effect.{answering, structures_text}
use Rattle.session.proofs.ClassLemmas.{text_counted, text_listed}
use Rattle.session.proofs.answer.answer_counted.Goals as goal

pub returns-in_ok-text-in-Count-clause-does : goal.returns-in_ok-text-in-Count-clause-does
returns-in_ok-text-in-Count-clause-does c =
    λ texts symbol setting quiet found.
    let counted = c.args.counted in
    let Q : Command → Type 0 = λ command. answering setting c.in_ok-text-in-Count.text ≡ answering setting (text_of texts command (grammar counted.checked) symbol counted.size) in
    subst Q (sym c.in-Count.is)
    (ap (answering setting)
    (c.in_ok-text-in-Count.ensures ∙ ap (λ (n : ℕ). decimal n ++ codes "\n") (c.count.ensures c.args.sym c.requires.start) ∙ text_counted counted.checked symbol c.args.sym counted.size found))

pub returns-in_ok-members-in-List-2-clause-does : goal.returns-in_ok-members-in-List-2-clause-does
returns-in_ok-members-in-List-2-clause-does c =
    λ texts symbol setting quiet found.
    let counted = c.args.counted in
    let members = c.in_ok-members-in-List-2.members in
    let Q : Command → Type 0 = λ command. answering setting (structures_text texts members.counts.checked.rules members.rest) ≡ answering setting (text_of texts command (grammar counted.checked) symbol counted.size) in
    let same : members.counts.checked ≡ counted.checked = ap (λ counts. counts.checked) c.in_ok-members-in-List-2.ensures.counts in
    subst Q (sym c.in-List-2.is)
    (ap (answering setting)
    (ap (λ (checked : Checked). structures_text texts checked.rules members.rest) same ∙ ap (structures_text texts counted.checked.rules) (c.in_ok-members-in-List-2.ensures.rest c.args.sym c.requires.start)
    ∙ text_listed texts counted.checked symbol c.args.sym counted.size found))
