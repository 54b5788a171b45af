use Rattle.std.proofs.Common.{sym, subst}
use Rattle.std.specs.Prelude.{map, string_bytes}
use Rattle.combstruct_cli.specs.Answer.{Answer, AnswersScript}
use Rattle.combstruct_cli.specs.Outcome.{Ends, HasStatusCause}
use Rattle.combstruct_cli.proofs.AnswerLemmas.{IsAnswer-words, IsAnswer-script}
use Rattle.combstruct_cli.proofs.RunLemmas.{Ends-made, HasStatusCause-of, complete}
use Rattle.combstruct_cli.proofs.run.run.Goals as goal

pub returns-in_default-clause-answer : goal.returns-in_default-clause-answer
returns-in_default-clause-answer g c =
    λ given told answer answers.
    let out = g.O.Sink.written c.args.out.now in
    let is = IsAnswer-words (map string_bytes c.args.words.now.items) given answer (sym c.in_default.ensures) answers in
    subst (λ (a : Answer). Ends out out (g.E.Sink.written c.args.err.now) (g.E.Sink.written c.refuse_words.new.err) a c.refuse_words.result) (sym is) (c.refuse_words.ensures.answer out)

pub returns-in_default-clause-complete : goal.returns-in_default-clause-complete
returns-in_default-clause-complete g c =
    λ unfailed out_unfailed err_unfailed given told answer answers.
    let input = g.S.Source.faults c.args.input.now in
    let out = g.O.Sink.faults c.args.out.now in
    let out_bytes = g.O.Sink.written c.args.out.now in
    complete input input out out (g.E.Sink.faults c.args.err.now) (g.E.Sink.faults c.refuse_words.new.err) out_bytes out_bytes (g.E.Sink.written c.args.err.now) (g.E.Sink.written c.refuse_words.new.err)
    answer c.refuse_words.result (c.refuse_words.ensures.faults input out) (returns-in_default-clause-answer g c given told answer answers) unfailed out_unfailed err_unfailed

pub returns-in_default-clause-words_answer : goal.returns-in_default-clause-words_answer
returns-in_default-clause-words_answer g c = λ _. c.refuse_words.ensures.answer (g.O.Sink.written c.args.out.now)

pub returns-in_default-clause-faults : goal.returns-in_default-clause-faults
returns-in_default-clause-faults g c = c.refuse_words.ensures.faults (g.S.Source.faults c.args.input.now) (g.O.Sink.faults c.args.out.now)

pub returns-clause-answer : goal.returns-clause-answer
returns-clause-answer g c =
    λ given told answer answers.
    let out = g.O.Sink.written c.args.out.now in
    let out' = g.O.Sink.written c.run_input.new.out in
    let err = g.E.Sink.written c.args.err.now in
    let err' = g.E.Sink.written c.run_input.new.err in
    let texts = c.in-Some.texts in
    let runs : AnswersScript texts given answer = IsAnswer-script (map string_bytes c.args.words.now.items) texts given answer (sym c.in-Some.ensures) answers in
    subst (Ends out out' err err' answer) (sym c.status_of.ensures)
    (Ends-made out out' err err' texts given answer runs c.run_input.result (c.run_input.ensures.makes given told runs.whole runs.runs))

pub returns-clause-complete : goal.returns-clause-complete
returns-clause-complete g c =
    λ unfailed out_unfailed err_unfailed given told answer answers.
    let input = g.S.Source.faults c.args.input.now in
    let input' = g.S.Source.faults c.run_input.new.input in
    let out = g.O.Sink.faults c.args.out.now in
    let out' = g.O.Sink.faults c.run_input.new.out in
    let err = g.E.Sink.faults c.args.err.now in
    let err' = g.E.Sink.faults c.run_input.new.err in
    let faults : HasStatusCause input input' out out' err err' c.status_of.result =
    subst (HasStatusCause input input' out out' err err') (sym c.status_of.ensures) (HasStatusCause-of input input' out out' err err' c.run_input.result c.run_input.ensures.cause) in
    complete input input' out out' err err' (g.O.Sink.written c.args.out.now) (g.O.Sink.written c.run_input.new.out) (g.E.Sink.written c.args.err.now) (g.E.Sink.written c.run_input.new.err)
    answer c.status_of.result faults (returns-clause-answer g c given told answer answers) unfailed out_unfailed err_unfailed
