use Rattle.std.proofs.Common.{◌≡◌, ◌≤◌, ◌+◌, List, ℕ, Result, take, sym, subst, ◌∙◌, arith}
use Rattle.std.specs.List.{filter}
use Rattle.spec_reader.specs.Cutting.{pieces}
use Rattle.session.specs.Effect.{first_state}
use Rattle.combstruct_cli.specs.declared.fault.Fault.{Fault}
use Rattle.combstruct_cli.specs.declared.run.Outcome.{Outcome}
use Rattle.combstruct_cli.specs.Answer.{RunsPieces, is_early, most_bytes}
use Rattle.combstruct_cli.specs.Outcome.{HasRunCause}
use Rattle.combstruct_cli.proofs.AnswerLemmas.{taken_whole}
use Rattle.combstruct_cli.proofs.RunLemmas.{HasRunCause-after, Makes-nothing}
use Rattle.combstruct_cli.proofs.run.run_input.Goals as goal

pub returns-in-Ok-clause-makes : goal.returns-in-Ok-clause-makes
returns-in-Ok-clause-makes g c =
    λ given told whole runs.
    let script : List ℕ = c.in-Ok.script.items in
    let counts = c.in-Ok.script.ok.0 in
    let taken : script ≡ take (most_bytes + 1) given = taken_whole most_bytes given script _ _ told c.in-Ok.ensures.taken (λ short. c.in-Ok.ensures.end (subst (λ n. n ≤ most_bytes) (sym counts) short)) (subst (λ n. n ≤ most_bytes + 1) counts c.in-Ok.ensures.bound) in
    c.run_script.ensures.makes whole (subst (λ (script : List ℕ). RunsPieces script (filter is_early (pieces script)) c.args.texts first_state whole) (sym (c.deref.ensures.value ∙ taken)) runs)

pub returns-in-Ok-clause-cause : goal.returns-in-Ok-clause-cause
returns-in-Ok-clause-cause g c =
    let input' = g.S.Source.faults c.read_script.new.input in
    let out = g.O.Sink.faults c.args.out.now in
    let err = g.E.Sink.faults c.args.err.now in
    HasRunCause-after (g.S.Source.faults c.args.input.now) input' input' out out (g.O.Sink.faults c.run_script.new.out) err err (g.E.Sink.faults c.run_script.new.err)
    c.run_script.result (c.in-Ok.ensures.cause out err) (c.run_script.ensures.cause input')

-- where the script is in hand, its source isn't to blame
pub returns-in-Ok-clause-untouched : goal.returns-in-Ok-clause-untouched
returns-in-Ok-clause-untouched g c =
    λ input.
    let P : Result Outcome Fault → Type 0 =
    λ ended. HasRunCause 0 0 (g.O.Sink.faults c.args.out.now) (g.O.Sink.faults c.run_script.new.out) (g.E.Sink.faults c.args.err.now) (g.E.Sink.faults c.run_script.new.err) ended in
    let rises = (subst P input (c.run_script.ensures.cause 0)).0 in
    absurd (omega (arith, rises.rose))

pub returns-in-Err-clause-makes : goal.returns-in-Err-clause-makes
returns-in-Err-clause-makes g c =
    λ given told whole runs.
    Makes-nothing (g.O.Sink.written c.args.out.now) (g.E.Sink.written c.args.err.now) (g.S.Source.faults c.args.input.now) (g.S.Source.faults c.read_script.new.input) whole c.in-Err.fault c.in-Err.ensures.cause

pub returns-in-Err-clause-cause : goal.returns-in-Err-clause-cause
returns-in-Err-clause-cause g c = c.in-Err.ensures.cause (g.O.Sink.faults c.args.out.now) (g.E.Sink.faults c.args.err.now)
