use Rattle.std.proofs.Common.{◌≡◌, ◌≤◌, ℕ, List, Option, Ok, Err, length, refl, sym, subst, ◌∙◌, arith}
use Rattle.std.specs.Prelude.{IfSome}
use Rattle.struct_text.specs.declared.form.TextForm.{TextForm}
use Rattle.session.specs.Effect.{State, first_state}
use Rattle.combstruct_cli.specs.declared.run.Outcome.{Outcome}
use Rattle.combstruct_cli.specs.declared.run.Outcome.TheVariants.{Done}
use Rattle.combstruct_cli.specs.declared.run.Ran.{Ran}
use Rattle.combstruct_cli.specs.Answer.{place_in}
use Rattle.combstruct_cli.specs.Outcome.{Makes}
use Rattle.combstruct_cli.specs.Steps.{Did, RunsNext}
use Rattle.combstruct_cli.proofs.RunLemmas.{HasRunCause-after}
use Rattle.combstruct_cli.proofs.StepLemmas.{did_nothing, did_more, did_fail, did_end, did_end_fail}
use Rattle.combstruct_cli.proofs.run.run_script.Goals as goal

pub loop-ran-init : goal.loop-ran-init
loop-ran-init g c =
    let script : List ℕ = c.args.script.now in
    let out = g.O.Sink.written c.args.out.now in
    let err = g.E.Sink.written c.args.err.now in (
      λ whole runs.
          subst (λ (t : TextForm). Did script 0 t c.in_ok-session.session.state out out err err whole Done) (sym c.in_ok-session.ensures.texts)
          (subst (λ (s : State). Did script 0 c.args.texts s out out err err whole Done) (sym c.in_ok-session.ensures.state) (did_nothing script c.args.texts first_state out err whole runs)),
      c.in_ok-session.ensures.live,
      omega arith,
      omega arith,
      refl,
      refl,
      refl,
    )

pub loop-ran-preserved : goal.loop-ran-preserved
loop-ran-preserved g c =
    let script : List ℕ = c.args.script.now in
    let inv = c.loop-ran.invariant in
    let ran = c.in-Ok-Some.ran in
    let is = c.in-Ok-Some.field-0-is in
    let out = g.O.Sink.written c.args.out.now in
    let mid = g.O.Sink.written c.loop-ran.out in
    let out' = g.O.Sink.written c.run_next.new.out in
    let err = g.E.Sink.written c.args.err.now in
    let mid_err = g.E.Sink.written c.loop-ran.err in
    let err' = g.E.Sink.written c.run_next.new.err in
    let texts' = c.run_next.new.session.texts in
    let state' = c.run_next.new.session.state in
    let cause = c.in-Ok-Some.ensures.cause 0 in (
      λ whole runs.
          subst (λ (o : Outcome). Did script ran.at texts' state' out out' err err' whole o) (sym c.or-outcome.ensures)
          (did_more script c.loop-ran.at c.loop-ran.session.texts c.loop-ran.session.state out mid out' err mid_err err' whole c.loop-ran.outcome (inv.0 whole runs) ran.at texts' state' ran.outcome
          (λ rest left. subst (λ (found : Option Ran). RunsNext script texts' state' mid out' mid_err err' rest (Ok found)) is (c.in-Ok-Some.ensures.makes rest left))),
      c.in-Ok-Some.ensures.live,
      subst (λ (found : Option Ran). IfSome found (λ ran. ran.at ≤ length script)) is c.in-Ok-Some.ensures.within,
      subst (λ (found : Option Ran). IfSome found (λ ran. ran.at ≤ 16777216)) is c.in-Ok-Some.ensures.bound,
      subst (λ (found : Option Ran). IfSome found (λ ran. ran.place ≡ place_in script ran.at)) is c.in-Ok-Some.ensures.placed,
      cause.1 ∙ inv.5,
      cause.2 ∙ inv.6,
    )

pub returns-in-Err-clause-cause : goal.returns-in-Err-clause-cause
returns-in-Err-clause-cause g c =
    λ input.
    let inv = c.loop-ran.invariant in
    HasRunCause-after {A = Outcome} input input input (g.O.Sink.faults c.args.out.now) (g.O.Sink.faults c.loop-ran.out) (g.O.Sink.faults c.run_next.new.out)
    (g.E.Sink.faults c.args.err.now) (g.E.Sink.faults c.loop-ran.err) (g.E.Sink.faults c.run_next.new.err) (Err c.in-Err.fault) (refl, inv.5, inv.6) (c.in-Err.ensures.cause input)

pub returns-in-Err-clause-makes : goal.returns-in-Err-clause-makes
returns-in-Err-clause-makes g c =
    λ whole runs.
    did_fail c.args.script.now c.loop-ran.at c.loop-ran.session.texts c.loop-ran.session.state (g.O.Sink.written c.args.out.now) (g.O.Sink.written c.loop-ran.out) (g.O.Sink.written c.run_next.new.out)
    (g.E.Sink.written c.args.err.now) (g.E.Sink.written c.loop-ran.err) (g.E.Sink.written c.run_next.new.err) whole c.loop-ran.outcome (c.loop-ran.invariant.0 whole runs) c.in-Err.fault c.in-Err.ensures.makes

pub returns-in-Ok-clause-cause : goal.returns-in-Ok-clause-cause
returns-in-Ok-clause-cause g c =
    λ input.
    let inv = c.loop-ran.invariant in
    let next = c.in-Ok-None.ensures.cause input in
    let end = c.in-Ok.ensures.cause input (g.O.Sink.faults c.run_next.new.out) in
    (refl, next.1 ∙ inv.5, end.2 ∙ next.2 ∙ inv.6)

pub returns-in-Ok-clause-makes : goal.returns-in-Ok-clause-makes
returns-in-Ok-clause-makes g c =
    λ whole runs.
    let script : List ℕ = c.args.script.now in
    let out = g.O.Sink.written c.args.out.now in
    let mid = g.O.Sink.written c.loop-ran.out in
    let out' = g.O.Sink.written c.run_next.new.out in
    let err = g.E.Sink.written c.args.err.now in
    let mid_err = g.E.Sink.written c.loop-ran.err in
    let err' = g.E.Sink.written c.run_next.new.err in
    let err'' = g.E.Sink.written c.refuse_long.new.err in
    let texts' = c.run_next.new.session.texts in
    let state' = c.run_next.new.session.state in
    let Told : Outcome → Type 0 = λ o. Makes out out' err err'' whole (Ok o) in
    subst Told (sym c.or.ensures)
    (did_end script c.loop-ran.at c.loop-ran.session.texts c.loop-ran.session.state out mid out' err mid_err err' whole c.loop-ran.outcome (c.loop-ran.invariant.0 whole runs)
    (λ rest left. subst (λ (found : Option Ran). RunsNext script texts' state' mid out' mid_err err' rest (Ok found)) c.in-Ok-None.field-0-is (c.in-Ok-None.ensures.makes rest left))
    out' err'' c.in-Ok.ended (c.in-Ok.ensures.makes out'))

pub returns-in-Err-refuse_long-clause-cause : goal.returns-in-Err-refuse_long-clause-cause
returns-in-Err-refuse_long-clause-cause g c =
    λ input.
    let inv = c.loop-ran.invariant in
    let next = c.in-Ok-None.ensures.cause input in
    let out' = g.O.Sink.faults c.run_next.new.out in
    HasRunCause-after {A = Outcome} input input input (g.O.Sink.faults c.args.out.now) out' out' (g.E.Sink.faults c.args.err.now) (g.E.Sink.faults c.run_next.new.err) (g.E.Sink.faults c.refuse_long.new.err)
    (Err c.in-Err-refuse_long.fault) (refl, next.1 ∙ inv.5, next.2 ∙ inv.6) (c.in-Err-refuse_long.ensures.cause input out')

pub returns-in-Err-refuse_long-clause-makes : goal.returns-in-Err-refuse_long-clause-makes
returns-in-Err-refuse_long-clause-makes g c =
    λ whole runs.
    let script : List ℕ = c.args.script.now in
    let out = g.O.Sink.written c.args.out.now in
    let mid = g.O.Sink.written c.loop-ran.out in
    let out' = g.O.Sink.written c.run_next.new.out in
    let err = g.E.Sink.written c.args.err.now in
    let mid_err = g.E.Sink.written c.loop-ran.err in
    let err' = g.E.Sink.written c.run_next.new.err in
    let texts' = c.run_next.new.session.texts in
    let state' = c.run_next.new.session.state in
    did_end_fail script c.loop-ran.at c.loop-ran.session.texts c.loop-ran.session.state out mid out' err mid_err err' whole c.loop-ran.outcome (c.loop-ran.invariant.0 whole runs)
    (λ rest left. subst (λ (found : Option Ran). RunsNext script texts' state' mid out' mid_err err' rest (Ok found)) c.in-Ok-None.field-0-is (c.in-Ok-None.ensures.makes rest left))
    out' (g.E.Sink.written c.refuse_long.new.err) c.in-Err-refuse_long.fault (c.in-Err-refuse_long.ensures.makes out')
