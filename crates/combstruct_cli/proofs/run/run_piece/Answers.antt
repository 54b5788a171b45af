use Rattle.std.proofs.Common.{Result, Ok, Err, sym, ap, subst}
use Rattle.spec_syntax.specs.declared.statement.Statement.{Statement}
use Rattle.spec_reader.specs.declared.refusal.ReadRefused.{ReadRefused}
use Rattle.spec_reader.proofs.InForce.{readings-in-force}
use Rattle.spec_reader.proofs.Keeps.{readings-keep}
use Rattle.spec_reader.proofs.Small.{readings-small}
use Rattle.session.specs.Effect.{Effect}
use Rattle.combstruct_cli.specs.Answer.{Part, PieceDoes, part_of}
use Rattle.combstruct_cli.specs.Outcome.{Makes}
use Rattle.combstruct_cli.proofs.ReadingLemmas.{answers_same, fault_of_reading, memory_or_not, where_ok}
use Rattle.combstruct_cli.proofs.run.run_piece.Goals as goal

pub run_statement-requires : goal.run_statement-requires
run_statement-requires g c =
    let piece = c.args.piece.now in
    record {
      live = c.requires.live;
      in_force = readings-in-force piece c.in-Ok.statement c.in-Ok.ensures.read;
      small = readings-small piece c.in-Ok.statement c.in-Ok.ensures.read;
      keeps = readings-keep piece c.in-Ok.statement c.in-Ok.ensures.read;
    }

pub returns-in-Ok-clause-makes : goal.returns-in-Ok-clause-makes
returns-in-Ok-clause-makes g c =
    λ reading effect answers does.
    let P : Result Statement ReadRefused → Type 0 = λ r. PieceDoes r c.args.place.line c.args.session.now.texts c.args.session.now.state effect in
    c.run_statement.ensures.makes effect
    (subst P (sym (answers_same c.args.place c.args.piece.now (Ok c.in-Ok.statement) reading c.in-Ok.ensures.read answers)) does)

pub returns-in-Ok-clause-state : goal.returns-in-Ok-clause-state
returns-in-Ok-clause-state g c =
    λ reading effect answers does.
    let P : Result Statement ReadRefused → Type 0 = λ r. PieceDoes r c.args.place.line c.args.session.now.texts c.args.session.now.state effect in
    c.run_statement.ensures.state effect
    (subst P (sym (answers_same c.args.place c.args.piece.now (Ok c.in-Ok.statement) reading c.in-Ok.ensures.read answers)) does)

pub returns-in-Err-clause-makes : goal.returns-in-Err-clause-makes
returns-in-Err-clause-makes g c =
    λ reading effect answers does.
    let out = g.O.Sink.written c.args.out.now in
    let err = g.E.Sink.written c.args.err.now in
    let err' = g.E.Sink.written c.refuse_reading.new.err in
    let P : Result Statement ReadRefused → Type 0 = λ r. PieceDoes r c.args.place.line c.args.session.now.texts c.args.session.now.state effect in
    memory_or_not c.in-Err.refused (Makes out out err err' (part_of effect) c.refuse_reading.result)
    (λ memory. c.refuse_reading.ensures.memory memory (part_of effect) out)
    (λ other.
    let fault = fault_of_reading c.args.place c.args.piece.now c.in-Err.refused c.in-Err.ensures.refused other in
    let told = subst P (sym (answers_same c.args.place c.args.piece.now (Err c.in-Err.refused) reading fault answers)) does in
    subst (λ (part : Part). Makes out out err err' part c.refuse_reading.result) (sym (ap part_of told)) (c.refuse_reading.ensures.makes other out))

pub returns-in-Err-clause-state : goal.returns-in-Err-clause-state
returns-in-Err-clause-state g c =
    λ reading effect answers does.
    let P : Result Statement ReadRefused → Type 0 = λ r. PieceDoes r c.args.place.line c.args.session.now.texts c.args.session.now.state effect in
    where_ok c.refuse_reading.result (λ other.
    let fault = fault_of_reading c.args.place c.args.piece.now c.in-Err.refused c.in-Err.ensures.refused other in
    let told = subst P (sym (answers_same c.args.place c.args.piece.now (Err c.in-Err.refused) reading fault answers)) does in
    sym (ap (λ (e : Effect). e.next) told)) c.refuse_reading.ensures.told

pub returns-in-Err-clause-cause : goal.returns-in-Err-clause-cause
returns-in-Err-clause-cause g c = λ input. c.refuse_reading.ensures.cause input (g.O.Sink.faults c.args.out.now)
