use Rattle.std.proofs.Common.{refl}
use Rattle.session.specs.Effect.{Setting, answering}
use Rattle.session.proofs.MakesLemmas.{Makes-wrote, Makes-wrote-part, cause_passed, makes_passed}
use Rattle.session.proofs.session.write_text.Goals as goal

pub returns-in_err-write_out-clause-cause : goal.returns-in_err-write_out-clause-cause
returns-in_err-write_out-clause-cause g c =
    λ err. cause_passed c.from_residual.result c.in_err-write_out.field-0.0 _ _ err err c.from_residual.ensures.1 (c.in_err-write_out.ensures.cause err)

pub returns-in_err-write_out-clause-makes : goal.returns-in_err-write_out-clause-makes
returns-in_err-write_out-clause-makes g c =
    λ line state err.
    let setting : Setting = record { is_quiet = c.args.quiet; line = line; state = state } in
    makes_passed (g.O.Sink.written c.args.out.now) (g.O.Sink.written c.write_out.new.out) err err (answering setting c.args.text.now) c.from_residual.result c.in_err-write_out.field-0.0
    c.from_residual.ensures.1
    (Makes-wrote-part (g.O.Sink.written c.args.out.now) (g.O.Sink.written c.write_out.new.out) err setting c.args.text.now c.args.text.now refl c.if-not-quiet.true
    c.in_err-write_out.field-0.0 c.in_err-write_out.ensures.part)

pub returns-in_ok-write_out-clause-makes : goal.returns-in_ok-write_out-clause-makes
returns-in_ok-write_out-clause-makes g c =
    λ line state err.
    Makes-wrote (g.O.Sink.written c.args.out.now) (g.O.Sink.written c.write_out.new.out) err (record { is_quiet = c.args.quiet; line = line; state = state })
    c.args.text.now c.args.text.now refl c.if-not-quiet.true c.in_ok-write_out.ensures.whole
