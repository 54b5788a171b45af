use Rattle.std.proofs.Common.{refl, sym}
use Rattle.session.specs.Effect.{Setting}
use Rattle.session.specs.Commands.{effect_of}
use Rattle.session.proofs.MakesLemmas.{Makes-same}
use Rattle.session.proofs.session.run.Goals as goal

pub returns-clause-makes : goal.returns-clause-makes
returns-clause-makes g c =
    λ state whole does.
    let statement = c.args.statement.now in
    let setting : Setting = record { is_quiet = statement.quiet; line = c.args.line; state = state } in
    Makes-same (g.O.Sink.written c.args.out.now) (g.O.Sink.written c.write_answer.new.out) (g.E.Sink.written c.args.err.now) (g.E.Sink.written c.write_answer.new.err)
    (effect_of c.args.texts c.in_ok-answer.answer setting) whole c.write_answer.result (sym (c.in_ok-answer.ensures.does c.args.texts setting whole refl does)) (c.write_answer.ensures.makes state)
