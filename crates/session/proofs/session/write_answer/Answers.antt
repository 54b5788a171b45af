use Rattle.std.proofs.Common.{refl, sym, subst}
use Rattle.session.specs.declared.answer.Answer.{Answer}
use Rattle.session.specs.Effect.{Setting}
use Rattle.session.specs.Ending.{Makes}
use Rattle.session.specs.Commands.{effect_of}
use Rattle.session.proofs.session.write_answer.Goals as goal

pub returns-in-Text-clause-cause : goal.returns-in-Text-clause-cause
returns-in-Text-clause-cause g c = c.write_text.ensures.cause (g.E.Sink.faults c.args.err.now)

pub returns-in-Text-clause-makes : goal.returns-in-Text-clause-makes
returns-in-Text-clause-makes g c =
    λ state.
    let err = g.E.Sink.written c.args.err.now in
    let setting : Setting = record { is_quiet = c.args.quiet; line = c.args.line; state = state } in
    let Q : Answer → Type 0 = λ answer. Makes (g.O.Sink.written c.args.out.now) (g.O.Sink.written c.write_text.new.out) err err (effect_of c.args.texts answer setting) c.write_text.result in
    subst Q (sym c.in-Text.is) (c.write_text.ensures.makes c.args.line state err)

pub returns-in-Members-clause-cause : goal.returns-in-Members-clause-cause
returns-in-Members-clause-cause g c = c.write_listing.ensures.cause (g.E.Sink.faults c.args.err.now)

pub returns-in-Members-clause-makes : goal.returns-in-Members-clause-makes
returns-in-Members-clause-makes g c =
    λ state.
    let err = g.E.Sink.written c.args.err.now in
    let setting : Setting = record { is_quiet = c.args.quiet; line = c.args.line; state = state } in
    let Q : Answer → Type 0 = λ answer. Makes (g.O.Sink.written c.args.out.now) (g.O.Sink.written c.write_listing.new.out) err err (effect_of c.args.texts answer setting) c.write_listing.result in
    subst Q (sym c.in-Members.is) (c.write_listing.ensures.makes c.args.line state err)

pub returns-in-Refused-clause-cause : goal.returns-in-Refused-clause-cause
returns-in-Refused-clause-cause g c = c.write_refusal.ensures.cause (g.O.Sink.faults c.args.out.now)

pub returns-in-Refused-clause-makes : goal.returns-in-Refused-clause-makes
returns-in-Refused-clause-makes g c =
    λ state.
    let out = g.O.Sink.written c.args.out.now in
    let setting : Setting = record { is_quiet = c.args.quiet; line = c.args.line; state = state } in
    let Q : Answer → Type 0 = λ answer. Makes out out (g.E.Sink.written c.args.err.now) (g.E.Sink.written c.write_refusal.new.err) (effect_of c.args.texts answer setting) c.write_refusal.result in
    subst Q (sym c.in-Refused.is) (c.write_refusal.ensures.makes setting out refl)
