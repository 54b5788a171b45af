use Rattle.std.proofs.Common.{ℕ, List, refl}
use Rattle.session.specs.Effect.{Setting, answering, structures_text}
use Rattle.session.proofs.MakesLemmas.{Makes-wrote, Makes-wrote-part, cause_passed, makes_passed}
use Rattle.session.proofs.session.write_listing.Goals as goal

pub returns-in_err-write_members-clause-cause : goal.returns-in_err-write_members-clause-cause
returns-in_err-write_members-clause-cause g c =
    λ err. cause_passed c.from_residual.result c.in_err-write_members.field-0.0 _ _ err err c.from_residual.ensures.1 (c.in_err-write_members.ensures.cause err)

pub returns-in_err-write_members-clause-makes : goal.returns-in_err-write_members-clause-makes
returns-in_err-write_members-clause-makes g c =
    λ line state err.
    let setting : Setting = record { is_quiet = c.args.quiet; line = line; state = state } in
    let text : List ℕ = structures_text c.args.texts c.args.members.now.counts.checked.rules c.args.members.now.rest in
    makes_passed (g.O.Sink.written c.args.out.now) (g.O.Sink.written c.write_members.new.out) err err (answering setting text) c.from_residual.result c.in_err-write_members.field-0.0
    c.from_residual.ensures.1
    (Makes-wrote-part (g.O.Sink.written c.args.out.now) (g.O.Sink.written c.write_members.new.out) err setting text text refl c.if-not-quiet.true
    c.in_err-write_members.field-0.0 c.in_err-write_members.ensures.part)

pub returns-in_ok-write_members-clause-makes : goal.returns-in_ok-write_members-clause-makes
returns-in_ok-write_members-clause-makes g c =
    λ line state err.
    let text : List ℕ = structures_text c.args.texts c.args.members.now.counts.checked.rules c.args.members.now.rest in
    Makes-wrote (g.O.Sink.written c.args.out.now) (g.O.Sink.written c.write_members.new.out) err (record { is_quiet = c.args.quiet; line = line; state = state })
    text text refl c.if-not-quiet.true c.in_ok-write_members.ensures.whole
