use Rattle.std.proofs.Common.{Ok, refl, ap, ◌∙◌, arith}
use Rattle.comb_io.proofs.Written.{Wrote-nil}
use Rattle.spec_reader.specs.declared.place.Place.{Place}
use Rattle.spec_reader.specs.declared.refusal.Which.TheVariants as which
use Rattle.combstruct_cli.specs.declared.run.Outcome.TheVariants.{Done}
use Rattle.session.specs.declared.refusal.Refusal.TheVariants as refusal
use Rattle.spec_reader.specs.declared.refusal.ReadRefused.TheVariants as read
use Rattle.combstruct_cli.specs.Answer.{telling, refusing_long, nothing}
use Rattle.combstruct_cli.proofs.RunLemmas.{Makes-same}
use Rattle.combstruct_cli.proofs.AnswerLemmas.{refusing_long-short, refusing_long-long}
use Rattle.combstruct_cli.proofs.run.refuse_long.Goals as goal

pub returns-then-script-le-MOST_BYTES-clause-makes : goal.returns-then-script-le-MOST_BYTES-clause-makes
returns-then-script-le-MOST_BYTES-clause-makes g c =
    λ out.
    let err = g.E.Sink.written c.args.err.now in
    Makes-same out out err err nothing (refusing_long c.args.script.now) (Ok Done) (refusing_long-short c.args.script.now c.if-script-le-MOST_BYTES.true) (Wrote-nil out err, refl)

pub returns-clause-makes : goal.returns-clause-makes
returns-clause-makes g c =
    λ out. Makes-same out out (g.E.Sink.written c.args.err.now) (g.E.Sink.written c.refuse.new.err)
    (telling c.place_further-place.result.line (refusal.Read (read.Limit which.Script))) (refusing_long c.args.script.now) c.refuse.result
    (ap (λ (place : Place). telling place.line (refusal.Read (read.Limit which.Script))) c.place_further-place.ensures.value ∙ refusing_long-long c.args.script.now (omega arith))
    (c.refuse.ensures.makes out)
