use Rattle.std.proofs.Common.{List, ℕ, subst, arith}
use Rattle.comb_io.specs.Parts.{AppendsProperPrefix}
use Rattle.comb_io.proofs.Written.{WrotePart-fewer, WrotePart-to_err}
use Rattle.combstruct_cli.specs.Answer.{usage}
use Rattle.combstruct_cli.proofs.run.refuse_words.Goals as goal

pub returns-in-Err-Failed-clause-answer : goal.returns-in-Err-Failed-clause-answer
returns-in-Err-Failed-clause-answer g c =
    λ out.
    let err = g.E.Sink.written c.args.err.now in
    let err' = g.E.Sink.written c.write_all.new.sink in
    WrotePart-to_err out err err' usage (subst (λ (text : List ℕ). AppendsProperPrefix err err' text) c.as_bytes.ensures.value c.in-Err-Failed.ensures.part)

pub returns-in-Err-Memory-clause-answer : goal.returns-in-Err-Memory-clause-answer
returns-in-Err-Memory-clause-answer g c =
    λ out.
    let err = g.E.Sink.written c.args.err.now in
    let err' = g.E.Sink.written c.write_all.new.sink in
    WrotePart-fewer (omega arith) (WrotePart-to_err out err err' usage (subst (λ (text : List ℕ). AppendsProperPrefix err err' text) c.as_bytes.ensures.value c.in-Err-Memory.ensures.part))
