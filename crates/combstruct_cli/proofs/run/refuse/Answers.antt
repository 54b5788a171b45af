use Rattle.std.proofs.Common.{◌≡◌, ◌++◌, List, ℕ, ap, ◌∙◌}
use Rattle.session.specs.Refusals.{refusal_line}
use Rattle.combstruct_cli.specs.declared.fault.Fault.TheVariants.{Errors, Memory}
use Rattle.combstruct_cli.proofs.RunLemmas.{Makes-refused, Makes-refused-part}
use Rattle.combstruct_cli.proofs.run.refuse.Goals as goal

pub returns-in-Ok-clause-makes : goal.returns-in-Ok-clause-makes
returns-in-Ok-clause-makes g c =
    let line : List ℕ = refusal_line c.args.line c.args.refusal.now in
    let is : c.as_slice.result.now ≡ line = c.as_slice.ensures ∙ c.in_ok-refusal_line.ensures.ok ∙ ap (λ (text : List ℕ). text ++ line) c.new-text.ensures in
    λ out. Makes-refused out out (g.E.Sink.written c.args.err.now) (g.E.Sink.written c.write_all.new.sink) c.as_slice.result.now c.args.line c.args.refusal.now c.in-Ok.ensures.whole is

pub returns-in-Err-Failed-clause-makes : goal.returns-in-Err-Failed-clause-makes
returns-in-Err-Failed-clause-makes g c =
    let line : List ℕ = refusal_line c.args.line c.args.refusal.now in
    let is : c.as_slice.result.now ≡ line = c.as_slice.ensures ∙ c.in_ok-refusal_line.ensures.ok ∙ ap (λ (text : List ℕ). text ++ line) c.new-text.ensures in
    λ out. Makes-refused-part out out (g.E.Sink.written c.args.err.now) (g.E.Sink.written c.write_all.new.sink) c.as_slice.result.now c.args.line c.args.refusal.now Errors c.in-Err-Failed.ensures.part is

pub returns-clause-makes : goal.returns-clause-makes
returns-clause-makes g c =
    let line : List ℕ = refusal_line c.args.line c.args.refusal.now in
    let is : c.as_slice.result.now ≡ line = c.as_slice.ensures ∙ c.in_ok-refusal_line.ensures.ok ∙ ap (λ (text : List ℕ). text ++ line) c.new-text.ensures in
    λ out. Makes-refused-part out out (g.E.Sink.written c.args.err.now) (g.E.Sink.written c.write_all.new.sink) c.as_slice.result.now c.args.line c.args.refusal.now Memory c.in-Err-Memory.ensures.part is
