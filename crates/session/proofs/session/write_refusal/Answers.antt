use Rattle.std.proofs.Common.{◌≡◌, ◌++◌, List, ℕ, sym, ap, ◌∙◌}
use Rattle.session.specs.Refusals.{refusal_line}
use Rattle.session.specs.declared.fault.SessionFault.TheVariants as fault
use Rattle.session.proofs.MakesLemmas.{Makes-refused, Makes-refused-part}
use Rattle.session.proofs.session.write_refusal.Goals as goal

pub returns-in-Ok-clause-makes : goal.returns-in-Ok-clause-makes
returns-in-Ok-clause-makes g c =
    λ setting out in_line.
    let line : List ℕ = refusal_line c.args.line c.args.refusal.now in
    let is : c.as_slice.result.now ≡ line = c.as_slice.ensures ∙ c.in_ok-refusal_line.ensures.ok ∙ ap (λ (text : List ℕ). text ++ line) c.new-text.ensures in
    let told : c.as_slice.result.now ≡ refusal_line setting.line c.args.refusal.now = is ∙ ap (λ (n : ℕ). refusal_line n c.args.refusal.now) (sym in_line) in
    Makes-refused out (g.E.Sink.written c.args.err.now) (g.E.Sink.written c.write_all.new.sink) setting c.args.refusal.now c.as_slice.result.now told
    c.refusal_number.result c.refusal_number.ensures c.in-Ok.ensures.whole

pub returns-in-Err-Failed-clause-makes : goal.returns-in-Err-Failed-clause-makes
returns-in-Err-Failed-clause-makes g c =
    λ setting out in_line.
    let line : List ℕ = refusal_line c.args.line c.args.refusal.now in
    let is : c.as_slice.result.now ≡ line = c.as_slice.ensures ∙ c.in_ok-refusal_line.ensures.ok ∙ ap (λ (text : List ℕ). text ++ line) c.new-text.ensures in
    let told : c.as_slice.result.now ≡ refusal_line setting.line c.args.refusal.now = is ∙ ap (λ (n : ℕ). refusal_line n c.args.refusal.now) (sym in_line) in
    Makes-refused-part out (g.E.Sink.written c.args.err.now) (g.E.Sink.written c.write_all.new.sink) setting c.args.refusal.now c.as_slice.result.now told
    fault.Err c.in-Err-Failed.ensures.part

pub returns-clause-makes : goal.returns-clause-makes
returns-clause-makes g c =
    λ setting out in_line.
    let line : List ℕ = refusal_line c.args.line c.args.refusal.now in
    let is : c.as_slice.result.now ≡ line = c.as_slice.ensures ∙ c.in_ok-refusal_line.ensures.ok ∙ ap (λ (text : List ℕ). text ++ line) c.new-text.ensures in
    let told : c.as_slice.result.now ≡ refusal_line setting.line c.args.refusal.now = is ∙ ap (λ (n : ℕ). refusal_line n c.args.refusal.now) (sym in_line) in
    Makes-refused-part out (g.E.Sink.written c.args.err.now) (g.E.Sink.written c.write_all.new.sink) setting c.args.refusal.now c.as_slice.result.now told
    fault.Memory c.in-Err-Memory.ensures.part
