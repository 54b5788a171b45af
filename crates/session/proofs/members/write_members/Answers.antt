use Rattle.std.proofs.Common.{◌++◌, ℕ, List, codes, subst}
use Rattle.std.specs.Io.KnownBytes.{Appends}
use Rattle.std.proofs.lemmas.Result.{on_ok_weaker, IfErr-weaker}
use Rattle.comb_io.specs.Parts.{AppendsBefore, AppendsPart}
use Rattle.comb_io.proofs.Parts.{AppendsBefore-append, AppendsBefore-last, AppendsBefore-part, AppendsPart-append}
use Rattle.session.specs.Ending.{unwritten_by, HasStepCause}
use Rattle.session.proofs.MakesLemmas.{cause_passed, part_passed, part_so_far}
use Rattle.session.proofs.MemberTexts.{line_is, counts_kept}
use Rattle.session.proofs.members.write_members.Goals as goal

pub returns-in_err-text-2-clause-part : goal.returns-in_err-text-2-clause-part
returns-in_err-text-2-clause-part g c =
    let whole = counts_kept c.args.texts c.args.members.now.counts c.push_member.new.members.counts c.push_member.new.members.rest c.push_member.new.text c.push_member.ensures.counts
    (line_is c.args.texts c.args.members.now.counts.checked.rules c.args.members.now.rest c.push_member.new.members.rest c.in_ok-text.text c.push_member.new.text c.in_ok-push_member.field-0
    c.in_ok-push_member.ensures.puts c.in_ok-text.ensures) in
    let unwritten = unwritten_by c.in_err-text-2.field-0.0 in
    part_passed c.from_residual-in_err-text-2.result c.in_err-text-2.field-0.0 (g.O.Sink.written c.args.out.now) (g.O.Sink.written c.write_later.new.out) _ c.from_residual-in_err-text-2.ensures.1
    (subst (AppendsPart unwritten (g.O.Sink.written c.args.out.now) (g.O.Sink.written c.write_later.new.out)) whole
    (AppendsPart-append unwritten (g.O.Sink.written c.args.out.now) (g.O.Sink.written c.write_later.new.out) _ (codes "]\n") c.in_err-text-2.ensures.part))

pub returns-in_err-text-2-clause-cause : goal.returns-in_err-text-2-clause-cause
returns-in_err-text-2-clause-cause g c =
    λ err. cause_passed c.from_residual-in_err-text-2.result c.in_err-text-2.field-0.0 (g.O.Sink.faults c.args.out.now) (g.O.Sink.faults c.write_later.new.out) err err c.from_residual-in_err-text-2.ensures.1 (c.in_err-text-2.ensures.cause err)

pub returns-in_err-extend_from_slice-clause-part : goal.returns-in_err-extend_from_slice-clause-part
returns-in_err-extend_from_slice-clause-part g c =
    let whole = counts_kept c.args.texts c.args.members.now.counts c.push_member.new.members.counts c.push_member.new.members.rest c.push_member.new.text c.push_member.ensures.counts
    (line_is c.args.texts c.args.members.now.counts.checked.rules c.args.members.now.rest c.push_member.new.members.rest c.in_ok-text.text c.push_member.new.text c.in_ok-push_member.field-0
    c.in_ok-push_member.ensures.puts c.in_ok-text.ensures) in
    let old = g.O.Sink.written c.args.out.now in
    let mid = g.O.Sink.written c.write_later.new.out in
    part_so_far c.from_residual-in_err-extend_from_slice.result old mid _ (c.in_ok-text-2.text ++ codes "]\n") c.from_residual-in_err-extend_from_slice.ensures.1
    (subst (λ (l : List ℕ). AppendsBefore old mid l (c.in_ok-text-2.text ++ codes "]\n")) whole (AppendsBefore-append old mid _ c.in_ok-text-2.text (codes "]\n") c.in_ok-text-2.ensures.whole))

pub returns-in_err-extend_from_slice-clause-cause : goal.returns-in_err-extend_from_slice-clause-cause
returns-in_err-extend_from_slice-clause-cause g c =
    λ err. cause_passed c.from_residual-in_err-extend_from_slice.result _ (g.O.Sink.faults c.args.out.now) (g.O.Sink.faults c.write_later.new.out) err err c.from_residual-in_err-extend_from_slice.ensures.1
    (c.in_ok-text-2.ensures.cause err)

pub returns-clause-whole : goal.returns-clause-whole
returns-clause-whole g c =
    let whole = counts_kept c.args.texts c.args.members.now.counts c.push_member.new.members.counts c.push_member.new.members.rest c.push_member.new.text c.push_member.ensures.counts
    (line_is c.args.texts c.args.members.now.counts.checked.rules c.args.members.now.rest c.push_member.new.members.rest c.in_ok-text.text c.push_member.new.text c.in_ok-push_member.field-0
    c.in_ok-push_member.ensures.puts c.in_ok-text.ensures) in
    let old = g.O.Sink.written c.args.out.now in
    let mid = g.O.Sink.written c.write_later.new.out in
    let new = g.O.Sink.written c.write_out.new.out in
    let so_far = subst (λ (l : List ℕ). AppendsBefore old mid l (c.in_ok-text-2.text ++ codes "]\n")) whole (AppendsBefore-append old mid _ c.in_ok-text-2.text (codes "]\n") c.in_ok-text-2.ensures.whole) in
    on_ok_weaker c.write_out.result (λ last. AppendsBefore-last old mid new _ (c.in_ok-text-2.text ++ codes "]\n") so_far (subst (Appends mid new) c.in_ok-extend_from_slice.ensures.ok last)) c.write_out.ensures.whole

pub returns-clause-part : goal.returns-clause-part
returns-clause-part g c =
    let whole = counts_kept c.args.texts c.args.members.now.counts c.push_member.new.members.counts c.push_member.new.members.rest c.push_member.new.text c.push_member.ensures.counts
    (line_is c.args.texts c.args.members.now.counts.checked.rules c.args.members.now.rest c.push_member.new.members.rest c.in_ok-text.text c.push_member.new.text c.in_ok-push_member.field-0
    c.in_ok-push_member.ensures.puts c.in_ok-text.ensures) in
    let old = g.O.Sink.written c.args.out.now in
    let mid = g.O.Sink.written c.write_later.new.out in
    let new = g.O.Sink.written c.write_out.new.out in
    let so_far = subst (λ (l : List ℕ). AppendsBefore old mid l (c.in_ok-text-2.text ++ codes "]\n")) whole (AppendsBefore-append old mid _ c.in_ok-text-2.text (codes "]\n") c.in_ok-text-2.ensures.whole) in
    IfErr-weaker c.write_out.result _ _
    (λ fault part. AppendsBefore-part (unwritten_by fault) old mid new _ (c.in_ok-text-2.text ++ codes "]\n") so_far (subst (AppendsPart (unwritten_by fault) mid new) c.in_ok-extend_from_slice.ensures.ok part))
    c.write_out.ensures.part

pub returns-clause-cause : goal.returns-clause-cause
returns-clause-cause g c =
    λ err. subst (λ (n : ℕ). HasStepCause n (g.O.Sink.faults c.write_out.new.out) err err c.write_out.result) (c.in_ok-text-2.ensures.cause 0).0 (c.write_out.ensures.cause err)
