use Rattle.std.proofs.Common.{◌++◌, ℕ, sym, subst, ◌∙◌}
use Rattle.comb_io.specs.Parts.{AppendsBefore}
use Rattle.struct_model.specs.Structure.{parts_of}
use Rattle.struct_text.specs.Text.{others_text}
use Rattle.size_counts.specs.CountedView.{Counts}
use Rattle.session.specs.Ending.{Blames}
use Rattle.session.proofs.MakesLemmas.{cause_passed, part_so_far, part_behind}
use Rattle.session.proofs.MemberTexts.{member_behind, held_further, some_left}
use Rattle.session.proofs.members.write_later.Goals as goal

pub returns-in_err-extend_from_slice-clause-part : goal.returns-in_err-extend_from_slice-clause-part
returns-in_err-extend_from_slice-clause-part g c = part_so_far c.from_residual.result _ _ _ _ c.from_residual.ensures.1 c.loop-alloc.invariant.written

pub returns-in_err-push_member-clause-part : goal.returns-in_err-push_member-clause-part
returns-in_err-push_member-clause-part g c = part_so_far c.from_residual-in_err-push_member.result _ _ _ _ c.from_residual-in_err-push_member.ensures.1 c.loop-alloc.invariant.written

pub returns-in_err-text-clause-part : goal.returns-in_err-text-clause-part
returns-in_err-text-clause-part g c =
    let rules = c.loop-alloc.members.counts.checked.rules in
    let behind = member_behind c.args.texts rules c.loop-alloc.members.rest c.push_member.new.members.rest c.loop-alloc.text c.extend_from_slice.new.self c.push_member.new.text c.in_ok-push_member.field-0
    c.in_ok-push_member.ensures.puts c.in_ok-extend_from_slice.ensures.ok (some_left c.finished.result c.loop-alloc.members.rest c.finished.ensures c.loop-alloc-test.true) in
    part_behind c.from_residual-in_err-text.result c.in_err-text.field-0.0 (g.O.Sink.written c.args.out.now) (g.O.Sink.written c.loop-alloc.out) (g.O.Sink.written c.write_long.new.out) _ _
    c.push_member.new.text (others_text c.args.texts rules (parts_of c.push_member.new.members.rest)) c.from_residual-in_err-text.ensures.1 c.loop-alloc.invariant.written behind c.in_err-text.ensures.part

pub returns-in_err-text-clause-cause : goal.returns-in_err-text-clause-cause
returns-in_err-text-clause-cause g c =
    λ err.
    let blames = subst (λ (n : ℕ). Blames n (g.O.Sink.faults c.write_long.new.out) err err c.in_err-text.field-0.0) c.loop-alloc.invariant.faults (c.in_err-text.ensures.cause err) in
    cause_passed c.from_residual-in_err-text.result c.in_err-text.field-0.0 (g.O.Sink.faults c.args.out.now) (g.O.Sink.faults c.write_long.new.out) err err c.from_residual-in_err-text.ensures.1 blames

pub loop-alloc-preserved : goal.loop-alloc-preserved
loop-alloc-preserved g c =
    let counts = c.loop-alloc.members.counts in
    let behind = member_behind c.args.texts counts.checked.rules c.loop-alloc.members.rest c.push_member.new.members.rest c.loop-alloc.text c.extend_from_slice.new.self c.push_member.new.text
    c.in_ok-push_member.field-0 c.in_ok-push_member.ensures.puts c.in_ok-extend_from_slice.ensures.ok
    (some_left c.finished.result c.loop-alloc.members.rest c.finished.ensures c.loop-alloc-test.true) in
    let further = held_further (g.O.Sink.written c.args.out.now) (g.O.Sink.written c.loop-alloc.out) (g.O.Sink.written c.write_long.new.out) _ c.loop-alloc.text _ c.push_member.new.text
    c.in_ok-text.text (others_text c.args.texts counts.checked.rules (parts_of c.push_member.new.members.rest)) c.loop-alloc.invariant.written behind c.in_ok-text.ensures.whole in record {
      written = subst (λ (now : Counts). AppendsBefore (g.O.Sink.written c.args.out.now) (g.O.Sink.written c.write_long.new.out) (c.args.text ++ others_text c.args.texts c.args.members.now.counts.checked.rules (parts_of c.args.members.now.rest)) (c.in_ok-text.text ++ others_text c.args.texts now.checked.rules (parts_of c.push_member.new.members.rest)))
          (sym c.push_member.ensures.counts) further;
      faults = (c.in_ok-text.ensures.cause 0).0 ∙ c.loop-alloc.invariant.faults;
      whole = c.in_ok-push_member.ensures.whole;
      counts = c.push_member.ensures.counts ∙ c.loop-alloc.invariant.counts;
    }
