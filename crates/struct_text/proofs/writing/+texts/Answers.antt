use Rattle.std.proofs.Common.{◌≡◌, ◌-◌, List, ◌∷◌, ◌++◌, length, codes, take, drop, OnErr, ap, sym, subst, ◌∙◌, arith, append_assoc, length-drop}
use Rattle.std.proofs.lemmas.List.{take_all}
use Rattle.std.proofs.lemmas.Result.{on_err_weaker}
use Rattle.struct_model.specs.Structure.{Structure, parts_of}
use Rattle.struct_model.proofs.Parts.{parts_step}
use Rattle.struct_text.specs.Fronts.{PutsFront}
use Rattle.struct_text.specs.Text.{text, argument_text, form_word, parts_text, others_text}
use Rattle.struct_text.proofs.Fronts.{at_err, nothing_put, front_of_first, front_behind, last_behind, front_of_others}
use Rattle.struct_text.proofs.writing.+texts.Goals as goal

pub push_chosen-returns-in_err-push_argument-clause-front : goal.push_chosen-returns-in_err-push_argument-clause-front
push_chosen-returns-in_err-push_argument-clause-front t c =
    at_err c.from_residual.result _ (front_of_first _ _ (argument_text c.args.form c.args.argument) (text c.args.form c.args.spec.now c.args.s.now) c.in_err-push_argument.ensures.front)

pub push_chosen-returns-clause-front : goal.push_chosen-returns-clause-front
push_chosen-returns-clause-front t c =
    last_behind c.push_structure.result _ _ _ (argument_text c.args.form c.args.argument) (text c.args.form c.args.spec.now c.args.s.now) c.in_ok-push_argument.ensures.whole c.push_structure.ensures.front

pub push_tuple-returns-in_err-extend_from_slice-2-clause-front : goal.push_tuple-returns-in_err-extend_from_slice-2-clause-front
push_tuple-returns-in_err-extend_from_slice-2-clause-front t c =
    let word = form_word c.args.of in
    let parts = parts_text c.args.form c.args.spec.now (parts_of c.args.parts.now) in
    simp append_assoc (at_err c.from_residual-in_err-extend_from_slice-2.result _
    (front_behind _ _ _ word (codes "(" ++ (parts ++ codes ")")) (c.in_ok-extend_from_slice.ensures.ok ∙ ap (λ w. c.args.text.now ++ w) c.form_word.ensures) (nothing_put _ _ _ c.in_err-extend_from_slice-2.ensures.err)))

pub push_tuple-returns-in_err-push_parts-clause-front : goal.push_tuple-returns-in_err-push_parts-clause-front
push_tuple-returns-in_err-push_parts-clause-front t c =
    let word = form_word c.args.of in
    let parts = parts_text c.args.form c.args.spec.now (parts_of c.args.parts.now) in
    simp append_assoc (at_err c.from_residual-in_err-push_parts.result _
    (front_behind _ _ _ word (codes "(" ++ (parts ++ codes ")")) (c.in_ok-extend_from_slice.ensures.ok ∙ ap (λ w. c.args.text.now ++ w) c.form_word.ensures)
    (front_behind _ _ _ (codes "(") (parts ++ codes ")") c.in_ok-extend_from_slice-2.ensures.ok (front_of_first _ _ parts (codes ")") c.in_err-push_parts.ensures.front))))

pub push_tuple-returns-clause-front : goal.push_tuple-returns-clause-front
push_tuple-returns-clause-front t c =
    let word = form_word c.args.of in
    let parts = parts_text c.args.form c.args.spec.now (parts_of c.args.parts.now) in
    let last = c.extend_from_slice-3.result in
    simp append_assoc (last_behind last _ _ _ word (codes "(" ++ (parts ++ codes ")")) (c.in_ok-extend_from_slice.ensures.ok ∙ ap (λ w. c.args.text.now ++ w) c.form_word.ensures)
    (last_behind last _ _ _ (codes "(") (parts ++ codes ")") c.in_ok-extend_from_slice-2.ensures.ok
    (last_behind last _ _ _ parts (codes ")") c.in_ok-push_parts.ensures.whole (on_err_weaker last (nothing_put _ _ (codes ")")) c.extend_from_slice-3.ensures.err))))

pub push_parts-returns-in_err-push_structure-in-len1-up-clause-front : goal.push_parts-returns-in_err-push_structure-in-len1-up-clause-front
push_parts-returns-in_err-push_structure-in-len1-up-clause-front t c =
    let form = c.args.form in
    let rules = c.args.spec.now in
    let parts = c.args.parts.now in
    let first = c.first-item.result in
    let split : parts ≡ first ∷ drop 1 parts = parts_step parts 0 first c.in-len1-up.len_at_least c.first-item.is in
    at_err c.from_residual.result _
    (subst (λ (ss : List Structure). PutsFront c.args.text.now c.push_structure.new.text (parts_text form rules (parts_of ss))) (sym split)
    (front_of_first _ _ (text form rules first) (others_text form rules (parts_of (drop 1 parts))) c.in_err-push_structure-in-len1-up.ensures.front))

pub push_parts-returns-in_ok-push_structure-in-len1-up-clause-front : goal.push_parts-returns-in_ok-push_structure-in-len1-up-clause-front
push_parts-returns-in_ok-push_structure-in-len1-up-clause-front t c =
    let form = c.args.form in
    let rules = c.args.spec.now in
    let parts = c.args.parts.now in
    let first = c.first-item.result in
    let last = c.push_others.result in
    let others : List Structure = take (length parts - 1) (drop 1 parts) in
    let all : others ≡ drop 1 parts = take_all (length parts - 1) (drop 1 parts) (omega (arith, length-drop 1 parts)) in
    let split : parts ≡ first ∷ others = parts_step parts 0 first c.in-len1-up.len_at_least c.first-item.is ∙ ap (λ ss. first ∷ ss) (sym all) in
    subst (λ (ss : List Structure). OnErr last (PutsFront c.args.text.now c.push_others.new.text (parts_text form rules (parts_of ss)))) (sym split)
    (last_behind last _ _ _ (text form rules first) (others_text form rules (parts_of others)) c.in_ok-push_structure-in-len1-up.ensures.whole c.push_others.ensures.front)

pub push_others-returns-in_err-push_other-clause-front : goal.push_others-returns-in_err-push_other-clause-front
push_others-returns-in_err-push_other-clause-front t c =
    at_err c.from_residual.result _
    (front_of_others c.args.form c.args.spec.now c.args.others.now c.loop-other.other-index c.other-item.result c.args.text.now _ _ c.loop-other-test.true c.other-item.is
    c.loop-other.invariant.0 c.loop-other.invariant.1 c.in_err-push_other.ensures.front)

pub push_other-returns-clause-front : goal.push_other-returns-clause-front
push_other-returns-clause-front t c =
    last_behind c.push_structure.result _ _ _ (codes ", ") (text c.args.form c.args.spec.now c.args.s.now) c.in_ok-extend_from_slice.ensures.ok c.push_structure.ensures.front
