use Rattle.std.proofs.Common.{◌++◌, codes}
use Rattle.std.proofs.lemmas.Result.{on_err_weaker}
use Rattle.struct_text.specs.Text.{numeral}
use Rattle.struct_text.proofs.Fronts.{at_err, nothing_put, front_of_first, front_behind, last_behind}
use Rattle.struct_text.proofs.writing.push_bracketed.Goals as goal

pub returns-in_err-push_number-clause-front : goal.returns-in_err-push_number-clause-front
returns-in_err-push_number-clause-front c =
    let digits = numeral c.args.label in
    at_err c.from_residual-in_err-push_number.result _ (front_behind _ _ _ (codes "[") (digits ++ codes "]") c.in_ok-extend_from_slice.ensures.ok (front_of_first _ _ digits (codes "]") c.in_err-push_number.ensures.front))

pub returns-clause-front : goal.returns-clause-front
returns-clause-front c =
    let digits = numeral c.args.label in
    let last = c.extend_from_slice-2.result in
    last_behind last _ _ _ (codes "[") (digits ++ codes "]") c.in_ok-extend_from_slice.ensures.ok
    (last_behind last _ _ _ digits (codes "]") c.in_ok-push_number.ensures.whole (on_err_weaker last (nothing_put _ _ (codes "]")) c.extend_from_slice-2.ensures.err))
