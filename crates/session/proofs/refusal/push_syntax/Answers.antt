use Rattle.std.proofs.Common.{codes, decimal}
use Rattle.std.proofs.lemmas.Result.{on_ok_weaker}
use Rattle.session.proofs.TextLemmas.{joined4}
use Rattle.session.proofs.refusal.push_syntax.Goals as goal

pub returns : goal.returns
returns c =
    on_ok_weaker c.push_number-2.result
    (λ h. joined4 _ _ _ _ _ (codes "syntax at line ") (decimal c.args.line) (codes " column ") (decimal c.args.column)
    c.in_ok-extend_from_slice.ensures.ok c.in_ok-push_number.ensures c.in_ok-extend_from_slice-2.ensures.ok h)
    c.push_number-2.ensures
