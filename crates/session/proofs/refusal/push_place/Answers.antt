use Rattle.std.proofs.Common.{codes, decimal}
use Rattle.std.proofs.lemmas.Result.{on_ok_weaker}
use Rattle.session.specs.Refusals.{group_text}
use Rattle.session.proofs.TextLemmas.{joined_around}
use Rattle.session.proofs.refusal.push_place.Goals as goal

pub returns : goal.returns
returns c =
    on_ok_weaker c.push_number-2.result
    (λ h. joined_around _ _ _ _ _ _ _ (codes "a number passes 128 bits: ") c.args.name.now (codes ", node ") (decimal c.args.place.node) (codes ", ")
    (group_text c.args.place.group c.args.place.index) (codes ", size ") (decimal c.args.place.size)
    c.in_ok-push_around.ensures c.in_ok-push_number.ensures c.in_ok-extend_from_slice.ensures.ok c.in_ok-push_group.ensures c.in_ok-extend_from_slice-2.ensures.ok h)
    c.push_number-2.ensures
