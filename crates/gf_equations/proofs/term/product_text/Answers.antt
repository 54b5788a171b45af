use Rattle.std.proofs.Common.{◌-◌, ◌++◌, List, codes, length, take, drop, ap, ◌∙◌}
use Rattle.std.specs.List.{flat_map}
use Rattle.gf_equations.specs.declared.term.Term.{Term}
use Rattle.gf_equations.specs.Text.{factor}
use Rattle.gf_equations.proofs.Joined.{joined_first, joined_more, joined_all}
use Rattle.gf_equations.proofs.term.product_text.Goals as goal

pub loop-other-init : goal.loop-other-init
loop-other-init c =
    let others : List Term = take (length c.args.terms.now - 1) (drop 1 c.args.terms.now) in
    ap (λ u. u ++ flat_map (λ (t : Term). codes "*" ++ factor t) others) (c.in_ok-text.ensures) ∙ joined_first factor (codes "*") c.args.terms.now c.first-item.result c.in-len1-up.len_at_least c.first-item.is

pub loop-other-preserved : goal.loop-other-preserved
loop-other-preserved c =
    joined_more factor (codes "*") (take (length c.args.terms.now - 1) (drop 1 c.args.terms.now)) c.loop-other.other-index c.other-item.result _ _ _ _ c.loop-other-test.true c.other-item.is
    c.in_ok-extend_from_slice.ensures.ok (c.in_ok-extend_from_slice-2.ensures.ok ∙ ap (λ t. c.extend_from_slice.new.self ++ t) (c.as_slice.ensures ∙ c.in_ok-factor.ensures)) c.loop-other.invariant

pub returns : goal.returns
returns c = joined_all (λ (t : Term). codes "*" ++ factor t) (take (length c.args.terms.now - 1) (drop 1 c.args.terms.now)) c.loop-other.other-index _ _ c.loop-other-test.false c.loop-other.invariant
