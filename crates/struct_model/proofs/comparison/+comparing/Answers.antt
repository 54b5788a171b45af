-- The keys decide, or else the rest. The walk over both lists at once: what is left of them decides.
use Rattle.std.proofs.Common.{arith, sym, ◌∙◌}
use Rattle.std.specs.Ordering.{nat_cmp}
use Rattle.std.proofs.lemmas.Slice.Zip.{either_empty_from_Zip}
use Rattle.struct_model.proofs.OrderLaws.{equal_answer, keys_decide, rest_decides}
use Rattle.struct_model.proofs.PartsOrder.{IsLeft_more, IsLeft_differs, IsLeft_nodes, IsLeft_end}
use Rattle.struct_model.proofs.comparison.+comparing.Goals as goal

pub compare-returns-in-Equal-clause-equal : goal.compare-returns-in-Equal-clause-equal
compare-returns-in-Equal-clause-equal t c =
    equal_answer c.args.s.now c.args.t.now c.compare_within.result (rest_decides c.args.s.now c.args.t.now _ _ c.compare_keys.ensures c.in-Equal.is c.compare_within.ensures)

pub compare-returns-in_default : goal.compare-returns-in_default
compare-returns-in_default t c =
    let answer = keys_decide c.args.s.now c.args.t.now _ c.compare_keys.ensures c.in_default.not-Equal in
    record { order = answer; equal = equal_answer c.args.s.now c.args.t.now c.compare_keys.result answer }

pub compare_parts-compare-requires : goal.compare_parts-compare-requires
compare_parts-compare-requires t c =
    let fewer = IsLeft_nodes _ _ _ _ _ c.in-Some.s.now c.loop-s.invariant c.in-Some.ensures.steps.0 in (omega (arith, fewer), tt)

pub compare_parts-loop-s-preserved : goal.compare_parts-loop-s-preserved
compare_parts-loop-s-preserved t c =
    IsLeft_more _ _ _ _ _ _ c.in-Some.s.now c.in-Some.t.now c.loop-s.invariant c.in-Some.ensures.steps.0 c.in-Some.ensures.steps.1 (sym c.compare.ensures.order ∙ c.in-Equal.is)

pub compare_parts-returns-in_default : goal.compare_parts-returns-in_default
compare_parts-returns-in_default t c =
    c.compare.ensures.order
    ∙ IsLeft_differs _ _ _ _ _ _ c.in-Some.s.now c.in-Some.t.now c.loop-s.invariant c.in-Some.ensures.steps.0 c.in-Some.ensures.steps.1 (λ e. c.in_default.not-Equal (c.compare.ensures.order ∙ e))

pub compare_parts-returns : goal.compare_parts-returns
compare_parts-returns t c =
    c.cmp.ensures
    ∙ (λ i. nat_cmp (c.len.ensures i) (c.len-2.ensures i))
    ∙ IsLeft_end _ _ _ _ c.loop-s.invariant (either_empty_from_Zip c.loop-s.s-iterator c.next.new.self c.next.result c.in-None.is c.next.ensures.steps)
