use Rattle.std.proofs.Common.{◌<◌, ◌+◌, ◌^◌, ℕ, sym, ap, ◌∙◌, subst, arith}
use Rattle.std.specs.Prelude.{if◌then◌else◌}
use Rattle.std.specs.List.{sum, range_with_len}
use Rattle.draw_steps.specs.Choices.{admits_at, number_with, count_step}
use Rattle.draw_steps.proofs.Among.{follows_among_fault}
use Rattle.draw_steps.proofs.ContainerSums.{container_sum, admitted_above, number_above}
use Rattle.draw_steps.proofs.RangePicks.{same_fault, range_within, range_positive, range_follows}
use Rattle.draw_steps.proofs.counts.pick_count.Goals as goal

pub pick_place-requires-clause-some : goal.pick_place-requires-clause-some
pick_place-requires-clause-some g c =
    subst (λ (n : ℕ). 0 < n) (sym (ap sum (c.as_slice.ensures.value ∙ c.in_ok-weights.ensures) ∙ container_sum c.args.counted.now c.args.kind c.args.node c.args.n c.grammar.ensures.kept c.requires.container)) c.requires.some

pub pick_place-requires-clause-fits : goal.pick_place-requires-clause-fits
pick_place-requires-clause-fits g c =
    subst (λ (n : ℕ). n < 2 ^ 128) (c.number.ensures ∙ sym (ap sum (c.as_slice.ensures.value ∙ c.in_ok-weights.ensures) ∙ container_sum c.args.counted.now c.args.kind c.args.node c.args.n c.grammar.ensures.kept c.requires.container)) c.number.type_inv

pub returns-in_err-place-clause-step : goal.returns-in_err-place-clause-step
returns-in_err-place-clause-step g c =
    same_fault (count_step c.args.counted.now c.args.kind c.args.node c.args.n) (g.B.Bits.left c.args.bits.now) (g.B.Bits.left c.pick_place.new.bits) c.in_err-place.field-0.0 c.from_residual-in_err-place.result
    c.from_residual-in_err-place.ensures
    (follows_among_fault (λ k. if admits_at c.args.counted.now c.args.node k then number_with c.args.counted.now c.args.kind c.args.node k c.args.n else 0) (range_with_len 0 (c.args.n + 1))
    c.as_slice.result.now (g.B.Bits.left c.args.bits.now) (g.B.Bits.left c.pick_place.new.bits) c.in_err-place.field-0.0 (c.as_slice.ensures.value ∙ c.in_ok-weights.ensures) c.in_err-place.ensures.step)

pub overflow_cast-result : goal.overflow_cast-result
overflow_cast-result g c = omega (arith, range_within (λ k. if admits_at c.args.counted.now c.args.node k then number_with c.args.counted.now c.args.kind c.args.node k c.args.n else 0) 0 (c.args.n + 1) c.as_slice.result.now (c.as_slice.ensures.value ∙ c.in_ok-weights.ensures) c.in_ok-place.place c.in_ok-place.ensures.positive, c.grammar.ensures.kept.small, c.requires.within)

pub returns-clause-step : goal.returns-clause-step
returns-clause-step g c = range_follows (λ k. if admits_at c.args.counted.now c.args.node k then number_with c.args.counted.now c.args.kind c.args.node k c.args.n else 0) 0 (c.args.n + 1) c.as_slice.result.now (c.as_slice.ensures.value ∙ c.in_ok-weights.ensures) c.in_ok-place.place c.in_ok-place.place (g.B.Bits.left c.args.bits.now) (g.B.Bits.left c.pick_place.new.bits) (omega arith) c.in_ok-place.ensures.positive c.in_ok-place.ensures.step

pub returns-clause-high : goal.returns-clause-high
returns-clause-high g c = omega (arith, range_within (λ k. if admits_at c.args.counted.now c.args.node k then number_with c.args.counted.now c.args.kind c.args.node k c.args.n else 0) 0 (c.args.n + 1) c.as_slice.result.now (c.as_slice.ensures.value ∙ c.in_ok-weights.ensures) c.in_ok-place.place c.in_ok-place.ensures.positive)

pub returns-clause-admitted : goal.returns-clause-admitted
returns-clause-admitted g c = admitted_above c.args.counted.now c.args.kind c.args.node c.in_ok-place.place c.args.n (range_positive (λ k. if admits_at c.args.counted.now c.args.node k then number_with c.args.counted.now c.args.kind c.args.node k c.args.n else 0) 0 (c.args.n + 1) c.as_slice.result.now (c.as_slice.ensures.value ∙ c.in_ok-weights.ensures) c.in_ok-place.place c.in_ok-place.place (omega arith) c.in_ok-place.ensures.positive)

pub returns-clause-some : goal.returns-clause-some
returns-clause-some g c = number_above c.args.counted.now c.args.kind c.args.node c.in_ok-place.place c.args.n (range_positive (λ k. if admits_at c.args.counted.now c.args.node k then number_with c.args.counted.now c.args.kind c.args.node k c.args.n else 0) 0 (c.args.n + 1) c.as_slice.result.now (c.as_slice.ensures.value ∙ c.in_ok-weights.ensures) c.in_ok-place.place c.in_ok-place.place (omega arith) c.in_ok-place.ensures.positive)
