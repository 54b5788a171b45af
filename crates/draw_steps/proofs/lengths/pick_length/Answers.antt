-- The weights add to the number of lists, or to it times that of the components.
use Rattle.std.proofs.Common.{◌<◌, ◌+◌, ◌*◌, ◌^◌, ℕ, sym, ap, ◌∙◌, subst, arith}
use Rattle.std.specs.List.{sum, range_with_len}
use Rattle.draw_steps.specs.Choices.{times_met, lists_number, length_weight, length_step}
use Rattle.draw_steps.proofs.Among.{follows_among_fault}
use Rattle.draw_steps.proofs.LengthSums.{weights_sum}
use Rattle.draw_steps.proofs.LengthLemmas.{some_times, weight_fits}
use Rattle.draw_steps.proofs.RangePicks.{same_fault, range_within, range_positive, range_follows}
use Rattle.draw_steps.proofs.lengths.pick_length.Goals as goal

pub length_weights-requires-clause-fits : goal.length_weights-requires-clause-fits
length_weights-requires-clause-fits g c =
    subst (λ (n : ℕ). n < 2 ^ 128)
    (ap (λ (n : ℕ). times_met c.args.lists c.args.missing * n) c.lists_number.ensures.value ∙ sym (weights_sum c.args.counted.now c.grammar.ensures.kept c.args.lists c.args.missing c.args.m c.requires.missing c.requires.least))
    c.lists_number.ensures.fits

pub pick_place-requires-clause-some : goal.pick_place-requires-clause-some
pick_place-requires-clause-some g c =
    subst (λ (n : ℕ). 0 < n)
    (sym (ap sum (c.as_slice.ensures.value ∙ c.in_ok-weights.ensures) ∙ weights_sum c.args.counted.now c.grammar.ensures.kept c.args.lists c.args.missing c.args.m c.requires.missing c.requires.least))
    (some_times c.args.lists c.args.missing (lists_number c.args.counted.now c.args.lists c.args.missing c.args.m) c.requires.least c.requires.some)

pub pick_place-requires-clause-fits : goal.pick_place-requires-clause-fits
pick_place-requires-clause-fits g c =
    subst (λ (n : ℕ). n < 2 ^ 128)
    (ap (λ (n : ℕ). times_met c.args.lists c.args.missing * n) c.lists_number.ensures.value
    ∙ sym (ap sum (c.as_slice.ensures.value ∙ c.in_ok-weights.ensures) ∙ weights_sum c.args.counted.now c.grammar.ensures.kept c.args.lists c.args.missing c.args.m c.requires.missing c.requires.least))
    c.lists_number.ensures.fits

pub returns-in_err-place-clause-step : goal.returns-in_err-place-clause-step
returns-in_err-place-clause-step g c =
    same_fault (length_step c.args.counted.now c.args.lists c.args.missing c.args.m) (g.B.Bits.left c.args.bits.now) (g.B.Bits.left c.pick_place.new.bits) c.in_err-place.field-0.0 c.from_residual-in_err-place.result
    c.from_residual-in_err-place.ensures
    (follows_among_fault (length_weight c.args.counted.now c.args.lists c.args.missing c.args.m) (range_with_len 0 (c.args.m + 1)) c.as_slice.result.now (g.B.Bits.left c.args.bits.now) (g.B.Bits.left c.pick_place.new.bits)
    c.in_err-place.field-0.0 (c.as_slice.ensures.value ∙ c.in_ok-weights.ensures) c.in_err-place.ensures.step)

pub overflow_cast-result : goal.overflow_cast-result
overflow_cast-result g c =
    omega (
      arith,
      range_within (length_weight c.args.counted.now c.args.lists c.args.missing c.args.m) 0 (c.args.m + 1) c.as_slice.result.now (c.as_slice.ensures.value ∙ c.in_ok-weights.ensures) c.in_ok-place.place c.in_ok-place.ensures.positive,
      c.grammar.ensures.kept.small,
      c.requires.within,
    )

pub returns-clause-step : goal.returns-clause-step
returns-clause-step g c =
    range_follows (length_weight c.args.counted.now c.args.lists c.args.missing c.args.m) 0 (c.args.m + 1) c.as_slice.result.now (c.as_slice.ensures.value ∙ c.in_ok-weights.ensures) c.in_ok-place.place c.in_ok-place.place
    (g.B.Bits.left c.args.bits.now) (g.B.Bits.left c.pick_place.new.bits) (omega arith) c.in_ok-place.ensures.positive c.in_ok-place.ensures.step

pub returns-clause-within : goal.returns-clause-within
returns-clause-within g c =
    omega (
      arith,
      range_within (length_weight c.args.counted.now c.args.lists c.args.missing c.args.m) 0 (c.args.m + 1) c.as_slice.result.now (c.as_slice.ensures.value ∙ c.in_ok-weights.ensures) c.in_ok-place.place c.in_ok-place.ensures.positive,
    )

pub returns-clause-positive : goal.returns-clause-positive
returns-clause-positive g c =
    range_positive (length_weight c.args.counted.now c.args.lists c.args.missing c.args.m) 0 (c.args.m + 1) c.as_slice.result.now (c.as_slice.ensures.value ∙ c.in_ok-weights.ensures) c.in_ok-place.place c.in_ok-place.place
    (omega arith) c.in_ok-place.ensures.positive

pub returns-clause-fits : goal.returns-clause-fits
returns-clause-fits g c =
    weight_fits (length_weight c.args.counted.now c.args.lists c.args.missing c.args.m) c.args.m c.in_ok-place.place (2 ^ 128)
    (range_within (length_weight c.args.counted.now c.args.lists c.args.missing c.args.m) 0 (c.args.m + 1) c.as_slice.result.now (c.as_slice.ensures.value ∙ c.in_ok-weights.ensures) c.in_ok-place.place c.in_ok-place.ensures.positive)
    (subst (λ (n : ℕ). n < 2 ^ 128)
    (ap (λ (n : ℕ). times_met c.args.lists c.args.missing * n) c.lists_number.ensures.value ∙ sym (weights_sum c.args.counted.now c.grammar.ensures.kept c.args.lists c.args.missing c.args.m c.requires.missing c.requires.least))
    c.lists_number.ensures.fits)
