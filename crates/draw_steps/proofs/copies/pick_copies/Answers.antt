use Rattle.std.proofs.Common.{◌<◌, ◌*◌, ◌^◌, ℕ, map, sym, ap, ◌∙◌, subst}
use Rattle.std.specs.List.{sum}
use Rattle.size_counts.specs.CountedView.{sets_of}
use Rattle.draw_steps.specs.Choices.{copies_of, copies_weight, copies_step}
use Rattle.draw_steps.proofs.Among.{follows_among, follows_among_fault}
use Rattle.draw_steps.proofs.CopySums.{copies_sum, drawn_at, read_at, product_some}
use Rattle.draw_steps.proofs.RangePicks.{same_fault}
use Rattle.draw_steps.proofs.copies.pick_copies.Goals as goal

pub copies_weights-requires-clause-fits : goal.copies_weights-requires-clause-fits
copies_weights-requires-clause-fits g c = subst (λ (n : ℕ). n < 2 ^ 128) (ap (λ (n : ℕ). c.args.missing * n) c.sets.ensures.value ∙ sym (copies_sum c.args.counted.now c.args.node c.args.element c.args.missing c.args.m c.grammar.ensures.kept c.requires.missing)) c.sets.ensures.fits

pub pick_place-requires-clause-some : goal.pick_place-requires-clause-some
pick_place-requires-clause-some g c = product_some c.args.missing (sets_of c.args.counted.now c.args.node c.args.missing c.args.m) (sum c.as_slice-2.result.now) (ap sum (c.as_slice-2.ensures.value ∙ c.in_ok-weights.ensures ∙ ap (map (copies_weight c.args.counted.now c.args.node c.args.element c.args.missing c.args.m)) (c.as_slice.ensures.value ∙ c.in_ok-all.ensures)) ∙ copies_sum c.args.counted.now c.args.node c.args.element c.args.missing c.args.m c.grammar.ensures.kept c.requires.missing) c.requires.some c.requires.sets

pub pick_place-requires-clause-fits : goal.pick_place-requires-clause-fits
pick_place-requires-clause-fits g c = subst (λ (n : ℕ). n < 2 ^ 128) (ap (λ (n : ℕ). c.args.missing * n) c.sets.ensures.value ∙ sym (ap sum (c.as_slice-2.ensures.value ∙ c.in_ok-weights.ensures ∙ ap (map (copies_weight c.args.counted.now c.args.node c.args.element c.args.missing c.args.m)) (c.as_slice.ensures.value ∙ c.in_ok-all.ensures)) ∙ copies_sum c.args.counted.now c.args.node c.args.element c.args.missing c.args.m c.grammar.ensures.kept c.requires.missing)) c.sets.ensures.fits

pub returns-in_err-place-clause-step : goal.returns-in_err-place-clause-step
returns-in_err-place-clause-step g c =
    same_fault (copies_step c.args.counted.now c.args.node c.args.element c.args.missing c.args.m) (g.B.Bits.left c.args.bits.now) (g.B.Bits.left c.pick_place.new.bits) c.in_err-place.field-0.0 c.from_residual-in_err-place.result
    c.from_residual-in_err-place.ensures
    (follows_among_fault (copies_weight c.args.counted.now c.args.node c.args.element c.args.missing c.args.m) (copies_of c.args.missing c.args.m) c.as_slice-2.result.now (g.B.Bits.left c.args.bits.now) (g.B.Bits.left c.pick_place.new.bits) c.in_err-place.field-0.0 (c.as_slice-2.ensures.value ∙ c.in_ok-weights.ensures ∙ ap (map (copies_weight c.args.counted.now c.args.node c.args.element c.args.missing c.args.m)) (c.as_slice.ensures.value ∙ c.in_ok-all.ensures)) c.in_err-place.ensures.step)

pub returns-clause-step : goal.returns-clause-step
returns-clause-step g c = follows_among (copies_weight c.args.counted.now c.args.node c.args.element c.args.missing c.args.m) (copies_of c.args.missing c.args.m) c.as_slice-2.result.now c.in_ok-place.place c.index.result.now (g.B.Bits.left c.args.bits.now) (g.B.Bits.left c.pick_place.new.bits) (c.as_slice-2.ensures.value ∙ c.in_ok-weights.ensures ∙ ap (map (copies_weight c.args.counted.now c.args.node c.args.element c.args.missing c.args.m)) (c.as_slice.ensures.value ∙ c.in_ok-all.ensures)) (read_at (copies_weight c.args.counted.now c.args.node c.args.element c.args.missing c.args.m) (copies_of c.args.missing c.args.m) c.in_ok-all.all.items c.as_slice-2.result.now c.in_ok-place.place c.index.result.now (c.as_slice-2.ensures.value ∙ c.in_ok-weights.ensures ∙ ap (map (copies_weight c.args.counted.now c.args.node c.args.element c.args.missing c.args.m)) (c.as_slice.ensures.value ∙ c.in_ok-all.ensures)) c.in_ok-all.ensures c.index.ensures c.in_ok-place.ensures.positive) c.in_ok-place.ensures.step

pub returns-clause-low : goal.returns-clause-low
returns-clause-low g c = (drawn_at c.args.counted.now c.args.node c.args.element c.args.missing c.args.m c.in_ok-place.place c.index.result.now c.as_slice-2.result.now (c.as_slice-2.ensures.value ∙ c.in_ok-weights.ensures ∙ ap (map (copies_weight c.args.counted.now c.args.node c.args.element c.args.missing c.args.m)) (c.as_slice.ensures.value ∙ c.in_ok-all.ensures)) (read_at (copies_weight c.args.counted.now c.args.node c.args.element c.args.missing c.args.m) (copies_of c.args.missing c.args.m) c.in_ok-all.all.items c.as_slice-2.result.now c.in_ok-place.place c.index.result.now (c.as_slice-2.ensures.value ∙ c.in_ok-weights.ensures ∙ ap (map (copies_weight c.args.counted.now c.args.node c.args.element c.args.missing c.args.m)) (c.as_slice.ensures.value ∙ c.in_ok-all.ensures)) c.in_ok-all.ensures c.index.ensures c.in_ok-place.ensures.positive) c.in_ok-place.ensures.positive).few.number_low

pub returns-clause-high : goal.returns-clause-high
returns-clause-high g c = (drawn_at c.args.counted.now c.args.node c.args.element c.args.missing c.args.m c.in_ok-place.place c.index.result.now c.as_slice-2.result.now (c.as_slice-2.ensures.value ∙ c.in_ok-weights.ensures ∙ ap (map (copies_weight c.args.counted.now c.args.node c.args.element c.args.missing c.args.m)) (c.as_slice.ensures.value ∙ c.in_ok-all.ensures)) (read_at (copies_weight c.args.counted.now c.args.node c.args.element c.args.missing c.args.m) (copies_of c.args.missing c.args.m) c.in_ok-all.all.items c.as_slice-2.result.now c.in_ok-place.place c.index.result.now (c.as_slice-2.ensures.value ∙ c.in_ok-weights.ensures ∙ ap (map (copies_weight c.args.counted.now c.args.node c.args.element c.args.missing c.args.m)) (c.as_slice.ensures.value ∙ c.in_ok-all.ensures)) c.in_ok-all.ensures c.index.ensures c.in_ok-place.ensures.positive) c.in_ok-place.ensures.positive).few.number_high

pub returns-clause-size : goal.returns-clause-size
returns-clause-size g c = (drawn_at c.args.counted.now c.args.node c.args.element c.args.missing c.args.m c.in_ok-place.place c.index.result.now c.as_slice-2.result.now (c.as_slice-2.ensures.value ∙ c.in_ok-weights.ensures ∙ ap (map (copies_weight c.args.counted.now c.args.node c.args.element c.args.missing c.args.m)) (c.as_slice.ensures.value ∙ c.in_ok-all.ensures)) (read_at (copies_weight c.args.counted.now c.args.node c.args.element c.args.missing c.args.m) (copies_of c.args.missing c.args.m) c.in_ok-all.all.items c.as_slice-2.result.now c.in_ok-place.place c.index.result.now (c.as_slice-2.ensures.value ∙ c.in_ok-weights.ensures ∙ ap (map (copies_weight c.args.counted.now c.args.node c.args.element c.args.missing c.args.m)) (c.as_slice.ensures.value ∙ c.in_ok-all.ensures)) c.in_ok-all.ensures c.index.ensures c.in_ok-place.ensures.positive) c.in_ok-place.ensures.positive).few.size_low

pub returns-clause-atoms : goal.returns-clause-atoms
returns-clause-atoms g c = (drawn_at c.args.counted.now c.args.node c.args.element c.args.missing c.args.m c.in_ok-place.place c.index.result.now c.as_slice-2.result.now (c.as_slice-2.ensures.value ∙ c.in_ok-weights.ensures ∙ ap (map (copies_weight c.args.counted.now c.args.node c.args.element c.args.missing c.args.m)) (c.as_slice.ensures.value ∙ c.in_ok-all.ensures)) (read_at (copies_weight c.args.counted.now c.args.node c.args.element c.args.missing c.args.m) (copies_of c.args.missing c.args.m) c.in_ok-all.all.items c.as_slice-2.result.now c.in_ok-place.place c.index.result.now (c.as_slice-2.ensures.value ∙ c.in_ok-weights.ensures ∙ ap (map (copies_weight c.args.counted.now c.args.node c.args.element c.args.missing c.args.m)) (c.as_slice.ensures.value ∙ c.in_ok-all.ensures)) c.in_ok-all.ensures c.index.ensures c.in_ok-place.ensures.positive) c.in_ok-place.ensures.positive).atoms

pub returns-clause-first : goal.returns-clause-first
returns-clause-first g c = (drawn_at c.args.counted.now c.args.node c.args.element c.args.missing c.args.m c.in_ok-place.place c.index.result.now c.as_slice-2.result.now (c.as_slice-2.ensures.value ∙ c.in_ok-weights.ensures ∙ ap (map (copies_weight c.args.counted.now c.args.node c.args.element c.args.missing c.args.m)) (c.as_slice.ensures.value ∙ c.in_ok-all.ensures)) (read_at (copies_weight c.args.counted.now c.args.node c.args.element c.args.missing c.args.m) (copies_of c.args.missing c.args.m) c.in_ok-all.all.items c.as_slice-2.result.now c.in_ok-place.place c.index.result.now (c.as_slice-2.ensures.value ∙ c.in_ok-weights.ensures ∙ ap (map (copies_weight c.args.counted.now c.args.node c.args.element c.args.missing c.args.m)) (c.as_slice.ensures.value ∙ c.in_ok-all.ensures)) c.in_ok-all.ensures c.index.ensures c.in_ok-place.ensures.positive) c.in_ok-place.ensures.positive).first

pub returns-clause-others : goal.returns-clause-others
returns-clause-others g c = (drawn_at c.args.counted.now c.args.node c.args.element c.args.missing c.args.m c.in_ok-place.place c.index.result.now c.as_slice-2.result.now (c.as_slice-2.ensures.value ∙ c.in_ok-weights.ensures ∙ ap (map (copies_weight c.args.counted.now c.args.node c.args.element c.args.missing c.args.m)) (c.as_slice.ensures.value ∙ c.in_ok-all.ensures)) (read_at (copies_weight c.args.counted.now c.args.node c.args.element c.args.missing c.args.m) (copies_of c.args.missing c.args.m) c.in_ok-all.all.items c.as_slice-2.result.now c.in_ok-place.place c.index.result.now (c.as_slice-2.ensures.value ∙ c.in_ok-weights.ensures ∙ ap (map (copies_weight c.args.counted.now c.args.node c.args.element c.args.missing c.args.m)) (c.as_slice.ensures.value ∙ c.in_ok-all.ensures)) c.in_ok-all.ensures c.index.ensures c.in_ok-place.ensures.positive) c.in_ok-place.ensures.positive).others
