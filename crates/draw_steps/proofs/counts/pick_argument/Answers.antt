use Rattle.std.proofs.Common.{◌<◌, ◌+◌, ◌^◌, ℕ, length, sym, ap, ◌∙◌, subst, arith}
use Rattle.std.specs.List.{sum, range_with_len}
use Rattle.well_founded.specs.Checked.{Checked}
use Rattle.spec_syntax.specs.Nodes.{children_at}
use Rattle.size_counts.specs.CountedView.{number_of}
use Rattle.draw_steps.specs.Choices.{child_of, argument_step}
use Rattle.draw_steps.proofs.Among.{follows_among_fault}
use Rattle.draw_steps.proofs.CountSums.{union_sum}
use Rattle.draw_steps.proofs.RangePicks.{same_fault, range_within, range_positive, range_follows}
use Rattle.draw_steps.proofs.counts.pick_argument.Goals as goal

pub pick_place-requires-clause-some : goal.pick_place-requires-clause-some
pick_place-requires-clause-some g c =
    subst (λ (n : ℕ). 0 < n) (sym (ap sum (c.as_slice.ensures.value ∙ c.in_ok-weights.ensures) ∙ union_sum c.args.counted.now c.args.node c.args.n c.grammar-grammar.ensures.kept c.requires.union)) c.requires.some

pub pick_place-requires-clause-fits : goal.pick_place-requires-clause-fits
pick_place-requires-clause-fits g c =
    subst (λ (n : ℕ). n < 2 ^ 128) (c.number.ensures ∙ sym (ap sum (c.as_slice.ensures.value ∙ c.in_ok-weights.ensures) ∙ union_sum c.args.counted.now c.args.node c.args.n c.grammar-grammar.ensures.kept c.requires.union)) c.number.type_inv

pub returns-in_err-place-clause-step : goal.returns-in_err-place-clause-step
returns-in_err-place-clause-step g c =
    same_fault (argument_step c.args.counted.now c.args.node c.args.n) (g.B.Bits.left c.args.bits.now) (g.B.Bits.left c.pick_place.new.bits) c.in_err-place.field-0.0 c.from_residual-in_err-place.result
    c.from_residual-in_err-place.ensures
    (follows_among_fault (λ i. number_of c.args.counted.now (child_of c.args.counted.now c.args.node i) c.args.n) (range_with_len 1 (length (children_at c.args.counted.now.checked.rules c.args.node)))
    c.as_slice.result.now (g.B.Bits.left c.args.bits.now) (g.B.Bits.left c.pick_place.new.bits) c.in_err-place.field-0.0 (c.as_slice.ensures.value ∙ c.in_ok-weights.ensures) c.in_err-place.ensures.step)

pub overflow_cast-result : goal.overflow_cast-result
overflow_cast-result g c = omega (arith, range_within (λ i. number_of c.args.counted.now (child_of c.args.counted.now c.args.node i) c.args.n) 1 (length (children_at c.args.counted.now.checked.rules c.args.node)) c.as_slice.result.now (c.as_slice.ensures.value ∙ c.in_ok-weights.ensures) c.in_ok-place.place c.in_ok-place.ensures.positive, c.children.ensures ∙ ap (λ (g : Checked). length (children_at g.rules c.args.node)) c.grammar-grammar.ensures.value, c.children.type_inv)

pub overflow_add-result : goal.overflow_add-result
overflow_add-result g c = omega (arith, range_within (λ i. number_of c.args.counted.now (child_of c.args.counted.now c.args.node i) c.args.n) 1 (length (children_at c.args.counted.now.checked.rules c.args.node)) c.as_slice.result.now (c.as_slice.ensures.value ∙ c.in_ok-weights.ensures) c.in_ok-place.place c.in_ok-place.ensures.positive, c.children.ensures ∙ ap (λ (g : Checked). length (children_at g.rules c.args.node)) c.grammar-grammar.ensures.value, c.children.type_inv)

pub returns-clause-step : goal.returns-clause-step
returns-clause-step g c = range_follows (λ i. number_of c.args.counted.now (child_of c.args.counted.now c.args.node i) c.args.n) 1 (length (children_at c.args.counted.now.checked.rules c.args.node)) c.as_slice.result.now (c.as_slice.ensures.value ∙ c.in_ok-weights.ensures) c.in_ok-place.place (c.in_ok-place.place + 1) (g.B.Bits.left c.args.bits.now) (g.B.Bits.left c.pick_place.new.bits) (omega arith) c.in_ok-place.ensures.positive c.in_ok-place.ensures.step

pub returns-clause-high : goal.returns-clause-high
returns-clause-high g c = omega (arith, range_within (λ i. number_of c.args.counted.now (child_of c.args.counted.now c.args.node i) c.args.n) 1 (length (children_at c.args.counted.now.checked.rules c.args.node)) c.as_slice.result.now (c.as_slice.ensures.value ∙ c.in_ok-weights.ensures) c.in_ok-place.place c.in_ok-place.ensures.positive)

pub returns-clause-some : goal.returns-clause-some
returns-clause-some g c = range_positive (λ i. number_of c.args.counted.now (child_of c.args.counted.now c.args.node i) c.args.n) 1 (length (children_at c.args.counted.now.checked.rules c.args.node)) c.as_slice.result.now (c.as_slice.ensures.value ∙ c.in_ok-weights.ensures) c.in_ok-place.place (c.in_ok-place.place + 1) (omega arith) c.in_ok-place.ensures.positive
