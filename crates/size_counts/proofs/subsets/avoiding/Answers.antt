use Rattle.std.proofs.Common.{◌≡◌, ◌+◌, ◌-◌, ◌*◌, ℕ, ap, ◌∙◌, arith}
use Rattle.count_laws.specs.SetNumbers.{number_avoiding}
use Rattle.size_counts.specs.Repeats.{fewer}
use Rattle.size_counts.proofs.MultisetLemmas.{has_room}
use Rattle.size_counts.proofs.SubsetLemmas.{avoiding_first, avoiding_more}
use Rattle.size_counts.proofs.subsets.avoiding.Goals as goal

pub loop-step-init : goal.loop-step-init
loop-step-init c =
    let all : c.min-steps.result ≡ c.min-steps.result - 0 = omega arith in
    c.fewer-number.ensures ∙ avoiding_first (fewer c.args.numbers.now) c.min-steps.result c.args.d c.args.c c.args.m c.requires.low c.min-steps.ensures
    ∙ ap (λ (k : ℕ). number_avoiding (fewer c.args.numbers.now) c.args.d (c.args.c - k) (c.args.m - k * c.args.d)) all

pub loop-step-preserved : goal.loop-step-preserved
loop-step-preserved c =
    let left : ℕ = c.min-steps.result - 1 - c.loop-step.step in
    let before : c.min-steps.result - c.loop-step.step ≡ left + 1 = omega arith in
    let after : left ≡ c.min-steps.result - (c.loop-step.step + 1) = omega arith in
    let room = has_room left c.args.d c.args.c c.args.m c.requires.low (omega (arith, c.min-steps.ensures)) in
    c.saturating_sub-number.ensures
    ∙ avoiding_more (fewer c.args.numbers.now) left c.args.d c.args.c c.args.m c.fewer.result c.loop-step.number room.1 room.0 c.fewer.ensures
    (c.loop-step.invariant ∙ ap (λ (k : ℕ). number_avoiding (fewer c.args.numbers.now) c.args.d (c.args.c - k) (c.args.m - k * c.args.d)) before)
    ∙ ap (λ (k : ℕ). number_avoiding (fewer c.args.numbers.now) c.args.d (c.args.c - k) (c.args.m - k * c.args.d)) after
