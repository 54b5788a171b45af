use Rattle.std.proofs.Common.{◌≡◌, map}
use Rattle.std.specs.List.{range_with_len}
use Rattle.size_counts.specs.CountedView.{number_of}
use Rattle.draw_steps.specs.Choices.{child_of}
use Rattle.draw_steps.proofs.counts.argument_weights.Given as goal

abbrev pub invariant-loop-before : goal.invariant-loop-before
invariant-loop-before l = l.weights.items ≡ map (λ i. number_of l.counted (child_of l.counted l.node i) l.n) (range_with_len 1 l.before)
