use Rattle.std.proofs.Common.{◌≡◌, map}
use Rattle.std.specs.List.{range_with_len}
use Rattle.draw_steps.specs.Choices.{length_weight}
use Rattle.draw_steps.proofs.lengths.length_weights.Given as goal

abbrev pub invariant-loop-d : goal.invariant-loop-d
invariant-loop-d l = l.weights.items ≡ map (length_weight l.counted l.lists l.missing l.m) (range_with_len 0 l.d)
