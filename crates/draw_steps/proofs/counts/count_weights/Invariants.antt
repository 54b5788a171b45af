use Rattle.std.proofs.Common.{◌≡◌, map}
use Rattle.std.specs.Prelude.{if◌then◌else◌}
use Rattle.std.specs.List.{range_with_len}
use Rattle.draw_steps.specs.Choices.{admits_at, number_with}
use Rattle.draw_steps.proofs.counts.count_weights.Given as goal

abbrev pub invariant-loop-c : goal.invariant-loop-c
invariant-loop-c l = l.weights.items ≡ map (λ c. if admits_at l.counted l.node c then number_with l.counted l.kind l.node c l.n else 0) (range_with_len 0 l.c)
