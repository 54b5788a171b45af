use Rattle.std.proofs.Common.{◌≡◌, map, take}
use Rattle.draw_steps.specs.Choices.{copies_weight}
use Rattle.draw_steps.proofs.copies.copies_weights.Given as goal

abbrev pub invariant-loop-copies : goal.invariant-loop-copies
invariant-loop-copies l = l.weights.items ≡ map (copies_weight l.counted l.node l.element l.missing l.m) (take l.copies-index l.all)
