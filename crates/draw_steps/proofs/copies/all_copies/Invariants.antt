use Rattle.std.proofs.Common.{◌≡◌, ◌-◌, ◌++◌}
use Rattle.draw_steps.specs.Choices.{copies_of}
use Rattle.draw_steps.proofs.CopySums.{copies_at}
use Rattle.draw_steps.proofs.copies.all_copies.Given as goal

abbrev pub invariant-loop-size : goal.invariant-loop-size
invariant-loop-size l = l.all.items ≡ copies_of l.missing (l.size - 1)

abbrev pub invariant-loop-number : goal.invariant-loop-number
invariant-loop-number l = l.all.items ≡ copies_of l.missing (l.size - 1) ++ copies_at l.size (l.number - 1)
