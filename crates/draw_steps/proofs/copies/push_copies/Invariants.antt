use Rattle.std.proofs.Common.{◌≡◌, ◌++◌, replicate}
use Rattle.draw_steps.proofs.copies.push_copies.Given as goal

abbrev pub invariant-loop : goal.invariant-loop
invariant-loop l = l.components ≡ l.fn.components ++ replicate l.counter l.s
