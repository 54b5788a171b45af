use Rattle.std.proofs.Common.{◌≡◌, ◌<◌, ◌≤◌, ◌++◌, ◌^◌, length}
use Rattle.struct_text.specs.Text.{numeral}
use Rattle.struct_text.proofs.lexing.Left.take_number.Given as goal

abbrev pub invariant-loop-digit : goal.invariant-loop-digit
invariant-loop-digit l = (1 ≤ l.number) × (l.number < 2 ^ 32) × (l.fn.self ≡ numeral l.number ++ l.self)

abbrev pub decreases-loop-digit : goal.decreases-loop-digit
decreases-loop-digit l = length l.self
