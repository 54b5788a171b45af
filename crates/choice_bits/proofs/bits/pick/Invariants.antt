use Rattle.std.proofs.Common.{◌≡◌, length}
use Rattle.choice_laws.specs.Bits.{picked}
use Rattle.choice_bits.proofs.bits.pick.Given as goal

abbrev pub invariant-loop-value : goal.invariant-loop-value
invariant-loop-value g l = picked l.bound (g.B.Bits.left l.bits) ≡ picked l.bound (g.B.Bits.left l.initial.bits)

abbrev pub decreases-loop-value : goal.decreases-loop-value
decreases-loop-value g l = length (g.B.Bits.left l.bits)
