use Rattle.choice_bits.specs.Bits.{IsTaken}
use Rattle.choice_bits.proofs.bits.take_block.Given as goal

abbrev pub invariant-loop : goal.invariant-loop
invariant-loop g l = IsTaken l.counter (g.B.Bits.left l.fn.bits) l.value (g.B.Bits.left l.bits)
