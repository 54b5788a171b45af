use Rattle.std.proofs.Common.{◌+◌, sym, subst}
use Rattle.choice_bits.specs.Bits.{IsTaken}
use Rattle.choice_bits.proofs.Blocks.{taken_more, taken_fits, taken_all}
use Rattle.choice_bits.proofs.bits.take_block.Goals as goal

-- src/bits.rt:58:26
pub with_bit-value-requires : goal.with_bit-value-requires
with_bit-value-requires g c = taken_fits c.loop.counter c.args.width (g.B.Bits.left c.args.bits.now) c.loop.value (g.B.Bits.left c.loop.bits) c.loop.invariant c.loop-test.true c.requires

-- src/bits.rt:59:21
pub returns-in-None-clause-spent : goal.returns-in-None-clause-spent
returns-in-None-clause-spent g c = taken_all c.loop.counter c.args.width (g.B.Bits.left c.args.bits.now) c.loop.value (g.B.Bits.left c.loop.bits) c.loop.invariant c.in-None.ensures.bit c.loop-test.true

-- src/bits.rt:56:5
pub loop-preserved : goal.loop-preserved
loop-preserved g c =
    subst (λ value. IsTaken (c.loop.counter + 1) (g.B.Bits.left c.args.bits.now) value (g.B.Bits.left c.take.new.self)) (sym c.with_bit-value.ensures)
    (taken_more c.loop.counter (g.B.Bits.left c.args.bits.now) c.loop.value (g.B.Bits.left c.loop.bits) c.in-Some.bit (g.B.Bits.left c.take.new.self) c.loop.invariant c.in-Some.ensures.bit)
