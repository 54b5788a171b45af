use Rattle.std.proofs.Common.{sym, ◌∙◌, subst, ◌≡◌, ◌<◌, length, None, Result, Ok, Err, OnErr}
use Rattle.choice_laws.specs.Bits.{picked}
use Rattle.choice_bits.specs.Bits.{IsTaken}
use Rattle.choice_bits.proofs.Blocks.{picked_below, passed_over}
use Rattle.choice_laws.proofs.Picked.{picked_short}
use Rattle.choice_bits.proofs.bits.pick.Goals as goal

on_err : {X Y : Type 0} (r : Result X Y) (P : Type 0) → P → OnErr r P
on_err (Ok x) P p = tt
on_err (Err y) P p = p

-- src/bits.rt:32:21
pub returns-in_err-value-clause-spent : goal.returns-in_err-value-clause-spent
returns-in_err-value-clause-spent g c =
    on_err c.from_residual.result (picked c.args.bound (g.B.Bits.left c.args.bits.now) ≡ None)
    (sym c.loop-value.invariant ∙ picked_short c.args.bound (g.B.Bits.left c.loop-value.bits) (subst (λ k. length (g.B.Bits.left c.loop-value.bits) < k) c.block_length-width.ensures.length c.in_err-value.ensures.spent))

-- src/bits.rt:34:13
pub returns-then-value-bound-clause-picked : goal.returns-then-value-bound-clause-picked
returns-then-value-bound-clause-picked g c =
    sym c.loop-value.invariant
    ∙ picked_below c.args.bound (g.B.Bits.left c.loop-value.bits) c.in_ok-value.value (g.B.Bits.left c.take_block.new.bits)
    (subst (λ k. IsTaken k (g.B.Bits.left c.loop-value.bits) c.in_ok-value.value (g.B.Bits.left c.take_block.new.bits)) c.block_length-width.ensures.length c.in_ok-value.ensures.taken) c.if-value-bound.true

-- src/bits.rt:31:5
pub loop-value-preserved : goal.loop-value-preserved
loop-value-preserved g c =
    passed_over c.args.bound (g.B.Bits.left c.loop-value.bits) c.in_ok-value.value (g.B.Bits.left c.take_block.new.bits)
    (subst (λ k. IsTaken k (g.B.Bits.left c.loop-value.bits) c.in_ok-value.value (g.B.Bits.left c.take_block.new.bits)) c.block_length-width.ensures.length c.in_ok-value.ensures.taken)
    c.if-value-bound.false c.requires
    ∙ c.loop-value.invariant
