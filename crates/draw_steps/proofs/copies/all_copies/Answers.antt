use Rattle.std.proofs.Common.{◌+◌, ◌-◌, arith}
use Rattle.draw_steps.specs.Choices.{copies_of}
use Rattle.draw_steps.proofs.CopySums.{one_copy_more, one_size_more}
use Rattle.draw_steps.proofs.copies.all_copies.Goals as goal

-- src/copies.rt:58:9
pub loop-number-preserved : goal.loop-number-preserved
loop-number-preserved c =
    one_copy_more c.loop-size.size (c.loop-number.number - 1) c.loop-number.number (c.loop-number.number + 1 - 1) (copies_of c.args.missing (c.loop-size.size - 1)) c.loop-number.all.items c.push.new.self.items
    (omega (arith, c.loop-number.auto.number)) (omega arith) c.loop-number.invariant c.in_ok-push.ensures.items

-- src/copies.rt:57:5
pub loop-size-preserved : goal.loop-size-preserved
loop-size-preserved c =
    one_size_more c.args.missing (c.loop-size.size - 1) c.loop-size.size (c.loop-size.size + 1 - 1) (c.loop-number.number - 1) c.loop-number.all.items
    (omega (arith, c.loop-size.auto.size)) (omega arith) (omega (arith, c.loop-number.auto.number, c.loop-number.auto.number-end, c.loop-number-test.false)) c.loop-number.invariant
