-- The bound is that number of parts, which is above 0.
use Rattle.std.proofs.Common.{arith}
use Rattle.draw_steps.proofs.PartPicks.{zeros_pick, some_parts, bound_of, told_bound}
use Rattle.draw_steps.proofs.lengths.pick_number.Goals as goal

pub pick-requires : goal.pick-requires
pick-requires g c =
    let bound = bound_of c.args.supply.now c.in-Labels.field-0 c.args.d c.len.result c.unwrap-bound.result c.in-Labels.is c.len.ensures (told_bound c.choose.result c.unwrap-bound.result _ c.unwrap-bound.ensures c.choose.ensures) in
    omega (arith, bound, some_parts c.args.supply.now c.args.d c.requires.length)

pub returns-in-Zeros : goal.returns-in-Zeros
returns-in-Zeros g c = zeros_pick c.args.supply.now c.in-Zeros.field-0 c.args.d (g.B.Bits.left c.args.bits.now) c.in-Zeros.is
