-- The part of the number that was picked.
use Rattle.struct_model.specs.SupplyView.{supply_labels}
use Rattle.splits.specs.WalkView.{split_into}
use Rattle.draw_steps.specs.Choices.{part_step}
use Rattle.draw_steps.proofs.PartPicks.{part_follows, part_fault, number_below, part_lengths, same_told}
use Rattle.draw_steps.proofs.lengths.pick_part.Goals as goal

pub returns-in_err-number-clause-step : goal.returns-in_err-number-clause-step
returns-in_err-number-clause-step g c =
    same_told (λ split. split_into split.0 split.1) (part_step (supply_labels c.args.supply.now) c.args.d) (g.B.Bits.left c.args.bits.now) (g.B.Bits.left c.pick_number.new.bits)
    c.in_err-number.field-0.0 c.from_residual.result c.from_residual.ensures
    (part_fault c.args.supply.now c.args.d c.requires.in_order c.requires.length (g.B.Bits.left c.args.bits.now) (g.B.Bits.left c.pick_number.new.bits) c.in_err-number.field-0.0 c.in_err-number.ensures)

pub nth_part-requires-clause-before : goal.nth_part-requires-clause-before
nth_part-requires-clause-before g c =
    number_below c.args.supply.now c.args.d c.requires.in_order c.requires.length (g.B.Bits.left c.args.bits.now) (g.B.Bits.left c.pick_number.new.bits) c.in_ok-number.number c.in_ok-number.ensures

pub returns-clause-step : goal.returns-clause-step
returns-clause-step g c =
    part_follows c.args.supply.now c.args.d c.requires.in_order c.requires.length (g.B.Bits.left c.args.bits.now) (g.B.Bits.left c.pick_number.new.bits) c.in_ok-number.number _ c.in_ok-number.ensures
    c.in_ok-part.ensures.nth

pub returns-clause-part_length : goal.returns-clause-part_length
returns-clause-part_length g c = (part_lengths c.args.supply.now c.args.d c.requires.in_order c.requires.length c.in_ok-number.number _ c.in_ok-part.ensures.nth).0

pub returns-clause-rest_length : goal.returns-clause-rest_length
returns-clause-rest_length g c = (part_lengths c.args.supply.now c.args.d c.requires.in_order c.requires.length c.in_ok-number.number _ c.in_ok-part.ensures.nth).1
