-- The number of atoms, and then the labels.
use Rattle.std.proofs.Common.{refl, Ok, Err}
use Rattle.struct_model.specs.SupplyView.{supply_labels}
use Rattle.splits.specs.WalkView.{split_into}
use Rattle.draw_steps.specs.Choices.{split_step}
use Rattle.draw_steps.proofs.PartPicks.{same_told, split_then, split_fault, parts_fit}
use Rattle.draw_steps.proofs.lengths.pick_split.Goals as goal

pub returns-in_err-d-clause-step : goal.returns-in_err-d-clause-step
returns-in_err-d-clause-step g c =
    same_told (λ split. split_into split.0 split.1) (split_step c.args.counted.now c.args.lists c.args.missing (supply_labels c.args.supply.now)) (g.B.Bits.left c.args.bits.now)
    (g.B.Bits.left c.pick_length.new.bits) c.in_err-d.field-0.0 c.from_residual.result c.from_residual.ensures
    (split_fault c.args.counted.now c.args.lists c.args.missing (supply_labels c.args.supply.now) c.len.result c.len.ensures (g.B.Bits.left c.args.bits.now) (g.B.Bits.left c.pick_length.new.bits)
    c.in_err-d.field-0.0 c.in_err-d.ensures.step)

pub pick_part-requires-clause-fits : goal.pick_part-requires-clause-fits
pick_part-requires-clause-fits g c =
    parts_fit c.args.counted.now c.args.lists c.args.missing (supply_labels c.args.supply.now) c.len.result c.len.ensures c.args.supply.now c.in_ok-d.d refl c.requires.asked.universe c.in_ok-d.ensures.positive
    c.in_ok-d.ensures.fits

pub returns-in_err-part-clause-step : goal.returns-in_err-part-clause-step
returns-in_err-part-clause-step g c =
    same_told (λ split. split_into split.0 split.1) (split_step c.args.counted.now c.args.lists c.args.missing (supply_labels c.args.supply.now)) (g.B.Bits.left c.args.bits.now)
    (g.B.Bits.left c.pick_part.new.bits) c.in_err-part.field-0.0 c.from_residual-in_err-part.result c.from_residual-in_err-part.ensures
    (split_then c.args.counted.now c.args.lists c.args.missing (supply_labels c.args.supply.now) c.len.result c.len.ensures c.in_ok-d.d (g.B.Bits.left c.args.bits.now) (g.B.Bits.left c.pick_length.new.bits)
    (g.B.Bits.left c.pick_part.new.bits) (Err c.in_err-part.field-0.0) c.in_ok-d.ensures.step c.in_err-part.ensures.step)

pub returns-clause-step : goal.returns-clause-step
returns-clause-step g c =
    split_then c.args.counted.now c.args.lists c.args.missing (supply_labels c.args.supply.now) c.len.result c.len.ensures c.in_ok-d.d (g.B.Bits.left c.args.bits.now) (g.B.Bits.left c.pick_length.new.bits)
    (g.B.Bits.left c.pick_part.new.bits) (Ok (split_into c.in_ok-part.part c.in_ok-part.rest)) c.in_ok-d.ensures.step c.in_ok-part.ensures.step
