use Rattle.std.proofs.Common.{◌+◌, length, arith, ap, ◌∙◌}
use Rattle.std.specs.List.{list_all}
use Rattle.std.proofs.lemmas.Slice.{between_to_end}
use Rattle.well_founded.specs.SameSize.{is_null}
use Rattle.well_founded.specs.Least.{least_with, size_of_name}
use Rattle.well_founded.proofs.SameSizeCode.{flags_step}
use Rattle.well_founded.proofs.same_size.prod_flags.Goals as goal

pub loop-place-preserved : goal.loop-place-preserved
loop-place-preserved c =
    let sizes = least_with (size_of_name c.args.spec.now c.args.sizes.now) in
    let behind_is = c.can_all_be_empty-behind.ensures
    ∙ ap (list_all (λ other. is_null (sizes other))) (between_to_end c.args.arguments.now (c.loop-place.place + 1) (length c.args.arguments.now) (omega arith)) in
    flags_step sizes c.args.arguments.now c.loop-place.place c.index-arguments-place.result c.least_in-size.result c.loop-place.before
    c.can_all_be_empty-behind.result c.can_have_all.result c.can_be_empty-before.result _ c.loop-place.flags.items c.push.new.self.items
    c.loop-place-test.true c.index-arguments-place.is c.least_in-size.ensures behind_is c.can_have_all.ensures c.can_be_empty-before.ensures c.loop-place.invariant c.in_ok-push.ensures.items
