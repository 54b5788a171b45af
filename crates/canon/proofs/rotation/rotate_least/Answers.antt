-- The structures are copied in the order of the least rotation.
use Rattle.std.proofs.Common.{[], ◌∷◌, ◌++◌, ◌∙◌, ap, arith}
use Rattle.struct_model.specs.Order.{is_least_rotation}
use Rattle.canon.proofs.Turning.{copied_next, copied_all}
use Rattle.canon.proofs.LeastPlaces.{least_rotated}
use Rattle.canon.proofs.rotation.rotate_least.Goals as goal

pub loop-place-preserved : goal.loop-place-preserved
loop-place-preserved c =
    c.in_ok-push.ensures.ok ∙ ap (λ s. c.loop-place.turned ++ s ∷ []) c.in_ok-copy.ensures
    ∙ copied_next _ _ _ _ c.around.result.now c.least_rotation-start.ensures.within c.loop-place-test.true c.around.ensures c.loop-place.invariant

pub returns-clause-least : goal.returns-clause-least
returns-clause-least c =
    let least = c.least_rotation-start.ensures in
    ap is_least_rotation (copied_all c.as_slice-items.result.now _ c.least_rotation-start.result _ (omega arith) c.loop-place.invariant) ∙ least_rotated _ _ least
