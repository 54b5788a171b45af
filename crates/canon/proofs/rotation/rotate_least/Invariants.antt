use Rattle.std.proofs.Common.{◌≡◌, take}
use Rattle.struct_model.specs.Order.{rotated}
use Rattle.canon.proofs.rotation.rotate_least.Given as goal

abbrev pub invariant-loop-place : goal.invariant-loop-place
invariant-loop-place l = l.turned ≡ take l.place (rotated l.items l.start)
