use Rattle.std.proofs.Common.{◌≡◌, map, take, is_some}
use Rattle.well_founded.specs.Least.{least_with, size_of_name}
use Rattle.well_founded.proofs.same_size.union_flags.Given as goal

abbrev pub invariant-loop-argument : goal.invariant-loop-argument
invariant-loop-argument l = l.flags.items ≡ map (λ e. is_some (least_with (size_of_name l.spec l.sizes) e)) (take l.argument-index l.arguments)
