use Rattle.std.proofs.Common.{◌≡◌, map}
use Rattle.std.specs.List.{range_with_len}
use Rattle.struct_walk.specs.Tails.{is_open}
use Rattle.struct_walk.proofs.tail.admitted_lengths.Given as goal

abbrev pub invariant-loop-taken : goal.invariant-loop-taken
invariant-loop-taken l = l.lengths.items ≡ map (is_open l.counted.checked l.cut l.n) (range_with_len 0 l.taken)
