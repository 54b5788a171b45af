use Rattle.std.proofs.Common.{◌+◌, ◌*◌}
use Rattle.std.specs.Iterator.Adapters.{zip_first, zip_second}
use Rattle.std.specs.Slice.Iter.{iter_rest}
use Rattle.struct_model.specs.Structure.{nodes, nodes_of_parts, parts_of}
use Rattle.struct_model.proofs.PartsOrder.{IsLeft}
use Rattle.struct_model.proofs.comparison.+comparing.Given as goal

abbrev pub decreases-compare : goal.decreases-compare
decreases-compare l = 3 * nodes l.s.now + 1

abbrev pub decreases-compare_within : goal.decreases-compare_within
decreases-compare_within l = 3 * nodes l.s.now

abbrev pub decreases-compare_parts : goal.decreases-compare_parts
decreases-compare_parts l = 3 * nodes_of_parts (parts_of l.ss.now) + 2

abbrev pub invariant-compare_parts-loop-s : goal.invariant-compare_parts-loop-s
invariant-compare_parts-loop-s l = IsLeft l.ss l.ts (iter_rest (zip_first l.s-iterator)) (iter_rest (zip_second l.s-iterator))
