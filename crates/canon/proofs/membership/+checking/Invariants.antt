use Rattle.std.proofs.Common.{◌≡◌, ◌+◌, ◌*◌, drop}
use Rattle.std.specs.Iterator.Adapters.{zip_first, zip_second}
use Rattle.std.specs.Slice.Iter.{iter_rest}
use Rattle.struct_model.specs.Structure.{nodes, nodes_of_parts, parts_of}
use Rattle.struct_model.specs.Membership.{are_of}
use Rattle.canon.proofs.Members.{IsLeft}
use Rattle.canon.proofs.membership.+checking.Given as goal

abbrev pub decreases-is_structure : goal.decreases-is_structure
decreases-is_structure l = 3 * nodes l.s.now + 1

abbrev pub decreases-is_of_name : goal.decreases-is_of_name
decreases-is_of_name l = 3 * nodes l.s.now

abbrev pub decreases-is_of_argument : goal.decreases-is_of_argument
decreases-is_of_argument l = 3 * nodes l.inside.now + 2

abbrev pub decreases-are_of_each : goal.decreases-are_of_each
decreases-are_of_each l = 3 * nodes_of_parts (parts_of l.parts.now) + 2

abbrev pub decreases-is_of_many : goal.decreases-is_of_many
decreases-is_of_many l = 3 * nodes_of_parts (parts_of l.parts.now) + 3

abbrev pub decreases-are_of : goal.decreases-are_of
decreases-are_of l = 3 * nodes_of_parts (parts_of l.parts.now) + 2

abbrev pub invariant-are_of-loop-part : goal.invariant-are_of-loop-part
invariant-are_of-loop-part l =
    are_of (record { rules = l.spec; universe = l.universe }) l.element (parts_of (drop l.part-index l.parts))
    ≡ are_of (record { rules = l.spec; universe = l.universe }) l.element (parts_of l.parts)

abbrev pub invariant-are_of_each-loop-argument : goal.invariant-are_of_each-loop-argument
invariant-are_of_each-loop-argument l =
    IsLeft (record { rules = l.spec; universe = l.universe }) l.arguments l.parts (iter_rest (zip_first l.argument-iterator)) (iter_rest (zip_second l.argument-iterator))
