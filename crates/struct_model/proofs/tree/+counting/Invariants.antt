use Rattle.std.proofs.Common.{◌≡◌, length, ◌+◌, ◌*◌, drop}
use Rattle.struct_model.specs.Structure.{labels_of_parts, nodes, nodes_of_parts, parts_of}
use Rattle.struct_model.proofs.tree.+counting.Given as goal

abbrev pub decreases-size : goal.decreases-size
decreases-size l = 2 * nodes l.s.now

abbrev pub decreases-size_of_parts : goal.decreases-size_of_parts
decreases-size_of_parts l = 2 * nodes_of_parts (parts_of l.parts.now) + 1

abbrev pub invariant-size_of_parts-loop-part : goal.invariant-size_of_parts-loop-part
invariant-size_of_parts-loop-part l = l.total + length (labels_of_parts (parts_of (drop l.part-index l.part-items))) ≡ length (labels_of_parts (parts_of l.parts))
