use Rattle.std.proofs.Common.{◌≡◌, ◌+◌, ◌*◌, take}
use Rattle.struct_model.specs.Structure.{nodes, nodes_of_parts, parts_of}
use Rattle.struct_model.proofs.tree.+copying.Given as goal

abbrev pub decreases-copy : goal.decreases-copy
decreases-copy l = 2 * nodes l.s.now

abbrev pub decreases-copy_parts : goal.decreases-copy_parts
decreases-copy_parts l = 2 * nodes_of_parts (parts_of l.parts.now) + 1

abbrev pub invariant-copy_parts-loop-part : goal.invariant-copy_parts-loop-part
invariant-copy_parts-loop-part l = l.copied ≡ take l.part-index l.part-items
