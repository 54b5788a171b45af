use Rattle.std.proofs.Common.{◌≡◌, ◌++◌, ◌+◌, ◌*◌, drop}
use Rattle.struct_model.specs.Structure.{labels_of_parts, nodes, nodes_of_parts, parts_of}
use Rattle.struct_model.proofs.tree.+labelling.Given as goal

abbrev pub decreases-push_labels : goal.decreases-push_labels
decreases-push_labels l = 2 * nodes l.s.now

abbrev pub decreases-push_labels_of_parts : goal.decreases-push_labels_of_parts
decreases-push_labels_of_parts l = 2 * nodes_of_parts (parts_of l.parts.now) + 1

abbrev pub invariant-push_labels_of_parts-loop-part : goal.invariant-push_labels_of_parts-loop-part
invariant-push_labels_of_parts-loop-part l = l.found ++ labels_of_parts (parts_of (drop l.part-index l.part-items)) ≡ l.initial.found ++ labels_of_parts (parts_of l.parts)
