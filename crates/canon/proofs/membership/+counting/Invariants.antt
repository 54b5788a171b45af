use Rattle.std.proofs.Common.{◌≡◌, ◌+◌, ◌*◌, nat_eq, drop}
use Rattle.std.specs.List.{count_by}
use Rattle.struct_model.specs.Structure.{labels_of_parts, nodes, nodes_of_parts, parts_of}
use Rattle.canon.proofs.membership.+counting.Given as goal

abbrev pub decreases-count_label : goal.decreases-count_label
decreases-count_label l = 2 * nodes l.s.now

abbrev pub decreases-count_label_in : goal.decreases-count_label_in
decreases-count_label_in l = 2 * nodes_of_parts (parts_of l.parts.now) + 1

abbrev pub invariant-count_label_in-loop-part : goal.invariant-count_label_in-loop-part
invariant-count_label_in-loop-part l =
    l.count + count_by (nat_eq l.label) (labels_of_parts (parts_of (drop l.part-index l.part-items)))
    ≡ count_by (nat_eq l.label) (labels_of_parts (parts_of l.parts))
