use Rattle.std.proofs.Common.{◌≡◌, ◌+◌, ◌*◌, ◌++◌, ◌≤◌, length, drop}
use Rattle.struct_model.specs.Structure.{nodes, nodes_of_parts, parts_of}
use Rattle.struct_text.specs.Text.{others_text}
use Rattle.struct_text.proofs.writing.+texts.Given as goal

abbrev pub decreases-push_structure : goal.decreases-push_structure
decreases-push_structure l = 5 * nodes l.s.now

abbrev pub decreases-push_chosen : goal.decreases-push_chosen
decreases-push_chosen l = 5 * nodes l.s.now + 1

abbrev pub decreases-push_tuple : goal.decreases-push_tuple
decreases-push_tuple l = 5 * nodes_of_parts (parts_of l.parts.now) + 4

abbrev pub decreases-push_parts : goal.decreases-push_parts
decreases-push_parts l = 5 * nodes_of_parts (parts_of l.parts.now) + 3

abbrev pub decreases-push_others : goal.decreases-push_others
decreases-push_others l = 5 * nodes_of_parts (parts_of l.others.now) + 2

abbrev pub decreases-push_other : goal.decreases-push_other
decreases-push_other l = 5 * nodes l.s.now + 1

abbrev pub invariant-push_others-loop-other : goal.invariant-push_others-loop-other
invariant-push_others-loop-other l =
    (l.initial.text ++ others_text l.form l.spec (parts_of l.others) ≡ l.text ++ others_text l.form l.spec (parts_of (drop l.other-index l.others)))
    × (length l.initial.text ≤ length l.text)
