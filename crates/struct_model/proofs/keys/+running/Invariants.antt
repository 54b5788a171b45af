use Rattle.std.proofs.Common.{◌≡◌, ◌+◌, ◌*◌, ◌<◌, ◌^◌, length, drop}
use Rattle.struct_model.specs.Structure.{labels_of_parts, nodes, nodes_of_parts, parts_of}
use Rattle.struct_model.specs.Runs.{run_count, merged, first_run}
use Rattle.struct_model.proofs.keys.+running.Given as goal

abbrev pub decreases-first_run : goal.decreases-first_run
decreases-first_run l = 2 * nodes l.s.now

abbrev pub decreases-first_run_of_parts : goal.decreases-first_run_of_parts
decreases-first_run_of_parts l = 2 * nodes_of_parts (parts_of l.parts.now) + 1

abbrev pub invariant-first_run_of_parts-loop-part : goal.invariant-first_run_of_parts-loop-part
invariant-first_run_of_parts-loop-part l =
    (run_count l.first + length (labels_of_parts (parts_of (drop l.part-index l.part-items))) < 2 ^ 32)
    × (merged l.first (first_run l.low (labels_of_parts (parts_of (drop l.part-index l.part-items)))) ≡ first_run l.low (labels_of_parts (parts_of l.parts)))
