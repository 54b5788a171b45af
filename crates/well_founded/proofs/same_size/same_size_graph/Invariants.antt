use Rattle.std.proofs.Common.{◌≡◌, ◌+◌, ◌++◌, length, drop}
use Rattle.spec_syntax.specs.Rules.{all_nodes}
use Rattle.well_founded.specs.Least.{least_with, size_of_name}
use Rattle.well_founded.specs.SameSize.{followers_from, same_size_graph}
use Rattle.well_founded.proofs.same_size.same_size_graph.Given as goal

abbrev pub invariant-loop-place : goal.invariant-loop-place
invariant-loop-place l =
    (same_size_graph l.spec (least_with (size_of_name l.spec l.sizes))
    ≡ l.graph.items ++ followers_from l.spec (least_with (size_of_name l.spec l.sizes)) (length l.graph.items) (all_nodes (drop l.place l.spec)))
    × (length l.graph.items + length (all_nodes (drop l.place l.spec)) ≡ length (all_nodes l.spec))
