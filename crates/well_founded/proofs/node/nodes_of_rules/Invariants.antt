use Rattle.std.proofs.Common.{◌≡◌, ◌+◌, ◌++◌, length, drop}
use Rattle.spec_syntax.specs.Rules.{all_nodes}
use Rattle.well_founded.specs.NodeTable.{nodes_of, nodes_from}
use Rattle.well_founded.proofs.node.nodes_of_rules.Given as goal

abbrev pub invariant-loop-place : goal.invariant-loop-place
invariant-loop-place l =
    (nodes_of l.spec ≡ l.table.items ++ nodes_from l.spec (length l.table.items) (all_nodes (drop l.place l.spec)))
    × (length l.table.items + length (all_nodes (drop l.place l.spec)) ≡ length (all_nodes l.spec))
