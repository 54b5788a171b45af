use Rattle.std.proofs.Common.{◌≡◌, ◌+◌, length, take, drop}
use Rattle.spec_syntax.specs.Rules.{all_nodes}
use Rattle.spec_syntax.specs.Nodes.{all_right_nodes}
use Rattle.well_founded.proofs.node.right_nodes.Given as goal

abbrev pub invariant-loop-place : goal.invariant-loop-place
invariant-loop-place l =
    (l.table.items ≡ take l.place (all_right_nodes l.spec))
    × (l.next + length (all_nodes (drop l.place l.spec)) ≡ length (all_nodes l.spec))
