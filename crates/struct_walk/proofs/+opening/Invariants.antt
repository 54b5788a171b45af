use Rattle.std.proofs.Common.{◌≡◌, ◌+◌, length}
use Rattle.struct_model.specs.Structure.{size}
use Rattle.struct_model.specs.SupplyView.{supply_labels}
use Rattle.struct_walk.specs.SortedTails.{with_greater}
use Rattle.struct_walk.proofs.Measures.{node_measure, set_measure, rule_measure, union_measure, lists_measure, split_measure}
use Rattle.struct_walk.proofs.SortedMeasures.{sorted_measure, level_measure}
use Rattle.struct_walk.proofs.+opening.Given as goal

abbrev pub decreases-open::open_node : goal.decreases-open::open_node
decreases-open::open_node l = node_measure l.counted.now.checked l.node (length (supply_labels l.supply))

abbrev pub decreases-open::open_rule : goal.decreases-open::open_rule
decreases-open::open_rule l = rule_measure l.counted.now.checked l.sym (length (supply_labels l.supply))

abbrev pub decreases-open::open_union : goal.decreases-open::open_union
decreases-open::open_union l = union_measure l.counted.now.checked l.node (length (supply_labels l.supply))

abbrev pub decreases-open::open_components : goal.decreases-open::open_components
decreases-open::open_components l = lists_measure l.counted.now.checked l.tail (length (supply_labels l.supply)) + 1

abbrev pub decreases-open::open_lists : goal.decreases-open::open_lists
decreases-open::open_lists l = lists_measure l.counted.now.checked l.tail (length (supply_labels l.supply))

abbrev pub decreases-open::open_last : goal.decreases-open::open_last
decreases-open::open_last l = node_measure l.counted.now.checked l.node (length (supply_labels l.supply)) + 1

abbrev pub decreases-open::open_split : goal.decreases-open::open_split
decreases-open::open_split l = split_measure l.counted.now.checked l.cut (length (supply_labels l.part)) (length (supply_labels l.rest))

abbrev pub decreases-open::open_set : goal.decreases-open::open_set
decreases-open::open_set l = set_measure l.counted.now.checked l.node (length (supply_labels l.supply))

abbrev pub decreases-sorted::open_sorted_node : goal.decreases-sorted::open_sorted_node
decreases-sorted::open_sorted_node l = union_measure l.counted.now.checked l.node (length (supply_labels l.supply)) + 14

abbrev pub decreases-sorted::open_sorted : goal.decreases-sorted::open_sorted
decreases-sorted::open_sorted l = sorted_measure l.counted.now.checked l.tail l.n + 1

abbrev pub decreases-sorted::open_same : goal.decreases-sorted::open_same
decreases-sorted::open_same l = sorted_measure l.counted.now.checked l.tail l.n

abbrev pub decreases-sorted::open_first : goal.decreases-sorted::open_first
decreases-sorted::open_first l = sorted_measure l.counted.now.checked l.level.behind l.level.left + 2

abbrev pub decreases-sorted::open_greater : goal.decreases-sorted::open_greater
decreases-sorted::open_greater l = level_measure l.counted.now.checked l.behind l.n + 1

abbrev pub decreases-sorted::open_level : goal.decreases-sorted::open_level
decreases-sorted::open_level l = level_measure l.counted.now.checked l.level.behind (l.level.taken + l.level.left)

abbrev pub invariant-sorted::open_greater-loop-below : goal.invariant-sorted::open_greater-loop-below
invariant-sorted::open_greater-loop-below l =
    (l.components ≡ l.fn.components) × (with_greater l.counted.checked l.behind l.d l.n ≡ with_greater l.counted.checked l.behind l.below l.n)

abbrev pub decreases-sorted::open_following : goal.decreases-sorted::open_following
decreases-sorted::open_following l = node_measure l.counted.now.checked l.tail.element (size l.front.now) + 9

abbrev pub decreases-behind::open_behind : goal.decreases-behind::open_behind
decreases-behind::open_behind l = node_measure l.counted.now.checked l.node (length (supply_labels l.supply)) + 5

abbrev pub decreases-behind_sorted::behind_sorted_node : goal.decreases-behind_sorted::behind_sorted_node
decreases-behind_sorted::behind_sorted_node l = union_measure l.counted.now.checked l.node (length (supply_labels l.supply)) + 15

abbrev pub decreases-behind_sorted::behind_sorted : goal.decreases-behind_sorted::behind_sorted
decreases-behind_sorted::behind_sorted l = sorted_measure l.counted.now.checked l.tail l.n + 2

abbrev pub decreases-behind_sorted::behind_first : goal.decreases-behind_sorted::behind_first
decreases-behind_sorted::behind_first l = level_measure l.counted.now.checked l.level.behind (l.level.taken + l.level.left) + 2

abbrev pub decreases-behind::behind_rule : goal.decreases-behind::behind_rule
decreases-behind::behind_rule l = rule_measure l.counted.now.checked l.sym (length (supply_labels l.supply)) + 5

abbrev pub decreases-behind::behind_in_union : goal.decreases-behind::behind_in_union
decreases-behind::behind_in_union l = union_measure l.counted.now.checked l.node (length (supply_labels l.supply)) + 5

abbrev pub decreases-behind::behind_components : goal.decreases-behind::behind_components
decreases-behind::behind_components l = lists_measure l.counted.now.checked l.tail l.n + 6

abbrev pub decreases-behind::behind_lists : goal.decreases-behind::behind_lists
decreases-behind::behind_lists l = lists_measure l.counted.now.checked l.tail l.n + 5

abbrev pub decreases-behind::behind_last : goal.decreases-behind::behind_last
decreases-behind::behind_last l = node_measure l.counted.now.checked l.node l.n + 6

abbrev pub decreases-behind::behind_split : goal.decreases-behind::behind_split
decreases-behind::behind_split l = split_measure l.counted.now.checked l.cut l.taken l.left + 5
