-- The groups and indices of the numbers of a node, by their order.
use Rattle.std.specs.Prelude.{ℕ, zero, suc}
use Rattle.well_founded.specs.declared.node.NodeKind.{NodeKind}
use Rattle.well_founded.specs.declared.node.NodeKind.TheVariants as told
use Rattle.size_counts.specs.declared.place.Group.{Group}
use Rattle.size_counts.specs.declared.place.Group.TheVariants as group

-- the group of the numbers beside the count
abbrev pub group_beside : NodeKind → Group
group_beside told.Epsilon = group.Count
group_beside told.Atom = group.Count
group_beside told.Rule = group.Count
group_beside told.Union = group.Count
group_beside told.Prod = group.Suffix
group_beside told.Sequence = group.Lists
group_beside told.Set = group.Sets
group_beside told.PowerSet = group.Sets
group_beside told.Cycle = group.Lists

-- the group of number i, counted from 0
abbrev pub group_at : NodeKind → ℕ → Group
group_at kind zero = group.Count
group_at kind (suc i) = group_beside kind

-- the index of the number at place i beside the count, from 0
abbrev pub index_beside : NodeKind → ℕ → ℕ
index_beside told.Epsilon i = 0
index_beside told.Atom i = 0
index_beside told.Rule i = 0
index_beside told.Union i = 0
index_beside told.Prod i = suc (suc i)
index_beside told.Sequence i = suc i
index_beside told.Set i = suc i
index_beside told.PowerSet i = suc i
index_beside told.Cycle i = suc i

-- the index of number i, counted from 0
abbrev pub index_at : NodeKind → ℕ → ℕ
index_at kind zero = 0
index_at kind (suc i) = index_beside kind i
