use Rattle.count_laws.proofs.SortedLists as sorted
use Rattle.count_laws.proofs.sorted_lists_are_listed.Goals as goal

pub returns : goal.returns
returns g c = sorted.sorted_lists_are_listed _
