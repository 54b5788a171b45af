use Rattle.listing_laws.proofs.SortedNodes as sorted
use Rattle.listing_laws.proofs.sorted_nodes_are_listed.Goals as goal

pub returns : goal.returns
returns c = sorted.sorted_nodes_are_listed
