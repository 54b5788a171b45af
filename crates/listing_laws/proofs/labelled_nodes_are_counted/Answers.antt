use Rattle.listing_laws.proofs.LeastNodes as nodes
use Rattle.listing_laws.proofs.labelled_nodes_are_counted.Goals as goal

pub returns : goal.returns
returns c = nodes.labelled_nodes_are_counted
