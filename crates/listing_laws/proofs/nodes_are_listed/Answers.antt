use Rattle.listing_laws.proofs.NodeLemmas as nodes
use Rattle.listing_laws.proofs.nodes_are_listed.Goals as goal

pub returns : goal.returns
returns c = nodes.nodes_are_listed
