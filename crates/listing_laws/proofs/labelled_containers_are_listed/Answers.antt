use Rattle.listing_laws.proofs.LeastListed as least
use Rattle.listing_laws.proofs.labelled_containers_are_listed.Goals as goal

pub returns : goal.returns
returns c = least.labelled_containers_are_listed
