use Rattle.listing_laws.proofs.ByComponents as containers
use Rattle.listing_laws.proofs.containers_are_counted.Goals as goal

pub returns : goal.returns
returns c = containers.containers_are_counted
