use Rattle.listing_laws.proofs.ContainersRecur as containers
use Rattle.listing_laws.proofs.containers_recur.Goals as goal

pub returns : goal.returns
returns c = containers.containers_recur
