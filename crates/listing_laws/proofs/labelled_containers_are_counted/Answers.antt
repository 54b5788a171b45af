use Rattle.listing_laws.proofs.LeastNumbers as numbers
use Rattle.listing_laws.proofs.labelled_containers_are_counted.Goals as goal

pub returns : goal.returns
returns c = numbers.labelled_containers_are_counted
