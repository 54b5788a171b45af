use Rattle.listing_laws.proofs.Repeated as repeated
use Rattle.listing_laws.proofs.sequence_is_listed.Goals as goal

pub returns : goal.returns
returns c = repeated.sequence_is_listed
