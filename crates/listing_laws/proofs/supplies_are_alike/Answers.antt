use Rattle.listing_laws.proofs.Alike as alike
use Rattle.listing_laws.proofs.supplies_are_alike.Goals as goal

pub returns : goal.returns
returns c = alike.supplies_are_alike
