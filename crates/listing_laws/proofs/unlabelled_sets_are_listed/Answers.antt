use Rattle.listing_laws.proofs.UnlabelledSets as sets
use Rattle.listing_laws.proofs.unlabelled_sets_are_listed.Goals as goal

pub returns : goal.returns
returns c = sets.unlabelled_sets_are_listed
