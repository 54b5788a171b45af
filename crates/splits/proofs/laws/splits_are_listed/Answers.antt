use Rattle.splits.proofs.SplitsListed as listed
use Rattle.splits.proofs.laws.splits_are_listed.Goals as goal

pub returns : goal.returns
returns c = listed.splits_are_listed
