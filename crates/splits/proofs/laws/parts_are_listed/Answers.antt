use Rattle.splits.proofs.SplitsListed as listed
use Rattle.splits.proofs.laws.parts_are_listed.Goals as goal

pub returns : goal.returns
returns c = listed.parts_are_listed
