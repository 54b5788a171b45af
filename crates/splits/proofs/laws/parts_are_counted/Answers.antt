use Rattle.splits.proofs.NthPart as counted
use Rattle.splits.proofs.laws.parts_are_counted.Goals as goal

pub returns : goal.returns
returns c = counted.parts_are_counted
