use Rattle.well_founded.proofs.CheckSteps.{found_within}
use Rattle.well_founded.proofs.checking.number_of.Goals as goal

pub returns-in-Some-clause-within : goal.returns-in-Some-clause-within
returns-in-Some-clause-within c = found_within c.args.spec.now c.as_slice.result.now c.find.result c.find.ensures
