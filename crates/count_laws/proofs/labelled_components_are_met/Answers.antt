use Rattle.count_laws.proofs.LabelledSets as sets
use Rattle.count_laws.proofs.labelled_components_are_met.Goals as goal

pub returns : goal.returns
returns c = sets.labelled_components
