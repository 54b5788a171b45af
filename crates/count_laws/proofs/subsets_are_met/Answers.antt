use Rattle.count_laws.proofs.Avoiding as avoiding
use Rattle.count_laws.proofs.subsets_are_met.Goals as goal

pub returns : goal.returns
returns g c = avoiding.subsets_are_met _
