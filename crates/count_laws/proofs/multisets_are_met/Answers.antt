use Rattle.count_laws.proofs.Pointed as pointed
use Rattle.count_laws.proofs.multisets_are_met.Goals as goal

pub returns : goal.returns
returns g c = pointed.multisets_are_met _
