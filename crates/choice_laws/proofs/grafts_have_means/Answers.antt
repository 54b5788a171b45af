use Rattle.choice_laws.proofs.Grafts as grafts
use Rattle.choice_laws.proofs.grafts_have_means.Goals as goal

pub returns : goal.returns
returns g c = grafts.grafts_have_means _ _
