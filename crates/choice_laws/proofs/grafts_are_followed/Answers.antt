use Rattle.choice_laws.proofs.Grafts as grafts
use Rattle.choice_laws.proofs.grafts_are_followed.Goals as goal

pub returns : goal.returns
returns g c = grafts.grafts_are_followed _ _
