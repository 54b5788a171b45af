use Rattle.choice_laws.proofs.Evens as evens
use Rattle.choice_laws.proofs.grafts_are_even.Goals as goal

pub returns : goal.returns
returns g c = evens.grafts_are_even _ _
