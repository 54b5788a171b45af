use Rattle.choice_laws.proofs.Evens as evens
use Rattle.choice_laws.proofs.even_instead.Goals as goal

pub returns : goal.returns
returns g c = evens.even_instead _
