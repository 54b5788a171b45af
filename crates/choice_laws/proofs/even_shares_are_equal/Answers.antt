use Rattle.choice_laws.proofs.Evens as evens
use Rattle.choice_laws.proofs.even_shares_are_equal.Goals as goal

pub returns : goal.returns
returns g c = evens.even_shares_are_equal _
