use Rattle.choice_laws.proofs.Evens as evens
use Rattle.choice_laws.proofs.choices_are_even.Goals as goal

pub returns : goal.returns
returns g c = evens.choices_are_even _ _
