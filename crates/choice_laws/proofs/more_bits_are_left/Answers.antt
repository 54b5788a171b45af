use Rattle.choice_laws.proofs.Followed as followed
use Rattle.choice_laws.proofs.more_bits_are_left.Goals as goal

pub returns : goal.returns
returns g c = followed.more_bits_are_left _
