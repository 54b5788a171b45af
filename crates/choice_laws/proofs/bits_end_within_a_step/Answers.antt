use Rattle.choice_laws.proofs.Followed as followed
use Rattle.choice_laws.proofs.bits_end_within_a_step.Goals as goal

pub returns : goal.returns
returns g c = followed.bits_end_within_a_step _
