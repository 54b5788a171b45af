use Rattle.draw_steps.proofs.FairDraws as draws
use Rattle.draw_steps.proofs.laws.draws_are_fair.Goals as goal

pub returns : goal.returns
returns c = draws.draws_are_fair
