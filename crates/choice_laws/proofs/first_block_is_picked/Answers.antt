use Rattle.choice_laws.proofs.Picked as picked
use Rattle.choice_laws.proofs.first_block_is_picked.Goals as goal

pub returns : goal.returns
returns g = picked.first_block_is_picked
