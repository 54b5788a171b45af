use Rattle.choice_laws.proofs.Written as written
use Rattle.choice_laws.proofs.blocks_write_values.Goals as goal

pub returns : goal.returns
returns g = written.blocks_write_values
