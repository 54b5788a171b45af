use Rattle.count_laws.proofs.MultisetNumbers as numbers
use Rattle.count_laws.proofs.multisets_are_counted.Goals as goal

pub returns : goal.returns
returns g c = numbers.multisets_are_counted _
