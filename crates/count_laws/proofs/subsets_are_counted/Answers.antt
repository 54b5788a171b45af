use Rattle.count_laws.proofs.SubsetNumbers as numbers
use Rattle.count_laws.proofs.subsets_are_counted.Goals as goal

pub returns : goal.returns
returns g c = numbers.subsets_are_counted _
