use Rattle.listing_laws.proofs.Numbers as numbers
use Rattle.listing_laws.proofs.numbers_recur.Goals as goal

pub returns : goal.returns
returns c = numbers.numbers_recur
