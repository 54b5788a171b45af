use Rattle.listing_laws.proofs.Equations as equations
use Rattle.listing_laws.proofs.words_are_listed.Goals as goal

pub returns : goal.returns
returns c = equations.words_are_listed
