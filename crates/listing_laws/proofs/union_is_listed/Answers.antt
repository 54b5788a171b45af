use Rattle.listing_laws.proofs.Equations as equations
use Rattle.listing_laws.proofs.union_is_listed.Goals as goal

pub returns : goal.returns
returns c = equations.union_is_listed
