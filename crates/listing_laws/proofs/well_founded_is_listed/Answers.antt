use Rattle.listing_laws.proofs.Recursion as recursion
use Rattle.listing_laws.proofs.well_founded_is_listed.Goals as goal

pub returns : goal.returns
returns c = recursion.well_founded_is_listed
