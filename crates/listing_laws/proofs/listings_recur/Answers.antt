use Rattle.listing_laws.proofs.Recursion as recursion
use Rattle.listing_laws.proofs.listings_recur.Goals as goal

pub returns : goal.returns
returns c = recursion.listings_recur
