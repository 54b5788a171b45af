use Rattle.listing_laws.proofs.SortedComponents as sorted
use Rattle.listing_laws.proofs.sorted_listings_recur.Goals as goal

pub returns : goal.returns
returns c = sorted.sorted_listings_recur
