use Rattle.struct_model.proofs.ListingLaws.{one_listing}
use Rattle.struct_model.proofs.laws.listing_is_unique.Goals as goal

pub returns : goal.returns
returns c = one_listing
