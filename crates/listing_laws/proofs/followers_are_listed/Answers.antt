use Rattle.listing_laws.proofs.Followers as followers
use Rattle.listing_laws.proofs.followers_are_listed.Goals as goal

pub returns : goal.returns
returns c = followers.followers_are_listed
