use Rattle.listing_laws.proofs.EndlessMembers as members
use Rattle.listing_laws.proofs.endless_by_members.Goals as goal

pub returns : goal.returns
returns c = members.endless_by_members
