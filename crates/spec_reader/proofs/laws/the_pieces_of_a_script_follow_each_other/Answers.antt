use Rattle.spec_reader.proofs.PieceLemmas.{pieces-go-on, pieces-follow}
use Rattle.spec_reader.proofs.laws.the_pieces_of_a_script_follow_each_other.Goals as goal

pub returns-clause-go_on : goal.returns-clause-go_on
returns-clause-go_on c = pieces-go-on

pub returns-clause-follow : goal.returns-clause-follow
returns-clause-follow c = pieces-follow
