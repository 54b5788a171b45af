use Rattle.spec_reader.proofs.Pieces.{one-fault}
use Rattle.spec_reader.proofs.laws.a_piece_has_one_fault.Goals as goal

pub returns : goal.returns
returns c = one-fault
