use Rattle.spec_reader.proofs.Pieces.{one-reading}
use Rattle.spec_reader.proofs.laws.a_piece_reads_as_one_statement.Goals as goal

pub returns : goal.returns
returns c = one-reading
