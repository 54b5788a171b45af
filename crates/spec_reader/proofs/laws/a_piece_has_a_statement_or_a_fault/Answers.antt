use Rattle.spec_reader.proofs.Pieces.{some-answer, never-both}
use Rattle.spec_reader.proofs.laws.a_piece_has_a_statement_or_a_fault.Goals as goal

pub returns-clause-some : goal.returns-clause-some
returns-clause-some c = some-answer

pub returns-clause-never_both : goal.returns-clause-never_both
returns-clause-never_both c = never-both
