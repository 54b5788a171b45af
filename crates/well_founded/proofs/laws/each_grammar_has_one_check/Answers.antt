use Rattle.well_founded.proofs.CheckExists.{says_some, says_one}
use Rattle.well_founded.proofs.laws.each_grammar_has_one_check.Goals as goal

pub returns-clause-some : goal.returns-clause-some
returns-clause-some c = says_some

pub returns-clause-one : goal.returns-clause-one
returns-clause-one c = says_one
