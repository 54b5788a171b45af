use Rattle.session.proofs.EffectsExist.{some_effect, one_effect}
use Rattle.session.proofs.laws.each_statement_has_one_effect.Goals as goal

pub returns-clause-some : goal.returns-clause-some
returns-clause-some c = some_effect

pub returns-clause-one : goal.returns-clause-one
returns-clause-one c = one_effect
