use Rattle.size_counts.proofs.SaysLaws.{says_some, says_one}
use Rattle.size_counts.proofs.laws.numbers_of_a_class_say_one_thing.Goals as goal

pub returns-clause-some : goal.returns-clause-some
returns-clause-some c = says_some

pub returns-clause-one : goal.returns-clause-one
returns-clause-one c = says_one
