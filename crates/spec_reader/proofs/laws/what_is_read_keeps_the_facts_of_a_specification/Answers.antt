use Rattle.spec_reader.proofs.InForce.{readings-in-force}
use Rattle.spec_reader.proofs.Keeps.{readings-keep}
use Rattle.spec_reader.proofs.Small.{readings-small}
use Rattle.spec_reader.proofs.laws.what_is_read_keeps_the_facts_of_a_specification.Goals as goal

pub returns-clause-in_force : goal.returns-clause-in_force
returns-clause-in_force c = readings-in-force

pub returns-clause-keeps : goal.returns-clause-keeps
returns-clause-keeps c = readings-keep

pub returns-clause-small : goal.returns-clause-small
returns-clause-small c = readings-small
