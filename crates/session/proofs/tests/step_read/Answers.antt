use Rattle.spec_reader.proofs.Small.{readings-small}
use Rattle.session.proofs.tests.step_read.Goals as goal

pub step-requires-clause-small : goal.step-requires-clause-small
step-requires-clause-small g c = readings-small c.args.piece.now c.in-Ok.statement c.in-Ok.ensures.read
