-- The least rotation is one list, of the same atoms.
use Rattle.draw_steps.proofs.Turned.{turned_is}
use Rattle.draw_steps.proofs.Atoms.{atoms_turned}
use Rattle.draw_steps.proofs.making.turned.Goals as goal

pub returns-clause-turned : goal.returns-clause-turned
returns-clause-turned c = turned_is c.args.components.now c.in_ok-whole.whole c.requires c.in_ok-whole.ensures.rotation c.in_ok-whole.ensures.least

pub returns-clause-atoms : goal.returns-clause-atoms
returns-clause-atoms c = atoms_turned c.args.components.now c.in_ok-whole.whole c.in_ok-whole.ensures.rotation
