-- The word alone.
use Rattle.struct_text.proofs.Leaves.{epsilon_read}
use Rattle.struct_text.proofs.entering.read_epsilon.Goals as goal

pub returns-then-take : goal.returns-then-take
returns-then-take c = λ rules spelled. epsilon_read rules c.args.rule c.args.left.now c.args.word.now c.take.new.self c.requires spelled (c.take.ensures.taken c.if-take.true)
