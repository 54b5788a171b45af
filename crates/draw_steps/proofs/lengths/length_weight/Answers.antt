-- With one component less.
use Rattle.draw_steps.proofs.LengthLemmas.{fewer}
use Rattle.draw_steps.proofs.lengths.length_weight.Goals as goal

pub lists_number-others-requires-clause-missing : goal.lists_number-others-requires-clause-missing
lists_number-others-requires-clause-missing c = fewer c.args.counted.now c.args.lists c.args.missing c.requires.missing
