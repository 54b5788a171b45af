-- A number that is found by its name is that of a rule.
use Rattle.std.proofs.Common.{sym}
use Rattle.spec_syntax.proofs.RulesLemmas.{symbol-within}
use Rattle.canon.proofs.membership.right_side_of.Goals as goal

pub right-requires-clause-low : goal.right-requires-clause-low
right-requires-clause-low c = (symbol-within c.args.spec.now c.args.name.now c.in_ok-number.number (sym c.in_ok-number.ensures)).0

pub right-requires-clause-high : goal.right-requires-clause-high
right-requires-clause-high c = (symbol-within c.args.spec.now c.args.name.now c.in_ok-number.number (sym c.in_ok-number.ensures)).1
