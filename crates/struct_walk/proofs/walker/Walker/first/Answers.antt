use Rattle.std.proofs.Common.{arith}
use Rattle.struct_walk.proofs.WalkerLemmas.{none_on, some_on, opened_small}
use Rattle.struct_walk.proofs.walker.Walker.first.Goals as goal

pub returns-then-number-eq0-clause-rest : goal.returns-then-number-eq0-clause-rest
returns-then-number-eq0-clause-rest c =
    none_on c.args.counted.now c.grammar.ensures.kept c.args.node c.args.supply c.requires.asked c.len.result c.number.result c.len.ensures c.number.ensures c.if-number-eq0.true

pub open_node-requires-clause-some : goal.open_node-requires-clause-some
open_node-requires-clause-some c =
    some_on c.args.counted.now c.grammar.ensures.kept c.args.node c.args.supply c.requires.asked c.len.result c.number.result c.len.ensures c.number.ensures (omega arith)

pub returns-clause-has_rest : goal.returns-clause-has_rest
returns-clause-has_rest c = opened_small c.args.counted.now c.grammar.ensures.kept c.args.node c.args.supply c.in_ok-later.later c.in_ok-later.s c.requires.asked c.in_ok-later.ensures
