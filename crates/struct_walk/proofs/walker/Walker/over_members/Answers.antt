use Rattle.struct_walk.proofs.WalkerLemmas.{whole_asked, members_small}
use Rattle.struct_walk.proofs.walker.Walker.over_members.Goals as goal

pub open_rule-requires-clause-asked : goal.open_rule-requires-clause-asked
open_rule-requires-clause-asked c =
    whole_asked c.args.counted.now c.grammar-grammar.result.now c.in_ok-supply.supply c.universe.result c.size.result c.grammar-grammar.ensures.value c.universe.ensures c.size.ensures
    c.in_ok-supply.ensures.labels c.in_ok-supply.ensures.universe c.in_ok-supply.ensures.in_order

pub returns-clause-has_rest : goal.returns-clause-has_rest
returns-clause-has_rest c =
    members_small c.args.counted.now c.grammar-grammar.ensures.kept c.unwrap-sym.result c.in_ok-supply.supply c.in_ok-later.later c.in_ok-later.s
    (whole_asked c.args.counted.now c.grammar-grammar.result.now c.in_ok-supply.supply c.universe.result c.size.result c.grammar-grammar.ensures.value c.universe.ensures c.size.ensures
    c.in_ok-supply.ensures.labels c.in_ok-supply.ensures.universe c.in_ok-supply.ensures.in_order)
    c.in_ok-later.ensures
