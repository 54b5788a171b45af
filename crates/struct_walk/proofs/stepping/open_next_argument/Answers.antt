use Rattle.std.proofs.Common.{◌<◌, length, subst, sym}
use Rattle.spec_syntax.specs.Rules.{all_nodes}
use Rattle.well_founded.specs.Checked.{Checked}
use Rattle.struct_walk.proofs.ReachedNodes.{reached_within}
use Rattle.struct_walk.proofs.StepArguments.{none_later, next_reached, next_some, next_opens}
use Rattle.struct_walk.proofs.stepping.open_next_argument.Goals as goal

pub returns-in_default : goal.returns-in_default
returns-in_default c =
    none_later c.args.counted.now c.args.node c.args.supply.now c.requires.stands c.args.number.now c.len-n.result c.len-n.ensures c.in_default.ensures.none

pub child-child-requires-clause-within : goal.child-child-requires-clause-within
child-child-requires-clause-within c =
    subst (λ (g : Checked). c.args.node < length (all_nodes g.rules)) (sym c.grammar.ensures.value)
    (reached_within c.args.counted.now c.grammar.ensures.kept c.args.node c.requires.stands.reached)

pub open_node-requires-clause-reached : goal.open_node-requires-clause-reached
open_node-requires-clause-reached c =
    next_reached c.args.counted.now c.args.node c.args.supply.now c.requires.stands c.args.number.now c.len-n.result c.len-n.ensures c.grammar.ensures.kept c.grammar.result.now c.grammar.ensures.value
    c.in-Some.next c.child-child.result c.in-Some.ensures.some c.child-child.ensures.value

pub open_node-requires-clause-some : goal.open_node-requires-clause-some
open_node-requires-clause-some c =
    next_some c.args.counted.now c.args.node c.args.supply.now c.requires.stands c.args.number.now c.len-n.result c.len-n.ensures c.grammar.ensures.kept c.grammar.result.now c.grammar.ensures.value
    c.in-Some.next c.child-child.result c.in-Some.ensures.some c.child-child.ensures.value c.in_ok-labels.labels c.in_ok-labels.ensures

pub returns : goal.returns
returns c =
    next_opens c.args.counted.now c.args.node c.args.supply.now c.requires.stands c.args.number.now c.len-n.result c.len-n.ensures c.grammar.ensures.kept c.grammar.result.now c.grammar.ensures.value
    c.in-Some.next c.child-child.result c.in-Some.ensures.some c.child-child.ensures.value c.in_ok-labels.labels c.in_ok-first.first c.in_ok-first.opened c.in_ok-labels.ensures c.in_ok-first.ensures
