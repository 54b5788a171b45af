-- The zeros that are left, or the labels.
use Rattle.splits.proofs.WalkLemmas.{given_split, rest_labels, rest_ascends, taken_within, rest_zeros}
use Rattle.splits.proofs.length_walk.remaining.Goals as goal

pub overflow_sub-result : goal.overflow_sub-result
overflow_sub-result c = taken_within c.args.supply.now c.args.part.now c.in-Zeros.n c.len.result c.in-Zeros.is c.len.ensures c.requires.part

pub remaining_labels-requires-clause-part : goal.remaining_labels-requires-clause-part
remaining_labels-requires-clause-part c =
    given_split c.args.supply.now c.args.part.now c.in-Labels.labels c.as_slice.result.now c.given_labels.result.now c.in-Labels.is c.as_slice.ensures c.given_labels.ensures c.requires.in_order c.requires.part

pub returns-in-Zeros-clause-rest : goal.returns-in-Zeros-clause-rest
returns-in-Zeros-clause-rest c = rest_zeros c.args.supply.now c.args.part.now c.in-Zeros.n c.len.result c.in-Zeros.is c.len.ensures c.requires.part

pub returns-in_ok-rest-in-Labels-clause-rest : goal.returns-in_ok-rest-in-Labels-clause-rest
returns-in_ok-rest-in-Labels-clause-rest c =
    rest_labels c.args.supply.now c.args.part.now c.in-Labels.labels c.as_slice.result.now c.given_labels.result.now c.in-Labels.is c.as_slice.ensures c.given_labels.ensures c.requires.in_order c.requires.part
    c.in_ok-rest-in-Labels.rest c.in_ok-rest-in-Labels.ensures

pub returns-in_ok-rest-in-Labels-clause-in_order : goal.returns-in_ok-rest-in-Labels-clause-in_order
returns-in_ok-rest-in-Labels-clause-in_order c =
    rest_ascends c.args.supply.now c.args.part.now c.in-Labels.labels c.as_slice.result.now c.given_labels.result.now c.in-Labels.is c.as_slice.ensures c.given_labels.ensures c.requires.in_order c.requires.part
    c.in_ok-rest-in-Labels.rest c.in_ok-rest-in-Labels.ensures
