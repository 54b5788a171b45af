-- Zeros have one part, and the lists of labels ascend.
use Rattle.splits.proofs.NthPart.{nth_zeros, nth_ascends}
use Rattle.splits.proofs.nth.nth_part.Goals as goal

pub returns-in-Zeros-clause-nth : goal.returns-in-Zeros-clause-nth
returns-in-Zeros-clause-nth c = nth_zeros c.args.supply.now c.in-Zeros.field-0 c.len-n.result c.args.d c.args.r c.in-Zeros.is c.len-n.ensures c.requires.length c.requires.before

pub returns-in_ok-part-in-Labels-clause-part_in_order : goal.returns-in_ok-part-in-Labels-clause-part_in_order
returns-in_ok-part-in-Labels-clause-part_in_order c =
    (nth_ascends c.args.supply.now c.in-Labels.labels c.in_ok-part-in-Labels.part c.in_ok-part-in-Labels.rest c.args.d c.args.r c.in-Labels.is c.requires.in_order c.as_slice.result.now c.as_slice.ensures
    c.in_ok-part-in-Labels.ensures).0

pub returns-in_ok-part-in-Labels-clause-rest_in_order : goal.returns-in_ok-part-in-Labels-clause-rest_in_order
returns-in_ok-part-in-Labels-clause-rest_in_order c =
    (nth_ascends c.args.supply.now c.in-Labels.labels c.in_ok-part-in-Labels.part c.in_ok-part-in-Labels.rest c.args.d c.args.r c.in-Labels.is c.requires.in_order c.as_slice.result.now c.as_slice.ensures
    c.in_ok-part-in-Labels.ensures).1
