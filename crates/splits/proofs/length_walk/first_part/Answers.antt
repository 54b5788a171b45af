-- The first labels of the least length that is admitted are the first part, where there are enough.
use Rattle.std.proofs.Common.{subst, take, arith, ap, ◌∙◌}
use Rattle.splits.specs.Lengths.{IsLeastFrom}
use Rattle.splits.proofs.WalkLemmas.{no_first, short_first, first_zeros, first_zeros_part, first_labels, first_labels_part}
use Rattle.splits.proofs.length_walk.first_part.Goals as goal

pub returns-in_default-clause-all : goal.returns-in_default-clause-all
returns-in_default-clause-all c = no_first c.args.supply.now c.args.lengths.now (subst (IsLeastFrom c.args.lengths.now 0) c.in_default.is c.least_from.ensures)

pub returns-then-len-length-clause-all : goal.returns-then-len-length-clause-all
returns-then-len-length-clause-all c =
    short_first c.args.supply.now c.args.lengths.now c.in-Some.length (subst (IsLeastFrom c.args.lengths.now 0) c.in-Some.is c.least_from.ensures) (omega arith)

pub returns-in-Zeros-clause-all : goal.returns-in-Zeros-clause-all
returns-in-Zeros-clause-all c =
    first_zeros c.args.supply.now c.args.lengths.now c.in-Some.length c.in-Zeros.field-0 c.in-Zeros.is (subst (IsLeastFrom c.args.lengths.now 0) c.in-Some.is c.least_from.ensures) (omega arith)

pub returns-in-Zeros-clause-kept : goal.returns-in-Zeros-clause-kept
returns-in-Zeros-clause-kept c =
    first_zeros_part c.args.supply.now c.args.lengths.now c.in-Some.length c.in-Zeros.field-0 c.in-Zeros.is
    (subst (IsLeastFrom c.args.lengths.now 0) c.in-Some.is c.least_from.ensures) (omega arith)

pub returns-in_ok-part-in-Labels-clause-all : goal.returns-in_ok-part-in-Labels-clause-all
returns-in_ok-part-in-Labels-clause-all c =
    first_labels c.args.supply.now c.args.lengths.now c.in-Some.length c.in-Labels.labels c.in_ok-part-in-Labels.part c.in-Labels.is c.requires
    (subst (IsLeastFrom c.args.lengths.now 0) c.in-Some.is c.least_from.ensures) (omega arith)
    (c.in_ok-part-in-Labels.ensures ∙ ap (take c.in-Some.length) c.as_slice-labels.ensures)

pub returns-in_ok-part-in-Labels-clause-kept : goal.returns-in_ok-part-in-Labels-clause-kept
returns-in_ok-part-in-Labels-clause-kept c =
    first_labels_part c.args.supply.now c.args.lengths.now c.in-Some.length c.in-Labels.labels c.in_ok-part-in-Labels.part c.in-Labels.is c.requires
    (subst (IsLeastFrom c.args.lengths.now 0) c.in-Some.is c.least_from.ensures) (omega arith)
    (c.in_ok-part-in-Labels.ensures ∙ ap (take c.in-Some.length) c.as_slice-labels.ensures)
