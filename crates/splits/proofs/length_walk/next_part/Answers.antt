-- The zeros of the next length, or the next labels, where there are any.
use Rattle.std.proofs.Common.{◌≡◌, ◌+◌, List, ℕ, Option, Some, None, subst}
use Rattle.std.specs.Option.{IfSome}
use Rattle.splits.specs.Lengths.{IsLeastFrom}
use Rattle.splits.specs.Parts.{parts_of, after, from_part, IsPart}
use Rattle.splits.proofs.WalkLemmas.{later_zeros, later_zeros_part, no_later_zeros, given_part, later_labels, later_labels_part}
use Rattle.splits.proofs.length_walk.next_part.Goals as goal

pub next_labels-requires-clause-part : goal.next_labels-requires-clause-part
next_labels-requires-clause-part c =
    given_part c.args.supply.now c.args.part.now c.in-Labels.labels c.as_slice.result.now c.given_labels.result.now c.in-Labels.is c.as_slice.ensures c.given_labels.ensures c.requires.in_order
    c.args.lengths.now c.requires.part

pub returns-in_default-clause-later : goal.returns-in_default-clause-later
returns-in_default-clause-later c =
    no_later_zeros c.args.supply.now c.args.part.now c.args.lengths.now c.in-Zeros.n c.len.result c.in-Zeros.is c.len.ensures c.requires.part None
    (subst (IsLeastFrom c.args.lengths.now (c.len.result + 1)) c.in_default.is c.least_from.ensures) tt

pub returns-then-length-n-clause-later : goal.returns-then-length-n-clause-later
returns-then-length-n-clause-later c =
    later_zeros c.args.supply.now c.args.part.now c.args.lengths.now c.in-Zeros.n c.len.result c.in-Zeros.is c.len.ensures c.requires.part c.in-Some.length
    (subst (IsLeastFrom c.args.lengths.now (c.len.result + 1)) c.in-Some.is c.least_from.ensures) c.if-length-n.true

pub returns-then-length-n-clause-kept : goal.returns-then-length-n-clause-kept
returns-then-length-n-clause-kept c =
    later_zeros_part c.args.supply.now c.args.part.now c.args.lengths.now c.in-Zeros.n c.len.result c.in-Zeros.is c.len.ensures c.requires.part c.in-Some.length
    (subst (IsLeastFrom c.args.lengths.now (c.len.result + 1)) c.in-Some.is c.least_from.ensures) c.if-length-n.true

pub returns-else-length-n-clause-later : goal.returns-else-length-n-clause-later
returns-else-length-n-clause-later c =
    no_later_zeros c.args.supply.now c.args.part.now c.args.lengths.now c.in-Zeros.n c.len.result c.in-Zeros.is c.len.ensures c.requires.part (Some c.in-Some.length)
    (subst (IsLeastFrom c.args.lengths.now (c.len.result + 1)) c.in-Some.is c.least_from.ensures) c.if-length-n.false

pub returns-in-Some-2-clause-later : goal.returns-in-Some-2-clause-later
returns-in-Some-2-clause-later c =
    later_labels c.args.supply.now c.args.part.now c.in-Labels.labels c.as_slice.result.now c.given_labels.result.now c.in-Labels.is c.as_slice.ensures c.given_labels.ensures c.requires.in_order
    c.args.lengths.now c.requires.part (Some c.in-Some-2.next)
    (subst (λ (o : Option (List ℕ)). from_part o (parts_of c.args.lengths.now c.as_slice.result.now) ≡ after c.given_labels.result.now (parts_of c.args.lengths.now c.as_slice.result.now)) c.in-Some-2.is
    c.in_ok-next-in-Labels.ensures.later)

pub returns-in-Some-2-clause-kept : goal.returns-in-Some-2-clause-kept
returns-in-Some-2-clause-kept c =
    later_labels_part c.args.supply.now c.args.part.now c.in-Labels.labels c.as_slice.result.now c.given_labels.result.now c.in-Labels.is c.as_slice.ensures c.given_labels.ensures c.requires.in_order
    c.args.lengths.now c.requires.part c.in-Some-2.next
    (subst (λ (o : Option (List ℕ)). IfSome o (λ next. IsPart next (parts_of c.args.lengths.now c.as_slice.result.now))) c.in-Some-2.is c.in_ok-next-in-Labels.ensures.part)

pub returns-in-None-clause-later : goal.returns-in-None-clause-later
returns-in-None-clause-later c =
    later_labels c.args.supply.now c.args.part.now c.in-Labels.labels c.as_slice.result.now c.given_labels.result.now c.in-Labels.is c.as_slice.ensures c.given_labels.ensures c.requires.in_order
    c.args.lengths.now c.requires.part None
    (subst (λ (o : Option (List ℕ)). from_part o (parts_of c.args.lengths.now c.as_slice.result.now) ≡ after c.given_labels.result.now (parts_of c.args.lengths.now c.as_slice.result.now)) c.in-None.is
    c.in_ok-next-in-Labels.ensures.later)
