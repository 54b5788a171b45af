-- The first runs of both keys decide, or the keys go on alike.
use Rattle.std.proofs.Common.{◌+◌, is_some, sym, ap, ◌∙◌, arith}
use Rattle.struct_model.specs.Structure.{labels}
use Rattle.struct_model.specs.Runs.{first_run}
use Rattle.struct_model.proofs.KeyOrder.{is_lesser, is_same, is_greater, both_end, left_ends, right_ends, labels_differ, begins, runs_alike, left_goes_on, left_stops, right_goes_on, right_stops}
use Rattle.struct_model.proofs.keys.compare_first_runs.Goals as goal

pub returns-in-None-None : goal.returns-in-None-None
returns-in-None-None c =
    sym (both_end c.args.low (labels c.args.s.now) (labels c.args.t.now) (sym c.first_run.ensures ∙ c.in-None-None.is-0) (sym c.first_run-2.ensures ∙ c.in-None-None.is-1))

pub returns-in-None-Some : goal.returns-in-None-Some
returns-in-None-Some c =
    sym (left_ends c.args.low (labels c.args.s.now) (labels c.args.t.now) c.in-None-Some.field-0-1 (sym c.first_run.ensures ∙ c.in-None-Some.is-0) (sym c.first_run-2.ensures ∙ c.in-None-Some.is-1))

pub returns-in-Some-None : goal.returns-in-Some-None
returns-in-Some-None c =
    sym (right_ends c.args.low (labels c.args.s.now) (labels c.args.t.now) c.in-Some-None.field-0-0 (sym c.first_run.ensures ∙ c.in-Some-None.is-0) (sym c.first_run-2.ensures ∙ c.in-Some-None.is-1))

pub returns-then-here-there : goal.returns-then-here-there
returns-then-here-there c =
    c.cmp.ensures ∙ sym (labels_differ c.args.low (labels c.args.s.now) (labels c.args.t.now) c.in-Some-Some.here c.in-Some-Some.there (sym c.first_run.ensures ∙ c.in-Some-Some.is-0) (sym c.first_run-2.ensures ∙ c.in-Some-Some.is-1) c.if-here-there.true)

pub returns-in-Equal : goal.returns-in-Equal
returns-in-Equal c =
    rw c.from-next.ensures (
      omega (arith, (begins c.args.low (labels c.args.s.now) c.in-Some-Some.here (sym c.first_run.ensures ∙ c.in-Some-Some.is-0)).above),
      omega arith,
      runs_alike c.args.low (labels c.args.s.now) (labels c.args.t.now) c.in-Some-Some.here c.in-Some-Some.there (sym c.first_run.ensures ∙ c.in-Some-Some.is-0) (sym c.first_run-2.ensures ∙ c.in-Some-Some.is-1) c.if-here-there.false (is_same _ _ (sym c.in-Equal.is ∙ c.cmp-2.ensures)),
    )

pub returns-in-Less : goal.returns-in-Less
returns-in-Less c =
    let known = ap (λ m. is_some (first_run (m + 1) (labels c.args.s.now))) (sym c.from-next.ensures) ∙ sym c.if-has_label_from.ensures in
    sym (left_goes_on c.args.low (labels c.args.s.now) (labels c.args.t.now) c.in-Some-Some.here c.in-Some-Some.there (sym c.first_run.ensures ∙ c.in-Some-Some.is-0) (sym c.first_run-2.ensures ∙ c.in-Some-Some.is-1) c.if-here-there.false (is_lesser _ _ (sym c.in-Less.is ∙ c.cmp-2.ensures)) known)

pub returns-in-Less-2 : goal.returns-in-Less-2
returns-in-Less-2 c =
    let known = ap (λ m. is_some (first_run (m + 1) (labels c.args.s.now))) (sym c.from-next.ensures) ∙ sym c.if-has_label_from.ensures in
    sym (left_stops c.args.low (labels c.args.s.now) (labels c.args.t.now) c.in-Some-Some.here c.in-Some-Some.there (sym c.first_run.ensures ∙ c.in-Some-Some.is-0) (sym c.first_run-2.ensures ∙ c.in-Some-Some.is-1) c.if-here-there.false (is_lesser _ _ (sym c.in-Less-2.is ∙ c.cmp-2.ensures)) known)

pub returns-in-Greater : goal.returns-in-Greater
returns-in-Greater c =
    let known = ap (λ m. is_some (first_run (m + 1) (labels c.args.t.now))) (sym c.from-next.ensures) ∙ sym c.if-has_label_from-2.ensures in
    sym (right_goes_on c.args.low (labels c.args.s.now) (labels c.args.t.now) c.in-Some-Some.here c.in-Some-Some.there (sym c.first_run.ensures ∙ c.in-Some-Some.is-0) (sym c.first_run-2.ensures ∙ c.in-Some-Some.is-1) c.if-here-there.false (is_greater _ _ (sym c.in-Greater.is ∙ c.cmp-2.ensures)) known)

pub returns-in-Greater-2 : goal.returns-in-Greater-2
returns-in-Greater-2 c =
    let known = ap (λ m. is_some (first_run (m + 1) (labels c.args.t.now))) (sym c.from-next.ensures) ∙ sym c.if-has_label_from-2.ensures in
    sym (right_stops c.args.low (labels c.args.s.now) (labels c.args.t.now) c.in-Some-Some.here c.in-Some-Some.there (sym c.first_run.ensures ∙ c.in-Some-Some.is-0) (sym c.first_run-2.ensures ∙ c.in-Some-Some.is-1) c.if-here-there.false (is_greater _ _ (sym c.in-Greater-2.is ∙ c.cmp-2.ensures)) known)
