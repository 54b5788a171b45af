-- Containers by their kinds, arguments by their numbers, and components from the left.
use Rattle.std.proofs.Common.{Bool, false, Option, sym, ap, ◌∙◌, arith}
use Rattle.std.specs.Option.{option_map_or}
use Rattle.spec_syntax.specs.Expression.{Expression, expressions_of}
use Rattle.spec_syntax.specs.Grammar.{Grammar}
use Rattle.struct_model.specs.Membership.{is_of, argument}
use Rattle.canon.proofs.Members.{argument_at, argument_zero, argument_beyond, other_number, bound_broken, sequence_kept, set_kept, powerset_kept, cycle_kept, second_decides, first_fails}
use Rattle.canon.proofs.membership.+checking.Goals as goal
use Rattle.canon.proofs.membership.+checking.Goals.{is_of_argument-then-number-eq0-via-then-number-eq0, is_of_argument-then-number-eq0-via-else-number-eq0+then-number-arguments}

pub is_of_many-returns-then-not-admits : goal.is_of_many-returns-then-not-admits
is_of_many-returns-then-not-admits t c =
    bound_broken (record { rules = c.args.spec.now; universe = c.args.universe }) c.args.element.now c.args.card c.args.parts.now c.args.kind c.args.form
    (sym c.admits.ensures ∙ c.if-not-admits.true)

pub is_of_many-returns-in-Sequence-Sequence : goal.is_of_many-returns-in-Sequence-Sequence
is_of_many-returns-in-Sequence-Sequence t c =
    c.are_of.ensures
    ∙ sym (sequence_kept (record { rules = c.args.spec.now; universe = c.args.universe }) c.args.element.now c.args.card c.args.parts.now c.args.kind c.args.form
    (sym c.admits.ensures ∙ c.if-not-admits.false) c.in-Sequence-Sequence.is-0 c.in-Sequence-Sequence.is-1)

pub is_of_many-returns-then-is_sorted : goal.is_of_many-returns-then-is_sorted
is_of_many-returns-then-is_sorted t c =
    second_decides _ _ _ c.is_sorted.result c.are_of-then-is_sorted.result
    (set_kept (record { rules = c.args.spec.now; universe = c.args.universe }) c.args.element.now c.args.card c.args.parts.now c.args.kind c.args.form
    (sym c.admits.ensures ∙ c.if-not-admits.false) c.in-Set-Set.is-0 c.in-Set-Set.is-1)
    c.is_sorted.ensures c.if-is_sorted.true c.are_of-then-is_sorted.ensures

pub is_of_many-returns-else-is_sorted : goal.is_of_many-returns-else-is_sorted
is_of_many-returns-else-is_sorted t c =
    first_fails _ _ _ c.is_sorted.result
    (set_kept (record { rules = c.args.spec.now; universe = c.args.universe }) c.args.element.now c.args.card c.args.parts.now c.args.kind c.args.form
    (sym c.admits.ensures ∙ c.if-not-admits.false) c.in-Set-Set.is-0 c.in-Set-Set.is-1)
    c.is_sorted.ensures c.if-is_sorted.false

pub is_of_many-returns-then-is_strictly_sorted : goal.is_of_many-returns-then-is_strictly_sorted
is_of_many-returns-then-is_strictly_sorted t c =
    second_decides _ _ _ c.is_strictly_sorted.result c.are_of-then-is_strictly_sorted.result
    (powerset_kept (record { rules = c.args.spec.now; universe = c.args.universe }) c.args.element.now c.args.card c.args.parts.now c.args.kind c.args.form
    (sym c.admits.ensures ∙ c.if-not-admits.false) c.in-PowerSet-PowerSet.is-0 c.in-PowerSet-PowerSet.is-1)
    c.is_strictly_sorted.ensures c.if-is_strictly_sorted.true c.are_of-then-is_strictly_sorted.ensures

pub is_of_many-returns-else-is_strictly_sorted : goal.is_of_many-returns-else-is_strictly_sorted
is_of_many-returns-else-is_strictly_sorted t c =
    first_fails _ _ _ c.is_strictly_sorted.result
    (powerset_kept (record { rules = c.args.spec.now; universe = c.args.universe }) c.args.element.now c.args.card c.args.parts.now c.args.kind c.args.form
    (sym c.admits.ensures ∙ c.if-not-admits.false) c.in-PowerSet-PowerSet.is-0 c.in-PowerSet-PowerSet.is-1)
    c.is_strictly_sorted.ensures c.if-is_strictly_sorted.false

pub is_of_many-returns-then-is_cycle : goal.is_of_many-returns-then-is_cycle
is_of_many-returns-then-is_cycle t c =
    second_decides _ _ _ c.is_cycle.result c.are_of-then-is_cycle.result
    (cycle_kept (record { rules = c.args.spec.now; universe = c.args.universe }) c.args.element.now c.args.card c.args.parts.now c.args.kind c.args.form
    (sym c.admits.ensures ∙ c.if-not-admits.false) c.in-Cycle-Cycle.is-0 c.in-Cycle-Cycle.is-1)
    c.is_cycle.ensures c.if-is_cycle.true c.are_of-then-is_cycle.ensures

pub is_of_many-returns-else-is_cycle : goal.is_of_many-returns-else-is_cycle
is_of_many-returns-else-is_cycle t c =
    first_fails _ _ _ c.is_cycle.result
    (cycle_kept (record { rules = c.args.spec.now; universe = c.args.universe }) c.args.element.now c.args.card c.args.parts.now c.args.kind c.args.form
    (sym c.admits.ensures ∙ c.if-not-admits.false) c.in-Cycle-Cycle.is-0 c.in-Cycle-Cycle.is-1)
    c.is_cycle.ensures c.if-is_cycle.false

pub are_of_each-returns-then-arguments-parts : goal.are_of_each-returns-then-arguments-parts
are_of_each-returns-then-arguments-parts t c =
    sym (other_number (record { rules = c.args.spec.now; universe = c.args.universe }) c.args.arguments.now c.args.parts.now c.if-arguments-parts.true)

pub is_of_argument-returns-then-number-eq0 : goal.is_of_argument-returns-then-number-eq0
is_of_argument-returns-then-number-eq0 t c =
    let g : Grammar = record { rules = c.args.spec.now; universe = c.args.universe } in
    let of_argument : Option Expression → Bool = λ o. option_map_or (λ (e : Expression). is_of g e c.args.inside.now) o false in
    elim c.then-number-eq0.branch [
      | is_of_argument-then-number-eq0-via-then-number-eq0 w ↦
          sym (ap (λ k. of_argument (argument (expressions_of c.args.arguments.now) k)) w.if-number-eq0.true ∙ ap of_argument (argument_zero c.args.arguments.now))
      | is_of_argument-then-number-eq0-via-else-number-eq0+then-number-arguments w ↦
          sym (ap of_argument (argument_beyond c.args.arguments.now c.args.number w.if-number-arguments.true))
    ]

pub is_of_argument-returns : goal.is_of_argument-returns
is_of_argument-returns t c =
    let g : Grammar = record { rules = c.args.spec.now; universe = c.args.universe } in
    let of_argument : Option Expression → Bool = λ o. option_map_or (λ (e : Expression). is_of g e c.args.inside.now) o false in
    c.is_structure.ensures
    ∙ ap of_argument (sym (argument_at c.args.arguments.now c.args.number c.index-arguments-number.result
    (omega (arith, c.if-number-eq0.false)) c.if-number-arguments.false c.index-arguments-number.is))
