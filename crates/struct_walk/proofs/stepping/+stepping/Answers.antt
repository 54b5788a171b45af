use Rattle.std.proofs.Common.{◌≡◌, ◌+◌, [], arith, ap, sym, ◌∙◌, subst, drop, refl, Bool, IfOk}
use Rattle.std.proofs.lemmas.Result.{IfOk-weaker}
use Rattle.struct_model.specs.Structure.{Structure, Named, Alt, Tup, parts_of, nodes}
use Rattle.struct_walk.specs.declared.later.Later.{Later}
use Rattle.struct_walk.specs.Stands.{Stands, AreSmall}
use Rattle.struct_model.specs.StructureView.{structure_of}
use Rattle.struct_walk.specs.Tails.{on_splits}
use Rattle.struct_walk.specs.declared.later.Later as later
use Rattle.struct_walk.specs.After.{structures_after, sorted_after, parts_after}
use Rattle.struct_walk.specs.Opened.{Next, NextSorted, PartsOpen, PartsStepTo}
use Rattle.struct_walk.proofs.StepNodes.{weight, some_nodes, weight_of}
use Rattle.struct_walk.proofs.StepForms.{within_rule, named_stepped, word_after, argument_stands, argument_small, components_stand, components_small, components_next, components_end, components_few, ended, set_stands, set_small, set_next}
use Rattle.struct_walk.proofs.StepParts.{here, from_here, front_left, both_stand, small_others, others_step, component_stands, component_small, component_steps, split_steps}
use Rattle.struct_walk.proofs.StepSorted.{sorted_ended, later_small, next_front, next_fails, next_opens, sorted_within, at_place, all_stand, sorted_others_step, sorted_front, on_level, first_stand, size_steps, greater_ends, greater_steps}
use Rattle.struct_walk.proofs.StepLast.{from_place, last_stands, last_small}
use Rattle.struct_walk.proofs.stepping.+stepping.Goals.{step-in-Named, step-in-Alt, step-in-Tup, step-in-Eps, step-in-Eps-2}
use Rattle.struct_walk.proofs.stepping.+stepping.Goals as goal

pub step-step-stepped-requires : goal.step-step-stepped-requires
step-step-stepped-requires t c =
    let is : Named c.in-Named.field-0 c.in-Named.inside.value ≡ c.args.s.now = ap structure_of (sym c.in-Named.is) ∙ c.s.view_is in (
      omega (arith, c.decreases, ap nodes is, ap nodes c.deref_mut-inside.ensures.value),
      within_rule c.args.counted.now c.in-Named.field-0 c.args.later.now c.args.s.now c.in-Named.inside.value c.deref_mut-inside.result.now is c.deref_mut-inside.ensures.value c.requires.stands c.requires.small,
    )

pub step-returns : goal.step-returns
step-returns t c =
    let counts = c.args.counted.now in
    let old = c.args.later.now in
    elim c.match-s.branch [
      | step-in-Named w ↦ rw (w.later-is, w.result-is, w.s-inside-is) (
          named_stepped counts w.in-Named.field-0 old w.step-stepped.new.later c.args.s.now w.in-Named.inside.value w.deref_mut-inside.result.now w.step-stepped.new.s w.step-stepped.result
          (ap structure_of (sym w.in-Named.is) ∙ c.s.view_is) w.deref_mut-inside.ensures.value w.step-stepped.ensures)
      | step-in-Alt w ↦ rw (w.later-is, w.result-is, w.s-inside-is) (
          subst
          (λ (s : Structure). IfOk w.step_argument-stepped.result (Next counts (structures_after counts.checked old s) w.step_argument-stepped.new.later (Alt w.step_argument-stepped.new.number w.step_argument-stepped.new.inside)))
          (ap (Alt w.in-Alt.number) w.deref_mut-inside-in-Alt.ensures.value ∙ ap structure_of (sym w.in-Alt.is) ∙ c.s.view_is) w.step_argument-stepped.ensures)
      | step-in-Tup w ↦ rw (w.later-is, w.result-is, w.s-inside-is) (
          subst
          (λ (s : Structure). IfOk w.step_components.result (Next counts (structures_after counts.checked old s) w.step_components.new.later (Tup w.in-Tup.form (parts_of w.step_components.new.components))))
          (ap structure_of (sym w.in-Tup.is) ∙ c.s.view_is) w.step_components.ensures.next)
      | step-in-Eps w ↦ rw (w.later-is, w.result-is) (word_after counts.checked old c.s.inside.shape c.args.s.now c.s.view_is w.in-Eps.is)
      | step-in-Eps-2 w ↦ rw (w.later-is, w.result-is) (word_after counts.checked old c.s.inside.shape c.args.s.now c.s.view_is w.in-Eps.is)
    ]

pub step_argument-step-requires : goal.step_argument-step-requires
step_argument-step-requires t c = (
  omega (arith, c.decreases),
  subst (λ (l : Later). Stands c.args.counted.now l c.args.inside.now × AreSmall (structures_after c.args.counted.now.checked l c.args.inside.now)) (sym c.deref_mut.ensures.value) (
    (argument_stands c.args.counted.now c.args.later.now c.in-Argument.node c.in-Argument.supply _ c.in-Argument.inner.value c.in-Argument.is c.args.number.now c.args.inside.now c.requires.stands).0,
    argument_small c.args.counted.now c.args.later.now c.in-Argument.node c.in-Argument.supply _ c.in-Argument.inner.value c.in-Argument.is c.args.number.now c.args.inside.now c.requires.small,
  ),
)

pub step_components-step_lists-requires : goal.step_components-step_lists-requires
step_components-step_lists-requires t c = (
  omega (arith, c.decreases, ap weight c.replace-stepped.ensures.value),
  (
    omega arith,
    (
      components_stand c.args.counted.now c.args.later.now _ c.in-Components.lists.value c.deref_mut-2.result.now c.in-Components.is c.deref_mut-2.ensures.value c.args.form c.args.components.now
          c.replace-stepped.result c.replace-stepped.ensures.value c.requires.stands,
      components_small c.args.counted.now c.args.later.now _ c.in-Components.lists.value c.deref_mut-2.result.now c.in-Components.is c.deref_mut-2.ensures.value c.args.form c.args.components.now
          c.replace-stepped.result c.replace-stepped.ensures.value c.requires.small,
    ),
  ),
)

pub step_components-returns-then-branch-clause-next : goal.step_components-returns-then-branch-clause-next
step_components-returns-then-branch-clause-next t c =
    let steps = rw c.if-branch.true at c.in_ok-step_lists.ensures in
    components_next c.args.counted.now c.args.later.now _ c.in-Components.lists.value c.deref_mut-2.result.now c.in-Components.is c.deref_mut-2.ensures.value c.args.form c.args.components.now
    c.replace-stepped.result c.replace-stepped.ensures.value (record { ptr = c.in-Components.lists.ptr; alloc = c.in-Components.lists.alloc; value = tt }) c.step_lists.new.later c.step_lists.new.components steps

pub step_components-returns-then-branch-clause-few : goal.step_components-returns-then-branch-clause-few
step_components-returns-then-branch-clause-few t c =
    let steps = rw c.if-branch.true at c.in_ok-step_lists.ensures in
    components_few c.args.counted.now c.args.later.now _ c.in-Components.lists.value c.deref_mut-2.result.now c.in-Components.is c.deref_mut-2.ensures.value c.args.form c.args.components.now
    c.replace-stepped.result c.replace-stepped.ensures.value c.step_lists.new.later c.step_lists.new.components c.requires.small steps

pub step_components-returns-clause-next : goal.step_components-returns-clause-next
step_components-returns-clause-next t c =
    let ends = rw c.if-branch.false at c.in_ok-step_lists.ensures in
    components_end c.args.counted.now c.args.later.now _ c.in-Components.lists.value c.deref_mut-2.result.now c.in-Components.is c.deref_mut-2.ensures.value c.args.form c.args.components.now
    c.replace-stepped.result c.replace-stepped.ensures.value c.step_lists.new.components ends

pub step_lists-returns-in-Nothing : goal.step_lists-returns-in-Nothing
step_lists-returns-in-Nothing t c = ended c.args.counted.now c.args.later.now c.args.place c.args.components.now c.in-Nothing.is c.requires.stand

pub step_lists-step-requires : goal.step_lists-step-requires
step_lists-step-requires t c = (
  omega (
    arith,
    c.decreases,
    weight_of (drop c.args.place c.args.components.now) [] c.in-Some.component
        (from_place c.args.counted.now c.args.later.now c.in-Last.inner c.in-Last.is c.args.components.now c.args.place c.requires.place c.requires.stand c.pop.new.self c.in-Some.component c.in-Some.ensures.some),
  ),
  (
    last_stands c.args.counted.now c.args.later.now c.in-Last.inner c.in-Last.is c.args.components.now c.args.place c.requires.place c.requires.stand c.pop.new.self c.in-Some.component c.in-Some.ensures.some,
    last_small c.args.counted.now c.args.later.now c.in-Last.inner c.in-Last.is c.args.components.now c.args.place c.requires.place c.requires.stand c.pop.new.self c.in-Some.component c.in-Some.ensures.some c.requires.small,
  ),
)

pub step_parts-step_lists-requires : goal.step_parts-step_lists-requires
step_parts-step_lists-requires t c =
    let s = here c.args.components.now c.args.place c.requires.place in
    let at = from_here c.args.components.now c.args.place c.requires.place in (
      omega (arith, c.decreases, weight_of (drop c.args.place c.args.components.now) (drop (c.args.place + 1) c.args.components.now) s at, some_nodes s),
      (
        omega arith,
        (
          (both_stand c.args.counted.now c.args.level.now c.args.first.now c.args.others.now c.args.components.now c.args.place s at c.requires.stand).1,
          small_others c.args.counted.now c.args.level.now c.args.first.now c.args.others.now c.args.components.now c.args.place s at c.requires.small,
        ),
      ),
    )

pub step_parts-returns-then-branch : goal.step_parts-returns-then-branch
step_parts-returns-then-branch t c =
    let s = here c.args.components.now c.args.place c.requires.place in
    let at = from_here c.args.components.now c.args.place c.requires.place in
    let steps = rw c.if-branch.true at c.in_ok-step_lists.ensures in
    others_step c.args.counted.now c.args.level.now c.args.first.now c.args.others.now c.args.components.now c.args.place s at c.requires.level c.requires.stand c.step_lists.new.later
    c.step_lists.new.components steps

pub step_parts-step-requires : goal.step_parts-step-requires
step_parts-step-requires t c =
    let s = here c.args.components.now c.args.place c.requires.place in
    let at = from_here c.args.components.now c.args.place c.requires.place in
    let ends = rw c.if-branch.false at c.in_ok-step_lists.ensures in (
      omega (
        arith,
        c.decreases,
        weight_of (drop c.args.place c.args.components.now) (drop (c.args.place + 1) c.args.components.now) s at,
        ap nodes (front_left c.args.counted.now c.args.level.now c.args.first.now c.args.others.now c.args.components.now c.args.place s at c.requires.level c.requires.stand c.requires.place
            c.step_lists.new.components c.pop.new.self c.in-Some.component ends c.in-Some.ensures.some).1,
      ),
      (
        component_stands c.args.counted.now c.args.level.now c.args.first.now c.args.others.now c.args.components.now c.args.place s at c.requires.level c.requires.stand c.requires.place
            c.step_lists.new.components c.pop.new.self c.in-Some.component ends c.in-Some.ensures.some,
        component_small c.args.counted.now c.args.level.now c.args.first.now c.args.others.now c.args.components.now c.args.place s at c.requires.level c.requires.stand c.requires.place
            c.step_lists.new.components c.pop.new.self c.in-Some.component ends c.in-Some.ensures.some c.requires.small,
      ),
    )

pub step_parts-returns-then-branch-2 : goal.step_parts-returns-then-branch-2
step_parts-returns-then-branch-2 t c =
    let s = here c.args.components.now c.args.place c.requires.place in
    let at = from_here c.args.components.now c.args.place c.requires.place in
    let ends = rw c.if-branch.false at c.in_ok-step_lists.ensures in
    let steps = rw c.if-branch-2.true at c.in_ok-step.ensures in
    component_steps c.args.counted.now c.args.level.now c.args.first.now c.args.others.now c.args.components.now c.args.place s at c.requires.level c.requires.stand c.requires.place
    c.step_lists.new.components c.pop.new.self c.in-Some.component ends c.in-Some.ensures.some c.step.new.later c.step.new.s c.push.new.self c.open_lists.new.components c.in_ok-rest.rest
    c.in_ok-others.field-0 steps c.in_ok-push.ensures.ok c.in_ok-rest.ensures c.in_ok-others.ensures

pub step_parts-returns : goal.step_parts-returns
step_parts-returns t c =
    let s = here c.args.components.now c.args.place c.requires.place in
    let at = from_here c.args.components.now c.args.place c.requires.place in
    let ends = rw c.if-branch.false at c.in_ok-step_lists.ensures in
    let none = rw c.if-branch-2.false at c.in_ok-step.ensures in
    IfOk-weaker c.open_next_split.result
    (PartsOpen c.args.counted.now (on_splits c.args.counted.now.checked c.args.level.now.cut c.args.level.now.splits.left) c.pop.new.self c.open_next_split.new.level c.open_next_split.new.first
    c.open_next_split.new.others c.open_next_split.new.components)
    (PartsStepTo c.args.counted.now c.args.place
    (parts_after c.args.counted.now.checked c.args.level.now c.args.first.now c.args.others.now (drop c.args.place c.args.components.now)) c.args.components.now
    c.open_next_split.new.level c.open_next_split.new.first c.open_next_split.new.others c.open_next_split.new.components)
    (λ (opened : Bool) opens.
    split_steps c.args.counted.now c.args.level.now c.args.first.now c.args.others.now c.args.components.now c.args.place s at c.requires.level c.requires.stand c.requires.place
    c.step_lists.new.components c.pop.new.self c.in-Some.component ends c.in-Some.ensures.some c.open_next_split.new.first c.open_next_split.new.level
    c.open_next_split.new.others c.open_next_split.new.components opened none opens)
    c.open_next_split.ensures

-- ---- sorted components

pub step_components-step_set-requires : goal.step_components-step_set-requires
step_components-step_set-requires t c = (
  omega (arith, c.decreases),
  (
    set_stands c.args.counted.now c.args.later.now _ c.in-Sorted.sorted.value c.deref_mut.result.now c.in-Sorted.is c.deref_mut.ensures.value c.args.form c.args.components.now c.requires.stands,
    set_small c.args.counted.now c.args.later.now _ c.in-Sorted.sorted.value c.deref_mut.result.now c.in-Sorted.is c.deref_mut.ensures.value c.args.form c.args.components.now c.requires.small,
  ),
)

pub step_components-returns-in-Sorted-clause-next : goal.step_components-returns-in-Sorted-clause-next
step_components-returns-in-Sorted-clause-next t c =
    let counts = c.args.counted.now in
    IfOk-weaker c.step_set.result
    (NextSorted counts (sorted_after counts.checked c.deref_mut.result.now c.args.components.now) c.step_set.new.later c.step_set.new.components)
    (Next counts (structures_after counts.checked c.args.later.now (Tup c.args.form (parts_of c.args.components.now)))
    (later.Sorted' (record { ptr = c.in-Sorted.sorted.ptr; alloc = c.in-Sorted.sorted.alloc; value = tt }) c.step_set.new.later) (Tup c.args.form (parts_of c.step_set.new.components)))
    (λ (stepped : Bool) steps.
    set_next counts c.args.later.now _ c.in-Sorted.sorted.value c.deref_mut.result.now c.in-Sorted.is c.deref_mut.ensures.value c.args.form c.args.components.now
    (record { ptr = c.in-Sorted.sorted.ptr; alloc = c.in-Sorted.sorted.alloc; value = tt }) c.step_set.new.later c.step_set.new.components stepped steps)
    c.step_set.ensures.next

pub step_first-step-requires : goal.step_first-step-requires
step_first-step-requires t c = (
  omega (arith, c.decreases),
  (c.requires.stands, later_small c.args.counted.now c.grammar.ensures.kept c.args.level c.args.first.now c.args.component c.requires.level),
)

pub step_first-open_sorted-requires-clause-front : goal.step_first-open_sorted-requires-clause-front
step_first-open_sorted-requires-clause-front t c =
    let steps = rw c.if-not-branch.false at c.in_ok-step.ensures in
    next_front c.args.counted.now c.grammar.ensures.kept c.args.level c.args.first.now c.args.component c.requires.level c.step.new.later c.step.new.s steps c.args.components.now c.push.new.self
    c.in_ok-push.ensures.ok

pub step_first-returns-in_default : goal.step_first-returns-in_default
step_first-returns-in_default t c =
    let steps = rw c.if-not-branch.false at c.in_ok-step.ensures in
    next_fails c.args.counted.now c.grammar.ensures.kept c.args.level c.args.first.now c.args.component c.requires.level c.step.new.later c.step.new.s steps c.args.components.now c.push.new.self
    c.in_ok-push.ensures.ok c.open_sorted.new.components c.pop.new.self c.pop.result c.args.others.now (rw c.in_default.is at c.in_ok-opened.ensures) c.pop.ensures.some c.pop.ensures.none

pub step_first-returns : goal.step_first-returns
step_first-returns t c =
    let steps = rw c.if-not-branch.false at c.in_ok-step.ensures in
    next_opens c.args.counted.now c.grammar.ensures.kept c.args.level c.args.first.now c.args.component c.requires.level c.step.new.later c.step.new.s steps c.args.components.now c.push.new.self
    c.in_ok-push.ensures.ok c.open_sorted.new.components c.in-Some.opened (rw c.in-Some.is at c.in_ok-opened.ensures)

pub step_sorted-returns-in_default : goal.step_sorted-returns-in_default
step_sorted-returns-in_default t c = sorted_ended c.args.counted.now c.args.later.now c.args.place c.args.components.now c.in_default.is c.requires.stand

pub step_sorted-step_sorted-requires : goal.step_sorted-step_sorted-requires
step_sorted-step_sorted-requires t c =
    let within = sorted_within c.args.counted.now c.args.later.now c.in-Level.level c.in-Level.first _ c.in-Level.others.value c.deref_mut.result.now c.in-Level.is c.deref_mut.ensures.value c.args.components.now c.args.place c.requires.stand in (
      omega (
        arith,
        c.decreases,
        weight_of (drop c.args.place c.args.components.now) (drop (c.args.place + 1) c.args.components.now) (here c.args.components.now c.args.place within) (at_place c.args.counted.now c.args.later.now c.in-Level.level c.in-Level.first _ c.in-Level.others.value c.deref_mut.result.now c.in-Level.is c.deref_mut.ensures.value c.args.components.now c.args.place c.requires.stand),
        some_nodes (here c.args.components.now c.args.place within),
      ),
      (omega (arith, within), (all_stand c.args.counted.now c.args.later.now c.in-Level.level c.in-Level.first _ c.in-Level.others.value c.deref_mut.result.now c.in-Level.is c.deref_mut.ensures.value c.args.components.now c.args.place c.requires.stand).1.1),
    )

pub step_sorted-returns-then-branch : goal.step_sorted-returns-then-branch
step_sorted-returns-then-branch t c =
    let steps = rw c.if-branch.true at c.in_ok-step_sorted.ensures in
    sorted_others_step c.args.counted.now c.args.later.now c.in-Level.level c.in-Level.first _ c.in-Level.others.value c.deref_mut.result.now c.in-Level.is c.deref_mut.ensures.value c.args.components.now c.args.place c.requires.stand
    (record { ptr = c.in-Level.others.ptr; alloc = c.in-Level.others.alloc; value = tt }) c.step_sorted.new.later c.step_sorted.new.components steps

pub step_sorted-step_first-requires : goal.step_sorted-step_first-requires
step_sorted-step_first-requires t c =
    let within = sorted_within c.args.counted.now c.args.later.now c.in-Level.level c.in-Level.first _ c.in-Level.others.value c.deref_mut.result.now c.in-Level.is c.deref_mut.ensures.value c.args.components.now c.args.place c.requires.stand in (
      omega (
        arith,
        c.decreases,
        weight_of (drop c.args.place c.args.components.now) (drop (c.args.place + 1) c.args.components.now) (here c.args.components.now c.args.place within) (at_place c.args.counted.now c.args.later.now c.in-Level.level c.in-Level.first _ c.in-Level.others.value c.deref_mut.result.now c.in-Level.is c.deref_mut.ensures.value c.args.components.now c.args.place c.requires.stand),
        ap nodes (sorted_front c.args.counted.now c.args.later.now c.in-Level.level c.in-Level.first _ c.in-Level.others.value c.deref_mut.result.now c.in-Level.is c.deref_mut.ensures.value c.args.components.now c.args.place c.requires.stand c.step_sorted.new.components c.pop.new.self c.in-Some.component (rw c.if-branch.false at c.in_ok-step_sorted.ensures) c.in-Some.ensures.some).1,
      ),
      (
        on_level c.args.counted.now c.args.later.now c.in-Level.level c.in-Level.first _ c.in-Level.others.value c.deref_mut.result.now c.in-Level.is c.deref_mut.ensures.value c.args.components.now c.args.place c.requires.stand c.step_sorted.new.components c.pop.new.self c.in-Some.component (rw c.if-branch.false at c.in_ok-step_sorted.ensures) c.in-Some.ensures.some,
        first_stand c.args.counted.now c.args.later.now c.in-Level.level c.in-Level.first _ c.in-Level.others.value c.deref_mut.result.now c.in-Level.is c.deref_mut.ensures.value c.args.components.now c.args.place c.requires.stand c.step_sorted.new.components c.pop.new.self c.in-Some.component (rw c.if-branch.false at c.in_ok-step_sorted.ensures) c.in-Some.ensures.some,
      ),
    )

pub step_sorted-returns-then-branch-2 : goal.step_sorted-returns-then-branch-2
step_sorted-returns-then-branch-2 t c =
    let steps = rw c.if-branch-2.true at c.in_ok-step_first.ensures in
    size_steps c.args.counted.now c.args.later.now c.in-Level.level c.in-Level.first _ c.in-Level.others.value c.deref_mut.result.now c.in-Level.is c.deref_mut.ensures.value c.args.components.now c.args.place c.requires.stand c.step_sorted.new.components c.pop.new.self c.in-Some.component (rw c.if-branch.false at c.in_ok-step_sorted.ensures) c.in-Some.ensures.some
    (record { ptr = c.in-Level.others.ptr; alloc = c.in-Level.others.alloc; value = tt }) c.step_first.new.first c.step_first.new.others c.step_first.new.others c.step_first.new.components refl steps

pub step_sorted-returns-in_default-greater : goal.step_sorted-returns-in_default-greater
step_sorted-returns-in_default-greater t c =
    let fails = rw c.if-branch-2.false at c.in_ok-step_first.ensures in
    greater_ends c.args.counted.now c.args.later.now c.in-Level.level c.in-Level.first _ c.in-Level.others.value c.deref_mut.result.now c.in-Level.is c.deref_mut.ensures.value c.args.components.now c.args.place c.requires.stand c.step_sorted.new.components c.pop.new.self c.in-Some.component (rw c.if-branch.false at c.in_ok-step_sorted.ensures) c.in-Some.ensures.some
    c.step_first.new.first c.step_first.new.others c.step_first.new.components c.open_greater.new.components fails (rw c.in_default-greater.is at c.in_ok-greater.ensures)

pub step_sorted-returns : goal.step_sorted-returns
step_sorted-returns t c =
    let fails = rw c.if-branch-2.false at c.in_ok-step_first.ensures in
    greater_steps c.args.counted.now c.args.later.now c.in-Level.level c.in-Level.first _ c.in-Level.others.value c.deref_mut.result.now c.in-Level.is c.deref_mut.ensures.value c.args.components.now c.args.place c.requires.stand c.step_sorted.new.components c.pop.new.self c.in-Some.component (rw c.if-branch.false at c.in_ok-step_sorted.ensures) c.in-Some.ensures.some
    c.step_first.new.first c.step_first.new.others c.step_first.new.components c.open_greater.new.components c.in-Some-greater.opened fails (rw c.in-Some-greater.is at c.in_ok-greater.ensures)
