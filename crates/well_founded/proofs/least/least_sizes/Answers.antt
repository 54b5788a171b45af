use Rattle.std.proofs.Common.{◌≡◌, ◌<◌, List, Option, ℕ, ap, sym, ◌∙◌, subst}
use Rattle.well_founded.specs.Least.{next_sizes}
use Rattle.well_founded.proofs.LeastRounds.{IsReachedTable, weight_of_all, first_table, next_table, changed_falls, are_sizes}
use Rattle.well_founded.proofs.LeastLoops.{same_tables, other_tables}
use Rattle.well_founded.proofs.least.least_sizes.Goals as goal

pub loop-sizes-init : goal.loop-sizes-init
loop-sizes-init c = subst (IsReachedTable c.args.spec.now) (sym c.in_ok-sizes.ensures.sizes) (first_table c.args.spec.now)

pub returns-then-eq-clause-sizes : goal.returns-then-eq-clause-sizes
returns-then-eq-clause-sizes c =
    let rules = c.args.spec.now in
    let next_is : c.in_ok-next.next.items ≡ next_sizes rules c.loop-sizes.sizes.items = c.in_ok-next.ensures ∙ ap (next_sizes rules) c.deref.ensures.value in
    let stays : next_sizes rules c.loop-sizes.sizes.items ≡ c.loop-sizes.sizes.items =
    sym next_is ∙ same_tables c.in_ok-next.next.items c.loop-sizes.sizes.items (sym c.if-eq.ensures) in
    are_sizes rules c.loop-sizes.sizes.items c.loop-sizes.invariant stays

pub loop-sizes-smaller : goal.loop-sizes-smaller
loop-sizes-smaller c =
    let rules = c.args.spec.now in
    let next_is : c.in_ok-next.next.items ≡ next_sizes rules c.loop-sizes.sizes.items = c.in_ok-next.ensures ∙ ap (next_sizes rules) c.deref.ensures.value in
    let falls : weight_of_all (next_sizes rules c.loop-sizes.sizes.items) < weight_of_all c.loop-sizes.sizes.items =
    changed_falls rules c.loop-sizes.sizes.items c.loop-sizes.invariant
    (λ stays. other_tables c.in_ok-next.next.items c.loop-sizes.sizes.items (sym c.if-eq.ensures) (next_is ∙ stays)) in
    subst (λ (t : List (Option ℕ)). weight_of_all t < weight_of_all c.loop-sizes.sizes.items) (sym next_is) falls

pub loop-sizes-preserved : goal.loop-sizes-preserved
loop-sizes-preserved c =
    let rules = c.args.spec.now in
    let next_is : c.in_ok-next.next.items ≡ next_sizes rules c.loop-sizes.sizes.items = c.in_ok-next.ensures ∙ ap (next_sizes rules) c.deref.ensures.value in
    subst (IsReachedTable rules) (sym next_is) (next_table rules c.loop-sizes.sizes.items c.loop-sizes.invariant)
