use Rattle.std.proofs.Common.{◌≡◌, ◌≤◌, ◌<◌, ℕ, List, All, length, sym, ap, subst, ◌∙◌}
use Rattle.spec_syntax.specs.Rules.{Rules, all_nodes}
use Rattle.spec_syntax.specs.Grammar.{Grammar}
use Rattle.graphs.specs.Graph.{Graph, IsGraph, AreCounts, IsFirstRound}
use Rattle.spec_syntax.specs.Nodes.{all_right_nodes}
use Rattle.well_founded.specs.Checked.{IsChecked}
use Rattle.well_founded.specs.WellFounded.{IsCulprit}
use Rattle.well_founded.specs.declared.refused.Refused.{Refused}
use Rattle.well_founded.proofs.CheckSteps.{graph, graph_is, graph_few, graph_nodes, few_rules, found_by, none_by, roots_within, round_within, endless_said, is_checked}
use Rattle.well_founded.proofs.checking.check_sized.Goals as goal

pub first_round-requires-clause-graph : goal.first_round-requires-clause-graph
first_round-requires-clause-graph c =
    let g : Grammar = record { rules = c.args.spec.now; universe = c.args.universe } in
    subst IsGraph (sym (c.deref.ensures.value ∙ c.in_ok-graph.ensures)) (graph_is g c.args.sizes.now)

pub first_round-requires-clause-few : goal.first_round-requires-clause-few
first_round-requires-clause-few c =
    let g : Grammar = record { rules = c.args.spec.now; universe = c.args.universe } in
    subst (λ (nodes : Graph). length nodes ≤ 128) (sym (c.deref.ensures.value ∙ c.in_ok-graph.ensures)) (graph_few g c.args.sizes.now c.requires.all_but_finite.sized.spec)

pub first_round-requires-clause-roots : goal.first_round-requires-clause-roots
first_round-requires-clause-roots c =
    let g : Grammar = record { rules = c.args.spec.now; universe = c.args.universe } in
    let few : length (all_nodes g.rules) ≡ length c.deref.result.now = sym (ap length (c.deref.ensures.value ∙ c.in_ok-graph.ensures) ∙ graph_nodes g c.args.sizes.now) in
    subst (λ (n : ℕ). All (λ root. root < n) c.deref-2.result.now) few (roots_within g.rules c.deref-2.result.now (c.deref-2.ensures.value ∙ c.in_ok-roots.ensures))

pub endless-requires-clause-few : goal.endless-requires-clause-few
endless-requires-clause-few c = few_rules c.args.spec.now c.requires.all_but_finite.sized.spec

pub endless-requires-clause-within : goal.endless-requires-clause-within
endless-requires-clause-within c =
    let g : Grammar = record { rules = c.args.spec.now; universe = c.args.universe } in
    round_within g c.args.sizes.now c.in-Some.place
    (found_by c.deref.result.now (graph g c.args.sizes.now) c.deref-2.result.now (all_right_nodes g.rules) c.in_ok-place.field-0 c.in-Some.place
    (c.deref.ensures.value ∙ c.in_ok-graph.ensures) (c.deref-2.ensures.value ∙ c.in_ok-roots.ensures) c.in-Some.is c.in_ok-place.ensures.found)

pub returns-in-Some-clause-refused : goal.returns-in-Some-clause-refused
returns-in-Some-clause-refused c =
    let g : Grammar = record { rules = c.args.spec.now; universe = c.args.universe } in
    let found : IsFirstRound (graph g c.args.sizes.now) (all_right_nodes g.rules) c.in-Some.place =
    found_by c.deref.result.now (graph g c.args.sizes.now) c.deref-2.result.now (all_right_nodes g.rules) c.in_ok-place.field-0 c.in-Some.place
    (c.deref.ensures.value ∙ c.in_ok-graph.ensures) (c.deref-2.ensures.value ∙ c.in_ok-roots.ensures) c.in-Some.is c.in_ok-place.ensures.found in
    λ other given named.
    subst (λ (refused : Refused). IsCulprit g given refused) (sym c.in_ok-endless.ensures) (endless_said g c.args.sizes.now c.requires.all_but_finite c.in-Some.place found given named)

pub ranks-requires-clause-graph_is : goal.ranks-requires-clause-graph_is
ranks-requires-clause-graph_is c =
    let g : Grammar = record { rules = c.args.spec.now; universe = c.args.universe } in
    subst IsGraph (sym (c.deref-3.ensures.value ∙ c.in_ok-graph.ensures)) (graph_is g c.args.sizes.now)

pub ranks-requires-clause-few : goal.ranks-requires-clause-few
ranks-requires-clause-few c =
    let g : Grammar = record { rules = c.args.spec.now; universe = c.args.universe } in
    subst (λ (nodes : Graph). length nodes ≤ 128) (sym (c.deref-3.ensures.value ∙ c.in_ok-graph.ensures)) (graph_few g c.args.sizes.now c.requires.all_but_finite.sized.spec)

pub checked-requires-clause-checked : goal.checked-requires-clause-checked
checked-requires-clause-checked c =
    let g : Grammar = record { rules = c.args.spec.now; universe = c.args.universe } in
    let none =
    none_by c.deref.result.now (graph g c.args.sizes.now) c.deref-2.result.now (all_right_nodes g.rules) c.in_ok-place.field-0
    (c.deref.ensures.value ∙ c.in_ok-graph.ensures) (c.deref-2.ensures.value ∙ c.in_ok-roots.ensures) c.in_default.is c.in_ok-place.ensures.none in
    let counted : AreCounts (graph g c.args.sizes.now) c.in_ok-ranks.ranks.items =
    subst (λ (nodes : Graph). AreCounts nodes c.in_ok-ranks.ranks.items) (c.deref-3.ensures.value ∙ c.in_ok-graph.ensures) c.in_ok-ranks.ensures in
    subst (λ (own : Rules). IsChecked (record { rules = own; universe = c.args.universe; start = c.args.start; leasts = c.in_ok-leasts.leasts.items; ranks = c.in_ok-ranks.ranks.items }))
    (sym c.in_ok-rules.ensures)
    (subst (λ (leasts : List ℕ). IsChecked (record { rules = g.rules; universe = c.args.universe; start = c.args.start; leasts = leasts; ranks = c.in_ok-ranks.ranks.items }))
    (sym c.in_ok-leasts.ensures)
    (is_checked g c.args.sizes.now c.requires.all_but_finite none c.args.start c.in_ok-ranks.ranks.items c.requires.start counted))
