use Rattle.std.proofs.Common.{◌+◌, ◌++◌, List, ℕ, map, drop, sym, ap, ◌∙◌}
use Rattle.std.proofs.lemmas.List.{append_assoc, map-append}
use Rattle.spec_syntax.specs.Expression.{preorder}
use Rattle.spec_syntax.specs.Rules.{all_nodes}
use Rattle.well_founded.specs.Least.{least_by}
use Rattle.spec_syntax.proofs.NodeSteps.{all_nodes_step}
use Rattle.well_founded.proofs.leasts.node_leasts.Goals as goal

pub loop-place-preserved : goal.loop-place-preserved
loop-place-preserved c =
    let rules = c.args.spec.now in
    let place = c.loop-place.place in
    let right = c.right.result.now in
    let by = least_by rules c.args.sizes.now in
    let old : List ℕ = c.loop-place.leasts.items in
    let rest = all_nodes (drop (place + 1) rules) in
    c.loop-place.invariant
    ∙ ap (λ es. old ++ map by es) (all_nodes_step rules place right c.right.ensures.value)
    ∙ ap (λ ns. old ++ ns) (map-append by (preorder right) rest)
    ∙ sym (append_assoc old (map by (preorder right)) (map by rest))
    ∙ ap (λ ns. ns ++ map by rest) (sym c.in_ok-push_leasts.ensures)
