use Rattle.std.proofs.Common.{◌≡◌, ◌≤◌, ◌<◌, ◌+◌, ◌++◌, [], ◌∷◌, ℕ, suc, List, Some, length, take, drop, get_or, arith, sym, ap, ◌∙◌}
use Rattle.std.proofs.lemmas.List.{take_more, take_all}
use Rattle.std.proofs.lemmas.Option.{get_or_from_slice_get}
use Rattle.spec_syntax.specs.Rules.{all_nodes}
use Rattle.spec_syntax.specs.Nodes.{right_node, all_right_nodes}
use Rattle.spec_syntax.proofs.RulesLemmas.{all_nodes-from_spec}
use Rattle.spec_syntax.proofs.NodeSteps.{length_all_nodes_step}
use Rattle.spec_syntax.proofs.NodesLemmas.{length-all_right_nodes, get-all_right_nodes, all_nodes_split}
use Rattle.well_founded.proofs.node.right_nodes.Goals as goal

pub count-next-requires : goal.count-next-requires
count-next-requires c =
    let most : length (all_nodes c.args.spec.now) ≤ 128 = all_nodes-from_spec c.args.spec.now c.right.ensures.kept in
    omega (arith, length_all_nodes_step c.args.spec.now c.loop-place.place c.right.result.now c.right.ensures.value)

pub overflow_add-next : goal.overflow_add-next
overflow_add-next c =
    let most : length (all_nodes c.args.spec.now) ≤ 128 = all_nodes-from_spec c.args.spec.now c.right.ensures.kept in
    omega (arith, length_all_nodes_step c.args.spec.now c.loop-place.place c.right.result.now c.right.ensures.value)

pub loop-place-preserved : goal.loop-place-preserved
loop-place-preserved c =
    let rules = c.args.spec.now in
    let place = c.loop-place.place in
    let next = c.loop-place.next in
    let nodes : List ℕ = all_right_nodes rules in
    let within : place < length rules = omega arith in
    let next_is : right_node rules (suc place) ≡ next = omega (arith, c.loop-place.invariant.1, all_nodes_split rules place) in
    let read : get_or nodes place next ≡ next = get_or_from_slice_get nodes place next next (get-all_right_nodes rules place within ∙ ap Some next_is) in (
      c.in_ok-push.ensures.items
          ∙ ap (λ (table : List ℕ). table ++ next ∷ []) c.loop-place.invariant.0
          ∙ ap (λ (node : ℕ). take place nodes ++ node ∷ []) (sym read)
          ∙ sym (take_more nodes place next (omega (arith, within, length-all_right_nodes rules))),
      omega (arith, length_all_nodes_step rules place c.right.result.now c.right.ensures.value),
    )

pub returns : goal.returns
returns c =
    let nodes : List ℕ = all_right_nodes c.args.spec.now in
    c.loop-place.invariant.0 ∙ take_all c.loop-place.place nodes (omega (arith, c.loop-place-test.false, length-all_right_nodes c.args.spec.now))
