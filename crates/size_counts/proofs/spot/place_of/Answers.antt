use Rattle.std.proofs.Common.{arith, ap, ◌∙◌, refl, sym}
use Rattle.spec_syntax.proofs.RulesLemmas.{all_nodes-from_spec}
use Rattle.size_counts.specs.Spots.{group_at, index_at}
use Rattle.well_founded.specs.Checked.{grammar}
use Rattle.size_counts.proofs.CountLemmas.{kind_here}
use Rattle.size_counts.proofs.SpotLemmas.{place_made, number_at}
use Rattle.size_counts.proofs.spot.place_of.Goals as goal

pub overflow_add-result : goal.overflow_add-result
overflow_add-result c = omega (arith, all_nodes-from_spec c.args.grammar.now.rules c.rule_of-rule.ensures.kept.spec)

pub returns : goal.returns
returns c = λ e numbered at there.
    let is = number_at (grammar c.args.grammar.now) e c.args.m c.args.i numbered there in
    let kind = kind_here c.args.grammar.now.rules c.args.node e c.kind-kind.result at c.kind-kind.ensures in
    place_made c.args.grammar.now.rules c.args.node c.args.m c.rule_of-rule.result _ c.index_of.result c.rule_node.result c.group_of.result numbered c.requires.within c.rule_of-rule.ensures.rule c.rule_node.ensures.value refl
    (c.group_of.ensures ∙ ap (λ k. group_at k c.args.i) (sym kind) ∙ is.0) (c.index_of.ensures ∙ ap (λ k. index_at k c.args.i) (sym kind) ∙ is.1)
