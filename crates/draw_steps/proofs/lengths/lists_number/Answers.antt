-- No components, and all of a Prod.
use Rattle.std.proofs.Common.{arith, ap, sym, subst, ◌∙◌, ◌≡◌, ◌-◌, ◌<◌, length}
use Rattle.spec_syntax.specs.Rules.{all_nodes}
use Rattle.spec_syntax.specs.Nodes.{children_at}
use Rattle.well_founded.specs.Checked.{Checked}
use Rattle.draw_steps.proofs.LengthLemmas.{prod_within, no_list_of_none, no_list_of_some, whole_prod}
use Rattle.draw_steps.proofs.lengths.lists_number.Goals as goal

pub returns-then-m-eq0-clause-value : goal.returns-then-m-eq0-clause-value
returns-then-m-eq0-clause-value c =
    no_list_of_none c.args.counted.now c.grammar-grammar.ensures.kept c.args.lists c.in-Components.node c.args.missing c.args.m c.in-Components.is c.requires.missing c.if-missing-eq0.true c.if-m-eq0.true

pub returns-else-m-eq0-clause-value : goal.returns-else-m-eq0-clause-value
returns-else-m-eq0-clause-value c =
    no_list_of_some c.args.counted.now c.grammar-grammar.ensures.kept c.args.lists c.in-Components.node c.args.missing c.args.m c.in-Components.is c.requires.missing c.if-missing-eq0.true c.if-m-eq0.false

pub children-requires : goal.children-requires
children-requires c =
    subst (λ (k : Checked). c.in-Components.node < length (all_nodes k.rules)) (sym c.grammar-grammar.ensures.value)
    (prod_within c.args.counted.now c.grammar-grammar.ensures.kept c.args.lists c.in-Components.node c.args.missing c.in-Components.is c.requires.missing)

pub returns-then-number-eq1-clause-value : goal.returns-then-number-eq1-clause-value
returns-then-number-eq1-clause-value c =
    let long : c.children.result ≡ length (children_at c.args.counted.now.checked.rules c.in-Components.node)
    = c.children.ensures ∙ ap (λ (k : Checked). length (children_at k.rules c.in-Components.node)) c.grammar-grammar.ensures.value in
    let one = c.if-number-eq1.true in
    whole_prod c.args.counted.now c.grammar-grammar.ensures.kept c.args.lists c.in-Components.node c.args.missing c.args.m c.number.result c.in-Components.is c.requires.missing
    (let e : length (children_at c.args.counted.now.checked.rules c.in-Components.node) - c.args.missing ≡ 0 = omega (arith, one, long) in e) c.number.ensures
