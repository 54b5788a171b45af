-- What stands below a reached node is reached.
use Rattle.std.proofs.Common.{ap, sym, ◌∙◌, ◌-◌, ◌+◌, slice_get}
use Rattle.spec_syntax.specs.Nodes.{children_at}
use Rattle.well_founded.specs.Checked.{Checked}
use Rattle.draw_steps.proofs.LengthLemmas.{reached_in, reached_element, reached_member}
use Rattle.draw_steps.proofs.lengths.first_node.Goals as goal

pub returns-in-Components-clause-reached : goal.returns-in-Components-clause-reached
returns-in-Components-clause-reached c =
    reached_in c.args.counted.now c.grammar-grammar.ensures.kept c.args.lists c.in-Components.node c.child.result _ c.args.missing c.in-Components.is c.requires.missing
    (ap (λ (k : Checked). slice_get (children_at k.rules c.in-Components.node) (c.children.result - c.args.missing + 1 - 1)) (sym c.grammar-grammar.ensures.value) ∙ c.child.ensures.value)

pub returns-in-Elements-clause-reached : goal.returns-in-Elements-clause-reached
returns-in-Elements-clause-reached c =
    reached_element c.args.counted.now c.grammar-grammar.ensures.kept c.args.lists c.in-Elements.field-0 c.in-Elements.element c.args.missing c.in-Elements.is c.requires.missing

pub returns-in-Members-clause-reached : goal.returns-in-Members-clause-reached
returns-in-Members-clause-reached c =
    reached_member c.args.counted.now c.grammar-grammar.ensures.kept c.args.lists c.in-Members.field-0 c.in-Members.element c.args.missing c.in-Members.is c.requires.missing
