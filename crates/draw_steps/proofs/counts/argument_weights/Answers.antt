use Rattle.std.proofs.Common.{◌+◌, ◌-◌, ap, ◌∙◌, arith}
use Rattle.size_counts.specs.CountedView.{number_of}
use Rattle.draw_steps.specs.Choices.{child_of}
use Rattle.draw_steps.proofs.CountSums.{weights_more, node_within, child_reached, child_is}
use Rattle.draw_steps.proofs.counts.argument_weights.Goals as goal

pub children-before-end-requires : goal.children-before-end-requires
children-before-end-requires c = node_within c.args.counted.now c.grammar-grammar.result.now c.args.node c.grammar-grammar.ensures.value c.grammar-grammar.ensures.kept c.requires.reached

pub child-requires-clause-within : goal.child-requires-clause-within
child-requires-clause-within c = node_within c.args.counted.now c.grammar-grammar.result.now c.args.node c.grammar-grammar.ensures.value c.grammar-grammar.ensures.kept c.requires.reached

pub number-requires-clause-reached : goal.number-requires-clause-reached
number-requires-clause-reached c =
    child_reached c.args.counted.now c.grammar-grammar.result.now c.args.node (c.loop-before.before + 1 - 1) c.child.result c.grammar-grammar.ensures.value c.grammar-grammar.ensures.kept c.requires.reached c.child.ensures.value

pub loop-before-preserved : goal.loop-before-preserved
loop-before-preserved c =
    weights_more (λ i. number_of c.args.counted.now (child_of c.args.counted.now c.args.node i) c.args.n) 1 c.loop-before.before (c.loop-before.before + 1) c.number.result c.loop-before.weights.items c.push.new.self.items
    c.loop-before.invariant c.in_ok-push.ensures.items (omega arith)
    (c.number.ensures ∙ ap (λ child. number_of c.args.counted.now child c.args.n)
    (child_is c.args.counted.now c.grammar-grammar.result.now c.args.node (c.loop-before.before + 1) c.child.result c.grammar-grammar.ensures.value c.child.ensures.value))
