use Rattle.std.proofs.Common.{arith}
use Rattle.struct_walk.proofs.ReachedNodes.{reached_child}
use Rattle.struct_walk.proofs.StepArguments.{child_at, passes_on, comes_next}
use Rattle.struct_walk.proofs.arguments.next_argument.Goals as goal

pub number-requires-clause-reached : goal.number-requires-clause-reached
number-requires-clause-reached c =
    reached_child c.args.counted.now c.grammar-grammar.ensures.kept c.args.node c.loop-place.place c.child.result c.requires.reached
    (child_at c.args.counted.now.checked c.grammar-grammar.result.now c.args.node c.loop-place.place c.child.result c.grammar-grammar.ensures.value c.child.ensures.value)

pub returns-then-number-gt0-clause-some : goal.returns-then-number-gt0-clause-some
returns-then-number-gt0-clause-some c =
    comes_next c.args.counted.now c.grammar-grammar.ensures.kept c.args.node c.args.number c.args.n c.loop-place.place c.child.result c.loop-place.invariant
    (child_at c.args.counted.now.checked c.grammar-grammar.result.now c.args.node c.loop-place.place c.child.result c.grammar-grammar.ensures.value c.child.ensures.value)
    c.number.result c.number.ensures (omega arith) (omega arith)

pub loop-place-preserved : goal.loop-place-preserved
loop-place-preserved c =
    passes_on c.args.counted.now c.grammar-grammar.ensures.kept c.args.node c.args.number c.args.n c.loop-place.place c.child.result c.loop-place.invariant
    (child_at c.args.counted.now.checked c.grammar-grammar.result.now c.args.node c.loop-place.place c.child.result c.grammar-grammar.ensures.value c.child.ensures.value)
    c.number.result c.number.ensures (omega arith)
