use Rattle.std.proofs.Common.{arith, length}
use Rattle.spec_syntax.specs.Nodes.{children_at}
use Rattle.size_counts.specs.Suffixes.{needs_atoms}
use Rattle.size_counts.proofs.SuffixLemmas.{needs_some, needs_none, up_to_found, up_to_all, none_more}
use Rattle.size_counts.proofs.suffixes.up_to_first.Goals as goal

pub loop-i-preserved : goal.loop-i-preserved
loop-i-preserved c =
    none_more (needs_atoms c.args.tables.now.grammar (children_at c.args.tables.now.grammar.rules c.args.node)) c.loop-i.i c.loop-i.invariant
    (needs_none c.args.tables.now.grammar (children_at c.args.tables.now.grammar.rules c.args.node) c.loop-i.i c.child.result c.least.result c.child.ensures.value c.least.ensures.value (omega arith))

pub returns-then-least-gt0 : goal.returns-then-least-gt0
returns-then-least-gt0 c =
    up_to_found (needs_atoms c.args.tables.now.grammar (children_at c.args.tables.now.grammar.rules c.args.node)) c.loop-i.i (length (children_at c.args.tables.now.grammar.rules c.args.node)) (omega arith) c.loop-i.invariant
    (needs_some c.args.tables.now.grammar (children_at c.args.tables.now.grammar.rules c.args.node) c.loop-i.i c.child.result c.least.result c.child.ensures.value c.least.ensures.value (omega arith))

pub returns : goal.returns
returns c = up_to_all (needs_atoms c.args.tables.now.grammar (children_at c.args.tables.now.grammar.rules c.args.node)) c.children-arguments.result _ (omega arith) (λ k below. c.loop-i.invariant k (omega arith))
