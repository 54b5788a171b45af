use Rattle.std.proofs.Common.{◌≡◌, ◌-◌, arith, length}
use Rattle.spec_syntax.specs.Nodes.{children_at}
use Rattle.well_founded.specs.Checked.{grammar}
use Rattle.size_counts.specs.Suffixes.{needs_atoms}
use Rattle.size_counts.proofs.SumLemmas.{if_ok}
use Rattle.size_counts.proofs.SuffixLemmas.{arguments_count, firsts_told, node_within}
use Rattle.size_counts.proofs.suffixes.first_suffixes.Goals as goal

pub up_to_first-high-requires : goal.up_to_first-high-requires
up_to_first-high-requires c = node_within c.args.tables.now.grammar c.args.tables.now.marks.items c.args.tables.now.layers.items c.requires.ready.told c.args.node c.requires.marked

pub returns-clause-told : goal.returns-clause-told
returns-clause-told c = if_ok c.suffixes.result _ _
    (λ made is. λ arguments at known.
    let first = c.up_to_first-high.ensures in
    let all : length (children_at c.args.tables.now.grammar.rules c.args.node) ≡ _ = arguments_count c.args.tables.now.grammar.rules c.args.node arguments at in
    firsts_told (grammar c.args.tables.now.grammar) arguments c.args.m (needs_atoms c.args.tables.now.grammar (children_at c.args.tables.now.grammar.rules c.args.node)) c.up_to_first-high.result
    (length (children_at c.args.tables.now.grammar.rules c.args.node)) (c.up_to_first-high.result - 0) made all (omega arith) first
    (is arguments _ at known (λ less none. first.last (omega (arith, less, all)) none)))
    c.suffixes.ensures.told

pub returns-clause-begun : goal.returns-clause-begun
returns-clause-begun c = if_ok c.suffixes.result _ _
    (λ made count. λ arguments at some.
    omega (arith, count, c.up_to_first-high.ensures.some (omega (arith, some, arguments_count c.args.tables.now.grammar.rules c.args.node arguments at))))
    c.suffixes.ensures.count
