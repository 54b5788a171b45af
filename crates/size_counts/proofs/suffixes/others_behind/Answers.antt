use Rattle.std.proofs.Common.{◌≡◌, subst, arith, ℕ, length}
use Rattle.spec_syntax.specs.Expression.{expression_list}
use Rattle.well_founded.specs.Checked.{grammar}
use Rattle.size_counts.specs.Suffixes.{OthersTold}
use Rattle.size_counts.proofs.SumLemmas.{if_ok}
use Rattle.size_counts.proofs.SuffixLemmas.{others_first, others_behind, arguments_count, layer_room, node_within, column_count}
use Rattle.size_counts.proofs.suffixes.others_behind.Goals as goal

pub returns-then-place-children-clause-for_each : goal.returns-then-place-children-clause-for_each
returns-then-place-children-clause-for_each c = if_ok c.nothing.result _ _ (λ made is. is.for_each) c.nothing.ensures

pub returns-then-place-children-clause-told : goal.returns-then-place-children-clause-told
returns-then-place-children-clause-told c = if_ok c.nothing.result _ _
    (λ made is. λ arguments zero at such.
    let all : length (expression_list arguments) ≡ c.args.place = omega (arith, arguments_count c.args.tables.now.grammar.rules c.args.node arguments at) in
    subst (λ (n : ℕ). OthersTold (grammar c.args.tables.now.grammar) arguments c.args.m zero n made.items) all
    (others_first c.args.tables.now.grammar c.args.tables.now.marks.items c.args.tables.now.layers.items c.requires.ready.told c.args.node arguments c.requires.marked at c.args.m zero c.requires.ready.filled made.items is))
    c.nothing.ensures

pub column-requires : goal.column-requires
column-requires c =
    layer_room c.args.tables.now.grammar c.args.tables.now.marks.items c.args.tables.now.layers.items c.as_slice.result.now c.requires.ready.told c.as_slice.ensures.value c.args.node
    (node_within c.args.tables.now.grammar c.args.tables.now.marks.items c.args.tables.now.layers.items c.requires.ready.told c.args.node c.requires.marked)

pub returns-clause-for_each : goal.returns-clause-for_each
returns-clause-for_each c = if_ok c.column.result _ _
    (λ made is. column_count c.args.tables.now.layers.items c.as_slice.result.now c.args.node c.args.place c.args.m _ made.items c.as_slice.ensures.value c.requires.ready.filled is) c.column.ensures

pub returns-clause-told : goal.returns-clause-told
returns-clause-told c = if_ok c.column.result _ _
    (λ made is. λ arguments zero at such.
    others_behind c.args.tables.now.grammar c.args.tables.now.marks.items c.args.tables.now.layers.items c.requires.ready.told c.args.node arguments c.requires.marked at c.args.m zero c.requires.ready.filled
    c.args.place c.as_slice.result.now made.items c.as_slice.ensures.value (omega (arith, arguments_count c.args.tables.now.grammar.rules c.args.node arguments at)) is such)
    c.column.ensures
