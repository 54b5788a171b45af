use Rattle.std.proofs.Common.{◌≡◌, ap, subst, sym, ◌∙◌, refl, Some, inl, inr}
use Rattle.spec_syntax.specs.Expression.{Expression}
use Rattle.struct_model.specs.Bounded.{number}
use Rattle.well_founded.specs.declared.node.NodeKind.TheVariants as told
use Rattle.spec_syntax.specs.Nodes.{node_at}
use Rattle.well_founded.specs.NodeKinds.{is_container}
use Rattle.well_founded.specs.Checked.{grammar}
use Rattle.splits.specs.Capped.{Tells}
use Rattle.size_counts.proofs.CountLemmas.{kind_here, word_count, union_there, prod_there, read_container}
use Rattle.size_counts.proofs.ListLemmas.{container_there}
use Rattle.size_counts.proofs.TurnLemmas.{turn_union, turn_container, turn_name}
use Rattle.size_counts.proofs.counts.count_of.Goals as goal

pub returns-in-Epsilon : goal.returns-in-Epsilon
returns-in-Epsilon c = λ e at. word_count c.args.tables.now.grammar c.args.node c.args.m 0 e told.Epsilon c.one_at.result at c.in-Epsilon.ensures refl c.one_at.ensures

pub returns-in-Atom : goal.returns-in-Atom
returns-in-Atom c = λ e at. word_count c.args.tables.now.grammar c.args.node c.args.m 1 e told.Atom c.one_at-in-Atom.result at c.in-Atom.ensures refl c.one_at-in-Atom.ensures

pub returns-in-Rule : goal.returns-in-Rule
returns-in-Rule c = λ e at.
    c.name_count.ensures e at
    (turn_name c.args.tables.now.grammar c.args.tables.now.marks.items c.args.tables.now.layers.items c.requires.turn.ready.told c.args.node c.args.m c.args.rank c.args.now.now e c.requires.turn.marked at (c.requires.turn.falls e at)
    c.requires.turn.now_told c.requires.turn.ready.small (kind_here c.args.tables.now.grammar.rules c.args.node e told.Rule at c.in-Rule.ensures))

pub returns-in-Union : goal.returns-in-Union
returns-in-Union c = λ e at.
    let is = union_there e (kind_here c.args.tables.now.grammar.rules c.args.node e told.Union at c.in-Union.ensures) in
    let here = at ∙ ap Some is.1 in
    subst (λ (x : Expression). Tells c.union_count.result (number (grammar c.args.tables.now.grammar) x c.args.m)) (sym is.1)
    (c.union_count.ensures is.0 here
    (turn_union c.args.tables.now.grammar c.args.tables.now.marks.items c.args.tables.now.layers.items c.requires.turn.ready.told c.args.node c.args.m c.args.rank c.args.now.now is.0 c.requires.turn.marked here
    (c.requires.turn.falls _ here) c.requires.turn.now_told c.requires.turn.ready.small))

pub returns-in-Prod : goal.returns-in-Prod
returns-in-Prod c = λ e at.
    let is = prod_there e (kind_here c.args.tables.now.grammar.rules c.args.node e told.Prod at c.in-Prod.ensures) in
    let here = at ∙ ap Some is.1 in
    subst (λ (x : Expression). Tells c.prod_count.result (number (grammar c.args.tables.now.grammar) x c.args.m)) (sym is.1)
    (c.prod_count.ensures (grammar c.args.tables.now.grammar) is.0 (c.requires.beside.firsts is.0 here) (c.requires.begun is.0 here))

pub returns-in-Sequence : goal.returns-in-Sequence
returns-in-Sequence c = λ e at.
    let is = container_there (node_at c.args.tables.now.grammar.rules c.args.node) (read_container c.args.tables.now.grammar.rules c.args.node c.kind.result c.kind.ensures (elim c.in-Sequence.is [
      | inl sequence ↦ ap is_container sequence
      | inr a ↦ elim a [
        | inl set ↦ ap is_container set
        | inr b ↦ elim b [ inl power ↦ ap is_container power | inr cycle ↦ ap is_container cycle ]
      ]
    ])) in
    let same : Some e ≡ Some _ = sym at ∙ is.3 in
    let e_is : e ≡ _ = cc in
    subst (λ (x : Expression). Tells c.container_count.result (number (grammar c.args.tables.now.grammar) x c.args.m)) (sym e_is)
    (c.container_count.ensures is.0 is.1 is.2 is.3
    (turn_container c.args.tables.now.grammar c.args.tables.now.marks.items c.args.tables.now.layers.items c.requires.turn.ready.told c.args.node c.args.m c.args.rank c.args.now.now is.0 is.1 is.2 c.requires.turn.marked is.3
    (c.requires.turn.falls _ is.3) c.requires.turn.now_told c.requires.turn.ready.small))
