use Rattle.std.proofs.Common.{◌≡◌, ◌+◌, subst, arith, sym, ◌∙◌, Some}
use Rattle.std.proofs.lemmas.Option.{slice_get-get_or}
use Rattle.spec_syntax.specs.Expression.{Expression, Many}
use Rattle.spec_syntax.specs.Nodes.{node_at}
use Rattle.well_founded.specs.Checked.{grammar}
use Rattle.size_counts.specs.Numbers.{others_at}
use Rattle.size_counts.specs.Told.{values, TellAll}
use Rattle.size_counts.proofs.CountLemmas.{longer_within}
use Rattle.size_counts.proofs.ListLemmas.{container_there}
use Rattle.size_counts.proofs.RowLemmas.{components_more, components_all}
use Rattle.size_counts.proofs.rows.all_components.Goals as goal

pub of_components-requires : goal.of_components-requires
of_components-requires c =
    longer_within c.args.tables.now.grammar c.requires.ready.told.is_checked c.args.node c.args.m (c.loop-earlier.earlier + 1) c.args.now.now c.args.longer.now c.card.result c.requires.container c.card.ensures c.requires.longer
    (omega (arith, c.most_components-earlier-end.ensures))

pub loop-earlier-preserved : goal.loop-earlier-preserved
loop-earlier-preserved c = λ kind element card at.
    components_more c.args.tables.now.grammar c.args.tables.now.marks.items c.args.tables.now.layers.items c.requires.ready.told c.args.m c.args.node c.args.now.now kind element card c.requires.now c.requires.marked at
    c.args.longer.now c.requires.longer c.kind-kind.result c.card.result c.child.result c.loop-earlier.earlier _ c.of_components.result c.in_row.result c.loop-earlier.made c.push.new.self c.kind-kind.ensures c.card.ensures
    c.child.ensures.value c.child.ensures.argument (slice_get-get_or c.args.now.now c.child.result _ (omega (arith, c.child.ensures.within, c.requires.now.for_each))) (omega (arith, c.most_components-earlier-end.ensures))
    c.of_components.ensures.none c.of_components.ensures.one c.of_components.ensures.more c.in_row.ensures c.in_ok-push.ensures.ok (c.loop-earlier.invariant kind element card at)

pub returns : goal.returns
returns c = λ e at.
    let is = container_there (node_at c.args.tables.now.grammar.rules c.args.node) c.requires.container in
    let same : Some e ≡ Some (Many is.0 is.1 is.2) = sym at ∙ is.3 in
    let e_is : e ≡ Many is.0 is.1 is.2 = cc in
    subst (λ (x : Expression). TellAll c.loop-earlier.made (values (others_at (grammar c.args.tables.now.grammar) x c.args.m))) (sym e_is)
    (components_all c.args.tables.now.grammar c.args.tables.now.marks.items c.args.tables.now.layers.items c.requires.ready.told c.args.m c.args.node c.args.now.now is.0 is.1 is.2 c.requires.now c.requires.marked is.3
    c.args.longer.now c.requires.longer c.kind-kind.result c.card.result c.loop-earlier.earlier c.loop-earlier.made c.kind-kind.ensures c.card.ensures (omega (arith, c.most_components-earlier-end.ensures))
    (c.loop-earlier.invariant is.0 is.1 is.2 is.3))
