use Rattle.std.proofs.Common.{Some, sym, ap, ◌∙◌, inl, inr}
use Rattle.spec_syntax.specs.declared.expr.Kind.TheVariants as kinds
use Rattle.well_founded.specs.NodeKinds.{is_container}
use Rattle.size_counts.proofs.SumLemmas.{if_ok}
use Rattle.size_counts.proofs.FillLemmas.{beside_longer, told_of, has_first}
use Rattle.size_counts.proofs.fill.longer.Goals as goal

pub returns-in-Sequence : goal.returns-in-Sequence
returns-in-Sequence c = if_ok c.longer_by_first.result _ _
    (λ made told. beside_longer c.args.tables.now.grammar c.args.node c.args.m made c.kind.result c.kind.ensures (elim c.in-Sequence.is [ inl sequence ↦ ap is_container sequence | inr cycle ↦ ap is_container cycle ])
    (λ kind element card at. told kind element card at (has_first c.args.tables.now.grammar c.args.node kind element card c.kind.result c.requires.ready.told.is_checked c.kind.ensures c.in-Sequence.is at)))
    c.longer_by_first.ensures

pub returns-in-Labelled : goal.returns-in-Labelled
returns-in-Labelled c = if_ok c.longer_by_first-in-Labelled.result _ _
    (λ made told. beside_longer c.args.tables.now.grammar c.args.node c.args.m made c.kind.result c.kind.ensures (ap is_container c.in-Set.is)
    (λ kind element card at. told kind element card at (inr (sym c.universe.ensures ∙ c.in-Labelled.is))))
    c.longer_by_first-in-Labelled.ensures

pub returns-in-Unlabelled : goal.returns-in-Unlabelled
returns-in-Unlabelled c = if_ok c.longer_multisets.result _ _
    (λ made told. beside_longer c.args.tables.now.grammar c.args.node c.args.m made c.kind.result c.kind.ensures (ap is_container c.in-Set.is)
    (told_of c.args.tables.now.grammar c.args.node c.args.m kinds.Set made (c.kind.ensures ∙ ap Some c.in-Set.is) told))
    c.longer_multisets.ensures

pub returns-in-Labelled-universe : goal.returns-in-Labelled-universe
returns-in-Labelled-universe c = if_ok c.longer_by_first-in-Labelled-universe.result _ _
    (λ made told. beside_longer c.args.tables.now.grammar c.args.node c.args.m made c.kind.result c.kind.ensures (ap is_container c.in-PowerSet.is)
    (λ kind element card at. told kind element card at (inr (sym c.universe-in-PowerSet.ensures ∙ c.in-Labelled-universe.is))))
    c.longer_by_first-in-Labelled-universe.ensures

pub returns-in-Unlabelled-universe : goal.returns-in-Unlabelled-universe
returns-in-Unlabelled-universe c = if_ok c.longer_subsets.result _ _
    (λ made told. beside_longer c.args.tables.now.grammar c.args.node c.args.m made c.kind.result c.kind.ensures (ap is_container c.in-PowerSet.is)
    (told_of c.args.tables.now.grammar c.args.node c.args.m kinds.PowerSet made (c.kind.ensures ∙ ap Some c.in-PowerSet.is) told))
    c.longer_subsets.ensures
