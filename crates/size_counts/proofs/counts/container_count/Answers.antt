use Rattle.std.proofs.Common.{arith, sym, ◌∙◌}
use Rattle.std.proofs.lemmas.Option.{slice_get-get_or}
use Rattle.size_counts.proofs.CountLemmas.{longer_there, container_taken, container_passed, container_all}
use Rattle.size_counts.proofs.counts.container_count.Goals as goal
use Rattle.size_counts.proofs.counts.container_count.Goals.{then-admits, else-admits}

pub of_components-requires : goal.of_components-requires
of_components-requires c =
    longer_there c.args.tables.now.grammar c.requires.ready.told.is_checked c.args.node c.args.m c.loop-c.c c.args.now.now c.args.longer.now c.card-card.result c.requires.container c.card-card.ensures c.requires.longer
    (sym c.admits.ensures ∙ c.if-admits.true) (omega arith)

pub loop-c-preserved : goal.loop-c-preserved
loop-c-preserved c = elim c.if-admits.branch [
  | then-admits w ↦ λ kind element card at each.
      container_taken c.args.tables.now.grammar c.requires.ready.told.is_checked c.args.node c.args.m c.args.now.now kind element card at c.child.result c.loop-c.c c.kind-kind.result c.card-card.result _ c.loop-c.sum
      w.of_components.result w.plus-sum.result c.if-admits.sum c.args.longer.now each c.kind-kind.ensures c.child.ensures.value
      (slice_get-get_or c.args.now.now c.child.result _ (omega (arith, c.child.ensures.within, c.requires.for_each))) c.card-card.ensures
      (sym c.admits.ensures ∙ w.if-admits.true) (omega arith) c.requires.longer w.of_components.ensures.none w.of_components.ensures.one w.of_components.ensures.more w.plus-sum.ensures w.sum-is
      (c.loop-c.invariant kind element card at each)
  | else-admits w ↦ λ kind element card at each.
      container_passed c.args.tables.now.grammar c.requires.ready.told.is_checked c.args.node c.args.m c.args.now.now kind element card at c.loop-c.c c.card-card.result c.loop-c.sum c.if-admits.sum c.card-card.ensures
      (sym c.admits.ensures ∙ w.if-admits.false) w.sum-is (c.loop-c.invariant kind element card at each)
]

pub returns : goal.returns
returns c = λ kind element card at each.
    container_all c.args.tables.now.grammar c.requires.ready.told.is_checked c.args.node c.args.m c.args.now.now kind element card at c.loop-c.c c.loop-c.sum (omega arith) (c.loop-c.invariant kind element card at each)
