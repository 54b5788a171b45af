use Rattle.std.proofs.Common.{◌≡◌, ◌+◌, ◌-◌, ℕ, List, Option, Some, length, slice_get, refl, ap, sym, subst, ◌∙◌, arith}
use Rattle.spec_syntax.specs.Nodes.{node_at}
use Rattle.struct_model.specs.Bounded.{number}
use Rattle.well_founded.specs.Checked.{grammar}
use Rattle.listing_laws.specs.ContainersRecur.{of_components}
use Rattle.size_counts.specs.Components.{rest_kind, first_ways}
use Rattle.size_counts.specs.Tables.{Layer}
use Rattle.size_counts.specs.Ways.{universe_of}
use Rattle.size_counts.proofs.ReachedLemmas.{at_read}
use Rattle.size_counts.proofs.SumLemmas.{AreSummed}
use Rattle.size_counts.proofs.ListLemmas.{firsts_none, firsts_pass, firsts_more, firsts_all, card_here, kind_same}
use Rattle.size_counts.proofs.SuffixLemmas.{layer_room, node_within}
use Rattle.size_counts.proofs.components.add_by_first.Goals as goal
use Rattle.size_counts.proofs.components.add_by_first.Goals.{then-elements-gt0, else-elements-gt0}

pub loop-d-init : goal.loop-d-init
loop-d-init c = record {
  for_each = refl;
  summed = λ kind element card at.
      firsts_none c.args.tables.now.grammar c.args.tables.now.marks.items c.args.tables.now.layers.items c.requires.ready.told c.args.node kind element card c.requires.marked at c.kind-kind.result
      (universe_of c.args.tables.now.ways) c.args.m c.args.sums.now c.requires.zeros;
}

pub cell-elements-requires : goal.cell-elements-requires
cell-elements-requires c =
    let count : length c.as_slice-layers.result.now ≡ c.args.m = ap (λ (all : List Layer). length all) c.as_slice-layers.ensures.value ∙ c.requires.ready.filled in
    layer_room c.args.tables.now.grammar c.args.tables.now.marks.items c.args.tables.now.layers.items c.as_slice-layers.result.now c.requires.ready.told c.as_slice-layers.ensures.value c.child-element.result
    c.child-element.ensures.within c.loop-d.d c.index-layers-d.result (at_read c.as_slice-layers.result.now c.loop-d.d c.index-layers-d.result (omega arith) c.index-layers-d.is)

pub at-row-requires : goal.at-row-requires
at-row-requires c =
    let count : length c.as_slice-layers.result.now ≡ c.args.m = ap (λ (all : List Layer). length all) c.as_slice-layers.ensures.value ∙ c.requires.ready.filled in
    layer_room c.args.tables.now.grammar c.args.tables.now.marks.items c.args.tables.now.layers.items c.as_slice-layers.result.now c.requires.ready.told c.as_slice-layers.ensures.value c.args.node
    (node_within c.args.tables.now.grammar c.args.tables.now.marks.items c.args.tables.now.layers.items c.requires.ready.told c.args.node c.requires.marked) (c.args.m - c.loop-d.d) c.index-layers-m.result
    (at_read c.as_slice-layers.result.now (c.args.m - c.loop-d.d) c.index-layers-m.result (omega arith) c.index-layers-m.is)

pub loop-d-preserved : goal.loop-d-preserved
loop-d-preserved c =
    let count : length c.as_slice-layers.result.now ≡ c.args.m = ap (λ (all : List Layer). length all) c.as_slice-layers.ensures.value ∙ c.requires.ready.filled in
    let layer_at = ap (λ (all : List Layer). slice_get all c.loop-d.d) (sym c.as_slice-layers.ensures.value) ∙ at_read c.as_slice-layers.result.now c.loop-d.d c.index-layers-d.result (omega arith) c.index-layers-d.is in
    elim c.if-elements-gt0.branch [
      | then-elements-gt0 w ↦ record {
        for_each = ap (λ (items : List (Option ℕ)). length items) w.sums-is ∙ w.add_longer.ensures.same ∙ c.loop-d.invariant.for_each;
        summed = λ kind element card at.
            subst
            (λ (items : List (Option ℕ)). AreSummed (first_ways (universe_of c.args.tables.now.ways) c.kind-kind.result c.args.m) (number (grammar c.args.tables.now.grammar) element)
            (of_components (grammar c.args.tables.now.grammar) (rest_kind kind) element) c.args.m (c.loop-d.d + 1) items)
            (sym w.sums-is)
            (firsts_more c.args.tables.now.grammar c.args.tables.now.marks.items c.args.tables.now.layers.items c.requires.ready.told c.args.node kind element card c.requires.marked at c.kind-kind.result
            (universe_of c.args.tables.now.ways) c.child-element.result c.args.m c.loop-d.d c.cell-elements.result w.first_ways.result w.times-firsts.result c.index-layers-d.result w.index-layers-m.result w.as_slice.result.now
            c.loop-d.sums w.add_longer.new.sums (kind_same (node_at c.args.tables.now.grammar.rules c.args.node) kind element card c.kind-kind.result at c.kind-kind.ensures)
            c.child-element.ensures.value c.child-element.ensures.argument layer_at c.cell-elements.ensures
            (ap (λ (all : List Layer). slice_get all (c.args.m - c.loop-d.d)) (sym c.as_slice-layers.ensures.value)
            ∙ at_read c.as_slice-layers.result.now (c.args.m - c.loop-d.d) w.index-layers-m.result (omega arith) w.index-layers-m.is)
            (w.at-row.ensures ∙ ap Some (sym w.as_slice.ensures))
            (c.loop-d.invariant.for_each
            ∙ c.requires.count card (card_here c.args.tables.now.grammar c.args.tables.now.marks.items c.args.tables.now.layers.items c.requires.ready.told c.args.node kind element card c.requires.marked at))
            w.first_ways.ensures w.times-firsts.ensures w.add_longer.ensures.same w.add_longer.ensures.each (c.loop-d.invariant.summed kind element card at));
      }
      | else-elements-gt0 w ↦ record {
        for_each = ap (λ (items : List (Option ℕ)). length items) w.sums-is ∙ c.loop-d.invariant.for_each;
        summed = λ kind element card at.
            subst
            (λ (items : List (Option ℕ)). AreSummed (first_ways (universe_of c.args.tables.now.ways) c.kind-kind.result c.args.m) (number (grammar c.args.tables.now.grammar) element)
            (of_components (grammar c.args.tables.now.grammar) (rest_kind kind) element) c.args.m (c.loop-d.d + 1) items)
            (sym w.sums-is)
            (firsts_pass c.args.tables.now.grammar c.args.tables.now.marks.items c.args.tables.now.layers.items c.requires.ready.told c.args.node kind element card c.requires.marked at c.kind-kind.result
            (universe_of c.args.tables.now.ways) c.child-element.result c.args.m c.loop-d.d c.index-layers-d.result c.loop-d.sums c.child-element.ensures.value c.child-element.ensures.argument layer_at
            (sym c.cell-elements.ensures ∙ omega arith) (c.loop-d.invariant.summed kind element card at));
      }
    ]

pub returns-clause-told : goal.returns-clause-told
returns-clause-told c = λ kind element card at may.
    firsts_all c.args.tables.now.grammar c.args.tables.now.marks.items c.args.tables.now.layers.items c.requires.ready.told c.args.node kind element card c.requires.marked at c.kind-kind.result
    (universe_of c.args.tables.now.ways) c.args.m c.loop-d.d c.loop-d.sums (kind_same (node_at c.args.tables.now.grammar.rules c.args.node) kind element card c.kind-kind.result at c.kind-kind.ensures)
    (c.loop-d.invariant.for_each
    ∙ c.requires.count card (card_here c.args.tables.now.grammar c.args.tables.now.marks.items c.args.tables.now.layers.items c.requires.ready.told c.args.node kind element card c.requires.marked at))
    (omega arith) (λ some. c.loop-d.auto.d-end some) c.requires.ready.universe may (c.loop-d.invariant.summed kind element card at)
