use Rattle.std.proofs.Common.{◌≡◌, ◌+◌, ◌*◌, ℕ, List, length, ap, subst, sym, ◌∙◌, arith}
use Rattle.spec_syntax.specs.declared.expr.Card.{Card}
use Rattle.spec_syntax.specs.declared.expr.Kind.TheVariants.{Set}
use Rattle.spec_syntax.specs.Nodes.{node_at}
use Rattle.splits.specs.Capped.{Tells}
use Rattle.size_counts.specs.Tables.{Layer}
use Rattle.size_counts.specs.Numbers.{most_components}
use Rattle.size_counts.specs.Repeats.{by_sizes, fewer, multisets_met}
use Rattle.size_counts.proofs.FilledLemmas.{kind_there}
use Rattle.size_counts.proofs.ListLemmas.{card_same}
use Rattle.size_counts.proofs.MultisetLemmas.{by_sizes_count, longer_more, longer_all, no_fewer_sets, sets_met}
use Rattle.size_counts.proofs.multisets.longer_multisets.Goals as goal

pub multisets-requires-clause-numbers : goal.multisets-requires-clause-numbers
multisets-requires-clause-numbers c =
    let count : length c.as_slice.result.now ≡ length c.as_slice-layers.result.now = ap (λ (all : List (List ℕ)). length all) (c.as_slice.ensures.value ∙ c.in_ok-numbers.ensures) ∙ by_sizes_count c.as_slice-layers.result.now c.args.node in
    let filled : length c.as_slice-layers.result.now ≡ c.args.m = ap (λ (all : List Layer). length all) c.as_slice-layers.ensures.value ∙ c.requires.ready.filled in
    omega (arith, count, filled)

pub multisets-requires-clause-none : goal.multisets-requires-clause-none
multisets-requires-clause-none c = λ i k below less.
    let there = kind_there (node_at c.args.tables.now.grammar.rules c.args.node) Set c.requires.kind in
    let bound : most_components c.card.result c.args.m ≡ most_components there.1 c.args.m =
    ap (λ (card : Card). most_components card c.args.m) (card_same (node_at c.args.tables.now.grammar.rules c.args.node) Set there.0 there.1 c.card.result there.2 c.card.ensures) in
    subst (λ (numbers : List (List ℕ)). fewer numbers i k ≡ 0) (sym (c.as_slice.ensures.value ∙ c.in_ok-numbers.ensures))
    (subst (λ (layers : List Layer). fewer (by_sizes layers c.args.node) i k ≡ 0) (sym c.as_slice-layers.ensures.value)
    (no_fewer_sets c.args.tables.now.grammar c.args.tables.now.marks.items c.args.tables.now.layers.items c.requires.ready.told c.args.node there.0 there.1 c.args.m c.requires.ready.filled c.requires.marked there.2
    (c.loop-earlier.earlier + 2) i k (omega (arith, c.saturating_sub-earlier-end.ensures, c.most_components-most.ensures, bound)) below less))

pub loop-earlier-preserved : goal.loop-earlier-preserved
loop-earlier-preserved c = λ element card at.
    longer_more c.args.tables.now.grammar c.args.node Set element card c.card.result c.args.m at c.card.ensures c.loop-earlier.earlier _ c.multisets.result c.loop-earlier.made c.push.new.self
    (omega (arith, c.saturating_sub-earlier-end.ensures, c.most_components-most.ensures))
    (sets_met c.args.tables.now.grammar c.args.tables.now.marks.items c.args.tables.now.layers.items c.requires.ready.told c.args.node element card c.args.m c.requires.ready.filled c.requires.marked at
    c.child-element.result (c.loop-earlier.earlier + 2) c.child-element.ensures.value c.child-element.ensures.argument c.requires.unlabelled (omega arith))
    (subst (λ (layers : List Layer). (n : ℕ) → (c.loop-earlier.earlier + 2) * n ≡ multisets_met layers (by_sizes layers c.args.node) c.child-element.result (c.loop-earlier.earlier + 2) c.args.m → Tells c.multisets.result n)
    c.as_slice-layers.ensures.value
    (subst (λ (numbers : List (List ℕ)). (n : ℕ) → (c.loop-earlier.earlier + 2) * n ≡ multisets_met c.as_slice-layers.result.now numbers c.child-element.result (c.loop-earlier.earlier + 2) c.args.m → Tells c.multisets.result n)
    (c.as_slice.ensures.value ∙ c.in_ok-numbers.ensures) c.multisets.ensures))
    c.in_ok-push.ensures.ok (c.loop-earlier.invariant element card at)

pub returns : goal.returns
returns c = λ element card at.
    longer_all c.args.tables.now.grammar c.args.node Set element card c.card.result c.args.m at c.card.ensures c.loop-earlier.earlier c.loop-earlier.made
    (omega (arith, c.saturating_sub-earlier-end.ensures, c.most_components-most.ensures)) (c.loop-earlier.invariant element card at)
