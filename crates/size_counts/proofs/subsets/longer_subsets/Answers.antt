use Rattle.std.proofs.Common.{◌≡◌, ◌+◌, ◌*◌, ℕ, List, length, ap, subst, ◌∙◌, arith}
use Rattle.spec_syntax.specs.declared.expr.Kind.TheVariants.{PowerSet}
use Rattle.splits.specs.Capped.{Tells}
use Rattle.size_counts.specs.Tables.{Layer}
use Rattle.size_counts.specs.Repeats.{by_sizes, subsets_met}
use Rattle.size_counts.proofs.MultisetLemmas.{by_sizes_count, longer_more, longer_all}
use Rattle.size_counts.proofs.SubsetLemmas.{power_sets_met}
use Rattle.size_counts.proofs.subsets.longer_subsets.Goals as goal

pub subsets-requires-clause-numbers : goal.subsets-requires-clause-numbers
subsets-requires-clause-numbers c =
    let count : length c.as_slice.result.now ≡ length c.as_slice-layers.result.now = ap (λ (all : List (List ℕ)). length all) (c.as_slice.ensures.value ∙ c.in_ok-numbers.ensures) ∙ by_sizes_count c.as_slice-layers.result.now c.args.node in
    let filled : length c.as_slice-layers.result.now ≡ c.args.m = ap (λ (all : List Layer). length all) c.as_slice-layers.ensures.value ∙ c.requires.ready.filled in
    omega (arith, count, filled)

pub loop-earlier-preserved : goal.loop-earlier-preserved
loop-earlier-preserved c = λ element card at.
    longer_more c.args.tables.now.grammar c.args.node PowerSet element card c.card.result c.args.m at c.card.ensures c.loop-earlier.earlier _ c.subsets.result c.loop-earlier.made c.push.new.self
    (omega (arith, c.saturating_sub-earlier-end.ensures, c.most_components-most.ensures))
    (power_sets_met c.args.tables.now.grammar c.args.tables.now.marks.items c.args.tables.now.layers.items c.requires.ready.told c.args.node element card c.args.m c.requires.ready.filled c.requires.marked at
    c.child-element.result (c.loop-earlier.earlier + 2) c.child-element.ensures.value c.child-element.ensures.argument c.requires.unlabelled (omega arith))
    (subst (λ (layers : List Layer). (n : ℕ) → (c.loop-earlier.earlier + 2) * n ≡ subsets_met layers (by_sizes layers c.args.node) c.child-element.result (c.loop-earlier.earlier + 2) c.args.m → Tells c.subsets.result n)
    c.as_slice-layers.ensures.value
    (subst (λ (numbers : List (List ℕ)). (n : ℕ) → (c.loop-earlier.earlier + 2) * n ≡ subsets_met c.as_slice-layers.result.now numbers c.child-element.result (c.loop-earlier.earlier + 2) c.args.m → Tells c.subsets.result n)
    (c.as_slice.ensures.value ∙ c.in_ok-numbers.ensures) c.subsets.ensures))
    c.in_ok-push.ensures.ok (c.loop-earlier.invariant element card at)

pub returns : goal.returns
returns c = λ element card at.
    longer_all c.args.tables.now.grammar c.args.node PowerSet element card c.card.result c.args.m at c.card.ensures c.loop-earlier.earlier c.loop-earlier.made
    (omega (arith, c.saturating_sub-earlier-end.ensures, c.most_components-most.ensures)) (c.loop-earlier.invariant element card at)
