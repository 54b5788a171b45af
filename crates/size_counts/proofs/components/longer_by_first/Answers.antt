use Rattle.std.proofs.Common.{◌≡◌, ◌-◌, ℕ, List, Option, Some, length, slice_get, map, replicate, ap, sym, subst, ◌∙◌, arith, rules}
use Rattle.std.specs.List.{range_with_len}
use Rattle.std.proofs.lemmas.Grind.{common_steps}
use Rattle.std.proofs.lemmas.List.{length-replicate}
use Rattle.spec_syntax.specs.declared.expr.Card.{Card}
use Rattle.well_founded.specs.Checked.{grammar}
use Rattle.listing_laws.specs.ContainersRecur.{of_components}
use Rattle.size_counts.specs.Numbers.{most_components}
use Rattle.size_counts.specs.Told.{TellAll}
use Rattle.size_counts.proofs.SumLemmas.{if_ok, zeros_at}
use Rattle.size_counts.proofs.components.longer_by_first.Goals as goal

pub add_by_first-requires-clause-count : goal.add_by_first-requires-clause-count
add_by_first-requires-clause-count c = λ card is.
    let zeros : c.in_ok-sums.sums.items ≡ replicate (c.most_components-most.result - 1) (Some 0) = search rules in
    let same : Some card ≡ Some c.card.result = sym is ∙ c.card.ensures in
    let read : card ≡ c.card.result = cc in
    let most : most_components card c.args.m ≡ c.most_components-most.result = ap (λ (k : Card). most_components k c.args.m) read ∙ sym c.most_components-most.ensures in
    let count : length c.in_ok-sums.sums.items ≡ c.most_components-most.result - 1 = ap (λ (items : List (Option ℕ)). length items) zeros ∙ length-replicate (c.most_components-most.result - 1) (Some 0) in
    grind (arith, c.deref_mut.ensures)

pub add_by_first-requires-clause-zeros : goal.add_by_first-requires-clause-zeros
add_by_first-requires-clause-zeros c = λ i sum there.
    let zeros : c.in_ok-sums.sums.items ≡ replicate (c.most_components-most.result - 1) (Some 0) = search rules in
    zeros_at (c.most_components-most.result - 1) i sum (ap (λ (items : List (Option ℕ)). slice_get items i) (sym (c.deref_mut.ensures.value ∙ zeros)) ∙ there)

pub returns : goal.returns
returns c = if_ok c.from_slice.result _ _
    (λ made same. λ kind element card at may.
    let taken : c.as_slice.result.now ≡ c.add_by_first.new.sums = grind (arith, common_steps, c.add_by_first.ensures.same) in
    subst (λ (items : List (Option ℕ)). TellAll items (map (λ (k : ℕ). of_components (grammar c.args.tables.now.grammar) kind element k c.args.m) (range_with_len 2 (most_components card c.args.m - 1))))
    (sym (same ∙ taken)) (c.add_by_first.ensures.told kind element card at may))
    c.from_slice.ensures
