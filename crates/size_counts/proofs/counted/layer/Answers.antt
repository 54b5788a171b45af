use Rattle.std.proofs.Common.{◌∙◌, ℕ, arith, sym, subst, List, Option, length}
use Rattle.std.proofs.lemmas.Option.{slice_get_within}
use Rattle.spec_syntax.specs.Rules.{all_nodes}
use Rattle.size_counts.specs.Turns.{AreRows}
use Rattle.size_counts.proofs.LayerLemmas.{size_first, size_none, layer_kept, index_small}
use Rattle.size_counts.proofs.counted.layer.Goals as goal

pub overflow_cast-i : goal.overflow_cast-i
overflow_cast-i c =
    let are = subst (λ (rows : List (List (Option ℕ))). AreRows c.args.tables.now c.args.m (length (all_nodes c.args.tables.now.grammar.rules)) rows) (sym c.as_slice-3.ensures.value) c.in_ok-rows.ensures in
    let found = size_first c.args.tables.now c.args.m c.as_slice-3.result.now are c.requires.told.for_each c.in-Some.node c.in-Some.i c.in-Some.ensures.found in
    let few = index_small c.args.tables.now.grammar c.in-Some.node c.args.m c.in-Some.i found.0 found.1 c.requires.told.is_checked.spec found.2 c.requires.small found.3 in
    omega (arith, few)

pub place_of-place-requires-clause-within : goal.place_of-place-requires-clause-within
place_of-place-requires-clause-within c =
    let are = subst (λ (rows : List (List (Option ℕ))). AreRows c.args.tables.now c.args.m (length (all_nodes c.args.tables.now.grammar.rules)) rows) (sym c.as_slice-3.ensures.value) c.in_ok-rows.ensures in
    let found = size_first c.args.tables.now c.args.m c.as_slice-3.result.now are c.requires.told.for_each c.in-Some.node c.in-Some.i c.in-Some.ensures.found in
    slice_get_within (all_nodes c.args.tables.now.grammar.rules) c.in-Some.node found.0 found.2

pub place_of-place-requires-clause-small : goal.place_of-place-requires-clause-small
place_of-place-requires-clause-small c =
    let are = subst (λ (rows : List (List (Option ℕ))). AreRows c.args.tables.now c.args.m (length (all_nodes c.args.tables.now.grammar.rules)) rows) (sym c.as_slice-3.ensures.value) c.in_ok-rows.ensures in
    let found = size_first c.args.tables.now c.args.m c.as_slice-3.result.now are c.requires.told.for_each c.in-Some.node c.in-Some.i c.in-Some.ensures.found in
    index_small c.args.tables.now.grammar c.in-Some.node c.args.m c.in-Some.i found.0 found.1 c.requires.told.is_checked.spec found.2 c.requires.small found.3

pub returns-in-Some : goal.returns-in-Some
returns-in-Some c =
    let are = subst (λ (rows : List (List (Option ℕ))). AreRows c.args.tables.now c.args.m (length (all_nodes c.args.tables.now.grammar.rules)) rows) (sym c.as_slice-3.ensures.value) c.in_ok-rows.ensures in
    let found = size_first c.args.tables.now c.args.m c.as_slice-3.result.now are c.requires.told.for_each c.in-Some.node c.in-Some.i c.in-Some.ensures.found in
    (record { size = c.args.m; node = c.in-Some.node; numbered = found.1 }, found.4, c.place_of-place.ensures found.0 found.1 found.2 found.3)

pub returns : goal.returns
returns c =
    let are = subst (λ (rows : List (List (Option ℕ))). AreRows c.args.tables.now c.args.m (length (all_nodes c.args.tables.now.grammar.rules)) rows) (sym c.as_slice-3.ensures.value) c.in_ok-rows.ensures in
    let same = sym c.as_slice-4.ensures.value in (
      layer_kept c.args.tables.now c.args.m c.in_ok-rows.rows.items c.in_ok-kept.field-0 c.in_ok-rows.ensures (same ∙ c.in_ok-kept.ensures),
      size_none c.args.tables.now c.args.m c.as_slice-3.result.now are c.requires.told.for_each (c.too_large.ensures.none c.in_default.is),
    )
