use Rattle.std.proofs.Common.{◌+◌, drop, find, Option, List, ℕ, sym, ap, ◌∙◌}
use Rattle.std.specs.Option.{option_or}
use Rattle.well_founded.specs.Names.{names_used_in}
use Rattle.well_founded.specs.UsedNames.{lacks_rule}
use Rattle.well_founded.proofs.UsedNamesLaws.{find-names_used_in}
use Rattle.well_founded.proofs.names.first_used.Goals as goal

pub returns-in-Some : goal.returns-in-Some
returns-in-Some c =
    let wanted = lacks_rule c.args.spec.now in
    let rest : Option (List ℕ) = find wanted (names_used_in (drop (c.loop-place.place + 1) c.args.spec.now)) in
    ap (λ found. option_or found rest) c.in-Some.ensures
    ∙ sym (c.loop-place.invariant ∙ find-names_used_in wanted c.args.spec.now c.loop-place.place c.right.result.now c.right.ensures.value)

pub loop-place-preserved : goal.loop-place-preserved
loop-place-preserved c =
    let wanted = lacks_rule c.args.spec.now in
    let rest : Option (List ℕ) = find wanted (names_used_in (drop (c.loop-place.place + 1) c.args.spec.now)) in
    c.loop-place.invariant ∙ find-names_used_in wanted c.args.spec.now c.loop-place.place c.right.result.now c.right.ensures.value
    ∙ ap (λ found. option_or found rest) (sym c.in_default.ensures)
