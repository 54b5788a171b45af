use Rattle.std.proofs.Common.{◌≡◌, not, ℕ, List, Option, Some, None, position, is_none, sym, ap, subst, ◌∙◌, arith}
use Rattle.std.specs.List.{position_from}
use Rattle.lists.proofs.Positions.{found_within}
use Rattle.spec_syntax.specs.Grammar.{Grammar}
use Rattle.well_founded.specs.Least.{least_with, size_of_name}
use Rattle.well_founded.specs.Containers.{is_allowed, is_without_null}
use Rattle.well_founded.specs.Sized.{IsSized, IsAllButFinite}
use Rattle.well_founded.proofs.CheckSteps.{Rule, cycle_said, none_with_cycle, no_undefined, unproductive_said, each_productive, null_said, none_over_null}
use Rattle.well_founded.proofs.checking.check.Goals as goal

pub name_of-requires-clause-low : goal.name_of-requires-clause-low
name_of-requires-clause-low c =
    (found_within (λ (rule : Rule). not (is_allowed c.args.universe rule.1)) c.args.spec.now 1 c.in-Some-first_with_cycle.sym (sym c.in-Some-first_with_cycle.ensures)).0

pub name_of-requires-clause-high : goal.name_of-requires-clause-high
name_of-requires-clause-high c =
    omega (arith, (found_within (λ (rule : Rule). not (is_allowed c.args.universe rule.1)) c.args.spec.now 1 c.in-Some-first_with_cycle.sym (sym c.in-Some-first_with_cycle.ensures)).1)

pub returns-in-Some-first_with_cycle-clause-refused : goal.returns-in-Some-first_with_cycle-clause-refused
returns-in-Some-first_with_cycle-clause-refused c =
    let g : Grammar = record { rules = c.args.spec.now; universe = c.args.universe } in
    λ other. cycle_said g c.in-Some-first_with_cycle.sym c.in_ok-name_of.field-0 (sym c.in-Some-first_with_cycle.ensures) c.in_ok-name_of.ensures _ (sym c.in_default.ensures)

pub returns-in-Some-first_without-clause-refused : goal.returns-in-Some-first_without-clause-refused
returns-in-Some-first_without-clause-refused c =
    let g : Grammar = record { rules = c.args.spec.now; universe = c.args.universe } in
    let table : List (Option ℕ) = c.in_ok-sizes.sizes.items in
    let sized : IsSized g table =
    record { spec = c.in_ok-sizes.ensures.kept; no_cycles = none_with_cycle g (sym c.in_default-first_with_cycle.ensures); sizes = c.in_ok-sizes.ensures.sizes; small = c.in_ok-sizes.ensures.small } in
    let found : position (is_none {T = ℕ}) table ≡ Some c.in-Some-first_without.place =
    ap (position (is_none {T = ℕ})) (sym c.deref.ensures.value) ∙ sym c.in-Some-first_without.ensures in
    λ other. unproductive_said g table sized c.in-Some-first_without.place c.in_ok-name_of-2.field-0 found c.in_ok-name_of-2.ensures _ (sym c.in_default.ensures)

pub name_of-requires-in-Some-first_over_null-clause-low : goal.name_of-requires-in-Some-first_over_null-clause-low
name_of-requires-in-Some-first_over_null-clause-low c =
    (found_within (λ (rule : Rule). not (is_without_null (least_with (size_of_name c.args.spec.now c.deref-2.result.now)) rule.1)) c.args.spec.now 1 c.in-Some-first_over_null.sym
    (sym c.in-Some-first_over_null.ensures)).0

pub name_of-requires-in-Some-first_over_null-clause-high : goal.name_of-requires-in-Some-first_over_null-clause-high
name_of-requires-in-Some-first_over_null-clause-high c =
    omega (
      arith,
      (found_within (λ (rule : Rule). not (is_without_null (least_with (size_of_name c.args.spec.now c.deref-2.result.now)) rule.1)) c.args.spec.now 1 c.in-Some-first_over_null.sym
          (sym c.in-Some-first_over_null.ensures)).1,
    )

pub returns-in-Some-first_over_null-clause-refused : goal.returns-in-Some-first_over_null-clause-refused
returns-in-Some-first_over_null-clause-refused c =
    let g : Grammar = record { rules = c.args.spec.now; universe = c.args.universe } in
    let table : List (Option ℕ) = c.in_ok-sizes.sizes.items in
    let sized : IsSized g table =
    record { spec = c.in_ok-sizes.ensures.kept; no_cycles = none_with_cycle g (sym c.in_default-first_with_cycle.ensures); sizes = c.in_ok-sizes.ensures.sizes; small = c.in_ok-sizes.ensures.small } in
    let none : position (is_none {T = ℕ}) table ≡ None = ap (position (is_none {T = ℕ})) (sym c.deref.ensures.value) ∙ sym c.in_default-first_without.ensures in
    let found : position_from (λ rule. not (is_without_null (least_with (size_of_name g.rules table)) rule.1)) 1 g.rules ≡ Some c.in-Some-first_over_null.sym =
    ap (λ (t : List (Option ℕ)). position_from (λ rule. not (is_without_null (least_with (size_of_name g.rules t)) rule.1)) 1 g.rules) (sym c.deref-2.ensures.value)
    ∙ sym c.in-Some-first_over_null.ensures in
    λ other. null_said g table sized (each_productive g table sized none) c.in-Some-first_over_null.sym c.in_ok-name_of-3.field-0 found c.in_ok-name_of-3.ensures _ (sym c.in_default.ensures)

pub check_sized-requires-clause-all_but_finite : goal.check_sized-requires-clause-all_but_finite
check_sized-requires-clause-all_but_finite c =
    let g : Grammar = record { rules = c.args.spec.now; universe = c.args.universe } in
    let table : List (Option ℕ) = c.in_ok-sizes.sizes.items in
    let sized : IsSized g table =
    record { spec = c.in_ok-sizes.ensures.kept; no_cycles = none_with_cycle g (sym c.in_default-first_with_cycle.ensures); sizes = c.in_ok-sizes.ensures.sizes; small = c.in_ok-sizes.ensures.small } in
    let productive : position (is_none {T = ℕ}) table ≡ None = ap (position (is_none {T = ℕ})) (sym c.deref.ensures.value) ∙ sym c.in_default-first_without.ensures in
    let none : position_from (λ rule. not (is_without_null (least_with (size_of_name g.rules table)) rule.1)) 1 g.rules ≡ None =
    ap (λ (t : List (Option ℕ)). position_from (λ rule. not (is_without_null (least_with (size_of_name g.rules t)) rule.1)) 1 g.rules) (sym c.deref-2.ensures.value)
    ∙ sym c.in_default-first_over_null.ensures in
    subst (IsAllButFinite g) (sym c.deref-3.ensures.value)
    (record {
      sized = sized;
      named = no_undefined g.rules _ (sym c.in_default.ensures);
      productive = each_productive g table sized productive;
      no_nulls = none_over_null g table sized none;
    })
