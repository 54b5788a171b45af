use Rattle.std.proofs.Common.{◌≡◌, ◌≤◌, ◌-◌, [], ◌∷◌, ◌++◌, get_or, length, None, Some, sym, ap, ◌∙◌, arith}
use Rattle.spec_syntax.specs.Rules.{symbol}
use Rattle.spec_syntax.proofs.RulesLemmas.{symbol-within}
use Rattle.well_founded.specs.Least.{least_with, size_of_name}
use Rattle.spec_syntax.proofs.NodesLemmas.{length-all_right_nodes, read-all_right_nodes}
use Rattle.well_founded.proofs.SameSizeCode.{no_rule, is_followed, is_not_followed}
use Rattle.well_founded.proofs.same_size.name_followers.Goals as goal
use Rattle.well_founded.proofs.same_size.name_followers.Goals.{in-Some+then-is_told_inside+in_ok-push, in-Some+else-is_told_inside, in_default}

pub right-requires-clause-low : goal.right-requires-clause-low
right-requires-clause-low c = (symbol-within c.args.spec.now c.as_slice.result.now c.in-Some.sym (sym c.in-Some.ensures)).0

pub right-requires-clause-high : goal.right-requires-clause-high
right-requires-clause-high c = (symbol-within c.args.spec.now c.as_slice.result.now c.in-Some.sym (sym c.in-Some.ensures)).1

pub bounds-roots-sym : goal.bounds-roots-sym
bounds-roots-sym c =
    let within : (1 ≤ c.in-Some.sym) × (c.in-Some.sym ≤ length c.args.spec.now) = symbol-within c.args.spec.now c.as_slice.result.now c.in-Some.sym (sym c.in-Some.ensures) in
    omega (arith, within.0, within.1, ap length c.requires, length-all_right_nodes c.args.spec.now)

pub returns : goal.returns
returns c =
    let rules = c.args.spec.now in
    let sizes = least_with (size_of_name c.args.spec.now c.args.sizes.now) in
    let name = c.args.name.now in
    elim c.match-find.branch [
      | in-Some+then-is_told_inside+in_ok-push w ↦
          let number = w.in-Some.sym in
          let numbered : symbol rules name ≡ Some number = ap (symbol rules) (sym c.as_slice.ensures) ∙ sym w.in-Some.ensures in
          let within = symbol-within rules name number numbered in
          w.row-is ∙ w.in_ok-push.ensures.ok
          ∙ ap (λ row. row ++ get_or c.args.roots.now (number - 1) 0 ∷ []) c.new-row.ensures
          ∙ ap (λ roots. get_or roots (number - 1) 0 ∷ []) c.requires
          ∙ ap (λ root. root ∷ []) (read-all_right_nodes rules number 0 within.0 within.1)
          ∙ sym (is_followed rules sizes name number w.right.result.now numbered w.right.ensures.value (sym w.is_told_inside.ensures ∙ w.if-is_told_inside.true))
      | in-Some+else-is_told_inside w ↦
          let numbered : symbol rules name ≡ Some w.in-Some.sym = ap (symbol rules) (sym c.as_slice.ensures) ∙ sym w.in-Some.ensures in
          w.row-is ∙ c.new-row.ensures
          ∙ sym (is_not_followed rules sizes name w.in-Some.sym w.right.result.now numbered w.right.ensures.value (sym w.is_told_inside.ensures ∙ w.if-is_told_inside.false))
      | in_default w ↦
          let none : symbol rules name ≡ None = ap (symbol rules) (sym c.as_slice.ensures) ∙ sym w.in_default.ensures in
          w.row-is ∙ c.new-row.ensures ∙ sym (no_rule rules sizes name none)
    ]
