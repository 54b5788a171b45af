use Rattle.std.proofs.Common.{◌-◌, ◌≤◌, ℕ, List, length, length-take, drop, slice_range, sym, subst, ◌∙◌, arith}
use Rattle.combstruct_cli.proofs.PieceLemmas.{IsPlaced, placed, place_later}
use Rattle.combstruct_cli.proofs.run.place_further.Goals as goal

short : (script : List ℕ) (at to : ℕ) → length (slice_range script at to) ≤ to - at
short script at to = omega (arith, length-take (to - at) (drop at script))

pub behind-requires-clause-line : goal.behind-requires-clause-line
behind-requires-clause-line c =
    let is = subst (IsPlaced c.args.at) (sym c.requires.placed) (placed c.args.script.now c.args.at) in
    omega (arith, is.line_high, short c.args.script.now c.args.at c.args.to, c.requires.order, c.requires.bound)

pub behind-requires-clause-column : goal.behind-requires-clause-column
behind-requires-clause-column c =
    let is = subst (IsPlaced c.args.at) (sym c.requires.placed) (placed c.args.script.now c.args.at) in
    omega (arith, is.column_high, short c.args.script.now c.args.at c.args.to, c.requires.order, c.requires.bound)

pub returns-clause-value : goal.returns-clause-value
returns-clause-value c = c.behind.ensures.value ∙ place_later c.args.script.now c.args.at c.args.to c.args.place c.requires.order c.requires.placed

pub returns-clause-line : goal.returns-clause-line
returns-clause-line c =
    let is = subst (IsPlaced c.args.to) (sym (c.behind.ensures.value ∙ place_later c.args.script.now c.args.at c.args.to c.args.place c.requires.order c.requires.placed)) (placed c.args.script.now c.args.to) in
    (is.line_low, omega (arith, is.line_high, c.requires.bound))

pub returns-clause-column : goal.returns-clause-column
returns-clause-column c =
    let is = subst (IsPlaced c.args.to) (sym (c.behind.ensures.value ∙ place_later c.args.script.now c.args.at c.args.to c.args.place c.requires.order c.requires.placed)) (placed c.args.script.now c.args.to) in
    (is.column_low, omega (arith, is.column_high, c.requires.bound))
