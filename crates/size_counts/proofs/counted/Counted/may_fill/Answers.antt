use Rattle.std.proofs.Common.{◌≡◌, ℕ, List, get_or, true, false, subst, sym, ap, ◌∙◌}
use Rattle.size_counts.specs.CountedView.{Counts, number_of}
use Rattle.size_counts.specs.Totals.{may_fill, IsFilled}
use Rattle.size_counts.proofs.TotalsValue.{no_atoms_fill}
use Rattle.size_counts.proofs.TotalsFilled.{read_totals_room, read_no_sets_filled, read_no_power_sets_filled, read_sets_filled, read_power_sets_filled}
use Rattle.size_counts.proofs.counted.Counted.may_fill.Goals as goal

pub is_filled-requires-clause-rows : goal.is_filled-requires-clause-rows
is_filled-requires-clause-rows c =
    read_totals_room c.args.self.now c.self.inside c.self.invariant (sym c.self.view_is) c.args.node c.args.n c.as_slice-rows.result.now c.requires.reached c.requires.within
    (subst (λ (rows : List (List ℕ)). rows ≡ get_or c.self.inside.totals.items c.args.node rows) (sym c.as_slice-rows.ensures) c.index.ensures)
    (ap (λ (some : Counts). some.checked.universe) (sym c.self.view_is) ∙ sym c.in-Unlabelled.ensures) c.requires.kind

pub returns-then-n-eq0-clause-sets : goal.returns-then-n-eq0-clause-sets
returns-then-n-eq0-clause-sets c = λ unlabelled is element child.
    no_atoms_fill (number_of c.args.self.now element) false c.args.card c.args.least
    ∙ ap (λ (n : ℕ). may_fill (number_of c.args.self.now element) false c.args.card c.args.least n) (sym c.if-n-eq0.true)

pub returns-in-Unlabelled-clause-no_sets : goal.returns-in-Unlabelled-clause-no_sets
returns-in-Unlabelled-clause-no_sets c = λ unlabelled is isnt.
    read_no_sets_filled c.args.self.now c.self.inside c.self.invariant (sym c.self.view_is) c.args.node c.args.n c.as_slice-rows.result.now c.requires.reached c.requires.within
    (subst (λ (rows : List (List ℕ)). rows ≡ get_or c.self.inside.totals.items c.args.node rows) (sym c.as_slice-rows.ensures) c.index.ensures) c.args.least c.args.card c.ranges.least.fits c.requires.high
    (λ there. c.is_filled.ensures.none isnt (subst (λ (least : ℕ). IsFilled c.as_slice-rows.result.now c.args.card least c.args.n) (sym c.max.ensures) there)) unlabelled is

pub returns-in-Unlabelled-clause-sets : goal.returns-in-Unlabelled-clause-sets
returns-in-Unlabelled-clause-sets c =
    read_sets_filled c.args.self.now c.self.inside c.self.invariant (sym c.self.view_is) c.args.node c.args.n c.as_slice-rows.result.now c.requires.reached c.requires.within
    (subst (λ (rows : List (List ℕ)). rows ≡ get_or c.self.inside.totals.items c.args.node rows) (sym c.as_slice-rows.ensures) c.index.ensures) c.args.least c.args.card c.ranges.least.fits c.requires.high c.is_filled.result
    (λ is. subst (λ (least : ℕ). IsFilled c.as_slice-rows.result.now c.args.card least c.args.n) c.max.ensures (c.is_filled.ensures.some is))
    (λ isnt there. c.is_filled.ensures.none isnt (subst (λ (least : ℕ). IsFilled c.as_slice-rows.result.now c.args.card least c.args.n) (sym c.max.ensures) there))

pub returns-then-n-eq0-clause-power_sets : goal.returns-then-n-eq0-clause-power_sets
returns-then-n-eq0-clause-power_sets c = λ unlabelled is element child.
    no_atoms_fill (number_of c.args.self.now element) true c.args.card c.args.least
    ∙ ap (λ (n : ℕ). may_fill (number_of c.args.self.now element) true c.args.card c.args.least n) (sym c.if-n-eq0.true)

pub returns-in-Unlabelled-clause-no_power_sets : goal.returns-in-Unlabelled-clause-no_power_sets
returns-in-Unlabelled-clause-no_power_sets c = λ unlabelled is isnt.
    read_no_power_sets_filled c.args.self.now c.self.inside c.self.invariant (sym c.self.view_is) c.args.node c.args.n c.as_slice-rows.result.now c.requires.reached c.requires.within
    (subst (λ (rows : List (List ℕ)). rows ≡ get_or c.self.inside.totals.items c.args.node rows) (sym c.as_slice-rows.ensures) c.index.ensures) c.args.least c.args.card c.ranges.least.fits c.requires.high
    (λ there. c.is_filled.ensures.none isnt (subst (λ (least : ℕ). IsFilled c.as_slice-rows.result.now c.args.card least c.args.n) (sym c.max.ensures) there)) unlabelled is

pub returns-in-Unlabelled-clause-power_sets : goal.returns-in-Unlabelled-clause-power_sets
returns-in-Unlabelled-clause-power_sets c =
    read_power_sets_filled c.args.self.now c.self.inside c.self.invariant (sym c.self.view_is) c.args.node c.args.n c.as_slice-rows.result.now c.requires.reached c.requires.within
    (subst (λ (rows : List (List ℕ)). rows ≡ get_or c.self.inside.totals.items c.args.node rows) (sym c.as_slice-rows.ensures) c.index.ensures) c.args.least c.args.card c.ranges.least.fits c.requires.high c.is_filled.result
    (λ is. subst (λ (least : ℕ). IsFilled c.as_slice-rows.result.now c.args.card least c.args.n) c.max.ensures (c.is_filled.ensures.some is))
    (λ isnt there. c.is_filled.ensures.none isnt (subst (λ (least : ℕ). IsFilled c.as_slice-rows.result.now c.args.card least c.args.n) (sym c.max.ensures) there))
