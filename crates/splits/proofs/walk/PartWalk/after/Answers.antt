-- The parts of the lengths that are marked are those within bounds.
use Rattle.std.proofs.Common.{◌≡◌, List, sym, ap, ◌∙◌, subst, arith}
use Rattle.struct_model.specs.SupplyView.{supply_labels}
use Rattle.splits.specs.Splits.{Split}
use Rattle.splits.specs.Parts.{parts, parts_of, after, IsPart}
use Rattle.splits.proofs.PartLemmas.{parts_between}
use Rattle.splits.proofs.walk.PartWalk.after.Goals as goal

pub after-requires-clause-part : goal.after-requires-clause-part
after-requires-clause-part c =
    let between : parts_of c.in_ok-lengths.lengths.items (supply_labels c.args.supply) ≡ parts c.args.low c.args.high (supply_labels c.args.supply)
    = parts_between c.args.low c.args.high c.in_ok-lengths.lengths.items (supply_labels c.args.supply) (λ n within. c.in_ok-lengths.ensures n (omega (arith, within, c.len.ensures))) in
    subst (λ (ss : List Split). IsPart (supply_labels c.args.part.now) ss) (sym between) c.requires.part

pub returns-clause-later : goal.returns-clause-later
returns-clause-later c =
    let between : parts_of c.in_ok-lengths.lengths.items (supply_labels c.args.supply) ≡ parts c.args.low c.args.high (supply_labels c.args.supply)
    = parts_between c.args.low c.args.high c.in_ok-lengths.lengths.items (supply_labels c.args.supply) (λ n within. c.in_ok-lengths.ensures n (omega (arith, within, c.len.ensures))) in
    c.in_ok-walk.ensures.later ∙ ap (after (supply_labels c.args.part.now)) between
