-- The parts of the lengths that are marked are those within bounds.
use Rattle.std.proofs.Common.{◌∙◌, arith}
use Rattle.struct_model.specs.SupplyView.{supply_labels}
use Rattle.splits.proofs.PartLemmas.{parts_between}
use Rattle.splits.proofs.walk.PartWalk.first.Goals as goal

pub returns-clause-all : goal.returns-clause-all
returns-clause-all c =
    c.in_ok-walk.ensures.all
    ∙ parts_between c.args.low c.args.high c.in_ok-lengths.lengths.items (supply_labels c.args.supply) (λ n within. c.in_ok-lengths.ensures n (omega (arith, within, c.len.ensures)))
