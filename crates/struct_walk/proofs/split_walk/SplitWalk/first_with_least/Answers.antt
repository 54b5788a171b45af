use Rattle.std.proofs.Common.{◌∙◌}
use Rattle.struct_model.specs.SupplyView.{supply_labels}
use Rattle.struct_walk.proofs.SplitWalkLemmas.{labels_ascend, leads, admitted_split, least_are}
use Rattle.struct_walk.proofs.split_walk.SplitWalk.first_with_least.Goals as goal

pub invariant_of-result : goal.invariant_of-result
invariant_of-result c = (
  c.in_ok-walk.ensures.universe ∙ c.in_ok-label.ensures.universe,
  λ split there.
      leads (supply_labels c.args.supply.now) (supply_labels c.in_ok-label.others) c.in_ok-label.label split (labels_ascend c.args.supply.now c.requires.in_order c.requires.labelled)
      c.in_ok-label.ensures.labels (admitted_split c.in_ok-shorter_by_one.field-0.items (supply_labels c.in_ok-label.others) c.in_ok-walk.walk.left c.in_ok-walk.ensures.all split there),
)

pub returns-clause-all : goal.returns-clause-all
returns-clause-all c =
    least_are c.args.lengths.now c.in_ok-shorter_by_one.field-0.items c.in_ok-shorter_by_one.ensures (supply_labels c.args.supply.now) (supply_labels c.in_ok-label.others)
    c.in_ok-label.label c.in_ok-walk.walk.left c.in_ok-label.ensures.labels c.in_ok-walk.ensures.all
