use Rattle.std.proofs.Common.{◌∙◌}
use Rattle.struct_model.specs.SupplyView.{supply_labels}
use Rattle.struct_walk.proofs.SplitWalkLemmas.{labels_ascend, leads, later_split, part_some, is_part_behind, least_after}
use Rattle.struct_walk.proofs.split_walk.SplitWalk.after_with_least.Goals as goal

pub without_first-requires-2-clause-some : goal.without_first-requires-2-clause-some
without_first-requires-2-clause-some c = part_some c.args.lengths.now (supply_labels c.args.supply.now) (supply_labels c.args.part.now) c.requires.part

pub after-requires-clause-part : goal.after-requires-clause-part
after-requires-clause-part c =
    is_part_behind c.args.lengths.now c.in_ok-shorter_by_one.field-0.items c.in_ok-shorter_by_one.ensures (supply_labels c.args.supply.now) (supply_labels c.in_ok-label.others)
    (supply_labels c.args.part.now) (supply_labels c.in_ok-behind.behind) c.in_ok-label.label c.in_ok-behind.field-0-0 c.in_ok-label.ensures.labels c.in_ok-behind.ensures.labels c.requires.part

pub invariant_of-result : goal.invariant_of-result
invariant_of-result c = (
  c.in_ok-walk.ensures.universe ∙ c.in_ok-label.ensures.universe,
  λ split there.
      leads (supply_labels c.args.supply.now) (supply_labels c.in_ok-label.others) c.in_ok-label.label split (labels_ascend c.args.supply.now c.requires.in_order c.requires.labelled)
      c.in_ok-label.ensures.labels (later_split c.in_ok-shorter_by_one.field-0.items (supply_labels c.in_ok-label.others) (supply_labels c.in_ok-behind.behind) c.in_ok-walk.walk.left
      c.in_ok-walk.ensures.later split there),
)

pub returns-clause-later : goal.returns-clause-later
returns-clause-later c =
    least_after c.args.lengths.now c.in_ok-shorter_by_one.field-0.items c.in_ok-shorter_by_one.ensures (supply_labels c.args.supply.now) (supply_labels c.in_ok-label.others)
    (supply_labels c.args.part.now) (supply_labels c.in_ok-behind.behind) c.in_ok-label.label c.in_ok-behind.field-0-0 c.in_ok-label.ensures.labels c.in_ok-behind.ensures.labels c.requires.part
    c.in_ok-walk.walk.left c.in_ok-walk.ensures.later
