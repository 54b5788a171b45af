use Rattle.struct_model.proofs.OrderLaws.{list_order_total, list_order_equal, list_order_strict}
use Rattle.struct_model.proofs.laws.list_order_is_total.Goals as goal

pub returns-clause-strict : goal.returns-clause-strict
returns-clause-strict c = list_order_strict

pub returns-clause-total : goal.returns-clause-total
returns-clause-total c = list_order_total

pub returns-clause-equal : goal.returns-clause-equal
returns-clause-equal c = list_order_equal
