use Rattle.struct_model.proofs.OrderLaws.{order_total, order_equal, order_strict}
use Rattle.struct_model.proofs.laws.order_is_total.Goals as goal

pub returns-clause-strict : goal.returns-clause-strict
returns-clause-strict c = order_strict

pub returns-clause-total : goal.returns-clause-total
returns-clause-total c = order_total

pub returns-clause-equal : goal.returns-clause-equal
returns-clause-equal c = order_equal
