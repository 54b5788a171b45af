use Rattle.struct_model.proofs.OrderLaws.{compares_inside}
use Rattle.struct_model.proofs.laws.order_goes_inside.Goals as goal

pub returns : goal.returns
returns c = compares_inside
