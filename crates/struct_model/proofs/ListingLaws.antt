-- No expression has two listings on one supply.
use Rattle.lists.proofs.Orders.{enumerated_once}
use Rattle.struct_model.specs.Listing.{IsOne}
use Rattle.struct_model.specs.Laws.{HasOneListing}
use Rattle.struct_model.proofs.OrderLaws.{order_strict}

pub one_listing : HasOneListing
one_listing g e u ss ts = enumerated_once order_strict (IsOne g e u) ss ts
