use Rattle.count_laws.proofs.OrdersTell as orders
use Rattle.count_laws.proofs.orders_tell.Goals as goal

pub returns : goal.returns
returns g c = orders.orders_tell _
