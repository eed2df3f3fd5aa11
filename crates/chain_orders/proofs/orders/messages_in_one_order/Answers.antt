use Rattle.chain_orders.proofs.OrderOfClosedTable.{in_one_order}
use Rattle.chain_orders.proofs.orders.messages_in_one_order.Goals as goal

pub returns : goal.returns
returns g c = in_one_order c.args._seats.now
