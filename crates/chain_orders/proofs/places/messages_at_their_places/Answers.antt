use Rattle.chain_orders.proofs.PlacesOfClosedTable.{placed_in_order}
use Rattle.chain_orders.proofs.places.messages_at_their_places.Goals as goal

pub returns : goal.returns
returns g c = placed_in_order c.args._seats.now
