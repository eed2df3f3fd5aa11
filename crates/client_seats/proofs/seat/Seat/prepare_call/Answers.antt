use Rattle.std.proofs.Common.{ap, ◌∙◌}
use Rattle.seat_states.specs.declared.point.Point.TheVariants as points
use Rattle.client_seats.specs.ClientSeatState.{seat_data}
use Rattle.client_seats.proofs.Prepared.{on_ok, prepared_call, prepared_retry}
use Rattle.client_seats.proofs.seat.Seat.prepare_call.Goals as goal

pub returns-in-Call-StoreCall : goal.returns-in-Call-StoreCall
returns-in-Call-StoreCall c = on_ok _ _ c.frame.result c.frame.ensures (λ u f. λ sizes. prepared_call sizes (seat_data c.args.self.now) (seat_data c.frame.new.self) c.in-Call-StoreCall.id c.in-Call-StoreCall.field-0-1 _ (c.in-Call-StoreCall.is ∙ ap points.Call (rw c.in-Call-StoreCall.is at c.in-Call-StoreCall.field-0-is)) c.new.ensures f)

pub returns-in_ok-frame-in-Retry : goal.returns-in_ok-frame-in-Retry
returns-in_ok-frame-in-Retry c = λ sizes. prepared_retry sizes (seat_data c.args.self.now) (seat_data c.frame-in-Retry.new.self) _ c.in-Retry.retrying c.retrying.result c.in-Retry.step c.in-Retry.is c.in_ok-frame-in-Retry.ensures
    c.retrying.ensures.id.0 c.retrying.ensures.id.1 c.retrying.ensures.operation c.retrying.ensures.name (λ k. record (seat_data c.frame-in-Retry.new.self) { point = points.Retry c.retrying.result c.in-Retry.step })
