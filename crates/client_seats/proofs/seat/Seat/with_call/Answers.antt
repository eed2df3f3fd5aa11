use Rattle.std.proofs.Common.{refl, sym, ap, ◌∙◌, None}
use Rattle.std.proofs.lemmas.Option.{same_Some}
use Rattle.sock_message.specs.Asked.{Asked, name_of}
use Rattle.client_seats.specs.ClientSeatState.{seat_data}
use Rattle.client_seats.proofs.Prepared.{retries_with, takes_on, no_retry, any_name}
use Rattle.client_seats.proofs.seat.Seat.with_call.Goals as goal

pub returns-in_ok-self-in-Retry-clause-next : goal.returns-in_ok-self-in-Retry-clause-next
returns-in_ok-self-in-Retry-clause-next c = λ sizes.
    let e = c.in_ok-self-in-Retry.ensures in
    retries_with sizes (seat_data c.args.self.now) _ c.args.call e.1 c.with_call.result c.in-Retry.retrying c.in-Retry.field-1 c.in-Retry.is (sym (same_Some _ _ e.2))
    (λ k. record (seat_data c.args.self.now) { message = e.3 k; call = (e.0 ∙ e.2) k })
    (λ a. c.with_call.ensures.program a c.args.call (sym (ap (λ (x : Asked). x.operation) c.call.view_is)) (c.name-name.ensures.name ∙ ap (name_of c.args.call) c.get.ensures.number))

pub returns-in_default : goal.returns-in_default
returns-in_default c =
    let none = no_retry c.args.self.now.point c.in_default.not-Retry in
    record {
      hand = record { message' = None; is = refl };
      next = λ sizes. takes_on sizes (seat_data c.args.self.now) c.args.call c.with_call-in_default.result c.args.self.now.point refl c.requires none
          (λ a. c.with_call-in_default.ensures.program a c.args.call (sym (ap (λ (x : Asked). x.operation) c.call.view_is)) (any_name c.args.call c.args.self.now.point _ none));
    }
