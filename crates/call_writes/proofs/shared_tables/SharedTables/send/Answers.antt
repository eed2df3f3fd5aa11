use Rattle.std.proofs.Common.{Some, None, inl, refl, sym, subst}
use Rattle.sock_rule.specs.message_parts.specs.Parcels.{parcel_of}
use Rattle.sock_rule.specs.Shows.{heading_of}
use Rattle.sock_table.specs.declared.refs.SockRef.{SockRef}
use Rattle.write_chain.specs.WritingRightInHand.{Begins}
use Rattle.call_errors.specs.rpc_client.proofs.FindingReferences.{has_one, here_inside}
use Rattle.call_errors.specs.rpc_client.proofs.SeatBehindDelivering.{sock_is, accepted_of, refused_holds, refused_idle, came_back, room_still}
use Rattle.call_errors.specs.ClientBooks.{stand_of}
use Rattle.call_errors.proofs.KeepingThroughErrors.{keeps_none}
use Rattle.call_writes.specs.MessageFateBesideCalls.{SeenCalling}
use Rattle.call_writes.proofs.DeliveringWithCalls.{came_back_calling, rested_sent, sent_calling}
use Rattle.call_writes.proofs.shared_tables.SharedTables.send.Goals as goal

-- ## With a reference

pub start-requires-clause-seat : goal.start-requires-clause-seat
start-requires-clause-seat g c = c.in-Here.ensures.rest.idle.seat

pub start-requires-clause-held : goal.start-requires-clause-held
start-requires-clause-held g c = let z = c.args.self.now.socks.now.rule.table.shared.table_id in let p = c.args.self.now.socks.now.rule.plan in (has_one z p c.in-Here.sock.id.0 c.args.seat.now c.find_socket.new.seat.me.0 c.requires.may (here_inside p c.args.name c.in-Here.sock c.args.seat.now.me.0 c.find_socket.new.seat.me.0 c.in-Here.ensures.reached) c.in-Here.ensures.refs).0

pub start-requires-clause-may : goal.start-requires-clause-may
start-requires-clause-may g c = let i = c.in-Here.ensures.rest.idle in record { between = i.between; claims = i.claims; loose = i.loose; room = room_still c.args.seat.now.me.0 c.find_socket.new.seat.me.0 c.in-Here.ensures.lists c.requires.room }

pub see_through-requires-clause-begins : goal.see_through-requires-clause-begins
see_through-requires-clause-begins g c = let z = c.args.self.now.socks.now.rule.table.shared.table_id in let p = c.args.self.now.socks.now.rule.plan in let is = sock_is p c.in-Here.sock (heading_of c.args.msg) (parcel_of c.args.msg.bytes).bytes c.in-Ok.started c.find_socket.new.seat.me.0 c.start.new.seat.me.0 c.in-Ok.ensures.started in
    let few = (has_one z p c.in-Here.sock.id.0 c.args.seat.now c.find_socket.new.seat.me.0 c.requires.may (here_inside p c.args.name c.in-Here.sock c.args.seat.now.me.0 c.find_socket.new.seat.me.0 c.in-Here.ensures.reached) c.in-Here.ensures.refs).1 in
    subst (λ (y : SockRef). Begins p y c.in-Ok.started c.start.new.seat.me) (sym is) (c.in-Ok.ensures.begins c.in-Here.ensures.rest.idle.slots few)

pub see_through-requires-clause-claims : goal.see_through-requires-clause-claims
see_through-requires-clause-claims g c = let p = c.args.self.now.socks.now.rule.plan in let a = accepted_of p c.in-Here.sock (heading_of c.args.msg) (parcel_of c.args.msg.bytes).bytes c.in-Ok.started c.find_socket.new.seat.me.0 c.start.new.seat.me.0 c.in-Ok.ensures.started in (a.claims, a.loose)

pub refuse-requires-clause-idle : goal.refuse-requires-clause-idle
refuse-requires-clause-idle g c = refused_idle c.args.self.now.socks.now.rule.table.shared.table_id c.args.self.now.socks.now.rule.plan c.in-Here.sock c.args.msg c.in-Err.refused c.find_socket.new.seat c.start.new.seat c.in-Here.ensures.rest.idle c.in-Err.ensures.seat c.in-Err.ensures.slots c.in-Err.ensures.refused

pub refuse-requires-clause-held : goal.refuse-requires-clause-held
refuse-requires-clause-held g c = let z = c.args.self.now.socks.now.rule.table.shared.table_id in let p = c.args.self.now.socks.now.rule.plan in
    let held = (has_one z p c.in-Here.sock.id.0 c.args.seat.now c.find_socket.new.seat.me.0 c.requires.may (here_inside p c.args.name c.in-Here.sock c.args.seat.now.me.0 c.find_socket.new.seat.me.0 c.in-Here.ensures.reached) c.in-Here.ensures.refs).0 in refused_holds p c.in-Here.sock c.args.msg c.in-Err.refused c.find_socket.new.seat.me.0 c.start.new.seat.me.0 held c.in-Err.ensures.refused

-- ## What became of it

pub returns-in-Unopened-clause-by : goal.returns-in-Unopened-clause-by
returns-in-Unopened-clause-by g c = (c.in-Unopened.ensures.reached, refl)

pub returns-in-Gone-clause-by : goal.returns-in-Gone-clause-by
returns-in-Gone-clause-by g c = inl (c.in-Gone.ensures.reached, refl)

pub returns-in-Unopened-clause-rested : goal.returns-in-Unopened-clause-rested
returns-in-Unopened-clause-rested g c = let e = c.in-Unopened.ensures in record { rest = e.rest; refs = e.refs; seen = e.seen; keeps = keeps_none c.args.self.now.ids.now.table.shared.table_id c.args.calls.now c.requires.ids }

pub returns-in-Gone-clause-rested : goal.returns-in-Gone-clause-rested
returns-in-Gone-clause-rested g c = let e = c.in-Gone.ensures in record { rest = e.rest; refs = e.refs; seen = e.seen; keeps = keeps_none c.args.self.now.ids.now.table.shared.table_id c.args.calls.now c.requires.ids }

pub returns-in-Ok-clause-by : goal.returns-in-Ok-clause-by
returns-in-Ok-clause-by g c = let p = c.args.self.now.socks.now.rule.plan in let slots = c.args.self.now.ids.now.plan.slots in let is = sock_is p c.in-Here.sock (heading_of c.args.msg) (parcel_of c.args.msg.bytes).bytes c.in-Ok.started c.find_socket.new.seat.me.0 c.start.new.seat.me.0 c.in-Ok.ensures.started in
    sent_calling g.O.Out.state p slots c.in-Here.sock c.args.msg c.args.name None c.args.seat.now.me.0 c.find_socket.new.seat.me.0 c.see_through.new.seat.me.0 (stand_of c.args.calls.now) (stand_of c.see_through.new.calls) c.in-Here.ensures.reached record {
      taken = c.start.new.seat.me.0;
      accepted = accepted_of p c.in-Here.sock (heading_of c.args.msg) (parcel_of c.args.msg.bytes).bytes c.in-Ok.started c.find_socket.new.seat.me.0 c.start.new.seat.me.0 c.in-Ok.ensures.started;
      through = subst (λ (y : SockRef). SeenCalling g.O.Out.state p slots y.id.0 c.start.new.seat.me.0 (stand_of c.args.calls.now) c.see_through.new.seat.me.0 (stand_of c.see_through.new.calls)) is c.see_through.ensures.by;
    }

pub returns-in-Ok-clause-rested : goal.returns-in-Ok-clause-rested
returns-in-Ok-clause-rested g c = let z = c.args.self.now.socks.now.rule.table.shared.table_id in let p = c.args.self.now.socks.now.rule.plan in let slots = c.args.self.now.ids.now.plan.slots in let e = c.in-Here.ensures in let is = sock_is p c.in-Here.sock (heading_of c.args.msg) (parcel_of c.args.msg.bytes).bytes c.in-Ok.started c.find_socket.new.seat.me.0 c.start.new.seat.me.0 c.in-Ok.ensures.started in
    rested_sent g.O.Out.state p slots c.in-Here.sock c.args.msg z c.args.self.now.ids.now.table.shared.table_id None c.args.seat.now c.find_socket.new.seat c.see_through.new.seat c.args.calls.now c.see_through.new.calls e.rest e.refs e.seen c.see_through.ensures.idle record {
      taken = c.start.new.seat.me.0;
      accepted = accepted_of p c.in-Here.sock (heading_of c.args.msg) (parcel_of c.args.msg.bytes).bytes c.in-Ok.started c.find_socket.new.seat.me.0 c.start.new.seat.me.0 c.in-Ok.ensures.started;
      through = subst (λ (y : SockRef). SeenCalling g.O.Out.state p slots y.id.0 c.start.new.seat.me.0 (stand_of c.args.calls.now) c.see_through.new.seat.me.0 (stand_of c.see_through.new.calls)) is c.see_through.ensures.by;
    } c.see_through.ensures.keeps

pub returns-in-Err-clause-by : goal.returns-in-Err-clause-by
returns-in-Err-clause-by g c = let p = c.args.self.now.socks.now.rule.plan in let slots = c.args.self.now.ids.now.plan.slots in
    sent_calling g.O.Out.state p slots c.in-Here.sock c.args.msg c.args.name (Some c.refuse.result) c.args.seat.now.me.0 c.find_socket.new.seat.me.0 c.refuse.new.seat.me.0 (stand_of c.args.calls.now) (stand_of c.args.calls.now) c.in-Here.ensures.reached
    (came_back_calling g.O.Out.state p slots c.in-Here.sock c.args.msg c.refuse.result c.find_socket.new.seat.me.0 c.refuse.new.seat.me.0 (stand_of c.args.calls.now) (came_back g.O.Out.state p c.in-Here.sock c.args.msg c.in-Err.refused c.refuse.result c.find_socket.new.seat.me.0 c.start.new.seat.me.0 c.refuse.new.seat.me.0 c.in-Err.ensures.refused c.refuse.ensures.by))

pub returns-in-Err-clause-rested : goal.returns-in-Err-clause-rested
returns-in-Err-clause-rested g c = let z = c.args.self.now.socks.now.rule.table.shared.table_id in let p = c.args.self.now.socks.now.rule.plan in let slots = c.args.self.now.ids.now.plan.slots in let y = c.args.self.now.ids.now.table.shared.table_id in let e = c.in-Here.ensures in
    rested_sent g.O.Out.state p slots c.in-Here.sock c.args.msg z y (Some c.refuse.result) c.args.seat.now c.find_socket.new.seat c.refuse.new.seat c.args.calls.now c.args.calls.now e.rest e.refs e.seen c.refuse.ensures.idle
    (came_back_calling g.O.Out.state p slots c.in-Here.sock c.args.msg c.refuse.result c.find_socket.new.seat.me.0 c.refuse.new.seat.me.0 (stand_of c.args.calls.now) (came_back g.O.Out.state p c.in-Here.sock c.args.msg c.in-Err.refused c.refuse.result c.find_socket.new.seat.me.0 c.start.new.seat.me.0 c.refuse.new.seat.me.0 c.in-Err.ensures.refused c.refuse.ensures.by)) (keeps_none y c.args.calls.now c.requires.ids)
