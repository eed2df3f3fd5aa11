use Rattle.std.proofs.Common.{sym, subst}
use Rattle.sock_rule.specs.Shows.{heading_of}
use Rattle.sock_rule.specs.declared.homes.Letter.{Letter}
use Rattle.sock_table.specs.declared.refs.SockRef.{SockRef}
use Rattle.write_chain.specs.WritingRightInHand.{Begins}
use Rattle.call_errors.specs.rpc_client.specs.SendingOutcomes.{Returned}
use Rattle.call_errors.specs.rpc_client.proofs.SeatBehindDelivering.{sock_is, accepted_of, refused_holds, refused_idle}
use Rattle.call_attempts.specs.ClientAtBothTables.{both}
use Rattle.message_parts.specs.Parcels.{parcel_of}
use Rattle.call_errors.specs.ClientBooks.{stand_of}
use Rattle.call_writes.specs.MessageFateBesideCalls.{SeenCalling}
use Rattle.call_attempts.specs.Attempting.{PostedOf, code_for, went_out, came_back}
use Rattle.call_attempts.proofs.LeftByAttempt.{message_is, reference_is}
use Rattle.call_attempts.proofs.call_tables.CallTables.deliver.Goals as goal

pub start-requires-clause-may : goal.start-requires-clause-may
start-requires-clause-may g c = record { between = c.requires.idle.between; claims = c.requires.idle.claims; loose = c.requires.idle.loose; room = c.requires.room }

pub see_through-requires-clause-begins : goal.see_through-requires-clause-begins
see_through-requires-clause-begins g c = let p = c.args.self.now.tables.now.socks.rule.plan in let is = sock_is p c.args.sock (heading_of c.args.msg) (parcel_of c.args.msg.bytes).bytes c.in-Ok.started c.args.seat.now.me.0 c.start.new.seat.me.0 c.in-Ok.ensures.started in
    subst (λ (y : SockRef). Begins p y c.in-Ok.started c.start.new.seat.me) (sym is) (c.in-Ok.ensures.begins c.requires.idle.slots c.requires.few)

pub see_through-requires-clause-claims : goal.see_through-requires-clause-claims
see_through-requires-clause-claims g c = let p = c.args.self.now.tables.now.socks.rule.plan in let a = accepted_of p c.args.sock (heading_of c.args.msg) (parcel_of c.args.msg.bytes).bytes c.in-Ok.started c.args.seat.now.me.0 c.start.new.seat.me.0 c.in-Ok.ensures.started in (a.claims, a.loose)

pub refuse_frame-requires-clause-idle : goal.refuse_frame-requires-clause-idle
refuse_frame-requires-clause-idle g c = refused_idle c.args.self.now.tables.now.socks.rule.table.shared.table_id c.args.self.now.tables.now.socks.rule.plan c.args.sock c.args.msg c.in-Err.refused c.args.seat.now c.start.new.seat c.requires.idle c.in-Err.ensures.seat c.in-Err.ensures.slots c.in-Err.ensures.refused

pub refuse_frame-requires-clause-held : goal.refuse_frame-requires-clause-held
refuse_frame-requires-clause-held g c = refused_holds c.args.self.now.tables.now.socks.rule.plan c.args.sock c.args.msg c.in-Err.refused c.args.seat.now.me.0 c.start.new.seat.me.0 c.requires.held c.in-Err.ensures.refused

pub returns-in-Ok-clause-by : goal.returns-in-Ok-clause-by
returns-in-Ok-clause-by g c = let p = c.args.self.now.tables.now.socks.rule.plan in let q = c.args.self.now.tables.now.ids.plan in let is = sock_is p c.args.sock (heading_of c.args.msg) (parcel_of c.args.msg.bytes).bytes c.in-Ok.started c.args.seat.now.me.0 c.start.new.seat.me.0 c.in-Ok.ensures.started in went_out record {
  taken = c.start.new.seat.me.0;
  accepted = accepted_of p c.args.sock (heading_of c.args.msg) (parcel_of c.args.msg.bytes).bytes c.in-Ok.started c.args.seat.now.me.0 c.start.new.seat.me.0 c.in-Ok.ensures.started;
  through = subst (λ (y : SockRef). SeenCalling g.O.Out.state p q.slots y.id.0 c.start.new.seat.me.0 (stand_of c.args.calls.now) c.see_through.new.seat.me.0 (stand_of c.see_through.new.calls)) is c.see_through.ensures.by;
}

pub returns-in-Err-clause-by : goal.returns-in-Err-clause-by
returns-in-Err-clause-by g c = let p = c.args.self.now.tables.now.socks.rule.plan in let q = c.args.self.now.tables.now.ids.plan in let r = c.in-Err.refused in
    let by = c.in-Err.ensures.refused in
    let m = message_is p c.args.sock c.args.msg r c.args.seat.now.me.0 c.start.new.seat.me.0 by in
    let k = reference_is p c.args.sock c.args.msg r c.args.seat.now.me.0 c.start.new.seat.me.0 by in came_back r record {
      refused_at = c.start.new.seat.me.0;
      refused_by = by;
      posted = subst (λ (y : Letter). PostedOf q y (code_for r) (both c.args.seat.now.me.0 c.args.calls.now) (both c.refuse_frame.new.seat.me.0 c.refuse_frame.new.calls)) m c.refuse_frame.ensures.by.posted;
      returned = subst (λ (y : SockRef). Returned y.id.0 c.start.new.seat.me.0 c.refuse_frame.new.seat.me.0) k c.refuse_frame.ensures.by.returned;
    }
