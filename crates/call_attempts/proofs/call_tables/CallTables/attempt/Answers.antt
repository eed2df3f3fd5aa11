use Rattle.std.proofs.Common.{◌<◌, ◌∙◌, ap, sym, refl, subst, arith}
use Rattle.sock_words.specs.PackedWords.{socket_id_slot}
use Rattle.sock_words.specs.declared.socket_id.SocketId.{SocketId}
use Rattle.sock_model.specs.MarkWeights.{is_ref}
use Rattle.sock_model.specs.SlotRows.{marks_of}
use Rattle.sock_table.specs.ReferenceAnswers.{Holds, LinkOf}
use Rattle.call_errors.specs.rpc_client.proofs.CountedReferences.{one_more}
use Rattle.call_errors.specs.rpc_client.proofs.FindingReferences.{has_one, holds_still, rest_became}
use Rattle.call_errors.specs.rpc_client.proofs.SeatBehindDelivering.{room_still}
use Rattle.call_errors.proofs.KeepingThroughErrors.{stays_then}
use Rattle.call_attempts.specs.ClientAtBothTables.{both}
use Rattle.call_attempts.specs.Attempting.{DeliveredBy, nowhere, over_link}
use Rattle.call_attempts.proofs.LeftByAttempt.{kept_free, own_after, link_keeps, few_still, attempted_leaves}
use Rattle.call_attempts.proofs.call_tables.CallTables.attempt.Goals as goal

pub add_reference-requires-clause-may : goal.add_reference-requires-clause-may
add_reference-requires-clause-may g c = record { inside = c.requires.known.inside; known = c.requires.known.known; room = c.requires.may.room (socket_id_slot c.args.to.0) c.requires.known.inside }

pub link_of-link-requires-clause-held : goal.link_of-link-requires-clause-held
link_of-link-requires-clause-held g c = let z = c.args.self.now.tables.now.socks.rule.table.shared.table_id in let p = c.args.self.now.tables.now.socks.rule.plan in
    subst (λ (y : SocketId). Holds p c.add_reference.new.seat.me.0 y.0) (sym c.in-Ok.ensures.held.0) (has_one z p c.args.to.0 c.args.seat.now c.add_reference.new.seat.me.0 c.requires.may c.requires.known.inside (one_more c.args.to.0 c.args.seat.now.me.0 c.add_reference.new.seat.me.0 c.in-Ok.ensures.held.1)).0

pub set_at-requires-clause-id : goal.set_at-requires-clause-id
set_at-requires-clause-id g c = (omega (arith, c.requires.id.inside), c.requires.id.low)

pub set_at-requires-clause-link : goal.set_at-requires-clause-link
set_at-requires-clause-link g c = omega (arith, c.link_of-link.ensures.link.inside)

pub deliver-requires-clause-idle : goal.deliver-requires-clause-idle
deliver-requires-clause-idle g c = let z = c.args.self.now.tables.now.socks.rule.table.shared.table_id in let p = c.args.self.now.tables.now.socks.rule.plan in
    let a = rest_became z p (socket_id_slot c.args.to.0) c.args.seat.now c.add_reference.new.seat _ _ c.requires.may.idle c.add_reference.ensures.seat c.add_reference.ensures.slots c.add_reference.ensures.between c.in-Ok.ensures.held.1 in
    (rest_became z p (socket_id_slot c.in-Ok.sock.id.0) c.add_reference.new.seat c.link_of-link.new.seat _ _ a.idle c.link_of-link.ensures.seat c.link_of-link.ensures.slots (c.link_of-link.ensures.between c.add_reference.ensures.between) c.link_of-link.ensures.link.became).idle

pub deliver-requires-clause-held : goal.deliver-requires-clause-held
deliver-requires-clause-held g c = let p = c.args.self.now.tables.now.socks.rule.plan in holds_still p c.in-Ok.sock.id.0 c.add_reference.new.seat.me.0 c.link_of-link.new.seat.me.0 (subst (λ (y : SocketId). Holds p c.add_reference.new.seat.me.0 y.0) (sym c.in-Ok.ensures.held.0) (has_one c.args.self.now.tables.now.socks.rule.table.shared.table_id p c.args.to.0 c.args.seat.now c.add_reference.new.seat.me.0 c.requires.may c.requires.known.inside (one_more c.args.to.0 c.args.seat.now.me.0 c.add_reference.new.seat.me.0 c.in-Ok.ensures.held.1)).0) (link_keeps p c.link_of-link.result c.in-Ok.sock.id.0 c.add_reference.new.seat.me.0 c.link_of-link.new.seat.me.0 c.link_of-link.ensures.link).refs

pub deliver-requires-clause-few : goal.deliver-requires-clause-few
deliver-requires-clause-few g c = let z = c.args.self.now.tables.now.socks.rule.table.shared.table_id in let p = c.args.self.now.tables.now.socks.rule.plan in
    few_still (socket_id_slot c.in-Ok.sock.id.0) c.add_reference.new.seat.me.0 c.link_of-link.new.seat.me.0 (link_keeps p c.link_of-link.result c.in-Ok.sock.id.0 c.add_reference.new.seat.me.0 c.link_of-link.new.seat.me.0 c.link_of-link.ensures.link)
    (subst (λ (y : SocketId). marks_of is_ref (socket_id_slot y.0) c.add_reference.new.seat.me.0 < 65540) (sym c.in-Ok.ensures.held.0) (has_one z p c.args.to.0 c.args.seat.now c.add_reference.new.seat.me.0 c.requires.may c.requires.known.inside (one_more c.args.to.0 c.args.seat.now.me.0 c.add_reference.new.seat.me.0 c.in-Ok.ensures.held.1)).1)

pub deliver-requires-clause-room : goal.deliver-requires-clause-room
deliver-requires-clause-room g c = room_still c.args.seat.now.me.0 c.link_of-link.new.seat.me.0 (ap (λ y. y.lists) c.link_of-link.ensures.link.became.others ∙ ap (λ y. y.lists) c.in-Ok.ensures.held.1.others) c.requires.room

pub deliver-requires-clause-ids : goal.deliver-requires-clause-ids
deliver-requires-clause-ids g c = kept_free c.args.self.now.tables.now.ids.table.shared.table_id c.args.calls.now.seat c.set_at.new.seat _ _ _ c.requires.ids.0 c.requires.ids.1 c.set_at.ensures.seat c.set_at.ensures.stored

pub returns-in-Ok-clause-by : goal.returns-in-Ok-clause-by
returns-in-Ok-clause-by g c = let p = c.args.self.now.tables.now.socks.rule.plan in let q = c.args.self.now.tables.now.ids.plan in let u = both c.link_of-link.new.seat.me.0 (record c.args.calls.now { seat = c.set_at.new.seat }) in over_link u
    record {
      has = c.add_reference.new.seat.me.0;
      held = c.in-Ok.ensures.held.1;
      none_later = c.in-Ok.ensures.stays;
      link = c.link_of-link.result;
      link_of = subst (λ (y : SocketId). LinkOf p c.link_of-link.result y.0 c.add_reference.new.seat.me.0 c.link_of-link.new.seat.me.0) c.in-Ok.ensures.held.0 c.link_of-link.ensures.link;
      stored = c.set_at.ensures.stored;
      books = refl;
    }
    (subst (λ (y : SocketId). DeliveredBy g.O.Out.state p q y c.args.msg u (both c.deliver.new.seat.me.0 c.deliver.new.calls)) c.in-Ok.ensures.held.0 c.deliver.ensures.by)

pub returns-in-Ok-clause-rested : goal.returns-in-Ok-clause-rested
returns-in-Ok-clause-rested g c = let e = c.deliver.ensures in let l = attempted_leaves g.O.Out.state c.args.self.now.tables.now.socks.rule.plan c.args.self.now.tables.now.ids.plan c.args.to c.args.msg (both c.args.seat.now.me.0 c.args.calls.now) (both c.deliver.new.seat.me.0 c.deliver.new.calls) (returns-in-Ok-clause-by g c) in record {
  rest = record { idle = e.idle; share = l.share };
  refs = l.refs;
  seen = l.seen;
  keeps = record { stays = stays_then c.args.calls.now.seat c.set_at.new.seat c.deliver.new.calls.seat c.set_at.ensures.seat e.keeps.stays; ids = e.keeps.ids };
}

pub returns-in-Ok-clause-own : goal.returns-in-Ok-clause-own
returns-in-Ok-clause-own g c = own_after c.args.seat.now.me.0 c.deliver.new.seat.me.0 (attempted_leaves g.O.Out.state c.args.self.now.tables.now.socks.rule.plan c.args.self.now.tables.now.ids.plan c.args.to c.args.msg (both c.args.seat.now.me.0 c.args.calls.now) (both c.deliver.new.seat.me.0 c.deliver.new.calls) (returns-in-Ok-clause-by g c))

pub returns-in-Err-clause-by : goal.returns-in-Err-clause-by
returns-in-Err-clause-by g c = nowhere record { found = c.in-Err._gone.found; gone = c.in-Err.ensures.gone; posted = c.post_for.ensures.posted }

pub returns-in-Err-clause-rested : goal.returns-in-Err-clause-rested
returns-in-Err-clause-rested g c = let l = attempted_leaves g.O.Out.state c.args.self.now.tables.now.socks.rule.plan c.args.self.now.tables.now.ids.plan c.args.to c.args.msg (both c.args.seat.now.me.0 c.args.calls.now) (both c.add_reference.new.seat.me.0 c.post_for.new.calls) (returns-in-Err-clause-by g c) in record {
  rest = rest_became c.args.self.now.tables.now.socks.rule.table.shared.table_id c.args.self.now.tables.now.socks.rule.plan (socket_id_slot c.args.to.0) c.args.seat.now c.add_reference.new.seat _ _ c.requires.may.idle c.add_reference.ensures.seat c.add_reference.ensures.slots c.add_reference.ensures.between c.in-Err.ensures.gone.became;
  refs = l.refs;
  seen = l.seen;
  keeps = c.post_for.ensures.keeps;
}

pub returns-in-Err-clause-own : goal.returns-in-Err-clause-own
returns-in-Err-clause-own g c = own_after c.args.seat.now.me.0 c.add_reference.new.seat.me.0 (attempted_leaves g.O.Out.state c.args.self.now.tables.now.socks.rule.plan c.args.self.now.tables.now.ids.plan c.args.to c.args.msg (both c.args.seat.now.me.0 c.args.calls.now) (both c.add_reference.new.seat.me.0 c.post_for.new.calls) (returns-in-Err-clause-by g c))
