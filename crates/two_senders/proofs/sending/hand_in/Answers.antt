use Rattle.std.proofs.Common.{◌*◌, ◌<◌, refl, sym, ap, ◌∙◌, subst}
use Rattle.message_parts.specs.Parcels.{parcel_of}
use Rattle.sock_rule.specs.Shows.{heading_of}
use Rattle.sock_rule.specs.declared.homes.Letter.{Letter}
use Rattle.sock_table.specs.declared.refs.SockRef.{SockRef}
use Rattle.write_chain.specs.ReadyToSend.{refused_of}
use Rattle.write_chain.specs.WritingRightInHand.{Begins}
use Rattle.write_chain.proofs.SeatBetweenMessages.{few_one, sock_is, started_one}
use Rattle.chain_orders.specs.SentMessages.{SentOneMore}
use Rattle.two_senders.specs.SentTexts.{IsHolding}
use Rattle.two_senders.proofs.Refusing.{refused_holding, refused_full, same_room, refused_lists, started_more, refused_same}
use Rattle.two_senders.proofs.sending.hand_in.Goals as goal

pub tries-init : goal.tries-init
tries-init g c = record { can_go = tt; is_finite = tt; holding = c.requires.holding; lists = refl; msg = refl; label = c.requires.label }

pub start-requires-clause-held : goal.start-requires-clause-held
start-requires-clause-held g c = c.tries.invariant.holding.up.holds

pub start-requires-clause-may : goal.start-requires-clause-may
start-requires-clause-may g c = let h = c.tries.invariant.holding in record { between = h.up.between; claims = h.one.claims; loose = h.one.loose; room = same_room c.args.seat.now.me.0 c.tries.seat.me.0 c.tries.invariant.lists c.requires.room }

pub returns-in-Ok-clause-begins : goal.returns-in-Ok-clause-begins
returns-in-Ok-clause-begins g c = let p = c.args.table.now.rule.plan in let h = c.tries.invariant.holding in let s = c.in-Ok.started in let by = c.in-Ok.ensures.started in (
  subst (λ (y : SockRef). Begins p y s c.start.new.seat.me) (sym (sock_is p c.tries.sock (heading_of c.tries.msg) (parcel_of c.tries.msg.bytes).bytes s c.tries.seat.me.0 c.start.new.seat.me.0 by)) (c.in-Ok.ensures.begins h.up.slots (few_one p c.tries.sock.id.0 c.tries.seat.me.0 h.up.holds.inside h.one)),
  started_one p c.tries.sock (heading_of c.tries.msg) (parcel_of c.tries.msg.bytes).bytes s c.tries.seat.me.0 c.start.new.seat.me.0 by h.one,
)

pub returns-in-Ok-clause-sent : goal.returns-in-Ok-clause-sent
returns-in-Ok-clause-sent g c = let p = c.args.table.now.rule.plan in
    subst (λ (m : Letter). SentOneMore p (heading_of m) (parcel_of m.bytes).bytes c.args.seat.now.me.0 c.start.new.seat.me.0) c.tries.invariant.msg (started_more p c.tries.sock (heading_of c.tries.msg) (parcel_of c.tries.msg.bytes).bytes c.in-Ok.started c.args.seat.now.me.0 c.tries.seat.me.0 c.start.new.seat.me.0 c.tries.invariant.lists c.in-Ok.ensures.started)

pub returns-in-Err-Failed-clause-holding : goal.returns-in-Err-Failed-clause-holding
returns-in-Err-Failed-clause-holding g c = let z = c.args.table.now.rule.table.shared.table_id in let p = c.args.table.now.rule.plan in let f = c.in-Err-Failed in
    subst (λ (y : SockRef). IsHolding z p y.id.0 c.start.new.seat) (ap refused_of f.field-0-is) (refused_holding z p c.tries.sock c.tries.msg f.field-0 c.tries.seat c.start.new.seat c.tries.invariant.holding c.start.ensures.seat c.start.ensures.slots f.ensures.refused)

pub returns-in-Err-Failed-clause-none : goal.returns-in-Err-Failed-clause-none
returns-in-Err-Failed-clause-none g c = refused_same c.args.table.now.rule.plan c.tries.sock c.tries.msg c.in-Err-Failed.field-0 c.args.seat.now.me.0 c.tries.seat.me.0 c.start.new.seat.me.0 c.tries.invariant.lists c.in-Err-Failed.ensures.refused

pub tries-preserved : goal.tries-preserved
tries-preserved g c = let z = c.args.table.now.rule.table.shared.table_id in let p = c.args.table.now.rule.plan in let f = c.in-Err-Full in record {
  can_go = tt;
  is_finite = tt;
  holding = subst (λ (y : SockRef). IsHolding z p y.id.0 c.start.new.seat) (ap refused_of f.field-0-is) (refused_holding z p c.tries.sock c.tries.msg f.field-0 c.tries.seat c.start.new.seat c.tries.invariant.holding c.start.ensures.seat c.start.ensures.slots f.ensures.refused);
  lists = refused_lists p c.tries.sock c.tries.msg f.field-0 c.tries.seat.me.0 c.start.new.seat.me.0 f.ensures.refused ∙ c.tries.invariant.lists;
  msg = refused_full p c.tries.sock c.tries.msg f.field-0 f.back f.again c.tries.seat.me.0 c.start.new.seat.me.0 f.field-0-is f.ensures.refused ∙ c.tries.invariant.msg;
  label = subst (λ (m : Letter). m.label.place < 8 * p.operations) (sym (refused_full p c.tries.sock c.tries.msg f.field-0 f.back f.again c.tries.seat.me.0 c.start.new.seat.me.0 f.field-0-is f.ensures.refused)) c.tries.invariant.label;
}
