use Rattle.std.proofs.Common.{ℕ, ◌<◌, arith, subst}
use Rattle.sock_words.specs.PackedWords.{socket_id_slot}
use Rattle.sock_model.specs.SocketTableLayout.{name_index}
use Rattle.sock_table.specs.ReferenceCalls.{Knows}
use Rattle.sock_table.specs.NamesStoredAndFound.{FindsId}
use Rattle.any_id.proofs.addressing.address.Goals as goal

pub add_reference-requires-clause-may : goal.add_reference-requires-clause-may
add_reference-requires-clause-may g c = let k = subst (Knows c.args.table.now.rule.plan c.find.new.seat.me.0) c.if-stands-id.false c.in-Some.ensures.found.0 in record {
  inside = k.inside;
  known = k.known;
  room = omega (arith, c.find.ensures.same.refs (socket_id_slot c.args.id.0) k.inside, c.requires.room (socket_id_slot c.args.id.0) k.inside);
}

pub returns-in-Ok-clause-addressed : goal.returns-in-Ok-clause-addressed
returns-in-Ok-clause-addressed g c = let p = c.args.table.now.rule.plan in let w = c.find.new.seat.me.0 in
    let f = subst (λ (j : ℕ). Knows p w c.args.id.0 × FindsId (name_index p j) c.args.id.0 c.args.seat.now.me.0 w) c.slot-slot.ensures
    (subst (λ (i : ℕ). Knows p w i × FindsId (name_index p c.slot-slot.result) i c.args.seat.now.me.0 w) c.if-stands-id.false c.in-Some.ensures.found) in
    let h = c.in-Ok.ensures.held in (h.0, record { inside = f.0.inside; between = w; found = f; held = h.1; stays = c.in-Ok.ensures.stays })

pub returns-in-Err-clause-refused : goal.returns-in-Err-clause-refused
returns-in-Err-clause-refused g c = let p = c.args.table.now.rule.plan in let w = c.find.new.seat.me.0 in
    let f = subst (λ (j : ℕ). Knows p w c.args.id.0 × FindsId (name_index p j) c.args.id.0 c.args.seat.now.me.0 w) c.slot-slot.ensures
    (subst (λ (i : ℕ). Knows p w i × FindsId (name_index p c.slot-slot.result) i c.args.seat.now.me.0 w) c.if-stands-id.false c.in-Some.ensures.found) in
    (w, (f.0, f.1), c.in-Err.ensures.gone)
