use Rattle.std.proofs.Common.{ℕ, sym, ap, ◌∙◌, subst, arith}
use Rattle.sock_words.specs.declared.socket_id.SocketId.{SocketId}
use Rattle.sock_words.specs.PackedWords.{socket_id_slot}
use Rattle.sock_table.specs.ReferenceAnswers.{Holds}
use Rattle.sock_open.proofs.SeatsHoldingNothing.{done_between, no_notes, holds_it}
use Rattle.write_chain.specs.ReadyToSend.{HoldsOne}
use Rattle.write_chain.proofs.SeatBetweenMessages.{held_one, gone_spent, let_go_spent}
use Rattle.chain_bench.proofs.AcceptedSendsOfSeat.{same_room_for, fewer_room}
use Rattle.sock_model.specs.Rule.{MOST_ACCEPTED}
use Rattle.sock_model.specs.declared.view.View.{View}
use Rattle.chain_bench.proofs.sending.send_all.Goals as goal

pub add_reference-requires-clause-seat : goal.add_reference-requires-clause-seat
add_reference-requires-clause-seat g c = c.requires.sender.ready.done.seat

pub add_reference-requires-clause-may : goal.add_reference-requires-clause-may
add_reference-requires-clause-may g c = let k = c.requires.sender.ready.known in record { inside = k.inside; known = k.known; room = (let a = c.requires.sender.ready.done.done.unheld (socket_id_slot c.args.sender.id.0) k.inside in omega arith) }

pub add_reference-requires-clause-between : goal.add_reference-requires-clause-between
add_reference-requires-clause-between g c = done_between c.args.table.now.rule.table.shared.table_id c.args.table.now.rule.plan c.args.sender.seat c.requires.sender.ready.done

pub returns-in_default : goal.returns-in_default
returns-in_default g c = gone_spent c.args.table.now.rule.table.shared.table_id c.args.table.now.rule.plan c.args.sender.id.0 _ c.args.sender.seat c.add_reference.new.seat c.requires.sender.ready c.add_reference.ensures.seat c.in_default.ensures.gone c.add_reference.ensures.between c.add_reference.ensures.slots

pub send_each-sock-requires-clause-holding : goal.send_each-sock-requires-clause-holding
send_each-sock-requires-clause-holding g c = let a = c.in-Ok.ensures.held in let p = c.args.table.now.rule.plan in let z = c.args.table.now.rule.table.shared.table_id in let i = c.args.sender.id.0 in let e = sym (ap (λ (x : SocketId). x.0) a.0) in record {
  seat = c.add_reference.ensures.seat;
  up = record {
    between = c.add_reference.ensures.between;
    holds = subst (λ (x : ℕ). Holds p c.add_reference.new.seat.me.0 x) e (holds_it p i c.args.sender.seat.me.0 c.add_reference.new.seat.me.0 c.add_reference.new.seat.me.0 c.requires.sender.ready.known.inside a.1 (no_notes i c.add_reference.new.seat.me.0));
    slots = c.add_reference.ensures.slots ∙ c.requires.sender.ready.done.slots;
  };
  one = subst (λ (x : ℕ). HoldsOne p x c.add_reference.new.seat.me.0) e (held_one z p i c.args.sender.seat c.add_reference.new.seat.me.0 c.requires.sender.ready a.1).0;
}

pub send_each-sock-requires-clause-room : goal.send_each-sock-requires-clause-room
send_each-sock-requires-clause-room g c = same_room_for c.args.load.count c.args.sender.seat.me.0 c.add_reference.new.seat.me.0 (ap (λ (y : View). y.lists) c.in-Ok.ensures.held.1.others) (fewer_room c.args.load.count MOST_ACCEPTED c.args.sender.seat.me.0 c.requires.load.few c.requires.sender.room)

pub release-requires-clause-held : goal.release-requires-clause-held
release-requires-clause-held g c = c.send_each-sock.ensures.up.holds

pub release-requires-clause-between : goal.release-requires-clause-between
release-requires-clause-between g c = c.send_each-sock.ensures.up.between

pub returns : goal.returns
returns g c = let h = c.send_each-sock.ensures in let_go_spent c.args.table.now.rule.table.shared.table_id c.args.table.now.rule.plan c.send_each-sock.result.id.0 c.send_each-sock.new.seat c.release.new.seat _ h.one h.up.slots c.release.ensures.seat c.release.ensures.back c.release.ensures.between c.release.ensures.slots
