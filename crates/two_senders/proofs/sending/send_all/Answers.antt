use Rattle.std.proofs.Common.{ℕ, sym, ap, ◌∙◌, subst, arith}
use Rattle.sock_words.specs.declared.socket_id.SocketId.{SocketId}
use Rattle.sock_words.specs.PackedWords.{socket_id_slot}
use Rattle.sock_table.specs.ReferenceAnswers.{Holds}
use Rattle.sock_open.proofs.SeatsHoldingNothing.{done_between, no_notes, holds_it}
use Rattle.write_chain.specs.ReadyToSend.{HoldsOne}
use Rattle.write_chain.proofs.SeatBetweenMessages.{held_one, gone_spent, let_go_spent}
use Rattle.chain_orders.proofs.SenderCalls.{held_sent, gone_sent, back_sent}
use Rattle.two_senders.proofs.sending.send_all.Goals as goal

pub add_reference-requires-clause-seat : goal.add_reference-requires-clause-seat
add_reference-requires-clause-seat g c = c.requires.seat.0.done.seat

pub add_reference-requires-clause-may : goal.add_reference-requires-clause-may
add_reference-requires-clause-may g c = let k = c.requires.seat.0.known in record { inside = k.inside; known = k.known; room = (let a = c.requires.seat.0.done.done.unheld (socket_id_slot c.args.id.0) k.inside in omega arith) }

pub add_reference-requires-clause-between : goal.add_reference-requires-clause-between
add_reference-requires-clause-between g c = done_between c.args.table.now.rule.table.shared.table_id c.args.table.now.rule.plan c.args.seat c.requires.seat.0.done

pub returns-in_default-clause-done : goal.returns-in_default-clause-done
returns-in_default-clause-done g c = (
  gone_spent c.args.table.now.rule.table.shared.table_id c.args.table.now.rule.plan c.args.id.0 _ c.args.seat c.add_reference.new.seat c.requires.seat.0 c.add_reference.ensures.seat c.in_default.ensures.gone c.add_reference.ensures.between c.add_reference.ensures.slots,
  gone_sent c.args.id.0 _ c.args.seat.me.0 c.add_reference.new.seat.me.0 c.in_default.ensures.gone ∙ c.requires.seat.1,
)

pub send_each-count-requires-clause-holding : goal.send_each-count-requires-clause-holding
send_each-count-requires-clause-holding g c = let a = c.in-Ok.ensures.held in let p = c.args.table.now.rule.plan in let z = c.args.table.now.rule.table.shared.table_id in let i = c.args.id.0 in let e = sym (ap (λ (x : SocketId). x.0) a.0) in record {
  seat = c.add_reference.ensures.seat;
  up = record {
    between = c.add_reference.ensures.between;
    holds = subst (λ (x : ℕ). Holds p c.add_reference.new.seat.me.0 x) e (holds_it p i c.args.seat.me.0 c.add_reference.new.seat.me.0 c.add_reference.new.seat.me.0 c.requires.seat.0.known.inside a.1 (no_notes i c.add_reference.new.seat.me.0));
    slots = c.add_reference.ensures.slots ∙ c.requires.seat.0.done.slots;
  };
  one = subst (λ (x : ℕ). HoldsOne p x c.add_reference.new.seat.me.0) e (held_one z p i c.args.seat c.add_reference.new.seat.me.0 c.requires.seat.0 a.1).0;
}

pub send_each-count-requires-clause-new : goal.send_each-count-requires-clause-new
send_each-count-requires-clause-new g c = held_sent c.args.id.0 c.args.seat.me.0 c.add_reference.new.seat.me.0 c.in-Ok.ensures.held.1 ∙ c.requires.seat.1

pub release-requires-clause-held : goal.release-requires-clause-held
release-requires-clause-held g c = c.send_each-count.ensures.holding.up.holds

pub release-requires-clause-between : goal.release-requires-clause-between
release-requires-clause-between g c = c.send_each-count.ensures.holding.up.between

pub returns-clause-done : goal.returns-clause-done
returns-clause-done g c = let h = c.send_each-count.ensures.holding in (
  let_go_spent c.args.table.now.rule.table.shared.table_id c.args.table.now.rule.plan c.send_each-count.result.0.id.0 c.send_each-count.new.seat c.release.new.seat _ h.one h.up.slots c.release.ensures.seat c.release.ensures.back c.release.ensures.between c.release.ensures.slots,
  back_sent (socket_id_slot c.send_each-count.result.0.id.0) c.send_each-count.new.seat.me.0 c.release.new.seat.me.0 _ _ c.release.ensures.back ∙ c.send_each-count.ensures.sent,
)
