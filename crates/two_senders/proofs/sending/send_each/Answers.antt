use Rattle.std.proofs.Common.{◌∙◌, sym, arith}
use Rattle.two_senders.proofs.TextsInOrder.{messages_long, room_of, sent_next, next_count, text_there}
use Rattle.two_senders.specs.SentTexts.{messages}
use Rattle.two_senders.proofs.sending.send_each.Goals as goal

pub send-requires-clause-room : goal.send-requires-clause-room
send-requires-clause-room g c = room_of c.sends.seat.me.0 (messages c.args.thread c.args.texts.now c.sends.count) c.sends.invariant.sent
    (let low = c.sends-test.true in let few = c.requires.few in let n = messages_long c.args.thread c.args.texts.now c.sends.count in omega arith)

pub sends-preserved : goal.sends-preserved
sends-preserved g c = record {
  holding = c.in-Ok.ensures.ok;
  sent = next_count c.args.thread c.args.texts.now c.sends.count c.send.new.seat.me.0 (sent_next c.args.table.now.rule.plan c.args.thread c.args.texts.now c.sends.count _ _ c.sends.seat.me.0 c.send.new.seat.me.0 c.requires.shared c.in-Some-letter.ensures.heading (c.in-Some-letter.ensures.bytes ∙ (c.as_slice.ensures.value ∙ sym (text_there c.args.texts.now c.sends.count c.in-Some.text.now c.in-Some.ensures.lookup.3.0 c.in-Some.ensures.lookup.1))) c.in-Ok.ensures.sent c.sends.invariant.sent);
}
