use Rattle.call_errors.specs.ClientBooks.{stand_of}
use Rattle.call_client.proofs.ClientAfterOperations.{room_for_one, sent_calling_own}
use Rattle.call_client.proofs.acting.send_message.Goals as goal

pub send-requires-clause-room : goal.send-requires-clause-room
send-requires-clause-room g c = room_for_one c.args.caller.now.sent c.args.caller.now.seat.me.0 c.requires.own c.requires.room

pub returns-clause-own : goal.returns-clause-own
returns-clause-own g c = sent_calling_own g.O.Out.state c.args.at.now.tables.now.socks.rule.plan c.args.at.now.tables.now.ids.plan.slots c.args.name c.args.msg c.args.caller.now.sent c.send.result c.args.caller.now.seat.me.0 c.send.new.seat.me.0 (stand_of c.args.caller.now.calls) (stand_of c.send.new.calls) c.requires.own c.send.ensures.by
