use Rattle.std.proofs.Common.{refl, ap}
use Rattle.write_chain.proofs.NotingWhileWriting.{rights_only}
use Rattle.write_chain.proofs.WriterThroughSteps.{letter_taken}
use Rattle.write_chain.proofs.right.HeldChain.take_next.Goals as goal

pub take_msg-bytes-requires-clause-may : goal.take_msg-bytes-requires-clause-may
take_msg-bytes-requires-clause-may g c = let h = c.requires.may.0 in record { right = h.right_is; one = h.writer.one; stage = h.stage_is; idle = h.idle }

pub take_msg-bytes-requires-clause-ticket : goal.take_msg-bytes-requires-clause-ticket
take_msg-bytes-requires-clause-ticket g c = (c.requires.may.1.some_slot, c.requires.may.1.small)

pub returns-clause-hand : goal.returns-clause-hand
returns-clause-hand g c = let h = c.requires.may.0 in let e = c.take_msg-bytes.ensures in
    letter_taken c.args.link record { link = c.args.link.link; home = c.args.link.home; now = c.args.now; bytes = c.begin.result; label = c.take_msg-bytes.result.label; owner = c.take_msg-bytes.result.owner; came = c.of-came.result; calls = c.of-calls.result; numbered = c.result-1.given.0 } c.args.now.0 c.take_msg-bytes.result c.args.seat.now.me c.take_msg-bytes.new.seat.me h c.requires.may.1
    e.label (e.few h.right_is h.writer.one) (e.view h.right_is h.writer.one) refl refl refl (ap (λ o. o.left) c.begin.ensures) refl refl c.of-came.ensures c.of-calls.ensures

pub returns-clause-others : goal.returns-clause-others
returns-clause-others g c = let h = c.requires.may.0 in rights_only c.args.seat.now.me.0 c.take_msg-bytes.new.seat.me.0 _ (ap (λ m. m.0) (c.take_msg-bytes.ensures.view h.right_is h.writer.one))
