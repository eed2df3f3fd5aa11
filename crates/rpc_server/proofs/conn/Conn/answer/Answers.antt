use Rattle.std.proofs.Common.{◌++◌, ap, ◌∙◌}
use Rattle.prpc_frame.specs.FrameMeaning.{frame_of}
use Rattle.rpc_server.proofs.AnsweringFrames.{reply_given}
use Rattle.rpc_server.proofs.conn.Conn.answer.Goals as goal

pub returns-clause-appended : goal.returns-clause-appended
returns-clause-appended c = let given = reply_given (frame_of c.args.frame) c.in_ok-reply.field-0 c.in-Some.reply c.in-Some.is c.in_ok-reply.ensures in
    c.append_buf.ensures.items ∙ (ap (λ x. x ++ c.in-Some.reply.items) c.reserve_refs.ensures.items ∙ ap (λ x. c.args.out.now.items ++ x) given)
