use Rattle.std.proofs.Common.{◌≡◌, sym, subst, IfOk}
use Rattle.brpc_model.specs.Frame.{frame_bytes}
use Rattle.brpc_model.specs.Reply.{answered_by, response_with}
use Rattle.rpc_server.specs.ServiceAnswers.{meant}
use Rattle.rpc_server.proofs.reply.answered.Goals as goal

pub returns-in-Gives : goal.returns-in-Gives
returns-in-Gives c = subst (λ a. IfOk c.respond.result (λ b. b.items ≡ frame_bytes (answered_by c.args.id (meant a)))) (sym c.in-Gives.is)
    (subst (λ t. IfOk c.respond.result (λ b. b.items ≡ frame_bytes (response_with c.args.id 0 t c.in-Gives.payload.items c.in-Gives.attachment.items))) c.as_slice.ensures c.respond.ensures)
