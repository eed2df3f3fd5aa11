use Rattle.std.proofs.Common.{◌≡◌, ◌≤◌, ap, sym, subst}
use Rattle.std.specs.Prelude.{option_map}
use Rattle.rpc_meta.specs.MetaMeaning.{request_of}
use Rattle.brpc_model.specs.Frame.{body_limit}
use Rattle.brpc_model.specs.Reply as model
use Rattle.prpc_frame.specs.FrameMeaning.{frame_of}
use Rattle.rpc_server.specs.ReplySize.{frame_size}
use Rattle.rpc_server.proofs.SmallFrames.{begun_small}
use Rattle.rpc_server.proofs.ReplySize.{answer_fits}
use Rattle.rpc_server.proofs.reply.reply_to.Goals as goal

pub serve-requires : goal.serve-requires
serve-requires c = begun_small c.args.frame c.requires

pub answered-requires : goal.answered-requires
answered-requires c =
    subst (λ (a : model.Answer). frame_size (model.answered_by (frame_of c.args.frame).meta.correlation_id a) ≤ body_limit) (sym c.in_ok-answer.ensures.answer)
    (answer_fits c.requires.0 (frame_of c.args.frame) c.requires.1 _ (request_of c.in-Some.request) c.requires.2 (ap (option_map request_of) c.in-Some.is))
