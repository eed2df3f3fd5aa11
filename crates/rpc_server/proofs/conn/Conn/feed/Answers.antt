use Rattle.std.proofs.Common.{◌≡◌, ℕ, List, ◌++◌, ap, ◌∙◌, subst}
use Rattle.brpc_model.specs.FrameStream.{stream_from}
use Rattle.prpc_frame.specs.HeldByCutter as cutter_
use Rattle.rpc_server.specs.HeldByConnection.{Held}
use Rattle.rpc_server.proofs.Fed.{fed_whole, tells_on}
use Rattle.rpc_server.proofs.conn.Conn.feed.Goals as goal

pub returns : goal.returns
returns c = fed_whole c.args.self.now (record { bytes = c.feed.new.self.bytes; made = c.self.inside.made; told = c.feed.new.self.told }) c.args.piece.now
    (subst (λ (l : List ℕ). (at : ℕ) (more : List ℕ) → stream_from at (c.feed.new.self.bytes ++ more) ≡ stream_from at (l ++ (c.args.piece.now ++ more))) (ap (λ (h : Held). h.bytes) c.self.view_is) c.in_ok-feed.ensures.stream)
    (ap (λ (h : Held). h.made) c.self.view_is) (ap (λ (h : cutter_.Held). h.told) c.in_ok-feed.ensures.kept ∙ tells_on c.self.inside.cutter c.args.piece.now ∙ ap (λ (h : Held). h.told) c.self.view_is) c.args.out.now.items c.answer_whole.new.out.items c.answer_whole.result c.answer_whole.new.self c.answer_whole.ensures
