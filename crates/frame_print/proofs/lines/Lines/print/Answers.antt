use Rattle.std.proofs.lemmas.Result.{err_from_is_err_and}
use Rattle.std.proofs.Common.{List, ℕ, Ok, ◌∙◌, subst}
use Rattle.brpc_model.specs.FramesText.{frame_line}
use Rattle.frame_print.specs.FrameLineView.{frame_viewed}
use Rattle.frame_print.specs.TextWrittenToSink.{Gathers}
use Rattle.frame_print.proofs.ReadFeedCutSteps.{gathers_written, gathers_waits, gathers_lost, kept_true, kept_false}
use Rattle.frame_print.proofs.lines.Lines.print.Goals as goal

pub returns-in_err-flush : goal.returns-in_err-flush
returns-in_err-flush g c =
    let p = err_from_is_err_and c.from_residual.result c.from_residual.ensures.1 in
    let P : List ℕ → Type 0 = λ held. Gathers (g.K.Sink.state c.args.out.now) (g.K.Sink.state c.flush.new.out) held c.flush.new.self.bytes (frame_line (frame_viewed c.args.frame.now)) c.from_residual.result in
    subst P (kept_false _ _ _ c.if-gather.false c.gather.ensures)
    (gathers_lost _ _ c.gather.new.self.bytes c.flush.new.self.bytes (frame_line (frame_viewed c.args.frame.now)) _ _ _ p.1 c.in_err-flush.ensures.writes)

pub returns-then-gather-2 : goal.returns-then-gather-2
returns-then-gather-2 g c =
    let P : List ℕ → Type 0 = λ held. Gathers (g.K.Sink.state c.args.out.now) (g.K.Sink.state c.flush.new.out) held c.gather-2.new.self.bytes (frame_line (frame_viewed c.args.frame.now)) (Ok tt) in
    subst P (kept_false _ _ _ c.if-gather.false c.gather.ensures)
    (gathers_waits _ _ c.gather.new.self.bytes c.flush.new.self.bytes c.gather-2.new.self.bytes (frame_line (frame_viewed c.args.frame.now)) c.in_ok-flush.ensures.writes.whole c.in_ok-flush.ensures.writes.kept c.in_ok-flush.ensures.none (kept_true _ _ _ c.if-gather-2.true c.gather-2.ensures))

pub returns : goal.returns
returns g c =
    let P : List ℕ → Type 0 = λ held. Gathers (g.K.Sink.state c.args.out.now) (g.K.Sink.state c.print_frame.new.out) held c.gather-2.new.self.bytes (frame_line (frame_viewed c.args.frame.now)) c.print_frame.result in
    subst P (kept_false _ _ _ c.if-gather.false c.gather.ensures)
    (gathers_written _ _ _ c.gather.new.self.bytes (frame_line (frame_viewed c.args.frame.now)) c.gather-2.new.self.bytes c.print_frame.result c.in_ok-flush.ensures.writes.whole c.in_ok-flush.ensures.writes.kept (kept_false _ _ _ c.if-gather-2.false c.gather-2.ensures ∙ c.in_ok-flush.ensures.none) c.print_frame.ensures)
