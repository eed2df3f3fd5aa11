use Rattle.std.proofs.Common.{◌≡◌, ℕ, List, [], ◌∷◌, Option, Some, Ok, sym, ◌∙◌, refl}
use Rattle.prpc_frame.specs.StreamCuts.{Cut}
use Rattle.prpc_frame.specs.CutterAnswerLeads.{Leads}
use Rattle.prpc_frame.specs.FrameMeaning.{frame_of}
use Rattle.prpc_frame.specs.declared.frame.Frame as code
use Rattle.prpc_frame.proofs.StreamCuts.{cut_none, cut_next, cut_front}
use Rattle.frame_print.specs.FrameLineView.{frame_viewed}
use Rattle.frame_print.proofs.CutterHoldingSize.{held_untold}
use Rattle.frame_print.proofs.ReadFeedCutSteps.{gathered_none, gathered_next, gather_stopped, gathered_lost_at, same_none, same_fault, same_memory, cut_none_more, cut_to_fault, cut_to_memory}
use Rattle.frame_print.proofs.print.print_whole.Goals as goal

pub loop-frame-init : goal.loop-frame-init
loop-frame-init g c = record { gathered = gathered_none _ _ _ c.requires.none; untold = c.requires.untold; kept = refl }

-- the frame that the cutter gave
one_next : (held new : List ℕ) (f : code.Frame) (there : Option code.Frame) → there ≡ Some f → ((at : ℕ) (more : List ℕ) → Leads at more held (Ok there) new) → Cut held (frame_of f ∷ []) new
one_next held new f there is leads = cut_next held held new [] f there (cut_none held) is leads

-- ## The frame that lies in one piece

pub returns-then-is_err-clause-cuts : goal.returns-then-is_err-clause-cuts
returns-then-is_err-clause-cuts g c =
    let i = c.loop-frame.invariant in
    let one = cut_front c.loop-frame.cutter.bytes c.skip.new.self.bytes c.in-Some.frame c.in-Some.ensures.exact.is c.in-Some.ensures.stream c.skip.ensures.bytes in
    gather_stopped _ _ _ _ _ _ c.loop-frame.lines.bytes c.print-printed.new.self.bytes (frame_viewed c.front_view.result) _ c.print-printed.result i.gathered i.kept one c.front_view.ensures
    (sym c.is_err.ensures.value ∙ c.if-is_err.true) c.print-printed.ensures

pub loop-frame-preserved-in-Some : goal.loop-frame-preserved-in-Some
loop-frame-preserved-in-Some g c =
    let i = c.loop-frame.invariant in
    let one = cut_front c.loop-frame.cutter.bytes c.skip.new.self.bytes c.in-Some.frame c.in-Some.ensures.exact.is c.in-Some.ensures.stream c.skip.ensures.bytes in
    let more =
    gathered_next _ _ _ _ _ _ c.loop-frame.lines.bytes c.print-printed.new.self.bytes (frame_viewed c.front_view.result) _ c.print-printed.result i.gathered i.kept one c.front_view.ensures
    (sym c.is_err.ensures.value ∙ c.if-is_err.false) c.print-printed.ensures
    in
    record { gathered = more.0; untold = c.skip.ensures.told ∙ i.untold; kept = more.1 }

-- ## The frame that the cutter gave

pub returns-then-is_err-2-clause-cuts : goal.returns-then-is_err-2-clause-cuts
returns-then-is_err-2-clause-cuts g c =
    let i = c.loop-frame.invariant in
    let one = one_next _ _ c.in-Ok-Some.frame c.in-Ok-Some.field-0 c.in-Ok-Some.field-0-is c.in-Ok-Some.ensures.stream in
    gather_stopped _ _ _ _ _ _ c.loop-frame.lines.bytes c.print.new.self.bytes (frame_viewed c.of.result) _ c.print.result i.gathered i.kept one c.of.ensures
    (sym c.is_err-in-Ok-Some.ensures.value ∙ c.if-is_err-2.true) c.print.ensures

pub loop-frame-preserved : goal.loop-frame-preserved
loop-frame-preserved g c =
    let i = c.loop-frame.invariant in
    let one = one_next _ _ c.in-Ok-Some.frame c.in-Ok-Some.field-0 c.in-Ok-Some.field-0-is c.in-Ok-Some.ensures.stream in
    let more =
    gathered_next _ _ _ _ _ _ c.loop-frame.lines.bytes c.print.new.self.bytes (frame_viewed c.of.result) _ c.print.result i.gathered i.kept one c.of.ensures
    (sym c.is_err-in-Ok-Some.ensures.value ∙ c.if-is_err-2.false) c.print.ensures
    in
    record { gathered = more.0; untold = c.in-Ok-Some.ensures.told; kept = more.1 }

pub returns-in-Err-clause-cuts : goal.returns-in-Err-clause-cuts
returns-in-Err-clause-cuts g c =
    gathered_lost_at _ _ _ _ _ _ c.loop-frame.lines.bytes _ (same_none _ _ _ _ c.in-Ok-None.field-0-is c.in-Ok-None.ensures.exact) c.loop-frame.invariant.gathered c.loop-frame.invariant.kept c.in-Err.ensures.writes

pub returns-in-Err-flush-clause-cuts : goal.returns-in-Err-flush-clause-cuts
returns-in-Err-flush-clause-cuts g c =
    gathered_lost_at _ _ _ _ _ _ c.loop-frame.lines.bytes _ (same_fault _ _ _ _ _ c.in-Err-Frame.field-0-is c.in-Err-Frame.ensures.exact) c.loop-frame.invariant.gathered c.loop-frame.invariant.kept c.in-Err-flush.ensures.writes

pub returns-in-Err-flush-2-clause-cuts : goal.returns-in-Err-flush-2-clause-cuts
returns-in-Err-flush-2-clause-cuts g c =
    gathered_lost_at _ _ _ _ _ _ c.loop-frame.lines.bytes _ (same_memory _ _ _ _ c.in-Err-NoMemory.field-0-is c.in-Err-NoMemory.ensures.exact) c.loop-frame.invariant.gathered c.loop-frame.invariant.kept c.in-Err-flush-2.ensures.writes

-- ## The lines were written

pub returns-in-Ok-clause-cuts : goal.returns-in-Ok-clause-cuts
returns-in-Ok-clause-cuts g c =
    cut_none_more _ _ _ _ _ _ c.loop-frame.lines.bytes _ c.in-Ok-None.field-0-is c.in-Ok-None.ensures.exact c.loop-frame.invariant.gathered c.loop-frame.invariant.kept c.in-Ok.ensures.writes

pub returns-in-Ok-flush-clause-cuts : goal.returns-in-Ok-flush-clause-cuts
returns-in-Ok-flush-clause-cuts g c =
    cut_to_fault _ _ _ _ _ _ c.loop-frame.lines.bytes _ _ c.in-Err-Frame.field-0-is (c.held-len.ensures ∙ held_untold c.loop-frame.cutter c.loop-frame.invariant.untold) c.in-Err-Frame.ensures.exact c.loop-frame.invariant.gathered c.loop-frame.invariant.kept
    c.in-Ok-flush.ensures.writes

pub returns-in-Ok-flush-2-clause-cuts : goal.returns-in-Ok-flush-2-clause-cuts
returns-in-Ok-flush-2-clause-cuts g c =
    cut_to_memory _ _ _ _ _ _ c.loop-frame.lines.bytes _ c.in-Err-NoMemory.field-0-is c.in-Err-NoMemory.ensures.exact c.loop-frame.invariant.gathered c.in-Ok-flush-2.ensures.writes
