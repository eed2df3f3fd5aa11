use Rattle.std.proofs.Common.{◌≡◌, ℕ, ◌+◌, true, false, List, length, Ok, Err, ap, sym, ◌∙◌, subst, rules}
use Rattle.brpc_model.specs.Frame.{judged}
use Rattle.std.specs.Prelude.{Option, None}
use Rattle.prpc_frame.specs.CutterAnswerLeads.{Leads}
use Rattle.prpc_frame.specs.CutterAnswers.{Answers, tells_fault}
use Rattle.prpc_frame.specs.declared.frame.Frame.{Frame}
use Rattle.prpc_frame.specs.declared.fault.NextFault.{NextFault}
use Rattle.prpc_frame.specs.FrameMeaning.{frame_of}
use Rattle.rpc_server.specs.Feeding.{replies_to, AnswersWhole}
use Rattle.rpc_server.specs.HeldByConnection.{Held}
use Rattle.rpc_server.specs.declared.conn.ConnFault.TheVariants as fault_
use Rattle.rpc_server.proofs.AnsweringFrames.{answered_none, answered_next, answered_same, stopped_at, untold}
use Rattle.rpc_server.proofs.SmallFrames.{cut_begun}
use Rattle.rpc_server.proofs.conn.Conn.answer_whole.Goals as goal

pub loop-frame-init : goal.loop-frame-init
loop-frame-init c = (answered_none c.args.self.now c.args.out.now.items, λ i. c.args.self.now.told)

pub loop-frame-preserved : goal.loop-frame-preserved
loop-frame-preserved c = (
  answered_next c.args.self.now c.loop-frame.self c.answer.new.self c.args.out.now.items c.loop-frame.out.items c.answer.new.out.items c.next.new.self.bytes c.in-Ok-Some.frame c.in-Ok-Some.field-0 c.loop-frame.invariant.0 c.in-Ok-Some.field-0-is
      (subst (λ (l : List ℕ). (at : ℕ) (more : List ℕ) → Leads at more l (Ok c.in-Ok-Some.field-0) c.next.new.self.bytes) (ap (λ (h : Held). h.bytes) c.self.view_is) c.in-Ok-Some.ensures.stream) c.answer.ensures.bytes (c.in_ok-answer-in-Ok-Some.ensures.counted ∙ ap (λ n. n + length (replies_to (frame_of c.in-Ok-Some.frame))) (ap (λ (h : Held). h.made) c.self.view_is)) c.in_ok-answer-in-Ok-Some.ensures.appended,
  c.answer.ensures.told ∙ (c.in-Ok-Some.ensures.told ∙ sym (sym c.loop-frame.invariant.1 ∙ (sym (ap (λ (h : Held). h.told) c.self.view_is) ∙ untold c.self.inside.cutter.told c.in-Ok-Some.ensures.again))),
)

pub answer-requires : goal.answer-requires
answer-requires c = cut_begun c.self.inside.cutter.bytes c.next.new.self.bytes c.in-Ok-Some.field-0 c.in-Ok-Some.frame c.in-Ok-Some.field-0-is c.in-Ok-Some.ensures.exact

pub returns-in_err-answer-in-Ok-Some : goal.returns-in_err-answer-in-Ok-Some
returns-in_err-answer-in-Ok-Some c =
    let is : c.from_residual.result ≡ Err fault_.NoMemory = search rules in
    subst (λ r. AnswersWhole c.args.self.now c.args.out.now.items r c.answer.new.self c.answer.new.out.items) (sym is) (
      stopped_at c.args.self.now c.loop-frame.self c.args.out.now.items c.loop-frame.out.items c.answer.new.out.items c.loop-frame.invariant.0 c.in_err-answer-in-Ok-Some.ensures.kept,
      sym c.loop-frame.invariant.1 ∙ (sym (ap (λ (h : Held). h.told) c.self.view_is) ∙ untold c.self.inside.cutter.told c.in-Ok-Some.ensures.again),
    )

pub returns-in-Ok-None : goal.returns-in-Ok-None
returns-in-Ok-None c =
    let untold_ : c.args.self.now.told ≡ false = sym c.loop-frame.invariant.1 ∙ (sym (ap (λ (h : Held). h.told) c.self.view_is) ∙ untold c.self.inside.cutter.told c.in-Ok-None.ensures.again) in
    let b = c.self.inside.cutter.bytes in
    let exact : Answers (judged b) b (Ok None) c.next.new.self.bytes = subst (λ (t : Option Frame). Answers (judged b) b (Ok t) c.next.new.self.bytes) c.in-Ok-None.field-0-is c.in-Ok-None.ensures.exact in
    let held : c.next.new.self.bytes ≡ c.loop-frame.self.bytes = exact.1 ∙ ap (λ (h : Held). h.bytes) c.self.view_is in
    let n : Held = record { bytes = c.next.new.self.bytes; made = c.self.inside.made; told = c.next.new.self.told } in (
      answered_same c.args.self.now c.loop-frame.self n c.args.out.now.items c.loop-frame.out.items c.loop-frame.invariant.0 held (ap (λ (h : Held). h.made) c.self.view_is),
      ap judged exact.1 ∙ exact.0,
      untold_,
      c.in-Ok-None.ensures.told,
    )

pub returns-in-Err-NoMemory : goal.returns-in-Err-NoMemory
returns-in-Err-NoMemory c =
    let again = subst (λ (f : NextFault). c.self.inside.cutter.told ≡ true → tells_fault (Err f) ≡ true) c.in-Err-NoMemory.field-0-is c.in-Err-NoMemory.ensures.again in (
      stopped_at c.args.self.now c.loop-frame.self c.args.out.now.items c.loop-frame.out.items c.loop-frame.out.items c.loop-frame.invariant.0 (λ i. c.loop-frame.out.items),
      sym c.loop-frame.invariant.1 ∙ (sym (ap (λ (h : Held). h.told) c.self.view_is) ∙ untold c.self.inside.cutter.told again),
    )
