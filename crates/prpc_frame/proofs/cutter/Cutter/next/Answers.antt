use Rattle.std.proofs.Common.{◌≡◌, ℕ, false, List, Option, Err, refl, ap, sym}
use Rattle.std.specs.Prelude.{is_some}
use Rattle.prpc_frame.specs.declared.fault.FrameFault.{FrameFault}
use Rattle.prpc_frame.specs.declared.fault.NextFault.TheVariants as next
use Rattle.prpc_frame.proofs.LastingStreamFacts.{leads}
use Rattle.prpc_frame.proofs.CutterHoldingByFault.{unnoted, still_unnoted, noted, answers_at}
use Rattle.prpc_frame.proofs.cutter.Cutter.next.Goals as goal

pub returns-in-Some-clause-stream : goal.returns-in-Some-clause-stream
returns-in-Some-clause-stream c = λ (at : ℕ) (more : List ℕ).
    let old = c.args.self.now.bytes in
    let is = noted c.self.inside.fault c.self.inside.held.items c.self.inside.faulty.list c.args.self.now c.in-Some.fault c.in-Some.is c.self.view_is c.self.invariant in
    leads at more old old (Err (next.Frame c.in-Some.fault)) (is.0, refl)

pub returns-in-Some-told_fault-clause-stream : goal.returns-in-Some-told_fault-clause-stream
returns-in-Some-told_fault-clause-stream c = λ (at : ℕ) (more : List ℕ).
    let none : is_some c.self.inside.fault ≡ false = ap (λ (o : Option FrameFault). is_some o) c.in_default.is in
    let same = unnoted c.self.inside.fault c.self.inside.held.items c.self.inside.faulty.list c.args.self.now none c.self.view_is in
    leads at more c.args.self.now.bytes c.of.result.list c.cut_frame-next.result
    (answers_at c.self.inside.held.items c.args.self.now.bytes c.cut_frame-next.new.held.items c.of.result.list c.cut_frame-next.result same.0 (sym c.of.ensures) c.cut_frame-next.ensures.exact)

pub returns-in_default-told_fault-clause-stream : goal.returns-in_default-told_fault-clause-stream
returns-in_default-told_fault-clause-stream c = λ (at : ℕ) (more : List ℕ).
    let none : is_some c.self.inside.fault ≡ false = ap (λ (o : Option FrameFault). is_some o) c.in_default.is in
    let same = unnoted c.self.inside.fault c.self.inside.held.items c.self.inside.faulty.list c.args.self.now none c.self.view_is in
    let kept = still_unnoted c.self.inside.fault c.cut_frame-next.new.held.items c.self.inside.faulty.list none in
    leads at more c.args.self.now.bytes _ c.cut_frame-next.result
    (answers_at c.self.inside.held.items c.args.self.now.bytes c.cut_frame-next.new.held.items _ c.cut_frame-next.result same.0 kept.1 c.cut_frame-next.ensures.exact)
