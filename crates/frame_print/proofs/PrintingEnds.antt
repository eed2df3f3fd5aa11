-- How printing ends.
use Rattle.std.proofs.Common.{◌≡◌, ℕ, ◌-◌, ◌≤◌, ◌⊎◌, inl, inr, List, ◌++◌, length, take, Option, Result, Ok, Err, ap, sym, ◌∙◌, subst, arith, length-append}
use Rattle.std.specs.Prelude.{flat_map}
use Rattle.std.specs.Io.KnownBytes.{Appends, IsAtEnd}
use Rattle.std.proofs.lemmas.Grind.{flat_map-append}
use Rattle.std.proofs.lemmas.List.{take-append-le}
use Rattle.std.proofs.Math.Seq.{take-length}
use Rattle.brpc_model.specs.Frame.{Frame, FrameFault, NoneYet, Faulty, judged}
use Rattle.brpc_model.specs.FrameStream.{Stream, Rest, Fault, stream, stream_from}
use Rattle.brpc_model.specs.FramesText.{frame_line, ending_line}
use Rattle.sock_io.specs.FaultCauses.{Rose}
use Rattle.sock_io.specs.SourceAndSinkState.{SourceState, SinkState}
use Rattle.sock_io.specs.declared.stream.Failed.{Failed}
use Rattle.frame_print.specs.TextWrittenToSink.{Writes}
use Rattle.sock_io.specs.PartWrittenToSink.{WrotePart}
use Rattle.frame_print.specs.declared.print.StreamEnd.{StreamEnd}
use Rattle.frame_print.specs.declared.print.StreamEnd.TheVariants as end_
use Rattle.frame_print.specs.declared.print.PrintFault.{PrintFault}
use Rattle.frame_print.specs.declared.print.PrintFault.TheVariants as fault_
use Rattle.frame_print.specs.PrintedFrames.{frames_limit, Edges, edges_over, frame_lines, first_lines, IsRest, IsFaulty, PrintedRest, PrintedFault, SourceFailed, SinkFailed, TooLong, NoMemory, WroteSome, EndsAs}
use Rattle.frame_print.specs.Cutting.{CutPrinted, CutStopped, CutsWhole, RestPrinted, JudgesAs, EndsStopped}
use Rattle.prpc_frame.specs.StreamCuts.{behind, Cut}
use Rattle.frame_print.proofs.SuccessiveTextWriting.{Appends-append, front_behind, front_before, rose_from}
use Rattle.frame_print.proofs.PrintedFrameCuts.{printed_more}
use Rattle.prpc_frame.proofs.StreamCuts.{frames_then, cut_more, stream_begins, stream_whole, stream_rest, stream_fault}

abbrev text_of : Stream → List ℕ
text_of s = flat_map frame_line s.frames ++ ending_line s.ending

abbrev lines_of : Stream → List ℕ
lines_of s = flat_map frame_line s.frames

is_rest : (bytes held : List ℕ) (fs : List Frame) → Cut bytes fs held → judged held ≡ NoneYet → IsRest (stream bytes).ending
is_rest bytes held fs x e = let P : Stream → Type 0 = λ s. IsRest s.ending in subst P (sym (stream_rest bytes held fs x e)) tt

lines_written : (bytes held : List ℕ) (o p : Option (List ℕ)) → (x : CutPrinted bytes o held p) → judged held ≡ NoneYet → Appends o p (frame_lines bytes)
lines_written bytes held o p x e = let P : Stream → Type 0 = λ s. Appends o p (lines_of s) in subst P (sym (stream_rest bytes held x.frames x.cut e)) x.wrote

pub ends_rest : (e : Edges) (bytes held : List ℕ) (p : Option (List ℕ)) → length bytes ≤ frames_limit → IsAtEnd e.source.now → CutPrinted bytes e.sink.before held p → judged held ≡ NoneYet →
    Appends p e.sink.now (ending_line (Rest (length held))) → e.sink.faults_now ≡ e.sink.faults → PrintedRest e bytes
ends_rest e bytes held p few end x waiting w kept = record {
  few = few;
  end = end;
  ending = is_rest bytes held x.frames x.cut waiting;
  wrote = let P : Stream → Type 0 = λ s. Appends e.sink.before e.sink.now (text_of s) in
      subst P (sym (stream_rest bytes held x.frames x.cut waiting)) (Appends-append e.sink.before p e.sink.now (flat_map frame_line x.frames) (ending_line (Rest (length held))) x.wrote w);
  kept = kept;
}

pub ends_unwritten : (e : Edges) (bytes held : List ℕ) (p : Option (List ℕ)) (faults : ℕ) → length bytes ≤ frames_limit → IsAtEnd e.source.now → CutPrinted bytes e.sink.before held p → judged held ≡ NoneYet →
    WrotePart p e.sink.now (ending_line (Rest (length held))) → faults ≡ e.sink.faults → Rose faults e.sink.faults_now → SinkFailed e bytes
ends_unwritten e bytes held p faults few end x waiting w kept rose = record {
  few = few;
  ending = is_rest bytes held x.frames x.cut waiting;
  wrote = let P : Stream → Type 0 = λ s. WrotePart e.sink.before e.sink.now (text_of s) in
      inr (
        end,
        (
          subst P (sym (stream_rest bytes held x.frames x.cut waiting)) (front_behind e.sink.before p e.sink.now (flat_map frame_line x.frames) (ending_line (Rest (length held))) x.wrote w),
          rose_from e.sink.faults faults e.sink.faults_now kept rose,
        ),
      );
}

fault_written : (o p q : SinkState) (s : Stream) (r : Result (Unit {0}) Failed) → Appends o.contents p.contents (lines_of s) → p.faults ≡ o.faults →
    Writes p q (ending_line s.ending) r → Appends o.contents q.contents (text_of s) ⊎ (WrotePart o.contents q.contents (text_of s) × Rose o.faults q.faults)
fault_written o p q s (Ok done) w kept f = inl (Appends-append o.contents p.contents q.contents (lines_of s) (ending_line s.ending) w f.whole)
fault_written o p q s (Err fault) w kept f = inr (front_behind o.contents p.contents q.contents (lines_of s) (ending_line s.ending) w f.front, rose_from o.faults p.faults q.faults kept f.failed)

pub ends_fault : (a b : SourceState) (o p q : SinkState) (bytes held : List ℕ) (start : ℕ) (f : FrameFault) (r : Result (Unit {0}) Failed) → length bytes ≤ frames_limit → CutPrinted bytes o.contents held p.contents →
    judged held ≡ Faulty f → start ≡ length bytes - length held → p.faults ≡ o.faults → Writes p q (ending_line (Fault start f)) r → PrintedFault (edges_over a b o q) bytes
ends_fault a b o p q bytes held start f r few x fault begins kept w =
    let e1 : start ≡ x.cut.size = omega (arith, begins, x.cut.sized) in
    let P : ℕ → Type 0 = λ n. Writes p q (ending_line (Fault n f)) r in
    let is = stream_fault bytes held x.frames x.cut f fault in
    let Q : Stream → Type 0 = λ s. IsFaulty s.ending in
    let R : Stream → Type 0 = λ s. Appends o.contents q.contents (text_of s) ⊎ (WrotePart o.contents q.contents (text_of s) × Rose o.faults q.faults) in
    record {
      few = few;
      ending = subst Q (sym is) tt;
      wrote = subst R (sym is) (fault_written o p q (frames_then x.frames (Fault x.cut.size f)) r x.wrote kept (subst P e1 w));
    }

pub ends_source : (e : Edges) (bytes held : List ℕ) → length bytes ≤ frames_limit → CutPrinted bytes e.sink.before held e.sink.now → judged held ≡ NoneYet → (faults : ℕ) → faults ≡ e.source.faults →
    Rose faults e.source.faults_now → SourceFailed e bytes
ends_source e bytes held few x waiting faults kept rose = record {
  few = few;
  rose = rose_from e.source.faults faults e.source.faults_now kept rose;
  ending = is_rest bytes held x.frames x.cut waiting;
  wrote = lines_written bytes held e.sink.before e.sink.now x waiting;
}

pub ends_long : (e : Edges) (whole held piece : List ℕ) → length whole ≡ frames_limit → length piece ≡ 1 → CutPrinted whole e.sink.before held e.sink.now → judged held ≡ NoneYet → TooLong e (whole ++ piece)
ends_long e whole held piece all one x waiting =
    let front : take frames_limit (whole ++ piece) ≡ whole =
    ap (λ n. take n (whole ++ piece)) (sym all) ∙ (let le : length whole ≤ length whole = omega arith in take-append-le (length whole) whole piece le) ∙ take-length whole
    in
    let P : List ℕ → Type 0 = λ l. IsRest (stream l).ending in
    let Q : List ℕ → Type 0 = λ l. Appends e.sink.before e.sink.now (frame_lines l) in
    record {
      long = omega (arith, length-append whole piece, all, one);
      ending = subst P (sym front) (is_rest whole held x.frames x.cut waiting);
      wrote = subst Q (sym front) (lines_written whole held e.sink.before e.sink.now x waiting);
    }

first_of : (fs gs : List Frame) → take (length fs) (fs ++ gs) ≡ fs
first_of fs gs = (let le : length fs ≤ length fs = omega arith in take-append-le (length fs) fs gs le) ∙ take-length fs

lines_first : (bytes held : List ℕ) (fs : List Frame) (s : Stream) → stream bytes ≡ behind fs s → first_lines (length fs) bytes ≡ flat_map frame_line fs
lines_first bytes held fs s is = ap (λ (t : Stream). flat_map frame_line (take (length fs) t.frames)) is ∙ ap (λ l. flat_map frame_line l) (first_of fs s.frames)

-- before a piece was fed
pub ends_unfed : (e : Edges) (whole held piece : List ℕ) → length (whole ++ piece) ≤ frames_limit → CutPrinted whole e.sink.before held e.sink.now → NoMemory e (whole ++ piece)
ends_unfed e whole held piece few x =
    let P : List ℕ → Type 0 = λ l. Appends e.sink.before e.sink.now l in
    record {
      few = few;
      wrote = inl (length x.frames, subst P (sym (lines_first (whole ++ piece) held x.frames _ (stream_begins whole held x.frames x.cut piece))) x.wrote);
    }

pub ends_memory : (e : Edges) (bytes held : List ℕ) → length bytes ≤ frames_limit → CutPrinted bytes e.sink.before held e.sink.now → NoMemory e bytes
ends_memory e bytes held few x =
    let P : List ℕ → Type 0 = λ l. Appends e.sink.before e.sink.now l in
    record {
      few = few;
      wrote = inl (length x.frames, subst P (sym (lines_first bytes held x.frames _ (stream_whole bytes held x.frames x.cut))) x.wrote);
    }

-- the sink failed in the line of a frame
lines_lost : (a b : SourceState) (o p q : SinkState) (bytes held mid : List ℕ) → CutPrinted bytes o.contents held p.contents → p.faults ≡ o.faults → CutStopped held p mid q →
    WroteSome (edges_over a b o q) (frame_lines bytes)
lines_lost a b o p q bytes held mid x kept y =
    let fs = x.frames ++ y.frames in
    let cut : Cut bytes fs mid = cut_more bytes held mid x.frames y.frames x.cut y.cut in
    let more = stream_from cut.size mid in
    let P : List ℕ → Type 0 = λ l. WrotePart o.contents q.contents l in
    let front : WrotePart o.contents q.contents (flat_map frame_line fs) =
    subst P (sym (flat_map-append frame_line x.frames y.frames)) (front_behind o.contents p.contents q.contents (flat_map frame_line x.frames) (flat_map frame_line y.frames) x.wrote y.front)
    in
    let all : frame_lines bytes ≡ flat_map frame_line fs ++ flat_map frame_line more.frames =
    ap (λ (s : Stream). flat_map frame_line s.frames) (stream_whole bytes mid fs cut) ∙ flat_map-append frame_line fs more.frames
    in
    (subst P (sym all) (front_before o.contents q.contents (flat_map frame_line fs) (flat_map frame_line more.frames) front), rose_from o.faults p.faults q.faults kept y.rose)

-- the frames that were cut before and after it
cut_behind : (o p q : SinkState) (bytes held mid new : List ℕ) → (x : CutPrinted bytes o.contents held p.contents) → (y : CutStopped held p mid q) → (gs : List Frame) → Cut mid gs new →
    Cut bytes ((x.frames ++ y.frames) ++ gs) new
cut_behind o p q bytes held mid new x y gs z = cut_more bytes mid new (x.frames ++ y.frames) gs (cut_more bytes held mid x.frames y.frames x.cut y.cut) z

-- by how the bytes are judged then
judged_ends : (e : Edges) (bytes new : List ℕ) (fs : List Frame) (r : Result StreamEnd PrintFault) → length bytes ≤ frames_limit → WroteSome e (frame_lines bytes) → Cut bytes fs new → JudgesAs (judged new) r → EndsAs e bytes r
judged_ends e bytes new fs (Ok end_.Rest) few lost x j = absurd j
judged_ends e bytes new fs (Ok end_.Fault) few lost x j =
    let Q : Stream → Type 0 = λ s. IsFaulty s.ending in
    record {
      few = few;
      ending = subst Q (sym (stream_fault bytes new fs x j.0 j.1)) tt;
      wrote = inr (front_before e.sink.before e.sink.now (frame_lines bytes) (ending_line (stream bytes).ending) lost.0, lost.1);
    }
judged_ends e bytes new fs (Err fault_.Source) few lost x j = absurd j
judged_ends e bytes new fs (Err fault_.Sink) few lost x j = record { few = few; ending = is_rest bytes new fs x j; wrote = inl lost }
judged_ends e bytes new fs (Err fault_.TooLong) few lost x j = absurd j
judged_ends e bytes new fs (Err fault_.NoMemory) few lost x j = record { few = few; wrote = inr lost }

at_rest : (a b : SourceState) (o p q : SinkState) (bytes held : List ℕ) (r : Result StreamEnd PrintFault) → length bytes ≤ frames_limit → IsAtEnd b.left → CutPrinted bytes o.contents held p.contents →
    judged held ≡ NoneYet → p.faults ≡ o.faults → RestPrinted p q (length held) r → EndsAs (edges_over a b o q) bytes r
at_rest a b o p q bytes held (Ok end_.Rest) few end x waiting kept w = ends_rest (edges_over a b o q) bytes held p.contents few end x waiting w.0 (w.1 ∙ kept)
at_rest a b o p q bytes held (Ok end_.Fault) few end x waiting kept w = absurd w
at_rest a b o p q bytes held (Err fault_.Source) few end x waiting kept w = absurd w
at_rest a b o p q bytes held (Err fault_.Sink) few end x waiting kept w = ends_unwritten (edges_over a b o q) bytes held p.contents p.faults few end x waiting w.0 kept w.1
at_rest a b o p q bytes held (Err fault_.TooLong) few end x waiting kept w = absurd w
at_rest a b o p q bytes held (Err fault_.NoMemory) few end x waiting kept w = absurd w

-- at the end of the source
pub ends_at_rest : (a b : SourceState) (o p q : SinkState) (bytes held : List ℕ) (len : ℕ) (r : Result StreamEnd PrintFault) → length bytes ≤ frames_limit → IsAtEnd b.left → CutPrinted bytes o.contents held p.contents →
    judged held ≡ NoneYet → len ≡ length held → p.faults ≡ o.faults → RestPrinted p q len r → EndsAs (edges_over a b o q) bytes r
ends_at_rest a b o p q bytes held len r few end x waiting is kept w =
    let P : ℕ → Type 0 = λ n. RestPrinted p q n r in
    at_rest a b o p q bytes held r few end x waiting kept (subst P is w)

-- where printing the whole frames stopped
pub ends_in_cut : (a b : SourceState) (o p q : SinkState) (bytes held mid new : List ℕ) (x : PrintFault) (r : Result StreamEnd PrintFault) → length bytes ≤ frames_limit → CutPrinted bytes o.contents held p.contents →
    p.faults ≡ o.faults → CutsWhole held p mid q (Err x) → EndsStopped mid new x r → EndsAs (edges_over a b o q) bytes r
ends_in_cut a b o p q bytes held mid new fault_.Source r few x kept w stopped = absurd w
ends_in_cut a b o p q bytes held mid new fault_.Sink r few x kept w stopped =
    judged_ends (edges_over a b o q) bytes new _ r few (lines_lost a b o p q bytes held mid x kept w) (cut_behind o p q bytes held mid new x w stopped.frames stopped.cut) stopped.judges
ends_in_cut a b o p q bytes held mid new fault_.TooLong r few x kept w stopped = absurd w
ends_in_cut a b o p q bytes held mid new fault_.NoMemory r few x kept w stopped =
    let P : Result StreamEnd PrintFault → Type 0 = λ s. EndsAs (edges_over a b o q) bytes s in
    subst P (sym stopped) (ends_memory (edges_over a b o q) bytes mid few (printed_more bytes held mid o.contents p.contents q.contents x w))
