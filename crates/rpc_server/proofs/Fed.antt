-- What answering the whole frames says of the piece that was fed.
use Rattle.std.proofs.Common.{◌≡◌, ℕ, zero, suc, ◌+◌, Bool, true, false, List, [], ◌++◌, length, drop, take, refl, ap, sym, ◌∙◌, arith, append-nil}
use Rattle.std.specs.Prelude.{flat_map, filter_map, option_map, Option, Some, None, Result, Ok, Err}
use Rattle.std.proofs.lemmas.List.Elements.{filter_map-append}
use Rattle.std.proofs.Math.Seq.{take-append_seam}
use Rattle.brpc_model.specs.Frame.{FrameFault, Judged, NoneYet, Faulty, Begins, judged, frame_bytes}
use Rattle.brpc_model.specs.FrameStream.{Stream, Ending, Rest, Fault, goes_on, stream, stream_up_to, stream_from, is_fault}
use Rattle.brpc_model.specs.Reply.{reply, reply_frames}
use Rattle.prpc_frame.specs.FrameMeaning.{fault_of}
use Rattle.prpc_frame.proofs.LastingStreamFacts.{faulty}
use Rattle.prpc_frame.specs.HeldByCutter.{with_piece}
use Rattle.prpc_frame.specs.HeldByCutter as cutter_
use Rattle.prpc_frame.proofs.StreamCuts.{stream_begins, stream_whole, frames_then, stream_rest, stream_fault, frames_anywhere}
use Rattle.rpc_server.specs.HeldByConnection.{Held}
use Rattle.rpc_server.specs.declared.conn.ConnFault.{ConnFault}
use Rattle.rpc_server.specs.declared.conn.ConnFault.TheVariants as fault_
use Rattle.rpc_server.specs.Feeding.{has_fault, Replied, Feeds, Answered, Stopped, AnswersWhole}

-- the fault that is meant
fault_meant : (o : Option FrameFault) (j : Judged) → option_map (λ f. Faulty f) o ≡ Some j → (f : FrameFault) × (o ≡ Some f) × (j ≡ Faulty f)
fault_meant None j e = absurd (cc)
fault_meant (Some f) j e = let s : j ≡ Faulty f = cc in (f, refl, s)

-- whether there is a fault is the same wherever the stream begins
goes_faults : (at at' : ℕ) (bytes : List ℕ) (j : Judged) (f g : ℕ → Stream) → ((body : ℕ) → is_fault (f body).ending ≡ is_fault (g body).ending) → is_fault (goes_on at bytes j f).ending ≡ is_fault (goes_on at' bytes j g).ending
goes_faults at at' bytes NoneYet f g h = refl
goes_faults at at' bytes (Faulty fault) f g h = refl
goes_faults at at' bytes (Begins frame body) f g h = h body

same_faults : (n at at' : ℕ) (bytes : List ℕ) → is_fault (stream_up_to n at bytes).ending ≡ is_fault (stream_up_to n at' bytes).ending
same_faults zero at at' bytes = refl
same_faults (suc n) at at' bytes = goes_faults at at' bytes (judged bytes) (λ body. stream_up_to n (at + (12 + body)) (drop (12 + body) bytes)) (λ body. stream_up_to n (at' + (12 + body)) (drop (12 + body) bytes))
    (λ body. same_faults n (at + (12 + body)) (at' + (12 + body)) (drop (12 + body) bytes))

faults_anywhere : (at : ℕ) (bytes : List ℕ) → is_fault (stream_from at bytes).ending ≡ has_fault bytes
faults_anywhere at bytes = same_faults (suc (length bytes)) at 0 bytes

-- a cutter that is fed tells its fault as before
pub tells_on : (old : cutter_.Held) (piece : List ℕ) → (with_piece old piece).told ≡ old.told
tells_on old piece = by old.told refl
  where
    by : (b : Bool) → old.told ≡ b → (with_piece old piece).told ≡ old.told
    by true e = grind (arith, e)
    by false e = grind (arith, e)

module _ (c mid : Held) (piece : List ℕ) (goes : (at : ℕ) (more : List ℕ) → stream_from at (mid.bytes ++ more) ≡ stream_from at (c.bytes ++ (piece ++ more))) (made : mid.made ≡ c.made) (told : mid.told ≡ c.told) where
  whole : stream (c.bytes ++ piece) ≡ stream mid.bytes
  whole = sym (ap stream (sym (append-nil mid.bytes)) ∙ (goes 0 [] ∙ ap (λ l. stream (c.bytes ++ l)) (append-nil piece)))

  module _ (c' : Held) (before now : List ℕ) (a : Answered mid c' before now) (ending : Ending) (is : stream mid.bytes ≡ frames_then a.frames ending) where
    frames_are : (stream (c.bytes ++ piece)).frames ≡ a.frames
    frames_are = ap (λ (s : Stream). s.frames) (whole ∙ is)

    replies_are : reply_frames (c.bytes ++ piece) ≡ filter_map reply a.frames
    replies_are = ap (filter_map reply) frames_are

    later : (more : List ℕ) → (stream (c.bytes ++ (piece ++ more))).frames ≡ a.frames ++ (stream (c'.bytes ++ more)).frames
    later more = ap (λ (s : Stream). s.frames) (sym (goes 0 more) ∙ stream_begins mid.bytes c'.bytes a.frames a.cut more) ∙ ap (λ l. a.frames ++ l) (frames_anywhere a.cut.size (c'.bytes ++ more))

    pub replied : Replied c piece c' before now
    replied = record {
      appended = a.appended ∙ ap (λ l. before ++ flat_map frame_bytes l) (sym replies_are);
      counted = omega (arith, a.counted, made, ap length replies_are);
      goes_on = λ more. ap (filter_map reply) (later more) ∙ (filter_map-append reply a.frames (stream (c'.bytes ++ more)).frames ∙ ap (λ l. l ++ reply_frames (c'.bytes ++ more)) (sym replies_are));
      faults = λ more. ap (λ (s : Stream). is_fault s.ending) (sym (goes 0 more) ∙ stream_begins mid.bytes c'.bytes a.frames a.cut more) ∙ faults_anywhere a.cut.size (c'.bytes ++ more);
    }

    pub ends : (stream (c.bytes ++ piece)).ending ≡ ending
    ends = ap (λ (s : Stream). s.ending) (whole ∙ is)

  stopped : (before now : List ℕ) → Stopped mid before now → (n : ℕ) × (now ≡ before ++ flat_map frame_bytes (filter_map reply (take n (stream (c.bytes ++ piece)).frames)))
  stopped before now s = let split : (stream (c.bytes ++ piece)).frames ≡ s.frames ++ (stream_from s.cut.size s.left).frames = ap (λ (t : Stream). t.frames) (whole ∙ stream_whole mid.bytes s.left s.frames s.cut) in
      (length s.frames, s.appended ∙ ap (λ l. before ++ flat_map frame_bytes (filter_map reply l)) (sym (ap (take (length s.frames)) split ∙ take-append_seam s.frames (stream_from s.cut.size s.left).frames)))

  pub fed_whole : (before now : List ℕ) (result : Result (Unit {0}) ConnFault) (c' : Held) → AnswersWhole mid before result c' now → Feeds c piece before result c' now
  fed_whole before now (Ok u) c' x = let is = stream_rest mid.bytes c'.bytes x.0.frames x.0.cut x.1 in (replied c' before now x.0 (Rest (length c'.bytes)) is, ends c' before now x.0 (Rest (length c'.bytes)) is, sym told ∙ x.2, x.3)
  fed_whole before now (Err (fault_.Frame fault)) c' x = let meant = fault_meant (fault_of fault) (judged c'.bytes) x.1 in let is = stream_fault mid.bytes c'.bytes x.0.frames x.0.cut meant.0 meant.2 in
      let ending : Ending = Fault x.0.cut.size meant.0 in (replied c' before now x.0 ending is, (x.0.cut.size, meant.0, meant.1, ends c' before now x.0 ending is, λ more. ap (λ (s : Stream). s.ending) (faulty 0 c'.bytes more meant.0 meant.2)), x.2)
  fed_whole before now (Err fault_.NoMemory) c' x = let s = stopped before now x.0 in (s.0, s.1, sym told ∙ x.1)
