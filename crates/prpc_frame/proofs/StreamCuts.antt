-- Frames that are cut off the front of a stream, one behind another.
use Rattle.std.proofs.Common.{◌≡◌, ℕ, zero, suc, ◌+◌, ◌-◌, ◌<◌, List, [], ◌∷◌, ◌++◌, length, drop, Some, Ok, refl, ap, sym, ◌∙◌, subst, arith, append_assoc, append-nil, length-drop}
use Rattle.std.specs.Prelude.{Option}
use Rattle.rpc_meta.specs.brpc_model.specs.Frame.{Frame, FrameFault, Judged, NoneYet, Faulty, Begins, judged}
use Rattle.rpc_meta.specs.brpc_model.specs.FrameStream.{Stream, Ending, Rest, Fault, with_frame, goes_on, stream_up_to, stream_from, stream}
use Rattle.rpc_meta.specs.brpc_model.proofs.StreamBehindFirstFrame.{stream_goes_on}
use Rattle.prpc_frame.specs.StreamCuts.{behind, Cut}
use Rattle.prpc_frame.specs.CutterAnswerLeads.{Leads}
use Rattle.prpc_frame.specs.Front.{front_of, IsInFront, LeadsOn}
use Rattle.prpc_frame.specs.FrameMeaning.{frame_of}
use Rattle.prpc_frame.specs.declared.frame.Frame as code_
use Rattle.prpc_frame.specs.declared.front.FrontFrame.{FrontFrame}

-- no frame
pub cut_none : (bytes : List ℕ) → Cut bytes [] bytes
cut_none bytes = record {
  size = 0;
  sized = omega arith;
  leads = λ at more. let e : at ≡ at + 0 = omega arith in ap (λ n. stream_from n (bytes ++ more)) e;
}

-- one frame
pub cut_one : (old new : List ℕ) (f : Frame) → ((at : ℕ) (more : List ℕ) → (length new < length old) × (stream_from at (old ++ more) ≡ with_frame f (stream_from (at + (length old - length new)) (new ++ more)))) →
    Cut old (f ∷ []) new
cut_one old new f h = record {
  size = length old - length new;
  sized = omega (arith, (h 0 []).0);
  leads = λ at more. (h at more).1;
}

behind-behind : (fs gs : List Frame) (s : Stream) → behind fs (behind gs s) ≡ behind (fs ++ gs) s
behind-behind fs gs s = ap (λ (l : List Frame). let r : Stream = record { frames = l; ending = s.ending } in r) (sym (append_assoc fs gs s.frames))

-- more frames
pub cut_more : (a b d : List ℕ) (fs gs : List Frame) → Cut a fs b → Cut b gs d → Cut a (fs ++ gs) d
cut_more a b d fs gs x y = record {
  size = x.size + y.size;
  sized = omega (arith, x.sized, y.sized);
  leads = λ at more.
      let e : at + x.size + y.size ≡ at + (x.size + y.size) = omega arith in
      x.leads at more ∙ ap (λ s. behind fs s) (y.leads (at + x.size) more) ∙ behind-behind fs gs (stream_from (at + x.size + y.size) (d ++ more))
      ∙ ap (λ n. behind (fs ++ gs) (stream_from n (d ++ more))) e;
}

-- the frame that the cutter gave, behind those before it
pub cut_next : (old held new : List ℕ) (fs : List Frame) (f : code_.Frame) (there : Option code_.Frame) → Cut old fs held → there ≡ Some f → ((at : ℕ) (more : List ℕ) → Leads at more held (Ok there) new) → Cut old (fs ++ frame_of f ∷ []) new
cut_next old held new fs f there cut is leads =
    let P : Option code_.Frame → Type 0 = λ t. (at : ℕ) (more : List ℕ) → Leads at more held (Ok t) new in
    cut_more old held new fs (frame_of f ∷ []) cut (cut_one held new (frame_of f) (subst P is leads))

-- the frame in front, which was let go
pub cut_front : (old new : List ℕ) (f : FrontFrame) → IsInFront old f → LeadsOn old f → new ≡ drop f.size old → Cut old (front_of f ∷ []) new
cut_front old new f x leads is = record {
  size = f.size;
  sized = omega (arith, ap length is, length-drop f.size old, x.there);
  leads = λ at more. leads at more ∙ ap (λ l. with_frame (front_of f) (stream_from (at + f.size) (l ++ more))) (sym is);
}

-- ## The whole stream

-- with a piece behind it
pub stream_begins : (whole held : List ℕ) (fs : List Frame) (x : Cut whole fs held) (piece : List ℕ) → stream (whole ++ piece) ≡ behind fs (stream_from x.size (held ++ piece))
stream_begins whole held fs x piece = let e : 0 + x.size ≡ x.size = omega arith in x.leads 0 piece ∙ ap (λ n. behind fs (stream_from n (held ++ piece))) e

pub stream_whole : (whole held : List ℕ) (fs : List Frame) (x : Cut whole fs held) → stream whole ≡ behind fs (stream_from x.size held)
stream_whole whole held fs x = ap (λ l. stream l) (sym (append-nil whole)) ∙ stream_begins whole held fs x [] ∙ ap (λ l. behind fs (stream_from x.size l)) (append-nil held)

-- a stream of these frames
abbrev pub frames_then : List Frame → Ending → Stream
frames_then fs ending = record { frames = fs; ending = ending }

ended : (whole held : List ℕ) (fs : List Frame) (x : Cut whole fs held) (j : Judged) (ending : Ending) → judged held ≡ j →
    goes_on x.size held j (λ body. stream_from (x.size + (12 + body)) (drop (12 + body) held)) ≡ frames_then [] ending → stream whole ≡ frames_then fs ending
ended whole held fs x j ending e f =
    stream_whole whole held fs x
    ∙ ap (λ s. behind fs s) (stream_goes_on x.size held ∙ ap (λ k. goes_on x.size held k (λ body. stream_from (x.size + (12 + body)) (drop (12 + body) held))) e ∙ f)
    ∙ ap (λ l. frames_then l ending) (append-nil fs)

-- where no more is whole
pub stream_rest : (whole held : List ℕ) (fs : List Frame) → Cut whole fs held → judged held ≡ NoneYet → stream whole ≡ frames_then fs (Rest (length held))
stream_rest whole held fs x e = ended whole held fs x NoneYet (Rest (length held)) e refl

-- where there is a fault
pub stream_fault : (whole held : List ℕ) (fs : List Frame) (x : Cut whole fs held) (f : FrameFault) → judged held ≡ Faulty f → stream whole ≡ frames_then fs (Fault x.size f)
stream_fault whole held fs x f e = ended whole held fs x (Faulty f) (Fault x.size f) e refl

-- the frames are the same wherever the stream begins
goes_frames : (at at' : ℕ) (bytes : List ℕ) (j : Judged) (f g : ℕ → Stream) → ((body : ℕ) → (f body).frames ≡ (g body).frames) → (goes_on at bytes j f).frames ≡ (goes_on at' bytes j g).frames
goes_frames at at' bytes NoneYet f g h = refl
goes_frames at at' bytes (Faulty fault) f g h = refl
goes_frames at at' bytes (Begins frame body) f g h = ap (λ l. frame ∷ l) (h body)

same_frames : (n at at' : ℕ) (bytes : List ℕ) → (stream_up_to n at bytes).frames ≡ (stream_up_to n at' bytes).frames
same_frames zero at at' bytes = refl
same_frames (suc n) at at' bytes = goes_frames at at' bytes (judged bytes) (λ body. stream_up_to n (at + (12 + body)) (drop (12 + body) bytes)) (λ body. stream_up_to n (at' + (12 + body)) (drop (12 + body) bytes))
    (λ body. same_frames n (at + (12 + body)) (at' + (12 + body)) (drop (12 + body) bytes))

pub frames_anywhere : (at : ℕ) (bytes : List ℕ) → (stream_from at bytes).frames ≡ (stream bytes).frames
frames_anywhere at bytes = same_frames (suc (length bytes)) at 0 bytes
