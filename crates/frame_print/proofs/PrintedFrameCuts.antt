-- Frames that are cut off the front of a stream, one behind another.
use Rattle.std.proofs.Common.{◌≡◌, ℕ, ◌+◌, ◌-◌, ◌<◌, inl, inr, List, [], ◌∷◌, ◌++◌, length, Option, Some, None, option_map, refl, ap, sym, ◌∙◌, subst, arith, append_assoc, append-nil, length-append}
use Rattle.std.specs.Prelude.{flat_map}
use Rattle.std.specs.Io.KnownBytes.{Appends}
use Rattle.std.proofs.lemmas.Grind.{flat_map-append}
use Rattle.brpc_model.specs.Frame.{Frame, FrameFault, Judged, NoneYet, Faulty, judged}
use Rattle.brpc_model.specs.FrameStream.{with_frame, stream_from}
use Rattle.brpc_model.specs.FramesText.{frame_line}
use Rattle.prpc_frame.specs.CutterAnswers as cutter
use Rattle.prpc_frame.proofs.StreamCuts.{cut_none, cut_one, cut_more}
use Rattle.frame_print.specs.Cutting.{CutPrinted}
use Rattle.prpc_frame.specs.StreamCuts.{behind, Cut}
use Rattle.frame_print.proofs.SuccessiveTextWriting.{Appends-nil, Appends-append}

pub printed_none : (bytes : List ℕ) (o : Option (List ℕ)) → CutPrinted bytes o bytes o
printed_none bytes o = record { frames = []; cut = cut_none bytes; wrote = Appends-nil o }

pub lines_more : (o p q : Option (List ℕ)) (fs gs : List Frame) → Appends o p (flat_map frame_line fs) → Appends p q (flat_map frame_line gs) → Appends o q (flat_map frame_line (fs ++ gs))
lines_more o p q fs gs f g =
    let P : List ℕ → Type 0 = λ l. Appends o q l in
    subst P (sym (flat_map-append frame_line fs gs)) (Appends-append o p q (flat_map frame_line fs) (flat_map frame_line gs) f g)

pub printed_more : (a b d : List ℕ) (o p q : Option (List ℕ)) → CutPrinted a o b p → CutPrinted b p d q → CutPrinted a o d q
printed_more a b d o p q x y = record { frames = x.frames ++ y.frames; cut = cut_more a b d x.frames y.frames x.cut y.cut; wrote = lines_more o p q x.frames y.frames x.wrote y.wrote }

-- the frame at the front
pub printed_one : (a b d : List ℕ) (o p q : Option (List ℕ)) (f : Frame) → CutPrinted a o b p →
    ((at : ℕ) (more : List ℕ) → (length d < length b) × (stream_from at (b ++ more) ≡ with_frame f (stream_from (at + (length b - length d)) (d ++ more)))) →
    Appends p q (frame_line f) → CutPrinted a o d q
printed_one a b d o p q f x h w =
    let P : List ℕ → Type 0 = λ l. Appends p q l in
    printed_more a b d o p q x (record { frames = f ∷ []; cut = cut_one b d f h; wrote = subst P (sym (append-nil (frame_line f))) w })

-- ## A piece that is fed

fed_length : (held piece new : List ℕ) → judged held ≡ NoneYet → cutter.Fed held piece new → length new ≡ length held + length piece
fed_length held piece new e (inl f) = ap length f ∙ length-append held piece
fed_length held piece new e (inr f) = let P : Judged → Type 0 = λ j. cutter.IsFaulty j in absurd (subst P e f.0)

cut_fed : (whole held piece new : List ℕ) (fs : List Frame) → Cut whole fs held → judged held ≡ NoneYet → cutter.Fed held piece new →
    ((at : ℕ) (more : List ℕ) → stream_from at (new ++ more) ≡ stream_from at (held ++ (piece ++ more))) → Cut (whole ++ piece) fs new
cut_fed whole held piece new fs x e fed goes = record {
  size = x.size;
  sized = omega (arith, length-append whole piece, x.sized, fed_length held piece new e fed);
  leads = λ at more.
      ap (λ l. stream_from at l) (append_assoc whole piece more) ∙ x.leads at (piece ++ more) ∙ ap (λ s. behind fs s) (sym (goes (at + x.size) more));
}

pub printed_fed : (whole held piece new : List ℕ) (o p : Option (List ℕ)) → CutPrinted whole o held p → judged held ≡ NoneYet → cutter.Fed held piece new →
    ((at : ℕ) (more : List ℕ) → stream_from at (new ++ more) ≡ stream_from at (held ++ (piece ++ more))) → CutPrinted (whole ++ piece) o new p
printed_fed whole held piece new o p x e fed goes = record { frames = x.frames; cut = cut_fed whole held piece new x.frames x.cut e fed goes; wrote = x.wrote }

-- the fault that is meant
pub fault_meant : (o : Option FrameFault) (j : Judged) → option_map (λ f. Faulty f) o ≡ Some j → (f : FrameFault) × (o ≡ Some f) × (j ≡ Faulty f)
fault_meant None j e = absurd (cc)
fault_meant (Some f) j e = (f, refl, cc)
