-- Frames that are met one behind another, and what is cut for that.
use Rattle.std.proofs.Common.{◌≡◌, ℕ, ◌+◌, List, [], ◌∷◌, ◌++◌, map, Some, Ok, refl, sym, ap, ◌∙◌, subst, arith, append_assoc, append-nil, length-append, Bool, true, false, ◌<◌, ◌≤◌, ◌⊎◌, inr, ⊎_elim, None, nat_lt, ltb-true}
use Rattle.std.specs.Prelude.{Option, option_map, ◌&&◌}
use Rattle.corr_core.specs.IdSlotWord.{Parts, parts}
use Rattle.corr_core.specs.IdRangeVersions.{is_early}
use Rattle.corr_id.specs.SeatBehindIdCalls.{Quiet, Found, FoundNow}
use Rattle.corr_id.specs.LocksByAttempt.{LacksAttempt}
use Rattle.brpc_model.specs.Frame.{Judged, NoneYet, Faulty, judged}
use Rattle.prpc_frame.specs.CutterAnswers.{Fed, IsFaulty}
use Rattle.std.proofs.lemmas.List.{map-append}
use Rattle.brpc_model.specs.Frame as model
use Rattle.brpc_model.specs.FrameStream.{stream_from}
use Rattle.prpc_frame.specs.StreamCuts.{Cut, behind}
use Rattle.prpc_frame.specs.CutterAnswerLeads.{Leads}
use Rattle.prpc_frame.specs.FrameMeaning.{frame_of}
use Rattle.prpc_frame.specs.declared.frame.Frame.{Frame}
use Rattle.prpc_frame.proofs.StreamCuts.{cut_none, cut_next, cut_more}
use Rattle.rpc_reader.specs.ReaderBooks.{Books}
use Rattle.rpc_reader.specs.Met.{has_response, slot_in, version_in, is_asked, is_for, KeptIf, MetIf, FrameMet, FramesMet, MetAll}

-- the same bytes with a piece behind them
pub cut_fed : (old held : List ℕ) (fs : List model.Frame) (piece : List ℕ) → Cut old fs held → Cut (old ++ piece) fs (held ++ piece)
cut_fed old held fs piece c = record {
  size = c.size;
  sized = omega (arith, c.sized, length-append old piece, length-append held piece);
  leads = λ at more. ap (stream_from at) (append_assoc old piece more) ∙ c.leads at (piece ++ more) ∙ ap (λ l. behind fs (stream_from (at + c.size) l)) (sym (append_assoc held piece more));
}

module _ (slots : ℕ) where
  pub frames_append : (fs gs : List Frame) (b m b' : Books) → FramesMet slots fs b m → FramesMet slots gs m b' → FramesMet slots (fs ++ gs) b b'
  frames_append [] gs b m b' x y = subst (λ (n : Books). FramesMet slots gs n b') x y
  frames_append (f ∷ fs) gs b m b' x y = (x.0, x.1, frames_append fs gs x.0 m b' x.2 y)

  pub met_none : (bytes : List ℕ) (b : Books) → MetAll slots bytes bytes b b
  met_none bytes b = record { frames = []; cut = cut_none bytes; met = refl }

  -- one frame more
  pub met_next : (bytes held new : List ℕ) (b m b' : Books) (f : Frame) (there : Option Frame) → MetAll slots bytes held b m → there ≡ Some f → ((at : ℕ) (more : List ℕ) → Leads at more held (Ok there) new) → FrameMet slots f m b' → MetAll slots bytes new b b'
  met_next bytes held new b m b' f there a is leads met = record {
    frames = a.frames ++ f ∷ [];
    cut = subst (λ (l : List model.Frame). Cut bytes l new) (sym (map-append frame_of a.frames (f ∷ []))) (cut_next bytes held new (map frame_of a.frames) f there a.cut is leads);
    met = frames_append a.frames (f ∷ []) b m b' a.met (b', met, refl);
  }

  -- what was left, with a piece behind it
  pub met_then : (bytes held piece left : List ℕ) (b m b' : Books) → MetAll slots bytes held b m → MetAll slots (held ++ piece) left m b' → MetAll slots (bytes ++ piece) left b b'
  met_then bytes held piece left b m b' x y = record {
    frames = x.frames ++ y.frames;
    cut = subst (λ (l : List model.Frame). Cut (bytes ++ piece) l left) (sym (map-append frame_of x.frames y.frames)) (cut_more (bytes ++ piece) (held ++ piece) left (map frame_of x.frames) (map frame_of y.frames) (cut_fed bytes held (map frame_of x.frames) piece x.cut) y.cut);
    met = frames_append x.frames y.frames b m b' x.met y.met;
  }

  -- nothing more came
  pub met_same : (bytes : List ℕ) (b : Books) → MetAll slots (bytes ++ []) bytes b b
  met_same bytes b = subst (λ (l : List ℕ). MetAll slots l bytes b b) (sym (append-nil bytes)) (met_none bytes b)

-- a piece that was fed behind bytes that have no fault
pub fed_is : (old piece new : List ℕ) → judged old ≡ NoneYet → Fed old piece new → new ≡ old ++ piece
fed_is old piece new e fed = ⊎_elim (λ x. x) (λ x. absurd (subst IsFaulty e x.0)) fed

-- a fault is one of the bytes
pub faulty : (o : Option model.FrameFault) (j : Judged) → option_map (λ f. Faulty f) o ≡ Some j → (f : model.FrameFault) × (j ≡ Faulty f)
faulty None j e = absurd (cc)
faulty (Some f) j e = (f, cc)

-- what was asked of a response that is in the table
both : (b c : Bool) → (b && c) ≡ true → (b ≡ true) × (c ≡ true)
both true c e = (refl, e)
both false c e = absurd (cc)

pub asked_inside : (slots : ℕ) (f : Frame) → is_asked slots f ≡ true → slot_in f < slots
asked_inside slots f e = ltb-true (slot_in f) slots (both (has_response f.meta.response) (nat_lt (slot_in f) slots) e).1

pub asked_responds : (slots : ℕ) (f : Frame) → is_asked slots f ≡ true → has_response f.meta.response ≡ true
asked_responds slots f e = (both (has_response f.meta.response) (nat_lt (slot_in f) slots) e).0

pub for_responds : (slot : ℕ) (w : Parts) (f : Frame) → is_for slot w f ≡ true → has_response f.meta.response ≡ true
for_responds slot w f e = (both (has_response f.meta.response) _ e).0

-- the word that was found lacks the version
pub lacked : (slots word : ℕ) (f : Frame) (b b' : Books) → is_asked slots f ≡ true → Quiet b.view b'.view × (((slots ≤ slot_in f) × (word ≡ 0)) ⊎ (Found (slot_in f) word b'.view × LacksAttempt (parts word) (version_in f)))
    → (slot_in f < slots → FoundNow (slot_in f) word b.view b'.view) → b'.told ≡ b.told → KeptIf (is_early (version_in f) (parts word)) f b.early b.starved b'.early b'.starved → FrameMet slots f b b'
lacked slots word f b b' e gone now told kept = subst (λ (y : Bool). MetIf y slots f b b') (sym e)
    (⊎_elim (λ x. let within = asked_inside slots f e in let past = x.0 in absurd (omega arith)) (λ x. inr record { quiet = gone.0; word = word; found = x.0; now = now (asked_inside slots f e); lacks = x.1; told = told; kept = kept }) gone.1)

pub stops_faulty : (o : Option model.FrameFault) (old new : List ℕ) → option_map (λ f. Faulty f) o ≡ Some (judged old) → new ≡ old → (f : model.FrameFault) × (judged new ≡ Faulty f)
stops_faulty o old new is same = let f = faulty o (judged old) is in (f.0, ap judged same ∙ f.1)
