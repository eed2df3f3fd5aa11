-- Frames that are answered one behind another, and what that makes of the stream.
use Rattle.std.proofs.Common.{◌≡◌, ℕ, Bool, true, false, refl, ◌+◌, ◌<◌, List, [], ◌∷◌, ◌++◌, length, ap, sym, ◌∙◌, subst, arith, append_assoc, append-nil, length-append}
use Rattle.std.specs.Prelude.{flat_map, filter_map, option_map, Option, Some, None, Ok}
use Rattle.std.specs.List.{cons_option}
use Rattle.std.proofs.lemmas.Grind.{flat_map-append}
use Rattle.std.proofs.lemmas.List.Elements.{filter_map-append}
use Rattle.brpc_model.specs.Frame.{Frame, frame_bytes}
use Rattle.brpc_model.specs.Reply.{reply}
use Rattle.prpc_frame.specs.FrameMeaning.{frame_of}
use Rattle.prpc_frame.specs.declared.frame.Frame as code_
use Rattle.prpc_frame.specs.CutterAnswerLeads.{Leads}
use Rattle.prpc_frame.specs.StreamCuts.{Cut}
use Rattle.prpc_frame.proofs.StreamCuts.{cut_none, cut_next}
use Rattle.io_buf.specs.Buffer.{Buffer}
use Rattle.rpc_server.specs.HeldByConnection.{Held}
use Rattle.rpc_server.specs.Feeding.{replies_to, reply_bytes, Answered, Stopped}

-- the bytes of the reply that a frame has
pub reply_given : (f : Frame) (o : Option Buffer) (x : Buffer) → o ≡ Some x → option_map (λ (b : Buffer). b.items) o ≡ option_map frame_bytes (reply f) → x.items ≡ reply_bytes f
reply_given f o x is same = by_reply (reply f) (sym (ap (option_map (λ (b : Buffer). b.items)) is) ∙ same)
  where
    by_reply : (r : Option Frame) → Some x.items ≡ option_map frame_bytes r → x.items ≡ flat_map frame_bytes (cons_option r [])
    by_reply None e = absurd (cc)
    by_reply (Some g) e = let s : x.items ≡ frame_bytes g = cc in s ∙ sym (append-nil (frame_bytes g))

pub answered_none : (c : Held) (before : List ℕ) → Answered c c before before
answered_none c before = record { frames = []; cut = cut_none c.bytes; appended = sym (append-nil before); counted = omega arith }

-- one frame more
pub answered_next : (c l n : Held) (before now then_ new : List ℕ) (f : code_.Frame) (there : Option code_.Frame) → Answered c l before now → there ≡ Some f → ((at : ℕ) (more : List ℕ) → Leads at more l.bytes (Ok there) new) → n.bytes ≡ new
    → n.made ≡ l.made + length (replies_to (frame_of f)) → then_ ≡ now ++ reply_bytes (frame_of f) → Answered c n before then_
answered_next c l n before now then_ new f there a is leads bytes counted appended =
    let fs : List Frame = a.frames ++ frame_of f ∷ [] in let split = filter_map-append reply a.frames (frame_of f ∷ []) in record {
      frames = fs;
      cut = subst (Cut c.bytes fs) (sym bytes) (cut_next c.bytes l.bytes new a.frames f there a.cut is leads);
      appended = appended ∙ ap (λ x. x ++ reply_bytes (frame_of f)) a.appended ∙ append_assoc before (flat_map frame_bytes (filter_map reply a.frames)) (reply_bytes (frame_of f))
          ∙ ap (λ x. before ++ x) (sym (flat_map-append frame_bytes (filter_map reply a.frames) (replies_to (frame_of f))) ∙ ap (flat_map frame_bytes) (sym split));
      counted = omega (arith, counted, a.counted, ap length split, length-append (filter_map reply a.frames) (replies_to (frame_of f)));
    }

pub shorter : (old new : List ℕ) (f : code_.Frame) (there : Option code_.Frame) → there ≡ Some f → ((at : ℕ) (more : List ℕ) → Leads at more old (Ok there) new) → length new < length old
shorter old new f there is leads = let P : Option code_.Frame → Type 0 = λ t. (at : ℕ) (more : List ℕ) → Leads at more old (Ok t) new in (subst P is leads 0 []).0

-- memory ran out behind these frames
pub stopped_at : (c l : Held) (before now then_ : List ℕ) → Answered c l before now → then_ ≡ now → Stopped c before then_
stopped_at c l before now then_ a same = record { frames = a.frames; left = l.bytes; cut = a.cut; appended = same ∙ a.appended }

-- where no fault was told now, none was told before
pub untold : (b : Bool) → (b ≡ true → false ≡ true) → b ≡ false
untold true again = sym (again refl)
untold false again = refl

-- the frames were answered also where what is held is the same by its bytes and its count
pub answered_same : (c l n : Held) (before now : List ℕ) → Answered c l before now → n.bytes ≡ l.bytes → n.made ≡ l.made → Answered c n before now
answered_same c l n before now a bytes made = record { frames = a.frames; cut = subst (Cut c.bytes a.frames) (sym bytes) a.cut; appended = a.appended; counted = made ∙ a.counted }
