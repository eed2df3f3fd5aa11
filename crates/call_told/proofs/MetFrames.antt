-- Where a reading ended with 1014 each frame of what the link gave was met; and which of them are responses of a lock's range.
use Rattle.std.proofs.Common.{◌≡◌, ℕ, zero, suc, ◌+◌, ◌*◌, ◌<◌, ◌≤◌, Bool, true, false, List, [], ◌∷◌, ◌++◌, append-nil, map, Some, None, ◌-◌, eq-eqb, ne_eqb, lt-ltb, refl, sym, ap, ◌∙◌, subst, arith}
use Rattle.std.specs.Prelude.{Option, IsSome, option_map, slice_get, not, ◌&&◌}
use Rattle.std.proofs.lemmas.Nat.{div-add-mod'}
use mathlib.Core.Option.{some}
use lib.ListN.{get_elem?}
use Rattle.sock_words.specs.ErrorCodes.{EEOF}
use Rattle.brpc_model.specs.Frame as model
use Rattle.brpc_model.specs.Frame.{NoneYet, judged}
use Rattle.brpc_model.specs.FrameStream.{Stream, stream}
use Rattle.sock_io.specs.LinkHalves.{InState}
use Rattle.sock_io.specs.declared.link.Take.{Take}
use Rattle.corr_core.specs.IdSlotWord.{Parts}
use Rattle.corr_core.specs.declared.marks.Plan.{Plan}
use Rattle.prpc_frame.specs.FrameMeaning.{frame_of}
use Rattle.prpc_frame.specs.declared.frame.Frame.{Frame}
use Rattle.rpc_meta.specs.MetaMeaning.{response_of}
use Rattle.rpc_meta.specs.declared.meta.ResponseMeta.{ResponseMeta}
use Rattle.prpc_frame.proofs.StreamCuts.{stream_rest}
use Rattle.call_deeds.specs.Below.RpcReader.ReaderBooks.{Books}
use Rattle.call_deeds.specs.Below.RpcReader.Met.{has_response, slot_in, version_in, is_asked, is_for}
use Rattle.call_deeds.specs.Below.RpcReader.LinkReading.{code_of, EndsBy}
use Rattle.call_deeds.specs.Below.RpcReader.ReadingTakeByTake.{bytes_of}
use Rattle.call_deeds.specs.Below.RpcReader.ReaderRunFromOpen.{throws, ReadLink}
use Rattle.call_deeds.specs.Below.RpcReader.How.{How}
use Rattle.call_deeds.specs.Below.RpcReader.HowVariants as how
use Rattle.corr_core.specs.IdSlotWord.{parts}
use Rattle.corr_core.specs.IdSlotLaw.{is_ended}
use Rattle.corr_core.specs.declared.marks.Note.{Note}
use Rattle.corr_core.specs.declared.marks.Noted.{Noted}
use Rattle.corr_core.specs.declared.marks.Kept.{Kept}
use Rattle.corr_core.specs.declared.marks.View.{View}
use Rattle.corr_id.specs.ClosingIdLists.{Closing}
use Rattle.corr_id.specs.SeatBehindIdCalls.{Found, HasId}
use Rattle.id_rule.specs.LawfulIdTable.{notes_of}
use Rattle.sock_message.specs.Asked.{Asked}
use Rattle.call_told.proofs.Gains.{thrown_none}
use Rattle.call_told.proofs.GivenResponseFrames.{for_is}
use Rattle.call_told.proofs.CallsEndedBehindLinks.{read_bytes}
use Rattle.call_told.proofs.MetResponses.{HasEnded}
use Rattle.call_told.proofs.EndedCallsUnanswered.{EndOf, WasMet, twice_never, ended_never}
use Rattle.sock_words.specs.Totals.{total}

-- ## Each frame

-- no whole frame is left, and no fault
pub ends_whole : (h : How) (ending : Bool) (answer : Take) (left : List ℕ) (total : ℕ) → code_of h ≡ EEOF → EndsBy ending h answer left total → judged left ≡ NoneYet
ends_whole how.Empty ending answer left total e x = x.2
ends_whole how.Fault ending answer left total e x = absurd (omega (arith, e))
ends_whole how.NoMemory ending answer left total e x = absurd (omega (arith, e))
ends_whole _ ending answer left total e x = x.1

mapped_at : (fs : List Frame) (n : ℕ) (x : model.Frame) → slice_get (map frame_of fs) n ≡ Some x → (f : Frame) × (get_elem? fs n ≡ some f) × (frame_of f ≡ x)
mapped_at [] n x e = absurd (cc)
mapped_at (f ∷ fs) zero x e = (f, refl, cc)
mapped_at (f ∷ fs) (suc n) x e = mapped_at fs n x e

module _ (q : Plan) (link : ℕ) (calls : List ℕ) (ending : Bool) (s t : InState) (b b' : Books) (r : ReadLink q link calls ending false s t b b') where
  -- each frame of the bytes that were cut was met
  cut_there : code_of r.how ≡ EEOF → (n : ℕ) (x : model.Frame) → slice_get (stream (bytes_of (r.read.earlier ++ r.read.last ∷ []))).frames n ≡ Some x → (f : Frame) × (get_elem? r.read.met.frames n ≡ some f) × (frame_of f ≡ x)
  cut_there e n x at =
      let none_ = ends_whole r.how ending r.read.last.answer r.read.left r.total e r.read.ends in
      let whole = stream_rest (bytes_of (r.read.earlier ++ r.read.last ∷ [])) r.read.left (map frame_of r.read.met.frames) r.read.met.cut none_ in
      mapped_at r.read.met.frames n x (sym (ap (λ (y : Stream). slice_get y.frames n) whole) ∙ at)

-- behind a reading that ended so nothing is thrown away
throws_none : (h : How) → code_of h ≡ EEOF → throws h ≡ false
throws_none how.Fault e = absurd (omega (arith, e))
throws_none how.NoMemory e = absurd (omega (arith, e))
throws_none other e = refl

module _ (q : Plan) (link : ℕ) (calls : List ℕ) (ending : Bool) (s t : InState) (b b' : Books) (r : ReadLink q link calls ending false s t b b') where
  -- so each frame of what the link gave was met
  frame_there : code_of r.how ≡ EEOF → (n : ℕ) (x : model.Frame) → slice_get (stream (read_bytes q link calls ending false s t b b' r)).frames n ≡ Some x → (f : Frame) × (get_elem? r.read.met.frames n ≡ some f) × (frame_of f ≡ x)
  frame_there e n x at =
      let met = bytes_of (r.read.earlier ++ r.read.last ∷ []) in
      let all : read_bytes q link calls ending false s t b b' r ≡ met = ap (λ (l : List ℕ). met ++ l) (thrown_none (throws r.how) ending r.total r.between t r.thrown (throws_none r.how e)) ∙ append-nil met in
      cut_there q link calls ending s t b b' r e n x (sym (ap (λ (l : List ℕ). slice_get (stream l).frames n) all) ∙ at)

-- ## Responses of a range

responds_so : (o : Option ResponseMeta) → IsSome (option_map response_of o) → has_response o ≡ true
responds_so None h = h
responds_so (Some r) h = refl

-- the correlation id of an attempt of the id of a range
parted : (slot first d c : ℕ) → first + d < 4294967296 → c ≡ slot * 4294967296 + first + d → (slot_at : ℕ) (version : ℕ) → slot_at * 4294967296 + version ≡ c → version < 4294967296 → (slot_at ≡ slot) × (version ≡ first + d)
parted slot first d c low is slot_at version whole below = (omega arith, omega arith)

pub is_response : (slot id : ℕ) (w : Parts) (f : Frame) → IsSome (frame_of f).meta.response → id ≡ slot * 4294967296 + w.first → id < f.meta.correlation_id → f.meta.correlation_id < id + w.range → w.first + w.range ≤ 4294967296 → 0 < w.state → is_for slot w f ≡ true
is_response slot id w f responds is above below low taken =
    let c = f.meta.correlation_id in
    let p = parted slot w.first (c - id) c (omega arith) (omega arith) (slot_in f) (version_in f) (div-add-mod' c 4294967296) (omega arith) in
    let a = responds_so f.meta.response responds in
    let slot_same = eq-eqb (slot_in f) slot p.0 in
    let some_state = ne_eqb w.state 0 (λ z. omega (arith, z, taken)) in
    let v = p.1 in
    let from = lt-ltb w.first (version_in f) (omega (arith, v, above)) in let to = lt-ltb (version_in f) (w.first + w.range) (omega (arith, v, above, below)) in
    λ k. a k && (slot_same k && (not (some_state k) && (from k && to k)))

pub is_in_table : (slots : ℕ) (f : Frame) (slot : ℕ) (w : Parts) → slot < slots → is_for slot w f ≡ true → slot_in f ≡ slot → has_response f.meta.response ≡ true → is_asked slots f ≡ true
is_in_table slots f slot w inside is at responds = λ k. responds k && lt-ltb (slot_in f) slots (omega (arith, at, inside)) k

-- ## What a reading that ended with 1014 tells of responses

-- a frame of these bytes is a response of a range
abbrev pub Responds : ℕ → ℕ → ℕ → List ℕ → Type 0
Responds slot first range bytes = (n : ℕ) × (x : model.Frame) × (slice_get (stream bytes).frames n ≡ Some x) × IsSome x.meta.response × (slot * 4294967296 + first < x.meta.correlation_id) × (x.meta.correlation_id < slot * 4294967296 + first + range)

module _ (q : Plan) (link : ℕ) (calls : List ℕ) (ending : Bool) (s t : InState) (b b' : Books) (r : ReadLink q link calls ending false s t b b') (ended : code_of r.how ≡ EEOF)
    (notes : List (Noted Asked)) (kept : List Kept) (words : List ℕ) (closed : Closing q notes kept words) (noted : (j : ℕ) (g : Note Asked → ℕ) → total g (notes_of j b'.view.notes) ≤ total g (notes_of j notes)) where
  abbrev bytes : List ℕ
  bytes = read_bytes q link calls ending false s t b b' r

  -- it was met
  met_so : (slot : ℕ) (w : Parts) → slot < q.slots → 0 < w.state → w.first + w.range ≤ 4294967296 → Responds slot w.first w.range bytes → (f : Frame) × WasMet q link calls ending s t b b' r f × (is_for slot w f ≡ true)
  met_so slot w inside taken low a =
      let m = frame_there q link calls ending s t b b' r ended a.0 a.1 a.2 in
      let responds : IsSome (frame_of m.0).meta.response = subst (λ (x : model.Frame). IsSome x.meta.response) (sym m.2) a.3 in
      let same : m.0.meta.correlation_id ≡ a.1.meta.correlation_id = ap (λ (x : model.Frame). x.meta.correlation_id) m.2 in
      let is = is_response slot (slot * 4294967296 + w.first) w m.0 responds refl (let above = a.4 in omega (arith, same, above)) (let below = a.5 in omega (arith, same, below)) low taken in
      (m.0, (a.0, m.1, is_in_table q.slots m.0 slot w inside is (for_is slot w m.0 is).0 (responds_so m.0.meta.response responds)), is)

  -- where a call was told to have ended with 1014, by a seat that had met what this reading did, the link gave no response of its range
  pub end_unanswered : (Given : Frame → Type 0) (asked : (f : Frame) → Given f → is_asked q.slots f ≡ true) → ((f : Frame) → WasMet q link calls ending s t b b' r f → Given f) → (v : View Asked) → ((j : ℕ) (g : Note Asked → ℕ) → total g (notes_of j v.notes) ≤ total g (notes_of j notes))
      → (id : ℕ) (h : EndOf q.slots Given asked v id) → h.w.first + h.w.range ≤ 4294967296 → Responds h.slot h.w.first h.w.range bytes → ⊥
  end_unanswered Given asked includes v inside id h low a =
      let state : h.w.state ≡ 2 = ap (λ (p : Parts). p.state) h.word_is in
      let m = met_so h.slot h.w h.inside (omega (arith, state)) low a in
      twice_never q notes kept words closed m.0 h.slot h.word h.w v h.inside inside h.found h.was_open h.word_is m.2 (h.alone m.0 (includes m.0 m.1) m.2)

  -- and so where an error waits at a word of the range, which another seat ended
  pub wait_unanswered : (slot word first : ℕ) → slot < q.slots → Found slot word b'.view → HasId (parts word) first → ((f : Frame) → WasMet q link calls ending s t b b' r f → is_for slot (parts word) f ≡ true → HasEnded f b'.view)
      → total (is_ended first) (notes_of slot b'.view.notes) + 1 ≤ total (is_ended first) (notes_of slot notes) → (parts word).first + (parts word).range ≤ 4294967296 → Responds slot (parts word).first (parts word).range bytes → ⊥
  wait_unanswered slot word first inside found has alone more low a =
      let m = met_so slot (parts word) inside has.1 low a in
      ended_never q notes kept words closed m.0 slot word first b'.view inside noted found has m.2 more (alone m.0 m.1 m.2)
