-- A call that whoever read the links ended with 1014 had no response that the seat met: it would have ended the call's range twice.
use Rattle.std.proofs.Common.{◌≡◌, ℕ, zero, suc, ◌+◌, ◌<◌, ◌≤◌, ◌⊎◌, inl, inr, ⊎_elim, Bool, true, false, cond, eq-eqb, List, [], ◌∷◌, ◌++◌, append_assoc, append-nil, Some, None, pos, negsuc, refl, sym, ap, ◌∙◌, subst, arith}
use Rattle.std.specs.Prelude.{Option, ℤ, position, ◌==◌}
use Rattle.std.specs.List.{AllByRecursion, remove}
use Rattle.sock_words.specs.ErrorCodes.{EEOF, ERESPONSE}
use Rattle.sock_words.specs.PackedWords.{at_word_link, id_slot}
use Rattle.sock_words.specs.declared.at_word.AtWord.{AtWord}
use Rattle.sock_words.specs.declared.outcome.Outcome.{Outcome}
use Rattle.sock_words.specs.declared.outcome.Outcome.TheVariants.{CallFailed}
use Rattle.corr_core.specs.IdSlotWord.{Parts, parts, locked_word}
use Rattle.corr_core.specs.IdSlotLaw.{only, is_ended}
use Rattle.corr_core.specs.declared.marks.Note.{Note}
use Rattle.corr_core.specs.declared.marks.Note.TheVariants.{Ended}
use Rattle.corr_core.specs.declared.marks.Plan.{Plan}
use Rattle.corr_core.specs.declared.marks.View.{View}
use Rattle.id_rule.specs.LawfulIdTable.{at_index, notes_of, with_kept}
use Rattle.corr_id.specs.declared.posts.Posted.{Posted}
use Rattle.corr_id.specs.declared.posts.Posted.TheVariants.{Locked as HasLock}
use Rattle.corr_id.specs.SeatBehindIdCalls.{Became, one, is_saw, Found, GotLock, HasId}
use Rattle.corr_id.specs.PostAnswers.{PostOk}
use Rattle.corr_id.specs.ClosingIdLists.{Closing}
use Rattle.corr_core.specs.declared.marks.Noted.{Noted}
use Rattle.corr_core.specs.declared.marks.Kept.{Kept}
use Rattle.corr_core.proofs.NoteSums.{only-same}
use Rattle.sock_io.specs.LinkHalves.{InState}
use mathlib.Core.Logic.{dite}
use mathlib.Core.Option.{some}
use native.Mathlib.Decide.{ℕ_discrete}
use lib.ListN.{get_elem?}
use Rattle.std.proofs.lemmas.Bool.{cases_lt}
use Rattle.corr_id.proofs.TokensOfIdCalls.{became_grows}
use Rattle.sock_message.specs.Asked.{Asked}
use Rattle.sock_message.specs.brpc_model.specs.Frame as model
use Rattle.sock_message.specs.brpc_model.specs.Meta.{ResponseMeta}
use Rattle.sock_message.specs.brpc_model.specs.ResponseOutcome.{by_code, outcome_by, ending_of}
use Rattle.prpc_frame.specs.FrameMeaning.{frame_of}
use Rattle.prpc_frame.specs.declared.frame.Frame.{Frame}
use Rattle.call_deeds.specs.Below.RpcClient.Told.{Told}
use Rattle.call_deeds.specs.Below.RpcReader.ReaderBooks.{Books, ToldBy, id_of}
use Rattle.call_deeds.specs.Below.RpcReader.Met.{slot_in, version_in, is_asked, is_for, MetIf, FramesMet}
use Rattle.call_deeds.specs.Below.RpcReader.PostingAtReadingEnd.{LostBy, LockLost, PostedTo, PostedIf, PostedAt, PostedAll, call_at, attempt_at}
use Rattle.call_deeds.specs.Below.RpcReader.ReaderRunFromOpen.{ReadLink}
use Rattle.call_deeds.specs.Below.RpcReader.LinkReading.{code_of}
use Rattle.call_deeds.specs.Below.RpcReader.CallsLeftAfterReading.{HadEnded, EndedLast, OneEnded, RestEnded}
use Rattle.call_told.proofs.GivenResponseFrames.{for_is}
use Rattle.call_told.proofs.ListElementsByPlace.{all_both, all_then}
use Rattle.call_told.proofs.MetResponses.{NotesGrow, HasEnded, IsMet, Goes, met_still, goes_view, same_notes, post_grows, posted_goes, all_goes, one_goes, rest_goes, lost_met, frames_goes, frames_met}
use Rattle.sock_words.specs.Totals.{total}

-- ## No response ends a call with 1014

failed_with : (id i : ℕ) → CallFailed id ERESPONSE ≡ CallFailed i EEOF → ⊥
failed_with id i e = let k : ERESPONSE ≡ EEOF = cc in omega (arith, k)

coded : (id i : ℕ) (f : model.Frame) (code : ℤ) → by_code id f code ≡ CallFailed i EEOF → ⊥
coded id i f (pos zero) e = cc
coded id i f (pos (suc n)) e = cc
coded id i f (negsuc n) e = cc

no_response : (id i : ℕ) (f : model.Frame) → ending_of id f ≡ CallFailed i EEOF → ⊥
no_response id i f e = by f.meta.compress_type f.meta.response e
  where
    by : (z : ℤ) (o : Option ResponseMeta) → outcome_by id f z o ≡ CallFailed i EEOF → ⊥
    by (pos zero) (Some r) h = coded id i f r.code h
    by (pos zero) None h = failed_with id i h
    by (pos (suc n)) o h = failed_with id i h
    by (negsuc n) o h = failed_with id i h

-- ## Ends with the code

-- a range with the response's version was ended, apart from the end of the range that begins here
pub record Twice (f : Frame) (slot first : ℕ) (v : View Asked) : Type 0 where
  pub word : ℕ
  pub found : Found slot word v
  pub taken : 0 < (parts word).state
  pub from : (parts word).first < version_in f
  pub below : version_in f < (parts word).first + (parts word).range
  pub noted : 1 + only (parts word).first first ≤ total (is_ended (parts word).first) (notes_of slot v.notes)

module _ (slots : ℕ) (Given : Frame → Type 0) (asked : (f : Frame) → Given f → is_asked slots f ≡ true) where
  abbrev pub AllMet : Books → Type 0
  AllMet b = (f : Frame) → Given f → IsMet f b

  pub all_met : (b b' : Books) → Goes slots b b' → AllMet b → AllMet b'
  all_met b b' g a f given = met_still slots f b b' (asked f given) g (a f given)

  -- the call with this id ended with 1014 by a lock of its open range: a given response of the range came behind another end of it
  pub record EndOf (v : View Asked) (id : ℕ) : Type 0 where
    pub slot : ℕ
    pub inside : slot < slots
    pub w : Parts
    pub low : w.first < 4294967296
    pub id_is : id ≡ id_of slot w
    pub word : ℕ
    pub found : Found slot word v
    pub was_open : (parts word).state ≡ 1
    pub word_is : w ≡ locked_word (parts word)
    pub alone : (f : Frame) → Given f → is_for slot w f ≡ true → Twice f slot w.first v

  abbrev pub CodeEnd : View Asked → Told → Type 0
  CodeEnd v x = (id : ℕ) → x.outcome ≡ CallFailed id EEOF → EndOf v id

  twice_still : (f : Frame) (slot first : ℕ) (v w : View Asked) → NotesGrow v w → Twice f slot first v → Twice f slot first w
  twice_still f slot first v w grows t = record {
    word = t.word;
    found = (let a = grows slot (is_saw t.word) in let b = t.found in omega (arith, a, b));
    taken = t.taken;
    from = t.from;
    below = t.below;
    noted = (let a = grows slot (is_ended (parts t.word).first) in let b = t.noted in omega (arith, a, b));
  }

  end_still : (v w : View Asked) → NotesGrow v w → (x : Told) → CodeEnd v x → CodeEnd w x
  end_still v w grows x e id is = let h = e id is in record {
    slot = h.slot;
    inside = h.inside;
    w = h.w;
    low = h.low;
    id_is = h.id_is;
    word = h.word;
    found = (let a = grows h.slot (is_saw h.word) in let b = h.found in omega (arith, a, b));
    was_open = h.was_open;
    word_is = h.word_is;
    alone = λ f given of. twice_still f h.slot h.w.first v w grows (h.alone f given of);
  }

  -- what is told more
  pub record TellsEnds (b b' : Books) : Type 0 where
    pub more : List Told
    pub told : b'.told ≡ b.told ++ more
    pub each : AllByRecursion (CodeEnd b'.view) more

  pub tells_then : (a b c : Books) → NotesGrow b.view c.view → TellsEnds a b → TellsEnds b c → TellsEnds a c
  tells_then a b c grows s t = record {
    more = s.more ++ t.more;
    told = t.told ∙ (ap (λ (l : List Told). l ++ t.more) s.told ∙ append_assoc a.told s.more t.more);
    each = all_both (CodeEnd c.view) s.more t.more (all_then (CodeEnd b.view) (CodeEnd c.view) s.more (end_still b.view c.view grows) s.each) t.each;
  }

  tells_none : (b b' : Books) → b'.told ≡ b.told → TellsEnds b b'
  tells_none b b' e = record { more = []; told = e ∙ sym (append-nil b.told); each = tt }

  tells_same : (b b' : Books) → b' ≡ b → TellsEnds b b'
  tells_same b b' e = tells_none b b' (ap (λ (x : Books). x.told) e)

  tells_one : (number : ℕ) (by : Outcome) (b b' : Books) → ToldBy number by b.told b.starved b'.told b'.starved → CodeEnd b'.view (record { number = number; outcome = by }) → TellsEnds b b'
  tells_one number by b b' (inl t) e = record { more = record { number = number; outcome = by } ∷ []; told = t.0; each = (e, tt) }
  tells_one number by b b' (inr t) e = tells_none b b' t.0

  -- ## Frames

  met_tells : (a : Bool) (f : Frame) (b b' : Books) → MetIf a slots f b b' → TellsEnds b b'
  met_tells true f b b' (inl a) = let by = ending_of (id_of (slot_in f) a.word) (frame_of f) in
      let t = tells_one a.call.operation by (record b { view = a.locked }) b' a.ended.told (λ id e. absurd (no_response (id_of (slot_in f) a.word) id (frame_of f) e)) in record { more = t.more; told = t.told; each = t.each }
  met_tells true f b b' (inr l) = tells_none b b' l.told
  met_tells false f b b' e = tells_same b b' e

  pub frames_tells : (fs : List Frame) (b b' : Books) → FramesMet slots fs b b' → TellsEnds b b'
  frames_tells [] b b' m = tells_same b b' m
  frames_tells (f ∷ fs) b b' m = tells_then b m.0 b' (frames_goes slots fs m.0 b' m.2).grows (met_tells (is_asked slots f) f b m.0 m.1) (frames_tells fs m.0 b' m.2)

  -- ## Codes

  module _ (code : ℕ) where
    ended_more : {n : ℕ} (slot first : ℕ) (g : ℕ) (v w : View Asked) → Became slot v w [] (one slot (Ended first n)) → total (is_ended g) (notes_of slot w.notes) ≡ only g first + total (is_ended g) (notes_of slot v.notes)
    ended_more {n} slot first g v w b = ap (λ l. total (is_ended g) (notes_of slot l)) b.notes ∙ ap (λ y. total (is_ended g) (cond y (Ended first n ∷ notes_of slot v.notes) (notes_of slot v.notes))) (eq-eqb slot slot refl)

    twice_ended : {n : ℕ} (f : Frame) (slot first : ℕ) (v w : View Asked) → slot_in f ≡ slot → Became slot v w [] (one slot (Ended first n)) → HasEnded f v → Twice f slot first w
    twice_ended {n} f slot first v w at b h = record {
      word = h.word;
      found = (let a = became_grows slot v w [] (one slot (Ended first n)) b slot (is_saw h.word) in let c = subst (λ (i : ℕ). Found i h.word v) at h.found in omega (arith, a, c));
      taken = h.taken;
      from = h.from;
      below = h.below;
      noted = (let a = ended_more slot first (parts h.word).first v w b in let c = subst (λ (i : ℕ). 0 < total (is_ended (parts h.word).first) (notes_of i v.notes)) at h.noted in omega (arith, a, c));
    }

    lost_tells : (slot : ℕ) → slot < slots → (w : Parts) → w.first < 4294967296 → (call : Asked) (u : View Asked) (word : ℕ) (b b' : Books) → GotLock slot u b.view word w call → AllMet b → (b.starved ≡ true → ⊥) → LockLost slot w call code b b' → TellsEnds b b'
    lost_tells slot inside w low call u word b b' got all calm lost = by (position (is_for slot w) b.early) refl lost
      where
        ids : (id : ℕ) → CallFailed (id_of slot w) code ≡ CallFailed id EEOF → id ≡ id_of slot w
        ids id e = cc

        by : (o : Option ℕ) → position (is_for slot w) b.early ≡ o → LostBy slot w call code o b b' → TellsEnds b b'
        by None none_ l = tells_one call.operation (CallFailed (id_of slot w) code) b b' l.0.told (λ id e. record {
          slot = slot;
          inside = inside;
          w = w;
          low = low;
          id_is = ids id e;
          word = word;
          found = (let a = became_grows slot b.view b'.view [] (one slot (Ended w.first w.attempt)) l.0.ended slot (is_saw word) in let c = got.found in omega (arith, a, c));
          was_open = got.was_open;
          word_is = got.word_is;
          alone = λ f given is. ⊎_elim (λ s. absurd (calm s)) (λ h. twice_ended f slot w.first b.view b'.view (for_is slot w f is).0 l.0.ended h) (lost_met slots code slot w call u word b f got none_ is (all f given));
        })
        by (Some i) some_ l = tells_one call.operation (ending_of (id_of slot w) (frame_of l.0)) b b' l.3.told (λ id e. absurd (no_response (id_of slot w) id (frame_of l.0) e))

    posted_to : (v : View Asked) (id : ℕ) (attempt : Option ℕ) (answer : Posted Asked) (b b' : Books) → PostOk slots v b.view id code attempt answer → AllMet b → (b.starved ≡ true → ⊥) → PostedTo code answer b b' → TellsEnds b b'
    posted_to v id attempt (HasLock k) b b' post all calm h = lost_tells k.slot post.1 (parts k.word.0) (let low = k.fits.low in omega (arith, low)) k.content v post.4.0 b b' post.4.1 all calm h
    posted_to v id attempt _ b b' post all calm h = tells_same b b' h

    -- told from a book that differs in its view and in what is kept
    from_other : (b c b' : Books) → c.told ≡ b.told → TellsEnds c b' → TellsEnds b b'
    from_other b c b' e t = record { more = t.more; told = t.told ∙ ap (λ (l : List Told). l ++ t.more) e; each = t.each }

    posted_tells : (a : Bool) (w : ℕ) (b b' : Books) → AllMet b → (b.starved ≡ true → ⊥) → PostedIf a slots code w b b' → TellsEnds b b'
    posted_tells false w b b' all calm h = tells_same b b' h
    posted_tells true w b b' all calm (inl m) = from_other b (record b { view = m.seen; early = remove b.early m.place }) b' refl (met_tells (is_asked slots m.frame) m.frame (record b { view = m.seen; early = remove b.early m.place }) b' m.met)
    posted_tells true w b b' all calm (inr h) = let u : Books = record b { view = h.seen } in
        from_other b u b' refl (posted_to b.view (call_at w) (attempt_at w) h.answer u b' h.posted (all_met b u (goes_view slots b h.seen (post_grows slots code b.view h.seen (call_at w) (attempt_at w) h.answer h.posted)) all) calm h.then_)

    at_tells : (p : Plan) → p.slots ≡ slots → (link operation : ℕ) (found : Option AtWord) (b b' : Books) → AllMet b → (b.starved ≡ true → ⊥) → PostedAt p link code operation found b b' → TellsEnds b b'
    at_tells p is link operation None b b' all calm h = tells_same b b' h.same
    at_tells p is link operation (Some w) b b' all calm h =
        let v = with_kept (at_index p operation) false w.0 b.view in let u : Books = record b { view = v } in
        from_other b u b' refl (posted_tells (at_word_link w.0 == link) w.0 u b' (all_met b u (goes_view slots b v (same_notes slots b.view v refl)) all) calm (subst (λ (n : ℕ). PostedIf (at_word_link w.0 == link) n code w.0 u b') is h))

    -- what a reader tells behind its reading, where memory was wanting nowhere
    pub all_tells : (p : Plan) → p.slots ≡ slots → (link : ℕ) (os : List ℕ) (b b' : Books) → AllMet b → (b'.starved ≡ true → ⊥) → PostedAll p link code os b b' → TellsEnds b b'
    all_tells p is link [] b b' all calm h = tells_same b b' h
    all_tells p is link (o ∷ os) b b' all calm h =
        let first = posted_goes slots code p is link o h.1.0 b h.0 h.1.1 in let rest = all_goes slots code p is link os h.0 b' h.2 in
        tells_then b h.0 b' rest.grows (at_tells p is link o h.1.0 b h.0 all (λ s. calm (rest.starved (first.starved s))) h.1.1) (all_tells p is link os h.0 b' (all_met b h.0 first all) calm h.2)

    -- ## What is left

    id_tells : (id : ℕ) (b b' : Books) → AllMet b → (b.starved ≡ true → ⊥) → HadEnded slots id b b' ⊎ EndedLast slots code id b b' → TellsEnds b b'
    id_tells id b b' all calm (inl h) = tells_none b b' (ap (λ (x : Books). x.told) h.same)
    id_tells id b b' all calm (inr l) = let u : Books = record b { view = l.locked } in from_other b u b' refl (lost_tells (id_slot id) l.inside l.word (let x = l.range.0 in omega (arith, x)) l.call b.view l.found u b' l.got (all_met b u (goes_view slots b l.locked l.got.did.grows) all) calm l.lost)

    one_tells : (p : Plan) → p.slots ≡ slots → (operation : ℕ) (b b' : Books) → AllMet b → (b.starved ≡ true → ⊥) → OneEnded p code operation b b' → TellsEnds b b'
    one_tells p is operation b b' all calm (inl n) = tells_none b b' (ap (λ (x : Books). x.told) n.same)
    one_tells p is operation b b' all calm (inr n) = let u : Books = record b { view = n.seen } in
        from_other b u b' refl (id_tells n.id u b' (all_met b u (goes_view slots b n.seen (same_notes slots b.view n.seen (ap (λ (v : View Asked). v.notes) n.kept))) all) calm (subst (λ (s : ℕ). HadEnded s n.id u b' ⊎ EndedLast s code n.id u b') is n.ends))

    -- and whoever ends the calls that are left
    pub rest_tells : (p : Plan) → p.slots ≡ slots → (os : List ℕ) (b b' : Books) → AllMet b → (b'.starved ≡ true → ⊥) → RestEnded p code os b b' → TellsEnds b b'
    rest_tells p is [] b b' all calm h = tells_same b b' h
    rest_tells p is (o ∷ os) b b' all calm h =
        let first = one_goes slots code p is o b h.0 h.1 in let rest = rest_goes slots code p is os h.0 b' h.2 in
        tells_then b h.0 b' rest.grows (one_tells p is o b h.0 all (λ s. calm (rest.starved (first.starved s))) h.1) (rest_tells p is os h.0 b' (all_met b h.0 first all) calm h.2)

-- ## A whole reading

module _ (q : Plan) (link : ℕ) (calls : List ℕ) (ending : Bool) (s t : InState) (b b' : Books) (r : ReadLink q link calls ending false s t b b') where
  -- a response of an id slot among the frames that were met
  abbrev pub WasMet : Frame → Type 0
  WasMet f = (n : ℕ) × (get_elem? r.read.met.frames n ≡ some f) × (is_asked q.slots f ≡ true)

  pub was_asked : (f : Frame) → WasMet f → is_asked q.slots f ≡ true
  was_asked f w = w.2

  pub read_met : AllMet q.slots WasMet was_asked r.met
  read_met f w = frames_met q.slots r.read.met.frames w.0 f b r.met w.1 w.2 r.read.met.met

  pub read_calm : b'.starved ≡ true → ⊥
  read_calm h = let z : true ≡ false = sym h ∙ (r.calm refl).0 in absurd (cc)

  -- they are met behind it too
  pub left_met : AllMet q.slots WasMet was_asked b'
  left_met = all_met q.slots WasMet was_asked r.met b' (all_goes q.slots (code_of r.how) q refl link calls r.met b' r.posted) read_met

  -- what was told of it
  pub read_tells : TellsEnds q.slots WasMet was_asked b b'
  read_tells = tells_then q.slots WasMet was_asked b r.met b' (all_goes q.slots (code_of r.how) q refl link calls r.met b' r.posted).grows (frames_tells q.slots WasMet was_asked r.read.met.frames b r.met r.read.met.met)
      (all_tells q.slots WasMet was_asked (code_of r.how) q refl link calls r.met b' read_met read_calm r.posted)

-- ## At the end

module _ (q : Plan) (notes : List (Noted Asked)) (kept : List Kept) (words : List ℕ) (closed : Closing q notes kept words) where
  -- words of a slot whose ranges have a version in common are of one range
  pub same_range : (i x y v : ℕ) → i < q.slots → 0 < total (is_saw x) (notes_of i notes) → 0 < (parts x).state → 0 < total (is_saw y) (notes_of i notes) → 0 < (parts y).state
      → (parts x).first < v → v < (parts x).first + (parts x).range → (parts y).first < v → v < (parts y).first + (parts y).range → (parts x).first ≡ (parts y).first
  same_range i x y v inside sx tx sy ty a b c d =
      let m = closed.range_is i x inside sx tx in let n = closed.range_is i y inside sy ty in
      dite (ℕ_discrete (parts x).first (parts y).first) (λ e. e) (λ ne. absurd (⊎_elim
      (λ lt. let z = closed.ranges_apart i (parts x).first (parts y).first (parts x).range (parts y).range m.1 n.1 m.0 n.0 inside m.2 n.2 lt in omega (arith, z, b, c))
      (λ ge. let z = closed.ranges_apart i (parts y).first (parts x).first (parts y).range (parts x).range n.1 m.1 n.0 m.0 inside n.2 m.2 (omega (arith, ge, ne)) in omega (arith, z, a, d))
      (cases_lt (parts x).first (parts y).first)))

  -- so no range was ended twice
  pub twice_never : (f : Frame) (slot word : ℕ) (w : Parts) (v : View Asked) → slot < q.slots → ((j : ℕ) (g : Note Asked → ℕ) → total g (notes_of j v.notes) ≤ total g (notes_of j notes)) → Found slot word v → (parts word).state ≡ 1 → w ≡ locked_word (parts word)
      → is_for slot w f ≡ true → Twice f slot w.first v → ⊥
  twice_never f slot word w v inside noted found open_ is_word is t =
      let first : w.first ≡ (parts word).first = ap (λ (p : Parts). p.first) is_word in let range : w.range ≡ (parts word).range = ap (λ (p : Parts). p.range) is_word in
      let a = for_is slot w f is in let from = a.1 in let below = a.2 in
      let sx = noted slot (is_saw t.word) in let sy = noted slot (is_saw word) in
      let fx = t.found in
      let same = same_range slot t.word word (version_in f) inside (omega (arith, sx, fx)) t.taken (omega (arith, sy, found)) (omega (arith, open_)) t.from t.below (omega (arith, first, from)) (omega (arith, first, range, below)) in
      let its : (parts t.word).first ≡ w.first = same ∙ sym first in
      let two : 1 + only w.first w.first ≤ total (is_ended w.first) (notes_of slot v.notes) = subst (λ (g : ℕ). 1 + only g w.first ≤ total (is_ended g) (notes_of slot v.notes)) its t.noted in
      let one_ = only-same w.first in let all = noted slot (is_ended w.first) in let most = closed.ended_once slot w.first inside in omega (arith, two, one_, all, most)

  -- and where another seat ended the range of a word that was found, the seat ended none with a version of it
  pub ended_never : (f : Frame) (slot word first : ℕ) (v : View Asked) → slot < q.slots → ((j : ℕ) (g : Note Asked → ℕ) → total g (notes_of j v.notes) ≤ total g (notes_of j notes)) → Found slot word v → HasId (parts word) first → is_for slot (parts word) f ≡ true
      → total (is_ended first) (notes_of slot v.notes) + 1 ≤ total (is_ended first) (notes_of slot notes) → HasEnded f v → ⊥
  ended_never f slot word first v inside noted found has is more h =
      let a = for_is slot (parts word) f is in let at = a.0 in
      let found_at = subst (λ (i : ℕ). Found i h.word v) at h.found in let ended_at = subst (λ (i : ℕ). 0 < total (is_ended (parts h.word).first) (notes_of i v.notes)) at h.noted in
      let sx = noted slot (is_saw h.word) in let sy = noted slot (is_saw word) in
      let same = same_range slot h.word word (version_in f) inside (omega (arith, sx, found_at)) h.taken (omega (arith, sy, found)) has.1 h.from h.below a.1 a.2 in
      let once : 0 < total (is_ended first) (notes_of slot v.notes) = subst (λ (g : ℕ). 0 < total (is_ended g) (notes_of slot v.notes)) (same ∙ has.0) ended_at in
      let most = closed.ended_once slot first inside in omega (arith, once, more, most)
