-- Whoever reads links, and ends the calls that are left, tells of each id as many ends as its seat noted, unless memory was wanting; and what the seat knows it knows still.
use Rattle.std.proofs.Common.{◌≡◌, ℕ, zero, suc, ◌+◌, ◌*◌, ◌<◌, ◌⊎◌, inl, inr, Bool, true, false, List, [], ◌∷◌, ◌++◌, Some, None, pos, negsuc, refl, ◌∙◌, ap, sym, subst, arith}
use Rattle.std.specs.Prelude.{ℤ, Option, position, ◌==◌}
use Rattle.std.specs.List.{remove}
use Rattle.std.proofs.Math.Nat.{mod-lt}
use Rattle.sock_words.specs.PackedWords.{at_word_link, id_slot, id_first}
use Rattle.sock_words.specs.declared.at_word.AtWord.{AtWord}
use Rattle.sock_words.specs.declared.outcome.Outcome.{Outcome}
use Rattle.sock_words.specs.declared.outcome.Outcome.TheVariants.{CallFailed}
use Rattle.brpc_model.specs.Frame as model
use Rattle.brpc_model.specs.Meta.{ResponseMeta}
use Rattle.brpc_model.specs.ResponseOutcome.{by_code, outcome_by, ending_of}
use Rattle.sock_io.specs.LinkHalves.{InState}
use Rattle.corr_core.specs.IdSlotWord.{Parts, parts}
use Rattle.corr_core.specs.IdSlotLaw.{only, is_ended}
use Rattle.corr_core.specs.declared.marks.Note.{Note}
use Rattle.corr_core.specs.declared.marks.Note.TheVariants.{Ended, Locker, Queued}
use Rattle.corr_core.specs.declared.marks.Noted.{Noted}
use Rattle.corr_core.specs.declared.marks.Plan.{Plan}
use Rattle.corr_core.specs.declared.marks.Token.{Token}
use Rattle.corr_core.specs.declared.marks.View.{View}
use Rattle.corr_core.specs.IdRangeVersions.{is_early}
use Rattle.id_rule.specs.LawfulIdTable.{at_index, call_index, with_kept}
use Rattle.corr_id.specs.declared.posts.Posted.{Posted}
use Rattle.corr_id.specs.declared.posts.Posted.TheVariants.{Locked as HasLock, Queued as IsQueued}
use Rattle.corr_id.specs.SeatBehindIdCalls.{error_in, is_event, one, Quiet, Did, GotLock}
use Rattle.corr_id.specs.PostAnswers.{PostOk}
use Rattle.sock_message.specs.Asked.{Asked}
use Rattle.prpc_frame.specs.FrameMeaning.{frame_of}
use Rattle.prpc_frame.specs.declared.frame.Frame.{Frame}
use Rattle.call_deeds.specs.Below.RpcClient.Told.{Told}
use Rattle.call_deeds.specs.Below.RpcReader.ReaderBooks.{Books, EndedAs, ToldBy, id_of}
use Rattle.call_deeds.specs.Below.RpcReader.Met.{slot_in, version_in, is_asked, is_for, AnsweredBy, LackedBy, KeptIf, MetIf, FramesMet}
use Rattle.call_deeds.specs.Below.RpcReader.PostingAtReadingEnd.{LostBy, LockLost, PostedTo, PostedIf, PostedAt, PostedAll, call_at, attempt_at}
use Rattle.call_deeds.specs.Below.RpcReader.LinkReading.{code_of}
use Rattle.call_deeds.specs.Below.RpcReader.ReaderRunFromOpen.{ReadLink}
use Rattle.call_deeds.specs.Below.RpcReader.CallsLeftAfterReading.{HadEnded, EndedLast, OneEnded, RestEnded}
use Rattle.call_deeds.specs.Below.CallClient.EndedCallsTelling.{quiet_total, did_total, none_of_one}
use Rattle.call_told.specs.ToldOnce.{ends_of, told_ends}
use Rattle.call_told.proofs.Balance.{noted_ends, Accounted, told_more, noted_more, one_end}
use Rattle.call_told.specs.Least.{is_locked_for}
use Rattle.call_told.proofs.ToldCallEnds.{HasLocked, got_locked, IsEndOf, AreEnds, ends_later}
use Rattle.call_told.proofs.ListElementsByPlace.{all_both}
use Rattle.call_told.proofs.GrowingCallNotes.{Grows, grows_same, grows_then, quiet_grows, did_grows, ended_grows, post_grows, kept_grows}

abbrev pub Accounts : Books → Books → Type 0
Accounts b b' = (b'.starved ≡ true) ⊎ Accounted b.told b.view.notes b'.told b'.view.notes

-- from these books to those
pub record Tally (b b' : Books) : Type 0 where
  pub starved : b.starved ≡ true → b'.starved ≡ true
  pub accounts : Accounts b b'
  -- the seat stored no word of an operation
  pub grows : (x : ℕ) → Grows x 0 b.view b'.view
  -- what it told more are ends of calls that it had locked
  pub ends : AreEnds b.view b.told → AreEnds b'.view b'.told

pub tally_then : (a b c : Books) → Tally a b → Tally b c → Tally a c
tally_then a b c s t = record { starved = λ h. t.starved (s.starved h); accounts = by s.accounts t.accounts; grows = λ x. grows_then x 0 0 0 a.view b.view c.view (omega arith) (s.grows x) (t.grows x); ends = λ h. t.ends (s.ends h) }
  where
    by : Accounts a b → Accounts b c → Accounts a c
    by (inl x) y = inl (t.starved x)
    by (inr x) (inl y) = inl y
    by (inr x) (inr y) = inr (λ slot first low. let p = x slot first low in let q = y slot first low in omega arith)

-- no end was noted
abbrev SameEnds : List (Noted Asked) → List (Noted Asked) → Type 0
SameEnds ns ms = (slot first : ℕ) → noted_ends slot first ms ≡ noted_ends slot first ns

-- nor told
tally_quiet : (b b' : Books) → (b.starved ≡ true → b'.starved ≡ true) → b'.told ≡ b.told → SameEnds b.view.notes b'.view.notes → ((x : ℕ) → Grows x 0 b.view b'.view) → Tally b b'
tally_quiet b b' s e h grows = record { starved = s; accounts = inr (λ slot first low. let x = ap (told_ends (slot * 4294967296 + first)) e in let y = h slot first in omega arith); grows = grows; ends = λ a. subst (AreEnds b'.view) (sym e) (ends_later b.view b'.view (grows 0).notes b.told a) }

pub tally_same : (b b' : Books) → b' ≡ b → Tally b b'
tally_same b b' e = tally_quiet b b' (λ h. ap (λ (x : Books). x.starved) e ∙ h) (ap (λ (x : Books). x.told) e) (λ slot first. ap (λ (x : Books). noted_ends slot first x.view.notes) e) (λ x. grows_same x 0 b.view b'.view (ap (λ (y : Books). y.view) e))

-- only the view is another
tally_seen : (b : Books) (v : View Asked) → SameEnds b.view.notes v.notes → ((x : ℕ) → Grows x 0 b.view v) → Tally b (record b { view = v })
tally_seen b v h grows = tally_quiet b (record b { view = v }) (λ s. s) refl h grows

-- ## No call ended by what the seat noted

ended_silent : (first : ℕ) (n : Note Asked) → is_event n ≡ false → is_ended first n ≡ 0
ended_silent first (Ended g y) e = let k : true ≡ false = e in cc
ended_silent first _ e = refl

quiet_ends : (v w : View Asked) → Quiet v w → SameEnds v.notes w.notes
quiet_ends v w q slot first = quiet_total (is_ended first) (ended_silent first) v w q slot

one_ends : (at : ℕ) (v w : View Asked) (ts : List (Token Asked)) (n : Note Asked) → Did at v w ts (one at n) → ((first : ℕ) → is_ended first n ≡ 0) → SameEnds v.notes w.notes
one_ends at v w ts n d none slot first = let a = did_total (is_ended first) (ended_silent first) at v w ts (one at n) d slot in let b = none_of_one (is_ended first) (ended_silent first) at n (none first) slot in omega arith

got_ends : (at : ℕ) (v w : View Asked) (word : ℕ) (k : Parts) (call : Asked) → GotLock at v w word k call → SameEnds v.notes w.notes
got_ends at v w word k call got = one_ends at v w _ (Locker k.first call) got.did (λ first. refl)

post_ends : (slots : ℕ) (v w : View Asked) (id code : ℕ) (attempt : Option ℕ) (answer : Posted Asked) → PostOk slots v w id code attempt answer → SameEnds v.notes w.notes
post_ends slots v w id code attempt (HasLock k) p = got_ends k.slot v w p.4.0 (parts k.word.0) k.content p.4.1
post_ends slots v w id code attempt IsQueued p = one_ends (id_slot id) v w _ (Queued (id_first id) (error_in code attempt)) p.0 (λ first. refl)
post_ends slots v w id code attempt _ p = quiet_ends v w p.0

-- ## A call ended

coded_is : (id ended : ℕ) (f : model.Frame) (code : ℤ) → ends_of id (by_code ended f code) ≡ only id ended
coded_is id ended f (pos zero) = refl
coded_is id ended f (pos (suc n)) = refl
coded_is id ended f (negsuc n) = refl

outcome_is : (id ended : ℕ) (f : model.Frame) (z : ℤ) (o : Option ResponseMeta) → ends_of id (outcome_by ended f z o) ≡ only id ended
outcome_is id ended f (pos zero) (Some r) = coded_is id ended f r.code
outcome_is id ended f (pos zero) None = refl
outcome_is id ended f (pos (suc n)) o = refl
outcome_is id ended f (negsuc n) o = refl

pub ending_is : (id ended : ℕ) (f : model.Frame) → ends_of id (ending_of ended f) ≡ only id ended
ending_is id ended f = outcome_is id ended f f.meta.compress_type f.meta.response

pub version_low : (id : ℕ) → id_first id < 4294967296
version_low id = let some : 0 < 4294967296 = omega arith in mod-lt id some

ended_tally : (slot : ℕ) (w : Parts) (call : Asked) (by : Outcome) (b b' : Books) → w.first < 4294967296 → ((id : ℕ) → ends_of id by ≡ only id (id_of slot w)) → HasLocked slot w.first call.operation b.view → EndedAs slot w call by b b' → Tally b b'
ended_tally slot w call by b b' low is locked e = tallies e.told
  where
    now : Told
    now = record { number = call.operation; outcome = by }

    accounted : b'.told ≡ b.told ++ now ∷ [] → Accounted b.told b.view.notes b'.told b'.view.notes
    accounted t i f fl =
        let id = i * 4294967296 + f in
        let x : told_ends id b'.told ≡ told_ends id b.told + (ends_of id by + 0) = ap (told_ends id) t ∙ told_more id b.told (now ∷ []) in
        let y : noted_ends i f b'.view.notes ≡ noted_ends i f (one slot (Ended w.first w.attempt)) + noted_ends i f b.view.notes = ap (noted_ends i f) e.ended.notes ∙ noted_more i f (one slot (Ended w.first w.attempt)) b.view.notes in
        let z = is id in let o = one_end i f slot w.first w.attempt fl low in omega arith

    grows : (x : ℕ) → Grows x 0 b.view b'.view
    grows x = ended_grows x slot b.view b'.view [] (one slot (Ended w.first w.attempt)) e.ended

    still : AreEnds b.view b.told → AreEnds b'.view b.told
    still a = ends_later b.view b'.view (grows 0).notes b.told a

    one_more : IsEndOf b'.view now
    one_more = record { slot = slot; first = w.first; low = low; is_end = is; locked = (let a = (grows 0).notes slot (is_locked_for w.first call.operation) in omega arith) }

    tallies : ToldBy call.operation by b.told b.starved b'.told b'.starved → Tally b b'
    tallies (inl t) = record { starved = λ h. t.1 ∙ h; accounts = inr (accounted t.0); grows = grows; ends = λ a. subst (AreEnds b'.view) (sym t.0) (all_both (IsEndOf b'.view) b.told (now ∷ []) (still a) (one_more, tt)) }
    tallies (inr t) = record { starved = λ h. t.1; accounts = inl t.1; grows = grows; ends = λ a. subst (AreEnds b'.view) (sym t.0) (still a) }

-- ## Frames

module _ (slots : ℕ) (f : Frame) (b b' : Books) where
  answered_tally : AnsweredBy slots f b b' → Tally b b'
  answered_tally a =
      let u : Books = record b { view = a.locked } in
      tally_then b u b' (tally_seen b a.locked (got_ends (slot_in f) b.view a.locked a.found a.word a.call a.got) (λ x. did_grows x (slot_in f) b.view a.locked _ _ a.got.did))
      (ended_tally (slot_in f) a.word a.call (ending_of (id_of (slot_in f) a.word) (frame_of f)) u b' (let x = a.version.0 in let y = version_low f.meta.correlation_id in omega arith) (λ id. ending_is id (id_of (slot_in f) a.word) (frame_of f)) (got_locked (slot_in f) b.view a.locked a.found a.word a.call a.got) a.ended)

  kept_starved : (c : Bool) → KeptIf c f b.early b.starved b'.early b'.starved → b.starved ≡ true → b'.starved ≡ true
  kept_starved true (inl k) h = k.1 ∙ h
  kept_starved true (inr k) h = k.1
  kept_starved false k h = k.1 ∙ h

  lacked_tally : LackedBy f b b' → Tally b b'
  lacked_tally l = tally_quiet b b' (kept_starved (is_early (version_in f) (parts l.word)) l.kept) l.told (quiet_ends b.view b'.view l.quiet) (λ x. quiet_grows x b.view b'.view l.quiet)

  met_tally : (a : Bool) → MetIf a slots f b b' → Tally b b'
  met_tally true (inl a) = answered_tally a
  met_tally true (inr l) = lacked_tally l
  met_tally false e = tally_same b b' e

frames_tally : (slots : ℕ) (fs : List Frame) (b b' : Books) → FramesMet slots fs b b' → Tally b b'
frames_tally slots [] b b' m = tally_same b b' m
frames_tally slots (f ∷ fs) b b' m = tally_then b m.0 b' (met_tally slots f b m.0 (is_asked slots f) m.1) (frames_tally slots fs m.0 b' m.2)

-- ## Codes

module _ (code : ℕ) where
  lost_tally : (slot : ℕ) (w : Parts) (call : Asked) (b b' : Books) → w.first < 4294967296 → HasLocked slot w.first call.operation b.view → LockLost slot w call code b b' → Tally b b'
  lost_tally slot w call b b' low locked lost = by (position (is_for slot w) b.early) lost
    where
      by : (o : Option ℕ) → LostBy slot w call code o b b' → Tally b b'
      by None l = ended_tally slot w call (CallFailed (id_of slot w) code) b b' low (λ id. refl) locked l.0
      by (Some i) l = ended_tally slot w call (ending_of (id_of slot w) (frame_of l.0)) b b' low (λ id. ending_is id (id_of slot w) (frame_of l.0)) locked l.3

  posted_to : (slots : ℕ) (v : View Asked) (id : ℕ) (attempt : Option ℕ) (answer : Posted Asked) (b b' : Books) → PostOk slots v b.view id code attempt answer → PostedTo code answer b b' → Tally b b'
  posted_to slots v id attempt (HasLock k) b b' post h = lost_tally k.slot (parts k.word.0) k.content b b' (let low = k.fits.low in omega arith) (got_locked k.slot v b.view post.4.0 (parts k.word.0) k.content post.4.1) h
  posted_to slots v id attempt _ b b' post h = tally_same b b' h

  posted_if : (a : Bool) (slots w : ℕ) (b b' : Books) → PostedIf a slots code w b b' → Tally b b'
  posted_if false slots w b b' h = tally_same b b' h
  posted_if true slots w b b' (inl m) =
      let u : Books = record b { view = m.seen; early = remove b.early m.place } in
      tally_then b u b' (tally_quiet b u (λ s. s) refl (quiet_ends b.view m.seen m.quiet) (λ x. quiet_grows x b.view m.seen m.quiet)) (met_tally slots m.frame u b' (is_asked slots m.frame) m.met)
  posted_if true slots w b b' (inr h) =
      let u : Books = record b { view = h.seen } in
      tally_then b u b' (tally_seen b h.seen (post_ends slots b.view h.seen (call_at w) code (attempt_at w) h.answer h.posted) (λ x. post_grows x slots b.view h.seen (call_at w) code (attempt_at w) h.answer h.posted)) (posted_to slots b.view (call_at w) (attempt_at w) h.answer u b' h.posted h.then_)

  posted_at : (p : Plan) (link operation : ℕ) (found : Option AtWord) (b b' : Books) → PostedAt p link code operation found b b' → Tally b b'
  posted_at p link operation None b b' h = tally_same b b' h.same
  posted_at p link operation (Some w) b b' h =
      let v = with_kept (at_index p operation) false w.0 b.view in
      let u : Books = record b { view = v } in
      tally_then b u b' (tally_seen b v (λ slot first. refl) (λ x. kept_grows x 0 b.view v (at_index p operation) false w.0 refl (omega arith))) (posted_if (at_word_link w.0 == link) p.slots w.0 u b' h)

  posted_all : (p : Plan) (link : ℕ) (os : List ℕ) (b b' : Books) → PostedAll p link code os b b' → Tally b b'
  posted_all p link [] b b' h = tally_same b b' h
  posted_all p link (o ∷ os) b b' h = tally_then b h.0 b' (posted_at p link o h.1.0 b h.0 h.1.1) (posted_all p link os h.0 b' h.2)

  -- ## What is left

  module _ (p : Plan) where
    -- what becomes of the call of an id
    pub id_tally : (id : ℕ) (b b' : Books) → HadEnded p.slots id b b' ⊎ EndedLast p.slots code id b b' → Tally b b'
    id_tally id b b' (inl h) = tally_quiet b b' (λ s. ap (λ (x : Books). x.starved) h.same ∙ s) (ap (λ (x : Books). x.told) h.same) (quiet_ends b.view b'.view h.quiet) (λ x. quiet_grows x b.view b'.view h.quiet)
    id_tally id b b' (inr l) =
        let u : Books = record b { view = l.locked } in
        tally_then b u b' (tally_seen b l.locked (got_ends (id_slot id) b.view l.locked l.found l.word l.call l.got) (λ x. did_grows x (id_slot id) b.view l.locked _ _ l.got.did))
        (lost_tally (id_slot id) l.word l.call u b' (let x = l.range.0 in let y = version_low id in omega arith) (got_locked (id_slot id) b.view l.locked l.found l.word l.call l.got) l.lost)

    pub noted_tally : (operation id : ℕ) (b : Books) (seen : View Asked) → seen ≡ with_kept (call_index p operation) false id b.view → Tally b (record b { view = seen })
    noted_tally operation id b seen e = tally_seen b seen (λ slot first. ap (λ (y : View Asked). noted_ends slot first y.notes) e) (λ x. kept_grows x 0 b.view seen (call_index p operation) false id e (omega arith))

    pub one_tally : (operation : ℕ) (b b' : Books) → OneEnded p code operation b b' → Tally b b'
    one_tally operation b b' (inl n) = tally_same b b' (n.same ∙ ap (λ (v : View Asked). record b { view = v }) n.view)
    one_tally operation b b' (inr n) = let u : Books = record b { view = n.seen } in tally_then b u b' (noted_tally operation n.id b n.seen n.kept) (id_tally n.id u b' n.ends)

    pub rest_accounts : (os : List ℕ) (b b' : Books) → RestEnded p code os b b' → Tally b b'
    rest_accounts [] b b' h = tally_same b b' h
    rest_accounts (o ∷ os) b b' h = tally_then b h.0 b' (one_tally o b h.0 h.1) (rest_accounts os h.0 b' h.2)

-- ## Links

-- a link was read to its end
pub read_tally : (q : Plan) (link : ℕ) (calls : List ℕ) (ending short : Bool) (s t : InState) (b b' : Books) → ReadLink q link calls ending short s t b b' → Tally b b'
read_tally q link calls ending short s t b b' r = let m = r.met in let met = r.read.met in
    tally_then b m b' (frames_tally q.slots met.frames b m met.met) (posted_all (code_of r.how) q link calls m b' r.posted)
