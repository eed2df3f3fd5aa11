-- Whoever reads the links tells no call to have failed but with one of those codes.
use Rattle.std.proofs.Common.{◌≡◌, ℕ, zero, suc, ◌⊎◌, inl, inr, Bool, true, false, List, [], ◌∷◌, ◌++◌, map, append_assoc, append-nil, Some, None, pos, negsuc, refl, ap, ◌∙◌, subst, sym}
use Rattle.std.specs.Prelude.{Option, ℤ, position, ◌==◌}
use Rattle.std.specs.List.{AllByRecursion, remove}
use Rattle.sock_words.specs.ErrorCodes.{ERESPONSE}
use Rattle.sock_words.specs.PackedWords.{at_word_link, id_slot}
use Rattle.sock_words.specs.declared.at_word.AtWord.{AtWord}
use Rattle.sock_words.specs.declared.outcome.Outcome.{Outcome}
use Rattle.sock_words.specs.declared.outcome.Outcome.TheVariants.{CallFailed}
use Rattle.sock_words.specs.declared.plain.Plan as sizes
use Rattle.sock_words.specs.declared.socket_id.SocketId.{SocketId}
use Rattle.sock_model.specs.declared.view.View as sock_view
use Rattle.sock_io.specs.declared.link.Out.{Ghosts}
use Rattle.sock_io.specs.LinkHalves.{InState}
use Rattle.corr_core.specs.IdSlotWord.{Parts, parts}
use Rattle.corr_core.specs.declared.marks.Plan.{Plan}
use Rattle.corr_id.specs.id_rule.specs.LawfulIdTable.{at_index, with_kept}
use Rattle.sock_message.specs.Asked.{Asked}
use Rattle.sock_message.specs.brpc_model.specs.Frame as model
use Rattle.sock_message.specs.brpc_model.specs.Meta.{ResponseMeta}
use Rattle.sock_message.specs.brpc_model.specs.ResponseOutcome.{outcome_by, ending_of}
use Rattle.corr_id.specs.declared.posts.Posted.{Posted}
use Rattle.corr_id.specs.declared.posts.Posted.TheVariants.{Locked as HasLock}
use Rattle.attempts_told.specs.Below.PrpcFrame.FrameMeaning.{frame_of}
use Rattle.attempts_told.specs.Below.PrpcFrame.Frame.{Frame}
use Rattle.attempts_told.specs.Below.RpcClient.Told.{Told}
use Rattle.attempts_told.specs.call_whys.specs.call_told.proofs.ListElementsByPlace.{all_both}
use Rattle.attempts_told.specs.Below.RpcReader.ReaderBooks.{Books, EndedAs, id_of}
use Rattle.attempts_told.specs.Below.RpcReader.Met.{slot_in, is_asked, is_for, MetIf, FramesMet}
use Rattle.attempts_told.specs.Below.RpcReader.PostingAtReadingEnd.{LostBy, LockLost, PostedTo, PostedIf, PostedAt, PostedAll}
use Rattle.attempts_told.specs.Below.RpcReader.LinkReading as reading
use Rattle.attempts_told.specs.Below.RpcReader.ReaderRunFromOpen.{ReadLink, ReadIf}
use Rattle.attempts_told.specs.Below.RpcReader.CallsLeftAfterReading.{HadEnded, EndedLast, OneEnded, RestEnded}
use Rattle.attempts_told.specs.Below.CallRun.ReadersOfLinks.{LinkReader, nothing_read, IsReader}
use Rattle.attempts_told.specs.call_whys.specs.call_told.proofs.ToldByReaders.{AllRead, link_read}
use Rattle.failed_reasons.proofs.CompressedOrNoResponse.{is_no_answer}
use Rattle.failed_reasons.proofs.FailedAttemptCodes.{IsReadCode}
use Rattle.failed_reasons.proofs.ErrorsQueuedByReading.{loss_code}

-- an outcome that is a failure has one of those codes
abbrev IsRead : Outcome → Type 0
IsRead by = (id code : ℕ) → by ≡ CallFailed id code → IsReadCode code

abbrev pub HasReadCode : Told → Type 0
HasReadCode x = IsRead x.outcome

-- what is told more
abbrev pub TellsCodes : Books → Books → Type 0
TellsCodes b b' = (more : List Told) × (b'.told ≡ b.told ++ more) × AllByRecursion HasReadCode more

codes_none : (b b' : Books) → b'.told ≡ b.told → TellsCodes b b'
codes_none b b' e = ([], e ∙ sym (append-nil b.told), tt)

codes_same : (b b' : Books) → b' ≡ b → TellsCodes b b'
codes_same b b' e = codes_none b b' (ap (λ (x : Books). x.told) e)

pub codes_then : (a b c : Books) → TellsCodes a b → TellsCodes b c → TellsCodes a c
codes_then a b c x y = (x.0 ++ y.0, y.1 ∙ (ap (λ (l : List Told). l ++ y.0) x.1 ∙ append_assoc a.told x.0 y.0), all_both HasReadCode x.0 y.0 x.2 y.2)

-- ## How a call ends

same_code : (id i code other : ℕ) → CallFailed i other ≡ CallFailed id code → other ≡ code
same_code id i code other e = cc

by_code : (id code : ℕ) → IsReadCode code → IsRead (CallFailed id code)
by_code id code loss i other e = subst IsReadCode (same_code i id other code e) loss

-- by a response, where that can't be read
by_response : (id : ℕ) (f : model.Frame) → IsRead (ending_of id f)
by_response id f i code e = by f.meta.compress_type f.meta.response e
  where
    unread : CallFailed id ERESPONSE ≡ CallFailed i code → IsReadCode code
    unread h = inr (sym (same_code i id code ERESPONSE h))

    by : (z : ℤ) (o : Option ResponseMeta) → outcome_by id f z o ≡ CallFailed i code → IsReadCode code
    by (pos zero) (Some r) h = absurd (is_no_answer id i code f r.code h)
    by (pos zero) None h = unread h
    by (pos (suc n)) o h = unread h
    by (negsuc n) o h = unread h

ended_codes : (slot : ℕ) (w : Parts) (call : Asked) (by : Outcome) (b b' : Books) → EndedAs slot w call by b b' → IsRead by → TellsCodes b b'
ended_codes slot w call by b b' e read = elim e.told [
  | inl t ↦ (record { number = call.operation; outcome = by } ∷ [], t.0, (read, tt))
  | inr t ↦ codes_none b b' t.0
]

-- ## Frames

met_codes : (slots : ℕ) (f : Frame) (a : Bool) (b b' : Books) → MetIf a slots f b b' → TellsCodes b b'
met_codes slots f true b b' (inl a) = ended_codes (slot_in f) a.word a.call (ending_of (id_of (slot_in f) a.word) (frame_of f)) (record b { view = a.locked }) b' a.ended (by_response (id_of (slot_in f) a.word) (frame_of f))
met_codes slots f true b b' (inr l) = codes_none b b' l.told
met_codes slots f false b b' e = codes_same b b' e

frames_codes : (slots : ℕ) (fs : List Frame) (b b' : Books) → FramesMet slots fs b b' → TellsCodes b b'
frames_codes slots [] b b' m = codes_same b b' m
frames_codes slots (f ∷ fs) b b' m = codes_then b m.0 b' (met_codes slots f (is_asked slots f) b m.0 m.1) (frames_codes slots fs m.0 b' m.2)

-- ## Calls that lost their link, and what is left

module _ (code : ℕ) (loss : IsReadCode code) where
  lost_codes : (slot : ℕ) (w : Parts) (call : Asked) (b b' : Books) → LockLost slot w call code b b' → TellsCodes b b'
  lost_codes slot w call b b' lost = by (position (is_for slot w) b.early) lost
    where
      by : (o : Option ℕ) → LostBy slot w call code o b b' → TellsCodes b b'
      by None h = ended_codes slot w call (CallFailed (id_of slot w) code) b b' h.0 (by_code (id_of slot w) code loss)
      by (Some i) h = ended_codes slot w call (ending_of (id_of slot w) (frame_of h.0)) b b' h.3 (by_response (id_of slot w) (frame_of h.0))

  posted_to : (answer : Posted Asked) (b b' : Books) → PostedTo code answer b b' → TellsCodes b b'
  posted_to (HasLock k) b b' h = lost_codes k.slot (parts k.word.0) k.content b b' h
  posted_to _ b b' h = codes_same b b' h

  posted_if : (a : Bool) (slots w : ℕ) (b b' : Books) → PostedIf a slots code w b b' → TellsCodes b b'
  posted_if false slots w b b' h = codes_same b b' h
  posted_if true slots w b b' (inl m) = met_codes slots m.frame (is_asked slots m.frame) (record b { view = m.seen; early = remove b.early m.place }) b' m.met
  posted_if true slots w b b' (inr h) = posted_to h.answer (record b { view = h.seen }) b' h.then_

  posted_at : (p : Plan) (link operation : ℕ) (found : Option AtWord) (b b' : Books) → PostedAt p link code operation found b b' → TellsCodes b b'
  posted_at p link operation None b b' h = codes_same b b' h.same
  posted_at p link operation (Some w) b b' h = posted_if (at_word_link w.0 == link) p.slots w.0 (record b { view = with_kept (at_index p operation) false w.0 b.view }) b' h

  posted_all : (p : Plan) (link : ℕ) (os : List ℕ) (b b' : Books) → PostedAll p link code os b b' → TellsCodes b b'
  posted_all p link [] b b' h = codes_same b b' h
  posted_all p link (o ∷ os) b b' h = codes_then b h.0 b' (posted_at p link o h.1.0 b h.0 h.1.1) (posted_all p link os h.0 b' h.2)

  id_codes : (slots id : ℕ) (b b' : Books) → HadEnded slots id b b' ⊎ EndedLast slots code id b b' → TellsCodes b b'
  id_codes slots id b b' (inl h) = codes_none b b' (ap (λ (x : Books). x.told) h.same)
  id_codes slots id b b' (inr l) = lost_codes (id_slot id) l.word l.call (record b { view = l.locked }) b' l.lost

  one_codes : (p : Plan) (operation : ℕ) (b b' : Books) → OneEnded p code operation b b' → TellsCodes b b'
  one_codes p operation b b' (inl n) = codes_none b b' (ap (λ (x : Books). x.told) n.same)
  one_codes p operation b b' (inr n) = id_codes p.slots n.id (record b { view = n.seen }) b' n.ends

  pub rest_codes : (p : Plan) (os : List ℕ) (b b' : Books) → RestEnded p code os b b' → TellsCodes b b'
  rest_codes p [] b b' h = codes_same b b' h
  rest_codes p (o ∷ os) b b' h = codes_then b h.0 b' (one_codes p o b h.0 h.1) (rest_codes p os h.0 b' h.2)

-- ## Links

-- a link was read to its end, and memory was wanting nowhere
link_codes : (q : Plan) (link : ℕ) (calls : List ℕ) (ending : Bool) (s t : InState) (b b' : Books) → ReadLink q link calls ending false s t b b' → TellsCodes b b'
link_codes q link calls ending s t b b' r = let m = r.met in let met = r.read.met in
    codes_then b m b' (frames_codes q.slots met.frames b m met.met) (posted_all (reading.code_of r.how) (loss_code r.how (r.calm refl).1) q link calls m b' r.posted)

-- ## Readers beside the clients

if_codes : (q : Plan) (link : ℕ) (calls : List ℕ) (ending : Bool) (s t : InState) (o : Option SocketId) (v w : sock_view.View) (b b' : Books) → ReadIf q link calls ending false s t o v w b b' → TellsCodes b b'
if_codes q link calls ending s t None v w b b' r = codes_same b b' r.2
if_codes q link calls ending s t (Some id) v w b b' r = link_codes q link calls ending s t b b' (link_read q link calls ending false s t id.0 v w b b' r)

module _ {O : Type 0} {g : Ghosts O} (p : sizes.Plan) (q : Plan) (calls : List ℕ) where
  -- whatever a reader told to have failed has one of those codes
  pub reader_codes : (x : LinkReader g) → IsReader p q calls x → AllByRecursion HasReadCode x.books.told
  reader_codes x is =
      let tells : TellsCodes nothing_read x.books = if_codes q x.link calls false x.before x.behind is.ran.id is.ran.noted x.seat.me.0 nothing_read x.books is.ran.read in
      subst (AllByRecursion HasReadCode) (sym tells.1) tells.2

  pub readers_codes : (xs : List (LinkReader g)) → AllRead p q calls xs → AllByRecursion (AllByRecursion HasReadCode) (map (λ (x : LinkReader g). x.books.told) xs)
  readers_codes [] a = tt
  readers_codes (x ∷ xs) a = (reader_codes x a.0, readers_codes xs a.1)
