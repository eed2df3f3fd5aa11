-- What a reader posted when its reading ended: each error that it queued is for the attempt that a word of an operation names, with its link.
use Rattle.std.proofs.Common.{◌≡◌, ℕ, ◌<◌, ◌⊎◌, inl, inr, Bool, true, false, List, [], ◌∷◌, Some, None, eqb-true, refl, ap, subst, arith}
use Rattle.std.specs.Prelude.{Option, position, ◌==◌}
use Rattle.std.specs.List.{remove}
use mathlib.Core.Logic.{dite}
use native.Mathlib.Decide.{ℕ_discrete}
use Rattle.sock_words.specs.PackedWords.{at_word_link, id_slot, id_first}
use Rattle.sock_words.specs.declared.at_word.AtWord.{AtWord}
use Rattle.corr_core.specs.IdSlotWord.{Parts, parts}
use Rattle.corr_core.specs.IdSlotLaw.{is_queued}
use Rattle.corr_core.specs.declared.marks.Note.TheVariants.{Queued}
use Rattle.corr_core.specs.declared.marks.Noted.{Noted}
use Rattle.corr_core.specs.declared.marks.Plan.{Plan}
use Rattle.corr_core.specs.declared.marks.Token.{Token}
use Rattle.corr_core.specs.declared.marks.View.{View}
use Rattle.corr_core.proofs.NoteSums.{pair-same}
use Rattle.corr_id.specs.id_rule.specs.LawfulIdTable.{at_index, call_index, with_kept}
use Rattle.sock_message.specs.Asked.{Asked}
use Rattle.corr_id.specs.declared.posts.Posted.{Posted}
use Rattle.corr_id.specs.declared.posts.Posted.TheVariants.{Locked as HasLock, Queued as IsQueued}
use Rattle.corr_id.specs.SeatBehindIdCalls.{error_in, one, Did}
use Rattle.corr_id.specs.PostAnswers.{PostOk}
use Rattle.attempts_told.specs.Below.PrpcFrame.Frame.{Frame}
use Rattle.attempts_told.specs.Below.CallClient.EndedCallsTelling.{did_total}
use Rattle.attempts_told.specs.call_whys.specs.call_told.proofs.RestingCallsEnded.{is_word}
use Rattle.attempts_told.specs.Below.RpcReader.ReaderBooks.{Books}
use Rattle.attempts_told.specs.Below.RpcReader.Met.{slot_in, is_asked, is_for, AnsweredBy, MetIf, FramesMet}
use Rattle.attempts_told.specs.Below.RpcReader.PostingAtReadingEnd.{LostBy, LockLost, PostedTo, MetKept, PostedIf, PostedAt, PostedAll, call_at, attempt_at}
use Rattle.attempts_told.specs.Below.RpcReader.CallsLeftAfterReading.{HadEnded, EndedLast, OneEnded, RestEnded}
use Rattle.failed_reasons.proofs.NotedErrorsInViews.{queued_silent, queued_in, Later, later_then, Stays, queued_one, same_stays, then_stays, did_later, quiet_stays, kept_stays, ended_stays, got_stays}
use Rattle.sock_words.specs.Totals.{total}

-- ## What queues nothing

pub books_stay : (b b' : Books) → b' ≡ b → Stays b.view b'.view
books_stay b b' e = same_stays b.view b'.view (ap (λ (x : Books). x.view) e)

answered_stays : (slots : ℕ) (f : Frame) (b b' : Books) → AnsweredBy slots f b b' → Stays b.view b'.view
answered_stays slots f b b' a = then_stays b.view a.locked b'.view (got_stays (slot_in f) b.view a.locked a.found a.word a.call a.got) (ended_stays (slot_in f) a.word.first a.locked b'.view a.ended.ended)

met_stays : (slots : ℕ) (f : Frame) (a : Bool) (b b' : Books) → MetIf a slots f b b' → Stays b.view b'.view
met_stays slots f true b b' (inl a) = answered_stays slots f b b' a
met_stays slots f true b b' (inr l) = quiet_stays b.view b'.view l.quiet
met_stays slots f false b b' e = books_stay b b' e

-- a response that was kept is met again
pub again_stays : (slots w : ℕ) (b b' : Books) → MetKept slots w b b' → Stays b.view b'.view
again_stays slots w b b' m = then_stays b.view m.seen b'.view (quiet_stays b.view m.seen m.quiet) (met_stays slots m.frame (is_asked slots m.frame) (record b { view = m.seen; early = remove b.early m.place }) b' m.met)

pub frames_stay : (slots : ℕ) (fs : List Frame) (b b' : Books) → FramesMet slots fs b b' → Stays b.view b'.view
frames_stay slots [] b b' m = books_stay b b' m
frames_stay slots (f ∷ fs) b b' m = then_stays b.view m.0.view b'.view (met_stays slots f (is_asked slots f) b m.0 m.1) (frames_stay slots fs m.0 b' m.2)

module _ (code : ℕ) where
  lost_stays : (slot : ℕ) (w : Parts) (call : Asked) (b b' : Books) → LockLost slot w call code b b' → Stays b.view b'.view
  lost_stays slot w call b b' lost = by (position (is_for slot w) b.early) lost
    where
      by : (o : Option ℕ) → LostBy slot w call code o b b' → Stays b.view b'.view
      by None l = ended_stays slot w.first b.view b'.view l.0.ended
      by (Some i) l = ended_stays slot w.first b.view b'.view l.3.ended

  pub posted_stays : (answer : Posted Asked) (b b' : Books) → PostedTo code answer b b' → Stays b.view b'.view
  posted_stays (HasLock k) b b' h = lost_stays k.slot (parts k.word.0) k.content b b' h
  posted_stays _ b b' h = books_stay b b' h

  id_stays : (slots id : ℕ) (b b' : Books) → HadEnded slots id b b' ⊎ EndedLast slots code id b b' → Stays b.view b'.view
  id_stays slots id b b' (inl h) = quiet_stays b.view b'.view h.quiet
  id_stays slots id b b' (inr l) = then_stays b.view l.locked b'.view (got_stays (id_slot id) b.view l.locked l.found l.word l.call l.got) (lost_stays (id_slot id) l.word l.call (record b { view = l.locked }) b' l.lost)

  one_stays : (p : Plan) (operation : ℕ) (b b' : Books) → OneEnded p code operation b b' → Stays b.view b'.view
  one_stays p operation b b' (inl n) = same_stays b.view b'.view n.view
  one_stays p operation b b' (inr n) = then_stays b.view n.seen b'.view (kept_stays b.view n.seen (call_index p operation) false n.id n.kept) (id_stays p.slots n.id (record b { view = n.seen }) b' n.ends)

  -- nor does whoever ends the calls that are left
  pub rest_stays : (p : Plan) (os : List ℕ) (b b' : Books) → RestEnded p code os b b' → Stays b.view b'.view
  rest_stays p [] b b' h = books_stay b b' h
  rest_stays p (o ∷ os) b b' h = then_stays b.view h.0.view b'.view (one_stays p o b h.0 h.1) (rest_stays p os h.0 b' h.2)

-- ## Errors that are queued

-- each error that is noted as queued more is such a one, by what the seat knows behind
pub record Queues (Q : View Asked → ℕ → ℕ → ℕ → Type 0) (v w : View Asked) : Type 0 where
  pub later : Later v w
  pub queued : (i first e : ℕ) → 0 < queued_in i first e w.notes → (0 < queued_in i first e v.notes) ⊎ Q w i first e

module _ (Q : View Asked → ℕ → ℕ → ℕ → Type 0) where
  pub queues_none : (v w : View Asked) → Stays v w → Queues Q v w
  queues_none v w s = record { later = s.later; queued = λ i first e h. inl (let a = s.queued i first e in omega (arith, a, h)) }

  pub queues_then : ((v w : View Asked) → Later v w → (i first e : ℕ) → Q v i first e → Q w i first e) → (u v w : View Asked) → Queues Q u v → Queues Q v w → Queues Q u w
  queues_then stays u v w a b = record {
    later = later_then u v w a.later b.later;
    queued = λ i first e h. elim (b.queued i first e h) [
      | inl x ↦ elim (a.queued i first e x) [ inl y ↦ inl y | inr y ↦ inr (stays v w b.later i first e y) ]
      | inr y ↦ inr y
    ];
  }

  -- one error
  pub queues_one : (at f error : ℕ) (v w : View Asked) (ts : List (Token Asked)) → Did at v w ts (one at (Queued f error)) → Q w at f error → Queues Q v w
  queues_one at f error v w ts d here = record {
    later = did_later at v w ts _ d;
    queued = λ i first e h. (
        let es : List (Noted Asked) = one at (Queued f error) in
        let a = did_total (is_queued first e) (queued_silent first e) at v w ts es d i in
        dite (ℕ_discrete (queued_in i first e es) 0)
        (λ z. inl (omega (arith, a, z, h)))
        (λ ne. inr (let x = queued_one at i first e f error (omega (arith, ne)) in subst (λ (n : ℕ). Q w i first n) x.2 (subst (λ (n : ℕ). Q w i n error) x.1 (subst (λ (n : ℕ). Q w n f error) x.0 here)))));
  }

-- ## Posts

-- the seat found this word of an operation's attempts, and it names the link
pub record IsPost (q : Plan) (link : ℕ) (v : View Asked) (word : ℕ) : Type 0 where
  pub operation : ℕ
  pub found : 0 < total (is_word (at_index q operation) word) v.kept
  pub link_is : at_word_link word ≡ link

pub post_later : (q : Plan) (link : ℕ) (v w : View Asked) → Later v w → (word : ℕ) → IsPost q link v word → IsPost q link w word
post_later q link v w l word h = record { operation = h.operation; found = (let a = l.kept (is_word (at_index q h.operation) word) in let b = h.found in omega (arith, a, b)); link_is = h.link_is }

-- the error e of the id with this first version in slot i is this code, for the attempt that such a word names
pub record QueuedBy (q : Plan) (link code : ℕ) (v : View Asked) (i first e : ℕ) : Type 0 where
  pub word : ℕ
  pub post : IsPost q link v word
  pub slot_is : id_slot (call_at word) ≡ i
  pub first_is : id_first (call_at word) ≡ first
  pub error_is : error_in code (attempt_at word) ≡ e

pub queued_later : (q : Plan) (link code : ℕ) (v w : View Asked) → Later v w → (i first e : ℕ) → QueuedBy q link code v i first e → QueuedBy q link code w i first e
queued_later q link code v w l i first e h = record { word = h.word; post = post_later q link v w l h.word h.post; slot_is = h.slot_is; first_is = h.first_is; error_is = h.error_is }

module _ (q : Plan) (link code : ℕ) where
  -- each error that is noted as queued more is such a one
  abbrev pub Posts : View Asked → View Asked → Type 0
  Posts v w = Queues (QueuedBy q link code) v w

  pub posts_none : (v w : View Asked) → Stays v w → Posts v w
  posts_none = queues_none (QueuedBy q link code)

  pub posts_then : (u v w : View Asked) → Posts u v → Posts v w → Posts u w
  posts_then = queues_then (QueuedBy q link code) (queued_later q link code)

  post_posts : (word : ℕ) (v w : View Asked) (answer : Posted Asked) → IsPost q link v word → PostOk q.slots v w (call_at word) code (attempt_at word) answer → Posts v w
  post_posts word v w (HasLock k) post p = posts_none v w (got_stays k.slot v w p.4.0 (parts k.word.0) k.content p.4.1)
  post_posts word v w IsQueued post p = queues_one (QueuedBy q link code) (id_slot (call_at word)) (id_first (call_at word)) (error_in code (attempt_at word)) v w _ p.0
      (record { word = word; post = post_later q link v w (did_later (id_slot (call_at word)) v w _ _ p.0) word post; slot_is = refl; first_is = refl; error_is = refl })
  post_posts word v w _ post p = posts_none v w (quiet_stays v w p.0)

  posted_if : (a : Bool) (word : ℕ) (b b' : Books) → (a ≡ true → IsPost q link b.view word) → PostedIf a q.slots code word b b' → Posts b.view b'.view
  posted_if false word b b' post h = posts_none b.view b'.view (books_stay b b' h)
  posted_if true word b b' post (inl m) = posts_none b.view b'.view (again_stays q.slots word b b' m)
  posted_if true word b b' post (inr h) = posts_then b.view h.seen b'.view (post_posts word b.view h.seen h.answer (post refl) h.posted) (posts_none h.seen b'.view (posted_stays code h.answer (record b { view = h.seen }) b' h.then_))

  -- the word that was found is kept in mind
  pub post_found : (operation word : ℕ) (v : View Asked) → (at_word_link word == link) ≡ true → IsPost q link (with_kept (at_index q operation) false word v) word
  post_found operation word v names = record {
    operation = operation;
    found = (let a = pair-same (at_index q operation) word in omega (arith, a));
    link_is = eqb-true (at_word_link word) link names;
  }

  posted_at : (operation : ℕ) (found : Option AtWord) (b b' : Books) → PostedAt q link code operation found b b' → Posts b.view b'.view
  posted_at operation None b b' h = posts_none b.view b'.view (books_stay b b' h.same)
  posted_at operation (Some w) b b' h =
      let v = with_kept (at_index q operation) false w.0 b.view in
      posts_then b.view v b'.view (posts_none b.view v (kept_stays b.view v (at_index q operation) false w.0 refl)) (posted_if (at_word_link w.0 == link) w.0 (record b { view = v }) b' (post_found operation w.0 b.view) h)

  pub posted_all : (os : List ℕ) (b b' : Books) → PostedAll q link code os b b' → Posts b.view b'.view
  posted_all [] b b' h = posts_none b.view b'.view (books_stay b b' h)
  posted_all (o ∷ os) b b' h = posts_then b.view h.0.view b'.view (posted_at o h.1.0 b h.0 h.1.1) (posted_all os h.0 b' h.2)
