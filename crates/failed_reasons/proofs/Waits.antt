-- An error that a reader queued when its reading ended waits at an id of which the reader had met no response, unless it had ended a range with the response's version.
use Rattle.std.proofs.Common.{◌≡◌, ℕ, ◌⊎◌, inl, inr, ⊎_elim, Bool, true, false, List, [], ◌∷◌, Some, None, refl, subst, arith}
use Rattle.std.specs.Prelude.{Option, ◌==◌}
use Rattle.sock_words.specs.PackedWords.{at_word_link, id_slot, id_first}
use Rattle.sock_words.specs.declared.at_word.AtWord.{AtWord}
use Rattle.corr_core.specs.IdSlotWord.{parts}
use Rattle.corr_core.specs.declared.marks.Plan.{Plan}
use Rattle.corr_core.specs.declared.marks.View.{View}
use Rattle.corr_id.specs.id_rule.specs.LawfulIdTable.{at_index, with_kept}
use Rattle.sock_message.specs.Asked.{Asked}
use Rattle.corr_id.specs.declared.posts.Posted.{Posted}
use Rattle.corr_id.specs.declared.posts.Posted.TheVariants.{Locked as HasLock, Queued as IsQueued}
use Rattle.corr_id.specs.SeatBehindIdCalls.{is_saw, error_in, Found, HasId}
use Rattle.corr_id.specs.PostAnswers.{PostOk}
use Rattle.attempts_told.specs.Below.PrpcFrame.Frame.{Frame}
use Rattle.attempts_told.specs.Below.RpcReader.ReaderBooks.{Books}
use Rattle.attempts_told.specs.Below.RpcReader.Met.{is_asked, is_for}
use Rattle.attempts_told.specs.Below.RpcReader.PostingAtReadingEnd.{KeptNone, PostedIf, PostedAt, PostedAll, call_at, attempt_at}
use Rattle.attempts_told.specs.call_whys.specs.call_told.proofs.MetResponses.{HasEnded, ended_still, goes_view, same_notes, posted_goes, all_goes, queued_met}
use Rattle.attempts_told.specs.call_whys.specs.call_told.proofs.EndedCallsUnanswered.{AllMet, all_met}
use Rattle.failed_reasons.proofs.ReaderPosts.{Queues, queues_none, queues_then, queues_one, books_stay, again_stays, posted_stays}
use Rattle.failed_reasons.proofs.NotedErrorsInViews.{Later, Stays, did_later, quiet_stays, kept_stays, got_stays}

-- so many slots, and responses that were given
module _ (slots : ℕ) (Given : Frame → Type 0) (asked : (f : Frame) → Given f → is_asked slots f ≡ true) where
  -- the seat found the id with this first version in slot i; of the given responses of its range it had met none
  pub record WaitsAt (v : View Asked) (i first : ℕ) : Type 0 where
    pub word : ℕ
    pub found : Found i word v
    pub has : HasId (parts word) first
    pub alone : (f : Frame) → Given f → is_for i (parts word) f ≡ true → HasEnded f v

  pub waits_later : (v w : View Asked) → Later v w → (i first : ℕ) → WaitsAt v i first → WaitsAt w i first
  waits_later v w l i first h = record {
    word = h.word;
    found = (let a = l.notes i (is_saw h.word) in let b = h.found in omega (arith, a, b));
    has = h.has;
    alone = λ f given is. ended_still f v w l.notes (h.alone f given is);
  }

  -- each error that is noted as queued more is at such an id
  abbrev pub Waits : View Asked → View Asked → Type 0
  Waits v w = Queues (λ u i first e. WaitsAt u i first) v w

  pub waits_none : (v w : View Asked) → Stays v w → Waits v w
  waits_none = queues_none (λ u i first e. WaitsAt u i first)

  pub waits_then : (u v w : View Asked) → Waits u v → Waits v w → Waits u w
  waits_then = queues_then (λ u i first e. WaitsAt u i first) (λ v w l i first e. waits_later v w l i first)

  module _ (code : ℕ) where
    post_waits : (word : ℕ) (b : Books) (seen : View Asked) (answer : Posted Asked) → AllMet slots Given asked b → (b.starved ≡ true → ⊥) → PostOk slots b.view seen (call_at word) code (attempt_at word) answer → KeptNone answer word seen b.early → Waits b.view seen
    post_waits word b seen (HasLock k) all calm p none_ = waits_none b.view seen (got_stays k.slot b.view seen p.4.0 (parts k.word.0) k.content p.4.1)
    post_waits word b seen IsQueued all calm p none_ = queues_one (λ u i first e. WaitsAt u i first) (id_slot (call_at word)) (id_first (call_at word)) (error_in code (attempt_at word)) b.view seen _ p.0 here
      where
        here : WaitsAt seen (id_slot (call_at word)) (id_first (call_at word))
        here = record {
          word = none_.0;
          found = none_.1.0;
          has = none_.1.1;
          alone = λ f given is. ⊎_elim (λ s. absurd (calm s)) (λ h. h)
              (queued_met slots code b.view word none_.0 (record b { view = seen }) f p.1.1.5 none_.1.1.0 none_.2 is (all_met slots Given asked b (record b { view = seen }) (goes_view slots b seen (did_later (id_slot (call_at word)) b.view seen _ _ p.0).notes) all f given));
        }
    post_waits word b seen _ all calm p none_ = waits_none b.view seen (quiet_stays b.view seen p.0)

    if_waits : (a : Bool) (word : ℕ) (b b' : Books) → AllMet slots Given asked b → (b.starved ≡ true → ⊥) → PostedIf a slots code word b b' → Waits b.view b'.view
    if_waits false word b b' all calm h = waits_none b.view b'.view (books_stay b b' h)
    if_waits true word b b' all calm (inl m) = waits_none b.view b'.view (again_stays slots word b b' m)
    if_waits true word b b' all calm (inr h) = waits_then b.view h.seen b'.view (post_waits word b h.seen h.answer all calm h.posted h.none_kept) (waits_none h.seen b'.view (posted_stays code h.answer (record b { view = h.seen }) b' h.then_))

    at_waits : (p : Plan) → p.slots ≡ slots → (link operation : ℕ) (found : Option AtWord) (b b' : Books) → AllMet slots Given asked b → (b.starved ≡ true → ⊥) → PostedAt p link code operation found b b' → Waits b.view b'.view
    at_waits p is link operation None b b' all calm h = waits_none b.view b'.view (books_stay b b' h.same)
    at_waits p is link operation (Some w) b b' all calm h =
        let v = with_kept (at_index p operation) false w.0 b.view in let u : Books = record b { view = v } in
        waits_then b.view v b'.view (waits_none b.view v (kept_stays b.view v (at_index p operation) false w.0 refl))
        (if_waits (at_word_link w.0 == link) w.0 u b' (all_met slots Given asked b u (goes_view slots b v (same_notes slots b.view v refl)) all) calm (subst (λ (n : ℕ). PostedIf (at_word_link w.0 == link) n code w.0 u b') is h))

    -- what a reader queues behind its reading, where memory was wanting nowhere
    pub all_waits : (p : Plan) → p.slots ≡ slots → (link : ℕ) (os : List ℕ) (b b' : Books) → AllMet slots Given asked b → (b'.starved ≡ true → ⊥) → PostedAll p link code os b b' → Waits b.view b'.view
    all_waits p is link [] b b' all calm h = waits_none b.view b'.view (books_stay b b' h)
    all_waits p is link (o ∷ os) b b' all calm h =
        let first = posted_goes slots code p is link o h.1.0 b h.0 h.1.1 in let rest = all_goes slots code p is link os h.0 b' h.2 in
        waits_then b.view h.0.view b'.view (at_waits p is link o h.1.0 b h.0 all (λ s. calm (rest.starved (first.starved s))) h.1.1) (all_waits p is link os h.0 b' (all_met slots Given asked b h.0 first all) calm h.2)
