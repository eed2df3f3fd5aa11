-- How each call ended of which a reader told, or whoever ended those that were left: by a response that a link gave, or with a code, and then by what is known of whoever posted it.
use Rattle.std.proofs.Common.{◌≡◌, ℕ, ◌<◌, List, refl, arith}
use Rattle.std.proofs.lemmas.Nat.{div-add-mod'}
use Rattle.sock_words.specs.declared.outcome.Outcome.{Outcome}
use Rattle.sock_words.specs.declared.outcome.Outcome.TheVariants.{CallFailed}
use Rattle.corr_core.specs.IdSlotLaw.{is_ended_at}
use Rattle.corr_core.specs.IdSlotWord.{Parts, parts, locked_word}
use Rattle.corr_core.specs.declared.marks.Plan.{Plan}
use Rattle.corr_core.specs.declared.marks.View.{View}
use Rattle.corr_id.specs.id_rule.specs.LawfulIdTable.{notes_of}
use Rattle.sock_message.specs.Asked.{Asked}
use Rattle.sock_message.specs.brpc_model.specs.Frame as model
use Rattle.sock_message.specs.brpc_model.specs.ResponseOutcome.{ending_of}
use Rattle.corr_id.specs.declared.calls.IdLock.{IdLock}
use Rattle.corr_id.specs.declared.posts.Posted.{Posted}
use Rattle.corr_id.specs.declared.posts.Posted.TheVariants.{Locked as HasLock, Queued as IsQueued}
use Rattle.corr_id.specs.SeatBehindIdCalls.{is_saw, Found, GotLock}
use Rattle.corr_id.specs.PostAnswers.{IsTimely, PostOk}
use Rattle.attempts_told.specs.Below.PrpcFrame.Frame.{Frame}
use Rattle.attempts_told.specs.Below.RpcClient.Told.{Told}
use Rattle.attempts_told.specs.Below.RpcReader.ReaderBooks.{Books, id_of}
use Rattle.attempts_told.specs.Below.RpcReader.PostingAtReadingEnd.{PostedAll, call_at, attempt_at}
use Rattle.attempts_told.specs.Below.RpcReader.CallsLeftAfterReading.{RestEnded}
use Rattle.attempts_told.specs.call_whys.specs.call_told.specs.TellersOfCallEnds.{IsGivenResponse}
use Rattle.attempts_told.specs.call_whys.specs.call_told.specs.Least.{is_locked_for}
use Rattle.attempts_told.specs.call_whys.specs.call_told.proofs.ToldCallEnds.{HasLocked, got_locked}
use Rattle.attempts_told.specs.call_whys.specs.call_told.proofs.CallEndsToldStepwise as steps
use Rattle.failed_reasons.proofs.ReaderPosts.{IsPost, post_later, post_found}
use Rattle.failed_reasons.proofs.NotedErrorsInViews.{Later, later_then, same_stays, quiet_stays, kept_stays, ended_stays, ended_over, got_stays, did_later}
use Rattle.sock_words.specs.PackedWords.{id_slot}
use Rattle.sock_words.specs.Totals.{total}

-- the seat found a word of this slot open and locked it, with this call as its content; w is the word of the lock
pub record HadLock (slot : ℕ) (w : Parts) (call : Asked) (v : View Asked) : Type 0 where
  pub word : ℕ
  pub found : Found slot word v
  pub was_open : (parts word).state ≡ 1
  pub word_is : w ≡ locked_word (parts word)
  pub locked : HasLocked slot w.first call.operation v

lock_later : (slot : ℕ) (w : Parts) (call : Asked) (u v : View Asked) → Later u v → HadLock slot w call u → HadLock slot w call v
lock_later slot w call u v l h = record {
  word = h.word;
  found = (let a = l.notes slot (is_saw h.word) in let b = h.found in omega (arith, a, b));
  was_open = h.was_open;
  word_is = h.word_is;
  locked = (let a = l.notes slot (is_locked_for w.first call.operation) in let b = h.locked in omega (arith, a, b));
}

lock_got : (slot word : ℕ) (w : Parts) (call : Asked) (u v : View Asked) → GotLock slot u v word w call → HadLock slot w call v
lock_got slot word w call u v got = record { word = word; found = got.found; was_open = got.was_open; word_is = got.word_is; locked = got_locked slot u v word w call got }

-- so many links, of which each gave these bytes; the code with which calls end, and what is known where the one of a lock does
module _ (q : Plan) (links : ℕ) (gave : ℕ → List ℕ) (code : ℕ) (Known : View Asked → ℕ → Parts → Type 0) where
  -- by a response that a link gave, or with the code
  pub data EndsBy (v : View Asked) (slot : ℕ) (w : Parts) (by : Outcome) : Type 0 where
    on_response : (f : model.Frame) → IsGivenResponse links gave slot w f → by ≡ ending_of (id_of slot w) f → EndsBy v slot w by
    on_code : Known v slot w → by ≡ CallFailed (id_of slot w) code → EndsBy v slot w by

  -- the lock of the call whose end is told
  pub record OfLock (x : Told) : Type 0 where
    pub slot : ℕ
    pub inside : slot < q.slots
    pub word : Parts
    pub call : Asked
    pub number : x.number ≡ call.operation

  -- what is told is the end of the call of a lock, at the attempt of the lock
  pub record ToldEnd (v : View Asked) (x : Told) : Type 0 where
    pub of : OfLock x
    pub lock : HadLock of.slot of.word of.call v
    pub over : 0 < total (is_ended_at of.word.first of.word.attempt) (notes_of of.slot v.notes)
    pub by : EndsBy v of.slot of.word x.outcome

  abbrev pub Step : Books → Books → Type 0
  Step b b' = steps.Step q links gave Later ToldEnd b b'

  module _ (stays : (u v : View Asked) → Later u v → (slot : ℕ) (w : Parts) → Known u slot w → Known v slot w) where
    by_later : (u v : View Asked) → Later u v → (slot : ℕ) (w : Parts) (by : Outcome) → EndsBy u slot w by → EndsBy v slot w by
    by_later u v l slot w by (on_response f given e) = on_response f given e
    by_later u v l slot w by (on_code known e) = on_code (stays u v l slot w known) e

    -- an end by what was known before
    told_now : (b b' : Books) (slot : ℕ) (w : Parts) (call : Asked) (by : Outcome) → steps.Ends q links gave Later ToldEnd b b' slot w call by → EndsBy b.view slot w by → ToldEnd b'.view (steps.end_of call by)
    told_now b b' slot w call by e why = let later = (ended_stays slot w.first b.view b'.view e.ended.ended).later in record {
      of = record { slot = slot; inside = e.inside; word = w; call = call; number = refl };
      lock = lock_later slot w call b.view b'.view later (lock_got slot e.word w call e.from b.view e.got);
      over = ended_over slot w.first b.view b'.view e.ended.ended;
      by = by_later b.view b'.view later slot w by why;
    }

    pub laws : steps.Laws q links gave Later ToldEnd
    laws = record {
      in_turn = later_then;
      same = λ u v e. (same_stays u v e).later;
      kept = λ u v place own word e. (kept_stays u v place own word e).later;
      quiet = λ u v s. (quiet_stays u v s).later;
      got = λ slot word w call u v g. (got_stays slot u v word w call g).later;
      ended = λ slot first n u v e. (ended_stays slot first u v e).later;
      lasts = λ u v l x t. record {
        of = t.of;
        lock = lock_later t.of.slot t.of.word t.of.call u v l t.lock;
        over = (let a = l.notes t.of.slot (is_ended_at t.of.word.first t.of.word.attempt) in let b = t.over in omega (arith, a, b));
        by = by_later u v l t.of.slot t.of.word x.outcome t.by;
      };
      response = λ b b' slot w call by e f given is. told_now b b' slot w call by e (on_response f given is);
    }

    -- what is left of calls
    pub rest_step : ((v : View Asked) (slot : ℕ) (w : Parts) → w.first < 4294967296 → Known v slot w) → (os : List ℕ) (b b' : Books) → RestEnded q code os b b' → Step b b'
    rest_step always = steps.rest_step q links gave Later ToldEnd laws code (λ b b' slot w call low e. told_now b b' slot w call _ e (on_code (always b.view slot w low) refl))

-- ## By a reader's post

-- the call of the lock is that which such a word names, and its attempt the one of the word
abbrev pub IsPostFor : Plan → ℕ → View Asked → ℕ → Parts → Type 0
IsPostFor q link v slot w = (word : ℕ) × IsPost q link v word × (id_of slot w ≡ call_at word) × (w.first < 4294967296) × IsTimely (attempt_at word) w.attempt

pub for_later : (q : Plan) (link : ℕ) (u v : View Asked) → Later u v → (slot : ℕ) (w : Parts) → IsPostFor q link u slot w → IsPostFor q link v slot w
for_later q link u v l slot w h = (h.0, post_later q link u v l h.0 h.1, h.2, h.3, h.4)

module _ (q : Plan) (links : ℕ) (gave : ℕ → List ℕ) (code link : ℕ) where
  abbrev Known : View Asked → ℕ → Parts → Type 0
  Known = IsPostFor q link

  known : (word : ℕ) (k : IdLock Asked) (u v : View Asked) → IsPost q link v word → PostOk q.slots u v (call_at word) code (attempt_at word) (HasLock k) → Known v k.slot (parts k.word.0)
  known word k u v is post = let whole = div-add-mod' (call_at word) 4294967296 in let slot = post.0 in let first = post.2 in (word, is, omega (arith, whole, slot, first), (let l = k.fits.low in omega (arith, l)), post.3)

  post_seen : (v w : View Asked) (word : ℕ) (answer : Posted Asked) → PostOk q.slots v w (call_at word) code (attempt_at word) answer → Later v w
  post_seen v w word (HasLock k) p = (got_stays k.slot v w p.4.0 (parts k.word.0) k.content p.4.1).later
  post_seen v w word IsQueued p = did_later (id_slot (call_at word)) v w _ _ p.0
  post_seen v w word _ p = (quiet_stays v w p.0).later

  pub posts_step : (os : List ℕ) (b b' : Books) → PostedAll q link code os b b' → Step q links gave code Known b b'
  posts_step = steps.posted_all q links gave Later (ToldEnd q links gave code Known) (laws q links gave code Known (for_later q link)) code link (IsPost q link) (post_found q link code) (post_later q link) post_seen
      (λ word k u b b' is post e. told_now q links gave code Known (for_later q link) b b' k.slot _ k.content _ e (on_code (known word k u b.view is post) refl))
