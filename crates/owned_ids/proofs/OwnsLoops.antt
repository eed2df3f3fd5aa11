-- Programs that store at words and homes of an operation's own id alone: what holds behind a step, or behind a loop aside of the sockets, holds before it.
use Rattle.std.proofs.Common.{◌≡◌, ℕ, ◌+◌, ◌<◌, inl, inr, ⊎_elim, ◌==◌, ◌&&◌, not, nat_lt, nat_le, Bool, true, false, cond, eqb-true, eq-eqb, List, [], ◌∷◌, ◌++◌, length, refl, sym, ap, ◌∙◌, subst, arith}
use Rattle.std.specs.Prelude.{Option, Some, None}
use Rattle.sock_words.specs.declared.outcome.Outcome.{Outcome}
use Rattle.sock_words.specs.declared.outcome.Outcome.TheVariants.{CallFailed}
use Rattle.sock_io.specs.declared.link.Put.{Put}
use Rattle.sock_io.specs.declared.link.Ready.{Ready}
use Rattle.sock_model.specs.declared.chain.Heading.{Heading}
use Rattle.call_owing.specs.Below.sock_steps.proofs.SumsAsMarksChange.{either_way}
use Rattle.corr_core.specs.IdSlotWord.{parts, posted_word, unlocked_word, code_of, error_of}
use Rattle.corr_core.specs.IdSlotLaw.{LAST}
use Rattle.corr_core.specs.EndedByRangeOrAttempt.{ends_call}
use Rattle.corr_core.specs.IdRangeVersions.{is_early}
use Rattle.seat_programs.specs.brpc_model.specs.Frame.{Frame}
use Rattle.seat_programs.specs.brpc_model.specs.FrameStream as streams
use Rattle.seat_programs.specs.brpc_model.specs.ResponseOutcome.{ending_of}
use Rattle.seat_programs.specs.sock_message.specs.Asked.{Asked}
use Rattle.seat_programs.specs.TableSteps.{TableStep, OnName, LoadOpen}
use Rattle.seat_programs.specs.Asides.{Step, Found, ClaimId, PutCall, MakeId, StoreCall, LoadCall, StoreAt, LoadAt, LoadIdWord, LockId, PostId, UnlockId, EndId, FreeId, TakeCall, TakeBytes, Taking, Bytes, Nothing, Closed}
use Rattle.seat_programs.specs.LoopHeads.{Head, Exit, Retry, Sought, First, Version, Reading, Posts, Unlocks, Decides, Locks, Joins, Opens, Reads, Discards, Posting, WasGone, WasStale, WasCrowded, WasQueued, HasLocked, Unlocking, IsOpen, HasNext, Deciding, HasEnded, GoesOn, Locking, NotThere, Has, Ended}
use Rattle.seat_programs.specs.Programs.{Program, Do, Say, Sent, Rest, TakeMessage, TakeHome, PutHome, PutBytes, AskReady, Write, Aside, Round, Keep, Retries}
use Rattle.seat_programs.specs.Writings.{Writing}
use Rattle.seat_programs.specs.PostPrograms.{packed, is_first, is_sought, is_stale, is_full, judged, posts_round, post_with, posted, post, popped, unlocks_round, end_id, decide, decided, unlocked, decides_round, locking, locks_round, joins_round}
use Rattle.seat_programs.specs.ReaderProgram.{LIMIT, slot_in, version_in, has_response, answer, answered, responses, last_of, ended_by, read_on, took, room_of, discarded, opens_round}
use Rattle.seat_programs.specs.LoopRounds.{round}
use Rattle.call_owing.specs.Owns.{Behind, Other, HasClaimed, HasPut, HasLock, HasTaken, Grows, IsIdOf, MayOwn, taken_behind, behind, IsOfSought, AtOwn, LeavesLock, behind_head, Owns}
use Rattle.call_owing.specs.Below.id_runs.proofs.IdLoopRounds.{and_left}
use Rattle.sock_words.specs.PackedWords.{call_id, id_slot, id_first, bit}

-- ## More calls with ids

pub grows_on : (has more most : ℕ → ℕ) → Grows has more → Grows more most → Grows has most
grows_on has more most g h o some_ = h o (λ z. some_ (sym (g o some_) ∙ z)) ∙ g o some_

pub grows_same : (has : ℕ → ℕ) → Grows has has
grows_same has o some_ = refl

pub id_grows : (has more : ℕ → ℕ) → Grows has more → (o id : ℕ) → IsIdOf has o id → IsIdOf more o id
id_grows has more g o id x = (x.0, g o (λ z. x.0 (sym x.1 ∙ z)) ∙ x.1)

may_grows : (has more : ℕ → ℕ) → Grows has more → (left : ℕ → Bool) (b : Behind) (step : Step) → MayOwn has left b step → MayOwn more left b step
may_grows has more g left b (PutCall i asked) m = ⊎_elim (λ x. inl x) (λ x. inr (x.0, x.1, id_grows has more g asked.operation (call_id i x.0) x.2)) m
may_grows has more g left b (MakeId i range) m = m
may_grows has more g left b (StoreAt o w) m = (m.0, m.1, m.2, id_grows has more g o m.0 m.3, m.4, m.5, m.6)
may_grows has more g left b _ m = tt

at_grows : (has more : ℕ → ℕ) → Grows has more → (b : Behind) (head : Head) → AtOwn has b head → AtOwn more b head
at_grows has more g b (Locks i sought w) a = a
at_grows has more g b (Decides id asked w e) a = (a.0, a.1, id_grows has more g asked.operation (call_id (id_slot id) a.0) a.2)
at_grows has more g b _ a = tt

-- what a program does it does where more calls have ids
pub owns_grows : (has more : ℕ → ℕ) → Grows has more → (left : ℕ → Bool) (b : Behind) (program : Program) → Owns has left b program → Owns more left b program
owns_grows has more g left b (Do call next) r = λ found fits most h. r found fits most (grows_on has more most g h)
owns_grows has more g left b (Say o outcome next) r = owns_grows has more g left b next r
owns_grows has more g left b (Sent o next) r = owns_grows has more g left b next r
owns_grows has more g left b Rest r = tt
owns_grows has more g left b (TakeMessage q next) r = λ heading bytes most h. r heading bytes most (grows_on has more most g h)
owns_grows has more g left b (TakeHome k next) r = λ n most h. r n most (grows_on has more most g h)
owns_grows has more g left b (PutHome k n after) r = λ most h. r most (grows_on has more most g h)
owns_grows has more g left b (PutBytes k asked bytes next) r = λ answer most h. r answer most (grows_on has more most g h)
owns_grows has more g left b (AskReady k next) r = λ answer most h. r answer most (grows_on has more most g h)
owns_grows has more g left b (Write w after) r = λ most h. r most (grows_on has more most g h)
owns_grows has more g left b (Aside step next) r = (may_grows has more g left b step r.0, λ found most h. r.1 found most (grows_on has more most g h))
owns_grows has more g left b (Round head next) r = (at_grows has more g b head r.0, λ exit most h. r.1 exit most (grows_on has more most g h))
owns_grows has more g left b (Keep q next) r = (r.0, owns_grows has more g left b next r.1)
owns_grows has more g left b (Retries requests after) r = owns_grows has more g left Other after r

-- ## Whatever the latest step was

-- what a program does where nothing is known of the seat's latest step it does behind any
pub owns_any : (has : ℕ → ℕ) (left : ℕ → Bool) (b : Behind) (program : Program) → Owns has left Other program → Owns has left b program
owns_any has left b (Say o outcome next) r = owns_any has left b next r
owns_any has left b (Sent o next) r = owns_any has left b next r
owns_any has left b Rest r = tt
owns_any has left b (Aside (PutCall i asked) next) r = absurd (⊎_elim (λ e. let z : Other ≡ HasClaimed i = e in cc) (λ x. let z : Other ≡ HasTaken i x.0 = x.1 in cc) r.0)
owns_any has left b (Aside (MakeId i range) next) r = absurd (let m = r.0 in let z : Other ≡ HasPut i m.0 = m.1 in cc)
owns_any has left b (Aside (TakeCall i) next) r = (tt, λ found more g f. owns_any more left (taken_behind i b) (next found) (r.1 found more g (λ x e. absurd (let z : Other ≡ HasLock i x = e in cc))))
owns_any has left b (Aside (StoreAt o w) next) r = r
owns_any has left b (Aside (ClaimId i) next) r = r
owns_any has left b (Aside (StoreCall o id) next) r = r
owns_any has left b (Aside (LoadCall o) next) r = r
owns_any has left b (Aside (LoadAt o) next) r = r
owns_any has left b (Aside (LoadIdWord i) next) r = r
owns_any has left b (Aside (LockId i from) next) r = r
owns_any has left b (Aside (PostId i from e) next) r = r
owns_any has left b (Aside (UnlockId i from advance) next) r = r
owns_any has left b (Aside (EndId i) next) r = r
owns_any has left b (Aside (FreeId i) next) r = r
owns_any has left b (Aside (TakeBytes k room) next) r = r
owns_any has left b (Round (Decides id asked w e) next) r = absurd (let m = r.0 in let z : Other ≡ HasTaken (id_slot id) m.0 = m.1 in cc)
owns_any has left b (Round (Locks i sought w) next) r = r
owns_any has left b (Round (Posts id e w) next) r = r
owns_any has left b (Round (Unlocks i w advance) next) r = r
owns_any has left b (Round (Joins id) next) r = r
owns_any has left b (Round (Opens o) next) r = r
owns_any has left b (Round (Reads x) next) r = r
owns_any has left b (Round (Discards k total) next) r = r
owns_any has left b (Keep q next) r = (r.0, owns_any has left b next r.1)
owns_any has left b _ r = r

module _ (has : ℕ → ℕ) (left : ℕ → Bool) where
  -- from now on, whatever the seat's latest step was; and behind a lock of this slot
  pub record Later (program : Program) : Type 0 where
    pub goes : (more : ℕ → ℕ) → Grows has more → (b : Behind) → Owns more left b program

  abbrev pub Locked : ℕ → Program → Type 0
  Locked i program = (more : ℕ → ℕ) → Grows has more → (f : ℕ) → Owns more left (HasLock i f) program

  pub later : (program : Program) → Owns has left Other program → Later program
  later program r = record { goes = λ more g b. owns_any more left b program (owns_grows has more g left Other program r) }

  -- ## Steps

  pub step : (call : TableStep) (next : ℕ → Program) → ((found : ℕ) → Later (next found)) → Later (Do call next)
  step call next r = record { goes = λ more g b found fits most h. (r found).goes most (grows_on has more most g h) Other }

  pub say : (o : ℕ) (outcome : Outcome) (next : Program) → Later next → Later (Say o outcome next)
  say o outcome next r = record { goes = λ more g b. r.goes more g b }

  pub sent : (o : ℕ) (next : Program) → Later next → Later (Sent o next)
  sent o next r = record { goes = λ more g b. r.goes more g b }

  pub message : (q : ℕ) (next : Heading → List ℕ → Program) → ((heading : Heading) (bytes : List ℕ) → Later (next heading bytes)) → Later (TakeMessage q next)
  message q next r = record { goes = λ more g b heading bytes most h. (r heading bytes).goes most (grows_on has more most g h) Other }

  pub home : (k : ℕ) (next : ℕ → Program) → ((n : ℕ) → Later (next n)) → Later (TakeHome k next)
  home k next r = record { goes = λ more g b n most h. (r n).goes most (grows_on has more most g h) Other }

  pub puts_home : (k n : ℕ) (after : Program) → Later after → Later (PutHome k n after)
  puts_home k n after r = record { goes = λ more g b most h. r.goes most (grows_on has more most g h) Other }

  pub put : (k : ℕ) (asked : Bool) (bytes : List ℕ) (next : Put → Program) → ((answer : Put) → Later (next answer)) → Later (PutBytes k asked bytes next)
  put k asked bytes next r = record { goes = λ more g b answer most h. (r answer).goes most (grows_on has more most g h) Other }

  pub ask : (k : ℕ) (next : Ready → Program) → ((answer : Ready) → Later (next answer)) → Later (AskReady k next)
  ask k next r = record { goes = λ more g b answer most h. (r answer).goes most (grows_on has more most g h) Other }

  pub write : (w : Writing) (after : Program) → Later after → Later (Write w after)
  write w after r = record { goes = λ more g b most h. r.goes most (grows_on has more most g h) Other }

  -- a step aside that stores nothing of a call's own
  abbrev pub IsPlain : Step → Type 0
  IsPlain (PutCall i asked) = ⊥
  IsPlain (MakeId i range) = ⊥
  IsPlain (StoreAt o w) = ⊥
  IsPlain other = Unit {0}

  pub aside : (step : Step) → IsPlain step → (next : Found step → Program) → ((found : Found step) → Later (next found)) → Later (Aside step next)
  aside (PutCall i asked) p next r = absurd p
  aside (MakeId i range) p next r = absurd p
  aside (StoreAt o w) p next r = absurd p
  aside (ClaimId i) p next r = record { goes = λ more g b. (tt, λ found most h _. (r found).goes most (grows_on has more most g h) (behind (ClaimId i) found b)) }
  aside (LockId i from) p next r = record { goes = λ more g b. (tt, λ found most h _. (r found).goes most (grows_on has more most g h) (behind (LockId i from) found b)) }
  aside (PostId i from e) p next r = record { goes = λ more g b. (tt, λ found most h _. (r found).goes most (grows_on has more most g h) (behind (PostId i from e) found b)) }
  aside (UnlockId i from advance) p next r = record { goes = λ more g b. (tt, λ found most h _. (r found).goes most (grows_on has more most g h) (behind (UnlockId i from advance) found b)) }
  aside (TakeCall i) p next r = record { goes = λ more g b. (tt, λ found most h _. (r found).goes most (grows_on has more most g h) (behind (TakeCall i) found b)) }
  aside _ p next r = record { goes = λ more g b. (tt, λ found most h _. (r found).goes most (grows_on has more most g h) Other) }

  pub keep : (r : Retry) (next : Program) → r.attempt < 64 → Later next → Later (Keep r next)
  keep r next few x = record { goes = λ more g b. (few, x.goes more g b) }

  pub retries : (requests : ℕ) (after : Program) → Later after → Later (Retries requests after)
  retries requests after r = record { goes = λ more g b. r.goes more g Other }

  -- ## Errors

  -- behind a post: who has the lock knows that of the range
  abbrev pub AfterPost : ℕ → (Posting → Program) → Posting → Type 0
  AfterPost i k (HasLocked w) = Locked i (k (HasLocked w))
  AfterPost i k other = Later (k other)

  posts_again : (id e found : ℕ) (k : Posting → Program) → ((x : Posting) → AfterPost (id_slot id) k x) → Later (Round (Posts id e found) k)
  posts_again id e found k after = record { goes = λ more g b. (tt, λ exit most h f _. by_exit exit most (grows_on has more most g h) f) }
    where
      by_exit : (exit : Posting) (most : ℕ → ℕ) → Grows has most → (f : ℕ) → Owns most left (behind_head (Posts id e found) f exit) (k exit)
      by_exit (HasLocked w) most h f = after (HasLocked w) most h f
      by_exit WasGone most h f = (after WasGone).goes most h Other
      by_exit WasStale most h f = (after WasStale).goes most h Other
      by_exit (WasCrowded x y) most h f = (after (WasCrowded x y)).goes most h Other
      by_exit WasQueued most h f = (after WasQueued).goes most h Other

  judged_goes : (id e found : ℕ) (k : Posting → Program) → ((x : Posting) → AfterPost (id_slot id) k x) → Later (judged id e found k)
  judged_goes id e found k after = either_way (not (is_first (id_first id) (parts found))) _ _ Later (after WasGone)
      (either_way (is_stale e (parts found)) _ _ Later (after WasStale)
      (either_way (is_full (parts found)) _ _ Later (after (WasCrowded (code_of (parts found).oldest) (code_of (parts found).second))) (posts_again id e found k after)))

  posts_goes : (id e from : ℕ) (k : Posting → Program) → ((x : Posting) → AfterPost (id_slot id) k x) → Later (posts_round id e from k)
  posts_goes id e from k after = record { goes = λ more g b. (tt, λ found most h _. by_hit (found == from) ((parts from).state == 1) found most (grows_on has more most g h)) }
    where
      by_hit : (hit one : Bool) (found : ℕ) (most : ℕ → ℕ) → Grows has most → Owns most left (cond hit (cond one (HasLock (id_slot id) (parts found).first) Other) Other) (cond hit (cond one (k (HasLocked (packed (posted_word (parts from) e)))) (k WasQueued)) (judged id e found k))
      by_hit true true found most h = after (HasLocked (packed (posted_word (parts from) e))) most h (parts found).first
      by_hit true false found most h = (after WasQueued).goes most h Other
      by_hit false one found most h = (judged_goes id e found k after).goes most h Other

  pub post_with_goes : (id e : ℕ) (k : Posting → Program) → ((x : Posting) → AfterPost (id_slot id) k x) → Later (post_with id e k)
  post_with_goes id e k after = aside (LoadIdWord (id_slot id)) tt _ (λ found. judged_goes id e found k after)

  -- ## Locks given back, and decisions

  abbrev pub AfterUnlock : ℕ → (Unlocking → Program) → Unlocking → Type 0
  AfterUnlock i k (HasNext w e) = Locked i (k (HasNext w e))
  AfterUnlock i k other = Later (k other)

  pub unlocks_again : (i w : ℕ) (advance : Bool) (k : Unlocking → Program) → ((x : Unlocking) → AfterUnlock i k x) → Later (Round (Unlocks i w advance) k)
  unlocks_again i w advance k after = record { goes = λ more g b. (tt, λ exit most h f _. by_exit exit most (grows_on has more most g h) f) }
    where
      by_exit : (exit : Unlocking) (most : ℕ → ℕ) → Grows has most → (f : ℕ) → Owns most left (behind_head (Unlocks i w advance) f exit) (k exit)
      by_exit (HasNext x e) most h f = after (HasNext x e) most h f
      by_exit (IsOpen x) most h f = (after (IsOpen x)).goes most h Other

  popped_goes : (i oldest word : ℕ) (k : Unlocking → Program) → ((x : Unlocking) → AfterUnlock i k x) → Locked i (popped i oldest word k)
  popped_goes i oldest word k after = λ more g f. either_way (oldest == 0) _ _ (Owns more left (HasLock i f)) ((after (IsOpen word)).goes more g (HasLock i f))
      (either_way (is_stale oldest (parts word)) _ _ (Owns more left (HasLock i f)) ((unlocks_again i word false k after).goes more g (HasLock i f)) (after (HasNext word oldest) more g f))

  unlocks_goes : (i from : ℕ) (advance : Bool) (k : Unlocking → Program) → ((x : Unlocking) → AfterUnlock i k x) → Later (unlocks_round i from advance k)
  unlocks_goes i from advance k after = record {
    goes = λ more g b. (
      tt,
      λ found most h _. let hs = grows_on has more most g h in either_way (found == from) _ _ (Owns most left (HasLock i (parts found).first))
          (popped_goes i (parts from).oldest (packed (unlocked_word (parts from) (bit advance))) k after most hs (parts found).first) ((unlocks_again i found advance k after).goes most hs (HasLock i (parts found).first)),
    );
  }

  pub end_id_goes : (i : ℕ) (next : Program) → Later next → Later (end_id i next)
  end_id_goes i next after = aside (EndId i) tt _ (λ found. either_way (nat_le ((parts found).first + (parts found).range) LAST) _ _ Later (aside (FreeId i) tt _ (λ _. after)) after)

  -- whoever has the lock takes the call out, which is that of the range
  pub decide_goes : (id word e : ℕ) (k : Deciding → Program) → ((x : Deciding) → Later (k x)) → Locked (id_slot id) (decide id word e k)
  decide_goes id word e k after = λ more g f. (
    tt,
    λ asked most h finds. subst (λ b. Owns most left b (Round (Decides id asked word e) k)) (sym (ap (λ b. cond b (HasTaken (id_slot id) f) Other) (eq-eqb (id_slot id) (id_slot id) refl)))
        ((f, refl, finds f refl), λ exit last h₂ x _. (after exit).goes last (grows_on has most last (grows_on has more most g h) h₂) Other),
  )

  unlocked_goes : (i : ℕ) (r : Retry) (k : Deciding → Program) → id_slot r.id ≡ i → r.attempt < 64 → ((x : Deciding) → Later (k x)) → (exit : Unlocking) → AfterUnlock i (unlocked r k) exit
  unlocked_goes i r k slot few after (IsOpen word) = keep r (k GoesOn) few (after GoesOn)
  unlocked_goes i r k slot few after (HasNext word e) = λ more g f. (few, subst (λ j. Owns more left (HasLock j f) (decide r.id word e k)) slot (decide_goes r.id word e k after more g f))

  decides_goes : (more : ℕ → ℕ) → Grows has more → (id : ℕ) (asked : Asked) (word e : ℕ) (k : Deciding → Program) → ((x : Deciding) → Later (k x)) → (f : ℕ) → IsIdOf more asked.operation (call_id (id_slot id) f) → Owns more left (HasTaken (id_slot id) f) (decides_round id asked word e k)
  decides_goes more g id asked word e k after f own = either_way (ends_call (parts word) e) _ _ (Owns more left (HasTaken (id_slot id) f))
      ((end_id_goes (id_slot id) (k (HasEnded asked.operation (code_of e))) (after (HasEnded asked.operation (code_of e)))).goes more g (HasTaken (id_slot id) f)) (
        inr (f, refl, own),
        λ found most h _. (unlocks_again (id_slot id) word true (unlocked (record { id = id; attempt = (parts word).attempt + 1 }) k)
            (unlocked_goes (id_slot id) (record { id = id; attempt = (parts word).attempt + 1 }) k refl (omega arith) after)).goes most (grows_on has more most g h) Other,
      )

  pub decided_goes : (id : ℕ) (next : Program) → Later next → (exit : Deciding) → Later (decided id next exit)
  decided_goes id next after (HasEnded o c) = say o (CallFailed id c) next after
  decided_goes id next after GoesOn = after

  pub posted_goes : (id e : ℕ) (next : Program) → Later next → (exit : Posting) → AfterPost (id_slot id) (posted id e next) exit
  posted_goes id e next after (HasLocked word) = decide_goes id word e (decided id next) (decided_goes id next after)
  posted_goes id e next after _ = after

  pub post_goes : (id c attempt : ℕ) (next : Program) → Later next → Later (post id c attempt next)
  post_goes id c attempt next after = post_with_goes id (error_of c attempt) (posted id (error_of c attempt) next) (posted_goes id (error_of c attempt) next after)

  -- ## Locks that are sought

  abbrev pub AfterLock : ℕ → Sought → (Locking → Program) → Locking → Type 0
  AfterLock i sought k (Has w) = (more : ℕ → ℕ) → Grows has more → (f : ℕ) → LeavesLock sought f (Has w) → Owns more left (HasLock i f) (k (Has w))
  AfterLock i sought k other = Later (k other)

  pub locks_again : (i : ℕ) (sought : Sought) (w : Option ℕ) (k : Locking → Program) → IsOfSought sought w → ((x : Locking) → AfterLock i sought k x) → Later (Round (Locks i sought w) k)
  locks_again i sought w k is after = record { goes = λ more g b. (is, λ exit most h f l. by_exit exit most (grows_on has more most g h) f l) }
    where
      by_exit : (exit : Locking) (most : ℕ → ℕ) → Grows has most → (f : ℕ) → LeavesLock sought f exit → Owns most left (behind_head (Locks i sought w) f exit) (k exit)
      by_exit (Has x) most h f l = after (Has x) most h f l
      by_exit (NotThere x) most h f l = (after (NotThere x)).goes most h Other

  sought_is : (sought : Sought) (found : ℕ) → is_sought sought (parts found) ≡ true → IsOfSought sought (Some found)
  sought_is (First x) found e = eqb-true (parts found).first x (and_left ((parts found).first == x) (not ((parts found).state == 0)) e)
  sought_is (Version v) found e = tt

  none_sought : (sought : Sought) → IsOfSought sought None
  none_sought (First x) = tt
  none_sought (Version v) = tt

  locking_goes : (i : ℕ) (sought : Sought) (found : ℕ) (k : Locking → Program) → ((x : Locking) → AfterLock i sought k x) → Later (locking i sought found k)
  locking_goes i sought found k after = by_sought (is_sought sought (parts found)) refl
    where
      by_sought : (s : Bool) → is_sought sought (parts found) ≡ s → Later (cond (not s) (k (NotThere found)) (cond ((parts found).state == 1) (Round (Locks i sought (Some found)) k) (Round (Locks i sought None) k)))
      by_sought false e = after (NotThere found)
      by_sought true e = either_way ((parts found).state == 1) _ _ Later (locks_again i sought (Some found) k (sought_is sought found e) after) (locks_again i sought None k (none_sought sought) after)

  locks_goes : (i : ℕ) (sought : Sought) (word : Option ℕ) (k : Locking → Program) → IsOfSought sought word → ((x : Locking) → AfterLock i sought k x) → Later (locks_round i sought word k)
  locks_goes i sought None k is after = aside (LoadIdWord i) tt _ (λ found. locking_goes i sought found k after)
  locks_goes i sought (Some from) k is after = record { goes = λ more g b. (tt, λ found most h _. by_hit (found == from) found refl most (grows_on has more most g h)) }
    where
      leaves : (s : Sought) (found w : ℕ) → found ≡ from → IsOfSought s (Some from) → LeavesLock s (parts found).first (Has w)
      leaves (First x) found w e is = ap (λ n. (parts n).first) e ∙ is
      leaves (Version v) found w e is = tt

      by_hit : (hit : Bool) (found : ℕ) → (found == from) ≡ hit → (most : ℕ → ℕ) → Grows has most → Owns most left (cond hit (HasLock i (parts found).first) Other) (cond hit (k (Has (packed (posted_word (parts from) 0)))) (locking i sought found k))
      by_hit true found e most h = after (Has (packed (posted_word (parts from) 0))) most h (parts found).first (leaves sought found (packed (posted_word (parts from) 0)) (eqb-true found from e) is)
      by_hit false found e most h = (locking_goes i sought found k after).goes most h Other

  -- ## Plain loops

  pub joins_again : (id : ℕ) (k : ℕ → Program) → ((x : ℕ) → Later (k x)) → Later (Round (Joins id) k)
  joins_again id k after = record { goes = λ more g b. (tt, λ exit most h f _. (after exit).goes most (grows_on has more most g h) Other) }

  joins_goes : (id : ℕ) (k : ℕ → Program) → ((x : ℕ) → Later (k x)) → Later (joins_round id k)
  joins_goes id k after = aside (LoadIdWord (id_slot id)) tt _ (λ found. either_way (is_first (id_first id) (parts found)) _ _ Later (joins_again id k after) (after found))

  pub opens_again : (o : ℕ) (k : ℕ → Program) → ((x : ℕ) → Later (k x)) → Later (Round (Opens o) k)
  opens_again o k after = record { goes = λ more g b. (tt, λ exit most h f _. (after exit).goes most (grows_on has more most g h) Other) }

  opens_goes : (o : ℕ) (k : ℕ → Program) → ((x : ℕ) → Later (k x)) → Later (opens_round o k)
  opens_goes o k after = step (OnName (LoadOpen o)) _ (λ word. either_way (word == 0) _ _ Later (opens_again o k after) (after word))

  pub reads_again : (r : Reading) (k : Ended → Program) → ((x : Ended) → Later (k x)) → Later (Round (Reads r) k)
  reads_again r k after = record { goes = λ more g b. (tt, λ exit most h f _. (after exit).goes most (grows_on has more most g h) Other) }

  pub discards_again : (l total : ℕ) (k : ℕ → Program) → ((x : ℕ) → Later (k x)) → Later (Round (Discards l total) k)
  discards_again l total k after = record { goes = λ more g b. (tt, λ exit most h f _. (after exit).goes most (grows_on has more most g h) Other) }

  -- ## Reading

  pub answer_goes : (frame : Frame) (first : ℕ) (next : Program) → Later next → Later (answer frame first next)
  answer_goes frame first next after = aside (TakeCall (slot_in frame)) tt _ (λ asked. end_id_goes (slot_in frame) (Say asked.operation (ending_of (call_id (slot_in frame) first) frame) next) (say asked.operation (ending_of (call_id (slot_in frame) first) frame) next after))

  answered_goes : (frame : Frame) (kept : List Frame) (k : List Frame → Program) → ((x : List Frame) → Later (k x)) → (exit : Locking) → AfterLock (slot_in frame) (Version (version_in frame)) (answered frame kept k) exit
  answered_goes frame kept k after (NotThere found) = after (cond (is_early (version_in frame) (parts found)) (kept ++ frame ∷ []) kept)
  answered_goes frame kept k after (Has word) = λ more g f _. (answer_goes frame (parts word).first (k kept) (after kept)).goes more g (HasLock (slot_in frame) f)

  responses_goes : (ids : ℕ) (frames kept : List Frame) (k : List Frame → Program) → ((x : List Frame) → Later (k x)) → Later (responses ids frames kept k)
  responses_goes ids [] kept k after = after kept
  responses_goes ids (f ∷ fs) kept k after = either_way (has_response f.meta.response && nat_lt (slot_in f) ids) _ _ Later
      (locks_again (slot_in f) (Version (version_in f)) None (answered f kept (λ kept'. responses ids fs kept' k)) tt (answered_goes f kept (λ kept'. responses ids fs kept' k) (λ kept'. responses_goes ids fs kept' k after)))
      (responses_goes ids fs kept k after)

  read_on_goes : (r : Reading) (bytes : List ℕ) (s : streams.Ending) (k : Ended → Program) → ((x : Ended) → Later (k x)) → Later (read_on r bytes s k)
  read_on_goes r bytes (streams.Rest n) k after = either_way (nat_lt r.total LIMIT) _ _ Later (reads_again (record r { rest = last_of n bytes }) k after) (after (ended_by 1014 false false (record r { rest = last_of n bytes })))
  read_on_goes r bytes (streams.Fault at fault) k after = after (ended_by 2002 false true r)

  took_goes : (r : Reading) (k : Ended → Program) → ((x : Ended) → Later (k x)) → (t : Taking) → Later (took r k t)
  took_goes r k after (Bytes bytes) = let s = streams.stream (r.rest ++ bytes) in
      responses_goes r.ids s.frames r.kept (λ kept. read_on (record { ids = r.ids; link = r.link; id = r.id; rest = r.rest; total = r.total + length bytes; kept = kept }) (r.rest ++ bytes) s.ending k)
      (λ kept. read_on_goes (record { ids = r.ids; link = r.link; id = r.id; rest = r.rest; total = r.total + length bytes; kept = kept }) (r.rest ++ bytes) s.ending k after)
  took_goes r k after Nothing = reads_again r k after
  took_goes r k after Closed = after (ended_by 1014 true false r)
  took_goes r k after _ = after (ended_by 1014 false false r)

  discarded_goes : (l total : ℕ) (k : ℕ → Program) → ((x : ℕ) → Later (k x)) → (t : Taking) → Later (discarded l total k t)
  discarded_goes l total k after (Bytes bytes) = either_way (nat_lt (total + length bytes) LIMIT) _ _ Later (discards_again l (total + length bytes) k after) (after (total + length bytes))
  discarded_goes l total k after Nothing = discards_again l total k after
  discarded_goes l total k after _ = after total

-- ## One round of each loop

pub owns_round : (has : ℕ → ℕ) (left : ℕ → Bool) (b : Behind) (head : Head) (k : Exit head → Program) → Owns has left b (Round head k) → Owns has left b (round head k)
owns_round has left b (Posts id e w) k r = (posts_goes has left id e w k by_exit).goes has (grows_same has) b
  where
    by_exit : (x : Posting) → AfterPost has left (id_slot id) k x
    by_exit (HasLocked x) = λ more g f. r.1 (HasLocked x) more g f tt
    by_exit WasGone = record { goes = λ more g c. owns_any more left c (k WasGone) (r.1 WasGone more g 0 tt) }
    by_exit WasStale = record { goes = λ more g c. owns_any more left c (k WasStale) (r.1 WasStale more g 0 tt) }
    by_exit (WasCrowded x y) = record { goes = λ more g c. owns_any more left c (k (WasCrowded x y)) (r.1 (WasCrowded x y) more g 0 tt) }
    by_exit WasQueued = record { goes = λ more g c. owns_any more left c (k WasQueued) (r.1 WasQueued more g 0 tt) }
owns_round has left b (Unlocks i w advance) k r = (unlocks_goes has left i w advance k by_exit).goes has (grows_same has) b
  where
    by_exit : (x : Unlocking) → AfterUnlock has left i k x
    by_exit (HasNext x e) = λ more g f. r.1 (HasNext x e) more g f tt
    by_exit (IsOpen x) = record { goes = λ more g c. owns_any more left c (k (IsOpen x)) (r.1 (IsOpen x) more g 0 tt) }
owns_round has left b (Decides id asked w e) k r = let a = r.0 in subst (λ c. Owns has left c (decides_round id asked w e k)) (sym a.1)
    (decides_goes has left has (grows_same has) id asked w e k (λ x. record { goes = λ more g c. owns_any more left c (k x) (r.1 x more g 0 tt) }) a.0 a.2)
owns_round has left b (Locks i sought w) k r = (locks_goes has left i sought w k r.0 by_exit).goes has (grows_same has) b
  where
    by_exit : (x : Locking) → AfterLock has left i sought k x
    by_exit (Has x) = λ more g f l. r.1 (Has x) more g f l
    by_exit (NotThere x) = record { goes = λ more g c. owns_any more left c (k (NotThere x)) (r.1 (NotThere x) more g (first_of sought) (none_left sought x)) }
      where
        first_of : Sought → ℕ
        first_of (First y) = y
        first_of (Version v) = 0

        none_left : (s : Sought) (x : ℕ) → LeavesLock s (first_of s) (NotThere x)
        none_left (First y) x = tt
        none_left (Version v) x = tt
owns_round has left b (Joins id) k r = (joins_goes has left id k (λ x. record { goes = λ more g c. owns_any more left c (k x) (r.1 x more g 0 tt) })).goes has (grows_same has) b
owns_round has left b (Opens o) k r = (opens_goes has left o k (λ x. record { goes = λ more g c. owns_any more left c (k x) (r.1 x more g 0 tt) })).goes has (grows_same has) b
owns_round has left b (Reads r') k r = (aside has left (TakeBytes r'.link (room_of r'.total)) tt (took r' k) (took_goes has left r' k (λ x. record { goes = λ more g c. owns_any more left c (k x) (r.1 x more g 0 tt) }))).goes has (grows_same has) b
owns_round has left b (Discards l total) k r = (aside has left (TakeBytes l (room_of total)) tt (discarded l total k) (discarded_goes has left l total k (λ x. record { goes = λ more g c. owns_any more left c (k x) (r.1 x more g 0 tt) }))).goes has (grows_same has) b
