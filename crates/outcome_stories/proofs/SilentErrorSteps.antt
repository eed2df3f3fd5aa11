-- Errors of calls, and the loops on ids and at reading halves: such steps tell no outcome of a task.
use Rattle.std.proofs.Common.{ℕ, ◌+◌, ◌&&◌, true, false, not, eqb, List, [], ◌∷◌, ◌++◌, length, inr, nat_lt}
use Rattle.std.specs.Prelude.{nat_le, if◌then◌else◌, Some, None}
use Rattle.seat_programs.specs.corr_core.specs.IdSlotWord.{parts, error_of, code_of, posted_word, unlocked_word}
use Rattle.seat_programs.specs.corr_core.specs.IdSlotLaw.{LAST}
use Rattle.seat_programs.specs.corr_core.specs.EndedByRangeOrAttempt.{ends_call}
use Rattle.seat_programs.specs.corr_core.specs.IdRangeVersions.{is_early}
use Rattle.brpc_model.specs.Frame.{Frame}
use Rattle.brpc_model.specs.FrameStream as streams
use Rattle.brpc_model.specs.ResponseOutcome.{ending_of}
use Rattle.sock_words.specs.declared.outcome.Outcome.{Outcome}
use Rattle.sock_model.specs.declared.chain.Heading.{Heading}
use Rattle.seat_programs.specs.declared.task.Task.{Task}
use Rattle.seat_programs.specs.Asides.{FreeId, PutCall, Taking, Bytes, Nothing, Closed}
use Rattle.seat_programs.specs.LoopHeads.{Head, Exit, Retry, Sought, Version, Reading, Ended, Posts, Unlocks, Decides, Locks, Joins, Opens, Reads, Discards, Posting, WasGone, WasStale, WasCrowded, WasQueued, HasLocked, Unlocking, IsOpen, HasNext, Deciding, HasEnded, Locking, NotThere}
use Rattle.seat_programs.specs.LoopHeads.{GoesOn as OpenAgain, Has as HasLock}
use Rattle.seat_programs.specs.Programs.{Program, Say, Aside, Round}
use Rattle.seat_programs.specs.PostPrograms.{packed, is_first, is_stale, is_full, is_sought, judged, post, post_with, posted, popped, end_id, decide, decided, unlocked, locking}
use Rattle.seat_programs.specs.ReaderProgram.{LIMIT, slot_in, version_in, answer, answered, has_response, responses, last_of, ended_by, read_on, took, discarded}
use Rattle.seat_programs.specs.LoopRounds.{round}
use Rattle.seat_programs.specs.SendAndWritePrograms.{tell_drop}
use Rattle.outcome_stories.specs.OperationStories.{Entry}
use Rattle.outcome_stories.specs.Explains.{Way, Own, Beside, Closing, Done, ExplainsBy, EndedCall, IsClosing}
use Rattle.outcome_stories.proofs.Tests.{split}
use Rattle.sock_words.specs.PackedWords.{id_slot, id_first, call_id, bit}

-- what is said of a call
pub call_said : (slots requests : ℕ) (calls : ℕ → Type 0) (w : Way) (broken : List ℕ) (done : List Done) (trace : List Entry) (todo : List Task) (o : ℕ) (outcome : Outcome) (next : Program) → calls o
    → ExplainsBy slots requests calls w broken done trace todo next → ExplainsBy slots requests calls w broken done trace todo (Say o outcome next)
call_said slots requests calls Own broken done trace [] o outcome next c x = (c, x)
call_said slots requests calls Own broken done trace (t ∷ ts) o outcome next c x = inr (c, x)
call_said slots requests calls Beside broken done trace todo o outcome next c x = (c, x)
call_said slots requests calls Closing broken done trace todo o outcome next c x = (c, x)

module _ (slots requests : ℕ) (calls : ℕ → Type 0) (w : Way) (broken : List ℕ) (done : List Done) (trace : List Entry) (todo : List Task) where
  abbrev pub Goes : Program → Type 0
  Goes program = ExplainsBy slots requests calls w broken done trace todo program

  -- each exit of a loop goes on
  abbrev pub Exits : {A : Type 0} → (A → Program) → Type 0
  Exits {A} k = (exit : A) → Goes (k exit)

  -- and of a decision that ends a call
  abbrev pub Decisions : (Deciding → Program) → Type 0
  Decisions k = (exit : Deciding) → EndedCall calls exit → Goes (k exit)

  judged_goes : (id e found : ℕ) (k : Posting → Program) → Exits k → Goes (judged id e found k)
  judged_goes id e found k goes = let two : Program = if is_full (parts found) then k (WasCrowded (code_of (parts found).oldest) (code_of (parts found).second)) else Round (Posts id e found) k in
      let one : Program = if is_stale e (parts found) then k WasStale else two in
      split (not (is_first (id_first id) (parts found))) (k WasGone) one Goes (goes WasGone)
      (split (is_stale e (parts found)) (k WasStale) two Goes (goes WasStale)
      (split (is_full (parts found)) (k (WasCrowded (code_of (parts found).oldest) (code_of (parts found).second))) (Round (Posts id e found) k) Goes (goes (WasCrowded (code_of (parts found).oldest) (code_of (parts found).second)))
      ((tt, tt), λ exit _. goes exit)))

  pub end_goes : (i : ℕ) (next : Program) → Goes next → Goes (end_id i next)
  end_goes i next g = (tt, λ found _. split (nat_le ((parts found).first + (parts found).range) LAST) (Aside (FreeId i) (λ _. next)) next Goes (tt, λ _ _. g) g)

  pub decide_goes : (id word e : ℕ) (k : Deciding → Program) → Decisions k → Goes (decide id word e k)
  decide_goes id word e k goes = (tt, λ asked is. ((tt, is), goes))

  pub decided_goes : (id : ℕ) (next : Program) → Goes next → Decisions (decided id next)
  decided_goes id next g (HasEnded o c) is = call_said slots requests calls w broken done trace todo o (Rattle.sock_words.specs.declared.outcome.Outcome.TheVariants.CallFailed id c) next is g
  decided_goes id next g OpenAgain is = g

  pub posted_goes : (id e : ℕ) (next : Program) → Goes next → Exits (posted id e next)
  posted_goes id e next g (HasLocked word) = decide_goes id word e (decided id next) (decided_goes id next g)
  posted_goes id e next g _ = g

  pub post_with_goes : (id e : ℕ) (k : Posting → Program) → Exits k → Goes (post_with id e k)
  post_with_goes id e k goes = (tt, λ found _. judged_goes id e found k goes)

  pub post_goes : (id c attempt : ℕ) (next : Program) → Goes next → Goes (post id c attempt next)
  post_goes id c attempt next g = post_with_goes id (error_of c attempt) (posted id (error_of c attempt) next) (posted_goes id (error_of c attempt) next g)

  -- whoever wrote the link tells the call that its message was dropped
  pub tell_goes : (heading : Heading) (c : ℕ) (next : Program) → Goes next → Goes (tell_drop heading c next)
  tell_goes heading c next g = let told : ℕ = if eqb c 0 then 1009 else c in split (eqb heading.owner 0) next (post heading.owner told heading.label.attempt next) Goes g (post_goes heading.owner told heading.label.attempt next g)

  popped_goes : (i oldest after : ℕ) (k : Unlocking → Program) → Exits k → Goes (popped i oldest after k)
  popped_goes i oldest after k goes = let two : Program = if is_stale oldest (parts after) then Round (Unlocks i after false) k else k (HasNext after oldest) in
      split (eqb oldest 0) (k (IsOpen after)) two Goes (goes (IsOpen after))
      (split (is_stale oldest (parts after)) (Round (Unlocks i after false) k) (k (HasNext after oldest)) Goes ((tt, tt), λ exit _. goes exit) (goes (HasNext after oldest)))

  locking_goes : (i : ℕ) (sought : Sought) (found : ℕ) (k : Locking → Program) → Exits k → Goes (locking i sought found k)
  locking_goes i sought found k goes = let two : Program = if eqb (parts found).state 1 then Round (Locks i sought (Some found)) k else Round (Locks i sought None) k in
      split (not (is_sought sought (parts found))) (k (NotThere found)) two Goes (goes (NotThere found))
      (split (eqb (parts found).state 1) (Round (Locks i sought (Some found)) k) (Round (Locks i sought None) k) Goes ((tt, tt), λ exit _. goes exit) ((tt, tt), λ exit _. goes exit))

  unlocked_goes : (r : Retry) (k : Deciding → Program) → Decisions k → Exits (unlocked r k)
  unlocked_goes r k goes (IsOpen word) = goes OpenAgain tt
  unlocked_goes r k goes (HasNext word e) = decide_goes r.id word e k goes

  pub answer_goes : (frame : Frame) (first : ℕ) (next : Program) → Goes next → Goes (answer frame first next)
  answer_goes frame first next g = (
    tt,
    λ asked is. let outcome : Outcome = ending_of (call_id (slot_in frame) first) frame in
        end_goes (slot_in frame) (Say asked.operation outcome next) (call_said slots requests calls w broken done trace todo asked.operation outcome next is g),
  )

  answered_goes : (frame : Frame) (kept : List Frame) (k : List Frame → Program) → Exits k → Exits (answered frame kept k)
  answered_goes frame kept k goes (NotThere found) = goes (if is_early (version_in frame) (parts found) then kept ++ frame ∷ [] else kept)
  answered_goes frame kept k goes (HasLock word) = answer_goes frame (parts word).first (k kept) (goes kept)

  responses_goes : (ids : ℕ) (fs kept : List Frame) (k : List Frame → Program) → Exits k → Goes (responses ids fs kept k)
  responses_goes ids [] kept k goes = goes kept
  responses_goes ids (f ∷ fs) kept k goes = split (has_response f.meta.response && nat_lt (slot_in f) ids)
      (Round (Locks (slot_in f) (Version (version_in f)) None) (answered f kept (λ kept'. responses ids fs kept' k))) (responses ids fs kept k) Goes
      ((tt, tt), λ exit _. answered_goes f kept (λ kept'. responses ids fs kept' k) (λ kept'. responses_goes ids fs kept' k goes) exit) (responses_goes ids fs kept k goes)

  read_goes : (r : Reading) (bytes : List ℕ) (s : streams.Ending) (k : Ended → Program) → Exits k → Goes (read_on r bytes s k)
  read_goes r bytes (streams.Rest n) k goes = let r' : Reading = record r { rest = last_of n bytes } in
      split (nat_lt r.total LIMIT) (Round (Reads r') k) (k (ended_by 1014 false false r')) Goes ((tt, tt), λ exit _. goes exit) (goes (ended_by 1014 false false r'))
  read_goes r bytes (streams.Fault at fault) k goes = goes (ended_by 2002 false true r)

  took_goes : (r : Reading) (k : Ended → Program) → Exits k → (t : Taking) → Goes (took r k t)
  took_goes r k goes (Bytes bytes) = let s = streams.stream (r.rest ++ bytes) in
      responses_goes r.ids s.frames r.kept (λ kept. read_on (record { ids = r.ids; link = r.link; id = r.id; rest = r.rest; total = r.total + length bytes; kept = kept }) (r.rest ++ bytes) s.ending k)
      (λ kept. read_goes (record { ids = r.ids; link = r.link; id = r.id; rest = r.rest; total = r.total + length bytes; kept = kept }) (r.rest ++ bytes) s.ending k goes)
  took_goes r k goes Nothing = ((tt, tt), λ exit _. goes exit)
  took_goes r k goes Closed = goes (ended_by 1014 true false r)
  took_goes r k goes _ = goes (ended_by 1014 false false r)

  discarded_goes : (l total : ℕ) (k : ℕ → Program) → Exits k → (t : Taking) → Goes (discarded l total k t)
  discarded_goes l total k goes (Bytes bytes) = split (nat_lt (total + length bytes) LIMIT) (Round (Discards l (total + length bytes)) k) (k (total + length bytes)) Goes ((tt, tt), λ exit _. goes exit) (goes (total + length bytes))
  discarded_goes l total k goes Nothing = ((tt, tt), λ exit _. goes exit)
  discarded_goes l total k goes _ = goes total

  opens_goes : (o : ℕ) (k : ℕ → Program) → IsClosing w → Exits k → Goes (round (Opens o) k)
  opens_goes o k is goes = opens_by slots requests calls w broken done trace todo o k is goes
    where
      opens_by : (slots requests : ℕ) (calls : ℕ → Type 0) (w : Way) (broken : List ℕ) (done : List Done) (trace : List Entry) (todo : List Task) (o : ℕ) (k : ℕ → Program) → IsClosing w
          → ((exit : ℕ) → ExplainsBy slots requests calls w broken done trace todo (k exit)) → ExplainsBy slots requests calls w broken done trace todo (round (Opens o) k)
      opens_by slots requests calls Own broken done trace todo o k is goes = absurd is
      opens_by slots requests calls Beside broken done trace todo o k is goes = absurd is
      opens_by slots requests calls Closing broken done trace todo o k is goes = (
        tt,
        λ word. split (eqb word 0) (Round (Opens o) k) (k word) (ExplainsBy slots requests calls Closing broken done trace todo) ((tt, tt), λ exit _. goes exit) (goes word),
      )

  -- one round of each loop
  pub loop_goes : (head : Head) (k : Exit head → Program) → Goes (Round head k) → Goes (round head k)
  loop_goes (Posts id e from) k x = let goes = λ (exit : Posting). x.1 exit tt in (
    tt,
    λ found _. let here : Program = if eqb (parts from).state 1 then k (HasLocked (packed (posted_word (parts from) e))) else k WasQueued in
        split (eqb found from) here (judged id e found k) Goes
        (split (eqb (parts from).state 1) (k (HasLocked (packed (posted_word (parts from) e)))) (k WasQueued) Goes (goes (HasLocked (packed (posted_word (parts from) e)))) (goes WasQueued))
        (judged_goes id e found k goes),
  )
  loop_goes (Unlocks i from advance) k x = let goes = λ (exit : Unlocking). x.1 exit tt in (
    tt,
    λ found _. let after : ℕ = packed (unlocked_word (parts from) (bit advance)) in
        split (eqb found from) (popped i (parts from).oldest after k) (Round (Unlocks i found advance) k) Goes (popped_goes i (parts from).oldest after k goes) ((tt, tt), λ exit _. goes exit),
  )
  loop_goes (Decides id asked word e) k x = let r : Retry = record { id = id; attempt = (parts word).attempt + 1 } in
      split (ends_call (parts word) e) (end_id (id_slot id) (k (HasEnded asked.operation (code_of e)))) (Aside (PutCall (id_slot id) asked) (λ _. Round (Unlocks (id_slot id) word true) (unlocked r k))) Goes
      (end_goes (id_slot id) (k (HasEnded asked.operation (code_of e))) (x.1 (HasEnded asked.operation (code_of e)) x.0.1))
      (x.0.1, λ _ _. ((tt, tt), λ exit _. unlocked_goes r k x.1 exit))
  loop_goes (Locks i sought None) k x = (tt, λ found _. locking_goes i sought found k (λ exit. x.1 exit tt))
  loop_goes (Locks i sought (Some from)) k x = (
    tt,
    λ found _. split (eqb found from) (k (HasLock (packed (posted_word (parts from) 0)))) (locking i sought found k) Goes (x.1 (HasLock (packed (posted_word (parts from) 0))) tt) (locking_goes i sought found k (λ exit. x.1 exit tt)),
  )
  loop_goes (Joins id) k x = (tt, λ found _. split (is_first (id_first id) (parts found)) (Round (Joins id) k) (k found) Goes ((tt, tt), x.1) (x.1 found tt))
  loop_goes (Opens o) k x = opens_goes o k x.0.0 (λ exit. x.1 exit tt)
  loop_goes (Reads r) k x = (tt, λ t _. took_goes r k (λ exit. x.1 exit tt) t)
  loop_goes (Discards l total) k x = (tt, λ t _. discarded_goes l total k (λ exit. x.1 exit tt) t)
