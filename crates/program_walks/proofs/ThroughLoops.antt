-- What holds behind a loop aside of the sockets, however it is left, holds before it, and behind a post or a decision.
use Rattle.std.proofs.Common.{◌≡◌, ℕ, ◌+◌, ◌==◌, ◌&&◌, not, nat_lt, nat_le, Bool, true, false, cond, List, [], ◌∷◌, ◌++◌, length, refl, sym}
use Rattle.std.proofs.lemmas.Bool.{true≢false}
use Rattle.std.specs.Prelude.{Option, Some, None}
use Rattle.sock_words.specs.declared.outcome.Outcome.TheVariants.{CallFailed}
use mathlib.Core.Option.{none, some-ne-none}
use Rattle.sock_steps.proofs.SumsAsMarksChange.{either_way}
use Rattle.seat_programs.specs.corr_core.specs.IdSlotWord.{parts, posted_word, unlocked_word, code_of, error_of}
use Rattle.seat_programs.specs.corr_core.specs.IdSlotLaw.{LAST}
use Rattle.seat_programs.specs.corr_core.specs.EndedByRangeOrAttempt.{ends_call}
use Rattle.seat_programs.specs.corr_core.specs.IdRangeVersions.{is_early}
use Rattle.seat_programs.specs.brpc_model.specs.Frame.{Frame}
use Rattle.seat_programs.specs.brpc_model.specs.FrameStream as streams
use Rattle.seat_programs.specs.brpc_model.specs.ResponseOutcome.{ending_of}
use Rattle.seat_programs.specs.sock_message.specs.Asked.{Asked}
use Rattle.seat_programs.specs.Asides.{PutCall, LoadIdWord, LockId, PostId, UnlockId, EndId, FreeId, TakeCall, Taking, Bytes, Nothing, Closed}
use Rattle.seat_programs.specs.LoopHeads.{Head, Exit, Sought, Version, Reading, Posts, Unlocks, Decides, Locks, Joins, Opens, Reads, Discards, Posting, WasGone, WasStale, WasCrowded, WasQueued, HasLocked, Unlocking, IsOpen, HasNext, Deciding, HasEnded, GoesOn, Locking, NotThere, Has, Ended}
use Rattle.seat_programs.specs.Programs.{Program, Say, Round, Keep}
use Rattle.seat_programs.specs.PostPrograms.{packed, is_first, is_sought, is_stale, is_full, judged, posts_round, post_with, posted, post, popped, unlocks_round, end_id, decide, decided, unlocked, decides_round, locking, locks_round, joins_round}
use Rattle.seat_programs.specs.ReaderProgram.{LIMIT, slot_in, version_in, has_response, answer, answered, responses, last_of, ended_by, read_on, took, room_of, discarded, opens_round}
use Rattle.seat_programs.specs.LoopRounds.{round}
use Rattle.program_walks.proofs.Records.{awaits}
use Rattle.program_walks.proofs.Through.{PassesErrors, PassesLocked, PassesLocks, PassesJoins, PassesReads, PassesOpens, is_of_errors, locked}
use Rattle.sock_words.specs.PackedWords.{call_id, id_slot, id_first, bit}

module _ (G : Program → Type 0) (g : PassesLocked G) where
  -- ## Locks given back, and decisions

  through_popped : (i oldest word : ℕ) (k : Unlocking → Program) → ((x : Unlocking) → G (k x)) → G (popped i oldest word k)
  through_popped i oldest word k after = either_way (oldest == 0) _ _ G (after (IsOpen word)) (either_way (is_stale oldest (parts word)) _ _ G (g.round (Unlocks i word false) k refl after) (after (HasNext word oldest)))

  pub through_unlocks : (i from : ℕ) (advance : Bool) (k : Unlocking → Program) → ((x : Unlocking) → G (k x)) → G (unlocks_round i from advance k)
  through_unlocks i from advance k after = g.aside (UnlockId i from advance) _ refl (λ found. either_way (found == from) _ _ G
      (through_popped i (parts from).oldest (packed (unlocked_word (parts from) (bit advance))) k after) (g.round (Unlocks i found advance) k refl after))

  pub through_end_id : (i : ℕ) (next : Program) → G next → G (end_id i next)
  through_end_id i next after = g.aside (EndId i) _ refl (λ found. either_way (nat_le ((parts found).first + (parts found).range) LAST) _ _ G (g.aside (FreeId i) _ refl (λ _. after)) after)

  pub through_decide : (id word e : ℕ) (k : Deciding → Program) → ((x : Deciding) → G (k x)) → G (decide id word e k)
  through_decide id word e k after = g.aside (TakeCall (id_slot id)) _ refl (λ asked. g.round (Decides id asked word e) k refl after)

  -- behind the exchange that advanced an attempt, once the retry is kept
  abbrev advanced : ℕ → (Deciding → Program) → Unlocking → Program
  advanced id k (IsOpen word) = k GoesOn
  advanced id k (HasNext word e) = decide id word e k

  through_advanced : (id : ℕ) (k : Deciding → Program) → ((x : Deciding) → G (k x)) → (exit : Unlocking) → G (advanced id k exit)
  through_advanced id k after (IsOpen word) = after GoesOn
  through_advanced id k after (HasNext word e) = through_decide id word e k after

  advanced_is : (id a : ℕ) (k : Deciding → Program) (exit : Unlocking) → unlocked (record { id = id; attempt = a }) k exit ≡ Keep (record { id = id; attempt = a }) (advanced id k exit)
  advanced_is id a k (IsOpen word) = refl
  advanced_is id a k (HasNext word e) = refl

  -- the retry of the next attempt
  pub through_advance : (id word : ℕ) (k : Deciding → Program) → ((x : Deciding) → G (k x)) → G (Round (Unlocks (id_slot id) word true) (unlocked (record { id = id; attempt = (parts word).attempt + 1 }) k))
  through_advance id word k after = g.again id word (advanced id k) (unlocked (record { id = id; attempt = (parts word).attempt + 1 }) k) (advanced_is id ((parts word).attempt + 1) k) (through_advanced id k after)

  pub through_decides : (id : ℕ) (asked : Asked) (word e : ℕ) (k : Deciding → Program) → ((x : Deciding) → G (k x)) → G (decides_round id asked word e k)
  through_decides id asked word e k after = either_way (ends_call (parts word) e) _ _ G
      (through_end_id (id_slot id) (k (HasEnded asked.operation (code_of e))) (after (HasEnded asked.operation (code_of e))))
      (g.aside (PutCall (id_slot id) asked) _ refl (λ _. through_advance id word k after))

  pub through_decided : (id : ℕ) (next : Program) → G next → (exit : Deciding) → G (decided id next exit)
  through_decided id next after (HasEnded o c) = g.say o (CallFailed id c) next after
  through_decided id next after GoesOn = after

  -- ## Locks that are sought, and ends that are waited for

  module _ (locks : PassesLocks G) where
    through_locking : (i : ℕ) (sought : Sought) (found : ℕ) (k : Locking → Program) → ((x : Locking) → G (k x)) → G (locking i sought found k)
    through_locking i sought found k after = either_way (not (is_sought sought (parts found))) _ _ G (after (NotThere found))
        (either_way ((parts found).state == 1) _ _ G (locks i sought (Some found) k after) (locks i sought None k after))

    pub through_locks : (i : ℕ) (sought : Sought) (word : Option ℕ) (k : Locking → Program) → ((x : Locking) → G (k x)) → G (locks_round i sought word k)
    through_locks i sought None k after = g.aside (LoadIdWord i) _ refl (λ found. through_locking i sought found k after)
    through_locks i sought (Some from) k after = g.aside (LockId i from) _ refl (λ found. either_way (found == from) _ _ G (after (Has (packed (posted_word (parts from) 0)))) (through_locking i sought found k after))

  pub through_joins : PassesJoins G → (id : ℕ) (k : ℕ → Program) → ((x : ℕ) → G (k x)) → G (joins_round id k)
  through_joins joins id k after = g.aside (LoadIdWord (id_slot id)) _ refl (λ found. either_way (is_first (id_first id) (parts found)) _ _ G (joins id k after) (after found))

  -- ## Answers

  pub through_answer : (frame : Frame) (first : ℕ) (next : Program) → G next → G (answer frame first next)
  through_answer frame first next after = g.aside (TakeCall (slot_in frame)) _ refl (λ asked. through_end_id (slot_in frame) (Say asked.operation (ending_of (call_id (slot_in frame) first) frame) next)
      (g.say asked.operation (ending_of (call_id (slot_in frame) first) frame) next after))

-- responses that are read, where the lock of a version may be sought and an answer told
module _ (G : Program → Type 0) (seeks : (i v : ℕ) (next : Locking → Program) → ((exit : Locking) → G (next exit)) → G (Round (Locks i (Version v) None) next))
    (answers : (frame : Frame) (first : ℕ) (next : Program) → G next → G (answer frame first next)) where
  through_answered : (frame : Frame) (kept : List Frame) (k : List Frame → Program) → ((x : List Frame) → G (k x)) → (exit : Locking) → G (answered frame kept k exit)
  through_answered frame kept k after (NotThere found) = after (cond (is_early (version_in frame) (parts found)) (kept ++ frame ∷ []) kept)
  through_answered frame kept k after (Has word) = answers frame (parts word).first (k kept) (after kept)

  pub through_responses : (ids : ℕ) (frames kept : List Frame) (k : List Frame → Program) → ((x : List Frame) → G (k x)) → G (responses ids frames kept k)
  through_responses ids [] kept k after = after kept
  through_responses ids (f ∷ fs) kept k after = either_way (has_response f.meta.response && nat_lt (slot_in f) ids) _ _ G
      (seeks (slot_in f) (version_in f) (answered f kept (λ kept'. responses ids fs kept' k)) (through_answered f kept (λ kept'. responses ids fs kept' k) (λ kept'. through_responses ids fs kept' k after)))
      (through_responses ids fs kept k after)

module _ (G : Program → Type 0) (g : PassesErrors G) where
  -- ## Errors

  through_judged : (id e found : ℕ) (k : Posting → Program) → ((x : Posting) → G (k x)) → G (judged id e found k)
  through_judged id e found k after = either_way (not (is_first (id_first id) (parts found))) _ _ G (after WasGone)
      (either_way (is_stale e (parts found)) _ _ G (after WasStale)
      (either_way (is_full (parts found)) _ _ G (after (WasCrowded (code_of (parts found).oldest) (code_of (parts found).second))) (g.round (Posts id e found) k refl after)))

  pub through_posts : (id e from : ℕ) (k : Posting → Program) → ((x : Posting) → G (k x)) → G (posts_round id e from k)
  through_posts id e from k after = g.aside (PostId (id_slot id) from e) _ refl (λ found. either_way (found == from) _ _ G
      (either_way ((parts from).state == 1) _ _ G (after (HasLocked (packed (posted_word (parts from) e)))) (after WasQueued)) (through_judged id e found k after))

  pub through_post_with : (id e : ℕ) (k : Posting → Program) → ((x : Posting) → G (k x)) → G (post_with id e k)
  through_post_with id e k after = g.aside (LoadIdWord (id_slot id)) _ refl (λ found. through_judged id e found k after)

  pub through_posted : (id e : ℕ) (next : Program) → G next → (exit : Posting) → G (posted id e next exit)
  through_posted id e next after (HasLocked word) = through_decide G (locked g) id word e (decided id next) (through_decided G (locked g) id next after)
  through_posted id e next after _ = after

  pub through_post : (id c attempt : ℕ) (next : Program) → G next → G (post id c attempt next)
  through_post id c attempt next after = through_post_with id (error_of c attempt) (posted id (error_of c attempt) next) (through_posted id (error_of c attempt) next after)

  -- a loop about an error
  pub through_errors : (head : Head) (k : Exit head → Program) → is_of_errors head ≡ true → ((x : Exit head) → G (k x)) → G (round head k)
  through_errors (Posts id e w) k is after = through_posts id e w k after
  through_errors (Unlocks i w advance) k is after = through_unlocks G (locked g) i w advance k after
  through_errors (Decides id asked w e) k is after = through_decides G (locked g) id asked w e k after
  through_errors _ k is after = absurd (true≢false (sym is))

pub through_opens : (G : Program → Type 0) → PassesOpens G → (o : ℕ) (k : ℕ → Program) → ((x : ℕ) → G (k x)) → G (opens_round o k)
through_opens G w o k after = w.load o _ (λ word. either_way (word == 0) _ _ G (w.wait o k after) (after word))

-- what is read, where it is known how a reading ends
module _ (Ends : Ended → Type 0) (G : Program → Type 0) (seeks : (i v : ℕ) (next : Locking → Program) → ((exit : Locking) → G (next exit)) → G (Round (Locks i (Version v) None) next)) (answers : (frame : Frame) (first : ℕ) (next : Program) → G next → G (answer frame first next))
    (reads : (r : Reading) (next : Ended → Program) → ((how : Ended) → Ends how → G (next how)) → G (Round (Reads r) next)) (closed : (closed fault : Bool) (r : Reading) → Ends (ended_by 1014 closed fault r)) (faulted : (r : Reading) → Ends (ended_by 2002 false true r)) where
  through_read_on : (r : Reading) (bytes : List ℕ) (s : streams.Ending) (k : Ended → Program) → ((x : Ended) → Ends x → G (k x)) → G (read_on r bytes s k)
  through_read_on r bytes (streams.Rest n) k after = either_way (nat_lt r.total LIMIT) _ _ G (reads (record r { rest = last_of n bytes }) k after) (after (ended_by 1014 false false (record r { rest = last_of n bytes })) (closed false false (record r { rest = last_of n bytes })))
  through_read_on r bytes (streams.Fault at fault) k after = after (ended_by 2002 false true r) (faulted r)

  pub through_took : (r : Reading) (k : Ended → Program) → ((x : Ended) → Ends x → G (k x)) → (t : Taking) → G (took r k t)
  through_took r k after (Bytes bytes) = let s = streams.stream (r.rest ++ bytes) in
      through_responses G seeks answers r.ids s.frames r.kept (λ kept. read_on (record { ids = r.ids; link = r.link; id = r.id; rest = r.rest; total = r.total + length bytes; kept = kept }) (r.rest ++ bytes) s.ending k)
      (λ kept. through_read_on (record { ids = r.ids; link = r.link; id = r.id; rest = r.rest; total = r.total + length bytes; kept = kept }) (r.rest ++ bytes) s.ending k after)
  through_took r k after Nothing = reads r k after
  through_took r k after Closed = after (ended_by 1014 true false r) (closed true false r)
  through_took r k after _ = after (ended_by 1014 false false r) (closed false false r)

pub through_discarded : (G : Program → Type 0) → ((k total : ℕ) (next : ℕ → Program) → ((now : ℕ) → G (next now)) → G (Round (Discards k total) next)) → (l total : ℕ) (k : ℕ → Program) → ((x : ℕ) → G (k x)) → (t : Taking) → G (discarded l total k t)
through_discarded G discards l total k after (Bytes bytes) = either_way (nat_lt (total + length bytes) LIMIT) _ _ G (discards l (total + length bytes) k after) (after (total + length bytes))
through_discarded G discards l total k after Nothing = discards l total k after
through_discarded G discards l total k after _ = after total

module _ (Ends : Ended → Type 0) (G : Program → Type 0) (g : PassesReads Ends G) where
  -- what is known of how a loop ends
  abbrev pub Knows : (head : Head) → Exit head → Type 0
  Knows (Reads r) exit = Ends exit
  Knows head exit = Unit {0}

  -- one round of each loop but that which waits for an `open`
  pub through_round : PassesJoins G → (head : Head) → awaits head ≡ none → (k : Exit head → Program) → ((x : Exit head) → Knows head x → G (k x)) → G (round head k)
  through_round joins (Posts id e w) l k after = through_posts G g.plain.errors id e w k (λ x. after x tt)
  through_round joins (Unlocks i w advance) l k after = through_unlocks G (locked g.plain.errors) i w advance k (λ x. after x tt)
  through_round joins (Decides id asked w e) l k after = through_decides G (locked g.plain.errors) id asked w e k (λ x. after x tt)
  through_round joins (Locks i sought w) l k after = through_locks G (locked g.plain.errors) g.locks i sought w k (λ x. after x tt)
  through_round joins (Joins id) l k after = through_joins G (locked g.plain.errors) joins id k (λ x. after x tt)
  through_round joins (Opens o) l k after = absurd (some-ne-none o l)
  through_round joins (Reads r) l k after = g.take r.link (room_of r.total) (took r k) (through_took Ends G (λ i v next. g.locks i (Version v) None next) (through_answer G (locked g.plain.errors)) g.reads g.closed g.faulted r k after)
  through_round joins (Discards n total) l k after = g.take n (room_of total) (discarded n total k) (through_discarded G g.discards n total k (λ x. after x tt))
