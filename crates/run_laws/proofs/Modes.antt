-- What each program keeps to: a put comes directly behind a look that found the life live, a message gets its place directly behind a put, one
-- is dropped only behind a look that found the life failed, and whoever is answered that its link failed sets the life failed next.
use Rattle.std.proofs.Common.{◌≡◌, ℕ, zero, suc, ◌+◌, ◌-◌, ◌%◌, ◌/◌, Bool, true, false, ◌&&◌, eqb, not, List, [], ◌∷◌, ◌++◌, length, drop, refl, sym, subst, nat_lt}
use Rattle.std.specs.Prelude.{◌==◌, if◌then◌else◌, nat_le, None, Some}
use Rattle.std.specs.Prelude as std
use Rattle.sock_words.specs.PackedWords.{socket_id_version, socket_id_slot, vref_version, vref_nref, ticket_request, ticket_generation, IDLE, UNCONNECTED, NO_SOCKET, id_slot, id_first, call_id, bit}
use Rattle.sock_words.specs.declared.outcome.Outcome.TheVariants.{Unopened, Gone, Held, Freed, Kept, Full}
use Rattle.sock_io.specs.declared.link.Put.{Put}
use Rattle.sock_io.specs.declared.link.Put.TheVariants as puts
use Rattle.sock_io.specs.declared.link.Ready.{Ready}
use Rattle.sock_io.specs.declared.link.Ready.TheVariants as asks
use Rattle.sock_model.specs.declared.chain.Heading.{Heading}
use Rattle.sock_model.specs.Entries.{ticket_of}
use Rattle.seat_programs.specs.declared.task.Op.{Op}
use Rattle.seat_programs.specs.declared.task.Op.TheVariants as ops
use Rattle.seat_programs.specs.declared.task.Task.{Task}
use Rattle.seat_programs.specs.declared.task.Sizes.{Sizes}
use Rattle.seat_programs.specs.TableSteps.{TableStep, OnSlot, OnChain, OnPlace, OnLink, FindLink, SetOdd, StoreCode, SubRef, LookWord, LoadCode, StorePlace, DropPlace, LoadLink, TakeLink, FinishLink, PutLink, FreeSlot, FreeRequest, ReadNext, ReverseNext, Connect}
use Rattle.seat_programs.specs.Writings.{Holder, Writing, Puts, Waits, Empties, Reversing}
use Rattle.seat_programs.specs.Programs.{Program, Do, Say, Sent, Rest, TakeMessage, TakeHome, PutHome, PutBytes, AskReady, Write, Aside, Round, Keep, Retries, LAST_VERSION, LAST_GENERATION, recycle, release, add_reference, find_socket, set_failed, no_socket, make_socket, open_from, fail_outcome, fail}
use Rattle.seat_programs.specs.SendAndWritePrograms.{freed, one_more, passed_telling, tell_drop, placed, dropped, put_answered, ready_answered, block, first_put, write_link, heading_of, accept, claim_from, start}
use Rattle.seat_programs.specs.ClientProgram.{HeldLife, held_under, without_name, give_back, drop_of, operation, client_from, ending_of}
use Rattle.seat_programs.specs.Cores.{next_step, resolved}
use Rattle.seat_programs.specs.BufferParts.{part}
use Rattle.corr_core.specs.IdSlotWord.{parts, error_of, code_of, posted_word, unlocked_word}
use Rattle.corr_core.specs.IdSlotLaw.{LAST}
use Rattle.corr_core.specs.EndedByRangeOrAttempt.{WHOLE, ends_call}
use Rattle.corr_core.specs.IdRangeVersions.{is_early}
use Rattle.brpc_model.specs.Frame.{Frame}
use Rattle.brpc_model.specs.FrameStream as streams
use Rattle.brpc_model.specs.ResponseOutcome.{ending_of as ending_by}
use Rattle.sock_words.specs.PackedWords.{at_word, at_word_slot, at_word_first, at_word_link, at_word_attempt}
use Rattle.sock_words.specs.declared.outcome.Outcome.TheVariants.{NotBegun, Joined}
use Rattle.sock_message.specs.Asked.{Asked, frame_of}
use Rattle.seat_programs.specs.Asides.{Found, FreeId, PutCall, StoreAt, Taking, Bytes, Nothing, Closed}
use Rattle.seat_programs.specs.LoopHeads.{Head, Exit, Retry, Sought, Version, Reading, Ended, Posts, Unlocks, Decides, Locks, Joins, Opens, Reads, Discards, Posting, WasGone, WasStale, WasCrowded, WasQueued, HasLocked, Unlocking, IsOpen, HasNext, Deciding, HasEnded, Locking, NotThere}
use Rattle.seat_programs.specs.LoopHeads.{GoesOn as OpenAgain, Has as HasLock}
use Rattle.seat_programs.specs.PostPrograms.{packed, is_first, is_stale, is_full, is_sought, judged, post, post_with, posted, popped, end_id, decide, decided, unlocked, locking}
use Rattle.seat_programs.specs.CallAndRetryPrograms.{claims_from, heading_for, attempt, begin_call, claim_id, call, tried_again, retry_locked, retry, expire_outcome, expire, join}
use Rattle.seat_programs.specs.ReaderProgram.{LIMIT, slot_in, version_in, answer, answered, has_response, responses, last_of, ended_by, read_on, took, discarded, kept_for, ends_with, posted_last, post_each, thrown_away, read, reader}
use Rattle.seat_programs.specs.LoopRounds.{round, first_step}

-- ## What a seat found last

pub data Mode : Type 0 where
  Unknown : Mode
  -- its look has just found the life in this slot live
  Live : ℕ → Mode
  -- the link has just taken bytes
  Fed : Mode
  -- its look found the life failed
  Dead : Mode
  -- it asks its link next; the life is in this slot
  Asks : ℕ → Mode
  -- its link has just answered that it failed, and the life in this slot is set failed next
  Broken : ℕ → Mode

abbrev pub IsWhole : Mode → Type 0
IsWhole (Broken i) = ⊥
IsWhole other = Unit {0}

abbrev pub IsOfSlot : ℕ → Mode → Type 0
IsOfSlot j (Broken i) = i ≡ j
IsOfSlot j other = Unit {0}

-- which step may come in a mode
abbrev pub Comes : Mode → TableStep → Type 0
Comes m (OnSlot (SetOdd i)) = IsOfSlot i m
Comes m (OnPlace (StorePlace l k n)) = m ≡ Fed
Comes m (OnPlace (DropPlace l k n)) = m ≡ Dead
Comes m other = IsWhole m

-- the mode behind a step that found this
abbrev pub looked_mode : ℕ → ℕ → Mode
looked_mode i found = if vref_version found % 2 == 0 then Live i else Dead

abbrev pub code_mode : Mode → Mode
code_mode Dead = Dead
code_mode other = Unknown

abbrev pub mode_behind : Mode → TableStep → ℕ → Mode
mode_behind m (OnSlot (LookWord id)) found = looked_mode (socket_id_slot id) found
mode_behind m (OnSlot (LoadCode i h)) found = code_mode m
mode_behind m other found = Unknown

abbrev pub put_mode : ℕ → Put → Mode
put_mode i (puts.Took n) = Fed
put_mode i puts.Again = Unknown
put_mode i puts.Failed = Broken i

abbrev pub ready_mode : ℕ → Ready → Mode
ready_mode i asks.Failed = Broken i
ready_mode i other = Unknown

-- the program keeps to it, from a mode on, whatever its steps find
abbrev pub Guarded : Mode → Program → Type 0
Guarded m (Do call next) = Comes m call × ((found : ℕ) → Guarded (mode_behind m call found) (next found))
Guarded m (Say o outcome next) = Guarded m next
Guarded m (Sent o next) = Guarded m next
Guarded m Rest = IsWhole m
Guarded m (TakeMessage q next) = IsWhole m × ((heading : Heading) (bytes : List ℕ) → Guarded Unknown (next heading bytes))
Guarded m (TakeHome k next) = IsWhole m × ((places : ℕ) → Guarded Unknown (next places))
Guarded m (PutHome k n after) = IsWhole m × Guarded Unknown after
Guarded m (PutBytes k asked bytes next) = (i : ℕ) × (m ≡ Live i) × ((answer : Put) → Guarded (put_mode i answer) (next answer))
Guarded m (AskReady k next) = (i : ℕ) × (m ≡ Asks i) × ((answer : Ready) → Guarded (ready_mode i answer) (next answer))
Guarded m (Write w after) = IsWhole m × Guarded Unknown after
Guarded m (Aside step next) = IsWhole m × ((found : Found step) → Guarded Unknown (next found))
Guarded m (Round head next) = IsWhole m × ((exit : Exit head) → Guarded Unknown (next exit))
Guarded m (Keep r next) = Guarded m next
Guarded m (Retries requests after) = (m ≡ Unknown) × Guarded Unknown after

-- the mode in which the first step of a round is made
abbrev pub round_mode : Writing → Mode
round_mode (Waits h now heading left taken) = Asks (socket_id_slot h.id)
round_mode other = Unknown

abbrev pub first_mode : Mode → Program → Mode
first_mode m (Write w after) = round_mode w
first_mode m (Round head next) = Unknown
first_mode m other = m

-- ## Tests

-- both sides of a test
sides : (b : Bool) (x y : Program) (m : Mode) → Guarded m x → Guarded m y → Guarded m (if b then x else y)
sides true x y m p q = p
sides false x y m p q = q

-- where the mode goes by the same test
mode_sides : (b : Bool) (x y : Program) (m n : Mode) → Guarded m x → Guarded n y → Guarded (if b then m else n) (if b then x else y)
mode_sides true x y m n p q = p
mode_sides false x y m n p q = q

either_mode : (b : Bool) (m n : Mode) (P : Mode → Type 0) → P m → P n → P (if b then m else n)
either_mode true m n P p q = p
either_mode false m n P p q = q

looked_whole : (i found : ℕ) → IsWhole (looked_mode i found)
looked_whole i found = either_mode (eqb (vref_version found % 2) 0) (Live i) Dead IsWhole tt tt

-- ## Parts that operations share

recycle_guarded : (i from : ℕ) (next : Bool → Program) → ((b : Bool) → Guarded Unknown (next b)) → Guarded Unknown (recycle i from next)
recycle_guarded i from next k = (
  tt,
  λ found. sides (eqb found from) (Do (OnSlot (LoadLink i (vref_version from + 1))) (λ l. Do (OnLink (TakeLink l)) (λ _. Do (OnLink (FinishLink l)) (λ _. Do (OnLink (PutLink l)) (λ _. if nat_le (vref_version from + 1) LAST_VERSION then Do (OnSlot (FreeSlot i)) (λ _. next true) else next true))))) (next false) Unknown
      (tt, λ l. (tt, λ a. (tt, λ b. (tt, λ c. sides (nat_le (vref_version from + 1) LAST_VERSION) (Do (OnSlot (FreeSlot i)) (λ _. next true)) (next true) Unknown (tt, λ d. k true) (k true))))) (k false),
)

release_guarded : (m : Mode) → IsWhole m → (i : ℕ) (next : Bool → Program) → ((b : Bool) → Guarded Unknown (next b)) → Guarded m (release i next)
release_guarded m whole i next k = (
  whole,
  λ found. sides ((vref_version found % 2 == 1) && (vref_nref found == 1)) (recycle i (found - 1) next) (next false) Unknown (recycle_guarded i (found - 1) next k) (k false),
)

address_guarded : (id : ℕ) (held : Program) (gone : ℕ → Program) → Guarded Unknown held → ((found : ℕ) → Guarded Unknown (gone found)) → Guarded Unknown (add_reference id held gone)
address_guarded id held gone h k = (
  tt,
  λ found. sides (vref_version found == socket_id_version id) held (release (socket_id_slot id) (λ _. gone found)) Unknown h (release_guarded Unknown tt (socket_id_slot id) (λ _. gone found) (λ b. k found)),
)

reach_guarded : (name : ℕ) (unopened : Program) (held gone : ℕ → Program) → Guarded Unknown unopened → ((id : ℕ) → Guarded Unknown (held id)) → ((found : ℕ) → Guarded Unknown (gone found)) → Guarded Unknown (find_socket name unopened held gone)
reach_guarded name unopened held gone u h k = (
  tt,
  λ word. sides (word == 0) unopened (add_reference (word - 1) (held (word - 1)) gone) Unknown u (address_guarded (word - 1) (held (word - 1)) gone (h (word - 1)) k),
)

-- whoever was answered that its link failed begins with this
set_failed_guarded : (m : Mode) (id code : ℕ) (next : ℕ → Program) → IsOfSlot (socket_id_slot id) m → ((found : ℕ) → Guarded Unknown (next found)) → Guarded m (set_failed id code next)
set_failed_guarded m id code next of k = (
  of,
  λ found. sides (vref_version found % 2 == 0) (Do (OnSlot (StoreCode (socket_id_slot id) (socket_id_version id) code)) (λ _. Do (OnSlot (SubRef (socket_id_slot id))) (λ _. next found))) (next found) Unknown (tt, λ a. (tt, λ b. k found)) (k found),
)

-- ## Errors of calls, and loops on ids

-- each exit of a loop goes on
abbrev Goes : {A : Type 0} → (A → Program) → Type 0
Goes {A} k = (exit : A) → Guarded Unknown (k exit)

judged_guarded : (id e found : ℕ) (k : Posting → Program) → Goes k → Guarded Unknown (judged id e found k)
judged_guarded id e found k goes = let two : Program = if is_full (parts found) then k (WasCrowded (code_of (parts found).oldest) (code_of (parts found).second)) else Round (Posts id e found) k in
    let one : Program = if is_stale e (parts found) then k WasStale else two in
    sides (not (is_first (id_first id) (parts found))) (k WasGone) one Unknown (goes WasGone)
    (sides (is_stale e (parts found)) (k WasStale) two Unknown (goes WasStale)
    (sides (is_full (parts found)) (k (WasCrowded (code_of (parts found).oldest) (code_of (parts found).second))) (Round (Posts id e found) k) Unknown (goes (WasCrowded (code_of (parts found).oldest) (code_of (parts found).second))) (tt, goes)))

end_guarded : (i : ℕ) (next : Program) → Guarded Unknown next → Guarded Unknown (end_id i next)
end_guarded i next g = (tt, λ found. sides (nat_le ((parts found).first + (parts found).range) LAST) (Aside (FreeId i) (λ _. next)) next Unknown (tt, λ _. g) g)

decide_guarded : (m : Mode) → IsWhole m → (id word e : ℕ) (k : Deciding → Program) → Goes k → Guarded m (decide id word e k)
decide_guarded m whole id word e k goes = (whole, λ asked. (tt, goes))

decided_guarded : (id : ℕ) (next : Program) → Guarded Unknown next → Goes (decided id next)
decided_guarded id next g (HasEnded o c) = g
decided_guarded id next g OpenAgain = g

posted_guarded : (id e : ℕ) (next : Program) → Guarded Unknown next → Goes (posted id e next)
posted_guarded id e next g (HasLocked word) = decide_guarded Unknown tt id word e (decided id next) (decided_guarded id next g)
posted_guarded id e next g _ = g

post_with_guarded : (m : Mode) → IsWhole m → (id e : ℕ) (k : Posting → Program) → Goes k → Guarded m (post_with id e k)
post_with_guarded m whole id e k goes = (whole, λ found. judged_guarded id e found k goes)

post_guarded : (m : Mode) → IsWhole m → (id c attempt : ℕ) (next : Program) → Guarded Unknown next → Guarded m (post id c attempt next)
post_guarded m whole id c attempt next g = post_with_guarded m whole id (error_of c attempt) (posted id (error_of c attempt) next) (posted_guarded id (error_of c attempt) next g)

-- whoever wrote the link tells the call of it
tell_guarded : (heading : Heading) (c : ℕ) (next : Program) → Guarded Unknown next → Guarded Unknown (tell_drop heading c next)
tell_guarded heading c next g = let told : ℕ = if c == 0 then 1009 else c in sides (heading.owner == 0) next (post heading.owner told heading.label.attempt next) Unknown g (post_guarded Unknown tt heading.owner told heading.label.attempt next g)

popped_guarded : (i oldest after : ℕ) (k : Unlocking → Program) → Goes k → Guarded Unknown (popped i oldest after k)
popped_guarded i oldest after k goes = let two : Program = if is_stale oldest (parts after) then Round (Unlocks i after false) k else k (HasNext after oldest) in
    sides (oldest == 0) (k (IsOpen after)) two Unknown (goes (IsOpen after)) (sides (is_stale oldest (parts after)) (Round (Unlocks i after false) k) (k (HasNext after oldest)) Unknown (tt, goes) (goes (HasNext after oldest)))

locking_guarded : (i : ℕ) (sought : Sought) (found : ℕ) (k : Locking → Program) → Goes k → Guarded Unknown (locking i sought found k)
locking_guarded i sought found k goes = let two : Program = if (parts found).state == 1 then Round (Locks i sought (Some found)) k else Round (Locks i sought None) k in
    sides (not (is_sought sought (parts found))) (k (NotThere found)) two Unknown (goes (NotThere found))
    (sides ((parts found).state == 1) (Round (Locks i sought (Some found)) k) (Round (Locks i sought None) k) Unknown (tt, goes) (tt, goes))

unlocked_guarded : (r : Retry) (k : Deciding → Program) → Goes k → Goes (unlocked r k)
unlocked_guarded r k goes (IsOpen word) = goes OpenAgain
unlocked_guarded r k goes (HasNext word e) = decide_guarded Unknown tt r.id word e k goes

answer_guarded : (frame : Frame) (first : ℕ) (next : Program) → Guarded Unknown next → Guarded Unknown (answer frame first next)
answer_guarded frame first next g = (tt, λ asked. end_guarded (slot_in frame) (Say asked.operation (ending_by (call_id (slot_in frame) first) frame) next) g)

answered_guarded : (frame : Frame) (kept : List Frame) (k : List Frame → Program) → Goes k → Goes (answered frame kept k)
answered_guarded frame kept k goes (NotThere found) = goes (if is_early (version_in frame) (parts found) then kept ++ frame ∷ [] else kept)
answered_guarded frame kept k goes (HasLock word) = answer_guarded frame (parts word).first (k kept) (goes kept)

responses_guarded : (ids : ℕ) (fs kept : List Frame) (k : List Frame → Program) → Goes k → Guarded Unknown (responses ids fs kept k)
responses_guarded ids [] kept k goes = goes kept
responses_guarded ids (f ∷ fs) kept k goes = sides (has_response f.meta.response && nat_lt (slot_in f) ids)
    (Round (Locks (slot_in f) (Version (version_in f)) None) (answered f kept (λ kept'. responses ids fs kept' k))) (responses ids fs kept k) Unknown
    (tt, answered_guarded f kept (λ kept'. responses ids fs kept' k) (λ kept'. responses_guarded ids fs kept' k goes)) (responses_guarded ids fs kept k goes)

read_on_guarded : (r : Reading) (bytes : List ℕ) (s : streams.Ending) (k : Ended → Program) → Goes k → Guarded Unknown (read_on r bytes s k)
read_on_guarded r bytes (streams.Rest n) k goes = let r' : Reading = record r { rest = last_of n bytes } in
    sides (nat_lt r.total LIMIT) (Round (Reads r') k) (k (ended_by 1014 false false r')) Unknown (tt, goes) (goes (ended_by 1014 false false r'))
read_on_guarded r bytes (streams.Fault at fault) k goes = goes (ended_by 2002 false true r)

took_guarded : (r : Reading) (k : Ended → Program) → Goes k → (t : Taking) → Guarded Unknown (took r k t)
took_guarded r k goes (Bytes bytes) = let s = streams.stream (r.rest ++ bytes) in
    responses_guarded r.ids s.frames r.kept (λ kept. read_on (record { ids = r.ids; link = r.link; id = r.id; rest = r.rest; total = r.total + length bytes; kept = kept }) (r.rest ++ bytes) s.ending k)
    (λ kept. read_on_guarded (record { ids = r.ids; link = r.link; id = r.id; rest = r.rest; total = r.total + length bytes; kept = kept }) (r.rest ++ bytes) s.ending k goes)
took_guarded r k goes Nothing = (tt, goes)
took_guarded r k goes Closed = goes (ended_by 1014 true false r)
took_guarded r k goes _ = goes (ended_by 1014 false false r)

discarded_guarded : (l total : ℕ) (k : ℕ → Program) → Goes k → (t : Taking) → Guarded Unknown (discarded l total k t)
discarded_guarded l total k goes (Bytes bytes) = sides (nat_lt (total + length bytes) LIMIT) (Round (Discards l (total + length bytes)) k) (k (total + length bytes)) Unknown (tt, goes) (goes (total + length bytes))
discarded_guarded l total k goes Nothing = (tt, goes)
discarded_guarded l total k goes _ = goes total

-- one round of each loop
pub loop_guarded : (head : Head) (k : Exit head → Program) → Goes k → Guarded Unknown (round head k)
loop_guarded (Posts id e from) k goes = (
  tt,
  λ found. let here : Program = if (parts from).state == 1 then k (HasLocked (packed (posted_word (parts from) e))) else k WasQueued in
      sides (found == from) here (judged id e found k) Unknown
      (sides ((parts from).state == 1) (k (HasLocked (packed (posted_word (parts from) e)))) (k WasQueued) Unknown (goes (HasLocked (packed (posted_word (parts from) e)))) (goes WasQueued))
      (judged_guarded id e found k goes),
)
loop_guarded (Unlocks i from advance) k goes = (
  tt,
  λ found. let after : ℕ = packed (unlocked_word (parts from) (bit advance)) in
      sides (found == from) (popped i (parts from).oldest after k) (Round (Unlocks i found advance) k) Unknown (popped_guarded i (parts from).oldest after k goes) (tt, goes),
)
loop_guarded (Decides id asked word e) k goes = let r : Retry = record { id = id; attempt = (parts word).attempt + 1 } in
    sides (ends_call (parts word) e) (end_id (id_slot id) (k (HasEnded asked.operation (code_of e)))) (Aside (PutCall (id_slot id) asked) (λ _. Round (Unlocks (id_slot id) word true) (unlocked r k))) Unknown
    (end_guarded (id_slot id) (k (HasEnded asked.operation (code_of e))) (goes (HasEnded asked.operation (code_of e))))
    (tt, λ _. (tt, unlocked_guarded r k goes))
loop_guarded (Locks i sought None) k goes = (tt, λ found. locking_guarded i sought found k goes)
loop_guarded (Locks i sought (Some from)) k goes = (
  tt,
  λ found. sides (found == from) (k (HasLock (packed (posted_word (parts from) 0)))) (locking i sought found k) Unknown (goes (HasLock (packed (posted_word (parts from) 0)))) (locking_guarded i sought found k goes),
)
loop_guarded (Joins id) k goes = (tt, λ found. sides (is_first (id_first id) (parts found)) (Round (Joins id) k) (k found) Unknown (tt, goes) (goes found))
loop_guarded (Opens o) k goes = (tt, λ word. sides (word == 0) (Round (Opens o) k) (k word) Unknown (tt, goes) (goes word))
loop_guarded (Reads r) k goes = (tt, took_guarded r k goes)
loop_guarded (Discards l total) k goes = (tt, discarded_guarded l total k goes)

-- ## Writing

freed_guarded : (now : ℕ) (next : Program) → Guarded Unknown next → Guarded Unknown (freed now next)
freed_guarded now next k = sides (ticket_generation now == LAST_GENERATION) next (Do (OnChain (FreeRequest (ticket_request now) (ticket_generation now))) (λ _. next)) Unknown k (tt, λ a. k)

module _ (after : Program) (k : Guarded Unknown after) where
  passed_guarded : (h : Holder) (now : ℕ) (tells : Program → Program) → ((q : Program) → Guarded Unknown q → Guarded Unknown (tells q)) → Guarded Unknown (passed_telling h now tells after)
  passed_guarded h now tells t = sides (now == h.last) (freed now (tells (Write (Empties h) after))) (Do (OnChain (ReadNext (ticket_request now))) (λ next. freed now (tells (TakeMessage (ticket_request next) (λ heading bytes. Write (Puts h next heading bytes 0 false) after))))) Unknown
      (freed_guarded now (tells (Write (Empties h) after)) (t (Write (Empties h) after) (tt, k)))
      (tt, λ next. freed_guarded now (tells (TakeMessage (ticket_request next) (λ heading bytes. Write (Puts h next heading bytes 0 false) after))) (t (TakeMessage (ticket_request next) (λ heading bytes. Write (Puts h next heading bytes 0 false) after)) (tt, λ heading bytes. (tt, k))))

  put_guarded : (h : Holder) (now : ℕ) (heading : Heading) (left : List ℕ) (taken : ℕ) (answer : Put) → Guarded (put_mode (socket_id_slot h.id) answer) (put_answered h now heading left taken after answer)
  put_guarded h now heading left taken (puts.Took n) = sides (nat_le (length left) n) (placed h now heading after) (Write (Puts h now heading (drop n left) (taken + n) false) after) Fed (refl, λ a. passed_guarded (one_more h) now (λ q. q) (λ q g. g)) (tt, k)
  put_guarded h now heading left taken puts.Again = (tt, k)
  put_guarded h now heading left taken puts.Failed = set_failed_guarded (Broken (socket_id_slot h.id)) h.id 1009 (λ _. Write (Puts h now heading left taken false) after) refl (λ found. (tt, k))

  ready_guarded : (h : Holder) (now : ℕ) (heading : Heading) (left : List ℕ) (taken : ℕ) (answer : Ready) → Guarded (ready_mode (socket_id_slot h.id) answer) (ready_answered h now heading left taken after answer)
  ready_guarded h now heading left taken asks.Now = (tt, k)
  ready_guarded h now heading left taken asks.NotYet = (tt, k)
  ready_guarded h now heading left taken asks.Failed = set_failed_guarded (Broken (socket_id_slot h.id)) h.id 1009 (λ _. Write (Puts h now heading left taken false) after) refl (λ found. (tt, k))

  -- one round
  pub block_guarded : (w : Writing) → Guarded (round_mode w) (block w after)
  block_guarded (Puts h now heading left taken asked) = (
    tt,
    λ found. mode_sides (vref_version found % 2 == 0) (PutBytes h.link asked (part heading.parts left taken) (put_answered h now heading left taken after)) (dropped h now heading after) (Live (socket_id_slot h.id)) Dead
        (socket_id_slot h.id, refl, put_guarded h now heading left taken) (tt, λ a. (refl, λ b. passed_guarded (one_more h) now (tell_drop heading a) (tell_guarded heading a))),
  )
  block_guarded (Waits h now heading left taken) = (socket_id_slot h.id, refl, ready_guarded h now heading left taken)
  block_guarded (Empties h) = (
    tt,
    (
      tt,
      λ found. sides (found == h.last) after (TakeHome h.link (λ places. Write (Reversing (record h { places = places }) found found 0) after)) Unknown k (tt, λ places. (tt, k)),
    ),
  )
  block_guarded (Reversing h top at next) = (
    tt,
    λ found. sides (found == UNCONNECTED) (Write (Reversing h top at next) after)
        (Do (OnChain (ReverseNext (ticket_request at) next)) (λ _. if found == h.last then TakeMessage (ticket_request at) (λ heading bytes. Write (Puts (record h { last = top }) at heading bytes 0 false) after) else Write (Reversing h top found at) after)) Unknown (tt, k)
        (tt, λ a. sides (found == h.last) (TakeMessage (ticket_request at) (λ heading bytes. Write (Puts (record h { last = top }) at heading bytes 0 false) after)) (Write (Reversing h top found at) after) Unknown (tt, λ heading bytes. (tt, k)) (tt, k)),
  )

-- a seat at the head of a loop makes the first step of the round, and any other its next one
pub first_guarded : (m : Mode) (program : Program) → Guarded m program → Guarded (first_mode m program) (first_step program)
first_guarded m (Write w after) g = block_guarded after g.1 w
first_guarded m (Round head next) g = loop_guarded head next g.1
first_guarded m _ g = g

-- ## Sending

-- the first look
first_put_guarded : (h : Holder) (now : ℕ) (heading : Heading) (bytes : List ℕ) (after : Program) → Guarded Unknown after → Guarded Unknown (first_put h now heading bytes after)
first_put_guarded h now heading bytes after k = (
  tt,
  λ found. mode_sides (vref_version found % 2 == 0) (PutBytes h.link false (part heading.parts bytes 0) (put_answered h now heading bytes 0 after)) (Write (Puts h now heading bytes 0 false) after) (Live (socket_id_slot h.id)) Dead
      (socket_id_slot h.id, refl, put_guarded after k h now heading bytes 0) (tt, k),
)

write_guarded : (id q own : ℕ) (after : Program) → Guarded Unknown after → Guarded Unknown (write_link id q own after)
write_guarded id q own after k = (tt, λ l. (tt, λ places. (tt, λ heading bytes. first_put_guarded (record { id = id; link = l; last = own; places = places }) own heading bytes after k)))

accept_guarded : (id q g : ℕ) (heading : Heading) (bytes : List ℕ) (after : Program) → Guarded Unknown after → Guarded Unknown (accept id q g heading bytes after)
accept_guarded id q g heading bytes after k = (
  tt,
  λ a. (
    tt,
    λ b. (
      tt,
      λ found. sides (nat_lt found IDLE) (Do (OnChain (Connect q found)) (λ _. after)) (write_link id q (ticket_of q g) after) Unknown (tt, λ c. k) (write_guarded id q (ticket_of q g) after k),
    ),
  ),
)

claim_guarded : (m : Mode) → IsWhole m → (more q o id : ℕ) (bytes : List ℕ) (next : Program) → Guarded Unknown next → Guarded m (claim_from more q o id bytes next)
claim_guarded m whole zero q o id bytes next k = release_guarded m whole (socket_id_slot id) (λ _. Say o Full next) (λ b. k)
claim_guarded m whole (suc more) q o id bytes next k = (
  whole,
  λ found. sides (found % 2 == 0) (accept id q (found / 2) (heading_of o) bytes (release (socket_id_slot id) (λ _. Sent o next))) (claim_from more (q + 1) o id bytes next) Unknown
      (accept_guarded id q (found / 2) (heading_of o) bytes (release (socket_id_slot id) (λ _. Sent o next)) (release_guarded Unknown tt (socket_id_slot id) (λ _. Sent o next) (λ b. k)))
      (claim_guarded Unknown tt more (q + 1) o id bytes next k),
)

start_guarded : (requests o id : ℕ) (bytes : List ℕ) (next : Program) → Guarded Unknown next → Guarded Unknown (start requests o id bytes next)
start_guarded requests o id bytes next k = (
  tt,
  λ found. sides (vref_version found % 2 == 0) (claim_from requests 0 o id bytes next) (release (socket_id_slot id) (λ _. Say o (Gone (record { 0 = found })) next)) (looked_mode (socket_id_slot id) found)
      (claim_guarded (looked_mode (socket_id_slot id) found) (looked_whole (socket_id_slot id) found) requests 0 o id bytes next k)
      (release_guarded (looked_mode (socket_id_slot id) found) (looked_whole (socket_id_slot id) found) (socket_id_slot id) (λ _. Say o (Gone (record { 0 = found })) next) (λ b. k)),
)

-- ## Calls

claims_guarded : (m : Mode) → IsWhole m → (more q id : ℕ) (heading : Heading) (bytes : List ℕ) (full accepted : Program) → ((n : Mode) → IsWhole n → Guarded n full) → Guarded Unknown accepted → Guarded m (claims_from more q id heading bytes full accepted)
claims_guarded m whole zero q id heading bytes full accepted f a = f m whole
claims_guarded m whole (suc more) q id heading bytes full accepted f a = (
  whole,
  λ found. sides (found % 2 == 0) (accept id q (found / 2) heading bytes accepted) (claims_from more (q + 1) id heading bytes full accepted) Unknown
      (accept_guarded id q (found / 2) heading bytes accepted a) (claims_guarded Unknown tt more (q + 1) id heading bytes full accepted f a),
)

attempt_guarded : (requests : ℕ) (asked : Asked) (id n socket : ℕ) (next : Program) → Guarded Unknown next → Guarded Unknown (attempt requests asked id n socket next)
attempt_guarded requests asked id n socket next g = let i : ℕ = socket_id_slot socket in let back : Program = release i (λ _. next) in let bytes : List ℕ = frame_of asked id n in let heading : Heading = heading_for asked id n in
    let back_goes = λ (m : Mode) (whole : IsWhole m). release_guarded m whole i (λ _. next) (λ b. g) in
    let looks : ℕ → Program = λ found. if vref_version found % 2 == 0 then claims_from requests 0 socket heading bytes (post id 3001 n back) back else post id 1009 n back in
    address_guarded socket (Do (OnSlot (FindLink i (socket_id_version socket))) (λ k. Aside (StoreAt asked.operation (at_word (id_first id) (id_slot id) k n)) (λ _. Do (OnSlot (LookWord socket)) looks))) (λ _. post id 1009 n next) (
      tt,
      λ k. (
        tt,
        λ _. (
          tt,
          λ found. sides (vref_version found % 2 == 0) (claims_from requests 0 socket heading bytes (post id 3001 n back) back) (post id 1009 n back) (looked_mode i found)
              (claims_guarded (looked_mode i found) (looked_whole i found) requests 0 socket heading bytes (post id 3001 n back) back (λ m whole. post_guarded m whole id 3001 n back (back_goes Unknown tt)) (back_goes Unknown tt))
              (post_guarded (looked_mode i found) (looked_whole i found) id 1009 n back (back_goes Unknown tt)),
        ),
      ),
    )
    (λ found. post_guarded Unknown tt id 1009 n next g)

tried_guarded : (requests id n : ℕ) (asked : Asked) (next : Program) → Guarded Unknown next → Goes (tried_again requests id n asked next)
tried_guarded requests id n asked next g (IsOpen w) = (
  tt,
  λ word. sides (word == 0) (post id 1009 n next) (attempt requests asked id n (word - 1) next) Unknown (post_guarded Unknown tt id 1009 n next g) (attempt_guarded requests asked id n (word - 1) next g),
)
tried_guarded requests id n asked next g (HasNext w e) = decide_guarded Unknown tt id w e (decided id next) (decided_guarded id next g)

locked_guarded : (requests id n : ℕ) (next : Program) → Guarded Unknown next → Goes (retry_locked requests id n next)
locked_guarded requests id n next g (NotThere w) = g
locked_guarded requests id n next g (HasLock w) = (tt, λ asked. (tt, λ _. (tt, tried_guarded requests id n asked next g)))

retry_guarded : (requests id n : ℕ) (next : Program) → Guarded Unknown next → Guarded Unknown (retry requests id n next)
retry_guarded requests id n next g = (tt, locked_guarded requests id n next g)

begin_guarded : (requests socket i : ℕ) (asked : Asked) (next : Program) → Guarded Unknown next → Guarded Unknown (begin_call requests socket i asked next)
begin_guarded requests socket i asked next g = (tt, λ _. (tt, λ found. (tt, λ _. attempt_guarded requests asked (call_id i (parts found).first) 0 socket next g)))

claim_id_guarded : (more i requests socket : ℕ) (asked : Asked) (next : Program) → Guarded Unknown next → Guarded Unknown (claim_id more i requests socket asked next)
claim_id_guarded zero i requests socket asked next g = g
claim_id_guarded (suc more) i requests socket asked next g = (
  tt,
  λ found. sides (found == 0) (begin_call requests socket i asked next) (claim_id more (i + 1) requests socket asked next) Unknown (begin_guarded requests socket i asked next g) (claim_id_guarded more (i + 1) requests socket asked next g),
)

call_guarded : (requests ids : ℕ) (asked : Asked) (next : Program) → Guarded Unknown next → Guarded Unknown (call requests ids asked next)
call_guarded requests ids asked next g = (
  tt,
  λ word. sides (word == 0) (Say asked.operation Unopened next) (claim_id ids 0 requests (word - 1) asked next) Unknown g (claim_id_guarded ids 0 requests (word - 1) asked next g),
)

expire_guarded : (o t : ℕ) (next : Program) → Guarded Unknown next → Guarded Unknown (expire o t next)
expire_guarded o t next g = (
  tt,
  λ id. let e : ℕ = error_of 1008 WHOLE in let k : Posting → Program = λ how. posted id e (Say o (expire_outcome how) next) how in
      sides (id == 0) (Say o NotBegun next) (post_with id e k) Unknown g (post_with_guarded Unknown tt id e k (λ how. posted_guarded id e (Say o (expire_outcome how) next) g how)),
)

join_guarded : (o t : ℕ) (next : Program) → Guarded Unknown next → Guarded Unknown (join o t next)
join_guarded o t next g = (tt, λ id. sides (id == 0) (Say o NotBegun next) (Round (Joins id) (λ _. Say o Joined next)) Unknown g (tt, λ _. g))

-- ## Readers

ends_with_guarded : (id e word : ℕ) (kept : List Frame) (next : Program) → Guarded Unknown next → Guarded Unknown (ends_with id e word kept next)
ends_with_guarded id e word [] next g = decide_guarded Unknown tt id word e (decided id next) (decided_guarded id next g)
ends_with_guarded id e word (f ∷ fs) next g = answer_guarded f (id_first id) next g

posted_last_guarded : (id e : ℕ) (kept : List Frame) (next : Program) → Guarded Unknown next → Goes (posted_last id e kept next)
posted_last_guarded id e kept next g (HasLocked word) = ends_with_guarded id e word (kept_for id (parts word).range kept) next g
posted_last_guarded id e kept next g _ = g

each_guarded : (os : List ℕ) (k c : ℕ) (kept : List Frame) (next : Program) → Guarded Unknown next → Guarded Unknown (post_each os k c kept next)
each_guarded [] k c kept next g = g
each_guarded (o ∷ os) k c kept next g = (
  tt,
  λ w. let rest : Program = post_each os k c kept next in let rest_goes = each_guarded os k c kept next g in let id : ℕ = call_id (at_word_slot w) (at_word_first w) in let e : ℕ = error_of c (at_word_attempt w) in
      let here : Program = post_with id e (posted_last id e kept rest) in
      sides (w == 0) rest (if at_word_link w == k then here else rest) Unknown rest_goes
      (sides (at_word_link w == k) here rest Unknown (post_with_guarded Unknown tt id e (posted_last id e kept rest) (posted_last_guarded id e kept rest rest_goes)) rest_goes),
)

thrown_guarded : (how : Ended) → Guarded Unknown (thrown_away how)
thrown_guarded how = sides (how.fault && nat_lt how.reading.total LIMIT) (Round (Discards how.reading.link how.reading.total) (λ _. Rest)) Rest Unknown (tt, λ _. tt) tt

read_guarded : (calls : List ℕ) → Goes (read calls)
read_guarded calls how = let id : ℕ = how.reading.id in let last : Program = post_each calls how.reading.link how.code how.reading.kept (thrown_away how) in
    let last_goes = each_guarded calls how.reading.link how.code how.reading.kept (thrown_away how) (thrown_guarded how) in
    let fails : Program = set_failed id how.code (λ _. release (socket_id_slot id) (λ _. last)) in
    sides how.closed last (add_reference id fails (λ _. last)) Unknown last_goes
    (address_guarded id fails (λ _. last) (set_failed_guarded Unknown id how.code (λ _. release (socket_id_slot id) (λ _. last)) tt (λ found. release_guarded Unknown tt (socket_id_slot id) (λ _. last) (λ b. last_goes))) (λ found. last_goes))

-- each reader keeps to it
pub reader_guarded : (calls : List ℕ) (k o : ℕ) → Guarded Unknown (reader calls k o)
reader_guarded calls k o = (
  tt,
  λ word. sides (word == NO_SOCKET) Rest (Round (Reads (record { ids = length calls; link = k; id = word - 1; rest = []; total = 0; kept = [] })) (read calls)) Unknown tt (tt, read_guarded calls),
)

-- what a seat comes to from a program on, where these retries wait with it
pub come_guarded : (m : Mode) (ws : List Retry) (program : Program) → Guarded m program → Guarded m (next_step (resolved ws program))
come_guarded m ws (Say o outcome next) g = come_guarded m ws next g
come_guarded m ws (Sent o next) g = come_guarded m ws next g
come_guarded m ws (Keep r next) g = come_guarded m (ws ++ r ∷ []) next g
come_guarded m [] (Retries requests after) g = come_guarded m [] after (subst (λ (n : Mode). Guarded n after) (sym g.0) g.1)
come_guarded m (r ∷ ws) (Retries requests after) g = subst (λ (n : Mode). Guarded n (retry requests r.id r.attempt (Retries requests after))) (sym g.0) (retry_guarded requests r.id r.attempt (Retries requests after) (refl, g.1))
come_guarded m ws _ g = g

-- ## Clients

no_socket_guarded : (o k : ℕ) (next : Program) → Guarded Unknown next → Guarded Unknown (no_socket o k next)
no_socket_guarded o k next g = (tt, λ a. (tt, λ b. (tt, λ c. (tt, λ d. g))))

make_guarded : (o name k i : ℕ) (next : Program) → Guarded Unknown next → Guarded Unknown (make_socket o name k i next)
make_guarded o name k i next g = (tt, λ a. (tt, λ b. (tt, λ c. (tt, λ found. (tt, λ d. (tt, λ e. g))))))

open_guarded : (more i o name k : ℕ) (next : Program) → Guarded Unknown next → Guarded Unknown (open_from more i o name k next)
open_guarded zero i o name k next g = no_socket_guarded o k next g
open_guarded (suc more) i o name k next g = (
  tt,
  λ found. sides (found == 0) (make_socket o name k i next) (open_from more (i + 1) o name k next) Unknown (make_guarded o name k i next g) (open_guarded more (i + 1) o name k next g),
)

fail_guarded : (o name code : ℕ) (next : Program) → Guarded Unknown next → Guarded Unknown (fail o name code next)
fail_guarded o name code next g = reach_guarded name (Say o Unopened next) (λ id. set_failed id code (λ found. release (socket_id_slot id) (λ _. Say o (fail_outcome found) next))) (λ found. Say o (Gone (record { 0 = found })) next) g
    (λ id. set_failed_guarded Unknown id code (λ found. release (socket_id_slot id) (λ _. Say o (fail_outcome found) next)) tt (λ found. release_guarded Unknown tt (socket_id_slot id) (λ _. Say o (fail_outcome found) next) (λ b. g))) (λ found. g)

drop_guarded : (o : ℕ) (held : std.Option ℕ) (next : Program) → Guarded Unknown next → Guarded Unknown (drop_of o held next)
drop_guarded o None next g = g
drop_guarded o (Some id) next g = release_guarded Unknown tt (socket_id_slot id) (λ freed. Say o (if freed then Freed else Kept) next) (λ b. g)

operation_guarded : (sizes : Sizes) (held : List HeldLife) (o : ℕ) (next : List HeldLife → Program) → ((held' : List HeldLife) → Guarded Unknown (next held')) → (op : Op) → Guarded Unknown (operation sizes held o next op)
operation_guarded sizes held o next g (ops.Open name k) = open_guarded sizes.slots 0 o name k (next held) (g held)
operation_guarded sizes held o next g (ops.Send name bytes) = reach_guarded name (Say o Unopened (next held)) (λ id. start sizes.requests o id bytes (next held)) (λ found. Say o (Gone (record { 0 = found })) (next held)) (g held)
    (λ id. start_guarded sizes.requests o id bytes (next held) (g held)) (λ found. g held)
operation_guarded sizes held o next g (ops.Call asked) = call_guarded sizes.requests sizes.ids asked (next held) (g held)
operation_guarded sizes held o next g (ops.Expire t) = expire_guarded o t (next held) (g held)
operation_guarded sizes held o next g (ops.Join t) = join_guarded o t (next held) (g held)
operation_guarded sizes held o next g (ops.Hold name) = reach_guarded name (Say o Unopened (next held)) (λ id. Say o Held (next (held ++ (record { name = name; id = id }) ∷ []))) (λ found. Say o (Gone (record { 0 = found })) (next held)) (g held)
    (λ id. g (held ++ (record { name = name; id = id }) ∷ [])) (λ found. g held)
operation_guarded sizes held o next g (ops.Drop name) = drop_guarded o (held_under name held) (next (without_name name held)) (g (without_name name held))
operation_guarded sizes held o next g (ops.Fail name code) = fail_guarded o name code (next held) (g held)

give_back_guarded : (held : List HeldLife) → Guarded Unknown (give_back held)
give_back_guarded [] = tt
give_back_guarded (h ∷ hs) = release_guarded Unknown tt (socket_id_slot h.id) (λ _. give_back hs) (λ b. give_back_guarded hs)

-- each client keeps to it
pub client_guarded : (sizes : Sizes) (held : List HeldLife) (tasks : List Task) → Guarded Unknown (client_from sizes held tasks)
client_guarded sizes held [] = (refl, give_back_guarded held)
client_guarded sizes held (t ∷ ts) = (refl, operation_guarded sizes held t.number (λ held'. client_from sizes held' ts) (λ held'. client_guarded sizes held' ts) t.op)

-- and so does the ending
pub ending_guarded : (os : List ℕ) → Guarded Unknown (ending_of os)
ending_guarded [] = tt
ending_guarded (o ∷ os) = (
  tt,
  λ word. let next : Program = ending_of os in let live : Program = set_failed (word - 1) 1014 (λ _. release (socket_id_slot (word - 1)) (λ _. next)) in let there : Program = add_reference (word - 1) live (λ _. next) in
      sides (word == 0) next (if word == NO_SOCKET then next else there) Unknown (ending_guarded os)
      (sides (word == NO_SOCKET) next there Unknown (ending_guarded os)
      (address_guarded (word - 1) live (λ _. next) (set_failed_guarded Unknown (word - 1) 1014 (λ _. release (socket_id_slot (word - 1)) (λ _. next)) tt (λ found. release_guarded Unknown tt (socket_id_slot (word - 1)) (λ _. next) (λ b. ending_guarded os))) (λ found. ending_guarded os))),
)
