-- Errors of calls: posted to an id, decided on, and the loops that give a lock back or get one (bRPC's bthread_id.md: `bthread_id_error`,
-- `bthread_id_lock`, `bthread_id_unlock`, `bthread_id_unlock_and_destroy`).
use Rattle.std.specs.Prelude.{ℕ, ◌≡◌, ◌+◌, ◌==◌, ◌&&◌, not, Bool, true, false, nat_le, if◌then◌else◌, Option, Some, None}
use Rattle.sock_model.specs.sock_words.specs.declared.outcome.Outcome.TheVariants.{CallFailed}
use Rattle.corr_core.specs.IdSlotWord.{Parts, parts, error_of, code_of, attempt_of, posted_word, unlocked_word}
use Rattle.corr_core.specs.IdSlotLaw.{LAST}
use Rattle.corr_core.specs.IdRangeVersions.{has_version}
use Rattle.corr_core.specs.EndedByRangeOrAttempt.{WHOLE, ends_call}
use Rattle.sock_message.specs.Asked.{Asked}
use Rattle.seat_programs.specs.Asides.{PutCall, LoadIdWord, LockId, PostId, UnlockId, EndId, FreeId, TakeCall}
use Rattle.seat_programs.specs.LoopHeads.{Retry, Sought, First, Version, Posts, Unlocks, Decides, Locks, Joins, Posting, WasGone, WasStale, WasCrowded, WasQueued, HasLocked, Unlocking, IsOpen, HasNext, Deciding, HasEnded, GoesOn, Locking, NotThere, Has}
use Rattle.seat_programs.specs.Programs.{Program, Say, Aside, Round, Keep}
use Rattle.sock_model.specs.sock_words.specs.PackedWords.{id_word, id_slot, id_first, bit}

-- ## Words

-- the word after a lock, a post, and an unlocking, by the word before
abbrev pub packed : Parts → ℕ
packed w = id_word w.first w.state w.range w.attempt w.oldest w.second

-- the id's range is there
abbrev pub is_first : ℕ → Parts → Bool
is_first first w = (w.first == first) && not (w.state == 0)

abbrev pub is_sought : Sought → Parts → Bool
is_sought (First first) w = is_first first w
is_sought (Version v) w = has_version v w

-- where a word was found from which the lock is tried, it has what is sought, and is open
abbrev pub IsSoughtWord : Sought → Option ℕ → Type 0
IsSoughtWord sought None = Unit {0}
IsSoughtWord sought (Some w) = (is_sought sought (parts w) ≡ true) × ((parts w).state ≡ 1)

-- the error is for another attempt than the current one
abbrev pub is_stale : ℕ → Parts → Bool
is_stale e w = not (attempt_of e == WHOLE) && not (attempt_of e == w.attempt)

abbrev pub is_full : Parts → Bool
is_full w = (w.state == 2) && not (w.second == 0)

-- ## Posting

-- what is done about an error for the id by the word found
abbrev pub judged : ℕ → ℕ → ℕ → (Posting → Program) → Program
judged id e found k = let w = parts found in
    if not (is_first (id_first id) w) then k WasGone
    else if is_stale e w then k WasStale
    else if is_full w then k (WasCrowded (code_of w.oldest) (code_of w.second))
    else Round (Posts id e found) k

abbrev pub posts_round : ℕ → ℕ → ℕ → (Posting → Program) → Program
posts_round id e from k = Aside (PostId (id_slot id) from e) (λ found.
    if found == from then (if (parts from).state == 1 then k (HasLocked (packed (posted_word (parts from) e))) else k WasQueued)
    else judged id e found k)

abbrev pub post_with : ℕ → ℕ → (Posting → Program) → Program
post_with id e k = Aside (LoadIdWord (id_slot id)) (λ found. judged id e found k)

-- ## Giving a lock back

abbrev pub popped : ℕ → ℕ → ℕ → (Unlocking → Program) → Program
popped i oldest after k = if oldest == 0 then k (IsOpen after)
    else if is_stale oldest (parts after) then Round (Unlocks i after false) k else k (HasNext after oldest)

abbrev pub unlocks_round : ℕ → ℕ → Bool → (Unlocking → Program) → Program
unlocks_round i from advance k = Aside (UnlockId i from advance) (λ found.
    if found == from then popped i (parts from).oldest (packed (unlocked_word (parts from) (bit advance))) k
    else Round (Unlocks i found advance) k)

-- ## Deciding

-- the range in hand ends; the slot is given up unless its versions are used up
abbrev pub end_id : ℕ → Program → Program
end_id i next = Aside (EndId i) (λ found. if nat_le ((parts found).first + (parts found).range) LAST then Aside (FreeId i) (λ _. next) else next)

-- the call is taken out of its home, and the next error decided on
abbrev pub decide : ℕ → ℕ → ℕ → (Deciding → Program) → Program
decide id word e k = Aside (TakeCall (id_slot id)) (λ asked. Round (Decides id asked word e) k)

-- behind the exchange that advanced the attempt the retry is kept, also where the error that it took out ends the call
abbrev pub unlocked : Retry → (Deciding → Program) → Unlocking → Program
unlocked r k (IsOpen word) = Keep r (k GoesOn)
unlocked r k (HasNext word e) = Keep r (decide r.id word e k)

abbrev pub decides_round : ℕ → Asked → ℕ → ℕ → (Deciding → Program) → Program
decides_round id asked word e k =
    if ends_call (parts word) e then end_id (id_slot id) (k (HasEnded asked.operation (code_of e)))
    else Aside (PutCall (id_slot id) asked) (λ _. Round (Unlocks (id_slot id) word true) (unlocked (record { id = id; attempt = (parts word).attempt + 1 }) k))

-- the outcome of a call that ended
abbrev pub decided : ℕ → Program → Deciding → Program
decided id next (HasEnded o code) = Say o (CallFailed id code) next
decided id next GoesOn = next

-- what follows a post whoever made it, but for what is said of it
abbrev pub posted : ℕ → ℕ → Program → Posting → Program
posted id e next (HasLocked word) = decide id word e (decided id next)
posted id e next other = next

abbrev pub post : ℕ → ℕ → ℕ → Program → Program
post id code attempt next = let e = error_of code attempt in post_with id e (posted id e next)

-- ## Getting a lock

abbrev pub locking : ℕ → Sought → ℕ → (Locking → Program) → Program
locking i sought found k = let w = parts found in
    if not (is_sought sought w) then k (NotThere found)
    else if w.state == 1 then Round (Locks i sought (Some found)) k
    else Round (Locks i sought None) k

abbrev pub locks_round : ℕ → Sought → Option ℕ → (Locking → Program) → Program
locks_round i sought None k = Aside (LoadIdWord i) (λ found. locking i sought found k)
locks_round i sought (Some from) k = Aside (LockId i from) (λ found.
    if found == from then k (Has (packed (posted_word (parts from) 0))) else locking i sought found k)

-- ## Waiting for an end

abbrev pub joins_round : ℕ → (ℕ → Program) → Program
joins_round id k = Aside (LoadIdWord (id_slot id)) (λ found. if is_first (id_first id) (parts found) then Round (Joins id) k else k found)
