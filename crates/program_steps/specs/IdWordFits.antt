-- What the table of the sockets relies on of the steps and loops aside of it: the numbers that calls and id words have. It is shown by the rule of the ids.
use Rattle.std.specs.Prelude.{ℕ, ◌≡◌, ◌≢◌, ◌+◌, ◌<◌, ◌≤◌, Option, Some, None}
use Rattle.sock_words.specs.declared.plain.Plan.{Plan}
use Rattle.seat_programs.specs.corr_core.specs.IdSlotWord.{parts}
use Rattle.seat_programs.specs.Asides.{Step, TakeCall, LoadIdWord, LockId, PostId, UnlockId, Found}
use Rattle.seat_programs.specs.LoopHeads.{Head, Exit, Retry, Posts, Unlocks, Decides, Locks, Opens, Posting, HasLocked, Unlocking, HasNext, Locking, Has, Reads, Ended}
use Rattle.seat_programs.specs.Explained.{AskedFits}
use Rattle.sock_words.specs.PackedWords.{bit}

-- the attempt of the word is one of its range, also behind so many more
abbrev pub FitsMore : ℕ → ℕ → Type 0
FitsMore more word = (parts word).attempt + more + 2 ≤ (parts word).range

abbrev pub FitsWord : ℕ → Type 0
FitsWord word = FitsMore 0 word

-- where the id isn't free
abbrev pub FitsTaken : ℕ → Type 0
FitsTaken word = 0 < (parts word).state → FitsWord word

-- a call has at most seven attempts
abbrev pub FitsRetry : Retry → Type 0
FitsRetry r = r.attempt ≤ 6

abbrev pub FitsFound : Plan → (step : Step) → Found step → Type 0
FitsFound p (TakeCall i) asked = AskedFits p asked
FitsFound p (LoadIdWord i) found = FitsTaken found
FitsFound p (LockId i from) found = FitsTaken found
FitsFound p (PostId i from e) found = FitsTaken found
FitsFound p (UnlockId i from advance) found = FitsMore (bit advance) found
FitsFound p other found = Unit {0}

abbrev pub FitsFrom : Option ℕ → Type 0
FitsFrom (Some w) = FitsWord w
FitsFrom None = Unit {0}

abbrev pub FitsHead : Plan → Head → Type 0
FitsHead p (Posts id e w) = FitsWord w
FitsHead p (Unlocks i w advance) = FitsMore (bit advance) w
FitsHead p (Decides id asked w e) = AskedFits p asked × FitsWord w
FitsHead p (Locks i sought w) = FitsFrom w
FitsHead p (Opens o) = o < p.operations
FitsHead p other = Unit {0}

abbrev pub FitsPosting : Posting → Type 0
FitsPosting (HasLocked w) = FitsWord w
FitsPosting other = Unit {0}

abbrev pub FitsUnlocking : Unlocking → Type 0
FitsUnlocking (HasNext w e) = FitsWord w
FitsUnlocking other = Unit {0}

abbrev pub FitsLocking : Locking → Type 0
FitsLocking (Has w) = FitsWord w
FitsLocking other = Unit {0}

-- a reading ends with a code, and is still that of the same life
abbrev pub FitsEnded : ℕ → Ended → Type 0
FitsEnded id how = (how.reading.id ≡ id) × (how.code ≢ 0)

abbrev pub FitsExit : (head : Head) → Exit head → Type 0
FitsExit (Posts id e w) exit = FitsPosting exit
FitsExit (Unlocks i w advance) exit = FitsUnlocking exit
FitsExit (Locks i sought w) exit = FitsLocking exit
FitsExit (Reads r) exit = FitsEnded r.id exit
FitsExit other exit = Unit {0}
