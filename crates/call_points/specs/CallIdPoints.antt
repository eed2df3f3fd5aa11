-- What a seat has still to do with a call id, by where it stands; k is what follows.
use Rattle.std.specs.Prelude.{ℕ, ◌≡◌, ◌<◌, IsTrue, Option, Some, None}
use Rattle.corr_core.specs.IdSlotWord.{parts, code_of}
use Rattle.seat_programs.specs.Asides.{Step, FreeId}
use Rattle.seat_programs.specs.LoopHeads.{Retry, Posts, Unlocks, Decides, Locks, Posting, Deciding, HasEnded, GoesOn, Locking}
use Rattle.seat_programs.specs.PostPrograms.{decide, end_id, post_with, unlocked}
use Rattle.seat_programs.specs.Programs.{Program, Aside, Round, Keep}
use Rattle.seat_programs.specs.sock_message.specs.Asked.{Asked}
use Rattle.id_points.specs.IdsAndAttemptNumbers.{id_of, number_of}
use Rattle.id_points.specs.CallIdLoopTurns.{sought_as}
use Rattle.call_points.specs.declared.deciding.OnCall.{OnCall}
use Rattle.call_points.specs.declared.deciding.DecideStep.{DecideStep}
use Rattle.call_points.specs.declared.deciding.DecideStep.TheVariants as decides
use Rattle.call_points.specs.declared.deciding.DecideNext.{DecideNext}
use Rattle.call_points.specs.declared.deciding.DecideNext.TheVariants as nexts
use Rattle.call_points.specs.declared.ending.EndStep.{EndStep}
use Rattle.call_points.specs.declared.ending.EndStep.TheVariants as ends
use Rattle.call_points.specs.declared.word_step.WordStep.{WordStep}
use Rattle.call_points.specs.declared.word_step.WordStep.TheVariants as id_steps
use Rattle.call_points.specs.declared.locking.Locker.{Locker}
use Rattle.sock_words.specs.PackedWords.{id_slot}

-- ## The end of a range

abbrev pub end_program : ℕ → Program → EndStep → Program
end_program i k ends.End = end_id i k
end_program i k ends.Free = Aside (FreeId i) (λ _. k)

-- behind it another step, or the slot is done with
abbrev pub end_on : ℕ → Program → Option EndStep → Program
end_on i k None = k
end_on i k (Some step) = end_program i k step

-- ## Posts

abbrev pub post_program : OnCall → (Posting → Program) → WordStep → Program
post_program c k id_steps.Read = post_with (id_of c.id) c.error.0 k
post_program c k (id_steps.Exchange from) = Round (Posts (id_of c.id) c.error.0 from.0) k

-- ## Locks

abbrev pub lock_program : Locker → (Locking → Program) → WordStep → Program
lock_program l k id_steps.Read = Round (Locks l.slot (sought_as l.sought) None) k
lock_program l k (id_steps.Exchange from) = Round (Locks l.slot (sought_as l.sought) (Some from.0)) k

-- ## Decisions

-- the retry of this attempt
abbrev pub retry_of : OnCall → ℕ → Retry
retry_of c n = record { id = id_of c.id; attempt = n }

abbrev pub decide_program : OnCall → Asked → (Deciding → Program) → DecideStep → Program
decide_program c asked k (decides.Take word) = decide (id_of c.id) word.0 c.error.0 k
decide_program c asked k (decides.Judge word) = Round (Decides (id_of c.id) asked word.0 c.error.0) k
decide_program c asked k (decides.Free o) = Aside (FreeId (id_slot (id_of c.id))) (λ _. k (HasEnded o (code_of c.error.0)))
decide_program c asked k (decides.Unlock from advance n) = Round (Unlocks (id_slot (id_of c.id)) from.0 advance) (unlocked (retry_of c (number_of n)) k)

-- behind a step
abbrev pub decide_on : Asked → (Deciding → Program) → OnCall → DecideNext → Program
decide_on asked k c (nexts.Step step) = decide_program c asked k step
decide_on asked k c (nexts.Ended o) = k (HasEnded o (code_of c.error.0))
decide_on asked k c (nexts.Kept n) = Keep (retry_of c (number_of n)) (k GoesOn)
decide_on asked k c (nexts.KeptWith n word e) = Keep (retry_of c (number_of n)) (decide (id_of c.id) word.0 e.0 k)

-- a word that a seat has from an exchange of its own
abbrev pub MayStand : DecideStep → Type 0
MayStand (decides.Judge word) = (parts word.0).attempt < 7
MayStand (decides.Unlock from advance n) = IsTrue advance → (parts from.0).attempt < 7
MayStand other = Unit {0}

-- a lock is tried from an open word alone
abbrev pub IsOpen : WordStep → Type 0
IsOpen (id_steps.Exchange from) = (parts from.0).state ≡ 1
IsOpen other = Unit {0}

-- the step finds a word
abbrev pub GoesByWord : DecideStep → Type 0
GoesByWord (decides.Take word) = ⊥
GoesByWord other = Unit {0}
