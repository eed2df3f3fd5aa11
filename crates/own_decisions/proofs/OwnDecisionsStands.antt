-- What a seat tries, has behind it or has posted. Its program posts an error of an attempt only behind the attempt, and decides only on an error that it posted, or that is for the whole call.
use Rattle.std.specs.Prelude.{ℕ, ◌≡◌, ◌≢◌, ◌+◌, ◌<◌, ◌≤◌, ◌⊎◌, ◌==◌, Bool, true, false, if◌then◌else◌, List}
use Rattle.sock_io.specs.declared.link.Put.{Put}
use Rattle.sock_io.specs.declared.link.Ready.{Ready}
use Rattle.sock_model.specs.declared.chain.Heading.{Heading}
use Rattle.sock_words.specs.PackedWords.{at_word, at_word_first, at_word_slot, at_word_attempt, call_id, id_slot, id_first, bit}
use Rattle.corr_core.specs.IdSlotWord.{parts, error_of, attempt_of, unlocked_word}
use Rattle.corr_core.specs.EndedByRangeOrAttempt.{WHOLE}
use Rattle.sent_once.specs.Below.id_runs.specs.Goes.{FitsSock}
use Rattle.seat_programs.specs.Asides.{Step, Found, MakeId, StoreAt, LoadAt, PostId, UnlockId}
use Rattle.seat_programs.specs.TableSteps.{TableStep, OnMessage, PutMessage}
use Rattle.seat_programs.specs.LoopHeads.{Head, Exit, Posts, Unlocks, Decides, Locks, Posting, HasLocked, Unlocking, Locking, NotThere, Has}
use Rattle.seat_programs.specs.PostPrograms.{is_stale, IsSoughtWord}
use Rattle.seat_programs.specs.Writings.{Writing, Puts, Waits}
use Rattle.seat_programs.specs.Programs.{Program, Do, Say, Sent, Rest, TakeMessage, TakeHome, PutHome, PutBytes, AskReady, Write, Aside, Round, Keep, Retries}
use Rattle.sent_once.specs.Below.label_runs.specs.AttemptLabelsLeft.{LeavesNext, LeavesBy}

-- a seat tries attempt n of the call with this id; nobody tries it any more; or it posted this error to the id, which it locked by that
pub data Stand : Type 0 where
  Calm : Stand
  Trying : ℕ → ℕ → Stand
  Past : ℕ → ℕ → Stand
  Posted : ℕ → ℕ → Stand

-- a seat may give up what it tries, and forget
abbrev pub Eases : Stand → Stand → Type 0
Eases s u = (u ≡ s) ⊎ ((u ≡ Calm) ⊎ ((id n : ℕ) × (s ≡ Trying id n) × (u ≡ Past id n)))

-- a message of an attempt was accepted, so that nobody tries the attempt
abbrev pub behind_message : Heading → Stand
behind_message heading = if heading.owner == 0 then Calm else Past heading.owner heading.label.attempt

-- ## Steps

abbrev pub MayPut : Stand → TableStep → Type 0
MayPut s (OnMessage (PutMessage q heading bytes)) = (heading.owner ≡ 0) ⊎ (s ≡ Past heading.owner heading.label.attempt)
MayPut s other = Unit {0}

-- an error for the whole call, or of an attempt that nobody tries
abbrev pub MayPost : Stand → ℕ → ℕ → Type 0
MayPost s id e = (attempt_of e ≡ WHOLE) ⊎ ((code n : ℕ) × (e ≡ error_of code n) × (s ≡ Past id n))

abbrev pub MayDecide : Stand → ℕ → ℕ → Type 0
MayDecide s id e = (attempt_of e ≡ WHOLE) ⊎ (s ≡ Posted id e)

-- the seat tries an attempt of the range in this slot
abbrev pub IsTryingAt : Stand → ℕ → ℕ → Type 0
IsTryingAt s i first = (n : ℕ) × (s ≡ Trying (call_id i first) n)

-- the at word of an attempt is stored by the seat that tries it
abbrev pub Stowing : ℕ → Stand → Stand → Type 0
Stowing w s u = (id n k : ℕ) × (s ≡ Trying id n) × (w ≡ at_word (id_first id) (id_slot id) k n) × (k < 65535) × (n ≤ 6) × (u ≡ Past id n)

abbrev pub MayAside : Stand → Step → Type 0
MayAside s (PostId i from e) = MayPost s (call_id i (parts from).first) e
MayAside s (UnlockId i from false) = IsTryingAt s i (parts from).first
MayAside s other = Unit {0}

-- the exchange that advances an attempt makes the next one
abbrev pub unlocked_stand : ℕ → ℕ → Bool → ℕ → Stand → Stand
unlocked_stand i from true found s = if found == from then Trying (call_id i (parts from).first) ((parts from).attempt + 1) else s
unlocked_stand i from false found s = s

abbrev pub MovesAside : (step : Step) → Found step → Stand → Stand → Type 0
MovesAside (MakeId i range) found s u = u ≡ Trying (call_id i (parts found).first) 0
MovesAside (StoreAt o w) found s u = Stowing w s u
MovesAside (LoadAt o) found s u = Eases s u ⊎ ((found ≢ 0) × (u ≡ Past (call_id (at_word_slot found) (at_word_first found)) (at_word_attempt found)))
MovesAside (PostId i from e) found s u = Eases s u ⊎ ((found ≡ from) × (u ≡ Posted (call_id i (parts from).first) e))
MovesAside (UnlockId i from advance) found s u = u ≡ unlocked_stand i from advance found s
MovesAside other found s u = Eases s u

-- whoever has a lock finds it with more errors at most; and the one that it takes out is for the whole call, or stale
abbrev pub FindsAside : (step : Step) → Found step → Type 0
FindsAside (UnlockId i from advance) found = ((parts from).first < 4294967296) × ((parts from).attempt + bit advance ≤ 6) × (found ≢ from → ((parts found).first ≡ (parts from).first) × ((parts found).attempt ≡ (parts from).attempt))
    × (found ≡ from → (parts from).oldest ≢ 0 → is_stale (parts from).oldest (unlocked_word (parts from) (bit advance)) ≡ false → attempt_of (parts from).oldest ≡ WHOLE)
FindsAside other found = Unit {0}

-- ## Loops

abbrev pub AtWriting : Stand → Writing → Type 0
AtWriting s (Puts h now heading left taken asked) = s ≡ behind_message heading
AtWriting s (Waits h now heading left taken) = s ≡ behind_message heading
AtWriting s other = Unit {0}

abbrev pub AtStand : Stand → Head → Type 0
AtStand s (Posts id e w) = ((parts w).first ≡ id_first id) × MayPost s id e
AtStand s (Unlocks i w false) = IsTryingAt s i (parts w).first
AtStand s (Decides id asked w e) = ((parts w).first ≡ id_first id) × MayDecide s id e
AtStand s (Locks i sought w) = IsSoughtWord sought w
AtStand s other = Unit {0}

abbrev pub posted_stand : ℕ → ℕ → Posting → Stand
posted_stand id e (HasLocked w) = Posted id e
posted_stand id e other = Calm

abbrev pub unlocks_stand : ℕ → ℕ → Bool → Stand → Stand
unlocks_stand i w true s = Trying (call_id i (parts w).first) ((parts w).attempt + 1)
unlocks_stand i w false s = s

abbrev pub locked_stand : Locking → Stand → Stand
locked_stand (NotThere w) s = Calm
locked_stand (Has w) s = s

abbrev pub stand_behind : (head : Head) → Exit head → Stand → Stand
stand_behind (Posts id e w) exit s = posted_stand id e exit
stand_behind (Unlocks i w advance) exit s = unlocks_stand i w advance s
stand_behind (Locks i sought w) exit s = locked_stand exit s
stand_behind head exit s = Calm

-- the next word has the same first version, and its error is about the whole call
abbrev pub IsWholeNext : ℕ → ℕ → ℕ → Type 0
IsWholeNext first w e = ((parts w).first ≡ first) × (attempt_of e ≡ WHOLE)

abbrev pub LeavesUnlock : ℕ → Unlocking → Type 0
LeavesUnlock = LeavesNext IsWholeNext

abbrev pub LeavesStand : (head : Head) → Exit head → Type 0
LeavesStand = LeavesBy IsWholeNext

-- ## Programs

abbrev pub Aims : Stand → Program → Type 0
Aims s (Do call next) = MayPut s call × ((found : ℕ) → FitsSock call found → (u : Stand) × Eases s u × Aims u (next found))
Aims s (Say o outcome next) = Aims s next
Aims s (Sent o next) = Aims s next
Aims s Rest = Unit {0}
Aims s (TakeMessage q next) = (heading : Heading) (bytes : List ℕ) → Aims (behind_message heading) (next heading bytes)
Aims s (TakeHome k next) = (n : ℕ) → Aims Calm (next n)
Aims s (PutHome k n after) = Aims Calm after
Aims s (PutBytes k asked bytes next) = (answer : Put) → Aims s (next answer)
Aims s (AskReady k next) = (answer : Ready) → Aims s (next answer)
Aims s (Write w after) = AtWriting s w × Aims Calm after
Aims s (Aside step next) = MayAside s step × ((found : Found step) → FindsAside step found → (u : Stand) × MovesAside step found s u × Aims u (next found))
Aims s (Round head next) = AtStand s head × ((exit : Exit head) → LeavesStand head exit → Aims (stand_behind head exit s) (next exit))
Aims s (Keep r next) = (s ≡ Trying r.id r.attempt) × (r.attempt ≤ 6) × Aims Calm next
Aims s (Retries requests after) = Aims Calm after
