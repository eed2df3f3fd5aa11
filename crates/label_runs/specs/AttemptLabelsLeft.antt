-- Which attempts of calls a seat may still have accepted: each is made by one exchange, and its message is put into a request once at most.
use Rattle.std.specs.Prelude.{ℕ, ◌≡◌, ◌≢◌, ◌+◌, ◌<◌, ◌≤◌, ◌⊎◌, ◌==◌, Bool, true, false, if◌then◌else◌, List, []}
use Rattle.sock_io.specs.declared.link.Put.{Put}
use Rattle.sock_io.specs.declared.link.Ready.{Ready}
use Rattle.sock_model.specs.declared.chain.Heading.{Heading}
use Rattle.sock_words.specs.PackedWords.{at_word, call_id, id_slot, id_first, bit}
use Rattle.corr_core.specs.IdSlotWord.{parts}
use Rattle.id_runs.specs.Goes.{FitsSock}
use Rattle.seat_programs.specs.sock_message.specs.Asked.{Asked, frame_of}
use Rattle.seat_programs.specs.Asides.{Step, Found, PutCall, MakeId, StoreAt, UnlockId, TakeCall}
use Rattle.seat_programs.specs.CallAndRetryPrograms.{heading_for}
use Rattle.seat_programs.specs.TableSteps.{TableStep, OnMessage, PutMessage}
use Rattle.seat_programs.specs.LoopHeads.{Head, Exit, Sought, First, Posts, Unlocks, Decides, Locks, Posting, HasLocked, Unlocking, HasNext, Locking, NotThere, Has}
use Rattle.seat_programs.specs.PostPrograms.{IsSoughtWord}
use Rattle.seat_programs.specs.Programs.{Program, Do, Say, Sent, Rest, TakeMessage, TakeHome, PutHome, PutBytes, AskReady, Write, Aside, Round, Keep, Retries}

-- a seat tries attempt n of the call with this id; and has stored its at word, the call being this operation
pub data Trial : Type 0 where
  Idle : Trial
  Tries : ℕ → ℕ → Trial
  Sends : ℕ → ℕ → ℕ → Trial

-- behind it the claim has the attempt
abbrev pub put_behind : Trial → TableStep → Trial
put_behind t (OnMessage (PutMessage q heading bytes)) = Idle
put_behind t other = t

-- a seat may give an attempt up
abbrev pub Kept : Trial → Trial → Type 0
Kept t u = (u ≡ t) ⊎ (u ≡ Idle)

-- ## Steps aside

-- the at word that is stored is that of the attempt that the seat tries
abbrev pub Storing : ℕ → ℕ → Trial → Trial → Type 0
Storing o w t u = (id n k : ℕ) × (t ≡ Tries id n) × (w ≡ at_word (id_first id) (id_slot id) k n) × (k < 65535) × (n ≤ 6) × (u ≡ Sends o id n)

-- the exchange that advances an attempt makes the next one
abbrev pub unlocked_trial : ℕ → ℕ → Bool → ℕ → Trial → Trial
unlocked_trial i from true found t = if found == from then Tries (call_id i (parts from).first) ((parts from).attempt + 1) else t
unlocked_trial i from false found t = t

-- ## Loops

abbrev pub locked_trial : Locking → Trial → Trial
locked_trial (NotThere w) t = Idle
locked_trial (Has w) t = t

abbrev pub unlocks_trial : ℕ → ℕ → Bool → Trial → Trial
unlocks_trial i w true t = Tries (call_id i (parts w).first) ((parts w).attempt + 1)
unlocks_trial i w false t = t

abbrev pub trial_behind : (head : Head) → Exit head → Trial → Trial
trial_behind (Unlocks i w advance) exit t = unlocks_trial i w advance t
trial_behind (Locks i sought w) exit t = locked_trial exit t
trial_behind head exit t = Idle

abbrev pub LeavesPost : ℕ → Posting → Type 0
LeavesPost id (HasLocked w) = (parts w).first ≡ id_first id
LeavesPost id other = Unit {0}

abbrev pub LeavesLock : Sought → Locking → Type 0
LeavesLock (First f) (Has w) = (parts w).first ≡ f
LeavesLock sought exit = Unit {0}

-- where this is known of an error that comes next: of the first version of the word before, of the word, and of the error
abbrev pub LeavesNext : (ℕ → ℕ → ℕ → Type 0) → ℕ → Unlocking → Type 0
LeavesNext Next first (HasNext w e) = Next first w e
LeavesNext Next first other = Unit {0}

abbrev pub LeavesBy : (ℕ → ℕ → ℕ → Type 0) → (head : Head) → Exit head → Type 0
LeavesBy Next (Posts id e w) exit = LeavesPost id exit
LeavesBy Next (Unlocks i w advance) exit = ((parts w).attempt + bit advance ≤ 6) × LeavesNext Next (parts w).first exit
LeavesBy Next (Locks i sought w) exit = LeavesLock sought exit
LeavesBy Next other exit = Unit {0}

-- the next word has the same first version
abbrev pub IsOfFirst : ℕ → ℕ → ℕ → Type 0
IsOfFirst first w e = (parts w).first ≡ first

abbrev pub LeavesUnlock : ℕ → Unlocking → Type 0
LeavesUnlock = LeavesNext IsOfFirst

abbrev pub LeavesLabel : (head : Head) → Exit head → Type 0
LeavesLabel = LeavesBy IsOfFirst

-- these are the calls
module _ (is_call : Asked → Type 0) where
  -- the message is that of the attempt, of one of these calls; that of a `send` has no owner and no parts
  abbrev pub IsOfTrial : Trial → Heading → List ℕ → Type 0
  IsOfTrial (Sends o id n) heading bytes = (asked : Asked) × is_call asked × (asked.operation ≡ o) × (heading ≡ heading_for asked id n) × (bytes ≡ frame_of asked id n)
  IsOfTrial other heading bytes = ⊥

  abbrev pub MayPut : Trial → TableStep → Type 0
  MayPut t (OnMessage (PutMessage q heading bytes)) = ((heading.owner ≡ 0) × (heading.parts ≡ [])) ⊎ IsOfTrial t heading bytes
  MayPut t other = Unit {0}

  abbrev pub AsideMove : (step : Step) → Found step → Trial → Trial → Type 0
  AsideMove (MakeId i range) found t u = u ≡ Tries (call_id i (parts found).first) 0
  AsideMove (StoreAt o w) found t u = Storing o w t u
  AsideMove (UnlockId i from advance) found t u = u ≡ unlocked_trial i from advance found t
  AsideMove (PutCall i asked) found t u = Kept t u × is_call asked
  AsideMove other found t u = Kept t u

  -- whoever has a lock finds it with more errors at most; and a call at home is one of these
  abbrev pub FindsLabel : (step : Step) → Found step → Type 0
  FindsLabel (UnlockId i from advance) found = ((parts from).first < 4294967296) × ((parts from).attempt + bit advance ≤ 6) × (found ≢ from → ((parts found).first ≡ (parts from).first) × ((parts found).attempt ≡ (parts from).attempt))
  FindsLabel (TakeCall i) found = is_call found
  FindsLabel other found = Unit {0}

  abbrev pub AtLabel : Head → Type 0
  AtLabel (Posts id e w) = (parts w).first ≡ id_first id
  AtLabel (Decides id asked w e) = ((parts w).first ≡ id_first id) × is_call asked
  AtLabel (Locks i sought w) = IsSoughtWord sought w
  AtLabel other = Unit {0}

  -- ## Programs

  -- the program puts messages of calls into requests for attempts that it tries alone, each once
  abbrev pub Labels : Trial → Program → Type 0
  Labels t (Do call next) = MayPut t call × ((found : ℕ) → FitsSock call found → (u : Trial) × Kept (put_behind t call) u × Labels u (next found))
  Labels t (Say o outcome next) = Labels t next
  Labels t (Sent o next) = Labels t next
  Labels t Rest = Unit {0}
  Labels t (TakeMessage q next) = (heading : Heading) (bytes : List ℕ) → Labels Idle (next heading bytes)
  Labels t (TakeHome k next) = (n : ℕ) → Labels Idle (next n)
  Labels t (PutHome k n after) = Labels Idle after
  Labels t (PutBytes k asked bytes next) = (answer : Put) → Labels Idle (next answer)
  Labels t (AskReady k next) = (answer : Ready) → Labels Idle (next answer)
  Labels t (Write w after) = Labels Idle after
  Labels t (Aside step next) = (found : Found step) → FindsLabel step found → (u : Trial) × AsideMove step found t u × Labels u (next found)
  Labels t (Round head next) = AtLabel head × ((exit : Exit head) → LeavesLabel head exit → Labels (trial_behind head exit t) (next exit))
  Labels t (Keep r next) = (t ≡ Tries r.id r.attempt) × (r.attempt ≤ 6) × Labels Idle next
  Labels t (Retries requests after) = Labels Idle after
