-- Which id the call of each operation has: programs that store at words and homes of that id alone, and all seats.
use Rattle.std.specs.Prelude.{ℕ, ◌≡◌, ◌≢◌, ◌<◌, ◌⊎◌, ◌==◌, ◌&&◌, not, Bool, true, if◌then◌else◌, List, Option, Some}
use mathlib.Core.Option as core
use lib.ListN.{get_elem?}
use Rattle.sock_words.specs.PackedWords.{at_word, at_word_first, at_word_slot, call_id, id_slot, id_first}
use Rattle.sock_io.specs.declared.link.Put.{Put}
use Rattle.sock_io.specs.declared.link.Ready.{Ready}
use Rattle.sock_model.specs.declared.chain.Heading.{Heading}
use Rattle.corr_core.specs.IdSlotWord.{parts}
use Rattle.corr_core.specs.declared.marks.Plan.{Plan as IdPlan}
use Rattle.seat_programs.specs.sock_message.specs.Asked.{Asked}
use Rattle.seat_programs.specs.Asides.{Step, ClaimId, PutCall, MakeId, StoreAt, LockId, PostId, UnlockId, TakeCall, Found}
use Rattle.seat_programs.specs.LoopHeads.{Head, Exit, Sought, First, Posts, Unlocks, Decides, Locks, HasLocked, Posting, Unlocking, HasNext, Locking, Has}
use Rattle.seat_programs.specs.Programs.{Program, Do, Say, Sent, Rest, TakeMessage, TakeHome, PutHome, PutBytes, AskReady, Write, Aside, Round, Keep, Retries}
use Rattle.seat_programs.specs.Cores.{Core, SeatState}
use Rattle.joint_runs.specs.Below.id_runs.specs.Goes.{FitsSock}
use Rattle.call_owing.specs.Owing.{InList}
use Rattle.call_owing.specs.SoundOwing.{id_word_of, at_of}

-- what a seat's latest step says of an id slot: it claimed the slot; its call is at home there; it has the lock of the range with this first version, its call at home; or taken out
pub data Behind : Type 0 where
  Other : Behind
  HasClaimed : ℕ → Behind
  HasPut : ℕ → Asked → Behind
  HasLock : ℕ → ℕ → Behind
  HasTaken : ℕ → ℕ → Behind

-- of each operation the id of its call, or 0; more calls may have theirs
abbrev pub Grows : (ℕ → ℕ) → (ℕ → ℕ) → Type 0
Grows has more = (o : ℕ) → has o ≢ 0 → more o ≡ has o

-- this is the id of that operation's call
abbrev pub IsIdOf : (ℕ → ℕ) → ℕ → ℕ → Type 0
IsIdOf has o id = (id ≢ 0) × (has o ≡ id)

-- the word is of an attempt of the operation's own call
abbrev pub IsOwnAt : (ℕ → ℕ) → ℕ → ℕ → Type 0
IsOwnAt has o w = (id n k : ℕ) × IsIdOf has o id × (w ≡ at_word (id_first id) (id_slot id) k n) × (k < 65535) × (n < 64)

-- the operations of `left` but this one
abbrev pub but : ℕ → (ℕ → Bool) → ℕ → Bool
but o left x = left x && not (x == o)

abbrev pub MayOwn : (ℕ → ℕ) → (ℕ → Bool) → Behind → Step → Type 0
MayOwn has left b (PutCall i asked) = (b ≡ HasClaimed i) ⊎ ((f : ℕ) × (b ≡ HasTaken i f) × IsIdOf has asked.operation (call_id i f))
MayOwn has left b (MakeId i range) = (asked : Asked) × (b ≡ HasPut i asked) × (left asked.operation ≡ true)
MayOwn has left b (StoreAt o w) = IsOwnAt has o w
MayOwn has left b other = Unit {0}

abbrev pub FindsOwn : (ℕ → ℕ) → Behind → (step : Step) → Found step → Type 0
FindsOwn has b (TakeCall i) found = (f : ℕ) → b ≡ HasLock i f → IsIdOf has found.operation (call_id i f)
FindsOwn has b (MakeId i range) found = (asked : Asked) → b ≡ HasPut i asked → IsIdOf has asked.operation (call_id i (parts found).first)
FindsOwn has b other found = Unit {0}

-- the operation whose call is made
abbrev pub left_behind : Step → Behind → (ℕ → Bool) → ℕ → Bool
left_behind (MakeId j range) (HasPut i asked) left = but asked.operation left
left_behind other b left = left

abbrev pub taken_behind : ℕ → Behind → Behind
taken_behind i (HasLock j f) = if j == i then HasTaken j f else Other
taken_behind i b = Other

abbrev pub put_behind : ℕ → Asked → Behind → Behind
put_behind i asked (HasClaimed j) = HasPut i asked
put_behind i asked b = Other

abbrev pub behind : (step : Step) → Found step → Behind → Behind
behind (ClaimId i) found b = if found == 0 then HasClaimed i else Other
behind (PutCall i asked) found b = put_behind i asked b
behind (LockId i from) found b = if found == from then HasLock i (parts found).first else Other
behind (PostId i from e) found b = if found == from then (if (parts from).state == 1 then HasLock i (parts found).first else Other) else Other
behind (UnlockId i from advance) found b = HasLock i (parts found).first
behind (TakeCall i) found b = taken_behind i b
behind other found b = Other

-- ## Loops

abbrev pub IsOfSought : Sought → Option ℕ → Type 0
IsOfSought (First f) (Some w) = (parts w).first ≡ f
IsOfSought sought w = Unit {0}

abbrev pub AtOwn : (ℕ → ℕ) → Behind → Head → Type 0
AtOwn has b (Locks i sought w) = IsOfSought sought w
AtOwn has b (Decides id asked w e) = (f : ℕ) × (b ≡ HasTaken (id_slot id) f) × IsIdOf has asked.operation (call_id (id_slot id) f)
AtOwn has b other = Unit {0}

abbrev pub LeavesLock : Sought → ℕ → Locking → Type 0
LeavesLock (First x) f (Has w) = f ≡ x
LeavesLock sought f exit = Unit {0}

abbrev pub LeavesOwn : (head : Head) → ℕ → Exit head → Type 0
LeavesOwn (Locks i sought w) f exit = LeavesLock sought f exit
LeavesOwn other f exit = Unit {0}

abbrev pub behind_posting : ℕ → ℕ → Posting → Behind
behind_posting i f (HasLocked w) = HasLock i f
behind_posting i f other = Other

abbrev pub behind_unlocking : ℕ → ℕ → Unlocking → Behind
behind_unlocking i f (HasNext w e) = HasLock i f
behind_unlocking i f other = Other

abbrev pub behind_locking : ℕ → ℕ → Locking → Behind
behind_locking i f (Has w) = HasLock i f
behind_locking i f other = Other

-- where the range that is locked has this first version
abbrev pub behind_head : (head : Head) → ℕ → Exit head → Behind
behind_head (Posts id e w) f exit = behind_posting (id_slot id) f exit
behind_head (Unlocks i w advance) f exit = behind_unlocking i f exit
behind_head (Locks i sought w) f exit = behind_locking i f exit
behind_head other f exit = Other

-- ## Programs

-- the program makes each call of `left` once at most, and stores at words and homes of an operation's own id alone
abbrev pub Owns : (ℕ → ℕ) → (ℕ → Bool) → Behind → Program → Type 0
Owns has left b (Do call next) = (found : ℕ) → FitsSock call found → (more : ℕ → ℕ) → Grows has more → Owns more left Other (next found)
Owns has left b (Say o outcome next) = Owns has left b next
Owns has left b (Sent o next) = Owns has left b next
Owns has left b Rest = Unit {0}
Owns has left b (TakeMessage r next) = (heading : Heading) (bytes : List ℕ) (more : ℕ → ℕ) → Grows has more → Owns more left Other (next heading bytes)
Owns has left b (TakeHome k next) = (n : ℕ) (more : ℕ → ℕ) → Grows has more → Owns more left Other (next n)
Owns has left b (PutHome k n after) = (more : ℕ → ℕ) → Grows has more → Owns more left Other after
Owns has left b (PutBytes k asked bytes next) = (answer : Put) (more : ℕ → ℕ) → Grows has more → Owns more left Other (next answer)
Owns has left b (AskReady k next) = (answer : Ready) (more : ℕ → ℕ) → Grows has more → Owns more left Other (next answer)
Owns has left b (Write w after) = (more : ℕ → ℕ) → Grows has more → Owns more left Other after
Owns has left b (Aside step next) = MayOwn has left b step × ((found : Found step) (more : ℕ → ℕ) → Grows has more → FindsOwn more b step found → Owns more (left_behind step b left) (behind step found b) (next found))
Owns has left b (Round head next) = AtOwn has b head × ((exit : Exit head) (more : ℕ → ℕ) → Grows has more → (f : ℕ) → LeavesOwn head f exit → Owns more left (behind_head head f exit) (next exit))
Owns has left b (Keep r next) = (r.attempt < 64) × Owns has left b next
Owns has left b (Retries requests after) = Owns has left Other after

-- ## All seats

-- what a seat's latest step says is so
abbrev pub IsTrue : Core → Behind → Type 0
IsTrue c Other = Unit {0}
IsTrue c (HasClaimed i) = (id_word_of c i).state ≡ 0
IsTrue c (HasPut i x) = get_elem? c.calls.homes i ≡ core.some (core.some (Some x))
IsTrue c (HasLock i f) = ((id_word_of c i).first ≡ f) × ((id_word_of c i).state ≢ 0)
IsTrue c (HasTaken i f) = ((id_word_of c i).first ≡ f) × ((id_word_of c i).state ≢ 0)

-- as far as its next step relies on it
abbrev pub IsTrueOf : Core → Behind → Program → Type 0
IsTrueOf c (HasClaimed i) (Aside (PutCall j asked) next) = i ≡ j → IsTrue c (HasClaimed i)
IsTrueOf c (HasPut i x) (Aside (MakeId j range) next) = i ≡ j → IsTrue c (HasPut i x)
IsTrueOf c (HasLock i f) (Aside (TakeCall j) next) = i ≡ j → IsTrue c (HasLock i f)
IsTrueOf c (HasTaken i f) (Aside (PutCall j asked) next) = i ≡ j → IsTrue c (HasTaken i f)
IsTrueOf c (HasTaken i f) (Round (Decides id asked w e) next) = i ≡ id_slot id → IsTrue c (HasTaken i f)
IsTrueOf c b other = Unit {0}

-- calls are the operations that call
pub record Owned (q : IdPlan) (calls : List ℕ) (c : Core) (has : ℕ → ℕ) (left : ℕ → ℕ → Bool) : Type 0 where
  pub inside : (o : ℕ) → has o ≢ 0 → (id_slot (has o) < q.slots) × InList o calls
  pub once : (j o : ℕ) → left j o ≡ true → (has o ≡ 0) × InList o calls
  pub apart : (j k o : ℕ) → left j o ≡ true → left k o ≡ true → j ≡ k
  -- an at word names the id of its own operation's call
  pub ats : (o : ℕ) → o < q.operations → at_of q c o ≢ 0 → IsIdOf has o (call_id (at_word_slot (at_of q c o)) (at_word_first (at_of q c o)))
  -- and a call at home has the id of the range in its slot
  pub homes : (i : ℕ) → i < q.slots → (x : Asked) → get_elem? c.calls.homes i ≡ core.some (core.some (Some x)) → (id_word_of c i).state ≢ 0 → IsIdOf has x.operation (call_id i (id_word_of c i).first)
  pub seats : (j : ℕ) (seat : SeatState) → get_elem? c.seats j ≡ core.some seat → (b : Behind) × Owns has (left j) b seat.program × IsTrueOf c b seat.program
