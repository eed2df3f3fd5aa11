-- A program that the rule of the ids allows from a view on, and all seats with their views.
use Rattle.std.specs.Prelude.{ℕ, ◌≡◌, ◌≢◌, ◌+◌, ◌<◌, ◌≤◌, ◌⊎◌, List, [], length, slice_index, Option, Some, None}
use mathlib.Core.Option as core
use lib.ListN.{get_elem?}
use Rattle.sock_words.specs.declared.plain.Plan.{Plan}
use Rattle.seat_programs.specs.sock_io.specs.declared.link.Put.{Put}
use Rattle.seat_programs.specs.sock_io.specs.declared.link.Ready.{Ready}
use Rattle.seat_programs.specs.sock_model.specs.declared.chain.Heading.{Heading}
use Rattle.corr_core.specs.IdSlotWord.{Parts, parts}
use Rattle.corr_core.specs.declared.marks.Plan.{Plan as IdPlan}
use Rattle.corr_core.specs.declared.marks.Hand.TheVariants.{Empty, Full}
use Rattle.corr_core.specs.declared.marks.Token.TheVariants.{Locked}
use Rattle.id_rule.specs.LawfulIdTable.{Lawful, call_index, at_index}
use Rattle.id_rule.specs.IdPlays.{Longer}
use Rattle.seat_programs.specs.sock_message.specs.Asked.{Asked}
use Rattle.seat_programs.specs.TableSteps.{TableStep, OnSlot, OnMessage, FindLink, LoadCode, StoreCode, PutMessage}
use Rattle.seat_programs.specs.Writings.{Writing, Puts, Waits}
use Rattle.seat_programs.specs.Asides.{Step, LoadCall, LoadAt, MakeId, LoadIdWord, LockId, PostId, UnlockId, TakeCall, Found}
use Rattle.seat_programs.specs.LoopHeads.{Head, Exit, Retry, Posts, Unlocks, Decides, Locks, Joins, Opens, Reads, Discards, Posting, HasLocked, Unlocking, IsOpen, HasNext, Locking, NotThere, Has, Ended}
use Rattle.seat_programs.specs.Programs.{Program, Do, Say, Sent, Rest, TakeMessage, TakeHome, PutHome, PutBytes, AskReady, Write, Aside, Round, Keep, Retries}
use Rattle.std.specs.List.{AllByRecursion}
use Rattle.seat_programs.specs.Cores.{Core, SeatState, found_at, waiting_at}
use Rattle.seat_programs.specs.StepTables.{word_of}
use Rattle.seat_programs.specs.LoopRounds.{first_step}
use Rattle.seat_programs.specs.Ticks.{Moment}
use Rattle.seat_programs.specs.sock_model.specs.declared.home.Home.{Home}
use Rattle.seat_programs.specs.sock_model.specs.declared.home.Home.TheVariants.{Message}
use Rattle.seat_programs.specs.sock_model.specs.SocketTableLayout.{code_index}
use Rattle.seat_programs.specs.Explained.{AskedFits}
use Rattle.id_runs.specs.HeldIdTokens.{IdView, id_state, one, HasOne, CallFits, AtFits, MayId, id_row}
use Rattle.sock_words.specs.PackedWords.{id_slot, bit}

-- ## What the table of the sockets says

-- a link's number fits an at word, and a code an error
abbrev pub FitsSock : TableStep → ℕ → Type 0
FitsSock (OnSlot (FindLink i h)) found = found < 65535
FitsSock (OnSlot (LoadCode i h)) found = found < 4096
FitsSock other found = Unit {0}

-- the owner of a message is none, or an id of the table
abbrev pub FitsOwner : IdPlan → Heading → Type 0
FitsOwner q heading = heading.owner ≢ 0 → (id_slot heading.owner < q.slots) × (heading.label.attempt ≤ 6)

-- it holds of the heading, where the home has a message
abbrev pub FitsHome : (Heading → Type 0) → Home → Type 0
FitsHome F (Message heading bytes) = F heading
FitsHome F other = Unit {0}

abbrev pub HandFits : (Heading → Type 0) → List Home → Type 0
HandFits F hand = AllByRecursion (FitsHome F) hand

abbrev pub HomesFit : (Heading → Type 0) → List (core.Option Home) → Type 0
HomesFit F homes = (i : ℕ) (x : Home) → get_elem? homes i ≡ core.some (core.some x) → FitsHome F x

-- each life's code is an error's
abbrev pub CodesFit : Plan → List ℕ → Type 0
CodesFit p words = (i : ℕ) → i < p.slots → slice_index words (code_index i) < 4096

abbrev pub FitsWriting : IdPlan → Writing → Type 0
FitsWriting q (Puts h now heading left taken asked) = FitsOwner q heading
FitsWriting q (Waits h now heading left taken) = FitsOwner q heading
FitsWriting q other = Unit {0}

-- ## What a step may find

abbrev pub HasRoom : ℕ → Type 0
HasRoom word = (parts word).attempt + 2 ≤ (parts word).range

-- the id is free, open or locked, and has an attempt of its range where it isn't free
abbrev pub IsIdWord : ℕ → Type 0
IsIdWord word = (0 < (parts word).state → HasRoom word) × ((parts word).state < 3) × (0 < (parts word).state → (parts word).oldest ≡ 0 → (parts word).second ≡ 0)

-- the word of a lock whose errors the seat has noted as they are
abbrev pub FindsLonger : IdView → ℕ → ℕ → Type 0
FindsLonger u i found = (f rg att o s : ℕ) (c : Asked) → HasOne i (Locked f rg att c o s (Full c)) u → Longer f rg att (parts found).oldest (parts found).second (parts found)

abbrev pub FindsCall : Plan → IdView → ℕ → Asked → Type 0
FindsCall p u i asked = AskedFits p asked × ((f rg att o s : ℕ) (c : Asked) → HasOne i (Locked f rg att c o s (Full c)) u → c ≡ asked)

abbrev pub FindsId : Plan → IdPlan → IdView → (step : Step) → Found step → Type 0
FindsId p q u (MakeId i range) found = (1 ≤ (parts found).first) × ((parts found).first ≤ 67108856)
FindsId p q u (LoadIdWord i) found = IsIdWord found
FindsId p q u (LockId i from) found = IsIdWord found
FindsId p q u (PostId i from e) found = IsIdWord found
FindsId p q u (UnlockId i from advance) found = FindsLonger u i found
FindsId p q u (TakeCall i) asked = FindsCall p u i asked
FindsId p q u (LoadCall o) found = found ≢ 0 → CallFits q found
FindsId p q u (LoadAt o) found = found ≢ 0 → AtFits q found
FindsId p q u other found = Unit {0}

-- ## Loops

-- an error that can be queued
abbrev pub IsError : ℕ → Type 0
IsError e = (e ≢ 0) × (e < 32768)

abbrev pub IsPostable : Parts → Type 0
IsPostable w = (w.state ≡ 1) ⊎ ((w.state ≡ 2) × (w.second ≡ 0))

-- the seat's one token is a lock of this slot, its call at home or taken out of it, and the word is of that lock
pub record IsLocked (i : ℕ) (more : ℕ) (word : ℕ) (u : IdView) : Type 0 where
  pub f : ℕ
  pub rg : ℕ
  pub att : ℕ
  pub o : ℕ
  pub s : ℕ
  pub c : Asked
  pub tokens : u.tokens ≡ one i (Locked f rg att c o s (Full c))
  pub word_is : Longer f rg att o s (parts word)
  pub room : att + more + 2 ≤ rg

pub record IsTaken (i : ℕ) (asked : Asked) (word : ℕ) (u : IdView) : Type 0 where
  pub f : ℕ
  pub rg : ℕ
  pub att : ℕ
  pub o : ℕ
  pub s : ℕ
  pub tokens : u.tokens ≡ one i (Locked f rg att asked o s Empty)
  pub word_is : Longer f rg att o s (parts word)
  pub room : att + 2 ≤ rg

abbrev pub IsFree : IdView → Type 0
IsFree u = u.tokens ≡ []

abbrev pub IsOpenWord : Option ℕ → Type 0
IsOpenWord (Some w) = (parts w).state ≡ 1
IsOpenWord None = Unit {0}

abbrev pub AtHead : Plan → IdPlan → IdView → Head → Type 0
AtHead p q u (Posts id e w) = IsFree u × (id_slot id < q.slots) × IsPostable (parts w) × IsError e
AtHead p q u (Unlocks i w advance) = (i < q.slots) × IsLocked i (bit advance) w u
AtHead p q u (Decides id asked w e) = (id_slot id < q.slots) × IsTaken (id_slot id) asked w u × AskedFits p asked
AtHead p q u (Locks i sought w) = IsFree u × (i < q.slots) × IsOpenWord w
AtHead p q u (Joins id) = IsFree u × (id_slot id < q.slots)
AtHead p q u (Opens o) = IsFree u
AtHead p q u (Reads r) = IsFree u × (r.ids ≡ q.slots)
AtHead p q u (Discards k total) = IsFree u

abbrev pub LeavesPost : ℕ → Posting → IdView → Type 0
LeavesPost i (HasLocked w) u = IsLocked i 0 w u
LeavesPost i other u = IsFree u

abbrev pub LeavesUnlock : ℕ → Unlocking → IdView → Type 0
LeavesUnlock i (HasNext w e) u = IsLocked i 0 w u
LeavesUnlock i (IsOpen w) u = IsFree u

abbrev pub LeavesLock : ℕ → Locking → IdView → Type 0
LeavesLock i (Has w) u = IsLocked i 0 w u
LeavesLock i (NotThere w) u = IsFree u

-- an error's code
abbrev pub IsCode : ℕ → Type 0
IsCode c = (0 < c) × (c < 4096)

abbrev pub EndsReading : Ended → IdView → Type 0
EndsReading how u = IsFree u × IsCode how.code

abbrev pub Leaves : (head : Head) → Exit head → IdView → Type 0
Leaves (Posts id e w) exit u = LeavesPost (id_slot id) exit u
Leaves (Unlocks i w advance) exit u = LeavesUnlock i exit u
Leaves (Locks i sought w) exit u = LeavesLock i exit u
Leaves (Reads r) exit u = EndsReading exit u
Leaves other exit u = IsFree u

-- ## Programs

abbrev pub FitsRetryId : IdPlan → Retry → Type 0
FitsRetryId q r = (id_slot r.id < q.slots) × (r.attempt ≤ 6)

abbrev pub IdGoesOn : Plan → IdPlan → IdView → Program → Type 0
IdGoesOn p q u (Do (OnSlot (StoreCode i h c)) next) = (c < 4096) × ((found : ℕ) → IdGoesOn p q u (next found))
IdGoesOn p q u (Do (OnMessage (PutMessage r heading bytes)) next) = FitsOwner q heading × ((found : ℕ) → IdGoesOn p q u (next found))
IdGoesOn p q u (Do call next) = (found : ℕ) → FitsSock call found → IdGoesOn p q u (next found)
IdGoesOn p q u (Say o outcome next) = IdGoesOn p q u next
IdGoesOn p q u (Sent o next) = IdGoesOn p q u next
IdGoesOn p q u Rest = IsFree u
IdGoesOn p q u (TakeMessage r next) = (heading : Heading) (bytes : List ℕ) → FitsOwner q heading → IdGoesOn p q u (next heading bytes)
IdGoesOn p q u (TakeHome k next) = (n : ℕ) → IdGoesOn p q u (next n)
IdGoesOn p q u (PutHome k n after) = IdGoesOn p q u after
IdGoesOn p q u (PutBytes k asked bytes next) = (answer : Put) → IdGoesOn p q u (next answer)
IdGoesOn p q u (AskReady k next) = (answer : Ready) → IdGoesOn p q u (next answer)
IdGoesOn p q u (Write w after) = IsFree u × FitsWriting q w × ((v : IdView) → IsFree v → IdGoesOn p q v after)
IdGoesOn p q u (Aside step next) = MayId p q u step × ((found : Found step) (c : Asked) → FindsId p q u step found → IdGoesOn p q (id_row q step found c u) (next found))
IdGoesOn p q u (Round head next) = AtHead p q u head × ((exit : Exit head) (v : IdView) → Leaves head exit v → IdGoesOn p q v (next exit))
IdGoesOn p q u (Keep r next) = FitsRetryId q r × IdGoesOn p q u next
IdGoesOn p q u (Retries requests after) = IsFree u × ((v : IdView) → IsFree v → IdGoesOn p q v after)

-- ## All seats

pub record SoundIds (p : Plan) (q : IdPlan) (c : Core) (us : List IdView) : Type 0 where
  pub plan : c.calls.plan ≡ q
  pub rule : Lawful q (id_state c.calls us)
  pub each : length us ≡ length c.seats
  -- each seat stands for one
  pub real : (i : ℕ) (u : IdView) → get_elem? us i ≡ core.some u → 0 < u.share
  -- a call at home is one of the script
  pub homes : (i : ℕ) (asked : Asked) → get_elem? c.calls.homes i ≡ core.some (core.some (Some asked)) → AskedFits p asked
  -- a word of a call that was stored names an id of the table, and so does an at word
  pub called : (o : ℕ) → o < q.operations → slice_index c.calls.words (call_index q o) ≢ 0 → CallFits q (slice_index c.calls.words (call_index q o))
  pub placed : (o : ℕ) → o < q.operations → slice_index c.calls.words (at_index q o) ≢ 0 → AtFits q (slice_index c.calls.words (at_index q o))
  -- the messages at home and in hand are those of ids of the table, and the codes are those of errors
  pub owners : HomesFit (FitsOwner q) c.homes
  pub in_hand : (i : ℕ) (seat : SeatState) → get_elem? c.seats i ≡ core.some seat → HandFits (FitsOwner q) seat.hand
  pub codes : CodesFit p c.words
  -- a retry that waits is one of an id of the table
  pub waiting : (i : ℕ) → AllByRecursion (FitsRetryId q) (waiting_at c.calls.waiting i)
  pub seats : (i : ℕ) (seat : SeatState) (u : IdView) → get_elem? c.seats i ≡ core.some seat → get_elem? us i ≡ core.some u → IdGoesOn p q u seat.program

-- ## What the table of the sockets says at a tick

abbrev pub FitsFirst : Plan → Core → Program → Type 0
FitsFirst p c (Do call next) = FitsSock call (found_at c.words (word_of p call))
FitsFirst p c other = Unit {0}

abbrev pub IsFittingIds : Plan → Core → Moment → Type 0
IsFittingIds p c m = (seat : SeatState) → get_elem? c.seats m.seat ≡ core.some seat → FitsFirst p c (first_step seat.program)
