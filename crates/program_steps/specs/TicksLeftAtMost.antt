-- How many ticks are left at most, where each link that is asked answers in time.
use Rattle.std.specs.Prelude.{ℕ, zero, suc, ◌≡◌, ◌≢◌, ◌+◌, ◌-◌, ◌*◌, ◌<◌, ◌≤◌, ◌⊎◌, ◌==◌, ◌&&◌, Bool, true, false, if◌then◌else◌, List, [], ◌∷◌, length, nat_lt, slice_index, Some, None}
use Rattle.std.specs.Prelude as std
use mathlib.Core.Option.{Option, some}
use lib.ListN.{get_elem?}
use Rattle.sock_words.specs.PackedWords.{socket_id_version, socket_id_slot, id_slot, bit}
use Rattle.sock_words.specs.declared.plain.Plan.{Plan}
use Rattle.seat_programs.specs.sock_io.specs.declared.link.Put.{Put}
use Rattle.seat_programs.specs.sock_io.specs.declared.link.Ready.{Ready}
use Rattle.seat_programs.specs.sock_io.specs.declared.link.Ready.TheVariants.{NotYet}
use Rattle.sock_model.specs.declared.chain.Entry.{Entry}
use Rattle.sock_model.specs.declared.chain.Heading.{Heading}
use Rattle.sock_model.specs.declared.chain.Right.{Right}
use Rattle.sock_model.specs.declared.chain.Stage.{Stage}
use Rattle.sock_model.specs.declared.chain.Stage.TheVariants as stages
use Rattle.sock_model.specs.declared.home.Home.{Home}
use Rattle.sock_model.specs.declared.home.Home.TheVariants.{Message}
use Rattle.sock_model.specs.declared.view.View.{View}
use Rattle.sock_model.specs.declared.view.Hand.{Hand}
use Rattle.sock_model.specs.Entries.{on}
use Rattle.sock_model.specs.SlotRows.{marks_of}
use Rattle.sock_model.specs.MarkWeights.{is_saw}
use Rattle.seat_programs.specs.TableSteps.{TableStep, OnChain, OnMessage, PutMessage, SwapHead, ReverseNext}
use Rattle.seat_programs.specs.Cores.{Core, SeatState}
use Rattle.seat_programs.specs.Writings.{Holder, Writing, Puts, Waits, Empties, Reversing}
use Rattle.seat_programs.specs.Programs.{Program, Do, Say, Sent, Rest, TakeMessage, TakeHome, PutHome, PutBytes, AskReady, Write, Aside, Round, Keep, Retries}
use Rattle.seat_programs.specs.corr_core.specs.IdSlotWord.{Parts, parts}
use Rattle.seat_programs.specs.id_rule.specs.LawfulIdTable.{id_index}
use Rattle.seat_programs.specs.Asides.{Step, Found, MakeId, StoreAt, LoadIdWord, LockId, PostId, UnlockId, EndId}
use Rattle.seat_programs.specs.FoundAndChangedAside.{found_in}
use Rattle.seat_programs.specs.LoopHeads.{Head, Exit, Retry, Posts, Unlocks, Decides, Locks, Joins, Opens, Reads, Discards, Unlocking, IsOpen, HasNext}
use Rattle.seat_programs.specs.ReaderProgram.{LIMIT}
use Rattle.program_steps.specs.IdWordFits.{FitsFound, FitsExit}
use Rattle.seat_programs.specs.Ticks.{Answer, Moment, FitsPut, taken, ticked}
use Rattle.seat_programs.specs.StepTables.{row}
use Rattle.seat_programs.specs.StepsOfMessages.{took_message}
use Rattle.seat_programs.specs.StepsOfLinks.{link_away, link_home_again, took_bytes}
use Rattle.seat_programs.specs.StepTables.{Finds}
use Rattle.seat_programs.specs.LoopRounds.{first_step}
use Rattle.sock_words.specs.Totals.{total}

-- ## Errors of calls

-- whoever comes to expect a word of an id pays so much, and has it back where the word is the one that is there: so who finds another one
-- makes at most so many steps more for that
abbrev pub STALE : ℕ
STALE = 2

-- so whoever changes an id word pays that for each of 64 seats
abbrev pub CHANGE : ℕ
CHANGE = 1 + 64 * STALE

-- a call out of its home is decided on: it ends, or it goes home again and its id is unlocked
abbrev pub DECISION : ℕ
DECISION = STALE + CHANGE + 1

-- an error that is queued is taken out once, by an exchange, and decided on
abbrev pub ERROR : ℕ
ERROR = 1 + DECISION

-- an error is posted, and decided on by whoever got the lock with it
abbrev pub POST : ℕ
POST = 1 + (CHANGE + ERROR) + ERROR

-- ## Messages and walks

-- whoever writes a message of so many bytes makes at most so many steps for it, with the post where it is dropped
abbrev pub weight : ℕ → ℕ
weight n = 14 * n + 40 + POST

abbrev pub home_weight : Option Home → ℕ
home_weight (some (Message heading bytes)) = weight (length bytes)
home_weight other = 0

-- whoever has a message accepted pays so much for it, which stays in what is counted: so where the sum is bounded, few are accepted
abbrev pub ACCEPT : ℕ
ACCEPT = 16777216

-- how many messages were accepted in all
abbrev pub entries : List View → ℕ
entries views = total (λ (v : View). total (λ (l : List Entry). length l) v.lists) views

-- how many messages link k accepted, by the lists of all seats
abbrev pub accepted : List View → ℕ → ℕ
accepted views k = total (λ (v : View). total (λ (l : List Entry). length (on k l)) v.lists) views

abbrev pub is_turning : Stage → ℕ
is_turning (stages.ReversesNext top at after before) = 1
is_turning other = 0

-- each entry that the right hasn't noted costs its walk two steps, of which it may have made the first
abbrev pub walk_left : (ℕ → ℕ) → Right → ℕ
walk_left counts r = 2 * (counts r.link - (r.noted + r.turned)) - is_turning r.stage

-- what is left of all walks, with what was paid for messages that were accepted
abbrev pub walks_left : List View → ℕ
walks_left views = total (λ (v : View). total (walk_left (accepted views)) v.rights) views + ACCEPT * entries views

-- ## Programs

-- who puts a message into its home is charged for whoever writes it, and who has it accepted for whoever walks to it; a turn of a next word
-- is paid by what is left of the walk
abbrev pub cost : TableStep → ℕ
cost (OnMessage (PutMessage q heading bytes)) = 1 + weight (length bytes)
cost (OnChain (SwapHead i own)) = 3 + ACCEPT
cost (OnChain (ReverseNext q value)) = 0
cost other = 1

-- the seat saw the life failed
abbrev pub saw_failed : View → Holder → Bool
saw_failed v h = nat_lt 0 (marks_of (is_saw (socket_id_version h.id + 1)) (socket_id_slot h.id) v)

-- what a put costs more where the link may still answer that it takes no more yet
abbrev pub asking_cost : Bool → ℕ
asking_cost true = 0
asking_cost false = 12

-- and where it may still be found to have failed
abbrev pub failing_cost : Bool → ℕ
failing_cost true = 0
failing_cost false = 20

-- the same of whoever waits for it
abbrev pub waiting_cost : Bool → ℕ
waiting_cost true = 16
waiting_cost false = 25

-- from the head of a loop up to what follows the loops, but for the messages that it comes to
abbrev pub loop_cost : View → Writing → ℕ
loop_cost v (Puts h now heading left taken asked) = 14 * length left + asking_cost asked + failing_cost (saw_failed v h) + 8 + POST
loop_cost v (Waits h now heading left taken) = 14 * length left + waiting_cost (saw_failed v h) + 8 + POST
loop_cost v (Empties h) = 4
loop_cost v (Reversing h top at after) = 1

-- ## Ids and readers

-- a whole frame has twelve bytes, and a response is a lock, the call out of its home, and the end
abbrev pub FRAME : ℕ
FRAME = 2 * CHANGE + 3

-- what an attempt of a call costs at most, over a table of so many requests: as a retry its lock, its message, which may be dropped, and its own post
abbrev pub attempt_cost : ℕ → ℕ
attempt_cost requests = requests + weight 131072 + 2 * POST + 3 * CHANGE + 100 + ACCEPT

-- from the head of a loop up to what follows it, but for what the words of the ids are counted for. A reading goes on with each byte.
abbrev pub round_cost : Head → ℕ
round_cost (Posts id e w) = STALE + CHANGE + ERROR
round_cost (Unlocks i w advance) = STALE + CHANGE
round_cost (Decides id asked w e) = DECISION
round_cost (Locks i sought None) = CHANGE + 1
round_cost (Locks i sought (Some w)) = STALE + CHANGE
round_cost (Joins id) = 1
round_cost (Opens o) = 1
round_cost (Reads r) = (LIMIT - r.total) * (1 + FRAME) + length r.rest * FRAME + 1
round_cost (Discards k total) = LIMIT - total + 1

abbrev pub advance_gain : Plan → Bool → ℕ
advance_gain p advance = if advance then attempt_cost p.requests else 0

abbrev pub popped_gain : ℕ → ℕ
popped_gain from = if (parts from).oldest == 0 then 0 else ERROR

-- what a step costs by what it found: whoever changes an id word pays for all that expect it and gives up what it came with, and pays for the
-- attempts of a new call, and for an error that it queues. An at word could be an id word beyond the slots.
abbrev pub aside_cost : Plan → (step : Step) → Found step → ℕ
aside_cost p (MakeId i range) found = CHANGE + (range - 2) * attempt_cost p.requests
aside_cost p (LockId i from) found = if found == from then STALE + CHANGE else 1
aside_cost p (PostId i from e) found = if found == from then (if (parts from).state == 1 then STALE + CHANGE else STALE + CHANGE + ERROR) else 1
aside_cost p (UnlockId i from advance) found = if found == from then STALE + CHANGE else 1
aside_cost p (EndId i) found = CHANGE
aside_cost p (StoreAt o w) found = CHANGE
aside_cost p other found = 1

-- and what was counted for it: an error that was queued, an attempt that the call had left
abbrev pub aside_gain : Plan → (step : Step) → Found step → ℕ
aside_gain p (UnlockId i from advance) found = if found == from then popped_gain from + advance_gain p advance else 0
aside_gain p other found = 0

-- by how much more the loop may be left
abbrev pub unlocking_gain : Unlocking → ℕ
unlocking_gain (IsOpen w) = 0
unlocking_gain (HasNext w e) = ERROR

abbrev pub exit_gain : Plan → (head : Head) → Exit head → ℕ
exit_gain p (Unlocks i w advance) exit = unlocking_gain exit + advance_gain p advance
exit_gain p other exit = 0

-- the word that a seat expects in its loop
abbrev pub expected : Head → List (ℕ × ℕ)
expected (Posts id e w) = (id_slot id, w) ∷ []
expected (Unlocks i w advance) = (i, w) ∷ []
expected (Locks i sought (Some w)) = (i, w) ∷ []
expected other = []

abbrev pub expects : Program → List (ℕ × ℕ)
expects (Round head next) = expected head
expects other = []

-- whoever is at such a head paid for that
abbrev pub arriving : Program → ℕ
arriving program = total (λ (x : ℕ × ℕ). STALE) (expects program)

-- and counts for so much where another word is there by now
abbrev pub stale_cost : List ℕ → ℕ × ℕ → ℕ
stale_cost words x = if slice_index words (id_index x.0) == x.1 then 0 else STALE

-- the word of an id slot of which the step shows that it is there
abbrev pub left_word : (step : Step) → Found step → std.Option (ℕ × ℕ)
left_word (LoadIdWord i) found = Some (i, found)
left_word (LockId i from) found = if found == from then None else Some (i, found)
left_word (PostId i from e) found = if found == from then None else Some (i, found)
left_word (UnlockId i from advance) found = if found == from then None else Some (i, found)
left_word other found = None

-- who goes on from such a word to a head that expects it has back what it paid there
abbrev pub fresh_at : ℕ × ℕ → ℕ × ℕ → ℕ
fresh_at y x = if (x.0 == y.0) && (x.1 == y.1) then STALE else 0

abbrev pub fresh : std.Option (ℕ × ℕ) → Program → ℕ
fresh None program = 0
fresh (Some y) program = total (fresh_at y) (expects program)

-- an id that isn't free has so many attempts left, and so many errors queued
abbrev pub queued_errors : Parts → ℕ
queued_errors w = (if w.oldest == 0 then 0 else ERROR) + (if w.second == 0 then 0 else ERROR)

abbrev pub id_left : ℕ → Parts → ℕ
id_left requests w = if w.state == 0 then 0 else (w.range - (2 + w.attempt)) * attempt_cost requests + queued_errors w

abbrev pub ids_left : ℕ → List ℕ → ℕ → ℕ
ids_left requests words zero = 0
ids_left requests words (suc n) = id_left requests (parts (slice_index words (id_index n))) + ids_left requests words n

-- what is left beside the seats' own numbers: attempts and errors of ids, retries that wait, and loops that expect another word
abbrev pub calls_left : Plan → Core → ℕ
calls_left p c = ids_left p.requests c.calls.words c.calls.plan.slots + total (λ (ws : List Retry). length ws * attempt_cost p.requests) c.calls.waiting
    + total (λ (s : SeatState). total (stale_cost c.calls.words) (expects s.program)) c.seats

-- the program has at most so many steps left, whatever they find, but for those that its walks and the messages that it takes are counted for
abbrev pub LastsFor : Plan → View → Program → ℕ → Type 0
LastsFor p v (Do call next) n = (m : ℕ) × (m + cost call ≤ n) × ((found : ℕ) (hand : Hand) → Finds p v call found hand → LastsFor p (row p call found hand v) (next found) m)
LastsFor p v (Say o outcome next) n = LastsFor p v next n
LastsFor p v (Sent o next) n = LastsFor p v next n
LastsFor p v Rest n = Unit {0}
LastsFor p v (TakeMessage q next) n = (heading : Heading) (bytes : List ℕ) → bytes ≢ [] → (m : ℕ) × (m + 1 ≤ n + weight (length bytes)) × LastsFor p (took_message heading bytes v) (next heading bytes) m
LastsFor p v (TakeHome k next) n = (m : ℕ) × (m + 1 ≤ n) × ((places : ℕ) → LastsFor p (link_away v) (next places) m)
LastsFor p v (PutHome k places after) n = (m : ℕ) × (m + 1 ≤ n) × LastsFor p (link_home_again v) after m
LastsFor p v (PutBytes k asked bytes next) n = (answer : Put) → FitsPut asked bytes answer → (m : ℕ) × (m + 1 ≤ n) × LastsFor p (took_bytes answer v) (next answer) m
LastsFor p v (AskReady k next) n = (answer : Ready) → answer ≢ NotYet → (m : ℕ) × (m + 1 ≤ n) × LastsFor p v (next answer) m
LastsFor p v (Aside step next) n = (found : Found step) → FitsFound p step found → (m : ℕ) × (m + aside_cost p step found ≤ n + aside_gain p step found + fresh (left_word step found) (next found)) × LastsFor p v (next found) m
LastsFor p v (Round (Opens o) next) n = (m : ℕ) × (round_cost (Opens o) + m ≤ n) × ((word : ℕ) (u : View) → LastsFor p u (next word) m)
LastsFor p v (Round head next) n = (m : ℕ) × (round_cost head + m ≤ n) × ((exit : Exit head) → FitsExit head exit → LastsFor p v (next exit) (m + exit_gain p head exit))
LastsFor p v (Keep r next) n = (m : ℕ) × (m + attempt_cost p.requests ≤ n) × LastsFor p v next m
LastsFor p v (Retries requests after) n = (u : View) → LastsFor p u after n
LastsFor p v (Write w after) n = (m : ℕ) × (loop_cost v w + m ≤ n) × ((u : View) → LastsFor p u after m)

-- ## All seats

pub record Lasts (p : Plan) (c : Core) (views : List View) (n : ℕ) : Type 0 where
  -- how many steps each seat has left at most, but for what it paid where it is at a head that expects a word
  pub numbers : List ℕ
  pub each : length numbers ≡ length c.seats
  pub seats : (i : ℕ) (seat : SeatState) (v : View) (k : ℕ) → get_elem? c.seats i ≡ some seat → get_elem? views i ≡ some v → get_elem? numbers i ≡ some k → LastsFor p v seat.program (k + arriving seat.program)
  -- with the messages at home, what is left of walks and was paid for accepted messages, and what is left of ids and retries
  pub sum : total (λ (k : ℕ). k) numbers + (total home_weight c.homes + walks_left views + calls_left p c) ≤ n

-- ## What the rule of the ids gives

-- the id slot is one of the table
abbrev pub IsSlot : Core → ℕ → Type 0
IsSlot c i = (i < c.calls.plan.slots) × (id_index i < length c.calls.words)

-- a call has from one to seven attempts; a word that is tried is that of an open id, or, where an error is queued or a lock is given back, of
-- one with room
abbrev pub IsCountedStep : Core → Step → Type 0
IsCountedStep c (MakeId i range) = IsSlot c i × (2 ≤ range) × (range ≤ 8)
IsCountedStep c (LockId i from) = IsSlot c i × ((parts from).state ≡ 1)
IsCountedStep c (PostId i from e) = IsSlot c i × (e < 32768) × (((parts from).state ≡ 1) ⊎ (((parts from).state ≡ 2) × ((parts from).second ≡ 0)))
IsCountedStep c (UnlockId i from advance) = IsSlot c i × (0 < (parts from).state) × ((parts from).attempt + bit advance + 2 ≤ (parts from).range)
IsCountedStep c (EndId i) = IsSlot c i
IsCountedStep c other = Unit {0}

-- a step aside finds something
abbrev pub IsCountedAt : Core → Answer → Program → Type 0
IsCountedAt c answer (Aside step next) = ((found : Found step) × (found_in step c.calls (taken answer) ≡ some found)) × IsCountedStep c step
IsCountedAt c answer other = Unit {0}

abbrev pub IsCounted : Core → Moment → Type 0
IsCounted c m = (seat : SeatState) → get_elem? c.seats m.seat ≡ some seat → IsCountedAt c m.answer (first_step seat.program)

abbrev pub AreCounted : Plan → Core → List Moment → Type 0
AreCounted p c [] = Unit {0}
AreCounted p c (m ∷ ms) = IsCounted c m × AreCounted p (ticked p c m) ms

-- no run has more ticks that move
abbrev pub MOST_TICKS : ℕ
MOST_TICKS = 281474976710656

-- where fewer are left, so few messages are accepted that the place of each fits its word
abbrev pub MOST_PAID : ℕ
MOST_PAID = 562949953421312
