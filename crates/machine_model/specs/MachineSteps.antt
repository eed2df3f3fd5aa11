-- What one step of a client's seat makes of a machine, by its kind.
use Rattle.std.specs.Prelude.{ℕ, ◌≡◌, ◌≢◌, ◌+◌, ◌<◌, List, [], length, drop, slice_set, slice_index_or, Option, Some, None}
use mathlib.Core.Option as core
use lib.ListN.{get_elem?}
use Rattle.brpc_model.specs.ReturnedLink.{LinkEnd}
use Rattle.sock_io.specs.declared.link.Put.{Put}
use Rattle.sock_io.specs.declared.link.Put.TheVariants as puts
use Rattle.sock_io.specs.declared.link.Ready.{Ready}
use Rattle.sock_io.specs.LinkHalves.{OutState, PutStep, ReadyStep, FinishStep}
use Rattle.seat_programs.specs.BufferParts.{part}
use Rattle.seat_programs.specs.Asides as asides
use Rattle.seat_programs.specs.Asides.{Found}
use Rattle.sock_message.specs.Asked.{Asked}
use Rattle.seat_programs.specs.FoundAndChangedAside.{found_in, call_at}
use Rattle.seat_programs.specs.TableSteps as calls
use Rattle.seat_programs.specs.Programs.{Program}
use Rattle.seat_programs.specs.Programs as programs
use Rattle.seat_programs.specs.Cores.{Calls, found_at, words_after, resolved, still_waiting, next_step, said}
use Rattle.seat_programs.specs.StepTables.{word_of, word_after}
use Rattle.seat_programs.specs.Ticks.{Answer, Unasked, OfPut, OfReady}
use Rattle.seat_states.specs.program_steps.specs.SoundSeats.{AllowsWord}
use Rattle.call_slots.specs.CallSlotState.{calls_with}
use Rattle.call_slots.specs.CallSlotSteps as slots
use Rattle.call_slots.specs.CallSlotSteps.{word_found}
use Rattle.call_points.specs.declared.aside.Aside.{Aside}
use Rattle.call_points.specs.declared.aside.Aside.TheVariants as code
use Rattle.call_points.specs.AsideCodeSteps as aside_steps
use Rattle.call_points.specs.AsideCodeSteps.{after_word}
use Rattle.message_parts.specs.Parcels.{parcel_of}
use Rattle.seat_states.specs.declared.point.Author.{Author}
use Rattle.seat_states.specs.declared.point.Step.{Step}
use Rattle.seat_states.specs.declared.point.Step.TheVariants as firsts
use Rattle.seat_states.specs.ProgramAtPoint.{IsWithin, IsWithinIds, MayFind, MayFindAside, HasLinkAt, TellsCodeAt, HasInHand, after_message, after_link, after_home, after_put, after_ready, parts_by}
use Rattle.seat_states.specs.ProgramStepsOfMachine.{First, OfTable, OfAside, OfMessage, OfLink, OfHome, step_of, step_as, first_in}
use Rattle.seat_states.specs.ProgramStepsOfMachine as kinds
use Rattle.machine_model.specs.declared.home_message.HomeMessage.{HomeMessage}
use Rattle.client_seats.specs.ClientSeatFollowing.{IsWithFrame, IsPrepared}
use Rattle.client_seats.specs.ClientSeatState.{SeatData, around, seat_program, bytes_of, parts_of, left_of, taken_of, left_parts_of, asked_or_nothing}
use Rattle.machine_model.specs.MachineRuns.{SameLink}
use Rattle.machine_model.specs.Machines.{MachineState, TableState, SameGivens, machine_sizes, table_of, table_sizes}
use Rattle.seat_programs.specs.LoopRounds.{first_step}

-- ## Links as they are given back

-- this link was asked, and what it answered made this of its writing half
pub record AskedAt (outs outs' : List OutState) (ends ends' : List LinkEnd) (k : ℕ) (HasAnswered : OutState → OutState → Type 0) : Type 0 where
  pub out : OutState
  pub at : get_elem? outs k ≡ core.some out
  pub out' : OutState
  pub outs_are : outs' ≡ slice_set outs k out'
  pub answered : HasAnswered out out'
  pub before : LinkEnd
  pub end_at : get_elem? ends k ≡ core.some before
  pub behind : LinkEnd
  pub ends_are : ends' ≡ slice_set ends k behind
  pub same : SameLink before behind
  pub faults : behind.put_faults ≡ out'.faults
  pub told_before : before.answers ≡ out.answers
  pub told : behind.answers ≡ out'.answers
  pub takes : behind.takes ≡ before.takes

-- what is left of a message behind a put, and how many bytes of it the link took
abbrev pub left_behind : Put → List ℕ → List ℕ
left_behind (puts.Took n) left = drop n left
left_behind other left = left

abbrev pub taken_behind : Put → ℕ → ℕ
taken_behind (puts.Took n) taken = taken + n
taken_behind other taken = taken

-- ## Before a step

-- the next step of a seat
abbrev pub IsNext : TableState → SeatData → Step → Type 0
IsNext t seat step = first_in (seat_program (table_sizes t) seat) ≡ Some (step_as (around (table_sizes t) seat) step)

-- of seat i
pub record NextIs (m : MachineState) (i : ℕ) (step : Step) : Type 0 where
  pub seat : SeatData
  pub at : get_elem? m.seats i ≡ core.some seat
  pub is : IsNext (table_of m) seat step

-- it has none
abbrev pub HasNoStep : MachineState → ℕ → Type 0
HasNoStep m i = (seat : SeatData) → get_elem? m.seats i ≡ core.some seat → first_in (seat_program (machine_sizes m) seat) ≡ None

-- the step is of one of so many links, if it is of a link
abbrev pub IsOfLinks : ℕ → calls.TableStep → Type 0
IsOfLinks links (calls.OnLink (calls.TakeLink k)) = k < links
IsOfLinks links (calls.OnLink (calls.FinishLink k)) = k < links
IsOfLinks links (calls.OnLink (calls.PutLink k)) = k < links
IsOfLinks links other = Unit {0}

-- what the point of a seat leaves to the rules: what it stands with, and that it may find this word
pub record MayGoOn (t : TableState) (seat : SeatData) (found : ℕ) : Type 0 where
  pub within : IsWithin (table_sizes t) seat.point
  pub ids : IsWithinIds (table_sizes t) seat.point
  pub word : MayFind seat.point found
  pub beside : MayFindAside seat.point found

-- and what it leaves to them before its step
pub record MayStand (seat : SeatData) : Type 0 where
  pub link : HasLinkAt seat.point
  pub told : TellsCodeAt seat.point

-- what stands aside of the sockets, for steps on the ids
abbrev pub beside : TableState → Calls
beside t = calls_with t.ids [] [] t.ending

-- what its step needs is in hand
pub record IsReady (t : TableState) (seat : SeatData) : Type 0 where
  pub hand : HasInHand (around (table_sizes t) seat) seat.point
  pub frame : IsWithFrame seat.point (around (table_sizes t) seat)

abbrev pub ReadyAt : MachineState → ℕ → Type 0
ReadyAt m i = (seat : SeatData) → get_elem? m.seats i ≡ core.some seat → IsReady (table_of m) seat

-- what the next step of seat i needs is in hand, and all else is as it was
pub record PreparedAt (old new : MachineState) (i : ℕ) : Type 0 where
  pub seat : SeatData
  pub at : get_elem? old.seats i ≡ core.some seat
  pub seat' : SeatData
  pub is : new ≡ record old { seats = slice_set old.seats i seat' }
  pub prepared : IsPrepared (machine_sizes old) seat seat'
  pub stand : MayStand seat'

-- the step of this code finds this word
abbrev pub FoundBeside : TableState → SeatData → Aside → ℕ → Type 0
FoundBeside t seat step word = let aside = aside_steps.step_of (asked_or_nothing seat.call) step in found_in aside (beside t) core.none ≡ word_found aside word

-- it finds a word, and no call goes into its home
abbrev pub IsOnWord : Aside → Type 0
IsOnWord (code.PutCall i) = ⊥
IsOnWord (code.TakeCall i) = ⊥
IsOnWord (code.TakeBytes k room) = ⊥
IsOnWord other = Unit {0}

-- the word that it finds is as the point relies on
abbrev pub FindsFitting : TableState → SeatData → asides.Step → Type 0
FindsFitting t seat step = (word : ℕ) → found_in step (beside t) core.none ≡ word_found step word → MayGoOn t seat word

-- the id slot or operation of the step is one of the table's, and what it stores has room; a call that is taken lies there; whether there is
-- the link of a take, the take itself looks
abbrev pub FitsSlots : TableState → Aside → Type 0
FitsSlots t (code.PutCall i) = i < t.ids.plan.slots
FitsSlots t (code.TakeCall i) = (i < t.ids.plan.slots) × ((asked : Asked) × (call_at (get_elem? t.ids.homes i) ≡ core.some asked))
FitsSlots t (code.TakeBytes k room) = Unit {0}
FitsSlots t other = slots.StepFits t.ids other

-- the word of the step is there, and is one that it may find; it is of one of the table's links, requests, id slots and operations; a message
-- that is taken lies there, one that is put home has some byte, and so has what is put into a link
abbrev pub Fits : TableState → SeatData → Step → Type 0
Fits t seat (firsts.Table call) = let found = found_at t.words (word_of t.plan (step_of call)) in
    ((x : ℕ) → word_of t.plan (step_of call) ≡ core.some x → x < length t.words) × AllowsWord (step_of call) found × IsOfLinks t.plan.links (step_of call) × MayGoOn t seat found
Fits t seat (firsts.Aside step) = let aside = aside_steps.step_of (asked_or_nothing seat.call) step in
    FitsSlots t step × FindsFitting t seat aside
Fits t seat (firsts.PutMessage q author) = (q < length t.letters) × (bytes_of seat.message ≢ []) × MayGoOn t seat 0
Fits t seat (firsts.TakeMessage q) = (letter : HomeMessage) × (get_elem? t.letters q ≡ core.some (Some letter))
Fits t seat (firsts.TakeHome k) = k < t.plan.links
Fits t seat (firsts.PutHome k n) = k < t.plan.links
Fits t seat (firsts.PutBytes k asked author) = (k < t.plan.links) × (part (parts_by author (left_parts_of seat.out)) (left_of seat.out) (taken_of seat.out) ≢ [])
Fits t seat (firsts.AskReady k) = k < t.plan.links

-- the next step of a seat that is ready and stands for it, and which fits the tables
pub record IsFitStep (t : TableState) (seat : SeatData) (step : Step) : Type 0 where
  pub next : IsNext t seat step
  pub ready : IsReady t seat
  pub stand : MayStand seat
  pub fits : Fits t seat step

abbrev pub StandsAt : MachineState → ℕ → Type 0
StandsAt m i = (seat : SeatData) → get_elem? m.seats i ≡ core.some seat → MayStand seat

abbrev pub StepFits : MachineState → ℕ → Step → Type 0
StepFits m i step = (seat : SeatData) → get_elem? m.seats i ≡ core.some seat → MayStand seat × Fits (table_of m) seat step

-- as many letters, links and outcomes as before
pub record AsMany (old fresh : TableState) : Type 0 where
  pub letters : length fresh.letters ≡ length old.letters
  pub holders : length fresh.links.holders ≡ length old.links.holders
  pub nexts : length fresh.links.nexts ≡ length old.links.nexts
  pub outs : length fresh.links.outs ≡ length old.links.outs
  pub inns : length fresh.links.inns ≡ length old.links.inns
  pub outcomes : length fresh.outcomes ≡ length old.outcomes

-- ## What a step makes

-- who has each link in hand, after a step that tells nothing
abbrev pub holders_after : ℕ → calls.TableStep → List (Option ℕ) → List (Option ℕ)
holders_after i (calls.OnLink (calls.TakeLink k)) holders = slice_set holders k (Some i)
holders_after i (calls.OnLink (calls.PutLink k)) holders = slice_set holders k None
holders_after i other holders = holders

-- the message of the seat goes home, for this author
pub record SentHome (seat : SeatData) (q : ℕ) (author : Author) (old fresh : List (Option HomeMessage)) : Type 0 where
  pub letter : HomeMessage
  pub author_is : letter.author ≡ author
  pub bytes : (parcel_of letter.message).bytes ≡ bytes_of seat.message
  pub parts : (parcel_of letter.message).parts ≡ parts_of seat.message
  pub fresh_are : fresh ≡ slice_set old q (Some letter)

-- the messages at home after a step
abbrev pub LettersAfter : SeatData → Step → List (Option HomeMessage) → List (Option HomeMessage) → Type 0
LettersAfter seat (firsts.PutMessage q author) old fresh = SentHome seat q author old fresh
LettersAfter seat other old fresh = fresh ≡ old

-- the writing halves after it
abbrev pub OutsAfter : calls.TableStep → List OutState → List OutState → Type 0
OutsAfter (calls.OnLink (calls.FinishLink k)) old fresh = (out out' : OutState) × (get_elem? old k ≡ core.some out) × (fresh ≡ slice_set old k out') × FinishStep out out'
OutsAfter other old fresh = fresh ≡ old

-- what no step of a client changes
pub record SameBase (old fresh : TableState) : Type 0 where
  pub plans : SameGivens old fresh
  pub open plans use *
  pub inns : fresh.links.inns ≡ old.links.inns

-- the seat goes on with this program
pub record Goes (old fresh : TableState) (seat seat' : SeatData) (next : Program) : Type 0 where
  pub base : SameBase old fresh
  pub program : seat_program (table_sizes old) seat' ≡ next_step (resolved seat.waiting next)
  pub waiting : seat'.waiting ≡ still_waiting seat.waiting next
  pub told : fresh.outcomes ≡ said (resolved seat.waiting next) old.outcomes

module _ (old fresh : TableState) (i : ℕ) (seat seat' : SeatData) where
  abbrev pub program_of : Program
  program_of = seat_program (table_sizes old) seat

  pub record TableStepMade (call : calls.TableStep) (step : Step) : Type 0 where
    pub goes : Goes old fresh seat seat' (after_word program_of (found_at old.words (word_of old.plan call)))
    pub words : fresh.words ≡ words_after old.words (word_of old.plan call) (word_after call (found_at old.words (word_of old.plan call)))
    pub letters : LettersAfter seat step old.letters fresh.letters
    pub holders : fresh.links.holders ≡ holders_after i call old.links.holders
    pub nexts : fresh.links.nexts ≡ old.links.nexts
    pub outs : OutsAfter call old.links.outs fresh.links.outs
    pub ids : fresh.ids ≡ old.ids
    pub ends : fresh.ends ≡ old.ends

  -- a step aside of the sockets
  pub record AsideMade (step : asides.Step) : Type 0 where
    pub next : Found step → Program
    pub is : first_step program_of ≡ programs.Aside step next
    pub found : Found step
    pub ids : slots.Makes old.ids step (core.some found) fresh.ids
    pub goes : Goes old fresh seat seat' (next found)
    pub words : fresh.words ≡ old.words
    pub letters : fresh.letters ≡ old.letters
    pub links : fresh.links ≡ old.links
    pub ends : fresh.ends ≡ old.ends

  pub record MessageTaken (q : ℕ) : Type 0 where
    pub letter : HomeMessage
    pub at : get_elem? old.letters q ≡ core.some (Some letter)
    pub goes : Goes old fresh seat seat' (after_message program_of letter.author (parcel_of letter.message).parts (parcel_of letter.message).bytes)
    pub words : fresh.words ≡ old.words
    pub letters : fresh.letters ≡ slice_set old.letters q None
    pub links : fresh.links ≡ old.links
    pub ids : fresh.ids ≡ old.ids
    pub ends : fresh.ends ≡ old.ends

  pub record LinkTaken (k : ℕ) : Type 0 where
    pub goes : Goes old fresh seat seat' (after_link program_of (slice_index_or old.links.nexts k 0))
    pub words : fresh.words ≡ old.words
    pub letters : fresh.letters ≡ old.letters
    pub links : fresh.links ≡ record old.links { holders = slice_set old.links.holders k (Some i) }
    pub ids : fresh.ids ≡ old.ids
    pub ends : fresh.ends ≡ old.ends

  pub record LinkPut (k n : ℕ) : Type 0 where
    pub goes : Goes old fresh seat seat' (after_home program_of)
    pub words : fresh.words ≡ old.words
    pub letters : fresh.letters ≡ old.letters
    pub links : fresh.links ≡ record old.links { holders = slice_set old.links.holders k None; nexts = slice_set old.links.nexts k n }
    pub ids : fresh.ids ≡ old.ids
    pub ends : fresh.ends ≡ old.ends

  -- the link was asked, and answered
  pub record LinkAsked (k : ℕ) (next : Program) (HasAnswered : OutState → OutState → Type 0) : Type 0 where
    pub goes : Goes old fresh seat seat' next
    pub words : fresh.words ≡ old.words
    pub letters : fresh.letters ≡ old.letters
    pub holders : fresh.links.holders ≡ old.links.holders
    pub nexts : fresh.links.nexts ≡ old.links.nexts
    pub ids : fresh.ids ≡ old.ids
    pub asked : AskedAt old.links.outs fresh.links.outs old.ends fresh.ends k HasAnswered

  -- a step, in which the link in hand answered this
  abbrev pub MadeFirst : Step → First → Answer → Type 0
  MadeFirst step (OfTable call) answer = (answer ≡ Unasked) × TableStepMade call step
  MadeFirst step (OfAside aside) answer = (answer ≡ Unasked) × AsideMade aside
  MadeFirst step (OfMessage q) answer = (answer ≡ Unasked) × MessageTaken q
  MadeFirst step (OfLink k) answer = (answer ≡ Unasked) × LinkTaken k
  MadeFirst step (OfHome k n) answer = (answer ≡ Unasked) × LinkPut k n
  MadeFirst step (kinds.OfPut k asked bytes) answer = (put : Put) × (answer ≡ OfPut put) × LinkAsked k (after_put program_of put) (λ out out'. PutStep out out' bytes put)
  MadeFirst step (kinds.OfReady k) answer = (ready : Ready) × (answer ≡ OfReady ready) × LinkAsked k (after_ready program_of ready) (λ out out'. ReadyStep out out' ready)

-- seat i makes this step
pub record Makes (old fresh : TableState) (i : ℕ) (seat seat' : SeatData) (step : Step) (answer : Answer) : Type 0 where
  pub is : MadeFirst old fresh i seat seat' step (step_as (around (table_sizes old) seat) step) answer
