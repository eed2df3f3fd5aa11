-- The machine: its core, the links as they would be given back, and what holds of it behind each step.
use Rattle.std.specs.Prelude.{ℕ, ◌≡◌, ◌+◌, ◌-◌, ◌*◌, ◌<◌, ◌≤◌, Bool, false, List, [], ◌∷◌, ◌++◌, length, map, replicate, slice_index, Option, Some}
use Rattle.std.specs.List.{AllByRecursion}
use mathlib.Core.Option as core
use lib.ListN.{get_elem?}
use Rattle.sock_words.specs.declared.plain.Plan.{Plan}
use Rattle.sock_words.specs.declared.outcome.Outcome.{Outcome}
use Rattle.brpc_model.specs.ReturnedLink.{LinkEnd}
use Rattle.sock_model.specs.declared.view.View.{View}
use Rattle.seat_programs.specs.declared.task.Sizes.{Sizes}
use Rattle.id_rule.specs.LawfulIdTable.{call_index}
use Rattle.seat_programs.specs.LoopHeads.{Retry}
use Rattle.seat_programs.specs.Programs.{Program, Rest}
use Rattle.seat_programs.specs.ClientProgram.{ending_of}
use Rattle.seat_programs.specs.Cores.{Calls, Core, SeatState, with_seat}
use Rattle.seat_programs.specs.ScheduledRuns.{from_to}
use Rattle.seat_programs.specs.ScriptSetupToEnding.{sizes_of}
use Rattle.seat_states.specs.program_steps.specs.SoundSeats.{Sound, AreFew, IsAhead}
use Rattle.seat_states.specs.program_steps.specs.TicksLeftAtMost.{Lasts, MOST_PAID}
use Rattle.id_runs.specs.HeldIdTokens.{IdView}
use Rattle.id_runs.specs.Goes.{SoundIds}
use Rattle.call_slots.specs.CallSlotState.{SlotState, calls_with}
use Rattle.reader_seats.specs.ReaderState.{ReaderData, reader_program}
use Rattle.machine_model.specs.declared.home_message.HomeMessage.{HomeMessage}
use Rattle.client_seats.specs.ClientSeatState.{SeatData, seat_program}
use Rattle.machine_model.specs.MachineLinks.{LinksData, Taken, Given, Agrees, AgreesGave, IsPaced, ClosedAreDone, holder_of, homes_of, hand_of}
use Rattle.sock_words.specs.PackedWords.{id_first}

-- the tables on which the seats step: their sizes, the words, the messages at the homes of requests, the links, the table of the ids, the
-- operations that are calls, whether the run is ending, the outcomes, and the links as they would be given back
pub record TableState : Type 0 where
  pub plan : Plan
  pub words : List ℕ
  pub letters : List (Option HomeMessage)
  pub links : LinksData
  pub ids : SlotState
  pub calls : List ℕ
  pub ending : Bool
  pub outcomes : List (Option Outcome)
  pub ends : List LinkEnd

-- a machine: its tables, the seats of the clients and those of the readers, the numbers of the `open`s that the ending goes over, and whether
-- memory ran out in a step, behind which it is only taken apart
pub record MachineState : Type 0 where
  pub table : TableState
  pub open table use *
  pub seats : List SeatData
  pub readers : List ReaderData
  pub opens : List ℕ
  pub short : Bool

-- the sizes of the tables, the calls, and whether the run is ending, are as before
pub record SameGivens (old fresh : TableState) : Type 0 where
  pub plan : fresh.plan ≡ old.plan
  pub id_plan : fresh.ids.plan ≡ old.ids.plan
  pub calls : fresh.calls ≡ old.calls
  pub ending : fresh.ending ≡ old.ending

abbrev pub table_of : MachineState → TableState
table_of m = m.table

-- how many slots, requests and id slots there are
abbrev pub table_sizes : TableState → Sizes
table_sizes t = sizes_of t.plan t.ids.plan

abbrev pub machine_sizes : MachineState → Sizes
machine_sizes m = sizes_of m.plan m.ids.plan

-- ## Its core

-- the seats of the clients stand before those of the readers, which begin at this number
abbrev pub READERS : ℕ
READERS = 32

-- how many seats without a client stand between them
abbrev pub between : List SeatData → ℕ
between seats = READERS - length seats

module _ (p : Plan) (links : LinksData) (took : Taken) where
  abbrev pub state_of : Program → ℕ → SeatState
  state_of program i = record { program = program; hand = hand_of links p.links took i }

  -- the clients from seat i on
  abbrev pub clients_with : Sizes → ℕ → List SeatData → List SeatState
  clients_with sizes i [] = []
  clients_with sizes i (seat ∷ seats) = state_of (seat_program sizes seat) i ∷ clients_with sizes (i + 1) seats

  -- the readers from seat i on, over these calls
  abbrev pub readers_with : List ℕ → ℕ → List ReaderData → List SeatState
  readers_with calls i [] = []
  readers_with calls i (reader ∷ readers) = state_of (reader_program calls reader) i ∷ readers_with calls (i + 1) readers

-- a seat without a client
abbrev pub resting : SeatState
resting = record { program = Rest; hand = [] }

abbrev pub seats_with : MachineState → Taken → List SeatState
seats_with m took = clients_with m.plan m.links took (machine_sizes m) 0 m.seats ++ (replicate (between m.seats) resting ++ readers_with m.plan m.links took m.calls READERS m.readers)

-- the retries that wait at each seat: no reader keeps any
abbrev pub waiting_of : List SeatData → List ReaderData → List (List Retry)
waiting_of seats readers = map (λ (s : SeatData). s.waiting) seats ++ (replicate (between seats) [] ++ map (λ (r : ReaderData). []) readers)

-- what each of so many links gave
abbrev pub given_by : ℕ → Given → List (List ℕ)
given_by links gave = map gave (from_to 0 links)

abbrev pub calls_of : MachineState → Given → Calls
calls_of m gave = calls_with m.ids (waiting_of m.seats m.readers) (given_by m.plan.links gave) m.ending

-- where its links took and gave this
abbrev pub core_with : MachineState → Taken → Given → Core
core_with m took gave = record {
  words = m.words;
  homes = homes_of m.links m.plan m.letters took;
  seats = seats_with m took;
  outcomes = m.outcomes;
  calls = calls_of m gave;
}

-- seat 0 begins the ending
abbrev pub ending_by : List ℕ → Core → Core
ending_by opens c = with_seat 0 (ending_of opens) [] c.words c.homes c

-- ## What holds of it

-- whoever writes a link knows how it answered last
abbrev pub ArePaced : Sizes → LinksData → List SeatData → Type 0
ArePaced sizes links seats = (i : ℕ) (seat : SeatData) → get_elem? seats i ≡ core.some seat → IsPaced links.outs (seat_program sizes seat)

-- more ticks than a machine has left
abbrev pub MOST_LEFT : ℕ
MOST_LEFT = MOST_PAID

-- what its links took and gave, and views by which both rules hold, and so many ticks that move are left at most
pub record IsSoundMachine (m : MachineState) : Type 0 where
  pub took : Taken
  pub gave : Given
  pub agrees : Agrees m.links took
  pub agrees_gave : AgreesGave m.links gave
  pub ahead : IsAhead (core_with m took gave)
  pub views : List View
  pub sound : Sound m.plan (core_with m took gave) views
  pub id_views : List IdView
  pub ids : SoundIds m.plan m.ids.plan (core_with m took gave) id_views
  pub few : AreFew views
  pub left : ℕ
  pub lasts : Lasts m.plan (core_with m took gave) views left
  -- with those of the ending that it has still to begin
  pub bounded : left + 20 * length m.opens < MOST_LEFT

-- the tables have the sizes that the plan says
pub record IsSized (t : TableState) : Type 0 where
  pub letters_are : length t.letters ≡ t.plan.requests
  pub holders_are : length t.links.holders ≡ t.plan.links
  pub nexts_are : length t.links.nexts ≡ t.plan.links
  pub outs_are : length t.links.outs ≡ t.plan.links
  pub inns_are : length t.links.inns ≡ t.plan.links

-- each table has the sizes that its plan says, and there is a seat for each client and a reader for each link
pub record HasSizes (m : MachineState) : Type 0 where
  pub tables : IsSized (table_of m)
  pub open tables use *
  pub ends_are : length m.ends ≡ m.plan.links
  pub seats_are : length m.seats ≡ m.plan.seats
  pub some_seat : 0 < length m.seats
  pub few_seats : length m.seats ≤ READERS
  pub readers_are : length m.readers ≡ m.plan.links
  pub few_readers : length m.readers ≤ 32
  -- an id slot for each call, and a word of each operation
  pub slots_are : length m.calls ≡ m.ids.plan.slots
  pub few_slots : m.ids.plan.slots ≤ 4096
  pub operations_are : m.ids.plan.operations ≡ m.plan.operations
  pub calls_are : AllByRecursion (λ o. o < m.ids.plan.operations) m.calls
  pub id_seats_are : m.ids.plan.seats ≡ READERS + length m.readers
  pub opens_are : AllByRecursion (λ o. o < m.plan.operations) m.opens
  pub few_opens : length m.opens ≤ 32
  pub few_outcomes : length m.outcomes ≤ 4096

-- a link whose other end closed its half is finished; and whoever has a link in hand is a client or a reader
pub record KeepsClosed (m : MachineState) : Type 0 where
  pub done : ClosedAreDone m.links
  pub held : (k j : ℕ) → holder_of m.links k ≡ Some j → length m.seats ≤ j → (READERS ≤ j) × (j < READERS + length m.readers)

-- the word of each call names an id whose first version has room in an id word
abbrev pub AreCalled : SlotState → Type 0
AreCalled ids = (o : ℕ) → o < ids.plan.operations → id_first (slice_index ids.words (call_index ids.plan o)) < 67108864

-- a machine with room for so many place words; unless memory ran out in a step of it, both rules hold of it
pub record IsMachine (m : MachineState) (room : ℕ) : Type 0 where
  pub sizes : ∥ HasSizes m ∥₁
  pub has_room : 8 * m.plan.operations ≤ room
  pub sound : m.short ≡ false → ∥ IsSoundMachine m ∥₁
  pub paced : m.short ≡ false → ∥ ArePaced (machine_sizes m) m.links m.seats ∥₁
  pub closed : m.short ≡ false → KeepsClosed m
  pub called : m.short ≡ false → AreCalled m.ids
