-- What a tick of a client answers of a step.
use Rattle.std.specs.Prelude.{ℕ, ◌≡◌, ◌==◌, ◌&&◌, not, Bool, true, false, List, [], slice_set, Some, None}
use mathlib.Core.Option as core
use lib.ListN.{get_elem?}
use Rattle.corr_core.specs.IdSlotWord.{parts}
use Rattle.seat_programs.specs.LoopHeads.{Locks, Joins, Opens}
use Rattle.seat_programs.specs.PostPrograms.{is_first, is_sought}
use Rattle.seat_programs.specs.Writings as heads
use Rattle.seat_programs.specs.Programs.{Program, Write, Round}
use Rattle.seat_programs.specs.Ticks.{Answer, waits_at}
use Rattle.seat_programs.specs.ScheduledRuns.{kind_in}
use Rattle.machine_model.specs.declared.tick.Tick.{Tick}
use Rattle.machine_model.specs.declared.tick.Tick.TheVariants.{Moved, Waits, Idle}
use Rattle.seat_states.specs.declared.point.Step.{Step}
use Rattle.client_seats.specs.ClientSeatState.{SeatData, seat_program}
use Rattle.machine_model.specs.Machines.{MachineState, TableState, table_of, table_sizes}
use Rattle.machine_model.specs.MachineRuns.{IsWaitingFor}
use Rattle.machine_model.specs.MachineSteps.{Makes, beside}
use Rattle.sock_words.specs.PackedWords.{id_first, UNCONNECTED}

-- whether a seat waits, by the words of the tables
abbrev pub is_waiting : TableState → Answer → Program → Bool
is_waiting t answer program = waits_at t.plan (record { words = t.words; homes = []; seats = []; outcomes = []; calls = beside t }) answer program

-- whether a seat waits whose step found this word
abbrev pub waits_by : Program → ℕ → Bool
waits_by (Write (heads.Reversing h top at after) then_) found = found == UNCONNECTED
waits_by (Round (Locks i sought None) next) found = let w = parts found in is_sought sought w && not (w.state == 1)
waits_by (Round (Joins id) next) found = is_first (id_first id) (parts found)
waits_by (Round (Opens o) next) found = found == 0
waits_by other found = false

-- what the tick answers in which the link answered this
abbrev pub Tells : TableState → Program → Answer → Tick → Type 0
Tells t program answer (Moved kind) = (kind_in program ≡ Some kind) × (is_waiting t answer program ≡ false)
Tells t program answer (Waits on) = (is_waiting t answer program ≡ true) × IsWaitingFor program on
Tells t program answer Idle = ⊥

-- seat i makes this step, and its tick answers this
pub record StepTold (old fresh : TableState) (i : ℕ) (seat seat' : SeatData) (step : Step) (tick : Tick) : Type 0 where
  pub answer : Answer
  pub makes : Makes old fresh i seat seat' step answer
  pub tells : Tells old (seat_program (table_sizes old) seat) answer tick

-- one of these, at this place, went on, and of it this holds
pub record OneWent {A : Type 0} (old fresh : List A) (i : ℕ) (Told : A → A → Type 0) : Type 0 where
  pub one : A
  pub at : get_elem? old i ≡ core.some one
  pub one' : A
  pub all : fresh ≡ slice_set old i one'
  pub told : Told one one'

pub record TickTold (old fresh : MachineState) (i : ℕ) (step : Step) (tick : Tick) : Type 0 where
  pub seats : OneWent old.seats fresh.seats i (λ seat seat'. StepTold (table_of old) (table_of fresh) i seat seat' step tick)
  pub open seats use *
  pub readers : fresh.readers ≡ old.readers
  pub opens : fresh.opens ≡ old.opens
  pub short : fresh.short ≡ old.short
