-- How many ticks that move are left, seats that ask no link, and where the ending begins.
use Rattle.std.specs.Prelude.{ℕ, ◌≡◌, ◌≢◌, ◌-◌, ◌<◌, ◌≤◌, true, false, [], Result, IfOk, OnOk, slice_set}
use mathlib.Core.Option as core
use lib.ListN.{get_elem?}
use Rattle.seat_programs.specs.TableSteps.{TableStep, OnMessage, PutMessage}
use Rattle.seat_programs.specs.Programs.{Program, Do, Say, Sent, Rest, Retries}
use Rattle.seat_programs.specs.ClientProgram.{ending_of}
use Rattle.seat_programs.specs.Cores.{next_step}
use Rattle.seat_programs.specs.Ticks.{quiet, ticked}
use Rattle.seat_programs.specs.ScheduledRuns.{IsAtRest}
use Rattle.sock_words.specs.declared.kind.Kind.{Kind}
use Rattle.sock_words.specs.declared.outcome.Outcome.TheVariants.{Held}
use Rattle.machine_model.specs.declared.tick.Tick.{Tick}
use Rattle.machine_model.specs.declared.tick.Tick.TheVariants.{Moved}
use Rattle.client_seats.specs.ClientSeatState.{SeatData, seat_program}
use Rattle.machine_model.specs.MachineLinks.{Taken, Given, Agrees, AgreesGave, StayPaced}
use Rattle.machine_model.specs.Machines.{MachineState, IsSoundMachine, HasSizes, machine_sizes, core_with}
use Rattle.machine_model.specs.MachineRuns.{SameTable, SameLinks, Ticked}

-- ## Ticks that are left

-- a sound machine has so many ticks that move left at most
abbrev pub LastsAtMost : MachineState → ℕ → Type 0
LastsAtMost m n = (m.short ≡ false) × ∥ ((s : IsSoundMachine m) × (s.left ≤ n)) ∥₁

-- some tick moved, or none need have
abbrev pub LeavesFewer : MachineState → MachineState → Type 0
LeavesFewer old new = (n : ℕ) → LastsAtMost old n → (0 < n) × LastsAtMost new (n - 1)

abbrev pub LeavesAsMany : MachineState → MachineState → Type 0
LeavesAsMany old new = (n : ℕ) → LastsAtMost old n → LastsAtMost new n

-- what a tick that answers this leaves
abbrev pub Leaves : Tick → MachineState → MachineState → Type 0
Leaves (Moved kind) old new = LeavesFewer old new
Leaves other old new = LeavesAsMany old new

-- the machine went on by a tick of seat i that answered this, or was cut short in it
pub record WentOn {E : Type 0} (old new : MachineState) (i : ℕ) (answer : Result Tick E) : Type 0 where
  pub tick : IfOk answer (λ tick. Ticked old new i tick)
  pub left : IfOk answer (λ tick. Leaves tick old new)
  pub enough : OnOk answer (new.short ≡ false)
  pub same : SameTable old new × SameLinks old new
  pub sizes : ∥ HasSizes new ∥₁

-- a tick that is a step of this kind, or in which nothing moved
abbrev pub IsLast : Tick → Kind → Type 0
IsLast (Moved found) kind = found ≡ kind
IsLast other kind = Unit {0}

-- a tick that is a step of another kind
abbrev pub IsOther : Tick → Kind → Type 0
IsOther (Moved found) kind = found ≡ kind → ⊥
IsOther other kind = ⊥

-- ## Seat 0, which asks no link, holds no life and calls nothing

-- a step that puts no message into its home
abbrev pub PutsNone : TableStep → Type 0
PutsNone (OnMessage (PutMessage request heading bytes)) = ⊥
PutsNone other = Unit {0}

-- neither the program nor what follows asks a link, sends a message, makes a step aside of the sockets, comes to where a link is written, or
-- holds a life
abbrev pub AsksNone : Program → Type 0
AsksNone (Do call next) = PutsNone call × ((found : ℕ) → AsksNone (next found))
AsksNone (Say o outcome next) = (outcome ≢ Held) × AsksNone next
AsksNone (Sent o next) = AsksNone next
AsksNone Rest = Unit {0}
AsksNone (Retries requests after) = AsksNone after
AsksNone other = ⊥

-- and it keeps no retry
abbrev pub IsPlain : MachineState → Type 0
IsPlain m = (seat : SeatData) → get_elem? m.seats 0 ≡ core.some seat → AsksNone (seat_program (machine_sizes m) seat) × (seat.waiting ≡ [])

-- it has no step left and keeps no retry, whatever the links took and gave
abbrev pub FirstRests : MachineState → Type 0
FirstRests m = ((took : Taken) (gave : Given) → IsAtRest (core_with m took gave) 0) × ((seat : SeatData) → get_elem? m.seats 0 ≡ core.some seat → seat.waiting ≡ [])

-- a tick of it, in which no link is asked
abbrev pub TickedFirst : MachineState → MachineState → Type 0
TickedFirst old new = IsPlain new × (new.ends ≡ old.ends) × StayPaced old.links.outs new.links × ((took : Taken) (gave : Given) → Agrees old.links took → AgreesGave old.links gave →
    Agrees new.links took × AgreesGave new.links gave × (core_with new took gave ≡ ticked old.plan (core_with old took gave) (quiet 0)))

-- ## The ending

-- seat 0 goes over the `open`s of the ending, and all else is as it was
pub record BeganEnding (old new : MachineState) : Type 0 where
  pub seat : SeatData
  pub at : get_elem? old.seats 0 ≡ core.some seat
  pub seat' : SeatData
  pub is : new ≡ record old { opens = []; seats = slice_set old.seats 0 seat' }
  pub waiting : seat'.waiting ≡ seat.waiting
  pub program : seat_program (machine_sizes old) seat' ≡ next_step (ending_of old.opens)

-- behind it the run is ending, so that a reading ends where nothing more is there
abbrev pub told_ending : MachineState → MachineState
told_ending m = record m { table = record m.table { ending = true } }
