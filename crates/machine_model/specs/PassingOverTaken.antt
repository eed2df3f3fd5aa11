-- A client that finds what it wants taken, and tries the next one.
use Rattle.std.specs.Prelude.{ℕ, ◌≡◌, ◌+◌, ◌%◌, ◌<◌, slice_index}
use mathlib.Core.Option as core
use Rattle.sock_model.specs.SocketTableLayout.{request_index}
use Rattle.seat_programs.specs.Asides as asides
use Rattle.call_slots.specs.CallSlotSteps as slots
use Rattle.seat_states.specs.declared.point.Step.{Step}
use Rattle.machine_model.specs.declared.tick.Tick.{Tick}
use Rattle.machine_model.specs.Machines.{MachineState, TableState}
use Rattle.machine_model.specs.MachineSteps.{NextIs, PreparedAt}
use Rattle.machine_model.specs.TickAnswersOfStep.{TickTold}

-- the request is taken, and there is one behind it
abbrev pub PassesRequest : TableState → ℕ → Type 0
PassesRequest t q = (slice_index t.words (request_index t.plan q) % 2 ≡ 1) × (q + 1 < t.plan.requests)

-- the same of an id slot
abbrev pub PassesSlot : TableState → ℕ → Type 0
PassesSlot t i = slots.Makes t.ids (asides.ClaimId i) (core.some 1) t.ids × (i + 1 < t.ids.plan.slots)

-- a step of seat i for which nothing had to be made, and what its tick answers
pub record HasPassed (old new : MachineState) (i : ℕ) (tick : Tick) : Type 0 where
  pub prepared : PreparedAt old old i
  pub step : Step
  pub next : NextIs old i step
  pub told : TickTold old new i step tick
