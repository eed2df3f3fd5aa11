-- A run in whose end all is over.
use Rattle.std.specs.Prelude.{ℕ, ◌≡◌, ◌<◌, List, slice_index}
use Rattle.corr_core.specs.IdSlotWord.{parts}
use Rattle.id_rule.specs.LawfulIdTable.{id_index}
use Rattle.brpc_model.specs.Items.{Item}
use Rattle.seat_programs.specs.Cores.{Core}
use Rattle.seat_programs.specs.ScheduledRuns.{IsSettled}
use Rattle.seat_programs.specs.Tasks.{plan_of, id_plan_of}
use Rattle.outcome_causes.specs.program_steps.specs.SoundSeats.{IsOver}
use Rattle.outcome_causes.specs.sock_runs.proofs.HandTicks.{AtHome}

pub record IsAllOver (script : List Item) (core : Core) : Type 0 where
  -- no seat has a step left
  pub settled : IsSettled core
  -- nobody refers to any slot, and each slot is free unless its versions are used up
  pub lives : (i : ℕ) → i < (plan_of script).slots → IsOver core.words i
  -- each id range has ended
  pub ranges : (i : ℕ) → i < (id_plan_of script).slots → (parts (slice_index core.calls.words (id_index i))).state ≡ 0
  -- each link is at home
  pub homes : (k : ℕ) → k < (plan_of script).links → AtHome (plan_of script) core.homes k
