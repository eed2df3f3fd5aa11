-- Whose attempt a tick advances has the id of the slot.
use Rattle.std.specs.Prelude.{ℕ, ◌≡◌, ◌≢◌, ◌<◌, List, [], ◌∷◌, ◌++◌, replicate}
use Rattle.sock_words.specs.declared.plain.Plan.{Plan}
use Rattle.corr_core.specs.declared.marks.Plan.{Plan as IdPlan}
use Rattle.seat_programs.specs.brpc_model.specs.Items.{Item}
use Rattle.seat_programs.specs.brpc_model.specs.Operations.{Turn}
use Rattle.seat_programs.specs.Cores.{Core}
use Rattle.seat_programs.specs.Ticks.{Moment, quiet, ticked}
use Rattle.seat_programs.specs.Tasks.{plan_of, id_plan_of}
use Rattle.seat_programs.specs.ScriptSetupToEnding.{opened, set_up, IsRunWithCalls}
use Rattle.own_decisions.specs.Below.programs_allowed.specs.program_walks.proofs.WholeScriptSound.{closing_of}
use Rattle.own_decisions.specs.Below.call_stories.specs.LinkReadingLists.{advanced_at}
use Rattle.own_decisions.specs.accept_counts.specs.AttemptCounts.{word_of_id}
use Rattle.attempted_calls.proofs.AttemptedWords.{Rise}
use Rattle.sock_words.specs.PackedWords.{call_id}

-- the tick advances the call of this id alone
abbrev pub AdvancesId : (ℕ → ℕ) → Core → Moment → ℕ → Type 0
AdvancesId ids c m id = (o : ℕ) × (ids o ≢ 0) × (ids o ≡ id) × (advanced_at c m ≡ o ∷ [])

-- in each of these ticks the attempt of an id stays, or is that of a new range, or its call is advanced
abbrev pub AreRising : (ℕ → ℕ) → Plan → IdPlan → Core → List Moment → Type 0
AreRising ids p q c [] = Unit {0}
AreRising ids p q c (m ∷ ms) = ((i : ℕ) → i < q.slots → 0 < (word_of_id (ticked p c m).calls.words i).state
    → Rise (word_of_id c.calls.words i) (word_of_id (ticked p c m).calls.words i) (Unit {0}) (AdvancesId ids c m (call_id i (word_of_id c.calls.words i).first))) × AreRising ids p q (ticked p c m) ms

-- so it is in all of a run
pub record AreRisingIn (ids : ℕ → ℕ) (script : List Item) (turns : List Turn) (core : Core) (is : IsRunWithCalls script turns core) : Type 0 where
  pub of_setup : AreRising ids (plan_of script) (id_plan_of script) (opened script) (replicate is.setup (quiet 0))
  pub of_played : AreRising ids (plan_of script) (id_plan_of script) (set_up script is.setup) (is.scheduled ++ is.later)
  pub of_closing : AreRising ids (plan_of script) (id_plan_of script) (closing_of script turns core is) (replicate is.last (quiet 0))
  pub of_final : AreRising ids (plan_of script) (id_plan_of script) is.ended is.final
