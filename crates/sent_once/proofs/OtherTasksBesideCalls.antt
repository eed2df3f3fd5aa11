-- What a whole run of a script with calls tells of its other tasks, and of what its links accepted.
use Rattle.std.proofs.Common.{◌≡◌, ℕ, List, ◌++◌, Ok}
use Rattle.std.specs.Prelude.{Contains}
use Rattle.sock_model.specs.LinksInSlots.{Failed}
use Rattle.seat_programs.specs.brpc_model.specs.Items.{Item}
use Rattle.seat_programs.specs.brpc_model.specs.Operations.{Turn}
use Rattle.seat_programs.specs.brpc_model.specs.Script.{script_of}
use Rattle.seat_programs.specs.Cores.{Core}
use Rattle.seat_programs.specs.Tasks.{plan_of}
use Rattle.seat_programs.specs.ScriptSetupToEnding.{all_tasks, played, IsRunWithCalls}
use Rattle.seat_programs.specs.ExplainedCalls.{Order, Fixed, IsFailing}
use Rattle.accept_counts.specs.Below.programs_allowed.specs.program_steps.specs.SoundSeats.{state}
use Rattle.accept_counts.specs.Below.programs_allowed.specs.program_walks.proofs.WholeScriptSound.{views_played}
use Rattle.accept_counts.specs.Below.outcome_stories.specs.Facts.{last_attempt, closed_before_ending}
use Rattle.accept_counts.specs.Below.outcome_stories.specs.OperationStories.{In}
use Rattle.accept_counts.specs.Below.joint_runs.proofs.RunsOfBothTables.{AreMade, first_views}
use Rattle.accept_counts.specs.Below.call_owing.specs.LivesOfLinks.{ClosesInRun}
use Rattle.accept_counts.specs.Below.run_theorems.specs.Heard.{heard_takes, given_by}
use Rattle.accept_counts.specs.Below.call_stories.specs.LinkReadingLists.{early_of_run, closed_of_run, silent_of_run, soon_of_run}
use Rattle.accept_counts.proofs.EarlyClosedSockets.{closed_so, closed_early}
use Rattle.accept_counts.proofs.EndedReadingLists.{early_listed}
use Rattle.sent_once.proofs.SocketOperationsTold.{fixed, orders_of_run, failing_early}

module _ (script : List Item) (made : AreMade script) (turns : List Turn) (core : Core) (is : IsRunWithCalls script turns core) (closes : ClosesInRun script turns core is) where
  -- what the run fixes, by the lists that it has itself
  abbrev pub gave_of_run : ℕ → List ℕ
  gave_of_run k = given_by (heard_takes is k)

  abbrev pub last_of_run : ℕ → ℕ
  last_of_run o = last_attempt script turns core is o

  abbrev pub fixed_of_run : Fixed
  fixed_of_run = fixed script made turns core is closes (early_of_run script turns core is) (closed_of_run script turns core is) (silent_of_run script turns core is) (soon_of_run script turns core is) gave_of_run last_of_run

  abbrev pub orders_here : ℕ → Order
  orders_here = orders_of_run script made turns core is closes

  module _ (bytes : List ℕ) (reads : script_of bytes ≡ Ok script) where
    pub ends_listed : (k : ℕ) → In k (closed_before_ending script turns core is) → Contains (early_of_run script turns core is) k
    ends_listed k m = early_listed script turns core is bytes reads k (closed_early script made turns core is k m).0 (closed_so script made turns core is k m).1

    -- a link that failed before the ending may drop messages
    pub failing_of_run : (k : ℕ) → Failed (plan_of script) (state (played script is.setup (is.scheduled ++ is.later)) (views_played script turns core is (first_views script))) k
        → IsFailing (plan_of script) (all_tasks script) core.outcomes fixed_of_run gave_of_run orders_here k
    failing_of_run k failed = failing_early script made turns core is closes (early_of_run script turns core is) (closed_of_run script turns core is) (silent_of_run script turns core is) (soon_of_run script turns core is) gave_of_run last_of_run ends_listed k failed
