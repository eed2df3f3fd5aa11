-- Why each outcome of a run came, and what its links answered besides.
use Rattle.std.specs.Prelude.{ℕ, ◌≡◌, ◌<◌, ◌≤◌, ◌⊎◌, ◌++◌, List, length, replicate, Contains, true}
use Rattle.brpc_model.specs.Items.{Item}
use Rattle.brpc_model.specs.Operations.{Turn, link_names}
use Rattle.brpc_model.specs.LinkFailureCauses.{HasFault, reading_limit}
use Rattle.brpc_model.specs.Run.{Lateness, nothing_late}
use Rattle.sock_message.specs.Asked.{Asked}
use Rattle.seat_programs.specs.declared.task.Op.TheVariants as ops
use Rattle.seat_programs.specs.declared.task.Task.{Task}
use Rattle.seat_programs.specs.Asides.{AtEnd, Closed, Broken}
use Rattle.seat_programs.specs.Cores.{Core}
use Rattle.seat_programs.specs.Ticks.{quiet, broken_in}
use Rattle.seat_programs.specs.Tasks.{plan_of}
use Rattle.seat_programs.specs.ScriptSetupToEnding.{IsRunWithCalls, all_tasks, is_callless, opened, set_up}
use Rattle.seat_programs.specs.Explained.{IsTask}
use Rattle.seat_programs.specs.ExplainedCalls.{Fixed, Order, ExplainedCalls}
use Rattle.calm_runs.specs.Below.report_fits.proofs.PrintableCallRun.{lateness}
use Rattle.calm_runs.specs.Below.outcome_stories.specs.PlainTasks.{told_tasks_of}
use Rattle.calm_runs.specs.Below.outcome_stories.specs.Facts.{broken_of_run, is_said_late, late_of_run, late_links_of_run}
use Rattle.calm_runs.specs.Below.outcome_stories.specs.LinkLosses.{lost_in}
use Rattle.calm_runs.specs.Below.outcome_stories.specs.TaskCauses.{ToldTasks, DropsMade}
use Rattle.calm_runs.specs.Below.outcome_causes.proofs.SocketCausesOfScripts.{MadeInRun, lost_of_run}
use Rattle.calm_runs.specs.Below.call_stories.specs.LinkReadingLists.{attempts_of_run, silent_of_run, soon_of_run, gave_in}
use Rattle.calm_runs.specs.Below.run_theorems.specs.Heard.{heard_takes, given_by}

-- the links that answered that they failed in a run, before its ending and behind it
abbrev pub broken_of : {script : List Item} {turns : List Turn} {end_ : Core} → IsRunWithCalls script turns end_ → List ℕ
broken_of {script} r = broken_in (plan_of script) (set_up script r.setup) (r.scheduled ++ r.later) ++ broken_in (plan_of script) r.ended r.final

module _ {script : List Item} {turns : List Turn} {core : Core} (run : IsRunWithCalls script turns core) (k : ℕ) where
  -- why a reading ended early: the link gave its end, a frame with a fault, or as much as is read of it, or it failed
  abbrev pub EndedEarly : Type 0
  EndedEarly = Contains (heard_takes run k) AtEnd ⊎ (HasFault (given_by (heard_takes run k)) ⊎ ((reading_limit ≤ length (given_by (heard_takes run k))) ⊎ Contains (heard_takes run k) Broken))

-- ## What came late

-- in a run: the links that became a socket's while it was ending, the operations that had a step then, the links in which a take found nothing then, and
-- the responses that were whole before their call began
abbrev pub late_in : (script : List Item) (turns : List Turn) (core : Core) → IsRunWithCalls script turns core → Lateness
late_in script turns core run = record {
  links = late_links_of_run script turns core run;
  operations = late_of_run script turns core run;
  silent = silent_of_run script turns core run;
  early = soon_of_run script turns core run;
}

-- all that is said to come late did
pub record CameLate (said came : Lateness) : Type 0 where
  pub links : (k : ℕ) → Contains said.links k → Contains came.links k
  pub operations : (o : ℕ) → Contains said.operations o → Contains came.operations o
  pub silent : (k : ℕ) → Contains said.silent k → Contains came.silent k
  pub early : (r : ℕ × ℕ) → Contains said.early r → Contains came.early r

-- ## Causes

-- the links that answered that they failed, or whose sockets their readers closed, before the ending
abbrev pub lost_before : (script : List Item) (turns : List Turn) (core : Core) → IsRunWithCalls script turns core → List ℕ
lost_before script turns core run = lost_in (plan_of script) (opened script) (replicate run.setup (quiet 0)) ++ lost_in (plan_of script) (set_up script run.setup) (run.scheduled ++ run.later)

-- each outcome has its cause, and what failed, ended early, was closed or came late did so in the run
pub record HasCauses (script : List Item) (turns : List Turn) (core : Core) (run : IsRunWithCalls script turns core) : Type 0 where
  pub fixed : Fixed
  -- what each link accepted, and how many messages it took whole
  pub orders : ℕ → Order
  pub tells : ExplainedCalls (plan_of script) (all_tasks script) core.outcomes fixed (gave_in core) orders core
  -- the last attempt of a call is that to which the run advanced
  pub last : (client : ℕ) (t : Task) (asked : Asked) → IsTask (all_tasks script) core.outcomes client t → t.op ≡ ops.Call asked → tells.last t.number ≡ attempts_of_run script turns core run t.number
  pub broken : (k : ℕ) → Contains fixed.broken k → Contains (broken_of run) k
  -- and each link that failed is said to
  pub all_broken : (k : ℕ) → Contains (broken_of_run script turns core run) k → Contains fixed.broken k
  pub early : (k : ℕ) → Contains fixed.early k → (k < length (link_names script)) × EndedEarly run k
  pub closed : (k : ℕ) → Contains fixed.closed k → Contains (heard_takes run k) Closed
  pub late : CameLate (lateness fixed) (late_in script turns core run)
  -- and each link that became a socket's while the run was ending is said to
  pub late_links : (k : ℕ) → Contains (late_links_of_run script turns core run) k → Contains fixed.late_links k
  -- without calls nothing is said to come late
  pub none_late : is_callless script ≡ true → lateness fixed ≡ nothing_late
  -- `open`, `send`, `hold`, `drop` and `fail` have their causes by what was lost before the ending too
  pub plain : ToldTasks (told_tasks_of script) core.outcomes (plan_of script) orders (lost_of_run script turns core run) (lost_before script turns core run) (λ o. is_said_late script turns core run o ≡ true)

-- each drop was answered `freed` or `kept` by what its own steps did
abbrev pub DropsTold : {script : List Item} {turns : List Turn} {core : Core} → IsRunWithCalls script turns core → Type 0
DropsTold {script} {turns} {core} run = DropsMade (told_tasks_of script) core.outcomes (MadeInRun script turns core run)
