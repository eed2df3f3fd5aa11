-- What the proofs on a whole run begin with: what a script lays down, where the parts of a run end, and that the run begins and goes on as it has to.
use Rattle.std.proofs.Common.{ℕ, List, ◌++◌, replicate}
use Rattle.sock_words.specs.declared.plain.Plan.{Plan}
use Rattle.sock_model.specs.declared.view.View.{View}
use Rattle.corr_core.specs.declared.marks.Plan.{Plan as IdPlan}
use Rattle.seat_programs.specs.brpc_model.specs.Items.{Item}
use Rattle.seat_programs.specs.brpc_model.specs.Operations.{Turn}
use Rattle.seat_programs.specs.Cores.{Core}
use Rattle.seat_programs.specs.Tasks.{opens, plan_of, id_plan_of}
use Rattle.seat_programs.specs.Ticks.{quiet}
use Rattle.seat_programs.specs.ScriptSetupToEnding.{opened, played, IsRunWithCalls}
use Rattle.outcome_causes.specs.program_steps.specs.SoundSeats.{views_along}
use Rattle.outcome_causes.specs.sock_runs.proofs.LinkTicks.{RetriesGo}
use Rattle.outcome_causes.specs.program_walks.proofs.WholeScriptSound.{AreFittingIn, Begins, views_played, views_closed, views_ended}
use Rattle.call_causes.specs.Below.joint_runs.proofs.RunsOfBothTables.{AreMade, first_views}
use Rattle.accept_counts.proofs.EarlyClosedSockets.{start, go, fitting}

-- its plans, its `open`s, and the views that seats begin with
pub record Setting : Type 0 where
  pub p : Plan
  pub q : IdPlan
  pub os : List ℕ
  pub vs : List View

abbrev pub setting : List Item → Setting
setting script = record { p = plan_of script; q = id_plan_of script; os = opens script; vs = first_views script }

-- the views behind the setup, the clients and their views, the views behind the closing, and those in the end
pub record Stages : Type 0 where
  pub set_views : List View
  pub rested : Core
  pub rested_views : List View
  pub closed_views : List View
  pub end_views : List View

module _ (script : List Item) (turns : List Turn) (core : Core) (is : IsRunWithCalls script turns core) where
  abbrev pub stages : Stages
  stages = record {
    set_views = views_along (plan_of script) (opened script) (first_views script) (replicate is.setup (quiet 0));
    rested = played script is.setup (is.scheduled ++ is.later);
    rested_views = views_played script turns core is (first_views script);
    closed_views = views_closed script turns core is (first_views script);
    end_views = views_ended script turns core is (first_views script);
  }

  pub record Grounds : Type 0 where
    pub begins : Begins script (first_views script)
    pub goes : RetriesGo (plan_of script)
    pub fits : AreFittingIn script turns core is

module _ (script : List Item) (made : AreMade script) (turns : List Turn) (core : Core) (is : IsRunWithCalls script turns core) where
  abbrev pub grounds : Grounds script turns core is
  grounds = record { begins = start script made turns core is; goes = go script made turns core is; fits = fitting script made turns core is }
