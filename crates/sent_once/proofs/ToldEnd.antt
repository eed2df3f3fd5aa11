-- The end of a run as it is told: its story, its seats and tasks, and that all rests soundly.
use Rattle.std.proofs.Common.{true, List}
use Rattle.seat_programs.specs.brpc_model.specs.Items.{Item}
use Rattle.seat_programs.specs.brpc_model.specs.Operations.{Turn}
use Rattle.seat_programs.specs.Cores.{Core}
use Rattle.seat_programs.specs.Tasks.{plan_of}
use Rattle.seat_programs.specs.ScriptSetupToEnding.{IsRunWithCalls}
use Rattle.seat_programs.specs.Explained.{AreTasks}
use Rattle.accept_counts.specs.Below.programs_allowed.specs.program_steps.specs.SoundSeats.{Sound, AllRest}
use Rattle.accept_counts.specs.Below.programs_allowed.specs.program_walks.proofs.WholeScriptSound.{views_closed, views_ended, ended_sound, end_rests}
use Rattle.accept_counts.specs.Below.outcome_stories.specs.KeptStory.{Story}
use Rattle.accept_counts.specs.Below.outcome_stories.specs.PlainTasks.{told_tasks_of}
use Rattle.accept_counts.specs.Below.outcome_causes.proofs.RunsKeepStory.{Goes}
use Rattle.accept_counts.specs.Below.outcome_causes.proofs.SocketCausesOfScripts.{seats, ended_told, final_told, story_end}
use Rattle.accept_counts.specs.Below.joint_runs.proofs.RunsOfBothTables.{AreMade, first_views}
use Rattle.accept_counts.specs.Below.call_owing.specs.LivesOfLinks.{ClosesInRun}
use Rattle.accept_counts.proofs.EarlyClosedSockets.{start, go, fitting, first_fresh}
use Rattle.sent_once.proofs.SocketOperationsTold.{owed}

module _ (script : List Item) (made : AreMade script) (turns : List Turn) (core : Core) (is : IsRunWithCalls script turns core) (closes : ClosesInRun script turns core is) where
  pub record ToldEnd : Type 0 where
    pub told_run : Goes (plan_of script) (told_tasks_of script) (seats script made.are (first_views script) (start script made turns core is) (first_fresh script) (go script made turns core is) turns core is (fitting script made turns core is)) true is.final is.ended
        (views_closed script turns core is (first_views script)) (ended_told script made.are (first_views script) (start script made turns core is) (first_fresh script) (go script made turns core is) turns core is (fitting script made turns core is))
    pub told_story : Story (plan_of script) (told_tasks_of script) true core (views_ended script turns core is (first_views script)) told_run.after.events told_run.after.lost
    pub told_seats : AreTasks (plan_of script) (told_tasks_of script)
    pub end_sound : Sound (plan_of script) core (views_ended script turns core is (first_views script))
    pub rests : AllRest core

  abbrev pub told_end : ToldEnd
  told_end = record {
    told_run = final_told script made.are (first_views script) (start script made turns core is) (first_fresh script) (go script made turns core is) turns core is (fitting script made turns core is);
    told_story = story_end script made.are (first_views script) (start script made turns core is) (first_fresh script) (go script made turns core is) turns core is (fitting script made turns core is) (owed script made turns core is closes);
    told_seats = seats script made.are (first_views script) (start script made turns core is) (first_fresh script) (go script made turns core is) turns core is (fitting script made turns core is);
    end_sound = ended_sound script made.are (first_views script) (start script made turns core is) (go script made turns core is) turns core is (fitting script made turns core is);
    rests = end_rests script made.are (first_views script) (start script made turns core is) (go script made turns core is) turns core is (fitting script made turns core is) (owed script made turns core is closes);
  }
