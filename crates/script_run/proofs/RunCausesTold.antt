-- Each outcome of a run has its cause.
use Rattle.std.proofs.Common.{◌≡◌, ℕ, Bool, true, false, List, [], length, Ok, refl, ap, sym, ◌∙◌, subst}
use Rattle.std.proofs.lemmas.Bool.{true≢false}
use Rattle.std.specs.Prelude.{Contains}
use Rattle.std.specs.List.{AllByRecursion}
use Rattle.brpc_model.specs.Items.{Item}
use Rattle.brpc_model.specs.Operations.{Turn}
use Rattle.brpc_model.specs.Run.{Lateness}
use Rattle.brpc_model.specs.Script.{script_of}
use Rattle.seat_programs.specs.Cores.{Core}
use Rattle.seat_programs.specs.Tasks.{opens, plan_of}
use Rattle.seat_programs.specs.ScriptSetupToEnding.{IsRunWithCalls, all_tasks, is_callless}
use Rattle.seat_programs.specs.ExplainedCalls.{Fixed, Order}
use Rattle.calm_runs.specs.Below.outcome_stories.specs.Facts.{closed_before_ending, is_said_late, late_of_run, late_links_of_run, ToldSends}
use Rattle.calm_runs.specs.Below.outcome_stories.specs.PlainTasks.{told_tasks_of}
use Rattle.calm_runs.specs.Below.outcome_stories.specs.TaskCauses.{ToldTasks}
use Rattle.calm_runs.specs.Below.outcome_stories.proofs.Members.{in_contains, contains_in}
use Rattle.calm_runs.specs.Below.outcome_causes.proofs.SocketCausesOfScripts.{lost_of_run, run_told}
use Rattle.calm_runs.specs.Below.accept_counts.proofs.EarlyClosedSockets.{closed_early, start, go, fitting}
use Rattle.calm_runs.specs.Below.accept_counts.proofs.EndedReadingLists.{early_shown, closed_shown}
use Rattle.calm_runs.specs.Below.accept_counts.proofs.LinkFailureTimes.{broken_shown}
use Rattle.calm_runs.specs.Below.sent_once.proofs.SocketOperationsTold as sends
use Rattle.calm_runs.specs.send_causes.proofs.AllTold.{told_of_run, told_last}
use Rattle.calm_runs.specs.send_causes.proofs.Assembled.{fixed_in_run}
use Rattle.run_laws.specs.programs_allowed.specs.SeatOpenings.{all_seats}
use Rattle.run_laws.specs.programs_allowed.proofs.FreshSeatsAtStart.{opening_fresh}
use Rattle.calm_runs.specs.Below.joint_runs.proofs.RunsOfBothTables.{first_views}
use Rattle.calm_runs.specs.Below.call_owing.specs.LivesOfLinks.{ClosesInRun}
use Rattle.calm_runs.specs.Below.script_facts.proofs.FilteredLists.{Has, has_from, has_none}
use Rattle.calm_runs.specs.Below.script_facts.proofs.ReadScriptFacts.{InRange}
use Rattle.calm_runs.specs.Below.script_facts.proofs.ScriptSizes.{is_counted}
use Rattle.calm_runs.specs.Below.script_facts.proofs.Targets.{AreThere, are_there}
use Rattle.calm_runs.specs.Below.run_theorems.proofs.ScriptStartsSoundly.{made}
use Rattle.script_run.specs.RunOutcomeCauses.{HasCauses, lost_before}
use Rattle.script_run.proofs.CalllessRuns.{plain_task, no_call, all_told}
use Rattle.script_run.proofs.Idle.{no_slot, nothing_late}
use Rattle.calm_runs.specs.Below.call_stories.specs.LinkReadingLists.{gave_in}

module _ (bytes : List ℕ) (script : List Item) (reads : script_of bytes ≡ Ok script) (turns : List Turn) (core : Core) (run : IsRunWithCalls script turns core) (closes : ClosesInRun script turns core run) where
  abbrev orders : ℕ → Order
  orders = sends.orders_of_run script (made bytes script reads) turns core run closes

  -- plain operations have their causes by what was lost before the ending
  plain : ToldTasks (told_tasks_of script) core.outcomes (plan_of script) orders (lost_of_run script turns core run) (lost_before script turns core run) (λ o. is_said_late script turns core run o ≡ true)
  plain = let m = made bytes script reads in run_told script m.are (first_views script) (start script (made bytes script reads) turns core run) (opening_fresh (plan_of script) (all_seats (all_tasks script) (length (opens script))))
      (go script (made bytes script reads) turns core run) turns core run (fitting script (made bytes script reads) turns core run) (sends.owed script (made bytes script reads) turns core run closes)

  nothing_there : {A : Type 0} (x : A) (l : List A) → l ≡ [] → Contains l x → ⊥
  nothing_there x l none_ h = has_none x (subst (λ m. Has m x) none_ (has_from l x h))

  -- ## Without calls

  -- the links whose sockets their readers closed before the ending
  abbrev early : List ℕ
  early = closed_before_ending script turns core run

  abbrev last : ℕ → ℕ
  last o = 0

  abbrev fixed_of : Fixed
  fixed_of = sends.fixed script (made bytes script reads) turns core run closes early [] [] [] (gave_in core) last

  module _ (callless : is_callless script ≡ true) where
    none_late : (late_links_of_run script turns core run ≡ []) × (late_of_run script turns core run ≡ [])
    none_late = nothing_late bytes script reads callless turns core run

    told_sends : ToldSends (plan_of script) (all_tasks script) core.outcomes fixed_of (gave_in core) orders last core
    told_sends = sends.run_sends script (made bytes script reads) turns core run closes early [] [] [] (gave_in core) last (λ k there. in_contains early k there) (no_slot script callless) (plain_task script core.outcomes callless)

    without_calls : HasCauses script turns core run
    without_calls = record {
      fixed = fixed_of;
      orders = orders;
      tells = all_told script core.outcomes callless fixed_of (gave_in core) orders last core told_sends;
      last = λ client t asked is op. absurd (no_call script core.outcomes callless client t asked is op);
      broken = broken_shown script turns core run;
      all_broken = λ k there. there;
      early = λ k there. closed_early script (made bytes script reads) turns core run k (contains_in early k there);
      closed = λ k there. absurd (nothing_there k [] refl there);
      late = record { links = λ k there. there; operations = λ o there. there; silent = λ k there. absurd (nothing_there k [] refl there); early = λ r there. absurd (nothing_there r [] refl there) };
      late_links = λ k there. there;
      none_late = λ c. ap (λ (l : List ℕ). let late : Lateness = record { links = l; operations = late_of_run script turns core run; silent = []; early = [] } in late) none_late.0
          ∙ ap (λ (l : List ℕ). let late : Lateness = record { links = []; operations = l; silent = []; early = [] } in late) none_late.1;
      plain = plain;
    }

  -- ## With calls

  there : AreThere script
  there = are_there bytes script reads

  range : AllByRecursion InRange script
  range = (is_counted bytes script reads).in_range

  with_calls : is_callless script ≡ false → HasCauses script turns core run
  with_calls calls = record {
    fixed = fixed_in_run script (made bytes script reads) there range bytes reads turns core run closes;
    orders = orders;
    tells = told_of_run script (made bytes script reads) there range turns core run closes bytes reads;
    last = λ client t asked is op. told_last script (made bytes script reads) there range turns core run closes bytes reads t.number;
    broken = broken_shown script turns core run;
    all_broken = λ k there. there;
    early = early_shown script turns core run bytes reads;
    closed = closed_shown script turns core run;
    late = record { links = λ k there. there; operations = λ o there. there; silent = λ k there. there; early = λ r there. there };
    late_links = λ k there. there;
    none_late = λ none_. absurd (true≢false (sym none_ ∙ calls));
    plain = plain;
  }

  pub has_causes : HasCauses script turns core run
  has_causes = by (is_callless script) refl
    where
      by : (b : Bool) → is_callless script ≡ b → HasCauses script turns core run
      by true callless = without_calls callless
      by false calls = with_calls calls
