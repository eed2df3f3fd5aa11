-- The report of a whole run over links that gave what belongs to what they took fits, and where nothing went wrong it is complete.
use Rattle.std.proofs.Common.{◌≡◌, ℕ, List, length, Ok, refl}
use Rattle.std.specs.List.{AllByRecursion}
use Rattle.brpc_model.specs.Complete.{IsUntroubled, Completeness, FitsWhole}
use Rattle.brpc_model.specs.ReportFits.{FitsRun}
use Rattle.brpc_model.specs.Items.{Item}
use Rattle.brpc_model.specs.ReturnedLink.{LinkEnd}
use Rattle.brpc_model.specs.Operations.{Turn, operations}
use Rattle.brpc_model.specs.Report.{Report, report_text}
use Rattle.brpc_model.specs.Script.{script_of}
use Rattle.brpc_model.specs.PlaceWords.{AreTold}
use Rattle.served_runs.specs.Below.report_fits.specs.ScriptLinkEnds.{AreEndsOf}
use Rattle.served_runs.specs.Below.report_fits.proofs.LivesInReport.{run_of, story_of}
use Rattle.served_runs.specs.Below.report_fits.proofs.PrintableCallRun.{lateness}
use Rattle.served_runs.specs.Below.script_facts.proofs.ReadScriptFacts.{InRange}
use Rattle.served_runs.specs.Below.script_facts.proofs.ScriptSizes.{is_counted}
use Rattle.served_runs.specs.Below.script_facts.proofs.Targets.{AreThere, are_there}
use Rattle.sock_message.specs.Asked.{Asked}
use Rattle.seat_programs.specs.declared.task.Op.TheVariants as ops
use Rattle.seat_programs.specs.declared.task.Task.{Task}
use Rattle.seat_programs.specs.Cores.{Core}
use Rattle.seat_programs.specs.Tasks.{plan_of}
use Rattle.seat_programs.specs.Explained.{IsTask}
use Rattle.seat_programs.specs.ExplainedCalls.{Order, Fixed, ExplainedCalls}
use Rattle.seat_programs.specs.ScriptSetupToEnding.{Reports, all_tasks, IsRunWithCalls}
use Rattle.served_runs.specs.Below.call_owing.specs.LivesOfLinks.{ClosesInRun}
use Rattle.served_runs.specs.Below.run_theorems.proofs.ScriptStartsSoundly.{made}
use Rattle.served_runs.specs.Below.call_stories.specs.LinkReadingLists.{gave_in, attempts_of_run}
use Rattle.served_runs.specs.OfferedReplies.{OffersInRun}
use Rattle.served_runs.proofs.OwnReplies.{id_small}
use Rattle.served_runs.proofs.ServedLinks.{gives_replies, gives_last, gives_no_fault, gives_call_replies}
use Rattle.served_calls.specs.QuietRuns.{AreShown, GivesFew, IsTimely}
use Rattle.served_calls.proofs.CalmServedRuns.{all_given, served_run}

module _ (bytes : List ℕ) (script : List Item) (reads : script_of bytes ≡ Ok script) (turns : List Turn) (core : Core) (is : IsRunWithCalls script turns core) (closes : ClosesInRun script turns core is) (offers : OffersInRun script turns core is) (fixed : Fixed) (orders : ℕ → Order)
    (long : length core.outcomes ≡ length (operations script)) (tells : ExplainedCalls (plan_of script) (all_tasks script) core.outcomes fixed (gave_in core) orders core)
    (last_is : (client : ℕ) (t : Task) (asked : Asked) → IsTask (all_tasks script) core.outcomes client t → t.op ≡ ops.Call asked → tells.last t.number ≡ attempts_of_run script turns core is t.number) where
  there : AreThere script
  there = are_there bytes script reads

  range : AllByRecursion InRange script
  range = (is_counted bytes script reads).in_range

  -- its report fits the script and the links, and where nothing went wrong it is complete
  pub offered_run : (report : Report) (took : List (List ℕ)) (ends : List LinkEnd) (reports : Reports script core took report) (told : AreTold ends took) (given_back : AreEndsOf script core fixed (gave_in core) ends)
      → AreShown script turns core is fixed ends → (IsUntroubled script ends → GivesFew script turns core is) → (IsUntroubled script ends → IsTimely script turns core is fixed orders)
      → FitsRun (run_of (all_given bytes script reads turns core is fixed orders long tells report took ends reports told given_back)) × Completeness (run_of (all_given bytes script reads turns core is fixed orders long tells report took ends reports told given_back))
  offered_run report took ends reports told given_back shown few timely = served_run bytes script reads turns core is fixed orders long tells report took ends reports told given_back shown few timely
      (id_small script (made bytes script reads) there range turns core is closes) last_is
      (gives_replies script (made bytes script reads) there range turns core is closes offers) (gives_call_replies script (made bytes script reads) there range turns core is closes offers)
      (gives_no_fault script (made bytes script reads) there range turns core is closes offers) (gives_last script (made bytes script reads) there range turns core is closes offers)

  pub offered_fits : (report : Report) (took : List (List ℕ)) (ends : List LinkEnd) (reports : Reports script core took report) (told : AreTold ends took) (given_back : AreEndsOf script core fixed (gave_in core) ends)
      → AreShown script turns core is fixed ends → (IsUntroubled script ends → GivesFew script turns core is) → (IsUntroubled script ends → IsTimely script turns core is fixed orders) → FitsWhole script (report_text script report) ends (lateness fixed)
  offered_fits report took ends reports told given_back shown few timely =
      (report, story_of (all_given bytes script reads turns core is fixed orders long tells report took ends reports told given_back), refl, offered_run report took ends reports told given_back shown few timely)
