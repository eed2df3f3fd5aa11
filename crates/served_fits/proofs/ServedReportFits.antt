-- The report of a run over links that gave what belongs to what they took fits, and each link that was served gave the replies to what it took, and each call its own. Where nothing went wrong and nothing came late the report is complete too.
use Rattle.std.proofs.Common.{◌≡◌, ℕ, ◌≤◌, length, List, Ok, refl}
use Rattle.std.specs.Prelude.{Contains}
use Rattle.brpc_model.specs.Complete.{IsUntroubled}
use Rattle.brpc_model.specs.ReportFits.{FitsRun}
use Rattle.brpc_model.specs.ReportFits as model
use Rattle.brpc_model.specs.Items.{Item, Join}
use Rattle.brpc_model.specs.ReturnedLink.{LinkEnd}
use Rattle.brpc_model.specs.Operations.{Turn}
use Rattle.brpc_model.specs.Report.{Report, report_text}
use Rattle.brpc_model.specs.Run.{Run}
use Rattle.brpc_model.specs.Script.{script_of}
use Rattle.brpc_model.specs.ServedForTakenBytes.{ServesAll, FitsServed}
use Rattle.brpc_model.specs.PlaceWords.{AreTold}
use Rattle.offered_runs.specs.served_sizes.specs.served_calls.specs.Below.report_fits.specs.ScriptLinkEnds.{AreEndsOf}
use Rattle.offered_runs.specs.served_sizes.specs.served_calls.specs.Below.report_fits.proofs.ReportedRunFitting.{fits_run}
use Rattle.offered_runs.specs.served_sizes.specs.served_calls.specs.Below.report_fits.proofs.PrintableCallRun.{lateness}
use Rattle.seat_programs.specs.Cores.{Core}
use Rattle.seat_programs.specs.Tasks.{plan_of}
use Rattle.seat_programs.specs.ExplainedCalls.{Order, Fixed, ExplainedCalls}
use Rattle.seat_programs.specs.ScriptSetupToEnding.{Reports, all_tasks, IsRunWithCalls}
use Rattle.offered_runs.specs.served_sizes.specs.served_calls.specs.Below.outcome_stories.specs.Facts.{late_links_of_run}
use Rattle.offered_runs.specs.served_sizes.specs.served_calls.specs.Below.call_owing.specs.LivesOfLinks.{ClosesInRun}
use Rattle.offered_runs.specs.served_sizes.specs.served_calls.specs.Below.call_stories.specs.LinkReadingLists.{gave_in}
use Rattle.offered_runs.specs.served_sizes.specs.served_calls.specs.served_runs.specs.OfferedReplies.{OffersInRun}
use Rattle.offered_runs.specs.served_sizes.specs.served_calls.specs.QuietRuns.{AreShown}
use Rattle.served_fits.specs.LatenessKnownOfRun.{AreSo, TellTook, IsInTime}
use Rattle.served_fits.proofs.RepliesOfReportedRun.{all_given, reported, run_gives_replies, run_gives_own_replies}
use Rattle.served_fits.proofs.WholeCallReport.{CallsAreOver, timely_run, joinless_in_time, over_in_time}

module _ (bytes : List ℕ) (script : List Item) (reads : script_of bytes ≡ Ok script) (short : length bytes ≤ 1048576) (turns : List Turn) (core : Core) (is : IsRunWithCalls script turns core) (closes : ClosesInRun script turns core is) (offers : OffersInRun script turns core is) (fixed : Fixed)
    (orders : ℕ → Order) (tells : ExplainedCalls (plan_of script) (all_tasks script) core.outcomes fixed (gave_in core) orders core) (so : AreSo script turns core is fixed tells.last) (report : Report) (took : List (List ℕ)) (ends : List LinkEnd)
    (reports : Reports script core took report) (told : AreTold ends took) (given_back : AreEndsOf script core fixed (gave_in core) ends) (shown : AreShown script turns core is fixed ends)
    (late : (k : ℕ) → Contains (late_links_of_run script turns core is) k → Contains fixed.late_links k) (tell : TellTook script ends) where
  -- the run that is reported
  abbrev run : Run
  run = reported bytes script reads turns core is closes offers fixed orders tells report took ends reports told given_back

  -- its links with the server gave what is owed to it
  serves_all : ServesAll run
  serves_all = (
    run_gives_replies bytes script reads turns core is closes offers fixed orders tells report took ends reports told given_back late shown tell,
    run_gives_own_replies bytes script reads turns core is closes offers fixed orders tells report took ends reports told given_back,
  )

  -- whatever came late
  pub any_serves : model.Reports (λ r. FitsRun r × ServesAll r) script (report_text script report) ends (lateness fixed)
  any_serves = (report, run.story, refl, (fits_run (all_given bytes script reads turns core is closes offers fixed orders tells report took ends reports told given_back), serves_all))

  -- where nothing comes late in a run in which nothing went wrong
  timely_serves : (IsUntroubled script ends → IsInTime script turns core is) → FitsServed script (report_text script report) ends (lateness fixed)
  timely_serves in_time = let w = timely_run bytes script reads short turns core is closes offers fixed orders tells so report took ends reports told given_back shown in_time in (report, run.story, refl, (w.0, w.1, serves_all))

  -- as where no `join` stands in the script
  pub joinless_serves : ((client number : ℕ) → Contains script (Join client number) → ⊥) → FitsServed script (report_text script report) ends (lateness fixed)
  joinless_serves none_ = timely_serves (joinless_in_time bytes script reads short turns core is closes offers fixed orders tells so report took ends reports told given_back shown none_)

  -- and where one stands, as each call has ended where the ending begins
  pub serves_fits : CallsAreOver bytes script reads short turns core is closes offers fixed orders tells so report took ends reports told given_back shown → FitsServed script (report_text script report) ends (lateness fixed)
  serves_fits over = timely_serves (over_in_time bytes script reads short turns core is closes offers fixed orders tells so report took ends reports told given_back shown over)
