-- Where each link has the server and nothing went wrong, each call that was begun has ended as the ending begins. So the report of any run with calls fits, and where nothing went wrong it is complete.
use Rattle.std.proofs.Common.{◌≡◌, ℕ, ◌≤◌, length, ⊎_elim, List, Ok, arith}
use Rattle.std.specs.Prelude.{Contains}
use Rattle.brpc_model.specs.Complete.{FitsWhole}
use Rattle.brpc_model.specs.Items.{Item}
use Rattle.brpc_model.specs.ReturnedLink.{LinkEnd}
use Rattle.brpc_model.specs.Operations.{Turn}
use Rattle.brpc_model.specs.Report.{Report, report_text}
use Rattle.brpc_model.specs.Script.{script_of}
use Rattle.brpc_model.specs.PlaceWords.{AreTold}
use Rattle.served_fits.specs.Below.report_fits.specs.ScriptLinkEnds.{AreEndsOf}
use Rattle.served_fits.specs.Below.report_fits.proofs.PrintableCallRun.{lateness}
use Rattle.seat_programs.specs.Cores.{Core}
use Rattle.seat_programs.specs.Tasks.{plan_of}
use Rattle.seat_programs.specs.ExplainedCalls.{Order, Fixed, ExplainedCalls}
use Rattle.seat_programs.specs.ScriptSetupToEnding.{Reports, all_tasks, IsRunWithCalls}
use Rattle.served_fits.specs.Below.outcome_stories.specs.Facts.{broken_of_run}
use Rattle.served_fits.specs.Below.call_owing.specs.LivesOfLinks.{ClosesInRun}
use Rattle.served_fits.specs.Below.run_theorems.proofs.ScriptStartsSoundly.{made}
use Rattle.served_fits.specs.Below.call_stories.specs.LinkReadingLists.{gave_in}
use Rattle.served_fits.specs.served_runs.specs.OfferedReplies.{OffersInRun}
use Rattle.served_fits.specs.served_calls.specs.QuietRuns.{AreShown}
use Rattle.served_fits.specs.LatenessKnownOfRun.{AreSo}
use Rattle.served_fits.proofs.WholeCallReport as fits
use Rattle.calls_over.proofs.OpensGiven.{CalmRun}
use Rattle.calls_over.proofs.IdsOpenAtEnding.{open_call}
use Rattle.served_fits.specs.Below.accept_counts.proofs.SeatsStandingAtEnding.{unlocked}
use Rattle.calls_over.proofs.Soon.{no_open_call}

module _ (bytes : List ℕ) (script : List Item) (reads : script_of bytes ≡ Ok script) (short : length bytes ≤ 1048576) (turns : List Turn) (core : Core) (is : IsRunWithCalls script turns core) (closes : ClosesInRun script turns core is) (offers : OffersInRun script turns core is) (fixed : Fixed)
    (orders : ℕ → Order) (tells : ExplainedCalls (plan_of script) (all_tasks script) core.outcomes fixed (gave_in core) orders core) (so : AreSo script turns core is fixed tells.last) (report : Report) (took : List (List ℕ)) (ends : List LinkEnd)
    (reports : Reports script core took report) (told : AreTold ends took) (given_back : AreEndsOf script core fixed (gave_in core) ends) (shown : AreShown script turns core is fixed ends) (breaks : (k : ℕ) → Contains (broken_of_run script turns core is) k → Contains fixed.broken k) where
  pub calls_over : fits.CallsAreOver bytes script reads short turns core is closes offers fixed orders tells so report took ends reports told given_back shown
  calls_over client number joins served untroubled i inside = let calm : CalmRun = record { bytes = bytes; script = script; reads = reads; short = short; turns = turns; core = core; is = is; closes = closes; offers = offers; fixed = fixed; orders = orders; tells = tells; report = report; took = took; ends = ends; reports = reports; told = told; given_back = given_back; shown = shown; breaks = breaks; served = served; untroubled = untroubled } in ⊎_elim (λ ended. ended)
      (λ open_. absurd (no_open_call bytes script reads turns core is closes offers fixed orders tells report took ends reports told given_back untroubled i
      (open_call calm i inside (λ z. omega (arith, open_, z)))))
      (unlocked script (made bytes script reads) turns core is i inside)

  pub whole_fits : FitsWhole script (report_text script report) ends (lateness fixed)
  whole_fits = fits.whole_fits bytes script reads short turns core is closes offers fixed orders tells so report took ends reports told given_back shown calls_over
