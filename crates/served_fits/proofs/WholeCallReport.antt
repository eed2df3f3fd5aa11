-- The report of a run with calls fits, and where nothing went wrong and nothing came late it is complete. Nothing comes late where no `join` stands in the script, as where some link has no server.
use Rattle.std.proofs.Common.{◌≡◌, ℕ, zero, ◌≤◌, length, ◌⊎◌, inl, inr, ⊎_elim, Bool, true, false, List, [], ◌∷◌, Ok, refl, subst}
use Rattle.std.specs.Prelude.{IsTrue, Contains}
use Rattle.brpc_model.specs.Complete.{IsUntroubled, Completeness, FitsWhole}
use Rattle.brpc_model.specs.ReportFits.{FitsRun}
use Rattle.brpc_model.specs.Items.{Item, Shape, Open, Join}
use Rattle.brpc_model.specs.ReturnedLink.{LinkEnd}
use Rattle.brpc_model.specs.Operations.{Turn}
use Rattle.brpc_model.specs.Report.{Report, report_text}
use Rattle.brpc_model.specs.Run.{Run}
use Rattle.brpc_model.specs.Script.{script_of}
use Rattle.brpc_model.specs.PlaceWords.{AreTold}
use Rattle.offered_runs.specs.served_sizes.specs.served_calls.specs.Below.report_fits.specs.ScriptLinkEnds.{AreEndsOf}
use Rattle.offered_runs.specs.served_sizes.specs.served_calls.specs.Below.script_facts.proofs.FilteredLists.{Has, has_from, contains_from, has_later, has_cases, has_none}
use Rattle.offered_runs.specs.served_sizes.specs.served_calls.specs.Below.report_fits.proofs.PrintableCallRun.{lateness}
use Rattle.seat_programs.specs.Cores.{Core}
use Rattle.seat_programs.specs.Tasks.{plan_of}
use Rattle.seat_programs.specs.ExplainedCalls.{Order, Fixed, ExplainedCalls}
use Rattle.seat_programs.specs.ScriptSetupToEnding.{Reports, all_tasks, IsRunWithCalls}
use Rattle.offered_runs.specs.served_sizes.specs.served_calls.specs.Below.outcome_stories.specs.Facts.{late_of_run, late_links_of_run}
use Rattle.offered_runs.specs.served_sizes.specs.served_calls.specs.Below.call_owing.specs.LivesOfLinks.{ClosesInRun}
use Rattle.offered_runs.specs.served_sizes.specs.served_calls.specs.Below.run_theorems.proofs.RunLengths.{ended_length}
use Rattle.offered_runs.specs.served_sizes.specs.served_calls.specs.Below.run_theorems.proofs.ScriptStartsSoundly.{made}
use Rattle.offered_runs.specs.served_sizes.specs.served_calls.specs.Below.run_theorems.proofs.Unjoined.{no_join}
use Rattle.offered_runs.specs.served_sizes.specs.served_calls.specs.Below.call_stories.specs.LinkReadingLists.{gave_in}
use Rattle.offered_runs.specs.served_sizes.specs.served_calls.specs.served_runs.specs.OfferedReplies.{OffersInRun}
use Rattle.offered_runs.specs.served_sizes.specs.served_calls.specs.served_runs.specs.calm_runs.proofs.Nothing.{nothing_behind, nothing_late}
use Rattle.offered_runs.specs.served_sizes.specs.served_calls.specs.QuietRuns.{AreShown, GivesFew, IsTimely}
use Rattle.offered_runs.specs.served_sizes.specs.served_calls.proofs.WholeServedReport.{offered_run}
use Rattle.offered_runs.specs.served_sizes.proofs.FewBytesFromServer.{few}
use Rattle.served_fits.specs.LatenessKnownOfRun.{AreSo, IsInTime, NoneOpen}
use Rattle.served_fits.proofs.RepliesOfReportedRun.{reported}
use Rattle.served_fits.proofs.RestsWithoutOpenIds.{clients_over}

-- ## Joins

-- a `join` stands in the script, or none does
joins_or_not : (items : List Item) → ((client number : ℕ) → Has items (Join client number) → ⊥) ⊎ ((client number : ℕ) × Has items (Join client number))
joins_or_not [] = inl (λ client number h. has_none (Join client number) h)
joins_or_not (Join client number ∷ items) = inr (client, number, (zero, refl))
joins_or_not (item ∷ items) = ⊎_elim
    (λ none_. inl (λ client number h. ⊎_elim (λ (same : item ≡ Join client number). absurd (cc)) (none_ client number) (has_cases item items (Join client number) h)))
    (λ some_. inr (some_.0, some_.1, has_later item items (Join some_.0 some_.1) some_.2)) (joins_or_not items)

served_or_not : (b : Bool) → (b ≡ false → ⊥) → IsTrue b
served_or_not true f = refl
served_or_not false f = absurd (f refl)

nothing_there : (x : ℕ) (l : List ℕ) → l ≡ [] → Contains l x → ⊥
nothing_there x l none_ there = has_none x (subst (λ (m : List ℕ). Has m x) none_ (has_from l x there))

module _ (bytes : List ℕ) (script : List Item) (reads : script_of bytes ≡ Ok script) (short : length bytes ≤ 1048576) (turns : List Turn) (core : Core) (is : IsRunWithCalls script turns core) (closes : ClosesInRun script turns core is) (offers : OffersInRun script turns core is) (fixed : Fixed)
    (orders : ℕ → Order) (tells : ExplainedCalls (plan_of script) (all_tasks script) core.outcomes fixed (gave_in core) orders core) (so : AreSo script turns core is fixed tells.last) (report : Report) (took : List (List ℕ)) (ends : List LinkEnd)
    (reports : Reports script core took report) (told : AreTold ends took) (given_back : AreEndsOf script core fixed (gave_in core) ends) (shown : AreShown script turns core is fixed ends) where
  timely : IsInTime script turns core is → IsTimely script turns core is fixed orders
  timely none_ = record {
    none_late = λ o op at late. nothing_there o (late_of_run script turns core is) none_.1 (so.late o late);
    no_late_link = λ k late. nothing_there k (late_links_of_run script turns core is) none_.0 (so.late_links k late);
    in_time = λ k late. nothing_there k (late_links_of_run script turns core is) none_.0 late;
  }

  -- links with the server gave less than is read at most
  gives_few : IsUntroubled script ends → GivesFew script turns core is
  gives_few untroubled k s = few bytes script reads short turns core is closes offers fixed orders tells untroubled.few_attempts k s.0 s.1 s.2

  -- the run that is reported
  abbrev pub run : Run
  run = reported bytes script reads turns core is closes offers fixed orders tells report took ends reports told given_back

  -- where nothing comes late in a run in which nothing went wrong
  pub timely_run : (IsUntroubled script ends → IsInTime script turns core is) → FitsRun run × Completeness run
  timely_run in_time = offered_run bytes script reads turns core is closes offers fixed orders (ended_length bytes script reads turns core is) tells so.last report took ends reports told given_back shown gives_few
      (λ untroubled. timely (in_time untroubled))

  pub timely_fits : (IsUntroubled script ends → IsInTime script turns core is) → FitsWhole script (report_text script report) ends (lateness fixed)
  timely_fits in_time = (report, run.story, refl, timely_run in_time)

  -- as where no `join` stands in the script
  pub joinless_in_time : ((client number : ℕ) → Contains script (Join client number) → ⊥) → IsUntroubled script ends → IsInTime script turns core is
  joinless_in_time none_ untroubled = nothing_late script (made bytes script reads) turns core is none_

  pub joinless_fits : ((client number : ℕ) → Contains script (Join client number) → ⊥) → FitsWhole script (report_text script report) ends (lateness fixed)
  joinless_fits none_ = timely_fits (joinless_in_time none_)

  -- and so where some link has no server
  pub unserved_fits : (name : List ℕ) (shape : Shape) → Contains script (Open name shape) → shape.serve ≡ false → FitsWhole script (report_text script report) ends (lateness fixed)
  unserved_fits name shape opened unserved = joinless_fits (no_join bytes script reads name shape opened unserved)

  -- where a `join` stands, each link has a server: each call has ended as the ending begins, where nothing went wrong
  abbrev pub CallsAreOver : Type 0
  CallsAreOver = (client number : ℕ) → Contains script (Join client number) → ((name : List ℕ) (shape : Shape) → Contains script (Open name shape) → IsTrue shape.serve) → IsUntroubled script ends → NoneOpen script turns core is

  pub over_in_time : CallsAreOver → IsUntroubled script ends → IsInTime script turns core is
  over_in_time over untroubled = ⊎_elim
      (λ none_. joinless_in_time (λ client number joins. none_ client number (has_from script (Join client number) joins)) untroubled)
      (λ some_. nothing_behind script (made bytes script reads) turns core is (clients_over script (made bytes script reads) turns core is
      (over some_.0 some_.1 (contains_from script (Join some_.0 some_.1) some_.2)
      (λ name shape opened. served_or_not shape.serve (λ unserved. no_join bytes script reads name shape opened unserved some_.0 some_.1 (contains_from script (Join some_.0 some_.1) some_.2))) untroubled)))
      (joins_or_not script)

  pub whole_fits : CallsAreOver → FitsWhole script (report_text script report) ends (lateness fixed)
  whole_fits over = timely_fits (over_in_time over)
