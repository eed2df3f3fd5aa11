-- In the run that is reported each link that was served gave the replies to what it took, and each call's responses over a link that no `send` names are the replies to its own request.
use Rattle.std.proofs.Common.{◌≡◌, ℕ, List, length, slice_get, Some, Ok, refl, sym, ap, ◌∙◌, subst, arith}
use Rattle.std.specs.Prelude.{Contains}
use Rattle.std.specs.List.{AllByRecursion}
use Rattle.sock_words.specs.declared.outcome.Outcome.TheVariants.{Opened}
use Rattle.brpc_model.specs.Items.{Item, Shape}
use Rattle.brpc_model.specs.ReturnedLink.{LinkEnd}
use Rattle.brpc_model.specs.Operations.{Turn}
use Rattle.brpc_model.specs.LinePlaceFaults.{names}
use Rattle.brpc_model.specs.PlaceWords.{took_at, AreTold}
use Rattle.brpc_model.specs.Report.{LinkLine, Report}
use Rattle.brpc_model.specs.Run.{Run}
use Rattle.brpc_model.specs.Script.{script_of}
use Rattle.brpc_model.specs.ServedForTakenBytes as model
use Rattle.offered_runs.specs.served_sizes.specs.served_calls.specs.Below.report_fits.specs.ScriptLinkEnds.{AreEndsOf}
use Rattle.offered_runs.specs.served_sizes.specs.served_calls.specs.Below.report_fits.proofs.LinkOrderLines.{Given}
use Rattle.offered_runs.specs.served_sizes.specs.served_calls.specs.Below.report_fits.proofs.LinkOrderLines as lines
use Rattle.offered_runs.specs.served_sizes.specs.served_calls.specs.Below.script_facts.proofs.FilteredLists.{within, has_from}
use Rattle.offered_runs.specs.served_sizes.specs.served_calls.specs.Below.report_fits.proofs.LivesInReport as lives
use Rattle.offered_runs.specs.served_sizes.specs.served_calls.specs.Below.report_fits.proofs.PrintableCallRun.{known_of}
use Rattle.offered_runs.specs.served_sizes.specs.served_calls.specs.Below.report_fits.proofs.ReportedRunFitting.{id_said}
use Rattle.offered_runs.specs.served_sizes.specs.served_calls.specs.Below.script_facts.proofs.ReadScriptFacts.{InRange}
use Rattle.offered_runs.specs.served_sizes.specs.served_calls.specs.Below.script_facts.proofs.ScriptSizes.{is_counted}
use Rattle.offered_runs.specs.served_sizes.specs.served_calls.specs.Below.script_facts.proofs.Targets.{AreThere, are_there}
use Rattle.seat_programs.specs.declared.task.Op.TheVariants as ops
use Rattle.seat_programs.specs.Cores.{Core}
use Rattle.seat_programs.specs.Tasks.{name_number, plan_of}
use Rattle.seat_programs.specs.Explained.{Made}
use Rattle.seat_programs.specs.ExplainedCalls.{Order, Fixed, ExplainedCalls}
use Rattle.seat_programs.specs.ScriptSetupToEnding.{Reports, all_tasks, IsRunWithCalls}
use Rattle.offered_runs.specs.served_sizes.specs.served_calls.specs.Below.outcome_stories.specs.Facts.{late_links_of_run}
use Rattle.offered_runs.specs.served_sizes.specs.served_calls.specs.Below.call_owing.specs.LivesOfLinks.{ClosesInRun}
use Rattle.offered_runs.specs.served_sizes.specs.served_calls.specs.Below.run_theorems.proofs.RunLengths.{ended_length}
use Rattle.offered_runs.specs.served_sizes.specs.served_calls.specs.Below.run_theorems.proofs.ScriptStartsSoundly.{made}
use Rattle.offered_runs.specs.served_sizes.specs.served_calls.specs.Below.call_stories.specs.LinkReadingLists.{gave_in}
use Rattle.offered_runs.specs.served_sizes.specs.served_calls.specs.served_runs.specs.OfferedReplies.{OffersInRun}
use Rattle.offered_runs.specs.served_sizes.specs.served_calls.specs.served_runs.specs.ServedLinks.{IsServed, took_in_all}
use Rattle.offered_runs.specs.served_sizes.specs.served_calls.specs.served_runs.proofs.Model.{link_own_replies}
use Rattle.offered_runs.specs.served_sizes.specs.served_calls.specs.served_runs.proofs.ServedLinks.{gives_replies}
use Rattle.offered_runs.specs.served_sizes.specs.served_calls.specs.QuietRuns.{AreShown}
use Rattle.offered_runs.specs.served_sizes.specs.served_calls.proofs.OutcomeShowingCallId.{outcome_there, both_told}
use Rattle.served_fits.specs.LatenessKnownOfRun.{TellTook}

module _ (bytes : List ℕ) (script : List Item) (reads : script_of bytes ≡ Ok script) (turns : List Turn) (core : Core) (is : IsRunWithCalls script turns core) (closes : ClosesInRun script turns core is) (offers : OffersInRun script turns core is) (fixed : Fixed)
    (orders : ℕ → Order) (tells : ExplainedCalls (plan_of script) (all_tasks script) core.outcomes fixed (gave_in core) orders core) (report : Report) (took : List (List ℕ)) (ends : List LinkEnd)
    (reports : Reports script core took report) (told : AreTold ends took) (given_back : AreEndsOf script core fixed (gave_in core) ends) where
  there : AreThere script
  there = are_there bytes script reads

  range : AllByRecursion InRange script
  range = (is_counted bytes script reads).in_range

  abbrev pub all_given : Given
  all_given = record { run = known_of bytes script reads core fixed (gave_in core) orders (ended_length bytes script reads turns core is) tells; report = report; took = took; ends = ends; reports = reports; told = told; given = given_back }

  -- the run that is reported
  abbrev pub reported : Run
  reported = lives.run_of all_given

  -- a link of which an `open` told has its life
  record HasLife (k : ℕ) : Type 0 where
    pub name : ℕ
    pub slot : ℕ
    pub version : ℕ
    pub life : Made (all_tasks script) core.outcomes name k slot version

  made_at : (i slot version k : ℕ) → slice_get report.outcomes i ≡ Some (Opened slot version k) → HasLife k
  made_at i slot version k has =
      let b = lives.became all_given i (Opened slot version k) refl has in
      let w = lives.opened_at all_given i slot version k b in
      let n = name_number (names script) w.name in
      record { name = n; slot = slot; version = version; life = record { client = w.operation.client; task = record { number = i; op = ops.Open n k }; is = w.is; op = refl; became = b } }

  -- the link of this number as it was given back
  end_of : (k : ℕ) (e : LinkEnd) → Contains ends e → e.link ≡ k → length (gave_in core k) ≡ e.gave_count
  end_of k e has numbered = let h = has_from ends e has in let x = given_back.each h.0 e h.1 in subst (λ j. length (gave_in core j) ≡ e.gave_count) (sym x.numbered ∙ numbered) x.counted

  module _ (late : (k : ℕ) → Contains (late_links_of_run script turns core is) k → Contains fixed.late_links k) (shown : AreShown script turns core is fixed ends) where
    served : (k : ℕ) (shape : Shape) → model.IsServedLink reported k shape → IsServed script turns core is k shape
    served k shape s = let b = s.lived in let life = made_at b.0 b.1 b.2 k b.3 in let (e, has, numbered, (unfailed, faultless, few)) = s.read in record { opened = s.opened; serves = s.serves; name = life.name; slot = life.slot; version = life.version; lived = life.life; in_time = λ born. s.in_time (late k born); whole = λ failed. let f = shown.1 k e has numbered failed in let z : ⊥ = omega (arith, f, unfailed) in z; faultless = faultless; few = let l = end_of k e has numbered in omega (arith, l, few) }

    -- what is reported that it took is what it took, where the links tell it
    line_took : TellTook script ends → (k : ℕ) (shape : Shape) (line : LinkLine) → slice_get report.links k ≡ Some line → model.IsServedLink reported k shape → line.took ≡ took_in_all script turns core is k
    line_took tell k shape line at s = let low = lines.line_low all_given k line at in let e = within ends k (let many = given_back.as_many in omega (arith, low, many)) in
        lines.took_is all_given k line at ∙ both_told e.0.took (took_at took k) (took_in_all script turns core is k) (tell k e.0 shape e.1 s.opened s.serves) (told k e.0 e.1) (given_back.each k e.0 e.1).took

    pub run_gives_replies : TellTook script ends → model.GivesReplies reported
    run_gives_replies tell k shape line s at = gives_replies script (made bytes script reads) there range turns core is closes offers k shape (served k shape s) ∙ ap (model.given_for shape) (sym (line_took tell k shape line at s))

  pub run_gives_own_replies : model.GivesOwnReplies reported
  run_gives_own_replies k n i id shape frame op call s unnamed gave at item shows response =
      let x = outcome_there report.outcomes i id shows in
      link_own_replies script (made bytes script reads) there range turns core is closes offers k shape s.opened s.serves unnamed n i id frame op call x.0 gave.1 at item (lives.became all_given i x.0 (id_said x.0 id x.2) x.1) x.2 response
