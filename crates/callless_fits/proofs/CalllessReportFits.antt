-- The report of a run of a script without calls fits, by what is told of its sockets, whatever its links gave.
use Rattle.std.proofs.Common.{◌≡◌, ℕ, true, false, List, slice_get, Some, sym, ap, ◌∙◌, subst}
use Rattle.sock_words.specs.declared.place_word.PlaceWord.{PlaceWord}
use Rattle.brpc_model.specs.Items.{Call, CallLine}
use Rattle.brpc_model.specs.ReturnedLink.{LinkEnd}
use Rattle.brpc_model.specs.Operations.{Operation, operations}
use Rattle.brpc_model.specs.Run.{Run, nothing_late}
use Rattle.brpc_model.specs.PlaceWords.{IsReportText, HasEachOutcome, AreTold}
use Rattle.brpc_model.specs.Complete.{Completeness}
use Rattle.seat_programs.specs.Cores.{Core}
use Rattle.seat_programs.specs.ScriptSetupToEnding.{all_tasks, is_callless, is_later, place_words}
use Rattle.seat_programs.specs.Tasks.{plan_of}
use Rattle.seat_programs.specs.ExplainedCalls.{Fixed, ExplainedCalls}
use Rattle.sock_deeds.specs.report_fits.specs.ScriptLinkEnds.{IsEndOf, AreEndsOf}
use Rattle.sock_deeds.specs.report_fits.proofs.CalllessScript.{not_later}
use Rattle.sock_deeds.specs.report_fits.proofs.ReportedRunFitting.{fits_run}
use Rattle.sock_deeds.specs.report_fits.proofs.LinkOrderLines.{Given}
use Rattle.sock_deeds.specs.script_facts.proofs.OperationNumbering.{are_from}
use Rattle.sock_deeds.specs.report_fits.proofs.PrintableCallRun.{known_of}
use Rattle.sock_deeds.specs.SocketsTold.{fixed_by}
use Rattle.callless_fits.specs.WholeCalllessReport.{IsWholeText, AreSilentServed}
use Rattle.callless_fits.proofs.EverySendPlaced.{SocketRun, ToldRun, sends_done}
use Rattle.callless_fits.proofs.SilentLinksReadWhole.{none_early}
use Rattle.callless_fits.proofs.Socketed.{of_sockets}
use Rattle.callless_fits.proofs.CalllessSocketsTelling.{core_with, told_callless}

module _ (s : SocketRun) (callless : is_callless s.script ≡ true) (places : List PlaceWord) (words : place_words (plan_of s.script) s.core.words ≡ places) (each : HasEachOutcome places s.outcomes) where
  open s use {bytes, script, reads, outcomes, broken, early, fails, gave, orders, core, long, tells}

  abbrev fixed : Fixed
  fixed = fixed_by broken early fails

  abbrev last_core : Core
  last_core = core_with core outcomes

  told_of_sockets : ExplainedCalls (plan_of script) (all_tasks script) outcomes fixed gave orders last_core
  told_of_sockets = told_callless script callless outcomes fixed gave orders core tells long (subst (λ (l : List PlaceWord). HasEachOutcome l outcomes) (sym words) each)

  end_still : (k : ℕ) (e : LinkEnd) → IsEndOf (plan_of script) core fixed gave k e → IsEndOf (plan_of script) last_core fixed gave k e
  end_still k e h = record { numbered = h.numbered; took = h.took; counted = h.counted; gives = h.gives; failed = h.failed; early = h.early; closed = h.closed }

  ends_still : (ends : List LinkEnd) → AreEndsOf script core fixed gave ends → AreEndsOf script last_core fixed gave ends
  ends_still ends h = record { as_many = h.as_many; each = λ k e at. end_still k e (h.each k e at) }

  -- a call is none of its operations
  no_call : (i : ℕ) (op : Operation) (call : CallLine) → slice_get (operations script) i ≡ Some op → op.item ≡ Call call → ⊥
  no_call i op call there item = (let later : true ≡ false = ap is_later (sym item) ∙ not_later script callless op.item (are_from 0 1 script i op there).there in cc)

  module _ (text : List ℕ) (took : List (List ℕ)) (ends : List LinkEnd) (reported : IsReportText script outcomes places took text) (told : AreTold ends took) (given : AreEndsOf script core fixed gave ends) where
    its_words : IsReportText script outcomes (place_words (plan_of script) core.words) took text
    its_words = subst (λ (l : List PlaceWord). IsReportText script outcomes l took text) (sym words) reported

    abbrev all_given : Given
    all_given = record { run = known_of bytes script reads last_core fixed gave orders long told_of_sockets; report = its_words.report; took = took; ends = ends; reports = its_words.told; told = told; given = ends_still ends given }

    abbrev told_run : ToldRun
    told_run = record {
      sockets = s;
      last = told_of_sockets.last;
      few = λ client t asked is op. (told_of_sockets.again client t asked is op).0;
      sent = told_of_sockets.sent;
      opens = λ client t slot version k is became. of_sockets script callless outcomes client t is;
      took = took;
      report = its_words.report;
      told = its_words.told;
      ends = ends;
      given = given;
    }

    abbrev run : Run
    run = record { script = script; report = its_words.report; ends = ends; late = nothing_late; story = record { fails = fails; gave = gave; last = told_of_sockets.last } }

    complete : AreSilentServed script ends → Completeness run
    complete silent calm = record {
      sends = sends_done told_run calm (none_early script core broken early fails gave ends given calm silent);
      calls = λ i op call name outcome there item has first served unexpired. absurd (no_call i op call there item);
    }

    -- the text reports such a run, and it fits
    pub text_is_whole : IsWholeText script text gave ends
    text_is_whole = record {
      core = last_core;
      fixed = fixed;
      orders = orders;
      tells = told_of_sockets;
      ends_told = ends_still ends given;
      reported = (took, told, its_words);
      fits = (its_words.report, run.story, its_words.is_text, (fits_run all_given, complete));
    }
