-- What is reported of a script without calls, whatever its links gave.
use Rattle.std.specs.Prelude.{ℕ, ◌≡◌, false, IsTrue, List, slice_get, Some}
use Rattle.std.specs.List.{AllByRecursion}
use Rattle.brpc_model.specs.Items.{Item, Shape}
use Rattle.brpc_model.specs.Operations.{link_shapes}
use Rattle.brpc_model.specs.ReturnedLink.{LinkEnd}
use Rattle.brpc_model.specs.PlaceWords.{IsReportText, AreTold}
use Rattle.brpc_model.specs.Run.{nothing_late}
use Rattle.brpc_model.specs.ReportFits.{FitsRun, Reports as IsReportIn}
use Rattle.brpc_model.specs.Complete.{Completeness}
use Rattle.seat_programs.specs.Cores.{Core}
use Rattle.seat_programs.specs.ScriptSetupToEnding.{all_tasks, place_words}
use Rattle.seat_programs.specs.Tasks.{plan_of}
use Rattle.seat_programs.specs.ExplainedCalls.{Fixed, Order, ExplainedCalls}
use Rattle.sock_deeds.specs.report_fits.specs.ScriptLinkEnds.{AreEndsOf}

-- where the link of this end was opened with `serve`, its other end gave nothing, and no end: so does a server that is asked nothing
abbrev pub IsSilentServed : List Item → LinkEnd → Type 0
IsSilentServed script e = (shape : Shape) → slice_get (link_shapes script) e.link ≡ Some shape → IsTrue shape.serve → (e.gave_count ≡ 0) × (e.gave_end ≡ false)

abbrev pub AreSilentServed : List Item → List LinkEnd → Type 0
AreSilentServed script ends = AllByRecursion (IsSilentServed script) ends

-- The text reports a run of the script, over the links that were given back. Each outcome has its cause, by what became of all others; and each link took
-- the messages that it accepted in one order, whole and once, those of each client in its own order. What the links gave is of no account.
pub record IsWholeText (script : List Item) (text : List ℕ) (gave : ℕ → List ℕ) (ends : List LinkEnd) : Type 0 where
  -- what the closed table left: its words, the messages that the links took, and what the clients told
  pub core : Core
  pub fixed : Fixed
  -- what each link accepted, and how many messages it took whole
  pub orders : ℕ → Order
  pub tells : ExplainedCalls (plan_of script) (all_tasks script) core.outcomes fixed gave orders core
  -- the links are those of this run: they took what is at home, gave what is said of them, and show where they failed
  pub ends_told : AreEndsOf script core fixed gave ends
  -- its outcomes and place words are reported, and with them what the links are said to have taken
  pub reported : (took : List (List ℕ)) × AreTold ends took × IsReportText script core.outcomes (place_words (plan_of script) core.words) took text
  -- the report fits the script and them, with nothing late; and where nothing went wrong, and no link with the server gave anything, every send is placed
  pub fits : IsReportIn (λ run. FitsRun run × (AreSilentServed script ends → Completeness run)) script text ends nothing_late
