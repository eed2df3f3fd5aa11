-- The lines by which a script is run, the ticks that they make, and the text of a run.
use Rattle.std.specs.Prelude.{ℕ, ◌≡◌, ◌≢◌, ◌≤◌, ◌++◌, Bool, true, length, slice_get, slice_index_or, List, [], Option, Some, None, IfSome, IsSome, Contains}
use Rattle.sock_words.specs.declared.plain.Plan.{Plan}
use Rattle.brpc_model.specs.Items.{Item, Shape}
use Rattle.brpc_model.specs.ReturnedLink.{LinkEnd}
use Rattle.brpc_model.specs.Operations.{Turn, schedule, clients, link_names, link_shapes}
use Rattle.brpc_model.specs.Report.{Report, report_text}
use Rattle.brpc_model.specs.PlaceWords.{IsReportText, AreTold}
use Rattle.sock_words.specs.declared.outcome.Outcome.{Outcome}
use Rattle.sock_words.specs.declared.place_word.PlaceWord.{PlaceWord}
use Rattle.script_report.specs.declared.summary.Load.{Load}
use Rattle.script_report.specs.RunSummary.{told_of, sums_of, summary_text}
use Rattle.seat_programs.specs.Asides.{Taking}
use Rattle.seat_programs.specs.Cores.{Core}
use Rattle.seat_programs.specs.Ticks.{Answer, Moment}
use Rattle.seat_programs.specs.ScheduledRuns.{IsAtRest, Turns}
use Rattle.seat_programs.specs.ScriptSetupToEnding.{IsRunWithCalls, Reports, is_callless, played, drawn_turns, took_at_home}
use Rattle.seat_programs.specs.Tasks.{plan_of}
use Rattle.calm_runs.specs.Below.report_fits.specs.ScriptLinkEnds.{AreEndsOf}
use Rattle.run_laws.specs.RunLaws.{KeepsLaws}
use Rattle.sock_io.specs.LinkHalves.{InState}
use Rattle.calm_runs.specs.Below.call_owing.specs.LivesOfLinks.{ClosesInRun}
use Rattle.machine_model.specs.MachineLinks.{Taken, Given, SoFar, TellClosing, IsOffering, IsShapedSo}
use Rattle.machine_model.specs.Machines.{MachineState, core_with}
use Rattle.calm_runs.specs.Below.run_theorems.specs.Heard.{as_told, as_taken, take_answers, heard_of, taken_of, heard_takes}
use Rattle.calm_runs.specs.Below.run_theorems.specs.OfferedRuns.{OffersInRun}
use Rattle.calm_runs.specs.Below.run_theorems.specs.ShapedPuts.{ShapedInRun}
use Rattle.calm_runs.specs.Below.run_theorems.specs.RunIsOver.{IsAllOver}
use Rattle.machine_model.specs.MachineRuns.{ShowsTaking, LinksShow, MadeByTicks, Made}
use Rattle.machine_model.specs.Driving.{FirstRests}
use Rattle.script_run.specs.RunOutcomeCauses.{HasCauses, DropsTold, broken_of}
use Rattle.script_run.specs.declared.report.Print.{Print}
use Rattle.script_run.specs.declared.report.Print.TheVariants as print
use Rattle.script_run.specs.declared.schedule.Schedule.{Schedule}
use Rattle.script_run.specs.declared.schedule.Schedule.TheVariants.{Own, Drawn}
use Rattle.calm_runs.specs.Below.call_stories.specs.LinkReadingLists.{gave_in}

-- the lines of the schedule by which a script is run
abbrev pub turns_of : List Item → Schedule → List Turn
turns_of script Own = schedule script
turns_of script (Drawn seed) = drawn_turns script seed

-- ## The machine

-- the schedule's turn: seat 0 has no step left, and neither has a seat with the highest number or one above
pub record IsPlayable (m : MachineState) : Type 0 where
  pub first : FirstRests m
  pub far : (i : ℕ) → 65535 ≤ i → (took : Taken) (gave : Given) → IsAtRest (core_with m took gave) i

-- ## Ticks

-- ticks like these were made, over links that had taken and given this
abbrev pub PlayedWith : (Core → List Moment → Type 0) → MachineState → MachineState → Taken → Given → Type 0
PlayedWith Ticks = MadeByTicks (λ p. Ticks)

abbrev pub HasPlayed : (Core → List Moment → Type 0) → MachineState → MachineState → Type 0
HasPlayed Ticks old new = Made old new (PlayedWith Ticks old new)

-- the ticks that one line of a script makes, none where it isn't a line of the schedule
abbrev pub HasTurns : Plan → Option Turn → Core → List Moment → Type 0
HasTurns p None c moments = moments ≡ []
HasTurns p (Some turn) c moments = Turns p c turn moments

-- ## Runs

-- each reading half tells whether its other end closed its half, and whether it answered so
abbrev pub TellClosed : {A : Type 0} → (A → InState) → Type 0
TellClosed {A} state = (inn : A) → ((state inn).closing ≢ None) × ((state inn).closed ≢ None)

-- the machine was played from behind the setup to the end of a run, over links that are always ready in time
pub record HasRun (script : List Item) (turns : List Turn) (start m : MachineState) : Type 0 where
  pub so_far : SoFar m.links
  pub open so_far use *
  pub run : IsRunWithCalls script turns (core_with m took gave)
  pub closes : TellClosing start.links → ClosesInRun script turns (core_with m took gave) run
  -- a link that was offered what belongs to it tells so in each take, and is offered it in the end
  pub offers : (k : ℕ) (serve : Bool) (end : Option ℕ) → IsOffering start.links k serve end → OffersInRun script turns (core_with m took gave) run k serve end × IsOffering m.links k serve end
  -- a link whose puts go by a shape from the first one on answers each put of the run by it
  pub shapes : (k : ℕ) (shape : Shape) → IsShapedSo start.links k shape [] → ShapedInRun script turns (core_with m took gave) run k shape
  pub shows : LinksShow start m (broken_of run) (heard_of run) (taken_of run)
  pub open shows use *

-- each link that tells what its halves answered tells what they answered in the run, and no other link was asked
pub record AreHeard (ends : List LinkEnd) (heard taken : ℕ → List Answer) : Type 0 where
  pub each : (k : ℕ) (e : LinkEnd) → slice_get ends k ≡ Some e → IfSome e.answers (λ answers. answers ≡ as_told (heard k))
  pub none_beyond : (k : ℕ) → length ends ≤ k → heard k ≡ []
  pub each_take : (k : ℕ) (e : LinkEnd) → slice_get ends k ≡ Some e → IfSome e.takes (λ takes. takes ≡ take_answers (as_taken (taken k)))
  pub no_take_beyond : (k : ℕ) → length ends ≤ k → taken k ≡ []

-- a run of the script by these lines, over the links that were given back; where they tell what they took, gave and were offered, and go by their shapes,
-- what they were offered and how they answered too
pub record IsWholeRun (Offering : Type 0) (script : List Item) (turns : List Turn) (ends : List LinkEnd) : Type 0 where
  pub core : Core
  pub run : IsRunWithCalls script turns core
  -- whose ticks are events of the plain model, with at most one put behind a failure
  pub laws : KeepsLaws run
  pub heard : AreHeard ends (heard_of run) (taken_of run)
  pub drops : DropsTold run
  -- without calls each client is at rest where the ending begins
  pub idle : is_callless script ≡ true → (i : ℕ) → i ≤ clients script → IsAtRest (played script run.setup (run.scheduled ++ run.later)) i
  -- in the end no life is left, each id range has ended, and each link is at home
  pub over : IsAllOver script core
  -- at each take a link was offered what belongs to it, by what its `open` asks
  pub offers : Offering → (k : ℕ) (shape : Shape) → slice_get (link_shapes script) k ≡ Some shape → OffersInRun script turns core run k shape.serve shape.end
  -- and each put into it was answered as the shape says that its `open` asks for
  pub shapes : Offering → (k : ℕ) (shape : Shape) → slice_get (link_shapes script) k ≡ Some shape → ShapedInRun script turns core run k shape
  -- it answered that it was closed only where it was finished
  pub closes : Offering → ClosesInRun script turns core run
  -- it shows what its reading half answered, and tells what it took
  pub shows : Offering → (k : ℕ) (e : LinkEnd) → slice_get ends k ≡ Some e → (t : Taking) → Contains (heard_takes run k) t → ShowsTaking t e
  pub tells : Offering → (k : ℕ) (e : LinkEnd) → slice_get ends k ≡ Some e → IsSome e.took

-- link k, as it was given back: as far as it tells, it took what lies at its home, and gave what the run has of it
pub record IsEndTold (p : Plan) (core : Core) (k : ℕ) (e : LinkEnd) : Type 0 where
  pub numbered : e.link ≡ k
  pub took : IfSome e.took (λ bytes. bytes ≡ slice_index_or (took_at_home p core.homes) k [])
  pub counted : length (gave_in core k) ≡ e.gave_count
  pub gives : IfSome e.gave (λ bytes. bytes ≡ gave_in core k)

pub record AreEndsTold (script : List Item) (core : Core) (ends : List LinkEnd) : Type 0 where
  pub as_many : length ends ≡ length (link_names script)
  pub each : (k : ℕ) (e : LinkEnd) → slice_get ends k ≡ Some e → IsEndTold (plan_of script) core k e

-- all causes of a run, and what the links show of them
abbrev pub IsCaused : (script : List Item) (turns : List Turn) (core : Core) → IsRunWithCalls script turns core → List LinkEnd → Type 0
IsCaused script turns core run ends = (has : HasCauses script turns core run) × AreEndsOf script core has.fixed (gave_in core) ends

-- the text reports a run of the script by these lines, over the links that were given back
pub record IsRunText (Offering : Type 0) (script : List Item) (turns : List Turn) (text : List ℕ) (ends : List LinkEnd) : Type 0 where
  pub whole : IsWholeRun Offering script turns ends
  -- what is reported that the links took
  pub took : List (List ℕ)
  pub told : AreTold ends took
  pub report : Report
  pub reports : Reports script whole.core took report
  pub is_text : text ≡ report_text script report
  pub ends_told : AreEndsTold script whole.core ends
  -- why each outcome came
  pub causes : IsCaused script turns whole.core whole.run ends

-- ## What is printed

-- the summary that a load prints has the numbers of this report
abbrev pub summary_of : Load → List Item → Report → List ℕ
summary_of load script report = summary_text load.seed load.clients load.operations (sums_of (told_of script report.outcomes))

-- the text is the summary of a run that left these outcomes and place words
pub record IsSummaryText (load : Load) (script : List Item) (said : List (Option Outcome)) (words : List PlaceWord) (took : List (List ℕ)) (text : List ℕ) : Type 0 where
  pub whole : List ℕ
  pub reported : IsReportText script said words took whole
  pub sums : text ≡ summary_of load script reported.report

-- it is its report, or its summary
abbrev pub IsPrintOf : Print → List Item → List (Option Outcome) → List PlaceWord → List (List ℕ) → List ℕ → Type 0
IsPrintOf print.Report script said words took text = IsReportText script said words took text
IsPrintOf (print.Summary load) script said words took text = IsSummaryText load script said words took text

-- the text is the summary of a run of the script by these lines
pub record IsRunSummary (Offering : Type 0) (load : Load) (script : List Item) (turns : List Turn) (text : List ℕ) (ends : List LinkEnd) : Type 0 where
  -- of which this is the report
  pub whole : List ℕ
  pub reported : IsRunText Offering script turns whole ends
  pub sums : text ≡ summary_of load script reported.report

abbrev pub IsPrinted : Type 0 → Print → List Item → List Turn → List ℕ → List LinkEnd → Type 0
IsPrinted Offering print.Report script turns text ends = IsRunText Offering script turns text ends
IsPrinted Offering (print.Summary load) script turns text ends = IsRunSummary Offering load script turns text ends
