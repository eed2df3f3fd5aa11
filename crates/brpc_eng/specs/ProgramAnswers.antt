-- The answers of the program: the status, its cause, and what is written with it.
use Rattle.std.specs.Prelude.{ℕ, ◌≡◌, ◌≢◌, ◌<◌, ◌≤◌, ◌+◌, ◌⊎◌, ◌++◌, Bool, true, false, List, [], length, map, All, codes, decimal, is_some, Option, Some, None, Result, Ok, Err, Vec}
use Rattle.std.specs.declared.alloc.Global.{Global}
use Rattle.std.specs.Io.KnownBytes.{Appends, Consumes}
use Rattle.std.specs.List.{AllByRecursion}
use Rattle.brpc_eng.specs.CommandWords.{Replay, Sim, Run, Gen, Load, Frames, Serve, command_of}
use Rattle.brpc_model.specs.ScriptText.{script_text}
use Rattle.brpc_model.specs.DrawnSeatsAndScripts.{generated}
use Rattle.brpc_model.specs.Items.{Item}
use Rattle.brpc_model.specs.Operations.{Turn, schedule}
use Rattle.brpc_model.specs.Script.{script_of}
use Rattle.brpc_model.specs.ReturnedLink.{LinkEnd}
use Rattle.brpc_model.specs.Run.{Lateness, nothing_late}
use Rattle.brpc_model.specs.Report.{Report, report_text}
use Rattle.brpc_model.specs.ReportFits.{Fits}
use Rattle.brpc_model.specs.Complete.{FitsWhole}
use Rattle.brpc_model.specs.ServedForTakenBytes.{FitsServed}
use Rattle.script_report.specs.RunSummary.{told_of, sums_of, summary_text}
use Rattle.sock_io.specs.FaultCauses.{Rose}
use Rattle.sock_io.specs.LinkHalves.{LinkerState}
use Rattle.sock_io.specs.SourceAndSinkState.{SourceState, SinkState}
use Rattle.sock_io.specs.PartWrittenToSink.{WrotePart}
use Rattle.frame_print.specs.PrintedFrames.{Edges, PrintsFrames}
use Rattle.frame_print.specs.declared.print.StreamEnd.{StreamEnd}
use Rattle.frame_print.specs.declared.print.StreamEnd.TheVariants as end_
use Rattle.frame_print.specs.declared.print.PrintFault.{PrintFault}
use Rattle.frame_print.specs.declared.print.PrintFault.TheVariants as fault_
use Rattle.seat_programs.specs.Cores.{Core}
use Rattle.seat_programs.specs.ScriptSetupToEnding.{IsRunWithCalls, is_callless, drawn_turns}
use Rattle.calls_over.specs.Below.run_theorems.specs.Heard.{as_told, heard_of, heard_takes}
use Rattle.sock_io.specs.declared.link.LinkSpec.{LinkSpec}
use Rattle.sock_io.specs.declared.link.Mode.{Mode}
use Rattle.sock_io.specs.declared.link.Mode.TheVariants as modes
use Rattle.sock_io.specs.declared.link.OpenFault.{OpenFault}
use Rattle.sock_io.specs.declared.link.OpenFault.TheVariants as opening
use Rattle.serve_port.specs.ServingConnections.{ServedConnection, IsServed, any_failing, any_faulty, all_whole, frames_of}
use Rattle.script_links.specs.LinksGivenBack.{AreNumbered, AreUntouched, IsBeginning, specs_of}
use Rattle.script_run.specs.RunOutcomeCauses.{CameLate, late_in}
use Rattle.script_run.specs.Played.{IsRunText}
use Rattle.script_threads.specs.ServedLinksOfReport.{IsCompleteText}
use Rattle.brpc_eng.specs.WholeSourceRead.{script_limit, IsAtEnd}

-- ## What a call finds outside, and what it leaves there

-- a count of faults, before the call and now
pub record Faults : Type 0 where
  pub before : ℕ
  pub now : ℕ

-- it rose, or stands at its last value
abbrev pub HaveRisen : Faults → Type 0
HaveRisen faults = Rose faults.before faults.now

-- it stands still
abbrev pub StandStill : Faults → Type 0
StandStill faults = faults.now ≡ faults.before

-- a source: what it had to give and what of that is left, where it tells
pub record Input : Type 0 where
  pub given : Option (List ℕ)
  pub left : Option (List ℕ)
  pub faults : Faults

-- a sink: what it had taken before and what it has taken now, where it tells
pub record Output : Type 0 where
  pub before : Option (List ℕ)
  pub now : Option (List ℕ)
  pub faults : Faults

-- a linker: whether its links are always ready in time, that each reading half tells whether it is found closed, that each link tells what it took, gave and is offered and goes by its shape, whether links in a mode tell in the end what their other ends offered, what was asked of each
-- link that was opened, and those that were given back; and how many connections were accepted, and those that were given back
pub record Links : Type 1 where
  pub always_ready : Bool
  pub tells : Type 0
  pub offering : Type 0
  pub tells_in : Mode → Bool
  pub asked : List LinkSpec
  pub ends : List LinkEnd
  pub accepted : ℕ
  pub done : List LinkEnd
  pub faults : Faults

-- ## These over a call, by what they tell before and behind it: of a linker, whether its links are always ready is read
-- before, and what was asked, given back and accepted behind it

abbrev pub faults_over : ℕ → ℕ → Faults
faults_over old new = record { before = old; now = new }

abbrev pub source_over : SourceState → SourceState → Input
source_over old new = record { given = old.left; left = new.left; faults = faults_over old.faults new.faults }

abbrev pub sink_over : SinkState → SinkState → Output
sink_over old new = record { before = old.contents; now = new.contents; faults = faults_over old.faults new.faults }

abbrev pub linker_over : (tells offering : Type 0) → (Mode → Bool) → LinkerState → LinkerState → Links
linker_over tells offering tells_in old new = record { always_ready = old.always_ready; tells = tells; offering = offering; tells_in = tells_in; asked = new.asked; ends = new.back; accepted = new.accepted; done = new.done; faults = faults_over old.faults new.faults }

-- no link was opened, and none was given back
abbrev pub OpenedNothing : LinkerState → Type 0
OpenedNothing links = (links.asked ≡ []) × (links.back ≡ [])

-- the same over a call
abbrev pub OpenedNone : Links → Type 0
OpenedNone links = (links.asked ≡ []) × (links.ends ≡ [])

-- no link was opened, no connection accepted, and none given back
abbrev pub UnusedLinker : LinkerState → Type 0
UnusedLinker links = OpenedNothing links × (links.accepted ≡ 0) × (links.done ≡ [])

-- over a call no connection was accepted, and none given back
abbrev pub AcceptedNone : Links → Type 0
AcceptedNone links = (links.accepted ≡ 0) × (links.done ≡ [])

-- the links that the lines of a script ask for were opened as they ask, in this mode, all of them where a report was written or begun, else the
-- first of them; and each is given back, in order
pub record OpenedBy (mode : Mode) (script : List Item) (links : Links) (status : ℕ) : Type 0 where
  pub front : IsBeginning links.asked (specs_of mode script)
  pub whole : (status ≡ 0) ⊎ (status ≡ 5) → links.asked ≡ specs_of mode script
  pub given_back : length links.ends ≡ length links.asked
  pub numbered : AreNumbered 0 links.ends

-- ## What is written

-- the whole text, and no write failed
abbrev pub WroteAll : Output → List ℕ → Type 0
WroteAll out text = Appends out.before out.now text × StandStill out.faults

-- a beginning of the text, since the sink failed
abbrev pub WroteSome : Output → List ℕ → Type 0
WroteSome out text = HaveRisen out.faults × WrotePart out.before out.now text

abbrev pub Wrote : Output → List ℕ → Type 0
Wrote out text = WroteAll out text ⊎ WroteSome out text

abbrev pub WroteNothing : Output → Type 0
WroteNothing out = (out.now ≡ out.before) × StandStill out.faults

abbrev pub fault_text : ℕ → ℕ → List ℕ
fault_text line kind = codes "script fault line " ++ decimal line ++ codes " kind " ++ decimal kind ++ codes "\n"

-- ## A script that was read

-- The report fits the script and the links given back, whatever servers they have; what counts as late there came late in that run. Without calls nothing
-- counts as late, and where nothing went wrong every send is placed. Where the links tell what they took, gave and are offered, each link that was served gave
-- the replies to what it took, and each call's responses over a link that no `send` names are the replies to its own request; and where nothing went wrong
-- every send is placed and every call has its reply.
abbrev pub IsFitting : (offering : Type 0) {script : List Item} {turns : List Turn} {text : List ℕ} {ends : List LinkEnd} → IsRunText offering script turns text ends → Type 0
IsFitting offering {script} {turns} {text} {ends} is = (late : Lateness) × CameLate late (late_in script turns is.whole.core is.whole.run) × (is_callless script ≡ true → late ≡ nothing_late)
    × Fits script text ends late × (is_callless script ≡ true → FitsWhole script text ends late)
    × (offering → FitsServed script text ends late)

-- where the links are prompt and tell whether they are found closed, the text reports a run of the script by these lines, and fits
abbrev pub IsReport : Links → List Item → List Turn → List ℕ → Type 0
IsReport links script turns text = links.always_ready ≡ true → links.tells → (is : IsRunText links.offering script turns text links.ends) × IsFitting links.offering is

-- links that tell all that they took, gave and answered
pub record TellsAll (e : LinkEnd) : Type 0 where
  pub took : is_some e.took ≡ true
  pub answers : is_some e.answers ≡ true
  pub gave : is_some e.gave ≡ true
  pub takes : is_some e.takes ≡ true

abbrev pub AllTell : List LinkEnd → Type 0
AllTell ends = AllByRecursion TellsAll ends

-- in two runs each link answered the same, by either half
abbrev pub SameAnswers : {script : List Item} {turns : List Turn} {a b : Core} → IsRunWithCalls script turns a → IsRunWithCalls script turns b → Type 0
SameAnswers r s = ((k : ℕ) → as_told (heard_of r k) ≡ as_told (heard_of s k)) × ((k : ℕ) → heard_takes r k ≡ heard_takes s k)

-- it is that of a run by these lines of a schedule; no other text is that of a run in which the links answered the same, and of which the same is
-- said of what they took; where the links given back tell all that they took, gave and answered, no other text is possible: whatever the links of that run are offered
abbrev pub IsOnlyText : Type 0 → List LinkEnd → List Item → List Turn → List ℕ → Type 0
IsOnlyText offering ends script turns text = (is : IsRunText offering script turns text ends)
    × ((other : List ℕ) (ends' : List LinkEnd) (run : IsRunText ⊥ script turns other ends') → run.took ≡ is.took → SameAnswers run.whole.run is.whole.run → other ≡ text)
    × (AllTell ends → (other : List ℕ) → IsRunText ⊥ script turns other ends → other ≡ text)

-- where the links are prompt and tell whether they are found closed, the text is that of a run by these lines: the setup first, then the ticks of
-- these lines, then rounds until nothing moves, then the ending, and such rounds again; each `drop` was answered `freed` or `kept` by what its own
-- steps did, and in the end all is over
abbrev pub IsTextOfRun : Links → List Item → List Turn → List ℕ → Type 0
IsTextOfRun links script turns text = links.always_ready ≡ true → links.tells → IsOnlyText links.offering links.ends script turns text

-- the text was written, or the sink failed behind a beginning of it
abbrev pub TextWritten : Output → List ℕ → ℕ → Type 0
TextWritten out text status = ((status ≡ 0) × WroteAll out text) ⊎ ((status ≡ 5) × WroteSome out text)

-- how the run of a script by these lines of a schedule ends
pub data Ran (turns : List Turn) (script : List Item) (out : Output) (links : Links) (status : ℕ) : Type 0 where
  Reported : (text : List ℕ) → IsReport links script turns text → IsTextOfRun links script turns text → TextWritten out text status → Ran turns script out links status
  MemoryRanOut : status ≡ 7 → WroteNothing out → Ran turns script out links status
  -- the links that were opened before are given back, and nothing was done with them
  OpenFailed : status ≡ 8 → HaveRisen links.faults → AreUntouched 0 links.ends → WroteNothing out → Ran turns script out links status

-- ## `run`

-- how it makes its links: over TCP to the port that is named, or else over rings
abbrev pub run_mode : Option ℕ → Mode
run_mode (Some port) = modes.Tcp port
run_mode None = modes.Ring

-- the text of a run was written, or what stood in its way is answered
abbrev pub RunTold : Result (Vec ℕ Global) OpenFault → Output → ℕ → Type 0
RunTold (Ok text) out status = TextWritten out text.items status
RunTold (Err opening.Failed) out status = (status ≡ 8) × WroteNothing out
RunTold (Err opening.NoMemory) out status = (status ≡ 7) × WroteNothing out

-- how the run of a script on threads ends, over links that are made in this mode
pub data RanOnThreads (mode : Mode) (script : List Item) (out : Output) (links : Links) (status : ℕ) : Type 0 where
  -- the place words of the run tell an order of each link, each operation has an outcome or a message with a place, and the text reports that; each answer is from
  -- a response that a link gave; each operation on sockets, each `expire` and each `join` has its cause, by what became of all others; without calls the report fits; and
  -- over links that told in the end what their other ends offered, those with the server gave the replies to what they took, and where nothing went wrong all is done
  ThreadsReported : (text : List ℕ) → IsCompleteText (links.tells_in mode ≡ true) script text links.ends → TextWritten out text status → RanOnThreads mode script out links status
  ThreadsRanOut : status ≡ 7 → WroteNothing out → RanOnThreads mode script out links status
  -- the links that were opened before are given back, and nothing was done with them
  ThreadsNotOpened : status ≡ 8 → HaveRisen links.faults → AreUntouched 0 links.ends → WroteNothing out → RanOnThreads mode script out links status

-- ## `replay`, `sim` and `run`

-- how a script that was read ends, over this sink and these links
abbrev pub ScriptEnd : Type 1
ScriptEnd = List Item → Output → Links → ℕ → Type 0

-- by the schedule that it has or is given
abbrev pub by_turns : (List Item → List Turn) → ScriptEnd
by_turns turns = λ script out links status. Ran (turns script) script out links status

-- the fault was written, or memory ran out
abbrev pub FaultWritten : Output → ℕ → ℕ → ℕ → Type 0
FaultWritten out line kind status = ((status ≡ 3) × Wrote out (fault_text line kind)) ⊎ ((status ≡ 7) × WroteNothing out)

-- `replay` and `sim` make their links in memory
abbrev pub in_memory : Mode
in_memory = modes.Loop

-- how it ends where these bytes came, over links that are made in this mode
pub data Replayed (mode : Mode) (ran : ScriptEnd) (input : Input) (out : Output) (links : Links) (bytes : List ℕ) (status : ℕ) : Type 0 where
  RanScript : IsAtEnd input.left → (script : List Item) → script_of bytes ≡ Ok script → OpenedBy mode script links status → ran script out links status → Replayed mode ran input out links bytes status
  FaultyScript : IsAtEnd input.left → (line kind : ℕ) → script_of bytes ≡ Err (line, kind) → OpenedNone links → FaultWritten out line kind status → Replayed mode ran input out links bytes status
  SourceFailed : status ≡ 4 → HaveRisen input.faults → OpenedNone links → WroteNothing out → Replayed mode ran input out links bytes status
  TooLong : status ≡ 6 → script_limit < length bytes → OpenedNone links → WroteNothing out → Replayed mode ran input out links bytes status
  NoMemory : status ≡ 7 → OpenedNone links → WroteNothing out → Replayed mode ran input out links bytes status

-- the run of what the source gives: of the input at most one byte more than a script may have is read, and where that
-- one came no other status than 6 and 7 comes
pub record ReplayedInput (mode : Mode) (ran : ScriptEnd) (input : Input) (out : Output) (links : Links) (status : ℕ) : Type 0 where
  pub bytes : List ℕ
  pub came : Consumes input.given input.left bytes
  pub most : length bytes ≤ script_limit + 1
  pub too_long : script_limit < length bytes → (status ≡ 6) ⊎ (status ≡ 7)
  pub replayed : Replayed mode ran input out links bytes status

-- ## `gen`

-- the drawn script was printed, or memory ran out before
abbrev pub Generated : ℕ → ℕ → ℕ → Output → ℕ → Type 0
Generated seed clients count out status = TextWritten out (script_text (generated seed clients count)) status ⊎ ((status ≡ 7) × WroteNothing out)

-- ## `load`

-- the text is the summary of the run of a script drawn from this seed, for so many clients with so many operations each, and has the numbers of this report
abbrev pub SumsUp : ℕ → ℕ → ℕ → List Item → List ℕ → List ℕ → Type 0
SumsUp seed clients count script whole text = (report : Report) × (whole ≡ report_text script report) × (text ≡ summary_text seed clients count (sums_of (told_of script report.outcomes)))

-- where the links are prompt and tell whether they are found closed, it is the summary of a report that `sim` with the same seed may write of the drawn script
abbrev pub IsSummary : Links → ℕ → ℕ → ℕ → List ℕ → Type 0
IsSummary links seed clients count text = let script = generated seed clients count in
    links.always_ready ≡ true → links.tells → (whole : List ℕ) × IsReport links script (drawn_turns script seed) whole × IsOnlyText links.offering links.ends script (drawn_turns script seed) whole × SumsUp seed clients count script whole text

-- how the run of the drawn script ends
pub data LoadRan (seed clients count : ℕ) (out : Output) (links : Links) (status : ℕ) : Type 0 where
  LoadSummed : (text : List ℕ) → IsSummary links seed clients count text → TextWritten out text status → LoadRan seed clients count out links status
  LoadRanOut : status ≡ 7 → WroteNothing out → LoadRan seed clients count out links status
  LoadNotOpened : status ≡ 8 → HaveRisen links.faults → AreUntouched 0 links.ends → WroteNothing out → LoadRan seed clients count out links status

pub record Loaded (seed clients count : ℕ) (out : Output) (links : Links) (status : ℕ) : Type 0 where
  pub opened : OpenedBy modes.Loop (generated seed clients count) links status
  pub ran : LoadRan seed clients count out links status

-- ## `frames`

-- what it found and left at the source and the sink
abbrev pub edges_of : Input → Output → Edges
edges_of input out = record {
  source = record { before = input.given; now = input.left; faults = input.faults.before; faults_now = input.faults.now };
  sink = record { before = out.before; now = out.now; faults = out.faults.before; faults_now = out.faults.now };
}

-- the status of each ending
abbrev pub frames_status : Result StreamEnd PrintFault → ℕ
frames_status (Ok end_.Rest) = 0
frames_status (Ok end_.Fault) = 9
frames_status (Err fault_.Source) = 4
frames_status (Err fault_.Sink) = 5
frames_status (Err fault_.TooLong) = 6
frames_status (Err fault_.NoMemory) = 7

-- the frames of the bytes that came were printed, up to the ending of this status
pub record FramesPrinted (input : Input) (out : Output) (status : ℕ) : Type 0 where
  pub ended : Result StreamEnd PrintFault
  pub numbered : status ≡ frames_status ended
  pub printed : PrintsFrames (edges_of input out) ended

-- ## `serve`

abbrev pub served_text : ℕ → ℕ → List ℕ
served_text count frames = codes "served " ++ decimal count ++ codes " frames " ++ decimal frames ++ codes "\n"

-- how it ends, where these connections were served of so many
pub data ServeEnds (count : ℕ) (served : List ServedConnection) (out : Output) (links : Links) (status : ℕ) : Type 0 where
  -- each was read to its end, or to the most that is read of one, and took the replies to all that it gave; and so many these are in all
  ServedWhole : length served ≡ count → all_whole served ≡ true → TextWritten out (served_text count (frames_of served)) status → ServeEnds count served out links status
  NotAccepted : status ≡ 8 → HaveRisen links.faults → WroteNothing out → ServeEnds count served out links status
  -- a put or a take of one failed, by its own count
  ConnectionFailed : status ≡ 8 → any_failing served ≡ true → WroteNothing out → ServeEnds count served out links status
  MetFault : status ≡ 9 → any_failing served ≡ false → any_faulty served ≡ true → WroteNothing out → ServeEnds count served out links status
  ServeRanOut : status ≡ 7 → any_failing served ≡ false → any_faulty served ≡ false → WroteNothing out → ServeEnds count served out links status

-- of so many connections these were accepted, each was served, and all were given back, in the order in which they were accepted
pub record ServedPort (count : ℕ) (out : Output) (links : Links) (status : ℕ) : Type 0 where
  pub served : List ServedConnection
  pub few : length served ≤ count
  pub each : All IsServed served
  pub accepted : links.accepted ≡ length served
  pub given_back : links.done ≡ map (λ (s : ServedConnection). s.connection) served
  pub none_opened : OpenedNone links
  pub ended : ServeEnds count served out links status

-- ## The program

-- how a command ends that waits for nobody, and what other words are told: this usage text
pub data EndsAlone (usage : List ℕ) (words : List (List ℕ)) (input : Input) (out : Output) (links : Links) (status : ℕ) : Type 0 where
  -- the words ask for no command, and nothing is read
  NoCommand : status ≡ 2 → command_of words ≡ None → input.left ≡ input.given → OpenedNone links → Wrote out usage → EndsAlone usage words input out links status
  -- they ask for a drawn script, and nothing is read
  Generates : (seed clients count : ℕ) → command_of words ≡ Some (Gen seed clients count) → input.left ≡ input.given → OpenedNone links → Generated seed clients count out status → EndsAlone usage words input out links status
  -- they ask for a summary of its run, and nothing is read
  Loads : (seed clients count : ℕ) → command_of words ≡ Some (Load seed clients count) → input.left ≡ input.given → Loaded seed clients count out links status → EndsAlone usage words input out links status
  -- they ask for the frames of the input
  PrintsInput : command_of words ≡ Some Frames → OpenedNone links → FramesPrinted input out status → EndsAlone usage words input out links status
  -- they ask for a run of the script by its own schedule
  Replays : command_of words ≡ Some Replay → ReplayedInput in_memory (by_turns schedule) input out links status → EndsAlone usage words input out links status
  -- or by one that is drawn from a seed
  Simulates : (seed : ℕ) → command_of words ≡ Some (Sim seed) → ReplayedInput in_memory (by_turns (λ script. drawn_turns script seed)) input out links status → EndsAlone usage words input out links status

-- so it ends, and no connection is accepted
pub record AnswersAlone (usage : List ℕ) (words : List (List ℕ)) (input : Input) (out : Output) (links : Links) (status : ℕ) : Type 0 where
  pub ends : EndsAlone usage words input out links status
  pub accepted_none : AcceptedNone links

-- why the program ends with a status
pub data Answers (usage : List ℕ) (words : List (List ℕ)) (input : Input) (out : Output) (links : Links) (status : ℕ) : Type 0 where
  -- the words ask for a command that waits for nobody, or for none
  Alone : AnswersAlone usage words input out links status → Answers usage words input out links status
  -- they ask for a run of the script on threads, whatever its schedule, over rings or over TCP, which are read beside its clients; no connection is accepted
  RunsOnThreads : (port : Option ℕ) → command_of words ≡ Some (Run port) → AcceptedNone links → ReplayedInput (run_mode port) (RanOnThreads (run_mode port)) input out links status → Answers usage words input out links status
  -- they ask for so many connections to be served at a port, and nothing is read
  ServesPort : (port count : ℕ) → command_of words ≡ Some (Serve port count) → input.left ≡ input.given → ServedPort count out links status → Answers usage words input out links status

-- ## The counts of the source and the linker

-- which stand still, by the status: the source's with each but 4, and the linker's with each but 8, with which they have risen
pub record CountsStand (source linker : Faults) (status : ℕ) : Type 0 where
  pub source_still : status ≢ 4 → StandStill source
  pub linker_still : status ≢ 8 → StandStill linker
