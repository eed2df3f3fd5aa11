-- What the answers say together: 2 comes exactly where the words ask for no command; with 0 no write failed; and where nothing stands in the
-- way of a report, only it and want of memory come.
use Rattle.std.proofs.Common.{◌≡◌, ◌≢◌, ℕ, ◌<◌, ◌≤◌, ◌⊎◌, inl, inr, true, List, [], ◌∷◌, ◌++◌, map, refl, length, Option, Some, None, Result, Ok, Err, ap, sym, ◌∙◌, subst, arith, length-append, append-nil}
use Rattle.std.specs.Io.KnownBytes.{Consumes}
use Rattle.brpc_eng.specs.CommandWords.{Command, Replay, Sim, Run, Gen, Load, Frames, Serve, command_of}
use Rattle.brpc_model.specs.Items.{Item}
use Rattle.brpc_model.specs.Operations.{Turn}
use Rattle.brpc_model.specs.Script.{script_of}
use Rattle.brpc_model.specs.FrameStream.{Ending, Rest, Fault, stream}
use Rattle.frame_print.specs.PrintedFrames.{frames_limit, Edges, IsRest, IsFaulty, EndsAs}
use Rattle.frame_print.specs.declared.print.StreamEnd.{StreamEnd}
use Rattle.frame_print.specs.declared.print.StreamEnd.TheVariants as end_
use Rattle.frame_print.specs.declared.print.PrintFault.{PrintFault}
use Rattle.frame_print.specs.declared.print.PrintFault.TheVariants as fault_
use Rattle.sock_io.specs.LinkHalves.{end_of}
use Rattle.sock_io.specs.declared.link.Mode.{Mode}
use Rattle.sock_io.specs.ShapeOfPuts.{ShapedState, shaped_out}
use Rattle.sock_io.specs.LinksInMemory.{MemInState, mem_in}
use Rattle.loop_link.specs.ServingFedBytes.{LoopInState, loop_in}
use Rattle.script_links.specs.OfferedLinks.{TellOffers}
use Rattle.script_run.specs.Played.{TellClosed}
use Rattle.serve_port.specs.ServingConnections.{ServedConnection}
use Rattle.brpc_eng.specs.WholeSourceRead.{script_limit, IsAtEnd}
use Rattle.brpc_eng.specs.ProgramAnswers.{HaveRisen, StandStill, AllTell, edges_of, Input, Output, Links, TextWritten, Ran, Reported, MemoryRanOut, OpenFailed, RanOnThreads, ThreadsReported, ThreadsRanOut, ThreadsNotOpened, ScriptEnd, FaultWritten, Replayed, RanScript, FaultyScript, SourceFailed, TooLong, NoMemory, Answers, Alone, AcceptedNone, EndsAlone, NoCommand, Generated, Generates, LoadRan, LoadSummed, LoadRanOut, LoadNotOpened, Loads, PrintsInput, Replays, Simulates, RunsOnThreads, ServeEnds, ServedWhole, NotAccepted, ConnectionFailed, MetFault, ServeRanOut, ServesPort, frames_status, FramesPrinted}

-- ## Status 2

not_two_written : (out : Output) (text : List ℕ) (status : ℕ) → TextWritten out text status → status ≢ 2
not_two_written out text status (inl w) = λ e. absurd (omega (arith, e, w.0))
not_two_written out text status (inr w) = λ e. absurd (omega (arith, e, w.0))

not_two_ran : (turns : List Turn) (script : List Item) (out : Output) (links : Links) (status : ℕ) → Ran turns script out links status → status ≢ 2
not_two_ran turns script out links status (Reported text fits of_run wrote) = not_two_written out text status wrote
not_two_ran turns script out links status (MemoryRanOut s wrote) = λ e. absurd (omega (arith, e, s))
not_two_ran turns script out links status (OpenFailed s rose back wrote) = λ e. absurd (omega (arith, e, s))

not_two_threads : {mode : Mode} (script : List Item) (out : Output) (links : Links) (status : ℕ) → RanOnThreads mode script out links status → status ≢ 2
not_two_threads script out links status (ThreadsReported text is wrote) = not_two_written out text status wrote
not_two_threads script out links status (ThreadsRanOut s wrote) = λ e. absurd (omega (arith, e, s))
not_two_threads script out links status (ThreadsNotOpened s rose back wrote) = λ e. absurd (omega (arith, e, s))

not_two_fault : (out : Output) (line kind status : ℕ) → FaultWritten out line kind status → status ≢ 2
not_two_fault out line kind status (inl w) = λ e. absurd (omega (arith, e, w.0))
not_two_fault out line kind status (inr w) = λ e. absurd (omega (arith, e, w.0))

not_two : {mode : Mode} (ran : ScriptEnd) (input : Input) (out : Output) (links : Links) (bytes : List ℕ) (status : ℕ) → ((script : List Item) → ran script out links status → status ≢ 2) → Replayed mode ran input out links bytes status → status ≢ 2
not_two ran input out links bytes status runs (RanScript end script is opened ended) = runs script ended
not_two ran input out links bytes status runs (FaultyScript end line kind is back wrote) = not_two_fault out line kind status wrote
not_two ran input out links bytes status runs (SourceFailed s rose back wrote) = λ e. absurd (omega (arith, e, s))
not_two ran input out links bytes status runs (TooLong s long back wrote) = λ e. absurd (omega (arith, e, s))
not_two ran input out links bytes status runs (NoMemory s back wrote) = λ e. absurd (omega (arith, e, s))

not_two_made : (seed clients count : ℕ) (out : Output) (status : ℕ) → Generated seed clients count out status → status ≢ 2
not_two_made seed clients count out status (inl w) = not_two_written out _ status w
not_two_made seed clients count out status (inr w) = λ e. absurd (omega (arith, e, w.0))

not_two_loaded : (seed clients count : ℕ) (out : Output) (links : Links) (status : ℕ) → LoadRan seed clients count out links status → status ≢ 2
not_two_loaded seed clients count out links status (LoadSummed text is wrote) = not_two_written out text status wrote
not_two_loaded seed clients count out links status (LoadRanOut s wrote) = λ e. absurd (omega (arith, e, s))
not_two_loaded seed clients count out links status (LoadNotOpened s rose back wrote) = λ e. absurd (omega (arith, e, s))

not_two_ended : (ended : Result StreamEnd PrintFault) (status : ℕ) → status ≡ frames_status ended → status ≢ 2
not_two_ended (Ok end_.Rest) status s = λ e. absurd (omega (arith, e, s))
not_two_ended (Ok end_.Fault) status s = λ e. absurd (omega (arith, e, s))
not_two_ended (Err fault_.Source) status s = λ e. absurd (omega (arith, e, s))
not_two_ended (Err fault_.Sink) status s = λ e. absurd (omega (arith, e, s))
not_two_ended (Err fault_.TooLong) status s = λ e. absurd (omega (arith, e, s))
not_two_ended (Err fault_.NoMemory) status s = λ e. absurd (omega (arith, e, s))

not_two_served : (count : ℕ) (served : List ServedConnection) (out : Output) (links : Links) (status : ℕ) → ServeEnds count served out links status → status ≢ 2
not_two_served count served out links status (ServedWhole all whole wrote) = not_two_written out _ status wrote
not_two_served count served out links status (NotAccepted s rose wrote) = λ e. absurd (omega (arith, e, s))
not_two_served count served out links status (ConnectionFailed s failing wrote) = λ e. absurd (omega (arith, e, s))
not_two_served count served out links status (MetFault s fine faulty wrote) = λ e. absurd (omega (arith, e, s))
not_two_served count served out links status (ServeRanOut s fine clean wrote) = λ e. absurd (omega (arith, e, s))

alone_exactly : (usage : List ℕ) (words : List (List ℕ)) (input : Input) (out : Output) (links : Links) (status : ℕ) → EndsAlone usage words input out links status →
    (status ≡ 2 → command_of words ≡ None) × (command_of words ≡ None → status ≡ 2)
alone_exactly usage words input out links status (NoCommand s none same back wrote) = (λ e. none, λ e. s)
alone_exactly usage words input out links status (Generates seed clients count is same back made) = (λ e. absurd (not_two_made seed clients count out status made e), λ e. absurd (cc))
alone_exactly usage words input out links status (Loads seed clients count is same made) = (λ e. absurd (not_two_loaded seed clients count out links status made.ran e), λ e. absurd (cc))
alone_exactly usage words input out links status (PrintsInput is back printed) = (λ e. absurd (not_two_ended printed.ended status printed.numbered e), λ e. absurd (cc))
alone_exactly usage words input out links status (Replays is replayed) = (λ e. absurd (not_two _ input out links replayed.bytes status (λ script ran. not_two_ran _ script out links status ran) replayed.replayed e), λ e. absurd (cc))
alone_exactly usage words input out links status (Simulates seed is replayed) = (λ e. absurd (not_two _ input out links replayed.bytes status (λ script ran. not_two_ran _ script out links status ran) replayed.replayed e), λ e. absurd (cc))

-- the words ask for no command exactly where the status is 2
pub usage_exactly : (usage : List ℕ) (words : List (List ℕ)) (input : Input) (out : Output) (links : Links) (status : ℕ) → Answers usage words input out links status →
    (status ≡ 2 → command_of words ≡ None) × (command_of words ≡ None → status ≡ 2)
usage_exactly usage words input out links status (Alone alone) = alone_exactly usage words input out links status alone.ends
usage_exactly usage words input out links status (RunsOnThreads port is none replayed) =
    (λ e. absurd (not_two _ input out links replayed.bytes status (λ script ran. not_two_threads script out links status ran) replayed.replayed e), λ e. absurd (cc))
usage_exactly usage words input out links status (ServesPort port count is same served) = (λ e. absurd (not_two_served count served.served out links status served.ended e), λ e. absurd (cc))

-- ## Connections

-- words that don't ask for a port to be served have none accepted
pub accepts_none : (usage : List ℕ) (words : List (List ℕ)) (input : Input) (out : Output) (links : Links) (status : ℕ) → Answers usage words input out links status →
    ((port count : ℕ) → command_of words ≢ Some (Serve port count)) → AcceptedNone links
accepts_none usage words input out links status (Alone alone) other = alone.accepted_none
accepts_none usage words input out links status (RunsOnThreads port is none replayed) other = none
accepts_none usage words input out links status (ServesPort port count is same served) other = absurd (other port count is)

-- ## A report, or want of memory

-- what came is a beginning of what was given, and all of it at the end
came_few : (given bytes : List ℕ) (left : Option (List ℕ)) → Consumes (Some given) left bytes → length bytes ≤ length given
came_few given bytes None h = absurd h
came_few given bytes (Some rest) h = omega (arith, ap length h ∙ length-append bytes rest)

came_all : (given bytes : List ℕ) (left : Option (List ℕ)) → Consumes (Some given) left bytes → IsAtEnd left → bytes ≡ given
came_all given bytes None h end = absurd h
came_all given bytes (Some rest) h end = sym (h ∙ ap (λ x. bytes ++ x) end ∙ append-nil bytes)

-- no count of faults rose
pub record IsCalm (input : Input) (out : Output) (links : Links) : Type 0 where
  pub source : HaveRisen input.faults → ⊥
  pub sink : HaveRisen out.faults → ⊥
  pub linker : HaveRisen links.faults → ⊥

calm_written : (out : Output) (text : List ℕ) (status : ℕ) → (HaveRisen out.faults → ⊥) → TextWritten out text status → status ≡ 0
calm_written out text status calm (inl w) = w.0
calm_written out text status calm (inr w) = absurd (calm w.1.0)

calm_ran : (turns : List Turn) (script : List Item) (input : Input) (out : Output) (links : Links) (status : ℕ) → IsCalm input out links → Ran turns script out links status → (status ≡ 0) ⊎ (status ≡ 7)
calm_ran turns script input out links status calm (Reported text fits of_run wrote) = inl (calm_written out text status calm.sink wrote)
calm_ran turns script input out links status calm (MemoryRanOut s wrote) = inr s
calm_ran turns script input out links status calm (OpenFailed s rose back wrote) = absurd (calm.linker rose)

calm_threads : {mode : Mode} (script : List Item) (input : Input) (out : Output) (links : Links) (status : ℕ) → IsCalm input out links → RanOnThreads mode script out links status → (status ≡ 0) ⊎ (status ≡ 7)
calm_threads script input out links status calm (ThreadsReported text is wrote) = inl (calm_written out text status calm.sink wrote)
calm_threads script input out links status calm (ThreadsRanOut s wrote) = inr s
calm_threads script input out links status calm (ThreadsNotOpened s rose back wrote) = absurd (calm.linker rose)

calm_replayed : {mode : Mode} (ran : ScriptEnd) (script : List Item) (given : List ℕ) (input : Input) (out : Output) (links : Links) (bytes : List ℕ) (status : ℕ) → IsCalm input out links → Consumes (Some given) input.left bytes →
    length given ≤ script_limit → script_of given ≡ Ok script → ((read : List Item) → read ≡ script → ran read out links status → (status ≡ 0) ⊎ (status ≡ 7)) → Replayed mode ran input out links bytes status → (status ≡ 0) ⊎ (status ≡ 7)
calm_replayed ran script given input out links bytes status calm came few is runs (RanScript end read is' opened ended) =
    let same : script_of bytes ≡ Ok script = ap script_of (came_all given bytes input.left came end) ∙ is in
    let one : Ok read ≡ Ok script = sym is' ∙ same in
    let alike : read ≡ script = cc in runs read alike ended
calm_replayed ran script given input out links bytes status calm came few is runs (FaultyScript end line kind is' back wrote) =
    let same : script_of bytes ≡ Ok script = ap script_of (came_all given bytes input.left came end) ∙ is in absurd (cc)
calm_replayed ran script given input out links bytes status calm came few is runs (SourceFailed s rose back wrote) = absurd (calm.source rose)
calm_replayed ran script given input out links bytes status calm came few is runs (TooLong s long back wrote) = absurd (omega (arith, long, few, came_few given bytes input.left came))
calm_replayed ran script given input out links bytes status calm came few is runs (NoMemory s back wrote) = inr s

-- a command that runs the script that comes
abbrev RunsScript : Command → Type 0
RunsScript Replay = Unit {0}
RunsScript (Sim seed) = Unit {0}
RunsScript (Run port) = Unit {0}
RunsScript other = ⊥

alone_comes : (script : List Item) (given : List ℕ) (usage : List ℕ) (words : List (List ℕ)) (input : Input) (out : Output) (links : Links) (status : ℕ) (command : Command) → EndsAlone usage words input out links status →
    command_of words ≡ Some command → RunsScript command → input.given ≡ Some given → length given ≤ script_limit → script_of given ≡ Ok script → IsCalm input out links →
    (status ≡ 0) ⊎ (status ≡ 7)
alone_comes script given usage words input out links status command (NoCommand s none same back wrote) asked runs told few is calm = absurd (cc)
alone_comes script given usage words input out links status command (Generates seed clients count named same back made) asked runs told few is calm =
    let one : Some (Gen seed clients count) ≡ Some command = sym named ∙ asked in
    let alike : Gen seed clients count ≡ command = cc in absurd (subst RunsScript (sym alike) runs)
alone_comes script given usage words input out links status command (Loads seed clients count named same made) asked runs told few is calm =
    let one : Some (Load seed clients count) ≡ Some command = sym named ∙ asked in
    let alike : Load seed clients count ≡ command = cc in absurd (subst RunsScript (sym alike) runs)
alone_comes script given usage words input out links status command (PrintsInput named back printed) asked runs told few is calm =
    let one : Some Frames ≡ Some command = sym named ∙ asked in
    let alike : Frames ≡ command = cc in absurd (subst RunsScript (sym alike) runs)
alone_comes script given usage words input out links status command (Replays named replayed) asked runs told few is calm =
    let P : Option (List ℕ) → Type 0 = λ x. Consumes x input.left replayed.bytes in
    calm_replayed _ script given input out links replayed.bytes status calm (subst P told replayed.came) few is (λ read alike ran. calm_ran _ read input out links status calm ran) replayed.replayed
alone_comes script given usage words input out links status command (Simulates seed named replayed) asked runs told few is calm =
    let P : Option (List ℕ) → Type 0 = λ x. Consumes x input.left replayed.bytes in
    calm_replayed _ script given input out links replayed.bytes status calm (subst P told replayed.came) few is (λ read alike ran. calm_ran _ read input out links status calm ran) replayed.replayed

-- `replay`, `sim` and `run` of a script, whatever its lines, end with its report or for want of memory, where there is no fault of the outside
pub report_comes : (script : List Item) (given : List ℕ) (usage : List ℕ) (words : List (List ℕ)) (input : Input) (out : Output) (links : Links) (status : ℕ) (command : Command) → Answers usage words input out links status →
    command_of words ≡ Some command → RunsScript command → input.given ≡ Some given → length given ≤ script_limit → script_of given ≡ Ok script → IsCalm input out links →
    (status ≡ 0) ⊎ (status ≡ 7)
report_comes script given usage words input out links status command (Alone alone) asked runs told few is calm = alone_comes script given usage words input out links status command alone.ends asked runs told few is calm
report_comes script given usage words input out links status command (RunsOnThreads port named none replayed) asked runs told few is calm =
    let P : Option (List ℕ) → Type 0 = λ x. Consumes x input.left replayed.bytes in
    calm_replayed _ script given input out links replayed.bytes status calm (subst P told replayed.came) few is (λ read alike ran. calm_threads read input out links status calm ran) replayed.replayed
report_comes script given usage words input out links status command (ServesPort port count named same served) asked runs told few is calm =
    let one : Some (Serve port count) ≡ Some command = sym named ∙ asked in
    let alike : Serve port count ≡ command = cc in absurd (subst RunsScript (sym alike) runs)

-- ## Status 0

still_written : (out : Output) (text : List ℕ) (status : ℕ) → TextWritten out text status → status ≡ 0 → StandStill out.faults
still_written out text status (inl w) e = w.1.1
still_written out text status (inr w) e = absurd (omega (arith, e, w.0))

still_ran : (turns : List Turn) (script : List Item) (out : Output) (links : Links) (status : ℕ) → Ran turns script out links status → status ≡ 0 → StandStill out.faults
still_ran turns script out links status (Reported text fits of_run wrote) e = still_written out text status wrote e
still_ran turns script out links status (MemoryRanOut s wrote) e = wrote.1
still_ran turns script out links status (OpenFailed s rose back wrote) e = wrote.1

still_faulty : (out : Output) (line kind status : ℕ) → FaultWritten out line kind status → status ≡ 0 → StandStill out.faults
still_faulty out line kind status (inl w) e = absurd (omega (arith, e, w.0))
still_faulty out line kind status (inr w) e = w.1.1

still_threads : {mode : Mode} (script : List Item) (out : Output) (links : Links) (status : ℕ) → RanOnThreads mode script out links status → status ≡ 0 → StandStill out.faults
still_threads script out links status (ThreadsReported text is wrote) e = still_written out text status wrote e
still_threads script out links status (ThreadsRanOut s wrote) e = wrote.1
still_threads script out links status (ThreadsNotOpened s rose back wrote) e = wrote.1

still_replayed : {mode : Mode} (ran : ScriptEnd) (input : Input) (out : Output) (links : Links) (bytes : List ℕ) (status : ℕ) → ((script : List Item) → ran script out links status → status ≡ 0 → StandStill out.faults) → Replayed mode ran input out links bytes status → status ≡ 0 → StandStill out.faults
still_replayed ran input out links bytes status runs (RanScript end script is opened ended) e = runs script ended e
still_replayed ran input out links bytes status runs (FaultyScript end line kind is back wrote) e = still_faulty out line kind status wrote e
still_replayed ran input out links bytes status runs (SourceFailed s rose back wrote) e = wrote.1
still_replayed ran input out links bytes status runs (TooLong s long back wrote) e = wrote.1
still_replayed ran input out links bytes status runs (NoMemory s back wrote) e = wrote.1

still_loaded : (seed clients count : ℕ) (out : Output) (links : Links) (status : ℕ) → LoadRan seed clients count out links status → status ≡ 0 → StandStill out.faults
still_loaded seed clients count out links status (LoadSummed text is wrote) e = still_written out text status wrote e
still_loaded seed clients count out links status (LoadRanOut s wrote) e = wrote.1
still_loaded seed clients count out links status (LoadNotOpened s rose back wrote) e = wrote.1

still_ended : (input : Input) (out : Output) (bytes : List ℕ) (ended : Result StreamEnd PrintFault) (status : ℕ) → status ≡ frames_status ended → EndsAs (edges_of input out) bytes ended → status ≡ 0 → StandStill out.faults
still_ended input out bytes (Ok end_.Rest) status s h e = h.kept
still_ended input out bytes (Ok end_.Fault) status s h e = absurd (omega (arith, e, s))
still_ended input out bytes (Err fault_.Source) status s h e = absurd (omega (arith, e, s))
still_ended input out bytes (Err fault_.Sink) status s h e = absurd (omega (arith, e, s))
still_ended input out bytes (Err fault_.TooLong) status s h e = absurd (omega (arith, e, s))
still_ended input out bytes (Err fault_.NoMemory) status s h e = absurd (omega (arith, e, s))

still_served : (count : ℕ) (served : List ServedConnection) (out : Output) (links : Links) (status : ℕ) → ServeEnds count served out links status → status ≡ 0 → StandStill out.faults
still_served count served out links status (ServedWhole all whole wrote) e = still_written out _ status wrote e
still_served count served out links status (NotAccepted s rose wrote) e = wrote.1
still_served count served out links status (ConnectionFailed s failing wrote) e = wrote.1
still_served count served out links status (MetFault s fine faulty wrote) e = wrote.1
still_served count served out links status (ServeRanOut s fine clean wrote) e = wrote.1

none_failed_alone : (usage : List ℕ) (words : List (List ℕ)) (input : Input) (out : Output) (links : Links) (status : ℕ) → EndsAlone usage words input out links status → status ≡ 0 → StandStill out.faults
none_failed_alone usage words input out links status (NoCommand s none same back wrote) e = absurd (omega (arith, e, s))
none_failed_alone usage words input out links status (Generates seed clients count named same back (inl w)) e = still_written out _ status w e
none_failed_alone usage words input out links status (Generates seed clients count named same back (inr w)) e = w.1.1
none_failed_alone usage words input out links status (Loads seed clients count named same made) e = still_loaded seed clients count out links status made.ran e
none_failed_alone usage words input out links status (PrintsInput named back printed) e = still_ended input out printed.printed.bytes printed.ended status printed.numbered printed.printed.ended e
none_failed_alone usage words input out links status (Replays named replayed) e = still_replayed _ input out links replayed.bytes status (λ script ran e. still_ran _ script out links status ran e) replayed.replayed e
none_failed_alone usage words input out links status (Simulates seed named replayed) e = still_replayed _ input out links replayed.bytes status (λ script ran e. still_ran _ script out links status ran e) replayed.replayed e

-- with 0 the sink's count stands still
pub no_write_failed : (usage : List ℕ) (words : List (List ℕ)) (input : Input) (out : Output) (links : Links) (status : ℕ) → Answers usage words input out links status → status ≡ 0 → StandStill out.faults
no_write_failed usage words input out links status (Alone alone) e = none_failed_alone usage words input out links status alone.ends e
no_write_failed usage words input out links status (RunsOnThreads port named none replayed) e = still_replayed _ input out links replayed.bytes status (λ script ran e. still_threads script out links status ran e) replayed.replayed e
no_write_failed usage words input out links status (ServesPort port count named same served) e = still_served count served.served out links status served.ended e

-- ## One text

-- the links in memory tell all that they took and answered: so over them no other text is possible than the one that is written
pub memory_tells : {E : Type 0} (out : E → ShapedState) (inn : E → MemInState) (es : List E) → AllTell (map (λ (e : E). end_of (shaped_out (out e)) (mem_in (inn e))) es)
memory_tells out inn [] = tt
memory_tells out inn (e ∷ es) = (record { took = refl; answers = refl; gave = refl; takes = refl }, memory_tells out inn es)

-- and each reading half in memory tells whether it is found closed
pub memory_tells_closed : TellClosed mem_in
memory_tells_closed inn = (λ e. cc, λ e. cc)

-- the same of those whose other end is the built-in server
pub served_tells : {E : Type 0} (out : E → ShapedState) (inn : E → LoopInState) (es : List E) → AllTell (map (λ (e : E). end_of (shaped_out (out e)) (loop_in (inn e))) es)
served_tells out inn [] = tt
served_tells out inn (e ∷ es) = (record { took = refl; answers = refl; gave = refl; takes = refl }, served_tells out inn es)

pub served_tells_closed : TellClosed loop_in
served_tells_closed inn = (λ e. cc, λ e. cc)

-- and these tell what they took, gave and are offered, and all go by their shapes: so what is served over them is claimed, and how they answer
pub served_tells_offers : TellOffers (λ asked. true) shaped_out loop_in
served_tells_offers = ((λ out e. cc), λ inn. (λ e. cc, λ e. cc), refl)

-- ## The statuses of `frames`

too_long_ended : (edges : Edges) (bytes : List ℕ) (ended : Result StreamEnd PrintFault) (status : ℕ) → status ≡ frames_status ended → EndsAs edges bytes ended →
    (status ≡ 6 → frames_limit < length bytes) × (frames_limit < length bytes → status ≡ 6)
too_long_ended edges bytes (Ok end_.Rest) status s h = (λ e. absurd (omega (arith, e, s)), λ l. absurd (omega (arith, l, h.few)))
too_long_ended edges bytes (Ok end_.Fault) status s h = (λ e. absurd (omega (arith, e, s)), λ l. absurd (omega (arith, l, h.few)))
too_long_ended edges bytes (Err fault_.Source) status s h = (λ e. absurd (omega (arith, e, s)), λ l. absurd (omega (arith, l, h.few)))
too_long_ended edges bytes (Err fault_.Sink) status s h = (λ e. absurd (omega (arith, e, s)), λ l. absurd (omega (arith, l, h.few)))
too_long_ended edges bytes (Err fault_.TooLong) status s h = (λ e. omega (arith, h.long), λ l. s)
too_long_ended edges bytes (Err fault_.NoMemory) status s h = (λ e. absurd (omega (arith, e, s)), λ l. absurd (omega (arith, l, h.few)))

-- 6 comes exactly where more bytes came than the limit
pub too_long_exactly : (input : Input) (out : Output) (status : ℕ) → (printed : FramesPrinted input out status) →
    (status ≡ 6 → frames_limit < length printed.printed.bytes) × (frames_limit < length printed.printed.bytes → status ≡ 6)
too_long_exactly input out status printed = too_long_ended _ printed.printed.bytes printed.ended status printed.numbered printed.printed.ended

not_both : (e : Ending) → IsRest e → IsFaulty e → ⊥
not_both (Rest n) r f = f
not_both (Fault start fault) r f = r

faulty_ended : (edges : Edges) (bytes : List ℕ) (ended : Result StreamEnd PrintFault) (status : ℕ) → status ≡ frames_status ended → length bytes ≤ frames_limit → EndsAs edges bytes ended →
    (status ≡ 9 → IsFaulty (stream bytes).ending) × (IsFaulty (stream bytes).ending → (status ≡ 9) ⊎ (status ≡ 7))
faulty_ended edges bytes (Ok end_.Rest) status s few h = (λ e. absurd (omega (arith, e, s)), λ f. absurd (not_both (stream bytes).ending h.ending f))
faulty_ended edges bytes (Ok end_.Fault) status s few h = (λ e. h.ending, λ f. inl s)
faulty_ended edges bytes (Err fault_.Source) status s few h = (λ e. absurd (omega (arith, e, s)), λ f. absurd (not_both (stream bytes).ending h.ending f))
faulty_ended edges bytes (Err fault_.Sink) status s few h = (λ e. absurd (omega (arith, e, s)), λ f. absurd (not_both (stream bytes).ending h.ending f))
faulty_ended edges bytes (Err fault_.TooLong) status s few h = absurd (omega (arith, few, h.long))
faulty_ended edges bytes (Err fault_.NoMemory) status s few h = (λ e. absurd (omega (arith, e, s)), λ f. inr s)

-- 9 comes exactly where the bytes have a fault, unless memory ran out
pub faulty_exactly : (input : Input) (out : Output) (status : ℕ) → (printed : FramesPrinted input out status) → length printed.printed.bytes ≤ frames_limit →
    (status ≡ 9 → IsFaulty (stream printed.printed.bytes).ending) × (IsFaulty (stream printed.printed.bytes).ending → (status ≡ 9) ⊎ (status ≡ 7))
faulty_exactly input out status printed few = faulty_ended _ printed.printed.bytes printed.ended status printed.numbered few printed.printed.ended
