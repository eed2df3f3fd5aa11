-- How `replay` ends, by what its calls say.
use Rattle.std.proofs.Common.{◌≡◌, ◌≢◌, Bool, true, false, unwrap_or, is_some, IfSome, IfNone, ℕ, ◌≤◌, inl, inr, List, length, Option, Some, None, Vec, Result, Ok, Err, IsErrOf, refl, ap, sym, ◌∙◌, subst, arith, option_map}
use Rattle.std.specs.declared.alloc.Global.{Global}
use Rattle.brpc_model.specs.Items.{Item}
use Rattle.brpc_model.specs.Script.{script_of}
use Rattle.brpc_eng.specs.CommandWords as model
use Rattle.brpc_eng.specs.declared.commands.Command.{Command}
use Rattle.brpc_eng.specs.declared.draw.Draw.{Draw}
use Rattle.brpc_eng.specs.declared.commands.Command.TheVariants.{Sim, Gen, Load, Frames}
use Rattle.brpc_eng.specs.declared.commands.Waiting.{Waiting}
use Rattle.brpc_eng.specs.declared.commands.Waiting.TheVariants.{Run, Serve}
use Rattle.sock_io.specs.declared.link.Mode.{Mode}
use Rattle.seat_programs.specs.ScriptSetupToEnding.{drawn_turns}
use Rattle.brpc_eng.specs.Command.{meaning, waiting_meaning}
use Rattle.brpc_eng.specs.WholeSourceRead.{script_limit, IsAtEnd, ReadWhole}
use Rattle.brpc_eng.specs.declared.input.NoScript.{NoScript}
use Rattle.brpc_eng.specs.declared.input.NoScript.TheVariants.{Unread, Faulty}
use Rattle.brpc_eng.specs.declared.streams.InputFault.{InputFault}
use Rattle.brpc_eng.specs.declared.streams.InputFault.TheVariants as unread
use Rattle.brpc_eng.specs.Input.{CameAs, NoScriptTold}
use Rattle.brpc_eng.specs.ProgramAnswers as answer
use Rattle.frame_print.specs.PrintedFrames.{Edges, PrintsFrames}
use Rattle.frame_print.specs.declared.print.StreamEnd.{StreamEnd}
use Rattle.frame_print.specs.declared.print.StreamEnd.TheVariants as end_
use Rattle.frame_print.specs.declared.print.PrintFault.{PrintFault}
use Rattle.frame_print.specs.declared.print.PrintFault.TheVariants as fault_

-- ## A script that was read

pub fault_written : (out : answer.Output) (line kind : ℕ) (text : List ℕ) → text ≡ answer.fault_text line kind → answer.Wrote out text → answer.FaultWritten out line kind 3
fault_written out line kind text e wrote = let P : List ℕ → Type 0 = λ x. answer.Wrote out x in inl (refl, subst P e wrote)

-- where the whole input was read, it is within its limit
within_limit : (given left : Option (List ℕ)) (bytes : List ℕ) (read : Vec ℕ Global) → ReadWhole given left bytes (Ok read) → length bytes ≤ script_limit
within_limit given left bytes read whole = whole.within (λ e. absurd (cc)) (λ e. absurd (cc))

-- ## The input

-- the bytes that came are those that were read as a script
came_is : (given left : Option (List ℕ)) (bytes seen : List ℕ) (read : Vec ℕ Global) → ReadWhole given left bytes (Ok read) → seen ≡ read.items → seen ≡ bytes
came_is given left bytes seen read whole e = e ∙ whole.whole.0

pub read_few : (given left : Option (List ℕ)) (bytes seen : List ℕ) (read : Vec ℕ Global) → ReadWhole given left bytes (Ok read) → seen ≡ read.items → length seen ≤ script_limit
read_few given left bytes seen read whole e = let few = within_limit given left bytes read whole in let long = ap length (e ∙ whole.whole.0) in omega (arith, few, long)

pub read_as : (given left : Option (List ℕ)) (bytes seen : List ℕ) (read : Vec ℕ Global) (says : Result (List Item) (ℕ × ℕ)) → ReadWhole given left bytes (Ok read) → seen ≡ read.items → script_of seen ≡ says →
    IsAtEnd left × (length bytes ≤ script_limit) × (script_of bytes ≡ says)
read_as given left bytes seen read says whole s e = (whole.whole.1, within_limit given left bytes read whole, ap script_of (sym (came_is given left bytes seen read whole s)) ∙ e)

pub came_unread : (given left : Option (List ℕ)) (bytes : List ℕ) (fault : InputFault) → ReadWhole given left bytes (Err fault) → CameAs given left (Err (Unread fault))
came_unread given left bytes unread.Failed whole = record { bytes = bytes; came = whole.came; is = whole.within (λ e. cc) (λ e. cc) }
came_unread given left bytes unread.TooLong whole = record { bytes = bytes; came = whole.came; is = whole.too_long refl }
came_unread given left bytes unread.NoMemory whole = record { bytes = bytes; came = whole.came; is = whole.most }

-- a script was run
pub replays_read : {mode : Mode} (ran : answer.ScriptEnd) (input : answer.Input) (out : answer.Output) (links : answer.Links) (status : ℕ) (script : List Item) → CameAs input.given input.left (Ok script) →
    answer.OpenedBy mode script links status → ran script out links status → answer.ReplayedInput mode ran input out links status
replays_read ran input out links status script came opened ended =
    let few = came.is.1 in
    record { bytes = came.bytes; came = came.came; most = omega (arith, few); too_long = λ long. absurd (omega (arith, long, few)); replayed = answer.RanScript came.is.0 script came.is.2 opened ended }

-- there was none to run
pub replays_none : {mode : Mode} (ran : answer.ScriptEnd) (input : answer.Input) (out : answer.Output) (links : answer.Links) (status : ℕ) (fault : NoScript) → CameAs input.given input.left (Err fault) →
    (IsErrOf {T = List Item} (Err fault) (Unread unread.Failed) → answer.HaveRisen input.faults) → answer.OpenedNone links → NoScriptTold fault out status → answer.ReplayedInput mode ran input out links status
replays_none ran input out links status (Faulty line kind) came failed none_ told =
    let few = came.is.1 in
    record { bytes = came.bytes; came = came.came; most = omega (arith, few); too_long = λ long. absurd (omega (arith, long, few)); replayed = answer.FaultyScript came.is.0 line kind came.is.2 none_ told }
replays_none ran input out links status (Unread unread.Failed) came failed none_ told =
    let few = came.is in
    record { bytes = came.bytes; came = came.came; most = omega (arith, few); too_long = λ long. absurd (omega (arith, long, few)); replayed = answer.SourceFailed told.0 (failed refl) none_ told.1 }
replays_none ran input out links status (Unread unread.TooLong) came failed none_ told =
    let all = came.is in
    record { bytes = came.bytes; came = came.came; most = omega (arith, all); too_long = λ long. inl told.0; replayed = answer.TooLong told.0 (omega (arith, all)) none_ told.1 }
replays_none ran input out links status (Unread unread.NoMemory) came failed none_ told =
    record { bytes = came.bytes; came = came.came; most = came.is; too_long = λ long. inr told.0; replayed = answer.NoMemory told.0 none_ told.1 }

-- ## The words

-- what may wait is what words that ask for it mean
pub waiting_waits : (words : List (List ℕ)) (waiting : Waiting) → model.command_of words ≡ Some (waiting_meaning waiting) → model.asks_to_wait words ≡ true
waiting_waits words (Run port) e = ap (λ c. unwrap_or (option_map model.waits c) false) e
waiting_waits words (Serve doors) e = ap (λ c. unwrap_or (option_map model.waits c) false) e

pub asked_is : (words : List (List ℕ)) (found : Option Waiting) → IfSome found (λ waiting. model.command_of words ≡ Some (waiting_meaning waiting)) → IfNone found (model.asks_to_wait words ≡ false) → is_some found ≡ model.asks_to_wait words
asked_is words None some_ none_ = sym none_
asked_is words (Some waiting) some_ none_ = sym (waiting_waits words waiting some_)

-- a drawn script
pub drawn_command : (usage : List ℕ) (words : List (List ℕ)) (input : answer.Input) (out : answer.Output) (links : answer.Links) (status : ℕ) (command : Command) (draw : Draw) → option_map meaning (Some command) ≡ model.command_of words → command ≡ Gen draw →
    input.left ≡ input.given → answer.OpenedNone links → answer.Generated draw.seed draw.clients draw.operations out status → answer.EndsAlone usage words input out links status
drawn_command usage words input out links status command draw e is same back made =
    answer.Generates draw.seed draw.clients draw.operations (sym e ∙ ap (λ c. option_map meaning (Some c)) is) same back made

-- a summary of its run
pub load_command : (usage : List ℕ) (words : List (List ℕ)) (input : answer.Input) (out : answer.Output) (links : answer.Links) (status : ℕ) (command : Command) (draw : Draw) → option_map meaning (Some command) ≡ model.command_of words → command ≡ Load draw →
    input.left ≡ input.given → answer.Loaded draw.seed draw.clients draw.operations out links status → answer.EndsAlone usage words input out links status
load_command usage words input out links status command draw e is same made =
    answer.Loads draw.seed draw.clients draw.operations (sym e ∙ ap (λ c. option_map meaning (Some c)) is) same made

-- the frames of the input
pub frames_command : (usage : List ℕ) (words : List (List ℕ)) (input : answer.Input) (out : answer.Output) (links : answer.Links) (status : ℕ) (command : Command) → option_map meaning (Some command) ≡ model.command_of words → command ≡ Frames →
    answer.OpenedNone links → answer.FramesPrinted input out status → answer.EndsAlone usage words input out links status
frames_command usage words input out links status command e is back printed = answer.PrintsInput (sym e ∙ ap (λ c. option_map meaning (Some c)) is) back printed

-- a simulation
pub simulated : (usage : List ℕ) (words : List (List ℕ)) (input : answer.Input) (out : answer.Output) (links : answer.Links) (status : ℕ) (command : Command) (seed drawn : ℕ) → option_map meaning (Some command) ≡ model.command_of words → command ≡ Sim seed →
    drawn ≡ seed → answer.ReplayedInput answer.in_memory (answer.by_turns (λ script. drawn_turns script drawn)) input out links status → answer.EndsAlone usage words input out links status
simulated usage words input out links status command seed drawn e is same replayed = answer.Simulates drawn (sym e ∙ ap (λ c. option_map meaning (Some c)) (is ∙ ap Sim (sym same))) replayed

-- a run on threads
pub threaded : (usage : List ℕ) (words : List (List ℕ)) (input : answer.Input) (out : answer.Output) (links : answer.Links) (status : ℕ) (waiting : Waiting) (port : Option ℕ) → model.command_of words ≡ Some (waiting_meaning waiting) → waiting ≡ Run port → answer.AcceptedNone links →
    answer.ReplayedInput (answer.run_mode port) (answer.RanOnThreads (answer.run_mode port)) input out links status → answer.Answers usage words input out links status
threaded usage words input out links status waiting port e is none_ replayed = answer.RunsOnThreads port (e ∙ ap (λ w. Some (waiting_meaning w)) is) none_ replayed

-- ## The frames

-- only where that is answered a read failed
not_source : (ended : Result StreamEnd PrintFault) → answer.frames_status ended ≢ 4 → ended ≢ Err fault_.Source
not_source (Ok end_.Rest) other e = cc
not_source (Ok end_.Fault) other e = cc
not_source (Err fault_.Source) other e = other refl
not_source (Err fault_.Sink) other e = cc
not_source (Err fault_.TooLong) other e = cc
not_source (Err fault_.NoMemory) other e = cc

pub reads_still : (edges : Edges) (ended : Result StreamEnd PrintFault) (status : ℕ) → status ≡ answer.frames_status ended → PrintsFrames edges ended → status ≢ 4 → edges.source.faults_now ≡ edges.source.faults
reads_still edges ended status is printed other = printed.reads (not_source ended (λ e. other (is ∙ e)))
