-- What links with the server gave in the run that a text reports, and that it is complete where nothing went wrong.
use Rattle.std.specs.Prelude.{ℕ, ◌≡◌, ◌≤◌, List, length, Ok}
use Rattle.brpc_model.specs.Complete.{Completeness}
use Rattle.brpc_model.specs.Items.{Item}
use Rattle.brpc_model.specs.ReturnedLink.{LinkEnd}
use Rattle.brpc_model.specs.Run.{Run, nothing_late}
use Rattle.brpc_model.specs.Script.{script_of}
use Rattle.brpc_model.specs.ServedForTakenBytes.{ServesAll}
use Rattle.script_parts.specs.served_told.specs.ServedLinksTelling.{TellBytes}
use Rattle.script_threads.specs.ServedScriptTold.{IsThreadsText}

-- the run that the text reports
abbrev pub run_of : {script : List Item} {text : List ℕ} {ends : List LinkEnd} → IsThreadsText script text ends → Run
run_of {script} {text} {ends} is = record { script = script; report = is.reported.report.report; ends = ends; late = nothing_late; story = record { fails = is.sockets.fails; gave = is.answered.gave; last = is.attempts.last } }

-- the script is what a text of at most 1,048,576 bytes says
abbrev pub IsShort : List Item → Type 0
IsShort script = (bytes : List ℕ) × (script_of bytes ≡ Ok script) × (length bytes ≤ 1048576)

-- The text reports a run of the script. Where its links with the server tell what they took and gave and whether they
-- were closed, and told in the end what their other ends offered: those whose reading met no fault gave the replies to
-- what they took, and to each call its own; and the run of a short script is complete, if nothing went wrong
pub record IsServedText (offering : Type 0) (script : List Item) (text : List ℕ) (ends : List LinkEnd) : Type 0 where
  pub is : IsThreadsText script text ends
  pub serves : offering → TellBytes script ends → ServesAll (run_of is)
  pub complete : offering → TellBytes script ends → IsShort script → Completeness (run_of is)

-- the same of a short script, whose run is complete without that premise
pub record IsCompleteText (offering : Type 0) (script : List Item) (text : List ℕ) (ends : List LinkEnd) : Type 0 where
  pub served : IsServedText offering script text ends
  pub complete : offering → TellBytes script ends → Completeness (run_of served.is)
