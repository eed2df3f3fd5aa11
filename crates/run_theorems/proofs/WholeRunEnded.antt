-- Where a link answers that it is closed only where its writing half is finished, all is over in the end of a run of a script that was read.
use Rattle.std.proofs.Common.{◌≡◌, ℕ, List, Ok}
use Rattle.brpc_model.specs.Items.{Item}
use Rattle.brpc_model.specs.Operations.{Turn}
use Rattle.brpc_model.specs.Script.{script_of}
use Rattle.seat_programs.specs.Tasks.{opens, plan_of}
use Rattle.seat_programs.specs.Cores.{Core}
use Rattle.seat_programs.specs.ScriptSetupToEnding.{IsRunWithCalls}
use Rattle.owed_calls.specs.call_owing.specs.LivesOfLinks.{life_of, ClosesInRun}
use Rattle.owed_calls.proofs.OwedCallsAreEnded.{run_owed_of, run_owing_end}
use Rattle.run_theorems.specs.RunIsOver.{IsAllOver}
use Rattle.run_theorems.proofs.ScriptStartsSoundly.{made}
use Rattle.run_theorems.proofs.RunReportFits.{run_is_over}

-- each life has ended, each slot is free unless its versions are used up, each id range has ended, no seat has a step left, and each link is at home
pub run_all_over : (bytes : List ℕ) (script : List Item) → script_of bytes ≡ Ok script → (turns : List Turn) (core : Core) (run : IsRunWithCalls script turns core) → ClosesInRun script turns core run → IsAllOver script core
run_all_over bytes script reads turns core run closes = let owing = run_owing_end script (made bytes script reads) turns core run closes in
    run_is_over bytes script reads turns core run (run_owed_of script (made bytes script reads) turns core run closes) (life_of (plan_of script) (opens script) core.words) owing.0 owing.1
