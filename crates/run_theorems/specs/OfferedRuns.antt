-- What links gave of what their other ends offer, along a whole run.
use Rattle.std.specs.Prelude.{ℕ, Bool, List, ◌++◌, Option}
use Rattle.brpc_model.specs.Items.{Item}
use Rattle.brpc_model.specs.Operations.{Turn}
use Rattle.seat_programs.specs.Cores.{Core}
use Rattle.seat_programs.specs.Tasks.{plan_of}
use Rattle.seat_programs.specs.ScriptSetupToEnding.{IsRunWithCalls, set_up}
use Rattle.run_theorems.specs.OfferedAtTakes.{AreOffered}

-- link k was asked to be the server or not, and to give its end after so many responses; the setup and the ending ask no link
pub record OffersInRun (script : List Item) (turns : List Turn) (core : Core) (is : IsRunWithCalls script turns core) (k : ℕ) (serve : Bool) (end : Option ℕ) : Type 0 where
  pub played : AreOffered (plan_of script) k serve end (set_up script is.setup) (is.scheduled ++ is.later)
  pub final : AreOffered (plan_of script) k serve end is.ended is.final
