-- A run in which nothing went wrong, where each link has the server: the script, the run, and what is told and reported of it.
use Rattle.std.proofs.Common.{◌≡◌, ℕ, ◌≤◌, List, length, Ok}
use Rattle.std.specs.List.{AllByRecursion}
use Rattle.std.specs.Prelude.{IsTrue, Contains}
use Rattle.brpc_model.specs.Complete.{IsUntroubled}
use Rattle.brpc_model.specs.Items.{Item, Shape, Open}
use Rattle.brpc_model.specs.ReturnedLink.{LinkEnd}
use Rattle.brpc_model.specs.Operations.{Turn}
use Rattle.brpc_model.specs.Report.{Report}
use Rattle.brpc_model.specs.Script.{script_of}
use Rattle.brpc_model.specs.PlaceWords.{AreTold}
use Rattle.served_fits.specs.Below.report_fits.specs.ScriptLinkEnds.{AreEndsOf}
use Rattle.served_fits.specs.Below.script_facts.proofs.ReadScriptFacts.{InRange}
use Rattle.served_fits.specs.Below.script_facts.proofs.ScriptSizes.{is_counted}
use Rattle.served_fits.specs.Below.script_facts.proofs.Targets.{AreThere, are_there}
use Rattle.seat_programs.specs.Cores.{Core}
use Rattle.seat_programs.specs.ScriptSetupToEnding.{Reports, all_tasks, IsRunWithCalls}
use Rattle.seat_programs.specs.Tasks.{plan_of}
use Rattle.seat_programs.specs.ExplainedCalls.{Order, Fixed, ExplainedCalls}
use Rattle.served_fits.specs.Below.outcome_stories.specs.Facts.{broken_of_run}
use Rattle.served_fits.specs.Below.joint_runs.proofs.RunsOfBothTables.{AreMade}
use Rattle.served_fits.specs.Below.call_owing.specs.LivesOfLinks.{ClosesInRun}
use Rattle.served_fits.specs.Below.run_theorems.proofs.ScriptStartsSoundly.{made}
use Rattle.served_fits.specs.Below.call_stories.specs.LinkReadingLists.{gave_in}
use Rattle.served_fits.specs.served_runs.specs.OfferedReplies.{OffersInRun}
use Rattle.served_fits.specs.served_calls.specs.QuietRuns.{AreShown}

pub record CalmRun : Type 0 where
  pub bytes : List ℕ
  pub script : List Item
  pub reads : script_of bytes ≡ Ok script
  pub short : length bytes ≤ 1048576
  pub turns : List Turn
  pub core : Core
  pub is : IsRunWithCalls script turns core
  pub closes : ClosesInRun script turns core is
  pub offers : OffersInRun script turns core is
  pub fixed : Fixed
  pub orders : ℕ → Order
  pub tells : ExplainedCalls (plan_of script) (all_tasks script) core.outcomes fixed (gave_in core) orders core
  pub report : Report
  pub took : List (List ℕ)
  pub ends : List LinkEnd
  pub reports : Reports script core took report
  pub told : AreTold ends took
  pub given_back : AreEndsOf script core fixed (gave_in core) ends
  pub shown : AreShown script turns core is fixed ends
  pub breaks : (k : ℕ) → Contains (broken_of_run script turns core is) k → Contains fixed.broken k
  pub served : (name : List ℕ) (shape : Shape) → Contains script (Open name shape) → IsTrue shape.serve
  pub untroubled : IsUntroubled script ends

module _ (calm : CalmRun) where
  open calm use {bytes, script, reads}

  abbrev pub are_made : AreMade script
  are_made = made bytes script reads

  abbrev pub targets : AreThere script
  targets = are_there bytes script reads

  abbrev pub range : AllByRecursion InRange script
  range = (is_counted bytes script reads).in_range
