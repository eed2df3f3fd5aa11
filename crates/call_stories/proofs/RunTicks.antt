-- The ticks of a run by its parts: while its tables are set up, by the clients, while what is left is closed, and behind that; and what each part shows.
use Rattle.std.proofs.Common.{List, ◌++◌, replicate}
use Rattle.seat_programs.specs.brpc_model.specs.Items.{Item}
use Rattle.seat_programs.specs.brpc_model.specs.Operations.{Turn}
use Rattle.seat_programs.specs.Cores.{Core}
use Rattle.seat_programs.specs.ScriptSetupToEnding.{opened, set_up, played, ending, IsRunWithCalls}
use Rattle.seat_programs.specs.Tasks.{plan_of}
use Rattle.seat_programs.specs.Ticks.{Moment, quiet}
use Rattle.outcome_stories.specs.Facts.{shown_in}

module _ {script : List Item} {turns : List Turn} {core : Core} (is : IsRunWithCalls script turns core) where
  abbrev pub in_setup : List Moment
  in_setup = replicate is.setup (quiet 0)

  abbrev pub in_clients : List Moment
  in_clients = is.scheduled ++ is.later

  abbrev pub in_closing : List Moment
  in_closing = replicate is.last (quiet 0)

pub record Parts (A : Type 0) : Type 0 where
  pub setup : List A
  pub clients : List A
  pub closing : List A
  pub final : List A

abbrev pub parts : {A : Type 0} (shown : Core → Moment → List A) {script : List Item} {turns : List Turn} {core : Core} → IsRunWithCalls script turns core → Parts A
parts shown {script = script} is = record {
  setup = shown_in shown (plan_of script) (opened script) (in_setup is);
  clients = shown_in shown (plan_of script) (set_up script is.setup) (in_clients is);
  closing = shown_in shown (plan_of script) (ending script (played script is.setup (is.scheduled ++ is.later))) (in_closing is);
  final = shown_in shown (plan_of script) is.ended is.final;
}
