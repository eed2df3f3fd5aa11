-- Where no id is open as the ending begins, each client is at rest there: nobody waits for a lock, nor for the end of a call.
use Rattle.std.proofs.Common.{ℕ, ◌<◌, List, ◌++◌}
use Rattle.brpc_model.specs.Items.{Item}
use Rattle.brpc_model.specs.Operations.{Turn}
use Rattle.seat_programs.specs.Cores.{Core}
use Rattle.seat_programs.specs.ScriptSetupToEnding.{played, IsRunWithCalls}
use Rattle.offered_runs.specs.served_sizes.specs.served_calls.specs.Below.joint_runs.proofs.RunsOfBothTables.{AreMade}
use Rattle.offered_runs.specs.served_sizes.specs.served_calls.specs.Below.call_owing.specs.SettledSeats as settled
use Rattle.offered_runs.specs.served_sizes.specs.served_calls.specs.Below.accept_counts.proofs.EarlyClosedSockets.{clients_take_none}
use Rattle.offered_runs.specs.served_sizes.specs.served_calls.specs.Below.accept_counts.proofs.SeatsStandingAtEnding.{takeless_rests}
use Rattle.served_fits.specs.LatenessKnownOfRun.{NoneOpen}

module _ (script : List Item) (made : AreMade script) (turns : List Turn) (core : Core) (is : IsRunWithCalls script turns core) (none_open : NoneOpen script turns core is) where
  -- each client is at rest
  pub clients_over : (j : ℕ) → j < 32 → settled.IsAtRest (played script is.setup (is.scheduled ++ is.later)) j
  clients_over j low = takeless_rests script made turns core is (Unit {0}) (λ any. none_open) j (clients_take_none script made turns core is j low)
