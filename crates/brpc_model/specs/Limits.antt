-- The sizes that a script may ask for.
use Rattle.std.specs.Prelude.{◌≡◌, ◌%◌, ◌≤◌, List, length}
use Rattle.brpc_model.specs.Items.{Item}
use Rattle.brpc_model.specs.Operations.{operations, clients, link_names, slots, requests, first_version}
use Rattle.brpc_model.specs.LinePlaceFaults.{names}

-- what is within them; the first version is even, as that of each life is
pub record KeepsLimits (script : List Item) : Type 0 where
  pub some_slots : 1 ≤ slots script
  pub slots : slots script ≤ 31
  pub links : length (link_names script) ≤ 31
  pub names : length (names script) ≤ 64
  pub operations : length (operations script) ≤ 4096
  pub some_requests : 1 ≤ requests script
  pub requests : requests script ≤ 4096
  pub first : first_version script ≤ 4294967292
  pub even : first_version script % 2 ≡ 0
  pub clients : clients script ≤ 31
