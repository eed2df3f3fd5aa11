-- What a run on threads with calls begins with.
use Rattle.std.specs.Prelude.{◌≡◌, ℕ, List, ◌∷◌, map, length}
use Rattle.brpc_model.specs.Items.{Item}
use Rattle.seat_programs.specs.ScriptSetupToEnding.{all_tasks}
use Rattle.seat_programs.specs.Tasks.{plan_of, opens, calls}
use Rattle.script_parts.specs.HalvesApartAndTogether.{HasRoomFor}
use Rattle.script_parts.specs.declared.asking.Ready.{Ready}

-- the operations of all clients of the script, the setup's first, the numbers of its `open`s and calls, and room for the halves of so many links
pub record IsReady {O I P : Type 0} (script : List Item) (count : ℕ) (r : Ready O I P) : Type 0 where
  pub plan : r.plan ≡ plan_of script
  pub slots : r.slots ≡ length (calls script)
  pub tasks : r.setup.items ∷ map (λ v. v.items) r.clients.items ≡ all_tasks script
  pub opens_are : r.opens.items ≡ opens script
  pub calls_are : r.calls.items ≡ calls script
  pub halves : HasRoomFor count r.halves
