-- Scripts whose links have no server, and runs in which nothing comes late.
use Rattle.std.specs.Prelude.{ℕ, ◌≡◌, false, List, slice_get, Some, None, Contains}
use Rattle.brpc_model.specs.Items.{Item, Shape, Open, Send}
use Rattle.brpc_model.specs.Operations.{Operation, operations}
use Rattle.seat_programs.specs.ExplainedCalls.{Fixed}

-- no `open` of the script has `serve` or `end`
abbrev pub IsUnserved : List Item → Type 0
IsUnserved script = (name : List ℕ) (shape : Shape) → Contains script (Open name shape) → (shape.serve ≡ false) × (shape.end ≡ None)

-- no `send` had a step while the run was ending, and no link became a socket's then
pub record IsInTime (script : List Item) (fixed : Fixed) : Type 0 where
  pub none_late : (o : ℕ) (op : Operation) (name bytes : List ℕ) → slice_get (operations script) o ≡ Some op → op.item ≡ Send name bytes → Contains fixed.late o → ⊥
  pub no_late_link : (k : ℕ) → Contains fixed.late_links k → ⊥
