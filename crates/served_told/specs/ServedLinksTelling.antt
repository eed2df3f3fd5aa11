-- What is known of a run beside what is told of it: links with the server tell what they took and gave and whether they were closed, ids are those of a table, and each call has versions of its own.
use Rattle.std.specs.Prelude.{ℕ, ◌≡◌, ◌≢◌, ◌+◌, ◌<◌, ◌≤◌, ◌⊎◌, List, Option, Some, slice_get, IsTrue, IsSome}
use Rattle.sock_words.specs.declared.outcome.Outcome.{Outcome}
use Rattle.brpc_model.specs.Items.{Item, Shape}
use Rattle.brpc_model.specs.ReturnedLink.{LinkEnd}
use Rattle.brpc_model.specs.MessageOfLabel.{shown_id}
use Rattle.brpc_model.specs.Operations.{link_shapes}
use Rattle.sock_message.specs.Asked.{Asked}
use Rattle.seat_programs.specs.declared.task.Op.TheVariants as ops
use Rattle.seat_programs.specs.declared.task.Task.{Task}
use Rattle.seat_programs.specs.Explained.{IsTask, Became}

-- each link with the server tells what it took and gave, and whether it was closed
abbrev pub TellBytes : List Item → List LinkEnd → Type 0
TellBytes script ends = (k : ℕ) (e : LinkEnd) (shape : Shape) → slice_get ends k ≡ Some e → slice_get (link_shapes script) k ≡ Some shape → IsTrue shape.serve → IsSome e.took × IsSome e.gave × IsSome e.closed

-- each id that an outcome shows is one of a table of 65,536 ids
abbrev pub ShowSmallIds : List (Option Outcome) → Type 0
ShowSmallIds outcomes = (i id : ℕ) (outcome : Outcome) → slice_get outcomes i ≡ Some (Some outcome) → shown_id outcome ≡ Some id → id < 281474976710656

-- no two calls have a version in common
abbrev pub HaveOwnVersions : List (List Task) → List (Option Outcome) → Type 0
HaveOwnVersions clients outcomes = (c d : ℕ) (t u : Task) (a b : Asked) (x y : Outcome) (i j : ℕ) → IsTask clients outcomes c t → IsTask clients outcomes d u → t.op ≡ ops.Call a → u.op ≡ ops.Call b → Became clients outcomes t.number x
    → Became clients outcomes u.number y → shown_id x ≡ Some i → shown_id y ≡ Some j → t.number ≢ u.number → (i + a.range ≤ j) ⊎ (j + b.range ≤ i)
