-- The program of a client: its tasks in order, and then each held reference given back, the oldest first.
use Rattle.std.specs.Prelude.{ℕ, ◌==◌, not, if◌then◌else◌, List, [], ◌∷◌, ◌++◌, filter, Option, Some, None}
use Rattle.sock_model.specs.sock_words.specs.declared.outcome.Outcome.TheVariants.{NotHeld}
use Rattle.sock_model.specs.sock_words.specs.PackedWords.{socket_id_slot}
use Rattle.seat_programs.specs.declared.task.Op.{Op}
use Rattle.seat_programs.specs.declared.task.Op.TheVariants as ops
use Rattle.seat_programs.specs.declared.task.Task.{Task}
use Rattle.seat_programs.specs.declared.task.Sizes.{Sizes}
use Rattle.seat_programs.specs.Programs.{Program, Rest, Say, Retries, open_from, fail, hold, drop_held, release, end_open}
use Rattle.seat_programs.specs.SendAndWritePrograms.{send}
use Rattle.seat_programs.specs.CallAndRetryPrograms.{call, expire, join}

-- ## Held references

-- a held life: the number of the name under which it was reached, and its id
pub record HeldLife : Type 0 where
  pub name : ℕ
  pub id : ℕ

-- the id of the life that is held under a name
abbrev pub held_under : ℕ → List HeldLife → Option ℕ
held_under name [] = None
held_under name (h ∷ hs) = if h.name == name then Some h.id else held_under name hs

-- without what is held under a name
abbrev pub without_name : ℕ → List HeldLife → List HeldLife
without_name name hs = filter (λ (h : HeldLife). not (h.name == name)) hs

-- after the last operation each is given back, the oldest first
abbrev pub give_back : List HeldLife → Program
give_back [] = Rest
give_back (h ∷ hs) = release (socket_id_slot h.id) (λ _. give_back hs)

-- ## Tasks

-- `drop` of what is held, if anything is; where nothing is, no step is made
abbrev pub drop_of : ℕ → Option ℕ → Program → Program
drop_of o None next = Say o NotHeld next
drop_of o (Some id) next = drop_held o id next

-- one operation, over a table of these sizes; what follows depends on what is held behind it
abbrev pub operation : Sizes → List HeldLife → ℕ → (List HeldLife → Program) → Op → Program
operation sizes held o next (ops.Open name k) = open_from sizes.slots 0 o name k (next held)
operation sizes held o next (ops.Send name bytes) = send sizes.requests o name bytes (next held)
operation sizes held o next (ops.Call asked) = call sizes.requests sizes.ids asked (next held)
operation sizes held o next (ops.Expire t) = expire o t (next held)
operation sizes held o next (ops.Join t) = join o t (next held)
operation sizes held o next (ops.Hold name) = hold o name (λ id. next (held ++ (record { name = name; id = id }) ∷ [])) (next held)
operation sizes held o next (ops.Drop name) = drop_of o (held_under name held) (next (without_name name held))
operation sizes held o next (ops.Fail name code) = fail o name code (next held)

-- these tasks in order, from these held lives on; before each, and behind the last, the retries that wait are tried
abbrev pub client_from : Sizes → List HeldLife → List Task → Program
client_from sizes held [] = Retries sizes.requests (give_back held)
client_from sizes held (t ∷ ts) = Retries sizes.requests (operation sizes held t.number (λ held'. client_from sizes held' ts) t.op)

-- the ending by seat 0 goes over these `open` operations
abbrev pub ending_of : List ℕ → Program
ending_of [] = Rest
ending_of (o ∷ os) = end_open o (ending_of os)
