-- What became of the first attempt of each call of a script whose links were read beside its clients.
use Rattle.std.proofs.Common.{◌≡◌, ℕ, List, Option, Ok, sym, subst}
use Rattle.sock_io.specs.declared.link.Out.{Ghosts}
use Rattle.sock_io.specs.LinkHalves.{OutState, InState}
use Rattle.sock_words.specs.declared.outcome.Outcome.{Outcome}
use Rattle.sock_words.specs.declared.plain.Plan.{Plan}
use Rattle.brpc_model.specs.Items.{Item}
use Rattle.brpc_model.specs.ReturnedLink.{LinkEnd}
use Rattle.brpc_model.specs.Script.{script_of}
use Rattle.sock_message.specs.Asked.{Asked, name_of}
use Rattle.seat_programs.specs.declared.task.Op.TheVariants as ops
use Rattle.seat_programs.specs.declared.task.Task.{Task}
use Rattle.seat_programs.specs.ScriptSetupToEnding.{all_tasks}
use Rattle.seat_programs.specs.Tasks.{plan_of}
use Rattle.seat_programs.specs.ExplainedCalls.{Order, Fixed}
use Rattle.script_parts.specs.callless_fits.specs.sock_deeds.specs.SocketTableRun.{IsOperation}
use Rattle.script_parts.specs.callless_fits.specs.sock_deeds.proofs.OrdersOfDeeds.{orders}
use Rattle.script_parts.specs.calls_done.specs.FirstAttempts.{FirstAttempt, Stands, BecameUnopened, FoundFailing, FoundFull}
use Rattle.script_parts.specs.calls_done.proofs.FirstAttempts.{first_attempt}
use Rattle.script_threads.specs.ServedScriptTold.{seated_plan, IsThreadsRun}
use Rattle.script_threads.proofs.Speaking.{parts_of}
use Rattle.script_threads.proofs.SocketsOfReadLinks as sockets

-- nothing of it speaks of seats
first_still : (p : Plan) (n : ℕ) (clients : List (List Task)) (outcomes : List (Option Outcome)) (fixed : Fixed) (gave : ℕ → List ℕ) (orders : ℕ → Order) (o name : ℕ) → FirstAttempt (record p { seats = n }) clients outcomes fixed gave orders o name → FirstAttempt p clients outcomes fixed gave orders o name
first_still p n clients outcomes fixed gave orders o name (Stands k on) = Stands k on
first_still p n clients outcomes fixed gave orders o name (BecameUnopened unopened) = BecameUnopened unopened
first_still p n clients outcomes fixed gave orders o name (FoundFailing k slot version made failing) = FoundFailing k slot version made failing
first_still p n clients outcomes fixed gave orders o name (FoundFull full) = FoundFull full

-- of each call of a script
abbrev pub AreBegun : List Item → List (Option Outcome) → Fixed → (ℕ → List ℕ) → (ℕ → Order) → Type 0
AreBegun script outcomes fixed gave orders = (c o : ℕ) (asked : Asked) → IsOperation (all_tasks script) outcomes c o (ops.Call asked) → FirstAttempt (plan_of script) (all_tasks script) outcomes fixed gave orders o (name_of asked 0)

module _ (P : Type 0) {O I : Type 0} (g : Ghosts O) (out : O → OutState) (inn : I → InState) (bytes : List ℕ) (script : List Item) (reads : script_of bytes ≡ Ok script) (text : List ℕ) (links : List LinkEnd) (r : IsThreadsRun P g out inn script text links) where
  open parts_of r use {all, outcomes}

  abbrev fixed : Fixed
  fixed = sockets.fixed P g out inn bytes script reads text links r

  abbrev by_link : ℕ → Order
  by_link = orders (sockets.run P g out inn bytes script reads text links r) (sockets.differ P g out inn bytes script reads text links r)

  pub begun_beside : (given : ℕ → List ℕ) → AreBegun script outcomes fixed given by_link
  begun_beside given c o asked is = subst (λ (l : List (List Task)). FirstAttempt (plan_of script) l outcomes fixed given by_link o (name_of asked 0)) r.left.tasks
      (first_still (plan_of script) (seated_plan script).seats all outcomes fixed given by_link o (name_of asked 0)
      (first_attempt (sockets.run P g out inn bytes script reads text links r) (sockets.differ P g out inn bytes script reads text links r) given c o asked (subst (λ (l : List (List Task)). IsOperation l outcomes c o (ops.Call asked)) (sym r.left.tasks) is)))
