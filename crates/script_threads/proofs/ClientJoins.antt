-- Why each `join` of a script has its outcome, where its links were read beside its clients.
use Rattle.std.proofs.Common.{◌≡◌, ℕ, List, Option, Ok, sym, subst}
use Rattle.sock_io.specs.declared.link.Out.{Ghosts}
use Rattle.sock_io.specs.LinkHalves.{OutState, InState}
use Rattle.sock_words.specs.declared.outcome.Outcome.{Outcome}
use Rattle.sock_words.specs.declared.outcome.Outcome.TheVariants.{Joined, NotBegun}
use Rattle.sock_words.specs.declared.plain.Plan.{Plan}
use Rattle.brpc_model.specs.Items.{Item, Join}
use Rattle.brpc_model.specs.ReturnedLink.{LinkEnd}
use Rattle.brpc_model.specs.Script.{script_of}
use Rattle.seat_programs.specs.declared.task.Op.TheVariants as ops
use Rattle.seat_programs.specs.declared.task.Task.{Task}
use Rattle.seat_programs.specs.ScriptSetupToEnding.{all_tasks}
use Rattle.seat_programs.specs.Tasks.{plan_of}
use Rattle.seat_programs.specs.ExplainedCalls.{Fixed, Order, WhyJoin}
use Rattle.script_parts.specs.script_facts.proofs.Targets.{joined, are_there}
use Rattle.script_parts.specs.script_facts.proofs.TaskLemmas.{join_asks}
use Rattle.script_parts.specs.call_whys.specs.expire_told.specs.AskedByJoins.{AreJoinsOfCalls}
use Rattle.script_parts.specs.call_whys.specs.expire_told.proofs.JoinOutcomesWithCalls.{joins_why}
use Rattle.script_parts.proofs.ExpireAsksForCall.{asks_calls}
use Rattle.script_threads.specs.ClientJoins.{AreJoinsTold}
use Rattle.script_threads.specs.ServedScriptTold.{seated_plan, IsThreadsRun}
use Rattle.script_threads.proofs.Speaking.{parts_of}
use Rattle.script_threads.proofs.SocketsOfReadLinks.{are, may, have}
use Rattle.script_threads.proofs.ClientsTellingOperations.{keeps, said, said_ended, begun_not}

-- what a `join` of a script asks for is a call
joins_calls : (bytes : List ℕ) (script : List Item) → script_of bytes ≡ Ok script → (outcomes : List (Option Outcome)) → AreJoinsOfCalls (all_tasks script) outcomes
joins_calls bytes script reads outcomes = asks_calls script outcomes (λ c i. Join c i) (λ n. ops.Join n) join_asks (joined script (are_there bytes script reads))

-- how many seats there are doesn't matter
still : (p p' : Plan) (clients : List (List Task)) (outcomes : List (Option Outcome)) (fixed : Fixed) (gave : ℕ → List ℕ) (orders : ℕ → Order) (last : ℕ → ℕ) (c o of : ℕ) (by : Outcome) → WhyJoin p clients outcomes fixed gave orders last c o of by → WhyJoin p' clients outcomes fixed gave orders last c o of by
still p p' clients outcomes fixed gave orders last c o of Joined h = h
still p p' clients outcomes fixed gave orders last c o of NotBegun h = h
still p p' clients outcomes fixed gave orders last c o of _ h = elim h [ ]

module _ (P : Type 0) {O I : Type 0} (g : Ghosts O) (out : O → OutState) (inn : I → InState) (bytes : List ℕ) (script : List Item) (reads : script_of bytes ≡ Ok script) (text : List ℕ) (links : List LinkEnd) (r : IsThreadsRun P g out inn script text links) where
  open parts_of r use {all, outcomes}

  of_calls : AreJoinsOfCalls all outcomes
  of_calls = subst (λ (l : List (List Task)). AreJoinsOfCalls l outcomes) (sym r.left.tasks) (joins_calls bytes script reads outcomes)

  here : (fixed : Fixed) (gave : ℕ → List ℕ) (orders : ℕ → Order) → AreJoinsTold (plan_of script) all outcomes fixed gave orders
  here fixed gave orders last c of t by is op became = still (seated_plan script) (plan_of script) all outcomes fixed gave orders last c t.number of by
      (joins_why r.left.ran (are P g out inn bytes script reads text links r) (may P g out inn bytes script reads text links r) r.rest.last.view.notes r.rest.last.view.kept r.rest.words r.rest.closing (have P g out inn bytes script reads text links r)
      (keeps P g out inn bytes script reads text links r) outcomes (said P g out inn bytes script reads text links r) (said_ended P g out inn bytes script reads text links r) (begun_not P g out inn bytes script reads text links r) fixed gave orders of_calls last c of t by is op became)

  -- each `join` has its cause
  pub joins_told : (fixed : Fixed) (gave : ℕ → List ℕ) (orders : ℕ → Order) → AreJoinsTold (plan_of script) (all_tasks script) outcomes fixed gave orders
  joins_told fixed gave orders = subst (λ (l : List (List Task)). AreJoinsTold (plan_of script) l outcomes fixed gave orders) r.left.tasks (here fixed gave orders)
