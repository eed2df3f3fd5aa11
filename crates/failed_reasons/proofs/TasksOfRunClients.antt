-- The tasks of the clients of a run.
use Rattle.std.proofs.Common.{◌≡◌, ℕ, List, slice_get, Some, sym, ap, ◌∙◌, subst}
use Rattle.std.specs.Prelude.{Option}
use Rattle.std.proofs.lemmas.Option.{same_Some}
use mathlib.Core.Option.{some}
use lib.ListN.{get_elem?}
use Rattle.sock_io.specs.declared.link.Out.{Ghosts}
use Rattle.sock_io.specs.LinkHalves.{OutState}
use Rattle.sock_words.specs.declared.outcome.Outcome.{Outcome}
use Rattle.sock_words.specs.declared.plain.Plan.{Plan}
use Rattle.sock_words.specs.declared.place_word.PlaceWord.{PlaceWord}
use Rattle.sock_words.specs.declared.vref.Vref.{Vref}
use Rattle.seat_programs.specs.declared.task.Op.{Op}
use Rattle.seat_programs.specs.declared.task.Op.TheVariants as ops
use Rattle.seat_programs.specs.declared.task.Task.{Task}
use Rattle.seat_programs.specs.Explained.{IsTask}
use Rattle.corr_core.specs.declared.marks.Plan as id_plan
use Rattle.corr_core.specs.declared.marks.View.{View}
use Rattle.sock_message.specs.Asked.{Asked}
use Rattle.attempts_told.specs.Below.RpcClient.Told.{Told}
use Rattle.attempts_told.specs.Below.CallClient.ClientRun.{MayMakeAll}
use Rattle.attempts_told.specs.Below.CallRun.ReadersOfLinks.{LinkReader}
use Rattle.attempts_told.specs.Below.CallRun.Threads.{RanWith}
use Rattle.attempts_told.specs.call_whys.specs.call_places.proofs.ClientPlaces.{Client, tasks_of}
use Rattle.attempts_told.specs.call_whys.specs.call_places.proofs.CallPlaceOrders.{tasks_are, crew_of}
use Rattle.attempts_told.specs.call_whys.specs.call_deeds.proofs.LinksOfTasks.{IsOwnCall, call_at}
use Rattle.attempts_told.specs.call_whys.specs.call_places.specs.script_facts.proofs.FilteredLists.{has_from, contains_from}
use Rattle.attempts_told.specs.call_whys.specs.call_places.specs.sock_deeds.proofs.ListPlaces.{to_slice, to_elem, map_there}

module _ {O : Type 0} {g : Ghosts O} {state : O → OutState} {readers : List (LinkReader g)} {p : Plan} {slots : ℕ} {setup : List Task} {clients : List (List Task)} {opens : List ℕ} {told ended : List (List Told)} {places : List PlaceWord} {vrefs : List Vref} {outs : List O} {ids : List (View Asked)}
    (run : RanWith g state readers p slots setup clients opens told ended places vrefs outs ids) (outcomes : List (Option Outcome)) where
  open crew_of run use {q, crew, every}

  pub tasks_there : (c : ℕ) (x : Client g state p q) → get_elem? crew c ≡ some x → get_elem? every c ≡ some (tasks_of x)
  tasks_there c x at = ap (λ (l : List (List Task)). get_elem? l c) (sym (tasks_are run)) ∙ map_there tasks_of crew c x at

  pub its_tasks : (c : ℕ) (x : Client g state p q) → get_elem? crew c ≡ some x → slice_get every c ≡ Some (tasks_of x)
  its_tasks c x at = to_slice every c (tasks_of x) (tasks_there c x at)

  -- where a task stands among those of its client
  pub place_of : (c : ℕ) (x : Client g state p q) → get_elem? crew c ≡ some x → (t : Task) → IsTask every outcomes c t → (k : ℕ) × (get_elem? (tasks_of x) k ≡ some t)
  place_of c x at t is =
      let h = has_from is.0 t is.2 in let same : is.0 ≡ tasks_of x = same_Some is.0 (tasks_of x) (sym is.1 ∙ its_tasks c x at) in
      (h.0, ap (λ (l : List Task). get_elem? l h.0) (sym same) ∙ to_elem is.0 h.0 t h.1)

  pub is_task : (c : ℕ) (x : Client g state p q) → get_elem? crew c ≡ some x → (k : ℕ) (t : Task) → get_elem? (tasks_of x) k ≡ some t → IsTask every outcomes c t
  is_task c x at k t there = (tasks_of x, its_tasks c x at, contains_from (tasks_of x) t (k, to_slice (tasks_of x) k t there))

-- a call has the number of its operation
pub own_call : (p : Plan) (q : id_plan.Plan) (ts : List Task) (n : ℕ) → MayMakeAll p q ts n → (k : ℕ) (t : Task) → get_elem? ts k ≡ some t → (asked : Asked) → t.op ≡ ops.Call asked → asked.operation ≡ t.number
own_call p q ts n may k t at asked op = subst (λ (z : Op). IsOwnCall t.number z) op (call_at p q ts n k t may at)
