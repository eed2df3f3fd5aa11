-- What becomes of a call: it found no socket under its first name, or it ended.
use Rattle.std.proofs.Common.{◌≡◌, ℕ, zero, suc, ◌+◌, ◌*◌, ◌<◌, ◌⊎◌, inl, inr, true, List, [], ◌∷◌, ◌++◌, replicate, Option, Some, None, Ok, refl, sym, ap, ◌∙◌, subst, arith}
use mathlib.Core.Option.{some, some-ne-none}
use lib.ListN.{get_elem?}
use Rattle.script_parts.specs.callless_fits.specs.sock_deeds.specs.outcome_stories.specs.program_walks.specs.chain_steps.proofs.TicketLists.{old, new, at_snoc}
use Rattle.sock_io.specs.declared.link.Out.{Ghosts}
use Rattle.sock_io.specs.LinkHalves.{OutState, InState}
use Rattle.sock_words.specs.declared.outcome.Outcome.{Outcome}
use Rattle.sock_words.specs.declared.outcome.Outcome.TheVariants.{Unopened, Answered, Peer, CallFailed}
use Rattle.sock_words.specs.declared.plain.Plan.{Plan}
use Rattle.brpc_model.specs.Items.{Item}
use Rattle.brpc_model.specs.ReturnedLink.{LinkEnd}
use Rattle.brpc_model.specs.Script.{script_of}
use Rattle.corr_core.specs.declared.marks.Plan as id_plan
use Rattle.sock_message.specs.Asked.{Asked}
use Rattle.seat_programs.specs.declared.task.Op.{Op}
use Rattle.seat_programs.specs.declared.task.Op.TheVariants as ops
use Rattle.seat_programs.specs.declared.task.Task.{Task}
use Rattle.seat_programs.specs.ScriptSetupToEnding.{all_tasks}
use Rattle.seat_programs.specs.Tasks.{plan_of}
use Rattle.seat_programs.specs.Explained.{IsTask, Became}
use Rattle.rpc_client.specs.declared.acting.Told.{Told}
use Rattle.call_run.specs.call_client.specs.ClientBetweenOperations.{Stand, Acted}
use Rattle.call_run.specs.call_client.specs.ClientRun.{Course, Ran, begins}
use Rattle.call_run.specs.Threads.{Thread, IsThread}
use Rattle.script_parts.specs.call_whys.specs.call_deeds.proofs.Ran.{Result, results}
use Rattle.script_parts.specs.call_whys.specs.call_deeds.proofs.OperationsToldOnce.{all_results, came, made, said_of}
use Rattle.script_parts.specs.call_whys.specs.call_places.proofs.ClientPlaces.{Client}
use Rattle.script_parts.specs.call_whys.specs.call_places.proofs.CallPlaceOrders.{all as all_clients, all_are}
use Rattle.script_parts.specs.call_whys.specs.call_told.specs.TellersOfCallEnds.{is_end_of_call}
use Rattle.script_parts.specs.call_whys.specs.call_told.specs.ToldOnce.{ends_of}
use Rattle.script_parts.proofs.ClientSayingsByNumber.{told_each, none_told}
use Rattle.script_parts.proofs.Tellers.{HasResult, IsEndTold}
use Rattle.script_parts.proofs.Tellers as tellers
use Rattle.script_parts.specs.calls_done.proofs.KnownCallRun.{IsOfCall}
use Rattle.script_threads.specs.ServedScriptTold.{IsThreadsRun}
use Rattle.script_threads.proofs.Speaking.{parts_of}
use Rattle.script_threads.proofs.ReportsOfThreads.{text_of, text_outcomes}
use Rattle.script_threads.proofs.SocketsOfReadLinks as sockets
use Rattle.script_parts.specs.callless_fits.specs.sock_deeds.proofs.ListPlaces.{map_back}

ends_some : (by : Outcome) (id : ℕ) → 0 < ends_of id by → is_end_of_call by ≡ true
ends_some (Answered i payload attachment) id h = refl
ends_some (Peer i code) id h = refl
ends_some (CallFailed i code) id h = refl
ends_some other id h = absurd (omega arith)

-- ## What a client tells of a call at once

module _ {O : Type 0} {g : Ghosts O} (state : O → OutState) (p : Plan) (q : id_plan.Plan) where
  by_call : (number : ℕ) (asked : Asked) (o : Outcome) (s t : Stand g) → Acted state p q number (ops.Call asked) (Some o) s t → o ≡ Unopened
  by_call number asked Unopened s t a = refl
  by_call number asked other s t a = absurd a

  call_by : (number : ℕ) (op : Op) (asked : Asked) (by : Option Outcome) (o : Outcome) (s t : Stand g) → Acted state p q number op by s t → op ≡ ops.Call asked → by ≡ Some o → o ≡ Unopened
  call_by number op asked by o s t a is told_ = by_call number asked o s t (subst (λ (b : Option Outcome). Acted state p q number (ops.Call asked) b s t) told_ (subst (λ (x : Op). Acted state p q number x by s t) is a))

  calls_told : (xs : List Task) (m : ℕ) (s t : Course g) (h : Ran state p q xs m s t) (k : ℕ) (asked : Asked) (o : Outcome) (r : Result) → get_elem? (results state p q xs m s t h) k ≡ some r → r.task.op ≡ ops.Call asked → r.by ≡ Some o → o ≡ Unopened
  calls_told xs zero s t e k asked o r at is by = absurd (some-ne-none r (sym at))
  calls_told xs (suc m) s t h k asked o r at is by = let last : Result = record { task = h.1; by = h.4.by } in elim (at_snoc (results state p q xs m s h.0 h.2) last k r at) [
    | old there lt ↦ calls_told xs m s h.0 h.2 k asked o r there is by
    | new place same ↦ call_by h.1.number h.1.op asked h.4.by o h.4.ready t.has h.4.acted (ap (λ (x : Result). x.task.op) same ∙ is) (ap (λ (x : Result). x.by) same ∙ by)
  ]

module _ {O : Type 0} {g : Ghosts O} {state : O → OutState} {p : Plan} {q : id_plan.Plan} {first : ℕ} (x : Thread g) (th : IsThread state p q first x) where
  call_told : (k : ℕ) (r : Result) (asked : Asked) (o : Outcome) → get_elem? (all_results x th) k ≡ some r → r.task.op ≡ ops.Call asked → r.by ≡ Some o → o ≡ Unopened
  call_told k r asked o at is by = calls_told state p q x.tasks th.ran.made (begins x.began) (came x th) (made x th) k asked o r at is by

-- ## A run of a script

module _ (P : Type 0) {O I : Type 0} (g : Ghosts O) (out : O → OutState) (inn : I → InState) (bytes : List ℕ) (script : List Item) (reads : script_of bytes ≡ Ok script) (text : List ℕ) (links : List LinkEnd) (r : IsThreadsRun P g out inn script text links) where
  open parts_of r use {p, q, all, outcomes}

  abbrev callers : List (Client g out p q)
  callers = all_clients r.left.ran

  module _ (c : ℕ) (t : Task) (asked : Asked) (is : IsTask all outcomes c t) (op : t.op ≡ ops.Call asked) where
    -- a client tells of a call at once only that it is unopened
    own_told : (d j : ℕ) (ts : List Told) (u : Told) → get_elem? r.told d ≡ some ts → get_elem? ts j ≡ some u → u.number ≡ t.number → u.outcome ≡ Unopened
    own_told d j ts u at there number =
        let f : Client g out p q → List Told = λ x. x.thread.ended.outcomes.items in
        let w = map_back f callers d ts (ap (λ (l : List (List Told)). get_elem? l d) (all_are r.left.ran (λ (x : Thread g). x.ended.outcomes.items) ∙ r.left.ran.ran.told_is) ∙ at) in
        let s = said_of w.0.thread w.0.is j u (ap (λ (l : List Told). get_elem? l j) w.2 ∙ there) in
        let has : HasResult r.left.ran script r.left.tasks (sockets.are P g out inn bytes script reads text links r) w.0 u.number (Some u.outcome) = record { place = s.0; result = s.1; at = s.2; number_is = sym s.3; by_is = s.4 } in
        let its = tellers.of_client r.left.ran script r.left.tasks (sockets.are P g out inn bytes script reads text links r) d w.0 w.1 u.number (Some u.outcome) has in
        let same = (tellers.same_task r.left.ran script r.left.tasks (sockets.are P g out inn bytes script reads text links r) d c s.1.task t its is (sym s.3 ∙ number)).1 in
        call_told w.0.thread w.0.is s.0 s.1 asked u.outcome s.2 (same ∙ op) s.4

    by_teller : (x : Outcome) (d j : ℕ) (ts : List Told) (u : Told) → get_elem? ts j ≡ some u → u.number ≡ t.number → u.outcome ≡ x
        → (get_elem? r.told d ≡ some ts) ⊎ ((e : ℕ) × (get_elem? ((r.ended ++ r.read) ++ r.last ∷ []) e ≡ some ts) × IsEndTold q.slots r.rest.last.view.notes u) → IsOfCall x
    by_teller x d j ts u there number outcome (inl own) = inl (sym outcome ∙ own_told d j ts u own there number)
    by_teller x d j ts u there number outcome (inr over) = inr (ap is_end_of_call (sym outcome) ∙ ends_some u.outcome (over.2.slot * 4294967296 + over.2.first) (let e = over.2.is_end in omega (arith, e)))

    -- what became of the call
    kind : (x : Outcome) → Became all outcomes t.number x → IsOfCall x
    kind x became = elim (told_each (replicate (plan_of script).operations None) ((r.told ++ (r.ended ++ r.read)) ++ r.last ∷ []) t.number x became) [
      | inl none_ ↦ absurd (none_told (plan_of script).operations t.number x none_)
      | inr w ↦ by_teller x w.0 w.3.0 w.1 w.3.1 w.3.2 w.3.3 w.3.4
          (tellers.whose r.left.ran script r.left.tasks (sockets.are P g out inn bytes script reads text links r) r.rest.last.view.notes (sockets.have P g out inn bytes script reads text links r) (r.ended ++ r.read) r.last (sockets.end_told P g out inn bytes script reads text links r) w.0 w.3.0 w.1 w.3.1 w.2 w.3.2)
    ]

-- of the outcomes that are reported
module _ (P : Type 0) {O I : Type 0} (out : O → OutState) (inn : I → InState) (g : Ghosts O) (script : List Item) (text : List ℕ) (links : List LinkEnd) (r : IsThreadsRun P g out inn script text links) (bytes : List ℕ) (reads : script_of bytes ≡ Ok script) where
  pub text_kinds : (client : ℕ) (t : Task) (asked : Asked) (x : Outcome) → IsTask (all_tasks script) (text_of P out inn g script text links r bytes reads).outcomes client t → t.op ≡ ops.Call asked → Became (all_tasks script) (text_of P out inn g script text links r bytes reads).outcomes t.number x → IsOfCall x
  text_kinds client t asked x is op became = kind P g out inn bytes script reads text links r client t asked (subst (λ (l : List (List Task)). IsTask l (parts_of r).outcomes client t) (sym r.left.tasks) is) op x
      (subst (λ (os : List (Option Outcome)). Became (all_tasks script) os t.number x) (text_outcomes P out inn g script text links r bytes reads) became)
