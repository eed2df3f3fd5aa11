-- Clients tell no answer: each call that a client ended failed, and what it tells of its own operations is no end of a call.
use Rattle.std.proofs.Common.{◌≡◌, ℕ, zero, suc, false, List, [], ◌∷◌, ◌++◌, append_assoc, append-nil, Some, None, refl, sym, ap, ◌∙◌, subst}
use Rattle.std.specs.Prelude.{Bool, Option as Maybe}
use Rattle.atomic_table.specs.Table.{Me}
use Rattle.sock_io.specs.declared.link.Out.{Ghosts}
use Rattle.sock_io.specs.LinkHalves.{OutState}
use Rattle.sock_words.specs.ErrorCodes.{EINTERNAL}
use Rattle.sock_words.specs.declared.plain.Plan.{Plan}
use Rattle.sock_words.specs.declared.outcome.Outcome.{Outcome}
use Rattle.sock_words.specs.declared.outcome.Outcome.TheVariants as outcome
use Rattle.sock_model.specs.declared.view.View.{View}
use Rattle.call_deeds.specs.Below.SockRule.Letter.{Letter}
use Rattle.seat_programs.specs.declared.task.Op.{Op}
use Rattle.seat_programs.specs.declared.task.Op.TheVariants as ops
use Rattle.seat_programs.specs.declared.task.Task.{Task}
use Rattle.corr_core.specs.declared.marks.Plan as id_plan
use Rattle.sock_message.specs.Asked.{Asked}
use Rattle.corr_id.specs.declared.calls.IdLock.{IdLock}
use Rattle.corr_id.specs.declared.posts.Posted.{Posted}
use Rattle.corr_id.specs.declared.posts.Posted.TheVariants.{Locked as HasLock, Gone, Crowded}
use Rattle.call_deeds.specs.Below.RpcClient.Told.{Told}
use Rattle.call_deeds.specs.Below.RpcClient.Held.{Held}
use Rattle.call_deeds.specs.Below.RpcClient.OpenOutcomes.{OpenedBy}
use Rattle.call_deeds.specs.Below.RpcClient.HoldAndDropOutcomes.{HeldBy, DroppedBy}
use Rattle.call_deeds.specs.Below.RpcClient.FailOutcomes.{FailedBy}
use Rattle.call_deeds.specs.Below.RpcClient.ToldOfOperation.{telling}
use Rattle.call_deeds.specs.Below.CallErrors.ClientBooks.{Books, CallStand, starving, Tells, told, lost}
use Rattle.call_deeds.specs.Below.CallErrors.LockingByVersion.{id_in}
use Rattle.call_deeds.specs.Below.CallErrors.CallEndsWithCode.{EndedWith, failed}
use Rattle.call_deeds.specs.Below.CallErrors.Handling.{Decided}
use Rattle.call_deeds.specs.Below.CallErrors.Handling as handling
use Rattle.call_deeds.specs.Below.CallErrors.PostedErrors.{Handled}
use Rattle.call_deeds.specs.Below.CallErrors.ExpireAndJoinOutcomes.{ExpiredBy, JoinedBy}
use Rattle.call_deeds.specs.Below.CallWrites.MessageFateBesideCalls.{SentCalling}
use Rattle.call_deeds.specs.Below.CallClient.Caller.{Caller}
use Rattle.call_deeds.specs.Below.CallClient.ClientBetweenOperations.{Stand, stand, letter_of, Acted}
use Rattle.call_deeds.specs.Below.CallClient.ClientRun.{Course, Ran, begins, RunBy}
use Rattle.call_deeds.specs.Below.CallClient.ClientCallChanges.{Changes, same, in_turn, sees, ends, decides, posts, wants, shelves, run_changes}
use Rattle.call_told.specs.TellersOfCallEnds.{IsFailure, is_end_of_call, IsOwn, TellsOnly, ClientTells}
use Rattle.call_told.proofs.ListElementsByPlace.{all_both}

module _ (P : Told → Type 0) where
  only_none : (old new : List Told) → new ≡ old → TellsOnly P old new
  only_none old new e = ([], e ∙ sym (append-nil old), tt)

  only_then : (a b c : List Told) → TellsOnly P a b → TellsOnly P b c → TellsOnly P a c
  only_then a b c x y = (x.0 ++ y.0, y.1 ∙ ap (λ (l : List Told). l ++ y.0) x.1 ∙ append_assoc a x.0 y.0, all_both P x.0 y.0 x.2 y.2)

-- ## What ended

abbrev Fails : CallStand → CallStand → Type 0
Fails s t = TellsOnly IsFailure s.books.told t.books.told

fails_same : (s t : CallStand) → t.books.told ≡ s.books.told → Fails s t
fails_same s t e = only_none IsFailure s.books.told t.books.told e

fails_then : (s u t : CallStand) → Fails s u → Fails u t → Fails s t
fails_then s u t a b = only_then IsFailure s.books.told u.books.told t.books.told a b

lock_fails : (k : IdLock Asked) (code : ℕ) (s t : CallStand) → EndedWith k code s t → Fails s t
lock_fails k code s t e = by e.tells
  where
    by : Tells (failed k code) s.books t.books → Fails s t
    by (told is) = (failed k code ∷ [], ap (λ (b : Books). b.told) is, (record { id = id_in k; code = code; is = refl }, tt))
    by (lost is) = fails_same s t (ap (λ (b : Books). b.told) is)

decided_fails : {s : CallStand} {k : IdLock Asked} {code : ℕ} {attempt : Maybe ℕ} {t : CallStand} → Decided s k code attempt t → Fails s t
decided_fails (handling.ends s k code attempt t a b e) = lock_fails k code s t e
decided_fails (handling.starves s k code attempt t a e) = lock_fails k EINTERNAL (record { view = s.view; books = starving s.books }) t e
decided_fails (handling.waits s k code attempt t a b e) = fails_same s t (ap (λ (y : Books). y.told) e.kept)
decided_fails (handling.goes_on s k code attempt t u l next of a b e rest) = fails_then s u t (fails_same s u (ap (λ (y : Books). y.told) e.kept)) (decided_fails rest)

handled_fails : (code : ℕ) (attempt : Maybe ℕ) (answer : Posted Asked) (s t : CallStand) → Handled code attempt answer s t → Fails s t
handled_fails code attempt (HasLock k) s t d = decided_fails d
handled_fails code attempt _ s t e = fails_same s t (ap (λ (y : CallStand). y.books.told) e)

changes_fail : {xs : List Task} {s t : CallStand} → Changes xs s t → Fails s t
changes_fail (same s t e) = fails_same s t (ap (λ (y : CallStand). y.books.told) e)
changes_fail (in_turn s u t a b) = fails_then s u t (changes_fail a) (changes_fail b)
changes_fail (sees s t v e) = fails_same s t (ap (λ (y : Books). y.told) e)
changes_fail (ends s t k code e) = lock_fails k code s t e
changes_fail (decides s t k code attempt d) = decided_fails d
changes_fail (posts s t slots id code attempt p) = handled_fails code attempt p.0 (record { view = p.1.view; books = s.books }) t p.1.handled
changes_fail (wants s t e) = fails_same s t (ap (λ (y : CallStand). y.books.told) e)
changes_fail (shelves s t waiting e) = fails_same s t (ap (λ (y : CallStand). y.books.told) e)

-- ## What a client tells of its own operations

-- none, or one that is no end of a call
abbrev IsOwnBy : Maybe Outcome → Type 0
IsOwnBy None = Unit {0}
IsOwnBy (Some o) = is_end_of_call o ≡ false

own_one : (number : ℕ) (by : Maybe Outcome) → IsOwnBy by → (old new : List Told) → new ≡ old ++ telling number by → TellsOnly IsOwn old new
own_one number None h old new e = ([], e, tt)
own_one number (Some o) h old new e = (record { number = number; outcome = o } ∷ [], e, (h, tt))

opened_own : {S : Type 0} (p : Plan) (name operation link : ℕ) (by : Outcome) (m n : Me S View) → OpenedBy p name operation link by m n → is_end_of_call by ≡ false
opened_own p name operation link (outcome.Opened slot version k) m n h = refl
opened_own p name operation link outcome.SlotsFull m n h = refl
opened_own p name operation link _ m n h = elim h [ ]

held_own : (p : Plan) (name : ℕ) (by : Outcome) (h : List Held) (v : View) (k : List Held) (w : View) → HeldBy p name by h v k w → is_end_of_call by ≡ false
held_own p name outcome.Unopened h v k w x = refl
held_own p name (outcome.Gone found) h v k w x = refl
held_own p name outcome.Held h v k w x = refl
held_own p name _ h v k w x = elim x [ ]

dropped_own : (name : ℕ) (by : Outcome) (h : List Held) (v : View) (k : List Held) (w : View) → DroppedBy name by h v k w → is_end_of_call by ≡ false
dropped_own name outcome.NotHeld h v k w x = refl
dropped_own name outcome.Freed h v k w x = refl
dropped_own name outcome.Kept h v k w x = refl
dropped_own name _ h v k w x = elim x [ ]

failed_own : (p : Plan) (name code : ℕ) (by : Outcome) (v w : View) → FailedBy p name code by v w → is_end_of_call by ≡ false
failed_own p name code outcome.Unopened v w x = refl
failed_own p name code (outcome.Gone found) v w x = refl
failed_own p name code outcome.Failed v w x = refl
failed_own p name code (outcome.Already found) v w x = refl
failed_own p name code _ v w x = elim x [ ]

expired_own : (q : id_plan.Plan) (operation : ℕ) (by : Outcome) (s t : CallStand) → ExpiredBy q operation by s t → is_end_of_call by ≡ false
expired_own q operation outcome.NotBegun s t h = refl
expired_own q operation outcome.Expired s t h = refl
expired_own q operation outcome.Queued s t h = refl
expired_own q operation outcome.Late s t h = refl
expired_own q operation (outcome.Crowded first second) s t h = refl
expired_own q operation _ s t h = elim h [ ]

joined_own : (q : id_plan.Plan) (operation : ℕ) (by : Outcome) (s t : CallStand) → JoinedBy q operation by s t → is_end_of_call by ≡ false
joined_own q operation outcome.NotBegun s t h = refl
joined_own q operation outcome.Joined s t h = refl
joined_own q operation _ s t h = elim h [ ]

sent_own : {O : Type 0} (state : O → OutState) (p : Plan) (slots n : ℕ) (msg : Letter) (by : Maybe Outcome) (v : View) (s : CallStand) (w : View) (t : CallStand) → SentCalling state p slots n msg by v s w t → IsOwnBy by
sent_own state p slots n msg None v s w t h = tt
sent_own state p slots n msg (Some outcome.Unopened) v s w t h = refl
sent_own state p slots n msg (Some (outcome.Gone found)) v s w t h = refl
sent_own state p slots n msg (Some outcome.Full) v s w t h = refl
sent_own state p slots n msg (Some _) v s w t h = elim h [ ]

module _ {O : Type 0} {g : Ghosts O} (state : O → OutState) (p : Plan) (q : id_plan.Plan) where
  acted_own : (number : ℕ) (op : Op) (by : Maybe Outcome) (s t : Stand g) → Acted state p q number op by s t → IsOwnBy by
  acted_own number (ops.Open n k) (Some by) s t h = opened_own p n number _ by s.me t.me h.0.opened
  acted_own number (ops.Send n bytes) by s t h = sent_own state p q.slots n (letter_of number bytes) by s.me.0 s.calls t.me.0 t.calls h.0
  acted_own number (ops.Call asked) (Some outcome.Unopened) s t h = refl
  acted_own number (ops.Call asked) None s t h = tt
  acted_own number (ops.Expire of) (Some by) s t h = expired_own q of by s.calls t.calls h.0
  acted_own number (ops.Join of) (Some by) s t h = joined_own q of by s.calls t.calls h.0
  acted_own number (ops.Hold n) (Some by) s t h = held_own p n by s.held s.me.0 t.held t.me.0 h.0
  acted_own number (ops.Drop n) (Some by) s t h = dropped_own n by s.held s.me.0 t.held t.me.0 h.0
  acted_own number (ops.Fail n code) (Some by) s t h = failed_own p n code by s.me.0 t.me.0 h.0
  acted_own number _ _ s t h = elim h [ ]

  ran_own : (xs : List Task) (n : ℕ) (s t : Course g) → Ran state p q xs n s t → TellsOnly IsOwn s.told t.told
  ran_own xs zero s t e = only_none IsOwn s.told t.told (ap (λ (c : Course g). c.told) e)
  ran_own xs (suc n) s t h = let m = h.4 in only_then IsOwn s.told h.0.told t.told (ran_own xs n s h.0 h.2) (own_one h.1.number m.by (acted_own h.1.number h.1.op m.by m.ready t.has m.acted) h.0.told t.told m.told)

  pub ended_fails : {short : Bool} {xs : List Task} (c d : Caller O g) → RunBy state p q short xs c d → ClientTells c d
  ended_fails {short} {xs} c d r = record {
    ended = changes_fail (run_changes c d r);
    own = subst (λ (l : List Told). TellsOnly IsOwn c.outcomes.items l) (λ i. (sym r.told i).items) (ran_own xs r.made (begins c) (record { has = stand r.came; told = r.came.outcomes.items; names = r.ran.names }) r.ran.ran);
  }
