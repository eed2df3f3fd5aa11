-- Whatever a client saw of the sockets by one of its deeds it has still in the end.
use Rattle.std.proofs.Common.{◌≡◌, ℕ, zero, suc, List, [], ◌∷◌, ◌++◌, length, Some, None, drop, zero-le, refl, ap, ◌∙◌, subst, arith}
use Rattle.std.specs.Prelude.{Option}
use Rattle.std.specs.List.{AllByRecursion}
use Rattle.std.proofs.lemmas.List.{drop_all}
use Rattle.sock_io.specs.declared.link.Out.{Ghosts}
use Rattle.sock_io.specs.LinkHalves.{OutState}
use Rattle.sock_words.specs.declared.outcome.Outcome.{Outcome}
use Rattle.sock_words.specs.declared.outcome.Outcome.TheVariants as outcome
use Rattle.sock_words.specs.declared.plain.Plan.{Plan}
use Rattle.sock_model.specs.declared.view.View.{View}
use Rattle.attempts_told.specs.Below.SockRule.Letter.{Letter}
use Rattle.seat_programs.specs.declared.task.Op.{Op}
use Rattle.seat_programs.specs.declared.task.Op.TheVariants as ops
use Rattle.seat_programs.specs.declared.task.Task.{Task}
use Rattle.corr_core.specs.declared.marks.Plan as id_plan
use Rattle.sock_message.specs.Asked.{name_of}
use Rattle.attempts_told.specs.Below.RpcClient.Held.{Held}
use Rattle.attempts_told.specs.Below.RpcClient.ToldOfOperation.{GaveFirst}
use Rattle.attempts_told.specs.Below.CallErrors.Retry.{Retry}
use Rattle.attempts_told.specs.Below.CallAttempts.ClientAtBothTables.{Both}
use Rattle.attempts_told.specs.Below.CallAttempts.AttemptLetters.{letter_for}
use Rattle.attempts_told.specs.Below.CallAttempts.WaitingRetries.{without_oldest, WentTo, stray, unopened, to_socket, RetriedBy, had_ended, overtaken, went_again, Retried, none_yet, one_more}
use Rattle.attempts_told.specs.Below.CallClient.ClientBetweenOperations.{Stand, stand, both_of, letter_of, Acted}
use Rattle.attempts_told.specs.Below.CallClient.ClientRun.{Course, Ran, begins}
use Rattle.attempts_told.specs.Below.CallRun.Threads.{Thread, IsThread}
use Rattle.attempts_told.specs.call_whys.specs.call_places.specs.DeedsOfCallClient.{Deed, operates, retries, retries_of, ran_deeds, deeds}
use Rattle.attempts_told.specs.call_whys.specs.call_told.proofs.ListElementsByPlace.{all_both, all_then}
use Rattle.attempts_told.specs.call_whys.specs.call_told.proofs.RunsTellNotedEnds.{none_left}
use Rattle.attempts_told.specs.call_whys.specs.call_deeds.proofs.MessageDeeds.{send_message, attempt_message}
use Rattle.attempts_told.specs.call_whys.specs.call_places.specs.sock_deeds.proofs.GrowingSocketNotes.{Grew, stays_as, grew_then, sent_grew, returned_grew, opened_grew, held_grew, dropped_grew, failed_grew}
use Rattle.failed_reasons.specs.Missed.{socks_behind}

module _ {O : Type 0} (state : O → OutState) (p : Plan) (q : id_plan.Plan) where
  -- ## One deed

  went_grew : (name : ℕ) (msg : Letter) (s t : Both) → WentTo state p q name msg s t → Grew s.socks t.socks
  went_grew name msg s t (stray a same c) = stays_as s.socks t.socks same
  went_grew name msg s t (unopened found c) = sent_grew state p name msg (Some outcome.Unopened) s.socks t.socks found
  went_grew name msg s t (to_socket socket u found e a) = let m = attempt_message state p q socket msg name s.socks u t found a in sent_grew state p name msg m.0 s.socks t.socks m.2

  pub retry_grew : (r : Retry) (s t : Both) → RetriedBy state p q r s t → Grew s.socks t.socks
  retry_grew r s t (had_ended h) = stays_as s.socks t.socks h.socks
  retry_grew r s t (overtaken k u l o) = stays_as s.socks t.socks (o.socks ∙ l.socks)
  retry_grew r s t (went_again k u l w) = subst (λ (v : View). Grew v t.socks) l.socks (went_grew _ _ _ t w.went)

  pub acted_grew : {g : Ghosts O} (number : ℕ) (op : Op) (by : Option Outcome) (s t : Stand g) → Acted state p q number op by s t → Grew s.me.0 t.me.0
  acted_grew number (ops.Open n k) (Some by) s t a = opened_grew p n number a.0.pass.link by s.me t.me a.0.opened
  acted_grew number (ops.Send n bytes) by s t a = sent_grew state p n (letter_of number bytes) by s.me.0 t.me.0 (send_message state p q.slots (letter_of number bytes) n by s.me.0 s.calls t.me.0 t.calls a.0)
  acted_grew number (ops.Call asked) (Some outcome.Unopened) s t a = sent_grew state p (name_of asked 0) (letter_of number []) (Some outcome.Unopened) s.me.0 t.me.0 a.0.0
  acted_grew number (ops.Call asked) None s t a =
      let b = a.1 in let msg : Letter = letter_for asked a.0 0 zero-le in let m = attempt_message state p q b.socket msg (name_of asked 0) s.me.0 b.at (both_of t) b.made_for.found b.attempted in
      sent_grew state p (name_of asked 0) msg m.0 s.me.0 t.me.0 m.2
  acted_grew number (ops.Expire of) (Some by) s t a = stays_as s.me.0 t.me.0 (λ i. (a.1 i).0)
  acted_grew number (ops.Join of) (Some by) s t a = stays_as s.me.0 t.me.0 (λ i. (a.1 i).0)
  acted_grew number (ops.Hold n) (Some by) s t a = held_grew p n by s.held s.me.0 t.held t.me.0 a.0
  acted_grew number (ops.Drop n) (Some by) s t a = dropped_grew n by s.held s.me.0 t.held t.me.0 a.0
  acted_grew number (ops.Fail n code) (Some by) s t a = failed_grew p n code by s.me.0 t.me.0 a.0
  acted_grew number _ _ s t a = elim a [ ]

  module _ {g : Ghosts O} where
    -- ## All deeds

    -- it is seen in this view still
    abbrev pub Reaches : View → Deed g state p q → Type 0
    Reaches w d = Grew (socks_behind d) w

    -- from here to there, by these deeds
    record Goes (ds : List (Deed g state p q)) (v w : View) : Type 0 where
      pub grew : Grew v w
      pub each : AllByRecursion (Reaches w) ds

    goes_same : (v w : View) → w ≡ v → Goes [] v w
    goes_same v w e = record { grew = stays_as v w e; each = tt }

    goes_then : (a b : List (Deed g state p q)) (u v w : View) → Goes a u v → Goes b v w → Goes (a ++ b) u w
    goes_then a b u v w x y = record {
      grew = grew_then u v w x.grew y.grew;
      each = all_both (Reaches w) a b (all_then (Reaches v) (Reaches w) a (λ d h. grew_then (socks_behind d) v w h y.grew) x.each) y.each;
    }

    goes_one : (d : Deed g state p q) (v : View) → Grew v (socks_behind d) → Goes (d ∷ []) v (socks_behind d)
    goes_one d v h = record { grew = h; each = (stays_as (socks_behind d) (socks_behind d) refl, tt) }

    retried_goes : (s t : Both) (h : Retried state p q s t) → Goes (retries_of {g = g} state p q s t h) s.socks t.socks
    retried_goes s _ none_yet = goes_same s.socks s.socks refl
    retried_goes s _ (one_more u t r rest more e f by) =
        let d : Deed g state p q = retries r (without_oldest rest u) t by in
        goes_then (retries_of {g = g} state p q s u more) (d ∷ []) s.socks u.socks t.socks (retried_goes s u more) (goes_one d u.socks (retry_grew r (without_oldest rest u) t by))

    ran_goes : (xs : List Task) (n : ℕ) (s t : Course g) (h : Ran state p q xs n s t) → Goes (ran_deeds state p q xs n s t h) s.has.me.0 t.has.me.0
    ran_goes xs zero s t e = goes_same s.has.me.0 t.has.me.0 (ap (λ (c : Course g). c.has.me.0) e)
    ran_goes xs (suc n) s t h =
        let m = h.4 in let d : Deed g state p q = operates h.1 m.by m.ready t.has m.acted in
        let again : List (Deed g state p q) = retries_of {g = g} state p q (both_of h.0.has) (both_of m.ready) m.retried.all.retried in
        goes_then (ran_deeds state p q xs n s h.0 h.2) (again ++ d ∷ []) s.has.me.0 h.0.has.me.0 t.has.me.0 (ran_goes xs n s h.0 h.2)
        (goes_then again (d ∷ []) h.0.has.me.0 m.ready.me.0 t.has.me.0 (retried_goes (both_of h.0.has) (both_of m.ready) m.retried.all.retried) (goes_one d m.ready.me.0 (acted_grew h.1.number h.1.op m.by m.ready t.has m.acted)))

-- references that were given back
gave_grew : (h : List Held) (n : ℕ) (v w : View) → GaveFirst h n v w → Grew v w
gave_grew h zero v w e = stays_as v w e
gave_grew h (suc n) v w r = grew_then v r.0 w (gave_grew h n v r.0 r.2) (returned_grew r.1.id.0 r.0 w r.4)

-- by all deeds of a client
pub deeds_reach : {O : Type 0} {g : Ghosts O} {state : O → OutState} {p : Plan} {q : id_plan.Plan} {first : ℕ} (x : Thread g) (th : IsThread state p q first x) → AllByRecursion (Reaches state p q {g = g} x.ended.seat.me.0) (deeds x th)
deeds_reach {O} {g} {state} {p} {q} x th =
    let r = th.ran in
    let all : drop r.made x.tasks ≡ [] = let n = r.ends.0 in drop_all r.made x.tasks (omega arith) in
    let came : Course g = record { has = stand r.came; told = r.came.outcomes.items; names = r.ran.names } in
    let ran : List (Deed g state p q) = ran_deeds state p q x.tasks r.made (begins x.began) came r.ran.ran in
    let rest : List (Deed g state p q) = retries_of {g = g} state p q (both_of (stand r.came)) (both_of r.last) r.ends.1.all.retried in
    let a = ran_goes state p q x.tasks r.made (begins x.began) came r.ran.ran in
    let b = retried_goes state p q {g = g} (both_of (stand r.came)) (both_of r.last) r.ends.1.all.retried in
    let left = none_left state p q r.last r.end (drop r.made x.tasks) all r.left in
    let end_ = stays_as r.last.me.0 r.end.me.0 (ap (λ (s : Stand g). s.me.0) left) in
    let final = grew_then r.last.me.0 r.end.me.0 x.ended.seat.me.0 end_ (gave_grew r.end.held (length r.end.held) r.end.me.0 x.ended.seat.me.0 r.given) in
    all_then (Reaches state p q {g = g} r.last.me.0) (Reaches state p q {g = g} x.ended.seat.me.0) (ran ++ rest) (λ d h. grew_then (socks_behind d) r.last.me.0 x.ended.seat.me.0 h final)
    (goes_then state p q ran rest x.began.seat.me.0 r.came.seat.me.0 r.last.me.0 a b).each
