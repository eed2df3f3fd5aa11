-- What holds of the deeds of a client's run, one after the other, where it holds of each: of its operations, and of the retries that waited before each and behind the last.
use Rattle.std.proofs.Common.{◌≡◌, ℕ, zero, suc, List, [], ◌∷◌, ◌++◌, refl, ap}
use Rattle.std.specs.Prelude.{Option}
use mathlib.Core.Option.{some}
use lib.ListN.{get_elem?}
use Rattle.sock_io.specs.declared.link.Out.{Ghosts}
use Rattle.sock_io.specs.LinkHalves.{OutState}
use Rattle.sock_words.specs.declared.outcome.Outcome.{Outcome}
use Rattle.sock_words.specs.declared.plain.Plan.{Plan}
use Rattle.seat_programs.specs.declared.task.Task.{Task}
use Rattle.corr_core.specs.declared.marks.Plan as id_plan
use Rattle.call_run.specs.call_client.specs.call_errors.specs.declared.retries.Retry.{Retry}
use Rattle.call_run.specs.call_client.specs.call_attempts.specs.ClientAtBothTables.{Both}
use Rattle.call_run.specs.call_client.specs.call_attempts.specs.WaitingRetries.{without_oldest, RetriedBy, Retried, none_yet, one_more}
use Rattle.call_run.specs.call_client.specs.ClientBetweenOperations.{Stand, stand, both_of, Acted}
use Rattle.call_run.specs.call_client.specs.ClientRun.{Course, Ran, begins}
use Rattle.call_run.specs.Threads.{Thread, IsThread}
use Rattle.call_places.specs.DeedsOfCallClient.{Deed, operates, retries, retries_of, ran_deeds, deeds}

module _ {O : Type 0} {g : Ghosts O} (state : O → OutState) (p : Plan) (q : id_plan.Plan) where
  -- by these deeds the client came from what it had to what it has: by none, by those of two such in turn, by a retry that was taken out, and by an operation, which is one of these
  pub record Walks (xs : List Task) (W : List (Deed g state p q) → Both → Both → Type 0) : Type 0 where
    pub none : (s t : Both) → t ≡ s → W [] s t
    pub in_turn : (ds es : List (Deed g state p q)) (s u t : Both) → W ds s u → W es u t → W (ds ++ es) s t
    pub retry : (u t : Both) (r : Retry) (rest : List Retry) → u.calls.books.retries ≡ r ∷ rest → (by : RetriedBy state p q r (without_oldest rest u) t) → W (retries r (without_oldest rest u) t by ∷ []) u t
    pub operation : (n : ℕ) (x : Task) → get_elem? xs n ≡ some x → (by : Option Outcome) (s t : Stand g) (a : Acted state p q x.number x.op by s t) → W (operates x by s t a ∷ []) (both_of s) (both_of t)

  module _ {xs : List Task} {W : List (Deed g state p q) → Both → Both → Type 0} (w : Walks xs W) where
    pub retries_walk : (s t : Both) (r : Retried state p q s t) → W (retries_of {g = g} state p q s t r) s t
    retries_walk s _ none_yet = w.none s s refl
    retries_walk s _ (one_more u t r rest before waits fed by) = w.in_turn (retries_of {g = g} state p q s u before) (retries r (without_oldest rest u) t by ∷ []) s u t (retries_walk s u before) (w.retry u t r rest waits by)

    pub ran_walk : (n : ℕ) (s t : Course g) (h : Ran state p q xs n s t) → W (ran_deeds state p q xs n s t h) (both_of s.has) (both_of t.has)
    ran_walk zero s t e = w.none (both_of s.has) (both_of t.has) (ap (λ (c : Course g). both_of c.has) e)
    ran_walk (suc n) s t h =
        let m = h.4 in
        let now : Deed g state p q = operates h.1 m.by m.ready t.has m.acted in
        let waited : List (Deed g state p q) = retries_of state p q (both_of h.0.has) (both_of m.ready) m.retried.all.retried in
        w.in_turn (ran_deeds state p q xs n s h.0 h.2) (waited ++ now ∷ []) (both_of s.has) (both_of h.0.has) (both_of t.has) (ran_walk n s h.0 h.2)
        (w.in_turn waited (now ∷ []) (both_of h.0.has) (both_of m.ready) (both_of t.has) (retries_walk (both_of h.0.has) (both_of m.ready) m.retried.all.retried) (w.operation n h.1 h.3 m.by m.ready t.has m.acted))

-- of all that a thread did
pub run_walk : {O : Type 0} {g : Ghosts O} {state : O → OutState} {p : Plan} {q : id_plan.Plan} {first : ℕ} (x : Thread g) (th : IsThread state p q first x) {W : List (Deed g state p q) → Both → Both → Type 0} → Walks state p q x.tasks W → W (deeds x th) (both_of (stand x.began)) (both_of th.ran.last)
run_walk {g = g} {state = state} {p = p} {q = q} x th w =
    let came : Course g = record { has = stand th.ran.came; told = th.ran.came.outcomes.items; names = th.ran.ran.names } in
    w.in_turn (ran_deeds state p q x.tasks th.ran.made (begins x.began) came th.ran.ran.ran) (retries_of {g = g} state p q (both_of (stand th.ran.came)) (both_of th.ran.last) th.ran.ends.1.all.retried)
    (both_of (stand x.began)) (both_of (stand th.ran.came)) (both_of th.ran.last) (ran_walk state p q w th.ran.made (begins x.began) came th.ran.ran.ran)
    (retries_walk state p q w (both_of (stand th.ran.came)) (both_of th.ran.last) th.ran.ends.1.all.retried)
