-- Whatever was asked by a call of which an attempt was made is a task of one of the clients.
use Rattle.std.proofs.Common.{◌≡◌, ℕ, zero, suc, ◌+◌, inl, inr, List, [], ◌∷◌, ◌++◌, length, refl, sym, subst}
use Rattle.std.specs.Prelude.{Option}
use mathlib.Core.Option.{some, some-injective, some-ne-none}
use lib.ListN.{get_elem?}
use Rattle.sock_io.specs.declared.link.Out.{Ghosts}
use Rattle.sock_io.specs.LinkHalves.{OutState}
use Rattle.sock_words.specs.declared.outcome.Outcome.{Outcome}
use Rattle.sock_words.specs.declared.plain.Plan.{Plan}
use Rattle.seat_programs.specs.declared.task.Op.TheVariants as ops
use Rattle.seat_programs.specs.declared.task.Task.{Task}
use Rattle.seat_programs.specs.Explained.{IsTask}
use Rattle.corr_core.specs.declared.marks.Plan as id_plan
use Rattle.sock_message.specs.Asked.{Asked}
use Rattle.attempts_told.specs.Below.CallAttempts.ClientAtBothTables.{Both}
use Rattle.attempts_told.specs.Below.CallAttempts.WaitingRetries.{without_oldest, had_ended, overtaken, went_again, Retried, none_yet, one_more}
use Rattle.attempts_told.specs.Below.CallClient.ClientBetweenOperations.{stand, both_of}
use Rattle.attempts_told.specs.Below.CallClient.ClientRun.{Course, Ran, begins}
use Rattle.attempts_told.specs.Below.CallRun.Threads.{Thread, IsThread}
use Rattle.attempts_told.specs.call_whys.specs.call_places.specs.DeedsOfCallClient.{Deed, operates, retries, retries_of, ran_deeds, deeds}
use Rattle.attempts_told.specs.call_whys.specs.call_deeds.specs.RetriedCalls.{Again, asked_by, asked_in, asked_before, all_asked}
use Rattle.attempts_told.specs.call_whys.specs.call_deeds.specs.ScriptsWithCalls.{IsLater}
use Rattle.attempts_told.specs.call_whys.specs.call_places.specs.sock_deeds.specs.SocketTableRun.{IsOperation}
use Rattle.attempts_told.specs.call_whys.specs.call_places.specs.sock_deeds.proofs.Flats.{append_cases, append_first, append_later}
use Rattle.failed_reasons.proofs.AttemptLosses.{IsAskedIn}

one_there : {A : Type 0} (x y : A) (j : ℕ) → get_elem? (x ∷ []) j ≡ some y → x ≡ y
one_there x y zero e = some-injective x y e
one_there x y (suc j) e = absurd (some-ne-none y (sym e))

-- what was asked by retries has this property
module _ (A : Again → Type 0) where
  abbrev AllAsked : List Again → Type 0
  AllAsked ys = (j : ℕ) (y : Again) → get_elem? ys j ≡ some y → A y

  first_asked : (a b : List Again) → AllAsked (a ++ b) → AllAsked a
  first_asked a b all j y at = all j y (append_first a b j y at)

  later_asked : (a b : List Again) → AllAsked (a ++ b) → AllAsked b
  later_asked a b all j y at = all (length a + j) y (append_later a b j y at)

-- a property of the operations and of what was asked by retries
module _ {O : Type 0} {g : Ghosts O} (state : O → OutState) (p : Plan) (q : id_plan.Plan) (T : Task → Type 0) (A : Again → Type 0) where
  -- a deed whose operation, or whose retry, has it
  abbrev pub HasIt : Deed g state p q → Type 0
  HasIt (operates x by s t a) = T x
  HasIt (retries r s t by) = (j : ℕ) (y : Again) → get_elem? (asked_by state p q r s t by) j ≡ some y → A y

  abbrev AllHave : List (Deed g state p q) → Type 0
  AllHave ds = (i : ℕ) (d : Deed g state p q) → get_elem? ds i ≡ some d → HasIt d

  both_have : (a b : List (Deed g state p q)) → AllHave a → AllHave b → AllHave (a ++ b)
  both_have a b x y i d at = elim (append_cases a b i d at) [ inl h ↦ x i d h | inr w ↦ y w.0 d w.2 ]

  one_has : (d : Deed g state p q) → HasIt d → AllHave (d ∷ [])
  one_has d h i e at = subst HasIt (one_there d e i at) h

  retried_have : (s t : Both) (h : Retried state p q s t) → AllAsked A (asked_in state p q s t h) → AllHave (retries_of {g = g} state p q s t h)
  retried_have s _ none_yet all = λ i d at. absurd (some-ne-none d (sym at))
  retried_have s _ (one_more u t r rest more e f by) all =
      let d : Deed g state p q = retries r (without_oldest rest u) t by in
      let before : List Again = asked_in state p q s u more in let now : List Again = asked_by state p q r (without_oldest rest u) t by in
      both_have (retries_of {g = g} state p q s u more) (d ∷ []) (retried_have s u more (first_asked A before now all)) (one_has d (later_asked A before now all))

  ran_have : (xs : List Task) → ((j : ℕ) (x : Task) → get_elem? xs j ≡ some x → T x) → (n : ℕ) (s t : Course g) (h : Ran state p q xs n s t) → AllAsked A (asked_before state p q xs n s t h) → AllHave (ran_deeds state p q xs n s t h)
  ran_have xs each zero s t e all = λ i d at. absurd (some-ne-none d (sym at))
  ran_have xs each (suc n) s t h all =
      let m = h.4 in let d : Deed g state p q = operates h.1 m.by m.ready t.has m.acted in
      let again : List (Deed g state p q) = retries_of {g = g} state p q (both_of h.0.has) (both_of m.ready) m.retried.all.retried in
      let before : List Again = asked_before state p q xs n s h.0 h.2 in let now : List Again = asked_in state p q (both_of h.0.has) (both_of m.ready) m.retried.all.retried in
      both_have (ran_deeds state p q xs n s h.0 h.2) (again ++ d ∷ []) (ran_have xs each n s h.0 h.2 (first_asked A before now all))
      (both_have again (d ∷ []) (retried_have (both_of h.0.has) (both_of m.ready) m.retried.all.retried (later_asked A before now all)) (one_has d (each n h.1 h.3)))

-- all deeds of a client
pub deeds_have : {O : Type 0} {g : Ghosts O} {state : O → OutState} {p : Plan} {q : id_plan.Plan} {first : ℕ} (T : Task → Type 0) (A : Again → Type 0) (x : Thread g) (th : IsThread state p q first x) → ((j : ℕ) (y : Task) → get_elem? x.tasks j ≡ some y → T y) → ((j : ℕ) (y : Again) → get_elem? (all_asked x th) j ≡ some y → A y)
    → (i : ℕ) (d : Deed g state p q) → get_elem? (deeds x th) i ≡ some d → HasIt state p q T A d
deeds_have {O} {g} {state} {p} {q} T A x th each all =
    let r = th.ran in let came : Course g = record { has = stand r.came; told = r.came.outcomes.items; names = r.ran.names } in
    let before : List Again = asked_before state p q x.tasks r.made (begins x.began) came r.ran.ran in
    let now : List Again = asked_in state p q (both_of (stand r.came)) (both_of r.last) r.ends.1.all.retried in
    both_have state p q T A (ran_deeds state p q x.tasks r.made (begins x.began) came r.ran.ran) (retries_of {g = g} state p q (both_of (stand r.came)) (both_of r.last) r.ends.1.all.retried)
    (ran_have state p q T A x.tasks each r.made (begins x.began) came r.ran.ran (first_asked A before now all))
    (retried_have {g = g} state p q T A (both_of (stand r.came)) (both_of r.last) r.ends.1.all.retried (later_asked A before now all))

-- where the client's operations are tasks, a call's with its own number, and what its retries asked for is one of a call
module _ (every : List (List Task)) (outcomes : List (Option Outcome)) where
  abbrev IsOwn : Task → Type 0
  IsOwn x = (asked : Asked) → x.op ≡ ops.Call asked → (client : ℕ) × IsOperation every outcomes client asked.operation (ops.Call asked)

  -- a task that is a call is that of its operation
  pub own_task : (client : ℕ) (x : Task) → IsTask every outcomes client x → ((asked : Asked) → x.op ≡ ops.Call asked → asked.operation ≡ x.number) → IsOwn x
  own_task client x is fits asked op =
      let same : x ≡ record { number = asked.operation; op = ops.Call asked } = λ i. record { number = sym (fits asked op) i; op = op i } in (client, subst (IsTask every outcomes client) same is)

  asked_of : {O : Type 0} {g : Ghosts O} {state : O → OutState} {p : Plan} {q : id_plan.Plan} (d : Deed g state p q) → HasIt state p q IsOwn (IsLater every outcomes) d → (asked : Asked) → IsAskedIn d asked → (client : ℕ) × IsOperation every outcomes client asked.operation (ops.Call asked)
  asked_of (operates x by s t a) h asked is = h asked is
  asked_of (retries r s t (had_ended e)) h asked is = elim is [ ]
  asked_of (retries r s t (overtaken k u l o)) h asked is = elim is [ ]
  asked_of (retries r s t (went_again k u l w)) h asked is =
      let later = h 0 record { asked = k.content; attempt = r.attempt } refl in subst (λ (a : Asked). (client : ℕ) × IsOperation every outcomes client a.operation (ops.Call a)) is (later.client, later.is)

  pub asked_task : {O : Type 0} {g : Ghosts O} {state : O → OutState} {p : Plan} {q : id_plan.Plan} {first : ℕ} (x : Thread g) (th : IsThread state p q first x) → ((j : ℕ) (y : Task) → get_elem? x.tasks j ≡ some y → IsOwn y) → ((j : ℕ) (y : Again) → get_elem? (all_asked x th) j ≡ some y → IsLater every outcomes y)
      → (i : ℕ) (d : Deed g state p q) → get_elem? (deeds x th) i ≡ some d → (asked : Asked) → IsAskedIn d asked → (client : ℕ) × IsOperation every outcomes client asked.operation (ops.Call asked)
  asked_task {state = state} {p = p} {q = q} x th own later i d at = asked_of d (deeds_have IsOwn (IsLater every outcomes) x th own later i d at)
