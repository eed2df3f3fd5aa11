-- Which names a client has seen: that of each socket that it opened or found, and each for which it waited before its first operation.
use Rattle.std.proofs.Common.{◌≡◌, ◌⊎◌, ℕ, zero, suc, ◌+◌, inl, inr, List, [], ◌∷◌, ◌++◌, Some, None, zero-le, refl, sym, ap, ◌∙◌, subst}
use Rattle.std.specs.Prelude.{Option}
use Rattle.std.specs.List.{AllByRecursion}
use Rattle.std.proofs.lemmas.Option.{none-some}
use mathlib.Core.Option.{some, some-injective, some-ne-none}
use lib.ListN.{get_elem?}
use Rattle.sock_io.specs.declared.link.Out.{Ghosts}
use Rattle.sock_io.specs.LinkHalves.{OutState}
use Rattle.sock_words.specs.declared.outcome.Outcome.{Outcome}
use Rattle.sock_words.specs.declared.outcome.Outcome.TheVariants as outcome
use Rattle.sock_words.specs.declared.plain.Plan.{Plan}
use Rattle.sock_model.specs.declared.view.View as sock_view
use Rattle.sock_model.specs.SocketTableLayout.{name_index}
use Rattle.attempts_told.specs.Below.SockRule.Letter.{Letter}
use Rattle.seat_programs.specs.declared.task.Op.{Op}
use Rattle.seat_programs.specs.declared.task.Op.TheVariants as ops
use Rattle.seat_programs.specs.declared.task.Task.{Task}
use Rattle.seat_programs.specs.Explained.{IsOpen}
use Rattle.seat_programs.specs.ExplainedCalls.{Fixed, Order, Seeks}
use Rattle.corr_core.specs.declared.marks.Plan as id_plan
use Rattle.sock_message.specs.Asked.{Asked, name_of}
use Rattle.attempts_told.specs.Below.CallAttempts.ClientAtBothTables.{Both}
use Rattle.attempts_told.specs.Below.CallAttempts.CallBeginning.{BegunAs}
use Rattle.attempts_told.specs.Below.CallAttempts.AttemptLetters.{letter_for}
use Rattle.attempts_told.specs.Below.CallAttempts.WaitingRetries.{Retried, none_yet, one_more}
use Rattle.attempts_told.specs.Below.CallClient.ClientBetweenOperations.{Stand, stand, both_of, letter_of, Acted}
use Rattle.attempts_told.specs.Below.CallClient.ClientRun.{Course, Ran, begins}
use Rattle.attempts_told.specs.Below.CallErrors.ClientBooks.{CallStand, Books}
use Rattle.attempts_told.specs.Below.CallRun.Threads.{FoundEach, Thread, IsThread, AreThreads, opens_of}
use Rattle.attempts_told.specs.call_whys.specs.call_places.specs.DeedsOfCallClient.{Deed, operates, retries_of, ran_deeds, deeds}
use Rattle.attempts_told.specs.call_whys.specs.call_told.proofs.ListElementsByPlace.{all_both}
use Rattle.attempts_told.specs.call_whys.specs.call_deeds.proofs.MessageDeeds.{send_message, attempt_message}
use Rattle.attempts_told.specs.call_whys.specs.call_deeds.proofs.OperationsToldOnce.{came, made}
use Rattle.attempts_told.specs.Below.RpcClient.OpenOutcomes.{OpenedBy}
use Rattle.attempts_told.specs.call_whys.specs.call_places.specs.sock_deeds.proofs.GrowingSocketNotes.{found_grew}
use Rattle.attempts_told.specs.call_whys.specs.call_places.specs.sock_deeds.proofs.NamesWithoutSocket.{SeenBy, message_seen, held_seen, failed_seen, opened_seen}
use Rattle.failed_reasons.specs.Missed.{acted_missed}
use Rattle.failed_reasons.proofs.Before.{IsRetry}

module _ {O : Type 0} (g : Ghosts O) (state : O → OutState) (p : Plan) (q : id_plan.Plan) where
  -- ## By an operation

  -- a call that began found its first name
  begun_seen : (asked : Asked) (id : ℕ) (s t : Stand g) → BegunAs state p q asked id (both_of s) (both_of t) → SeenBy p (name_of asked 0) t.me.0
  begun_seen asked id s t b =
      let msg : Letter = letter_for asked id 0 zero-le in
      let m = attempt_message state p q b.socket msg (name_of asked 0) s.me.0 b.at (both_of t) b.made_for.found b.attempted in
      elim (message_seen state p (name_of asked 0) msg m.0 s.me.0 t.me.0 m.2) [ inl e ↦ absurd (m.1 e) | inr seen ↦ seen ]

  or_seen : (n m : ℕ) (v : sock_view.View) (o : Outcome) → m ≡ n → (o ≡ outcome.Unopened) ⊎ SeenBy p m v → (Some o ≡ Some outcome.Unopened) ⊎ SeenBy p n v
  or_seen n m v o e h = elim h [ inl u ↦ inl (ap Some u) | inr seen ↦ inr (subst (λ (y : ℕ). SeenBy p y v) e seen) ]

  -- what looks for a name finds no socket there, or has seen it from then on
  pub sought_seen : (clients : List (List Task)) (outcomes : List (Option Outcome)) (fixed : Fixed) (gave : ℕ → List ℕ) (orders : ℕ → Order) (n number : ℕ) (op : Op) (by : Option Outcome) (s t : Stand g)
      → Acted state p q number op by s t → Seeks p clients outcomes fixed gave orders n op → (by ≡ Some outcome.Unopened) ⊎ SeenBy p n t.me.0
  sought_seen clients outcomes fixed gave orders n number (ops.Fail m code) (Some by) s t a e = or_seen n m t.me.0 by e (failed_seen p m code by s.me.0 t.me.0 a.0)
  sought_seen clients outcomes fixed gave orders n number (ops.Hold m) (Some by) s t a e = or_seen n m t.me.0 by e (held_seen p m by s.held s.me.0 t.held t.me.0 a.0)
  sought_seen clients outcomes fixed gave orders n number (ops.Send m bytes) by s t a e =
      elim (message_seen state p m (letter_of number bytes) by s.me.0 t.me.0 (send_message state p q.slots (letter_of number bytes) m by s.me.0 s.calls t.me.0 t.calls a.0)) [ inl u ↦ inl u | inr seen ↦ inr (subst (λ (y : ℕ). SeenBy p y t.me.0) e seen) ]
  sought_seen clients outcomes fixed gave orders n number (ops.Call asked) (Some outcome.Unopened) s t a e = inl refl
  sought_seen clients outcomes fixed gave orders n number (ops.Call asked) None s t a e = inr (subst (λ (y : ℕ). SeenBy p y t.me.0) e (begun_seen asked a.0 s t a.1))
  sought_seen clients outcomes fixed gave orders n number (ops.Open m k) by s t a e = elim e [ ]
  sought_seen clients outcomes fixed gave orders n number (ops.Drop m) by s t a e = elim e [ ]
  sought_seen clients outcomes fixed gave orders n number (ops.Expire of) by s t a e = elim e [ ]
  sought_seen clients outcomes fixed gave orders n number (ops.Join of) by s t a e = elim e [ ]
  sought_seen clients outcomes fixed gave orders n number _ _ s t a e = elim a [ ]

  -- an `open` has an outcome, and where that is a socket it has seen the name
  pub opens_seen : (n k number : ℕ) (by : Option Outcome) (s t : Stand g) → Acted state p q number (ops.Open n k) by s t → (o : Outcome) × (by ≡ Some o) × ((slot version link : ℕ) → o ≡ outcome.Opened slot version link → SeenBy p n t.me.0)
  opens_seen n k number (Some o) s t a = (o, refl, λ slot version link e. opened_seen p n number a.0.pass.link slot version link s.me t.me (subst (λ (x : Outcome). OpenedBy p n number a.0.pass.link x s.me t.me) e a.0.opened))
  opens_seen n k number None s t a = elim a [ ]

  name_in : Op → ℕ
  name_in (ops.Call asked) = name_of asked 0
  name_in other = 0

  -- a first attempt had found the name
  pub missed_seen : (code number : ℕ) (op : Op) (by : Option Outcome) (s t : Stand g) (a : Acted state p q number op by s t) → acted_missed state p q number op by s t a ≡ Some code → (asked : Asked) → op ≡ ops.Call asked → SeenBy p (name_of asked 0) t.me.0
  unfolding name_in
  missed_seen code number (ops.Call call) None s t a is asked e = subst (λ (n : ℕ). SeenBy p n t.me.0) (ap name_in e) (begun_seen call a.0 s t a.1)
  missed_seen code number (ops.Call call) (Some by) s t a is asked e = absurd (none-some code is)
  missed_seen code number _ by s t a is asked e = absurd (none-some code is)

  -- ## By waiting

  pub waited_seen : (names : List ℕ) (v w : sock_view.View) → FoundEach p names v w → (i n : ℕ) → get_elem? names i ≡ some n → SeenBy p n w
  waited_seen [] v w h i n at = absurd (some-ne-none n (sym at))
  waited_seen (m ∷ ms) v w h zero n at = first_seen ms h.1 w h.3 (0, ap (λ (y : sock_view.View). get_elem? y.found 0) h.2.1.view ∙ ap (λ (x : ℕ). some (name_index p x)) (some-injective m n at))
    where
      first_seen : (ns : List ℕ) (u w : sock_view.View) → FoundEach p ns u w → SeenBy p n u → SeenBy p n w
      first_seen [] u w e seen = subst (SeenBy p n) (sym e) seen
      first_seen (k ∷ ks) u w e seen = first_seen ks e.1 w e.3 ((found_grew (name_index p k) e.0.0 u e.1 e.2.1).seen (name_index p n) seen)
  waited_seen (m ∷ ms) v w h (suc i) n at = waited_seen ms h.1 w h.3 i n at

  -- all but the setup's client waited for these
  pub names_are : (names : List ℕ) (first : ℕ) (xs : List (Thread g)) → AreThreads state p q names first xs → (i : ℕ) (x : Thread g) → get_elem? xs i ≡ some x → x.names ≡ names
  names_are names first [] a i x at = absurd (some-ne-none x (sym at))
  names_are names first (y ∷ ys) a zero x at = ap (λ (z : Thread g). z.names) (sym (some-injective y x at)) ∙ a.1
  names_are names first (y ∷ ys) a (suc i) x at = names_are names (first + opens_of y.tasks) ys a.2 i x at

  -- ## Where nothing but sockets is opened no retry waits

  abbrev NoRetry : Deed g state p q → Type 0
  NoRetry d = IsRetry d → ⊥

  abbrev NoneWaits : CallStand → Type 0
  NoneWaits s = s.books.retries ≡ []

  retried_none : (s t : Both) (h : Retried state p q s t) → NoneWaits s.calls → NoneWaits t.calls × AllByRecursion NoRetry (retries_of {g = g} state p q s t h)
  retried_none s _ none_yet e = (e, tt)
  retried_none s _ (one_more u t r rest more waits f by) e = let n = (retried_none s u more e).0 in absurd (cc)

  open_calls : (number : ℕ) (op : Op) (by : Option Outcome) (s t : Stand g) → IsOpen op → Acted state p q number op by s t → t.calls ≡ s.calls
  open_calls number (ops.Open n k) (Some by) s t is a = a.2
  open_calls number (ops.Open n k) None s t is a = elim a [ ]
  open_calls number _ by s t is a = elim is [ ]

  ran_none : (xs : List Task) → ((k : ℕ) (x : Task) → get_elem? xs k ≡ some x → IsOpen x.op) → (n : ℕ) (s t : Course g) (h : Ran state p q xs n s t) → NoneWaits s.has.calls → NoneWaits t.has.calls × AllByRecursion NoRetry (ran_deeds state p q xs n s t h)
  ran_none xs opens zero s t h e = (ap (λ (c : Course g). c.has.calls.books.retries) h ∙ e, tt)
  ran_none xs opens (suc n) s t h e =
      let m = h.4 in let now : Deed g state p q = operates h.1 m.by m.ready t.has m.acted in
      let again : List (Deed g state p q) = retries_of {g = g} state p q (both_of h.0.has) (both_of m.ready) m.retried.all.retried in
      let a = ran_none xs opens n s h.0 h.2 e in let b = retried_none (both_of h.0.has) (both_of m.ready) m.retried.all.retried a.0 in (
        ap (λ (c : CallStand). c.books.retries) (open_calls h.1.number h.1.op m.by m.ready t.has (opens n h.1 h.3) m.acted) ∙ b.0,
        all_both NoRetry (ran_deeds state p q xs n s h.0 h.2) (again ++ now ∷ []) a.1 (all_both NoRetry again (now ∷ []) b.1 (λ is. is, tt)),
      )

pub none_again : {O : Type 0} {g : Ghosts O} {state : O → OutState} {p : Plan} {q : id_plan.Plan} {first : ℕ} (x : Thread g) (th : IsThread state p q first x) → ((k : ℕ) (t : Task) → get_elem? x.tasks k ≡ some t → IsOpen t.op)
    → AllByRecursion (λ (d : Deed g state p q). IsRetry d → ⊥) (deeds x th)
none_again {O} {g} {state} {p} {q} x th opens =
    let begin = ap (λ (b : Books). b.retries) th.nothing.books in
    let a = ran_none g state p q x.tasks opens th.ran.made (begins x.began) (came x th) (made x th) begin in
    let late : List (Deed g state p q) = retries_of {g = g} state p q (both_of (stand th.ran.came)) (both_of th.ran.last) th.ran.ends.1.all.retried in
    all_both (λ (d : Deed g state p q). IsRetry d → ⊥) (ran_deeds state p q x.tasks th.ran.made (begins x.began) (came x th) (made x th)) late a.1
    (retried_none g state p q (both_of (stand th.ran.came)) (both_of th.ran.last) th.ran.ends.1.all.retried a.0).1
