-- The operations of a client with calls, one after the other, as deeds of its seat of the sockets.
use Rattle.std.proofs.Common.{◌≡◌, ℕ, zero, suc, ◌+◌, Option, List, [], ◌∷◌, ◌++◌, length, take, flat_map, length-append, append_assoc, append-nil, refl, sym, ap, ◌∙◌, subst, arith}
use mathlib.Core.Option.{some, some-ne-none}
use lib.ListN.{get_elem?}
use Rattle.sock_io.specs.declared.link.Out.{Ghosts}
use Rattle.sock_io.specs.LinkHalves.{OutState}
use Rattle.sock_words.specs.declared.outcome.Outcome.{Outcome}
use Rattle.sock_words.specs.declared.plain.Plan.{Plan}
use Rattle.chain_steps.proofs.TicketLists.{old, new, at_snoc}
use Rattle.seat_programs.specs.declared.task.Task.{Task}
use Rattle.corr_core.specs.declared.marks.Plan as id_plan
use Rattle.call_places.specs.Below.RpcClient.Told.{Told}
use Rattle.call_places.specs.Below.RpcClient.Held.{Held}
use Rattle.call_places.specs.Below.RpcClient.ToldOfOperation.{telling}
use Rattle.call_places.specs.Below.CallAttempts.ClientAtBothTables.{Both}
use Rattle.call_places.specs.Below.CallAttempts.WaitingRetries.{without_oldest, Retried, none_yet, one_more}
use Rattle.call_places.specs.Below.CallClient.ClientBetweenOperations.{Stand, both_of}
use Rattle.call_places.specs.Below.CallClient.ClientRun.{Course, Ran, RetriedHere}
use Rattle.call_places.specs.Below.CallRun.Threads.{opens_of, LinksDown}
use Rattle.call_places.specs.sock_deeds.specs.Deeds.{Hand}
use Rattle.call_places.specs.sock_deeds.specs.SocketTableRun.{IsOperation, numbers_at}
use Rattle.call_places.specs.sock_deeds.proofs.Flats.{append_first, append_later, flat-append}
use Rattle.call_places.specs.sock_deeds.proofs.StepsOfDeeds.{no_step, then_steps, steps_as}
use Rattle.call_deeds.specs.RetriedCalls.{Again, asked_by, asked_in, asked_before}
use Rattle.call_deeds.specs.ScriptsWithCalls.{IsLater, HaveLinks}
use Rattle.call_deeds.proofs.OperationsAsDeeds.{hand_of, socks_in, IsSaid, StepsFor, retry_steps, acted_steps}
use Rattle.call_deeds.proofs.LinksOfTasks.{take_next, link_at, IsOwnCall, right_by, links_after}

-- an operation that was made, and what its client told of it at once
pub record Result : Type 0 where
  pub task : Task
  pub by : Option Outcome

abbrev pub telling_of : Result → List Told
telling_of r = telling r.task.number r.by

module _ {O : Type 0} {g : Ghosts O} (state : O → OutState) (p : Plan) (q : id_plan.Plan) where
  -- those of the first n operations
  abbrev pub results : (xs : List Task) (n : ℕ) (s t : Course g) → Ran state p q xs n s t → List Result
  results xs zero s t e = []
  results xs (suc n) s t h = results xs n s h.0 h.2 ++ record { task = h.1; by = h.4.by } ∷ []

  pub results_long : (xs : List Task) (n : ℕ) (s t : Course g) (h : Ran state p q xs n s t) → length (results xs n s t h) ≡ n
  results_long xs zero s t e = refl
  results_long xs (suc n) s t h = let a = results_long xs n s h.0 h.2 in let last : Result = record { task = h.1; by = h.4.by } in let b = length-append (results xs n s h.0 h.2) (last ∷ []) in omega arith

  pub result_at : (xs : List Task) (n : ℕ) (s t : Course g) (h : Ran state p q xs n s t) (k : ℕ) (r : Result) → get_elem? (results xs n s t h) k ≡ some r → get_elem? xs k ≡ some r.task
  result_at xs zero s t e k r at = absurd (some-ne-none r (sym at))
  result_at xs (suc n) s t h k r at = let last : Result = record { task = h.1; by = h.4.by } in elim (at_snoc (results xs n s h.0 h.2) last k r at) [
    | old there lt ↦ result_at xs n s h.0 h.2 k r there
    | new place is ↦ ap (get_elem? xs) (place ∙ results_long xs n s h.0 h.2) ∙ (h.3 ∙ ap (λ (x : Result). some x.task) is)
  ]

  pub told_is : (xs : List Task) (n : ℕ) (s t : Course g) (h : Ran state p q xs n s t) → t.told ≡ s.told ++ flat_map telling_of (results xs n s t h)
  told_is xs zero s t e = ap (λ (c : Course g). c.told) e ∙ sym (append-nil s.told)
  told_is xs (suc n) s t h =
      let last : Result = record { task = h.1; by = h.4.by } in
      let rs = results xs n s h.0 h.2 in
      h.4.told ∙ (ap (λ l. l ++ telling_of last) (told_is xs n s h.0 h.2) ∙ (append_assoc s.told (flat_map telling_of rs) (telling_of last)
      ∙ ap (λ l. s.told ++ l) (ap (λ l. flat_map telling_of rs ++ l) (sym (append-nil (telling_of last))) ∙ sym (flat-append telling_of rs (last ∷ [])))))

module _ (clients : List (List Task)) (outcomes : List (Option Outcome)) where
  abbrev pub AreLater : List Again → Type 0
  AreLater l = (i : ℕ) (again : Again) → get_elem? l i ≡ some again → IsLater clients outcomes again

  pub later_first : (a b : List Again) → AreLater (a ++ b) → AreLater a
  later_first a b all i x at = all i x (append_first a b i x at)

  pub later_last : (a b : List Again) → AreLater (a ++ b) → AreLater b
  later_last a b all i x at = all (length a + i) x (append_later a b i x at)

module _ {O : Type 0} (g : Ghosts O) (state : O → OutState) (p : Plan) (q : id_plan.Plan) (clients : List (List Task)) (outcomes : List (Option Outcome)) (c : ℕ) where
  abbrev StepsHere : List ℕ → Hand → Hand → Type 0
  StepsHere ns s t = StepsFor g state p clients outcomes c ns s t

  abbrev Later : List Again → Type 0
  Later l = AreLater clients outcomes l

  -- the retries that waited
  pub retried_steps : (held : List Held) (s t : Both) (r : Retried state p q s t) → Later (asked_in state p q s t r) → StepsHere [] (socks_in held s) (socks_in held t)
  retried_steps held s _ none_yet are = no_step (socks_in held s) (socks_in held s) refl
  retried_steps held s _ (one_more u t r rest before waits fed by) are =
      let first = asked_in state p q s u before in
      let then = asked_by state p q r (without_oldest rest u) t by in
      then_steps [] [] (socks_in held s) (socks_in held u) (socks_in held t)
      (retried_steps held s u before (later_first clients outcomes first then are)) (retry_steps g state p q clients outcomes c held r (without_oldest rest u) t by (later_last clients outcomes first then are))

  pub waiting_steps : (s t : Stand g) (r : RetriedHere state p q s t) → Later (asked_in state p q (both_of s) (both_of t) r.all.retried) → StepsHere [] (hand_of s) (hand_of t)
  waiting_steps s t r are = subst (λ (held : List Held). StepsHere [] (hand_of s) record { view = t.me.0; held = held }) (sym r.own.held) (retried_steps s.held (both_of s) (both_of t) r.all.retried are)

  -- the first n operations
  pub ran_steps : (first : ℕ) (xs : List Task) → HaveLinks first xs → ((k : ℕ) (x : Task) → get_elem? xs k ≡ some x → IsOperation clients outcomes c x.number x.op × IsOwnCall x.number x.op)
      → (n : ℕ) (s t : Course g) (h : Ran state p q xs n s t) → LinksDown first s.has.passes → ((k : ℕ) (r : Result) → get_elem? (results state p q xs n s t h) k ≡ some r → IsSaid clients outcomes r.task.number r.task.op r.by) → Later (asked_before state p q xs n s t h)
      → StepsHere (flat_map numbers_at (take n xs)) (hand_of s.has) (hand_of t.has)
  ran_steps first xs links tasks zero s t e down said are = steps_as [] (flat_map numbers_at (take zero xs)) (hand_of s.has) (hand_of t.has) (none_taken xs) (no_step (hand_of s.has) (hand_of t.has) (ap (λ (u : Course g). hand_of u.has) e))
    where
      none_taken : (ts : List Task) → [] ≡ flat_map numbers_at (take zero ts)
      none_taken [] = refl
      none_taken (y ∷ ys) = refl
  ran_steps first xs links tasks (suc n) s t h down said are =
      let m = h.4 in
      let x = h.1 in
      let last : Result = record { task = x; by = m.by } in
      let rs = results state p q xs n s h.0 h.2 in
      let early = asked_before state p q xs n s h.0 h.2 in
      let late = asked_in state p q (both_of h.0.has) (both_of m.ready) m.retried.all.retried in
      let before = ran_steps first xs links tasks n s h.0 h.2 down (λ k r at. said k r (append_first rs (last ∷ []) k r at)) (later_first clients outcomes early late are) in
      let retried = waiting_steps h.0.has m.ready m.retried (later_last clients outcomes early late are) in
      let here = said (length rs + 0) last (append_later rs (last ∷ []) 0 last refl) in
      let down_here = subst (λ l. LinksDown (first + opens_of (take n xs)) l) (sym m.retried.own.passes) (links_after state p q first xs n s h.0 down h.2) in
      let right = right_by state p q (first + opens_of (take n xs)) x.number x.op m.ready t.has down_here (link_at first xs n x links h.3) (tasks n x h.3).1 in
      let now = acted_steps g state p q clients outcomes c x.number x.op m.by m.ready t.has (tasks n x h.3).0 here right m.acted in
      let numbers : flat_map numbers_at (take n xs) ++ numbers_at x ≡ flat_map numbers_at (take (suc n) xs) = ap (λ l. flat_map numbers_at (take n xs) ++ l) (sym (append-nil (numbers_at x))) ∙ (sym (flat-append numbers_at (take n xs) (x ∷ [])) ∙ ap (flat_map numbers_at) (sym (take_next xs n x h.3))) in
      steps_as (flat_map numbers_at (take n xs) ++ numbers_at x) (flat_map numbers_at (take (suc n) xs)) (hand_of s.has) (hand_of t.has) numbers
      (then_steps (flat_map numbers_at (take n xs)) (numbers_at x) (hand_of s.has) (hand_of h.0.has) (hand_of t.has) before (then_steps [] (numbers_at x) (hand_of h.0.has) (hand_of m.ready) (hand_of t.has) retried now))
