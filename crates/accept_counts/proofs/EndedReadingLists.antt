-- The lists of links whose readings ended in a run are those that the takes of the links show.
use Rattle.std.proofs.Common.{◌≡◌, ℕ, zero, suc, ◌+◌, ◌<◌, ◌≤◌, ◌==◌, ◌&&◌, ◌||◌, ◌⊎◌, Bool, true, false, cond, nat_le, leb-true, le-leb, List, [], ◌∷◌, ◌++◌, length, map, replicate, inl, inr, ⊎_elim, Ok, refl, sym, ap, ◌∙◌, subst, arith}
use Rattle.std.proofs.lemmas.Bool.{true≢false}
use Rattle.std.specs.Prelude.{Contains}
use Rattle.std.specs.List.{filter, list_any}
use mathlib.Core.Logic.{dite}
use mathlib.Core.Option.{Option, none, some}
use native.Mathlib.Decide.{ℕ_discrete}
use lib.ListN.{get_elem?}
use Rattle.sock_words.specs.declared.plain.Plan.{Plan}
use Rattle.seat_programs.specs.brpc_model.specs.LinkFailureCauses.{HasFault, reading_limit}
use Rattle.seat_programs.specs.brpc_model.specs.Items.{Item}
use Rattle.seat_programs.specs.brpc_model.specs.Operations.{Turn}
use Rattle.seat_programs.specs.brpc_model.specs.Script.{script_of}
use Rattle.seat_programs.specs.brpc_model.specs.Frame.{FrameFault}
use Rattle.seat_programs.specs.brpc_model.specs.FrameStream.{Ending, Rest, Fault, stream, is_fault}
use Rattle.seat_programs.specs.Asides.{Taking, Nothing, AtEnd, Closed, Broken}
use Rattle.seat_programs.specs.FoundAndChangedAside.{at_last, taking_in}
use Rattle.seat_programs.specs.ReaderProgram.{LIMIT}
use Rattle.seat_programs.specs.Cores.{Core, SeatState}
use Rattle.seat_programs.specs.ScheduledRuns.{from_to}
use Rattle.seat_programs.specs.Tasks.{plan_of}
use Rattle.seat_programs.specs.Ticks.{Answer, Unasked, OfPut, OfReady, OfTake, Moment, quiet, taken, ticked}
use Rattle.seat_programs.specs.ScriptSetupToEnding.{opened, set_up, played, ending, IsRunWithCalls}
use Rattle.call_causes.specs.Below.outcome_stories.specs.OperationStories.{In}
use Rattle.outcome_causes.specs.outcome_ticks.proofs.Lifted.{in_filtered, filtered_in}
use Rattle.call_causes.specs.Below.outcome_stories.proofs.Members.{in_contains, contains_in}
use Rattle.run_theorems.specs.Heard.{as_taken, taken_link, taken_at, taken_in, heard_takes, given_by}
use Rattle.run_theorems.proofs.GaveTakeByTake.{gave_heard}
use Rattle.run_theorems.proofs.HeardRuns.{taken_append}
use Rattle.call_causes.specs.call_stories.specs.LinkReadingLists.{Take, takes_by, takes_at, gave_in, is_last, is_closed, found_so, early_of_run, closed_of_run}
use Rattle.accept_counts.proofs.EarlyClosedSockets.{EndedBy}
use Rattle.accept_counts.proofs.ReadingsAtTicks.{takes_or_not}
use Rattle.call_causes.specs.Below.outcome_stories.specs.Facts.{shown_in}

any_append : {A : Type 0} (f : A → Bool) (xs ys : List A) → list_any f (xs ++ ys) ≡ (list_any f xs || list_any f ys)
any_append f [] ys = refl
any_append f (x ∷ xs) ys = by (f x) (any_append f xs ys)
  where
    by : (b : Bool) → list_any f (xs ++ ys) ≡ (list_any f xs || list_any f ys) → (b || list_any f (xs ++ ys)) ≡ ((b || list_any f xs) || list_any f ys)
    by true e = refl
    by false e = e

pub any_in : {A : Type 0} (f : A → Bool) (xs : List A) (x : A) → In x xs → f x ≡ true → list_any f xs ≡ true
any_in f [] x m is = absurd m
any_in f (y ∷ xs) x (inl e) is = ap (λ b. b || list_any f xs) (ap f (sym e) ∙ is)
any_in f (y ∷ xs) x (inr m) is = by (f y) (any_in f xs x m is)
  where
    by : (b : Bool) → list_any f xs ≡ true → (b || list_any f xs) ≡ true
    by true e = refl
    by false e = e

any_some : {A : Type 0} (f : A → Bool) (xs : List A) → list_any f xs ≡ true → (x : A) × In x xs × (f x ≡ true)
any_some f [] is = absurd (true≢false (sym is))
any_some {A = A} f (y ∷ xs) is = by (f y) refl is (any_some f xs)
  where
    by : (b : Bool) → f y ≡ b → (b || list_any f xs) ≡ true → (list_any f xs ≡ true → (x : A) × In x xs × (f x ≡ true)) → (x : A) × In x (y ∷ xs) × (f x ≡ true)
    by true e is again = (y, inl refl, e)
    by false e is again = let r = again is in (r.0, inr r.1, r.2)

pub in_range : (a n k : ℕ) → a ≤ k → k < a + n → In k (from_to a n)
in_range a zero k low high = absurd (let z : ⊥ = omega (arith, low, high) in z)
in_range a (suc n) k low high = dite (ℕ_discrete k a) (λ e. inl e) (λ far. inr (in_range (a + 1) n k (omega (arith, low, far)) (omega (arith, high))))

of_range : (a n k : ℕ) → In k (from_to a n) → k < a + n
of_range a zero k m = absurd m
of_range a (suc n) k (inl e) = omega (arith, e)
of_range a (suc n) k (inr m) = let r = of_range (a + 1) n k m in omega (arith, r)

-- ## Ticks

-- whatever a run makes of an answer
module _ (holds : Taking → Bool) (as_told : (b : Bool) (t : Taking) → holds (at_last b t) ≡ holds t) (k : ℕ) where
  abbrev Shown : List Take → Bool
  Shown ts = list_any (λ (t : Take). (t.link == k) && holds t.found) ts

  abbrev Heard : List Answer → Bool
  Heard answers = list_any holds (as_taken answers)

  by_answer : (ending : Bool) (a : Answer) (l : ℕ) → Shown (elim (taking_in ending (taken a)) as (λ o. List Take) [ none ↦ [] | some t ↦ (record { link = l; found = t }) ∷ [] ]) ≡ Heard (map (λ (j : ℕ). a) (filter (λ j. j == k) (l ∷ [])))
  by_answer ending (OfTake t) l = by (l == k)
    where
      by : (b : Bool) → ((b && holds (at_last ending t)) || false) ≡ Heard (map (λ (j : ℕ). OfTake t) (cond b (l ∷ []) []))
      by true = ap (λ x. x || false) (as_told ending t)
      by false = refl
  by_answer ending Unasked l = by (l == k)
    where
      by : (b : Bool) → false ≡ Heard (map (λ (j : ℕ). Unasked) (cond b (l ∷ []) []))
      by true = refl
      by false = refl
  by_answer ending (OfPut x) l = by (l == k)
    where
      by : (b : Bool) → false ≡ Heard (map (λ (j : ℕ). OfPut x) (cond b (l ∷ []) []))
      by true = refl
      by false = refl
  by_answer ending (OfReady x) l = by (l == k)
    where
      by : (b : Bool) → false ≡ Heard (map (λ (j : ℕ). OfReady x) (cond b (l ∷ []) []))
      by true = refl
      by false = refl

  tick_shows : (c : Core) (m : Moment) → Shown (takes_at c m) ≡ Heard (taken_at c m k)
  tick_shows c m = by_seat (get_elem? c.seats m.seat)
    where
      by_link : (l : List ℕ) → (l ≡ []) ⊎ ((x : ℕ) × (l ≡ x ∷ [])) → Shown (takes_by c.calls m l) ≡ Heard (map (λ (j : ℕ). m.answer) (filter (λ j. j == k) l))
      by_link l (inl e) = subst (λ l. Shown (takes_by c.calls m l) ≡ Heard (map (λ (j : ℕ). m.answer) (filter (λ j. j == k) l))) (sym e) refl
      by_link l (inr x) = subst (λ l. Shown (takes_by c.calls m l) ≡ Heard (map (λ (j : ℕ). m.answer) (filter (λ j. j == k) l))) (sym x.1) (by_answer c.calls.ending m.answer x.0)

      by_seat : (o : Option SeatState) → Shown (elim o as (λ o. List Take) [ none ↦ [] | some seat ↦ takes_by c.calls m (taken_link seat.program) ])
          ≡ Heard (elim o as (λ o. List Answer) [ none ↦ [] | some seat ↦ map (λ (j : ℕ). m.answer) (filter (λ j. j == k) (taken_link seat.program)) ])
      by_seat none = refl
      by_seat (some seat) = by_link (taken_link seat.program) (⊎_elim (λ e. inl e) (λ t. inr (t.link, t.takes)) (takes_or_not seat.program))

  ticks_show : (p : Plan) (ms : List Moment) (c : Core) → Shown (shown_in takes_at p c ms) ≡ Heard (taken_in p c ms k)
  ticks_show p [] c = refl
  ticks_show p (m ∷ ms) c = any_append (λ (t : Take). (t.link == k) && holds t.found) (takes_at c m) (shown_in takes_at p (ticked p c m) ms)
      ∙ (ap (λ x. x || Shown (shown_in takes_at p (ticked p c m) ms)) (tick_shows c m) ∙ (ap (λ x. Heard (taken_at c m k) || x) (ticks_show p ms (ticked p c m))
      ∙ (sym (any_append holds (as_taken (taken_at c m k)) (as_taken (taken_in p (ticked p c m) ms k))) ∙ ap (list_any holds) (sym (taken_append (taken_at c m k) (taken_in p (ticked p c m) ms k))))))

  -- ticks that ask no link
  quiet_show : (p : Plan) (n : ℕ) (c : Core) → Heard (taken_in p c (replicate n (quiet 0)) k) ≡ false
  quiet_show p zero c = refl
  quiet_show p (suc n) c = ap (list_any holds) (taken_append (taken_at c (quiet 0) k) (taken_in p (ticked p c (quiet 0)) (replicate n (quiet 0)) k))
      ∙ (any_append holds (as_taken (taken_at c (quiet 0) k)) (as_taken (taken_in p (ticked p c (quiet 0)) (replicate n (quiet 0)) k)) ∙ (ap (λ x. x || Heard (taken_in p (ticked p c (quiet 0)) (replicate n (quiet 0)) k)) (by_seat (get_elem? c.seats 0)) ∙ quiet_show p n (ticked p c (quiet 0))))
    where
      none_told : (ks : List ℕ) → Heard (map (λ (j : ℕ). Unasked) ks) ≡ false
      none_told [] = refl
      none_told (x ∷ ks) = none_told ks

      by_seat : (o : Option SeatState) → Heard (elim o as (λ o. List Answer) [ none ↦ [] | some seat ↦ map (λ (j : ℕ). Unasked) (filter (λ j. j == k) (taken_link seat.program)) ]) ≡ false
      by_seat none = refl
      by_seat (some seat) = none_told (filter (λ j. j == k) (taken_link seat.program))

  -- a take of the whole run found so where the link answered so
  run_shows : (script : List Item) (turns : List Turn) (core : Core) (is : IsRunWithCalls script turns core) → found_so script turns core is holds k ≡ list_any holds (heard_takes is k)
  run_shows script turns core is = let p : Plan = plan_of script in let f : Take → Bool = λ t. (t.link == k) && holds t.found in
      let s₁ : List Take = shown_in takes_at p (opened script) (replicate is.setup (quiet 0)) in let s₂ : List Take = shown_in takes_at p (set_up script is.setup) (is.scheduled ++ is.later) in
      let s₃ : List Take = shown_in takes_at p (ending script (played script is.setup (is.scheduled ++ is.later))) (replicate is.last (quiet 0)) in let s₄ : List Take = shown_in takes_at p is.ended is.final in
      any_append f s₁ (s₂ ++ (s₃ ++ s₄)) ∙ (ap (λ x. x || list_any f (s₂ ++ (s₃ ++ s₄))) (ticks_show p (replicate is.setup (quiet 0)) (opened script) ∙ quiet_show p is.setup (opened script))
      ∙ (any_append f s₂ (s₃ ++ s₄) ∙ (ap (λ x. x || list_any f (s₃ ++ s₄)) (ticks_show p (is.scheduled ++ is.later) (set_up script is.setup))
      ∙ (ap (λ x. Heard (taken_in p (set_up script is.setup) (is.scheduled ++ is.later) k) || x) (any_append f s₃ s₄ ∙ (ap (λ x. x || list_any f s₄) (ticks_show p (replicate is.last (quiet 0)) (ending script (played script is.setup (is.scheduled ++ is.later))) ∙ quiet_show p is.last (ending script (played script is.setup (is.scheduled ++ is.later)))) ∙ ticks_show p is.final is.ended))
      ∙ (sym (any_append holds (as_taken (taken_in p (set_up script is.setup) (is.scheduled ++ is.later) k)) (as_taken (taken_in p is.ended is.final k)))
      ∙ ap (list_any holds) (sym (taken_append (taken_in p (set_up script is.setup) (is.scheduled ++ is.later) k) (taken_in p is.ended is.final k))))))))

-- ## The lists

module _ (script : List Item) (turns : List Turn) (core : Core) (is : IsRunWithCalls script turns core) where
  last_told : (b : Bool) (t : Taking) → is_last script turns core is (at_last b t) ≡ is_last script turns core is t
  last_told true Nothing = refl
  last_told ending t = refl

  closed_told : (b : Bool) (t : Taking) → is_closed script turns core is (at_last b t) ≡ is_closed script turns core is t
  closed_told true Nothing = refl
  closed_told ending t = refl

  -- the tests that the list of early readings makes
  abbrev Gone : ℕ → Bool
  Gone k = found_so script turns core is (is_last script turns core is) k

  abbrev Spoilt : ℕ → Bool
  Spoilt k = is_fault (stream (gave_in core k)).ending || nat_le LIMIT (length (gave_in core k))

  module _ (bytes : List ℕ) (reads : script_of bytes ≡ Ok script) where
    -- the reading of a link ended so: it is in the list
    pub early_listed : (k : ℕ) → k < (plan_of script).links → EndedBy (heard_takes is k) → Contains (early_of_run script turns core is) k
    early_listed k low by = in_contains (early_of_run script turns core is) k (filtered_in (λ n. Gone n || Spoilt n) (from_to 0 (plan_of script).links) k (in_range 0 (plan_of script).links k (omega arith) (omega (arith, low))) (test by))
      where
        same : gave_in core k ≡ given_by (heard_takes is k)
        same = gave_heard bytes script reads turns core is k low

        gone : list_any (is_last script turns core is) (heard_takes is k) ≡ true → (Gone k || Spoilt k) ≡ true
        gone e = ap (λ b. b || Spoilt k) (run_shows (is_last script turns core is) last_told k script turns core is ∙ e)

        either : (a b : Bool) → b ≡ true → (a || b) ≡ true
        either true b e = refl
        either false b e = e

        faulty : (e : Ending) (s : ℕ) (f : FrameFault) → e ≡ Fault s f → is_fault e ≡ true
        faulty e s f is' = ap (is_fault) is'

        test : EndedBy (heard_takes is k) → (Gone k || Spoilt k) ≡ true
        test (inl m) = gone (any_in (is_last script turns core is) (heard_takes is k) AtEnd m refl)
        test (inr (inl f)) = either (Gone k) (Spoilt k) (ap (λ b. b || nat_le LIMIT (length (gave_in core k))) (faulty (stream (gave_in core k)).ending f.0 f.1 (ap (λ l. (stream l).ending) same ∙ f.2)))
        test (inr (inr (inl l))) = either (Gone k) (Spoilt k) (either (is_fault (stream (gave_in core k)).ending) (nat_le LIMIT (length (gave_in core k))) (le-leb LIMIT (length (gave_in core k)) (let e = ap length same in omega (arith, e, l))))
        test (inr (inr (inr m))) = gone (any_in (is_last script turns core is) (heard_takes is k) Broken m refl)

    -- and each link in the list is one of the run's, and its reading ended so
    pub early_shown : (k : ℕ) → Contains (early_of_run script turns core is) k
        → (k < (plan_of script).links) × (Contains (heard_takes is k) AtEnd ⊎ (HasFault (given_by (heard_takes is k)) ⊎ ((reading_limit ≤ length (given_by (heard_takes is k))) ⊎ Contains (heard_takes is k) Broken)))
    early_shown k m = (low, by (Gone k) (is_fault (stream (gave_in core k)).ending) (nat_le LIMIT (length (gave_in core k))) refl refl refl f.1)
      where
        f : In k (from_to 0 (plan_of script).links) × ((Gone k || Spoilt k) ≡ true)
        f = in_filtered (λ n. Gone n || Spoilt n) (from_to 0 (plan_of script).links) k (contains_in (early_of_run script turns core is) k m)

        low : k < (plan_of script).links
        low = let r = of_range 0 (plan_of script).links k f.0 in omega (arith, r)

        same : gave_in core k ≡ given_by (heard_takes is k)
        same = gave_heard bytes script reads turns core is k low

        fault_in : (e : Ending) → (stream (gave_in core k)).ending ≡ e → is_fault e ≡ true → HasFault (given_by (heard_takes is k))
        fault_in (Rest n) e is' = absurd (true≢false (sym is'))
        fault_in (Fault s x) e is' = (s, x, sym (ap (λ l. (stream l).ending) same) ∙ e)

        which : (t : Taking) → In t (heard_takes is k) → is_last script turns core is t ≡ true → Contains (heard_takes is k) AtEnd ⊎ (HasFault (given_by (heard_takes is k)) ⊎ ((reading_limit ≤ length (given_by (heard_takes is k))) ⊎ Contains (heard_takes is k) Broken))
        which AtEnd m is' = inl (in_contains (heard_takes is k) AtEnd m)
        which Broken m is' = inr (inr (inr (in_contains (heard_takes is k) Broken m)))
        which _ m is' = absurd (true≢false (sym is'))

        by : (a b c : Bool) → Gone k ≡ a → is_fault (stream (gave_in core k)).ending ≡ b → nat_le LIMIT (length (gave_in core k)) ≡ c → (a || (b || c)) ≡ true
            → Contains (heard_takes is k) AtEnd ⊎ (HasFault (given_by (heard_takes is k)) ⊎ ((reading_limit ≤ length (given_by (heard_takes is k))) ⊎ Contains (heard_takes is k) Broken))
        by true b c ea eb ec e = let t = any_some (is_last script turns core is) (heard_takes is k) (sym (run_shows (is_last script turns core is) last_told k script turns core is) ∙ ea) in which t.0 t.1 t.2
        by false true c ea eb ec e = inr (inl (fault_in (stream (gave_in core k)).ending refl eb))
        by false false true ea eb ec e = inr (inr (inl (let l = leb-true LIMIT (length (gave_in core k)) ec in let s = ap length same in omega (arith, l, s))))
        by false false false ea eb ec e = absurd (true≢false (sym e))

  -- a link that is in the list of closed ones answered so
  pub closed_shown : (k : ℕ) → Contains (closed_of_run script turns core is) k → Contains (heard_takes is k) Closed
  closed_shown k m = let f = in_filtered (found_so script turns core is (is_closed script turns core is)) (from_to 0 (plan_of script).links) k (contains_in (closed_of_run script turns core is) k m) in
      let t = any_some (is_closed script turns core is) (heard_takes is k) (sym (run_shows (is_closed script turns core is) closed_told k script turns core is) ∙ f.1) in in_contains (heard_takes is k) Closed (subst (λ x. In x (heard_takes is k)) (which t.0 t.2) t.1)
    where
      which : (t : Taking) → is_closed script turns core is t ≡ true → t ≡ Closed
      which Closed e = refl
      which _ e = absurd (true≢false (sym e))
