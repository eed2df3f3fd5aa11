-- Which operations a client made before one of its retries, and which behind it; and whatever it noted by then it had still.
use Rattle.std.proofs.Common.{◌≡◌, ℕ, zero, suc, ◌<◌, ◌≤◌, List, [], ◌∷◌, ◌++◌, length, refl, ap, ◌∙◌, arith}
use Rattle.std.specs.Prelude.{Option}
use Rattle.std.specs.List.{AllByRecursion}
use mathlib.Core.Logic.{dite}
use mathlib.Core.Option.{some}
use native.Mathlib.Decide.{ℕ_discrete}
use lib.ListN.{get_elem?}
use Rattle.sock_io.specs.declared.link.Out.{Ghosts}
use Rattle.sock_io.specs.LinkHalves.{OutState}
use Rattle.sock_words.specs.declared.outcome.Outcome.{Outcome}
use Rattle.sock_words.specs.declared.plain.Plan.{Plan}
use Rattle.seat_programs.specs.declared.task.Op.{Op}
use Rattle.seat_programs.specs.declared.task.Task.{Task}
use Rattle.corr_core.specs.declared.marks.Plan as id_plan
use Rattle.corr_id.specs.id_rule.specs.LawfulIdTable.{notes_of}
use Rattle.attempts_told.specs.Below.CallErrors.Retry.{Retry}
use Rattle.attempts_told.specs.Below.CallErrors.ClientBooks.{CallStand}
use Rattle.attempts_told.specs.Below.CallAttempts.ClientAtBothTables.{Both}
use Rattle.attempts_told.specs.Below.CallAttempts.WaitingRetries.{without_oldest, RetriedBy, Retried, none_yet, one_more}
use Rattle.attempts_told.specs.Below.CallClient.ClientBetweenOperations.{Stand, stand, both_of, Acted}
use Rattle.attempts_told.specs.Below.CallClient.ClientRun.{Course, Ran, begins}
use Rattle.attempts_told.specs.Below.CallRun.Threads.{Thread, IsThread}
use Rattle.attempts_told.specs.call_whys.specs.call_places.specs.DeedsOfCallClient.{Deed, operates, retries, retries_of, ran_deeds, deeds}
use Rattle.attempts_told.specs.call_whys.specs.call_places.proofs.RetryAndIdCounts.{Grows, acted_might}
use Rattle.attempts_told.specs.call_whys.specs.call_places.proofs.OwnAcceptedMessages.{end_is}
use Rattle.attempts_told.specs.call_whys.specs.call_places.proofs.Still.{retried_still}
use Rattle.attempts_told.specs.call_whys.specs.call_told.proofs.ListElementsByPlace.{all_both, all_then}
use Rattle.attempts_told.specs.call_whys.specs.call_deeds.proofs.Ran.{Result, results, results_long}
use Rattle.attempts_told.specs.call_whys.specs.call_deeds.proofs.OperationsToldOnce.{came, made, all_results}
use Rattle.attempts_told.specs.call_whys.specs.call_places.specs.sock_deeds.proofs.Flats.{append_first, append_later}
use Rattle.attempts_told.specs.call_whys.specs.call_places.specs.sock_deeds.proofs.GrowingSocketNotes.{Grew, stays_as, grew_then}
use Rattle.attempts_told.specs.call_whys.specs.call_places.specs.sock_deeds.proofs.ListPlaces.{place_low}
use Rattle.failed_reasons.proofs.SeenReachesEnd.{retry_grew, acted_grew}
use Rattle.sock_words.specs.Totals.{total}

-- ## From one stand to a later one

-- what was seen of the sockets, and noted of calls, is so still
abbrev pub Went : Both → Both → Type 0
Went s t = Grew s.socks t.socks × Grows s.calls.view t.calls.view

pub went_same : (s : Both) → Went s s
went_same s = (stays_as s.socks s.socks refl, λ i f. omega arith)

pub went_on : (s u t : Both) → Went s u → Went u t → Went s t
went_on s u t a b = (grew_then s.socks u.socks t.socks a.0 b.0, λ i f. (let x = a.1 i f in let y = b.1 i f in omega (arith, x, y)))

module _ {O : Type 0} {g : Ghosts O} {state : O → OutState} {p : Plan} {q : id_plan.Plan} where
  -- where a client stands before and behind a deed
  abbrev pub stands_before : Deed g state p q → Both
  stands_before (operates x by s t a) = both_of s
  stands_before (retries r s t by) = s

  abbrev pub stands_behind : Deed g state p q → Both
  stands_behind (operates x by s t a) = both_of t
  stands_behind (retries r s t by) = t

  abbrev pub IsRetry : Deed g state p q → Type 0
  IsRetry (operates x by s t a) = ⊥
  IsRetry (retries r s t by) = Unit {0}

  -- the deed stands between these
  abbrev pub Between : Both → Both → Deed g state p q → Type 0
  Between s t d = Went s (stands_before d) × Went (stands_behind d) t

module _ {O : Type 0} (g : Ghosts O) (state : O → OutState) (p : Plan) (q : id_plan.Plan) where
  retry_went : (r : Retry) (s t : Both) → RetriedBy state p q r s t → Went s t
  retry_went r s t by = (retry_grew state p q r s t by, (retried_still state p q r s t by).grows)

  acted_went : (number : ℕ) (op : Op) (by : Option Outcome) (s t : Stand g) → Acted state p q number op by s t → Went (both_of s) (both_of t)
  acted_went number op by s t a = (acted_grew state p q number op by s t a, (acted_might state p q number op by s t a).grows)

  retried_went : (s t : Both) → Retried state p q s t → Went s t
  retried_went s _ none_yet = went_same s
  retried_went s _ (one_more u t r rest more e f by) = went_on s u t (retried_went s u more) (retry_went r (without_oldest rest u) t by)

  -- ## Operations

  -- operation k of these results, with where the client stood before and behind it
  pub record Operation (rs : List Result) (k : ℕ) : Type 0 where
    pub task : Task
    pub by : Option Outcome
    pub at : get_elem? rs k ≡ some record { task = task; by = by }
    pub before : Stand g
    pub after : Stand g
    pub acted : Acted state p q task.number task.op by before after

  abbrev op_more : (rs more : List Result) (k : ℕ) → Operation rs k → Operation (rs ++ more) k
  op_more rs more k o = record { task = o.task; by = o.by; at = append_first rs more k record { task = o.task; by = o.by } o.at; before = o.before; after = o.after; acted = o.acted }

  -- an operation that was made before one stood here, and one that was made from there on
  pub record MadeBefore (rs : List Result) (k : ℕ) (s : Both) : Type 0 where
    pub operation : Operation rs k
    pub went : Went (both_of operation.after) s

  pub record MadeBehind (rs : List Result) (k : ℕ) (s t : Both) : Type 0 where
    pub operation : Operation rs k
    pub from : Went s (both_of operation.before)
    pub to : Went (both_of operation.after) t

  -- a deed among n operations: so many were made before it, and where it is a retry the others behind it
  pub record Placed (rs : List Result) (n : ℕ) (s t : Both) (d : Deed g state p q) : Type 0 where
    pub made : ℕ
    pub most : made ≤ n
    pub between : Between s t d
    pub first : (k : ℕ) → k < made → MadeBefore rs k (stands_before d)
    pub rest : IsRetry d → (k : ℕ) → made ≤ k → k < n → MadeBehind rs k (stands_behind d) t

  -- ## Along a run

  retried_between : (s t : Both) (h : Retried state p q s t) → AllByRecursion (Between s t) (retries_of {g = g} state p q s t h)
  retried_between s _ none_yet = tt
  retried_between s _ (one_more u t r rest more e f by) =
      let d : Deed g state p q = retries r (without_oldest rest u) t by in let w = retry_went r (without_oldest rest u) t by in
      all_both (Between s t) (retries_of {g = g} state p q s u more) (d ∷ [])
      (all_then (Between s u) (Between s t) (retries_of {g = g} state p q s u more) (λ e h. (h.0, went_on (stands_behind e) u t h.1 w)) (retried_between s u more))
      ((retried_went s u more, went_same t), tt)

  module _ (xs : List Task) where
    abbrev rs_of : (n : ℕ) (s t : Course g) → Ran state p q xs n s t → List Result
    rs_of n s t h = results state p q xs n s t h

    -- the last operation
    abbrev last_op : (n : ℕ) (s t : Course g) (h : Ran state p q xs (suc n) s t) (k : ℕ) → n ≡ k → Operation (rs_of (suc n) s t h) k
    last_op n s t h k e =
        let m = h.4 in let one : Result = record { task = h.1; by = m.by } in let rs : List Result = rs_of n s h.0 h.2 in
        let long = results_long state p q xs n s h.0 h.2 in
        record { task = h.1; by = m.by; at = ap (get_elem? (rs ++ one ∷ [])) (omega (arith, long, e)) ∙ append_later rs (one ∷ []) 0 one refl; before = m.ready; after = t.has; acted = m.acted }

    -- from the last but one to the end
    made_went : (n : ℕ) (s t : Course g) (h : Ran state p q xs (suc n) s t) → Went (both_of h.0.has) (both_of t.has)
    made_went n s t h =
        let m = h.4 in
        went_on (both_of h.0.has) (both_of m.ready) (both_of t.has) (retried_went (both_of h.0.has) (both_of m.ready) m.retried.all.retried) (acted_went h.1.number h.1.op m.by m.ready t.has m.acted)

    ran_went : (n : ℕ) (s t : Course g) → Ran state p q xs n s t → Went (both_of s.has) (both_of t.has)
    ran_went zero s t e = (stays_as s.has.me.0 t.has.me.0 (ap (λ (c : Course g). c.has.me.0) e), λ i f. (let a = ap (λ (c : Course g). total f (notes_of i c.has.calls.view.notes)) e in omega (arith, a)))
    ran_went (suc n) s t h = went_on (both_of s.has) (both_of h.0.has) (both_of t.has) (ran_went n s h.0 h.2) (made_went n s t h)

    -- each of the first n was made
    ops_made : (n : ℕ) (s t : Course g) (h : Ran state p q xs n s t) (k : ℕ) → k < n → MadeBehind (rs_of n s t h) k (both_of s.has) (both_of t.has)
    ops_made zero s t h k low = absurd (omega arith)
    ops_made (suc n) s t h k low =
        let m = h.4 in let u : Course g = h.0 in
        dite (ℕ_discrete n k)
        (λ e. record {
          operation = last_op n s t h k e;
          from = went_on (both_of s.has) (both_of u.has) (both_of m.ready) (ran_went n s u h.2) (retried_went (both_of u.has) (both_of m.ready) m.retried.all.retried);
          to = went_same (both_of t.has);
        })
        (λ ne. (let w = ops_made n s u h.2 k (omega (arith, low, ne)) in record {
          operation = op_more (rs_of n s u h.2) (record { task = h.1; by = m.by } ∷ []) k w.operation;
          from = w.from;
          to = went_on (both_of w.operation.after) (both_of u.has) (both_of t.has) w.to (made_went n s t h);
        }))

    -- so of one that stands behind the first n they were made before
    all_before : (n : ℕ) (s t : Course g) (h : Ran state p q xs n s t) (at : Both) → Went (both_of t.has) at → (k : ℕ) → k < n → MadeBefore (rs_of n s t h) k at
    all_before n s t h at w k low = let o = ops_made n s t h k low in record { operation = o.operation; went = went_on (both_of o.operation.after) (both_of t.has) at o.to w }

    more_before : (rs more : List Result) (k : ℕ) (at : Both) → MadeBefore rs k at → MadeBefore (rs ++ more) k at
    more_before rs more k at b = record { operation = op_more rs more k b.operation; went = b.went }

    -- where one operation more is made
    placed_more : (n : ℕ) (s t : Course g) (h : Ran state p q xs (suc n) s t) (d : Deed g state p q) → Placed (rs_of n s h.0 h.2) n (both_of s.has) (both_of h.0.has) d → Placed (rs_of (suc n) s t h) (suc n) (both_of s.has) (both_of t.has) d
    placed_more n s t h d w =
        let m = h.4 in let u : Course g = h.0 in let rs : List Result = rs_of n s u h.2 in let more : List Result = record { task = h.1; by = m.by } ∷ [] in
        let most = w.most in
        record {
          made = w.made;
          most = omega (arith, most);
          between = (w.between.0, went_on (stands_behind d) (both_of u.has) (both_of t.has) w.between.1 (made_went n s t h));
          first = λ k low. more_before rs more k (stands_before d) (w.first k low);
          rest = λ is k high low. dite (ℕ_discrete n k)
              (λ e. record {
                operation = last_op n s t h k e;
                from = went_on (stands_behind d) (both_of u.has) (both_of m.ready) w.between.1 (retried_went (both_of u.has) (both_of m.ready) m.retried.all.retried);
                to = went_same (both_of t.has);
              })
              (λ ne. (let b = w.rest is k high (omega (arith, low, ne)) in record {
                operation = op_more rs more k b.operation;
                from = b.from;
                to = went_on (both_of b.operation.after) (both_of u.has) (both_of t.has) b.to (made_went n s t h);
              }));
        }

    -- a retry that waited before the last operation
    placed_waited : (n : ℕ) (s t : Course g) (h : Ran state p q xs (suc n) s t) (d : Deed g state p q) → Between (both_of h.0.has) (both_of h.4.ready) d → Placed (rs_of (suc n) s t h) (suc n) (both_of s.has) (both_of t.has) d
    placed_waited n s t h d w =
        let m = h.4 in let u : Course g = h.0 in let rs : List Result = rs_of n s u h.2 in let more : List Result = record { task = h.1; by = m.by } ∷ [] in
        record {
          made = n;
          most = omega arith;
          between = (
            went_on (both_of s.has) (both_of u.has) (stands_before d) (ran_went n s u h.2) w.0,
            went_on (stands_behind d) (both_of m.ready) (both_of t.has) w.1 (acted_went h.1.number h.1.op m.by m.ready t.has m.acted),
          );
          first = λ k low. more_before rs more k (stands_before d) (all_before n s u h.2 (stands_before d) w.0 k low);
          rest = λ is k high low. record { operation = last_op n s t h k (omega (arith, high, low)); from = w.1; to = went_same (both_of t.has) };
        }

    -- the last operation itself
    placed_last : (n : ℕ) (s t : Course g) (h : Ran state p q xs (suc n) s t) → Placed (rs_of (suc n) s t h) (suc n) (both_of s.has) (both_of t.has) (operates h.1 h.4.by h.4.ready t.has h.4.acted)
    placed_last n s t h =
        let m = h.4 in let u : Course g = h.0 in let rs : List Result = rs_of n s u h.2 in let more : List Result = record { task = h.1; by = m.by } ∷ [] in
        let ready = retried_went (both_of u.has) (both_of m.ready) m.retried.all.retried in
        record {
          made = n;
          most = omega arith;
          between = (went_on (both_of s.has) (both_of u.has) (both_of m.ready) (ran_went n s u h.2) ready, went_same (both_of t.has));
          first = λ k low. more_before rs more k (both_of m.ready) (all_before n s u h.2 (both_of m.ready) ready k low);
          rest = λ is k high low. elim is [ ];
        }

    ran_placed : (n : ℕ) (s t : Course g) (h : Ran state p q xs n s t) → AllByRecursion (Placed (rs_of n s t h) n (both_of s.has) (both_of t.has)) (ran_deeds state p q xs n s t h)
    ran_placed zero s t h = tt
    ran_placed (suc n) s t h =
        let m = h.4 in let u : Course g = h.0 in let now : Deed g state p q = operates h.1 m.by m.ready t.has m.acted in
        let again : List (Deed g state p q) = retries_of {g = g} state p q (both_of u.has) (both_of m.ready) m.retried.all.retried in
        let earlier : List (Deed g state p q) = ran_deeds state p q xs n s u h.2 in
        all_both (Placed (rs_of (suc n) s t h) (suc n) (both_of s.has) (both_of t.has)) earlier (again ++ now ∷ [])
        (all_then (Placed (rs_of n s u h.2) n (both_of s.has) (both_of u.has)) (Placed (rs_of (suc n) s t h) (suc n) (both_of s.has) (both_of t.has)) earlier (placed_more n s t h) (ran_placed n s u h.2))
        (all_both (Placed (rs_of (suc n) s t h) (suc n) (both_of s.has) (both_of t.has)) again (now ∷ [])
        (all_then (Between (both_of u.has) (both_of m.ready)) (Placed (rs_of (suc n) s t h) (suc n) (both_of s.has) (both_of t.has)) again (placed_waited n s t h) (retried_between (both_of u.has) (both_of m.ready) m.retried.all.retried))
        (placed_last n s t h, tt))

-- ## A whole client

module _ {O : Type 0} {g : Ghosts O} {state : O → OutState} {p : Plan} {q : id_plan.Plan} {first : ℕ} (x : Thread g) (th : IsThread state p q first x) where
  abbrev ends_at : Both
  ends_at = both_of th.ran.last

  abbrev pub PlacedHere : Deed g state p q → Type 0
  PlacedHere d = Placed g state p q (all_results x th) (length x.tasks) (both_of (stand x.began)) ends_at d

  last_waits : Went (both_of (stand th.ran.came)) ends_at
  last_waits = retried_went g state p q (both_of (stand th.ran.came)) ends_at th.ran.ends.1.all.retried

  -- a deed among the operations
  placed_early : (d : Deed g state p q) → Placed g state p q (all_results x th) th.ran.made (both_of (stand x.began)) (both_of (stand th.ran.came)) d → PlacedHere d
  placed_early d w =
      let n = th.ran.ends.0 in let most = w.most in
      record {
        made = w.made;
        most = omega (arith, n, most);
        between = (w.between.0, went_on (stands_behind d) (both_of (stand th.ran.came)) ends_at w.between.1 last_waits);
        first = w.first;
        rest = λ is k high low. (let b = w.rest is k high (omega (arith, n, low)) in record {
          operation = b.operation;
          from = b.from;
          to = went_on (both_of b.operation.after) (both_of (stand th.ran.came)) ends_at b.to last_waits;
        });
      }

  -- or one behind them
  placed_late : (d : Deed g state p q) → Between (both_of (stand th.ran.came)) ends_at d → PlacedHere d
  placed_late d w =
      let n = th.ran.ends.0 in
      record {
        made = th.ran.made;
        most = omega (arith, n);
        between = (went_on (both_of (stand x.began)) (both_of (stand th.ran.came)) (stands_before d) (ran_went g state p q x.tasks th.ran.made (begins x.began) (came x th) (made x th)) w.0, w.1);
        first = all_before g state p q x.tasks th.ran.made (begins x.began) (came x th) (made x th) (stands_before d) w.0;
        rest = λ is k high low. absurd (omega (arith, n, high, low));
      }

  pub all_placed : AllByRecursion PlacedHere (deeds x th)
  all_placed =
      let early : List (Deed g state p q) = ran_deeds state p q x.tasks th.ran.made (begins x.began) (came x th) (made x th) in
      let late : List (Deed g state p q) = retries_of {g = g} state p q (both_of (stand th.ran.came)) ends_at th.ran.ends.1.all.retried in
      all_both PlacedHere early late
      (all_then (Placed g state p q (all_results x th) th.ran.made (both_of (stand x.began)) (both_of (stand th.ran.came))) PlacedHere early placed_early (ran_placed g state p q x.tasks th.ran.made (begins x.began) (came x th) (made x th)))
      (all_then (Between (both_of (stand th.ran.came)) ends_at) PlacedHere late placed_late (retried_between g state p q (both_of (stand th.ran.came)) ends_at th.ran.ends.1.all.retried))

  -- each of its operations was made
  pub operation_made : (k : ℕ) (r : Result) → get_elem? (all_results x th) k ≡ some r → MadeBehind g state p q (all_results x th) k (both_of (stand x.began)) ends_at
  operation_made k r at =
      let low = place_low (all_results x th) k r at in let long = results_long state p q x.tasks th.ran.made (begins x.began) (came x th) (made x th) in
      let b = ops_made g state p q x.tasks th.ran.made (begins x.began) (came x th) (made x th) k (omega (arith, low, long)) in
      record { operation = b.operation; from = b.from; to = went_on (both_of b.operation.after) (both_of (stand th.ran.came)) ends_at b.to last_waits }

  -- what it noted of calls there it has noted in the end
  pub noted_last : Grows ends_at.calls.view x.ended.calls.seat.me.0
  noted_last i f = let a = ap (λ (c : CallStand). total f (notes_of i c.view.notes)) (th.ran.calls ∙ ap (λ (s : Stand g). s.calls) (end_is x th)) in omega (arith, a)
