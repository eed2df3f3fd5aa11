-- What a client knows of the retries that it made: each is one of a later attempt, and its call is one that the client had locked.
use Rattle.std.proofs.Common.{◌≡◌, ℕ, zero, suc, ◌<◌, ◌≤◌, Bool, true, false, cond, ◌&&◌, bytes_eq, List, [], ◌∷◌, ◌++◌, refl, sym, ap, ◌∙◌, subst, arith}
use Rattle.std.specs.List.{AllByRecursion}
use Rattle.std.proofs.lemmas.Slice.Eq.{bytes_eq-Decides}
use mathlib.Core.Option.{some}
use lib.ListN.{get_elem?}
use Rattle.sock_io.specs.declared.link.Out.{Ghosts}
use Rattle.sock_io.specs.LinkHalves.{OutState}
use Rattle.sock_words.specs.declared.plain.Plan.{Plan}
use Rattle.seat_programs.specs.declared.task.Task.{Task}
use Rattle.corr_core.specs.IdSlotWord.{parts}
use Rattle.corr_core.specs.IdSlotLaw.{only}
use Rattle.corr_core.specs.declared.marks.Note.{Note}
use Rattle.corr_core.specs.declared.marks.Note.TheVariants.{Tried, Made, Ended, Locker, Queued, Attempt, Saw}
use Rattle.corr_core.specs.declared.marks.Plan as id_plan
use Rattle.corr_core.specs.declared.marks.View.{View}
use Rattle.corr_core.proofs.NoteSums.{only-at}
use Rattle.id_rule.specs.LawfulIdTable.{notes_of}
use Rattle.corr_id.specs.declared.calls.IdLock.{IdLock}
use Rattle.corr_id.specs.SeatBehindIdCalls.{is_event, one}
use Rattle.corr_id.proofs.IdSeatSplits.{total_append}
use Rattle.sock_message.specs.Asked.{Asked}
use Rattle.calls_done.specs.Below.CallErrors.Retry.{Retry}
use Rattle.calls_done.specs.Below.CallErrors.ClientBooks.{CallStand, stand_of}
use Rattle.calls_done.specs.Below.CallErrors.LockingByVersion.{GotBy}
use Rattle.calls_done.specs.Below.CallAttempts.ClientAtBothTables.{Both}
use Rattle.calls_done.specs.Below.CallAttempts.WaitingRetries.{without_oldest, RetriedBy, had_ended, overtaken, went_again, Retried, none_yet, one_more}
use Rattle.call_run.specs.call_client.specs.ClientBetweenOperations.{Stand, stand, both_of}
use Rattle.call_run.specs.call_client.specs.ClientRun.{Course, Ran, begins}
use Rattle.call_run.specs.call_client.proofs.EndedCallsTelling.{did_total}
use Rattle.call_run.specs.Threads.{Thread, IsThread}
use Rattle.calls_done.specs.call_whys.specs.call_told.proofs.ToldCallEnds.{counted_here}
use Rattle.calls_done.specs.call_whys.specs.call_told.proofs.ListElementsByPlace.{all_both, all_then}
use Rattle.calls_done.specs.call_whys.specs.call_places.specs.DeedsOfCallClient.{Deed, operates, retries, retries_of, ran_deeds}
use Rattle.calls_done.specs.call_whys.specs.call_places.proofs.OwnAcceptedMessages.{end_is}
use Rattle.calls_done.specs.call_whys.specs.call_places.proofs.Still.{is_first, retried_still, again_still}
use Rattle.calls_done.specs.call_whys.specs.call_places.proofs.RetryAndIdCounts.{by_retry, none_first, retries_count, acted_might}
use Rattle.calls_done.specs.call_whys.specs.call_places.proofs.NoteWeights.{term}
use Rattle.calls_done.specs.call_whys.specs.call_deeds.specs.RetriedCalls.{Again, asked_by, asked_in, asked_before, all_asked}
use Rattle.calls_done.specs.call_whys.specs.call_deeds.proofs.OperationsToldOnce.{came, made}
use Rattle.script_parts.proofs.Began.{only_is}
use Rattle.sock_words.specs.Totals.{total}
use Rattle.callless_fits.specs.sock_deeds.specs.outcome_stories.specs.program_walks.proofs.OpenedLivesRecorded.{both_true as true_both}

-- ## The same call

both_true : (a b : Bool) → (a && b) ≡ true → (a ≡ true) × (b ≡ true)
both_true true b h = (refl, h)
both_true false b h = let k : false ≡ true = h in absurd (cc)

same_bytes : (a : List ℕ) → bytes_eq a a ≡ true
same_bytes a = (bytes_eq-Decides a a).1 refl

numbers_in : Asked → List ℕ
numbers_in a = a.operation ∷ a.range ∷ []

first_in : List ℕ → ℕ
first_in [] = 0
first_in (x ∷ xs) = x

second_in : List ℕ → ℕ
second_in [] = 0
second_in (x ∷ xs) = first_in xs

same_call : Asked → Asked → Bool
same_call a b = bytes_eq (numbers_in a) (numbers_in b) && (bytes_eq a.names b.names && (bytes_eq a.service b.service && (bytes_eq a.method b.method && (bytes_eq a.payload b.payload && bytes_eq a.attachment b.attachment))))

same_here : (a : Asked) → same_call a a ≡ true
unfolding same_call
same_here a = true_both (bytes_eq (numbers_in a) (numbers_in a)) _ (same_bytes (numbers_in a)) (true_both (bytes_eq a.names a.names) _ (same_bytes a.names) (true_both (bytes_eq a.service a.service) _ (same_bytes a.service)
    (true_both (bytes_eq a.method a.method) _ (same_bytes a.method) (true_both (bytes_eq a.payload a.payload) _ (same_bytes a.payload) (same_bytes a.attachment)))))

same_is : (a b : Asked) → same_call a b ≡ true → a ≡ b
unfolding same_call numbers_in first_in second_in
same_is a b h =
    let h0 = both_true (bytes_eq (numbers_in a) (numbers_in b)) _ h in let h1 = both_true (bytes_eq a.names b.names) _ h0.1 in let h2 = both_true (bytes_eq a.service b.service) _ h1.1 in
    let h3 = both_true (bytes_eq a.method b.method) _ h2.1 in let h4 = both_true (bytes_eq a.payload b.payload) _ h3.1 in
    let n = (bytes_eq-Decides (numbers_in a) (numbers_in b)).0 h0.0 in
    let operation : a.operation ≡ b.operation = ap first_in n in
    let range : a.range ≡ b.range = ap second_in n in
    let names = (bytes_eq-Decides a.names b.names).0 h1.0 in
    let service = (bytes_eq-Decides a.service b.service).0 h2.0 in
    let method = (bytes_eq-Decides a.method b.method).0 h3.0 in
    let payload = (bytes_eq-Decides a.payload b.payload).0 h4.0 in
    let attachment = (bytes_eq-Decides a.attachment b.attachment).0 h4.1 in
    λ i. record { operation = operation i; names = names i; service = service i; method = method i; payload = payload i; attachment = attachment i; range = range i }

-- ## Locks with this call as their content

pub locks_with : Asked → ℕ → Note Asked → ℕ
locks_with c f (Locker g d) = cond (same_call c d) (only f g) 0
locks_with c f _ = 0

locks_silent : (c : Asked) (f : ℕ) (n : Note Asked) → is_event n ≡ false → locks_with c f n ≡ 0
unfolding locks_with
locks_silent c f Tried e = refl
locks_silent c f (Made a b d) e = refl
locks_silent c f (Ended g y) e = refl
locks_silent c f (Locker g d) e = let k : true ≡ false = e in cc
locks_silent c f (Queued g d) e = refl
locks_silent c f (Attempt g n) e = refl
locks_silent c f (Saw w) e = refl

lock_here : (c : Asked) (f : ℕ) → locks_with c f (Locker f c) ≡ 1
unfolding locks_with
lock_here c f = ap (λ b. cond b (only f f) 0) (same_here c) ∙ only-at f f refl

lock_by : (c d : Asked) (f g : ℕ) (b : Bool) → same_call c d ≡ b → 0 < cond b (only f g) 0 → Locker g d ≡ Locker f c
lock_by c d f g true e h = let calls = same_is c d e in let first = only_is f g h in λ i. Locker (first i) (sym calls i)
lock_by c d f g false e h = absurd (omega arith)

pub lock_is : (c : Asked) (f : ℕ) (n : Note Asked) → 0 < locks_with c f n → n ≡ Locker f c
unfolding locks_with
lock_is c f (Locker g d) h = lock_by c d f g (same_call c d) refl h
lock_is c f Tried h = absurd (omega arith)
lock_is c f (Made a b d) h = absurd (omega arith)
lock_is c f (Ended g y) h = absurd (omega arith)
lock_is c f (Queued g d) h = absurd (omega arith)
lock_is c f (Attempt g n) h = absurd (omega arith)
lock_is c f (Saw w) h = absurd (omega arith)

-- ## What a seat knows of a retry

-- it had locked the call, in one of so many slots
pub record IsKnown (slots : ℕ) (v : View Asked) (a : Again) : Type 0 where
  pub slot : ℕ
  pub first : ℕ
  pub inside : slot < slots
  pub locked : 0 < total (locks_with a.asked first) (notes_of slot v.notes)

abbrev Grows : View Asked → View Asked → Type 0
Grows v w = (i : ℕ) (f : Note Asked → ℕ) → total f (notes_of i v.notes) ≤ total f (notes_of i w.notes)

known_stays : (slots : ℕ) (v w : View Asked) → Grows v w → (a : Again) → IsKnown slots v a → IsKnown slots w a
known_stays slots v w grows a h = record { slot = h.slot; first = h.first; inside = h.inside; locked = (let x = grows h.slot (locks_with a.asked h.first) in let y = h.locked in omega arith) }

got_known : (slots version n : ℕ) (k : IdLock Asked) (v w : View Asked) → GotBy slots version k v w → IsKnown slots w record { asked = k.content; attempt = n }
got_known slots version n k v w g =
    let f = (parts k.word.0).first in let note : Note Asked = Locker f k.content in
    let a = did_total (locks_with k.content f) (locks_silent k.content f) k.slot v w _ (one k.slot note) g.got.did k.slot in
    let b = counted_here (locks_with k.content f) k.slot note in let c = lock_here k.content f in
    record { slot = k.slot; first = f; inside = g.inside; locked = omega arith }

-- 1 for a first attempt
abbrev first_again : Again → ℕ
first_again a = only 0 a.attempt

abbrev AllKnown : ℕ → View Asked → List Again → Type 0
AllKnown slots v = AllByRecursion (IsKnown slots v)

stay : (slots : ℕ) (v w : View Asked) → Grows v w → (l : List Again) → AllKnown slots v l → AllKnown slots w l
stay slots v w grows l h = all_then (IsKnown slots v) (IsKnown slots w) l (known_stays slots v w grows) h

module _ {O : Type 0} (state : O → OutState) (p : Plan) (q : id_plan.Plan) where
  by_known : (r : Retry) (s t : Both) (by : RetriedBy state p q r s t) → AllKnown q.slots t.calls.view (asked_by state p q r s t by)
  by_known r s t (had_ended h) = tt
  by_known r s t (overtaken k u l o) = tt
  by_known r s t (went_again k u l w) =
      let a : Again = record { asked = k.content; attempt = r.attempt } in
      (known_stays q.slots u.calls.view t.calls.view (again_still state p q r k u t w).grows a (got_known q.slots r.id r.attempt k s.calls.view u.calls.view l.got), tt)

  in_known : (s t : Both) (r : Retried state p q s t) → AllKnown q.slots t.calls.view (asked_in state p q s t r)
  in_known s _ none_yet = tt
  in_known s _ (one_more u t r rest before waits fed by) =
      all_both (IsKnown q.slots t.calls.view) (asked_in state p q s u before) (asked_by state p q r (without_oldest rest u) t by)
      (stay q.slots u.calls.view t.calls.view (retried_still state p q r (without_oldest rest u) t by).grows (asked_in state p q s u before) (in_known s u before)) (by_known r (without_oldest rest u) t by)

  -- ## None is a first attempt

  by_first : (r : Retry) (s t : Both) (by : RetriedBy state p q r s t) → total first_again (asked_by state p q r s t by) ≤ is_first r
  by_first r s t (had_ended h) = omega arith
  by_first r s t (overtaken k u l o) = omega arith
  by_first r s t (went_again k u l w) = omega arith

  in_first : (g : Ghosts O) (s t : Both) (r : Retried state p q s t) → total first_again (asked_in state p q s t r) ≤ total (by_retry is_first) (retries_of {g = g} state p q s t r)
  in_first g s _ none_yet = omega arith
  in_first g s _ (one_more u t r rest before waits fed by) =
      let a = in_first g s u before in let b = by_first r (without_oldest rest u) t by in
      let one_ : Deed g state p q = retries r (without_oldest rest u) t by in
      let c = total_append first_again (asked_in state p q s u before) (asked_by state p q r (without_oldest rest u) t by) in
      let d = total_append (by_retry is_first) (retries_of {g = g} state p q s u before) (one_ ∷ []) in omega arith

  -- ## Along a client's operations

  module _ {g : Ghosts O} where
    before_known : (xs : List Task) (n : ℕ) (s t : Course g) (h : Ran state p q xs n s t) → AllKnown q.slots t.has.calls.view (asked_before state p q xs n s t h)
    before_known xs zero s t e = tt
    before_known xs (suc n) s t h =
        let m = h.4 in
        let early = asked_before state p q xs n s h.0 h.2 in
        let late = asked_in state p q (both_of h.0.has) (both_of m.ready) m.retried.all.retried in
        let acted = (acted_might state p q h.1.number h.1.op m.by m.ready t.has m.acted).grows in
        let waited = (retries_count {g = g} (both_of h.0.has) (both_of m.ready) m.retried.all.retried).grows in
        all_both (IsKnown q.slots t.has.calls.view) early late
        (stay q.slots h.0.has.calls.view t.has.calls.view (λ i f. (let x = waited i f in let y = acted i f in omega arith)) early (before_known xs n s h.0 h.2))
        (stay q.slots m.ready.calls.view t.has.calls.view acted late (in_known (both_of h.0.has) (both_of m.ready) m.retried.all.retried))

    before_first : (xs : List Task) (n : ℕ) (s t : Course g) (h : Ran state p q xs n s t) → total first_again (asked_before state p q xs n s t h) ≤ total (by_retry is_first) (ran_deeds state p q xs n s t h)
    before_first xs zero s t e = omega arith
    before_first xs (suc n) s t h =
        let m = h.4 in
        let early = asked_before state p q xs n s h.0 h.2 in
        let late = asked_in state p q (both_of h.0.has) (both_of m.ready) m.retried.all.retried in
        let now : Deed g state p q = operates h.1 m.by m.ready t.has m.acted in
        let waited : List (Deed g state p q) = retries_of state p q (both_of h.0.has) (both_of m.ready) m.retried.all.retried in
        let a = before_first xs n s h.0 h.2 in let b = in_first g (both_of h.0.has) (both_of m.ready) m.retried.all.retried in
        let c = total_append first_again early late in
        let d = total_append (by_retry is_first) (ran_deeds state p q xs n s h.0 h.2) (waited ++ now ∷ []) in let e = total_append (by_retry is_first) waited (now ∷ []) in omega arith

-- ## A whole client

module _ {O : Type 0} {g : Ghosts O} {state : O → OutState} {p : Plan} {q : id_plan.Plan} {first : ℕ} (x : Thread g) (th : IsThread state p q first x) where
  -- all that it made
  pub asked_known : AllByRecursion (IsKnown q.slots x.ended.calls.seat.me.0) (all_asked x th)
  asked_known =
      let early = asked_before state p q x.tasks th.ran.made (begins x.began) (came x th) (made x th) in
      let late = asked_in state p q (both_of (stand th.ran.came)) (both_of th.ran.last) th.ran.ends.1.all.retried in
      let end : stand_of x.ended.calls ≡ th.ran.last.calls = th.ran.calls ∙ ap (λ (s : Stand g). s.calls) (end_is x th) in
      let waited = (retries_count {g = g} (both_of (stand th.ran.came)) (both_of th.ran.last) th.ran.ends.1.all.retried).grows in
      let known : AllByRecursion (IsKnown q.slots th.ran.last.calls.view) (all_asked x th) = all_both (IsKnown q.slots th.ran.last.calls.view) early late
      (stay q.slots th.ran.came.calls.seat.me.0 th.ran.last.calls.view waited early (before_known state p q x.tasks th.ran.made (begins x.began) (came x th) (made x th)))
      (in_known state p q (both_of (stand th.ran.came)) (both_of th.ran.last) th.ran.ends.1.all.retried) in
      subst (λ (c : CallStand). AllByRecursion (IsKnown q.slots c.view) (all_asked x th)) (sym end) known

  all_first : total first_again (all_asked x th) ≡ 0
  all_first =
      let early = asked_before state p q x.tasks th.ran.made (begins x.began) (came x th) (made x th) in
      let late = asked_in state p q (both_of (stand th.ran.came)) (both_of th.ran.last) th.ran.ends.1.all.retried in
      let last : List (Deed g state p q) = retries_of state p q (both_of (stand th.ran.came)) (both_of th.ran.last) th.ran.ends.1.all.retried in
      let a = before_first state p q x.tasks th.ran.made (begins x.began) (came x th) (made x th) in
      let b = in_first state p q g (both_of (stand th.ran.came)) (both_of th.ran.last) th.ran.ends.1.all.retried in
      let c = total_append first_again early late in
      let d = total_append (by_retry is_first) (ran_deeds state p q x.tasks th.ran.made (begins x.began) (came x th) (made x th)) last in
      let e = none_first x th in omega arith

  pub asked_later : (i : ℕ) (a : Again) → get_elem? (all_asked x th) i ≡ some a → 0 < a.attempt
  asked_later i a at = let b = term first_again (all_asked x th) i a at in let c = all_first in later a.attempt (omega arith)
    where
      later : (n : ℕ) → only 0 n ≤ 0 → 0 < n
      later zero h = let k = only-at 0 zero refl in absurd (omega arith)
      later (suc n) h = omega arith
