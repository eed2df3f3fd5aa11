-- A submitter that did one line more.
use Rattle.std.proofs.Common.{◌≡◌, ◌≢◌, ℕ, zero, suc, ◌+◌, ◌-◌, ◌*◌, ◌^◌, ◌<◌, ◌≤◌, ◌⊎◌, inl, inr, true, false, Option, Some, None, List, [], ◌∷◌, ◌++◌, length, length-append, append-nil, refl, sym, ap, ◌∙◌, subst, arith}
use Rattle.std.specs.Prelude.{slice_get, filter_map}
use Rattle.std.specs.Vec.{vec_capacity}
use Rattle.std.proofs.lemmas.List.{append_assoc}
use Rattle.std.proofs.Math.Nat.{mul-suc}
use Rattle.sock_io.specs.declared.link.Out.{Ghosts}
use Rattle.sock_model.specs.declared.chain.Entry.{Entry}
use Rattle.exec_queue.specs.declared.task.Task as queue
use Rattle.exec_queue.specs.declared.queue.TaskQueue.{TaskQueue}
use Rattle.exec_queue.specs.declared.queue.TaskSubmitter.{TaskSubmitter}
use Rattle.exec_queue.specs.Submitters.{IsSubmitter, AreSubmitted, IsFreshLine}
use Rattle.exec_queue.specs.Tasks.{task_of}
use Rattle.exec_queue.specs.EndedQueue.{IsWhole}
use Rattle.exec_queue.proofs.BytesOfTasks.{task_again}
use Rattle.exec_script.specs.declared.op.Op.{Op}
use Rattle.exec_script.specs.declared.op.Op.TheVariants.{Task, Stop}
use Rattle.exec_script.specs.declared.op.Change.TheVariants.{Add, Sub, Move}
use Rattle.exec_script.specs.declared.told.Answer.{Answer}
use Rattle.exec_script.specs.declared.told.Answer.TheVariants.{Accepted, Refused, Stopped, Already}
use Rattle.exec_script.specs.QueueEnds.{Answers}
use Rattle.exec_threads.specs.declared.worker.Worker.{Worker}
use Rattle.exec_threads.specs.TasksOfLines.{accepted_at, accepted_from, stopped_in, IsLate}
use Rattle.exec_threads.specs.LinesDone.{tasks_in, tasks_by, IsAnsweredBy, IsUnanswered, own_place, IsAtWork}

-- ## Lists with one more

pub there_then : {A : Type 0} (xs : List A) (x y : A) (n : ℕ) → slice_get (xs ++ x ∷ []) n ≡ Some y → (slice_get xs n ≡ Some y) ⊎ ((n ≡ length xs) × (x ≡ y))
there_then [] x y zero e = inr (refl, cc)
there_then [] x y (suc n) e = absurd cc
there_then (z ∷ zs) x y zero e = inl e
there_then (z ∷ zs) x y (suc n) e = one_later (there_then zs x y n e)
  where
    one_later : ((slice_get zs n ≡ Some y) ⊎ ((n ≡ length zs) × (x ≡ y))) → (slice_get zs n ≡ Some y) ⊎ ((suc n ≡ suc (length zs)) × (x ≡ y))
    one_later (inl e) = inl e
    one_later (inr e) = inr (ap suc e.0, e.1)

pub low_place : {A : Type 0} (xs : List A) (n : ℕ) (x : A) → slice_get xs n ≡ Some x → n < length xs
low_place [] n x e = absurd cc
low_place (y ∷ xs) zero x e = omega arith
low_place (y ∷ xs) (suc n) x e = (let h = low_place xs n x e in omega arith)

pub stopped_then : (ws : List Answer) (a : Answer) → stopped_in (ws ++ a ∷ []) ≡ stopped_in ws + stopped_in (a ∷ [])
stopped_then [] a = omega arith
stopped_then (Accepted ∷ ws) a = stopped_then ws a
stopped_then (Refused ∷ ws) a = stopped_then ws a
stopped_then (Already ∷ ws) a = stopped_then ws a
stopped_then (Stopped ∷ ws) a = (let e = stopped_then ws a in omega (arith, e))

-- ## The tasks that were accepted

module _ (step : ℕ) (script : List Op) where
  pub accepted_then : (place : ℕ) (ws : List Answer) (a : Answer) → accepted_from step script place (ws ++ a ∷ []) ≡ accepted_from step script place ws ++ accepted_at (place + step * length ws) (slice_get script (place + step * length ws)) a
  accepted_then place [] a = append-nil (accepted_at place (slice_get script place) a) ∙ ap (λ (p : ℕ). accepted_at p (slice_get script p) a) (let e : place ≡ place + step * 0 = omega arith in e)
  accepted_then place (x ∷ ws) a =
      let here = accepted_at place (slice_get script place) x in
      ap (λ (ts : List queue.Task). here ++ ts) (accepted_then (place + step) ws a)
      ∙ (sym (append_assoc here (accepted_from step script (place + step) ws) _)
      ∙ ap (λ (p : ℕ). (here ++ accepted_from step script (place + step) ws) ++ accepted_at p (slice_get script p) a) (let e = mul-suc step (length ws) in let f : (place + step) + step * length ws ≡ place + step * suc (length ws) = omega (arith, e) in f))

  here_fresh : (line place : ℕ) (op : Option Op) (a : Answer) → place + 1 < line → IsFreshLine line (accepted_at place op a)
  here_fresh line place None a lt = tt
  here_fresh line place (Some Stop) a lt = tt
  here_fresh line place (Some (Task (Add b n))) Accepted lt = (λ e. omega (arith, e, lt), tt)
  here_fresh line place (Some (Task (Sub b n))) Accepted lt = (λ e. omega (arith, e, lt), tt)
  here_fresh line place (Some (Task (Move b c n))) Accepted lt = (λ e. omega (arith, e, lt), tt)
  here_fresh line place (Some (Task change)) Refused lt = tt
  here_fresh line place (Some (Task change)) Stopped lt = tt
  here_fresh line place (Some (Task change)) Already lt = tt

  both_fresh : (line : ℕ) (xs ys : List queue.Task) → IsFreshLine line xs → IsFreshLine line ys → IsFreshLine line (xs ++ ys)
  both_fresh line [] ys f h = h
  both_fresh line (x ∷ xs) ys f h = (f.0, both_fresh line xs ys f.1 h)

  -- they stand on lines before the next one
  pub next_fresh : 1 ≤ step → (place next : ℕ) (ws : List Answer) → place + step * length ws ≤ next → IsFreshLine (next + 1) (accepted_from step script place ws)
  next_fresh some place next [] le = tt
  next_fresh some place next (a ∷ ws) le = (let e = mul-suc step (length ws) in
      both_fresh (next + 1) (accepted_at place (slice_get script place) a) (accepted_from step script (place + step) ws) (here_fresh (next + 1) place (slice_get script place) a (omega (arith, e, le, some))) (next_fresh some (place + step) next ws (omega (arith, e, le))))

-- ## The seat's own list

from_entries : (number : ℕ) (ts : List queue.Task) (es : List Entry) → AreSubmitted number ts es → filter_map (λ (e : Entry). task_of e.bytes) es ≡ ts
from_entries number [] [] a = refl
from_entries number [] (e ∷ es) a = absurd a
from_entries number (t ∷ ts) [] a = absurd a
from_entries number (t ∷ ts) (e ∷ es) a =
    let whole : IsWhole t = record { task = a.0.task; line = (let h = a.0.line.high in omega (arith, h)); amount = a.0.amount } in
    let is : task_of e.bytes ≡ Some t = ap task_of a.0.bytes ∙ task_again t whole in
    rw is (ap (λ (us : List queue.Task). t ∷ us) (from_entries number ts es a.1))

-- the tasks of a submitter are those that its seat has
pub by_seat : {O : Type 0} {g : Ghosts O} (q : TaskQueue O g) (ts : List queue.Task) (s : TaskSubmitter O g) → IsSubmitter q ts s → tasks_by s ≡ ts
by_seat q ts s is = ap tasks_in is.lists ∙ from_entries s.number ts is.own is.submitted

-- ## The submitter

module _ {O : Type 0} {g : Ghosts O} (q : TaskQueue O g) (script : List Op) (step : ℕ) (w : Worker O g) where
  pub seat_is : IsAtWork q script step w → IsSubmitter q (tasks_by w.by) w.by
  seat_is at = subst (λ (ts : List queue.Task). IsSubmitter q ts w.by) (sym (by_seat q _ w.by at.is)) at.is

  pub line_fresh : IsAtWork q script step w → (place : ℕ) → place ≡ own_place step w.by.number (length w.answers.items) → IsFreshLine (place + 1) (tasks_by w.by)
  line_fresh at place is = subst (λ (ts : List queue.Task). IsFreshLine (place + 1) ts) (sym (by_seat q _ w.by at.is)) (next_fresh step script (let s = at.some in let l = at.low in omega (arith, s, l)) (w.by.number - 1) place w.answers.items (omega (arith, is)))

  -- nothing was answered
  pub none_more : (w' : Worker O g) → IsAtWork q script step w → w'.answers ≡ w.answers → IsUnanswered q w.by w'.by → IsAtWork q script step w'
  none_more w' at same un = record {
    some = subst (λ (n : ℕ). 1 ≤ n) (sym un.number) at.some;
    low = subst (λ (n : ℕ). n ≤ step) (sym un.number) at.low;
    room = rw same at.room;
    is = subst (λ (n : ℕ). IsSubmitter q (accepted_from step script (n - 1) w'.answers.items) w'.by) (sym un.number) (subst (λ (l : List Answer). IsSubmitter q (accepted_from step script (w.by.number - 1) l) w'.by) (sym (ap (λ v. v.items) same)) (subst (λ (ts : List queue.Task). IsSubmitter q ts w'.by) (by_seat q _ w.by at.is) un.is));
    inside = rw same (rw un.number at.inside);
    fit = rw same (rw un.number at.fit);
    stops = rw same (un.stops ∙ at.stops);
    told = rw same (λ n late there is. un.told ∙ at.told n late there is);
    behind = rw same at.behind;
  }

  module _ (w' : Worker O g) (place : ℕ) (op : Op) (a : Answer) (at : IsAtWork q script step w) (place_is : place ≡ own_place step w.by.number (length w.answers.items)) (inside : place < length script) (asked : slice_get script place ≡ Some op) (by_ : IsAnsweredBy q place op a w.by w'.by) (items : w'.answers.items ≡ w.answers.items ++ a ∷ []) (capacity : vec_capacity w'.answers ≡ vec_capacity w.answers) where
    more_is : IsSubmitter q (accepted_from step script (w.by.number - 1) (w.answers.items ++ a ∷ [])) w'.by
    more_is = subst (λ (ts : List queue.Task). IsSubmitter q ts w'.by)
        (ap (λ (ts : List queue.Task). ts ++ accepted_at place (Some op) a) (by_seat q _ w.by at.is)
        ∙ (ap (λ (o : Option Op). accepted_from step script (w.by.number - 1) w.answers.items ++ accepted_at place o a) (sym asked)
        ∙ (ap (λ (p : ℕ). accepted_from step script (w.by.number - 1) w.answers.items ++ accepted_at p (slice_get script p) a) place_is
        ∙ sym (accepted_then step script (w.by.number - 1) w.answers.items a))))
        by_.is

    more_inside : (n : ℕ) → n < length (w.answers.items ++ a ∷ []) → own_place step w.by.number n < length script
    more_inside n lt = by_cases (let l = length-append w.answers.items (a ∷ []) in let c : (n < length w.answers.items) ⊎ (n ≡ length w.answers.items) = split n (length w.answers.items) (omega (arith, l, lt)) in c)
      where
        split : (n m : ℕ) → n < m + 1 → (n < m) ⊎ (n ≡ m)
        split zero zero h = inr refl
        split zero (suc m) h = inl (omega arith)
        split (suc n) zero h = absurd (omega (arith, h))
        split (suc n) (suc m) h = later (split n m (omega (arith, h)))
          where
            later : (n < m) ⊎ (n ≡ m) → (suc n < suc m) ⊎ (suc n ≡ suc m)
            later (inl h) = inl (omega (arith, h))
            later (inr e) = inr (ap suc e)

        by_cases : (n < length w.answers.items) ⊎ (n ≡ length w.answers.items) → own_place step w.by.number n < length script
        by_cases (inl h) = at.inside n h
        by_cases (inr e) = subst (λ (p : ℕ). p < length script) (place_is ∙ ap (λ (m : ℕ). own_place step w.by.number m) (sym e)) inside

    more_fit : (n : ℕ) (o : Op) (b : Answer) → slice_get script (own_place step w.by.number n) ≡ Some o → slice_get (w.answers.items ++ a ∷ []) n ≡ Some b → Answers o b
    more_fit n o b at_o there = by_cases (there_then w.answers.items a b n there)
      where
        by_cases : (slice_get w.answers.items n ≡ Some b) ⊎ ((n ≡ length w.answers.items) × (a ≡ b)) → Answers o b
        by_cases (inl e) = at.fit n o b at_o e
        by_cases (inr e) = (let same : op ≡ o = (let r : Some op ≡ Some o = sym asked ∙ (ap (λ (p : ℕ). slice_get script p) (place_is ∙ ap (λ (m : ℕ). own_place step w.by.number m) (sym e.0)) ∙ at_o) in cc) in
            subst (λ (x : Op). Answers x b) same (subst (λ (x : Answer). Answers op x) e.1 by_.fit))

    more_told : (n : ℕ) (late : Answer) → slice_get (w.answers.items ++ a ∷ []) n ≡ Some late → IsLate late → w'.by.told ≡ true
    more_told n late there is = by_cases (there_then w.answers.items a late n there)
      where
        by_cases : (slice_get w.answers.items n ≡ Some late) ⊎ ((n ≡ length w.answers.items) × (a ≡ late)) → w'.by.told ≡ true
        by_cases (inl e) = by_.stays (at.told n late e is)
        by_cases (inr e) = by_.told (subst IsLate (sym e.1) is)

    more_behind : (n stop : ℕ) (late : Answer) → slice_get (w.answers.items ++ a ∷ []) n ≡ Some late → IsLate late → slice_get (w.answers.items ++ a ∷ []) stop ≡ Some Stopped → stop < n
    more_behind n stop late there is halted = by_cases (there_then w.answers.items a late n there) (there_then w.answers.items a Stopped stop halted)
      where
        by_cases : (slice_get w.answers.items n ≡ Some late) ⊎ ((n ≡ length w.answers.items) × (a ≡ late)) → (slice_get w.answers.items stop ≡ Some Stopped) ⊎ ((stop ≡ length w.answers.items) × (a ≡ Stopped)) → stop < n
        by_cases (inl e) (inl f) = at.behind n stop late e is f
        by_cases (inr e) (inl f) = (let h = low_place w.answers.items stop Stopped f in omega (arith, h, e.0))
        by_cases (inl e) (inr f) = absurd (let t = at.told n late e is in let u = by_.first f.1 in (let z : true ≡ false = sym t ∙ u in cc))
        by_cases (inr e) (inr f) = absurd (subst IsLate (sym e.1 ∙ f.1) is)

    -- one line more was answered
    pub one_more : IsAtWork q script step w'
    one_more = record {
      some = subst (λ (n : ℕ). 1 ≤ n) (sym by_.number) at.some;
      low = subst (λ (n : ℕ). n ≤ step) (sym by_.number) at.low;
      room = subst (λ (n : ℕ). length script ≤ n) (sym capacity) at.room;
      is = subst (λ (n : ℕ). IsSubmitter q (accepted_from step script (n - 1) w'.answers.items) w'.by) (sym by_.number) (subst (λ (l : List Answer). IsSubmitter q (accepted_from step script (w.by.number - 1) l) w'.by) (sym items) more_is);
      inside = rw items (rw by_.number more_inside);
      fit = rw items (rw by_.number more_fit);
      stops = rw items (by_.stops ∙ (ap (λ (n : ℕ). n + stopped_in (a ∷ [])) at.stops ∙ sym (stopped_then w.answers.items a)));
      told = rw items more_told;
      behind = rw items more_behind;
    }
