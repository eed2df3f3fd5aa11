-- How the queue of a script ended whose submitters did all of its lines.
use Rattle.std.proofs.Common.{◌≡◌, ℕ, zero, suc, ◌+◌, ◌-◌, ◌*◌, ◌/◌, ◌%◌, ◌<◌, ◌≤◌, ◌⊎◌, inl, inr, Bool, true, false, lt-ltb, Option, Some, None, List, [], ◌∷◌, take, length, map, refl, sym, ap, ◌∙◌, subst, arith}
use Rattle.std.specs.Prelude.{slice_get, filter_map, option_and_then, if◌then◌else◌}
use Rattle.std.proofs.lemmas.List.{length-map}
use mathlib.Core.Logic.{dite}
use mathlib.Core.Option.{some}
use native.Mathlib.Decide.{dec_lt}
use lib.ListN.{get_elem?}
use Rattle.sock_io.specs.declared.link.Out.{Ghosts}
use Rattle.exec_queue.specs.declared.task.Task as queue
use Rattle.exec_queue.specs.declared.queue.TaskQueue.{TaskQueue}
use Rattle.exec_queue.specs.declared.queue.TaskSubmitter.{TaskSubmitter}
use Rattle.exec_queue.specs.Submitters.{IsSubmitter}
use Rattle.exec_queue.specs.EndedQueue.{AreSubmitters, NoLineTwice, stops_of, Ran, AnswersFit}
use Rattle.exec_script.specs.declared.op.Op.{Op}
use Rattle.exec_script.specs.declared.op.Op.TheVariants.{Task, Stop}
use Rattle.exec_script.specs.declared.op.Change.{Change}
use Rattle.exec_script.specs.declared.op.Change.TheVariants.{Add, Sub, Move}
use Rattle.exec_script.specs.declared.told.Answer.{Answer}
use Rattle.exec_script.specs.declared.told.Answer.TheVariants.{Accepted, Refused, Stopped, Already}
use Rattle.exec_script.specs.Accounting.{Run, run_at, run_of, book_after}
use Rattle.exec_script.specs.QueueEnds.{IsAnswered, SomeStopped, AreAnswered, IsOrder, IsStoppedOnce}
use Rattle.exec_threads.specs.declared.worker.Worker.{Worker}
use Rattle.exec_threads.specs.declared.run.Done.{Done}
use Rattle.exec_threads.specs.declared.run.Worked.{Worked}
use Rattle.exec_threads.specs.TasksOfLines.{most_lines, task_on, accepted_from, stopped_in, run_of_task, IsLate}
use Rattle.exec_threads.specs.LinesDone.{own_place, IsAtWork, HasWorked}
use Rattle.exec_threads.specs.ScriptDone.{HaveWorked, AreDealt, IsWorked, IsDone}
use Rattle.exec_threads.proofs.AcceptedLines.{got, got_back, line_is, accepted_of, none_twice}
use Rattle.exec_threads.proofs.LinesGoRound.{IsRound, stopped_of, late_is, one_stopped, stopped_once, behind_stop, all_answered, asked_at, is_order}

-- ## The accounts

-- what a task is for the accounts is the change of its line
run_again : (line : ℕ) (change : Change) → run_of_task (task_on line change) ≡ record { line = line; change = change }
run_again line (Add a n) = refl
run_again line (Sub a n) = refl
run_again line (Move a b n) = refl

run_there : (script : List Op) (place : ℕ) (change : Change) → slice_get script place ≡ Some (Task change) → run_at script (place + 1) ≡ Some (record { line = place + 1; change = change })
run_there script place change asked =
    let here : slice_get script ((place + 1) - 1) ≡ Some (Task change) = ap (slice_get script) (let h : (place + 1) - 1 ≡ place = omega arith in h) ∙ asked in
    ap (λ (b : Bool). if b then option_and_then (run_of (place + 1)) (slice_get script ((place + 1) - 1)) else None) (lt-ltb 0 (place + 1) (omega arith))
    ∙ ap (λ (o : Option Op). option_and_then (run_of (place + 1)) o) here

pub runs_are : (script : List Op) (n : ℕ) (ts : List queue.Task) → ((q : ℕ) (t : queue.Task) → get_elem? ts q ≡ some t → run_at script t.line ≡ Some (run_of_task t)) → filter_map (run_at script) (take n (map (λ (t : queue.Task). t.line) ts)) ≡ map run_of_task (take n ts)
runs_are script zero ts each = refl
runs_are script (suc n) [] each = refl
runs_are script (suc n) (t ∷ ts) each = (let again = runs_are script n ts (λ q. each (suc q)) in rw (each 0 t refl) (ap (λ (l : List Run). run_of_task t ∷ l) again))

pub is_run : (script : List Op) (t : queue.Task) (place : ℕ) (change : Change) → slice_get script place ≡ Some (Task change) → t ≡ task_on (place + 1) change → run_at script t.line ≡ Some (run_of_task t)
is_run script t place change asked is =
    ap (λ (u : queue.Task). run_at script u.line) is
    ∙ (ap (run_at script) (line_is (place + 1) change)
    ∙ (run_there script place change asked
    ∙ (ap (λ (r : Run). Some r) (sym (run_again (place + 1) change)) ∙ ap (λ (u : queue.Task). Some (run_of_task u)) (sym is))))

-- ## The submitters

module _ {O : Type 0} {g : Ghosts O} where
  -- what the lines of each were answered
  abbrev pub own_of : List (Worker O g) → List (List Answer)
  own_of ws = map (λ (w : Worker O g). w.answers.items) ws

  own_there : (ws : List (Worker O g)) (k : ℕ) (theirs : List Answer) → slice_get (own_of ws) k ≡ Some theirs → (w : Worker O g) × (slice_get ws k ≡ Some w) × (w.answers.items ≡ theirs)
  own_there [] k theirs e = absurd cc
  own_there (w ∷ ws) zero theirs e = (w, refl, (let h : w.answers.items ≡ theirs = cc in h))
  own_there (w ∷ ws) (suc k) theirs e = own_there ws k theirs e

  seat_there : (ws : List (Worker O g)) (k : ℕ) (w : Worker O g) → slice_get ws k ≡ Some w → get_elem? (map (λ (w : Worker O g). w.by) ws) k ≡ some w.by
  seat_there [] k w e = absurd cc
  seat_there (v ∷ ws) zero w e = ap (λ (u : Worker O g). some u.by) (let h : v ≡ w = cc in h)
  seat_there (v ∷ ws) (suc k) w e = seat_there ws k w e

  stops_are : (q : TaskQueue O g) (script : List Op) (step : ℕ) (ws : List (Worker O g)) → ((k : ℕ) (w : Worker O g) → slice_get ws k ≡ Some w → IsAtWork q script step w) → stops_of (map (λ (w : Worker O g). w.by) ws) ≡ stopped_of (own_of ws)
  stops_are q script step [] at = refl
  stops_are q script step (w ∷ ws) at = (let h = (at 0 w refl).stops in let k = stops_are q script step ws (λ k. at (suc k)) in omega (arith, h, k))

  submitters_are : (q : TaskQueue O g) (script : List Op) (step place : ℕ) (ws : List (Worker O g)) → ((k : ℕ) (w : Worker O g) → slice_get ws k ≡ Some w → HasWorked q script step (place + k + 1) w) → AreSubmitters q (accepted_of step script place (own_of ws)) (map (λ (w : Worker O g). w.by) ws)
  submitters_are q script step place [] have = tt
  submitters_are q script step place (w ∷ ws) have =
      let h = have 0 w refl in (
        subst (λ (n : ℕ). IsSubmitter q (accepted_from step script n w.answers.items) w.by) (let e = h.number_is in omega (arith, e)) h.at.is,
        submitters_are q script step (place + 1) ws (λ k v at. subst (λ (n : ℕ). HasWorked q script step n v) (let e : place + suc k + 1 ≡ (place + 1) + k + 1 = omega arith in e) (have (suc k) v at)),
      )

-- ## All of it

module _ {O : Type 0} {g : Ghosts O} (q : TaskQueue O g) (script : List Op) (step : ℕ) (ws : List (Worker O g)) (some_ : 1 ≤ step) (count : length ws ≡ step) (have : HaveWorked q script step ws) where
  pub are_submitters : AreSubmitters q (accepted_of step script 0 (own_of ws)) (map (λ (w : Worker O g). w.by) ws)
  are_submitters = submitters_are q script step 0 ws (λ k w at. subst (λ (n : ℕ). HasWorked q script step n w) (let e : k + 1 ≡ 0 + k + 1 = omega arith in e) (have k w at))

  own_long : length (own_of ws) ≡ step
  own_long = length-map ws (λ (w : Worker O g). w.answers.items) ∙ count

  pub no_line_twice : NoLineTwice (accepted_of step script 0 (own_of ws))
  no_line_twice = none_twice step script some_ 0 (own_of ws) (let e = own_long in omega (arith, e))

  module _ (answers : List Answer) (dealt : AreDealt ws (length script) answers) where
    own_number : (k : ℕ) (w : Worker O g) → slice_get ws k ≡ Some w → (n : ℕ) → own_place step w.by.number n ≡ k + step * n
    own_number k w at n = (let e = (have k w at).number_is in ap (λ (m : ℕ). (m - 1) + step * n) e ∙ (let h : ((k + 1) - 1) + step * n ≡ k + step * n = omega arith in h))

    round : IsRound script step (own_of ws) answers
    round = record {
      steps = some_;
      count = own_long;
      inside = λ k n theirs at lt. (let w = own_there ws k theirs at in subst (λ (p : ℕ). p < length script) (own_number k w.0 w.1 n) ((have k w.0 w.1).at.inside n (subst (λ (l : List Answer). n < length l) (sym w.2) lt)));
      fit = λ k n theirs op a at asked is. (let w = own_there ws k theirs at in (have k w.0 w.1).at.fit n op a (ap (slice_get script) (own_number k w.0 w.1 n) ∙ asked) (ap (λ (l : List Answer). slice_get l n) w.2 ∙ is));
      behind = λ k n stop theirs late at is late_ halted. (let w = own_there ws k theirs at in (have k w.0 w.1).at.behind n stop late (ap (λ (l : List Answer). slice_get l n) w.2 ∙ is) late_ (ap (λ (l : List Answer). slice_get l stop) w.2 ∙ halted));
      long = dealt.long;
      dealt = λ place a theirs is at. (let w = own_there ws (place % step) theirs at in
          let d = dealt.dealt place a w.0 is (ap (λ (n : ℕ). slice_get ws (place % n)) count ∙ w.1) in
          ap (λ (l : List Answer). slice_get l (place / step)) (sym w.2) ∙ (ap (λ (n : ℕ). slice_get w.0.answers.items (place / n)) (sym count) ∙ d));
    }

    pub answered : AreAnswered script answers
    answered = all_answered script step (own_of ws) answers round

    stops : stops_of (map (λ (w : Worker O g). w.by) ws) ≡ stopped_of (own_of ws)
    stops = stops_are q script step ws (λ k w at. (have k w at).at)

    module _ (order : List ℕ) (n : ℕ) (ran : List queue.Task) (r : Ran (accepted_of step script 0 (own_of ws)) (stops_of (map (λ (w : Worker O g). w.by) ws)) order n ran) (fit : AnswersFit (map (λ (w : Worker O g). w.by) ws) order) where
      pub ordered : IsOrder step answers order
      ordered = is_order script step (own_of ws) answers round r.tasks r.ordered order r.lines

      order_long : length order ≡ length r.tasks
      order_long = ap length r.lines ∙ length-map r.tasks (λ (t : queue.Task). t.line)

      pub few : n ≤ length order
      few = (let e = order_long in let f = r.few in omega (arith, e, f))

      at_most : stopped_of (own_of ws) ≤ 1
      at_most = (let s = stops in let o = fit.one_stop in omega (arith, s, o))

      is_stopped : 1 ≤ stopped_of (own_of ws) → SomeStopped answers
      is_stopped = one_stopped script step (own_of ws) answers round

      -- a line that came too late was told so because a stop stopped the queue
      of_late : (late : Answer) → IsLate late → (line : ℕ) → IsAnswered answers line late → SomeStopped answers
      of_late late is line at = late_is script step (own_of ws) answers round (line - 1) late is at.1 (SomeStopped answers) (λ k m theirs own_at there.
          let w = own_there ws k theirs own_at in
          let told = (have k w.0 w.1).at.told m late (ap (λ (l : List Answer). slice_get l m) w.2 ∙ there) is in
          let one = fit.told k w.0.by (seat_there ws k w.0 w.1) told in
          is_stopped (let s = stops in omega (arith, one, s)))

      pub is_stopped_once : IsStoppedOnce step answers order n
      is_stopped_once = record {
        once = stopped_once script step (own_of ws) answers round at_most;
        dropped = λ less. dite (dec_lt 0 (stopped_of (own_of ws)))
            (λ any. is_stopped (omega (arith, any)))
            (λ none. absurd (let w = r.whole (let s = stops in omega (arith, none, s)) in let e = order_long in omega (arith, less, w, e)));
        refused = of_late Refused tt;
        already = of_late Already tt;
        behind = behind_stop script step (own_of ws) answers round;
      }

      pub runs : map run_of_task ran ≡ filter_map (run_at script) (take n order)
      runs = ap (map run_of_task) r.ran_is ∙ (sym (runs_are script n r.tasks (λ p t at. (let a = asked_at script step (own_of ws) answers round r.tasks r.ordered p t at in is_run script t a.0 a.1 a.2 a.3))) ∙ ap (λ (l : List ℕ). filter_map (run_at script) (take n l)) (sym r.lines))

-- ## The ending

module _ {O : Type 0} {g : Ghosts O} (q : TaskQueue O g) (script : List Op) (step : ℕ) (d : Worked O g) (some_ : 1 ≤ step) (w : IsWorked q script step d) where
  pub tasks_are : AreSubmitters q (accepted_of step script 0 (own_of w.workers)) d.submitters.items
  tasks_are = subst (λ (ss : List (TaskSubmitter O g)). AreSubmitters q (accepted_of step script 0 (own_of w.workers)) ss) (sym w.submitters) (are_submitters q script step w.workers some_ w.count w.have)

  pub seats_are : length d.submitters.items ≡ step
  seats_are = ap length w.submitters ∙ (length-map w.workers (λ (v : Worker O g). v.by) ∙ w.count)

  pub is_done : (done : Done) (ran : List queue.Task) → ((tss : List (List queue.Task)) → AreSubmitters q tss d.submitters.items → NoLineTwice tss → Ran tss (stops_of d.submitters.items) done.order.items done.ran ran) → ((tss : List (List queue.Task)) → AreSubmitters q tss d.submitters.items → NoLineTwice tss → AnswersFit d.submitters.items done.order.items) →
      done.answers ≡ d.answers → done.accounts ≡ book_after most_lines (map run_of_task ran) → IsDone step script done
  is_done done ran runs_ fits answers_are accounts_are =
      let tss = accepted_of step script 0 (own_of w.workers) in
      let once = no_line_twice q script step w.workers some_ w.count w.have in
      let by_workers = λ (ss : List (TaskSubmitter O g)). Ran tss (stops_of ss) done.order.items done.ran ran in
      let r = subst by_workers w.submitters (runs_ tss tasks_are once) in
      let f = subst (λ (ss : List (TaskSubmitter O g)). AnswersFit ss done.order.items) w.submitters (fits tss tasks_are once) in
      let dealt = subst (λ (theirs : List Answer). AreDealt w.workers (length script) theirs) (sym (ap (λ v. v.items) answers_are)) w.dealt in
      record {
        answered = answered q script step w.workers some_ w.count w.have done.answers.items dealt;
        ordered = ordered q script step w.workers some_ w.count w.have done.answers.items dealt done.order.items done.ran ran r f;
        few = few q script step w.workers some_ w.count w.have done.answers.items dealt done.order.items done.ran ran r f;
        stopped = is_stopped_once q script step w.workers some_ w.count w.have done.answers.items dealt done.order.items done.ran ran r f;
        accounts = accounts_are ∙ ap (book_after most_lines) (runs q script step w.workers some_ w.count w.have done.answers.items dealt done.order.items done.ran ran r f);
      }
