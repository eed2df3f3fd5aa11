-- What a closed table tells of a queue.
use Rattle.std.proofs.Common.{◌≡◌, ◌⊎◌, inl, inr, ℕ, zero, suc, ◌≤◌, List, [], ◌∷◌, length, take, refl, sym, ap, ◌∙◌, arith}
use Rattle.std.proofs.lemmas.List.{length-map}
use mathlib.Core.Logic.{dite}
use native.Mathlib.Decide.{dec_lt}
use mathlib.Core.Option.{some, some-injective}
use lib.ListN.{get_elem?}
use Rattle.atomic_table.specs.declared.shared.Seat.{Seat}
use Rattle.sock_io.specs.declared.link.Out.{Ghosts}
use Rattle.sock_words.specs.declared.place_word.PlaceWord.{PlaceWord}
use Rattle.sock_words.specs.declared.vref.Vref.{Vref}
use Rattle.sock_words.specs.Totals.{total}
use Rattle.sock_model.specs.declared.view.View.{View}
use Rattle.sock_rule.specs.declared.homes.SockHome.{SockHome}
use Rattle.sock_table.specs.ClosedSocketTable.{AllDone, ClosedBy}
use Rattle.chain_orders.specs.PlacesInOrder.{LinkPlaced, PlacedInOrder}
use Rattle.chain_orders.proofs.PlacesOfClosedTable.{placed_in_order}
use Rattle.exec_queue.specs.declared.task.Task.{Task}
use Rattle.exec_queue.specs.declared.queue.TaskQueue.{TaskQueue}
use Rattle.exec_queue.specs.declared.queue.TaskSubmitter.{TaskSubmitter}
use Rattle.exec_queue.specs.declared.finishing.TaskEnd.{TaskEnd}
use Rattle.exec_queue.specs.Submitters.{IsQueuePlan}
use Rattle.exec_queue.specs.LinesInOrder.{AreLinesOf}
use Rattle.exec_queue.specs.EndedQueue.{AreSubmitters, NoLineTwice, stops_of, Ran, AnswersFit, TasksEnded}
use Rattle.exec_queue.specs.StoppedQueue.{NotedFault}
use Rattle.exec_queue.proofs.SentTasks.{seats_of, indexes_differ}
use Rattle.exec_queue.proofs.OrderOfTasks.{tasks, lines, merged_tasks, one_link, lines_of, few, same_count, kept_few, kept_whole, taken_few, took_tasks, part_few}
use Rattle.exec_queue.proofs.NotesOfSubmitters.{fault_there, one_stop, told_stop, link_stopped, found_full}

-- ## Before it

module _ {O : Type 0} {g : Ghosts O} (q : TaskQueue O g) where
  pub all_done : (tss : List (List Task)) (ss : List (TaskSubmitter O g)) → AreSubmitters q tss ss → AllDone q.table.rule.table.shared.table_id q.table.rule.plan (seats_of q ss)
  all_done [] [] are = tt
  all_done [] (s ∷ ss) are = absurd are
  all_done (ts ∷ tss) [] are = absurd are
  all_done (ts ∷ tss) (s ∷ ss) are = (are.0.ready.done, all_done tss ss are.1)

  -- each stands for itself alone
  pub all_shares : (tss : List (List Task)) (ss : List (TaskSubmitter O g)) → AreSubmitters q tss ss → total (λ (x : Seat (SockHome O g) View). x.me.0.share) (seats_of q ss) ≡ length ss
  all_shares [] [] are = refl
  all_shares [] (s ∷ ss) are = absurd are
  all_shares (ts ∷ tss) [] are = absurd are
  all_shares (ts ∷ tss) (s ∷ ss) are = let h = are.0.ready.share in let again = all_shares tss ss are.1 in omega arith

-- ## Behind it

take_few : {A : Type 0} (n : ℕ) (xs : List A) → length (take n xs) ≤ n
take_few zero xs = omega arith
take_few (suc n) [] = omega arith
take_few (suc n) (x ∷ xs) = let h = take_few n xs in omega arith

module _ {O : Type 0} {g : Ghosts O} (q : TaskQueue O g) (tss : List (List Task)) (ss : List (TaskSubmitter O g)) (are : AreSubmitters q tss ss) (plan : IsQueuePlan q.table.rule.plan) (once : NoLineTwice tss)
    {places : List PlaceWord} {vrefs : List Vref} {outs : List O} (closed : ClosedBy g.state q.table.rule.plan (seats_of q ss) places vrefs outs) where
  abbrev placed : PlacedInOrder g.state q.table.rule.plan (seats_of q ss) places outs
  placed = placed_in_order (seats_of q ss) q.table.rule.plan places vrefs outs closed (indexes_differ q tss ss are once)

  abbrev own_tasks : List Task
  own_tasks = tasks q tss ss are once q.table.rule.plan plan places outs placed

  abbrev own_lines : List ℕ
  own_lines = lines q tss ss are once q.table.rule.plan plan places outs placed

  abbrev link : LinkPlaced g.state q.table.rule.plan (seats_of q ss) places outs 0 placed.order
  link = one_link q tss ss are once q.table.rule.plan plan places outs placed

  abbrev Clean : Type 0
  Clean = (c : ℕ) (s : TaskSubmitter O g) → get_elem? ss c ≡ some s → NotedFault q.id.0 s.seat.me.0 → ⊥

  module _ (e : TaskEnd O) (order_is : e.order.items ≡ own_lines) (ran_is : e.ran ≡ link.kept) (out_is : outs ≡ e.out ∷ []) where
    same_out : e.out ≡ link.out
    same_out = some-injective e.out link.out (ap (λ (os : List O). get_elem? os 0) (sym out_is) ∙ link.there)

    clean : (g.state e.out).faults ≡ 0 → Clean
    clean none_ c s at f = let some_ = fault_there q tss ss are plan closed placed.order link c s at f in let same = ap (λ (o : O). (g.state o).faults) same_out in absurd (omega arith)

    ran_if : (stops_of ss ≡ 0 → e.ran ≡ length own_tasks) → Ran tss (stops_of ss) e.order.items e.ran (take link.kept own_tasks)
    ran_if whole = record {
      tasks = own_tasks;
      ordered = merged_tasks q tss ss are once q.table.rule.plan plan places outs placed;
      lines = order_is;
      few = (let a = kept_few q tss ss are once q.table.rule.plan plan places outs placed in let b = ran_is in omega arith);
      ran_is = ap (λ (n : ℕ). take n own_tasks) (sym ran_is);
      whole = whole;
    }

    as_many : length own_tasks ≡ length placed.order
    as_many = let a = same_count q tss ss are once q.table.rule.plan plan places outs placed in let b = length-map own_tasks (λ (t : Task). t.line) in omega arith

    whole_clean : Clean → stops_of ss ≡ 0 → e.ran ≡ length own_tasks
    whole_clean ok none_ = dite (dec_lt link.kept (length placed.order))
        (λ left. absurd (link_stopped q tss ss are plan closed placed.order link ok (link.left left) none_))
        (λ all. (let a = kept_few q tss ss are once q.table.rule.plan plan places outs placed in let b = ran_is in let c = as_many in omega arith))

    whole_full : length (take link.kept own_tasks) ≡ 4096 → e.ran ≡ length own_tasks
    whole_full full =
        let a = kept_few q tss ss are once q.table.rule.plan plan places outs placed in
        let b = few q tss ss are once q.table.rule.plan plan places outs placed in
        let c = take_few link.kept own_tasks in
        let d = ran_is in
        omega arith

    ran_all : ((g.state e.out).faults ≡ 0) ⊎ (length (take link.kept own_tasks) ≡ 4096) → Ran tss (stops_of ss) e.order.items e.ran (take link.kept own_tasks)
    ran_all (inl none_) = ran_if (whole_clean (clean none_))
    ran_all (inr full) = ran_if (λ _. whole_full full)

    answers_all : Clean → AnswersFit ss e.order.items
    answers_all ok = record {
      one_stop = one_stop q tss ss are plan closed placed.order link ok;
      told = λ k s at told. told_stop q tss ss are plan closed placed.order link ok k s at told;
      full = λ k s at full. (let a = placed.full (found_full q tss ss are plan closed placed.order link k s at full) in
          let b = few q tss ss are once q.table.rule.plan plan places outs placed in
          let c = same_count q tss ss are once q.table.rule.plan plan places outs placed in
          let d = as_many in
          let r = plan.requests in
          ap length order_is ∙ (let n : length own_lines ≡ 4096 = omega arith in n));
    }

    -- what it leaves
    pub ended : TasksEnded tss ss e
    ended = record {
      took = link.took;
      tells = λ bytes is. link.tells bytes (sym (ap (λ (o : O). (g.state o).took) same_out) ∙ is);
      tasks = take link.kept own_tasks;
      part = link.part;
      took_is = took_tasks q tss ss are once q.table.rule.plan plan places outs placed;
      few = taken_few q tss ss are once q.table.rule.plan plan places outs placed;
      whole = kept_whole q tss ss are once q.table.rule.plan plan places outs placed;
      part_few = part_few q tss ss are once q.table.rule.plan plan places outs placed;
      ran = ran_all;
      answers = λ none_. answers_all (clean none_);
    }

  -- the lines that the words tell
  pub own_places : AreLinesOf places 4096 own_lines link.kept
  own_places = lines_of q tss ss are once q.table.rule.plan plan places outs placed
