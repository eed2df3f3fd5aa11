-- What a script asks of clients with calls: each call has its own number, and each socket a link.
use Rattle.std.proofs.Common.{◌≡◌, ℕ, ◌+◌, ◌<◌, ◌≤◌, List, [], ◌∷◌, length, length-append, Some, Ok, refl, sym, ap, ◌∙◌, subst, arith}
use Rattle.std.specs.List.{AllByRecursion}
use Rattle.brpc_model.specs.LinePlaceFaults.{names}
use Rattle.brpc_model.specs.Items.{Item}
use Rattle.brpc_model.specs.Operations.{clients as clients_of}
use Rattle.brpc_model.specs.Script.{script_of}
use Rattle.sock_message.specs.Asked.{Asked}
use Rattle.sock_words.specs.declared.plain.Plan.{Plan}
use Rattle.seat_programs.specs.declared.task.Op.{Op}
use Rattle.seat_programs.specs.declared.task.Op.TheVariants as ops
use Rattle.seat_programs.specs.declared.task.Task.{Task}
use Rattle.seat_programs.specs.ScriptSetupToEnding.{all_tasks}
use Rattle.seat_programs.specs.Tasks.{numbered, plan_of}
use Rattle.seat_programs.specs.Explained.{AreTasks, OpFits, TaskFits}
use Rattle.callless_fits.specs.sock_deeds.specs.script_facts.proofs.FilteredLists.{all_from, all_map}
use Rattle.callless_fits.specs.sock_deeds.specs.script_facts.proofs.ScriptSizes.{keeps_limits}
use Rattle.callless_fits.specs.sock_deeds.specs.script_facts.proofs.TaskLemmas.{IsTaskOf, numbers_at, of_tasks, has_task, call_asks, tasks_length}
use Rattle.callless_fits.specs.sock_deeds.specs.script_facts.proofs.ReadScriptTasks.{tasks_of_script}
use Rattle.call_run.specs.sock_open.specs.SocketTableOpening.{MayBegin}
use Rattle.call_run.specs.call_client.specs.ClientBetweenOperations.{Needs}
use Rattle.call_run.specs.call_client.specs.ClientRun.{left_by, MayMakeAll}
use Rattle.call_run.specs.Threads.{opens_in, opens_of, opens_of_each, ids_of, MayRun, AllMayRun, MayRunAll}
use Rattle.script_parts.proofs.LinksInClientOrder.{link_of, links_of, links_in, all_links}

-- ## The numbers of calls

-- a call is asked for under the number of its own operation
abbrev pub IsOwn : ℕ → Op → Type 0
IsOwn number (ops.Call asked) = asked.operation ≡ number
IsOwn number other = Unit {0}

abbrev pub IsOwnTask : Task → Type 0
IsOwnTask t = IsOwn t.number t.op

module _ (script : List Item) where
  own_op : (c : ℕ) (t : Task) (w : IsTaskOf script c t) (op : Op) → t.op ≡ op → IsOwn t.number op
  own_op c t w (ops.Call asked) e = let x = call_asks (numbered script) (names script) (numbers_at script t.number w.operation) w.operation.item asked (w.asks ∙ ap Some e) in ap (λ (a : Asked). a.operation) x.2
  own_op c t w other e = tt

  pub all_own : AllByRecursion (AllByRecursion IsOwnTask) (all_tasks script)
  all_own = all_from (AllByRecursion IsOwnTask) (all_tasks script) (λ ts g.
      let w = of_tasks script g.0 ts g.1 in
      subst (AllByRecursion IsOwnTask) w.1 (all_from IsOwnTask _ (λ t h. own_op g.0 t (has_task script g.0 t h) t.op refl)))

-- ## Opens

one_opens : (op : Op) → opens_in op ≡ length (link_of op)
one_opens (ops.Open n k) = refl
one_opens other = refl

pub opens_are : (ts : List Task) → opens_of ts ≡ length (links_of ts)
opens_are [] = refl
opens_are (t ∷ ts) = omega (arith, one_opens t.op, opens_are ts, length-append (link_of t.op) (links_of ts))

each_opens : (tss : List (List Task)) → opens_of_each tss ≡ links_in tss
each_opens [] = refl
each_opens (ts ∷ tss) = omega (arith, opens_are ts, each_opens tss)

-- ## Operations that the tables have

module _ (p : Plan) (slots : ℕ) where
  needs_of : (number : ℕ) (op : Op) → number < p.operations → IsOwn number op → OpFits p op → (n m : ℕ) → n ≡ opens_in op + m → Needs p (ids_of p slots) number op n
  needs_of number (ops.Open name k) low own f n m e = (f.0, omega (arith, e))
  needs_of number (ops.Send name bytes) low own f n m e = f.0
  needs_of number (ops.Call asked) low own f n m e = (f.names 0, own, omega arith)
  needs_of number (ops.Expire t) low own f n m e = omega (arith, f)
  needs_of number (ops.Join t) low own f n m e = omega (arith, f)
  needs_of number (ops.Hold name) low own f n m e = f
  needs_of number (ops.Drop name) low own f n m e = f
  needs_of number (ops.Fail name code) low own f n m e = let some_ = f.1 in let less = f.2 in (f.0, omega arith, omega arith)

  left_are : (op : Op) (n m : ℕ) → n ≡ opens_in op + m → left_by op n ≡ m
  left_are (ops.Open name k) n m e = omega (arith, e)
  left_are other n m e = omega (arith, e)

  may_make : (ts : List Task) → AllByRecursion (TaskFits p) ts → AllByRecursion IsOwnTask ts → (n : ℕ) → n ≡ opens_of ts → MayMakeAll p (ids_of p slots) ts n
  may_make [] fit own n e = e
  may_make (t ∷ ts) fit own n e = (
    record { number = fit.0.0; needs = needs_of t.number t.op fit.0.0 own.0 fit.0.1 n (opens_of ts) e },
    may_make ts fit.1 own.1 (left_by t.op n) (left_are t.op n (opens_of ts) e),
  )

  may_run : (ts : List Task) → AllByRecursion (TaskFits p) ts → AllByRecursion IsOwnTask ts → length ts ≤ 4096 → MayRun p (ids_of p slots) ts
  may_run ts fit own few = record { few = omega (arith, few); may = may_make ts fit own (opens_of ts) refl }

  all_may : (tss : List (List Task)) → AllByRecursion (AllByRecursion (TaskFits p)) tss → AllByRecursion (AllByRecursion IsOwnTask) tss → AllByRecursion (λ (ts : List Task). length ts ≤ 4096) tss → AllMayRun p (ids_of p slots) tss
  all_may [] fit own few = tt
  all_may (ts ∷ tss) fit own few = (may_run ts fit.0 own.0 few.0, all_may tss fit.1 own.1 few.1)

  first_may : (setup : List Task) (clients : List (List Task)) → AreTasks p (setup ∷ clients) → AllByRecursion (AllByRecursion IsOwnTask) (setup ∷ clients) → length (setup ∷ clients) ≤ p.seats → links_in (setup ∷ clients) ≡ p.links → MayRunAll p (ids_of p slots) setup clients
  first_may setup clients are own seats links = record {
    setup_may = may_run setup are.fit.0 own.0 are.few.0;
    clients_may = all_may clients are.fit.1 own.1 are.few.1;
    seats = omega (arith, seats);
    links = omega (arith, links, opens_are setup, each_opens clients);
  }

-- ## Tables with other seats

op_still : (p : Plan) (n : ℕ) (op : Op) → OpFits p op → OpFits (record p { seats = n }) op
op_still p n (ops.Call asked) h = record { operation = h.operation; names = h.names; range_low = h.range_low; range_high = h.range_high; short = h.short }
op_still p n other h = h

-- what may be asked of a table may be asked of one with so many seats
pub seated_tasks : (p : Plan) (n : ℕ) (clients : List (List Task)) → AreTasks p clients → AreTasks (record p { seats = n }) clients
seated_tasks p n clients are = record {
  some_ = are.some_;
  fit = all_map (AllByRecursion (TaskFits p)) (AllByRecursion (TaskFits (record p { seats = n }))) (λ ts h. all_map (TaskFits p) (TaskFits (record p { seats = n })) (λ t fit. (fit.0, op_still p n t.op fit.1)) ts h) clients are.fit;
  in_order = are.in_order;
  differ = are.differ;
  setup = are.setup;
  alternating = are.alternating;
  few = are.few;
}

-- ## A script that was read

-- a seat for each client of a script, and one for the setup
pub script_seats : (script : List Item) (setup : List Task) (clients : List (List Task)) → setup ∷ clients ≡ all_tasks script → length clients + 1 ≡ (plan_of script).seats
script_seats script setup clients are = let a = ap length are in let b = tasks_length script 0 (clients_of script + 1) in omega arith

module _ (bytes : List ℕ) (script : List Item) (reads : script_of bytes ≡ Ok script) where
  -- over tables with so many seats
  abbrev pub seated : ℕ → Plan
  seated n = record (plan_of script) { seats = n }

  pub seated_are : (n : ℕ) (clients : List (List Task)) → clients ≡ all_tasks script → AreTasks (seated n) clients
  seated_are n clients are = subst (AreTasks (seated n)) (sym are) (seated_tasks (plan_of script) n (all_tasks script) (tasks_of_script bytes script reads))

  pub seated_may : (n slots : ℕ) (setup : List Task) (clients : List (List Task)) → setup ∷ clients ≡ all_tasks script → length clients + 1 ≤ n → MayRunAll (seated n) (ids_of (seated n) slots) setup clients
  seated_may n slots setup clients are seats =
      first_may (seated n) slots setup clients (seated_are n (setup ∷ clients) are)
      (subst (AllByRecursion (AllByRecursion IsOwnTask)) (sym are) (all_own script)) (omega (arith, seats)) (ap links_in are ∙ all_links script)

  pub seated_begins : (n : ℕ) → 1 ≤ n → n ≤ 64 → MayBegin (seated n)
  seated_begins n some_ few = let k = keeps_limits bytes script reads in record {
    some_slots = (let a = k.some_slots in omega arith);
    some_seats = some_;
    few_seats = few;
    few_links = (let a = k.links in omega arith);
    even = k.even;
    low = k.first;
  }
