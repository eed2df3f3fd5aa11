-- Each operation of a run with calls has an outcome that is told, or is a message that has a place.
use Rattle.std.proofs.Common.{◌≡◌, ℕ, ◌+◌, ◌*◌, ◌<◌, ◌≤◌, ◌⊎◌, inl, inr, true, cond, List, [], ◌∷◌, ◌++◌, replicate, Some, None, sym, ap, ◌∙◌, subst, arith}
use Rattle.std.specs.Prelude.{Option, slice_get}
use Rattle.std.specs.List.{AllByRecursion}
use Rattle.std.proofs.lemmas.Option.{slice_get_within}
use mathlib.Core.Option.{some}
use lib.ListN.{get_elem?}
use Rattle.atomic_table.specs.declared.shared.Seat.{Seat}
use Rattle.sock_io.specs.declared.link.Out.{Ghosts}
use Rattle.sock_io.specs.LinkHalves.{OutState}
use Rattle.sock_words.specs.PackedWords.{HasPosition}
use Rattle.sock_words.specs.declared.outcome.Outcome.{Outcome}
use Rattle.sock_words.specs.declared.place_word.PlaceWord.{PlaceWord}
use Rattle.sock_words.specs.declared.plain.Plan.{Plan}
use Rattle.sock_model.specs.declared.view.View as sock_view
use Rattle.call_run.specs.sock_rule.specs.declared.homes.SockHome.{SockHome}
use Rattle.brpc_model.specs.Items.{Item, is_call}
use Rattle.brpc_model.specs.Operations.{Operation, operations}
use Rattle.brpc_model.specs.LinePlaceFaults.{names}
use Rattle.brpc_model.specs.PlaceWords.{word_at, HasEachOutcome}
use Rattle.corr_core.specs.declared.marks.Plan as id_plan
use Rattle.corr_core.specs.declared.marks.View.{View}
use Rattle.id_rule.specs.LawfulIdTable.{call_index}
use Rattle.sock_message.specs.Asked.{Asked}
use Rattle.seat_programs.specs.declared.task.Op.{Op}
use Rattle.seat_programs.specs.declared.task.Op.TheVariants as ops
use Rattle.seat_programs.specs.declared.task.Task.{Task}
use Rattle.seat_programs.specs.ScriptSetupToEnding.{all_tasks}
use Rattle.seat_programs.specs.Tasks.{Numbered, numbered, plan_of, calls}
use Rattle.seat_programs.specs.Explained.{AreTasks}
use Rattle.callless_fits.specs.sock_deeds.specs.script_facts.proofs.FilteredLists.{has_from, contains_from, has_filter_map, within, all_map, all_at as all_there}
use Rattle.callless_fits.specs.sock_deeds.specs.script_facts.proofs.OperationNumbering.{link_at, numbered_at}
use Rattle.callless_fits.specs.sock_deeds.specs.script_facts.proofs.TaskLemmas.{asks_at, numbers_at, task_is, asked_at, operation_task, call_asks}
use Rattle.rpc_client.specs.declared.acting.Told.{Told}
use Rattle.script_parts.proofs.ClientSayingsByNumber.{long_each, none_long}
use Rattle.call_run.specs.Threads.{AllRan}
use Rattle.calls_done.specs.call_whys.specs.call_told.specs.Least.{HasBegun, IsEndTold}
use Rattle.calls_done.specs.call_whys.specs.call_told.proofs.Coming.{HasCome, tells, began, sends}
use Rattle.calls_done.specs.call_whys.specs.call_told.proofs.GrowingCallNotes.{own_at}
use Rattle.calls_done.specs.call_whys.specs.call_told.proofs.ClientTellingMoves.{Fits}
use Rattle.script_parts.specs.ThreadScriptTold.{outcomes_of}
use Rattle.script_parts.proofs.Began.{each_one, few, IsOneOf, one_of, one_come}
use Rattle.script_parts.proofs.MayCall.{IsOwn, IsOwnTask, all_own}
use Rattle.script_parts.proofs.SaidStaysAtNumber.{IsSaid, own_said, end_said, said_some}
use Rattle.callless_fits.specs.sock_deeds.proofs.ListPlaces.{to_slice, to_elem}
use Rattle.sock_words.specs.Totals.{total}

-- ## The operations of a script

pub task_fits : (t : Task) → IsOwnTask t → Fits t
task_fits t own asked e = subst (IsOwn t.number) e own

pub tasks_fit : (tss : List (List Task)) → AllByRecursion (AllByRecursion IsOwnTask) tss → AllByRecursion (AllByRecursion Fits) tss
tasks_fit tss owns = all_map (AllByRecursion IsOwnTask) (AllByRecursion Fits) (λ ts h. all_map IsOwnTask Fits (λ t own. task_fits t own) ts h) tss owns

-- the number of a call is one of those of calls
listed : (script : List Item) (o : ℕ) (operation : Operation) → slice_get (operations script) o ≡ Some operation → is_call operation.item ≡ true → (j : ℕ) × (slice_get (calls script) j ≡ Some o)
listed script o operation at is =
    let x : Numbered = record { number = 0 + o; link = 0 + link_at (operations script) o; op = operation } in
    let number : 0 + o ≡ o = omega arith in
    has_filter_map (λ (n : Numbered). cond (is_call n.op.item) (Some n.number) None) (numbered script) x o (o, numbered_at 0 0 (operations script) o operation at) (ap (λ b. cond b (Some (0 + o)) None) is ∙ ap Some number)

-- what clients of these tasks stored of their own, one id at most for each operation
pub own_one : {O : Type 0} (g : Ghosts O) (state : O → OutState) (p : Plan) (q : id_plan.Plan) (setup : List Task) (clients : List (List Task)) (opens : List ℕ) (told ended : List (List Told)) (seats : List (Seat (SockHome O g) sock_view.View)) (ids : List (View Asked))
    → AllRan g state p q setup clients opens told ended seats ids → AllByRecursion (AllByRecursion IsOwnTask) (setup ∷ clients) → (plan : Plan) → AreTasks plan (setup ∷ clients) → (o : ℕ) → total (λ (v : View Asked). total (own_at (call_index q o)) v.kept) ids ≤ 1
own_one g state p q setup clients opens told ended seats ids ran owns plan are o =
    let a = few g state p q setup clients opens told ended seats ids ran (tasks_fit (setup ∷ clients) owns) o in let b = each_one o (setup ∷ clients) are.in_order are.differ in omega arith

module _ {O : Type 0} (g : Ghosts O) (out : O → OutState) (script : List Item) (p : Plan) (q : id_plan.Plan) where
  -- The clients of the script ran over tables of these sizes. All of these tell of ends of calls, and behind them one saw to the calls that were left, and told this
  pub record IsTold (told tellers : List (List Told)) (places : List PlaceWord) (last : List Told) : Type 0 where
    pub setup : List Task
    pub clients : List (List Task)
    pub tasks : setup ∷ clients ≡ all_tasks script
    pub opens : List ℕ
    pub ended : List (List Told)
    pub seats : List (Seat (SockHome O g) sock_view.View)
    pub ids : List (View Asked)
    pub ran : AllRan g out p q setup clients opens told ended seats ids
    -- the end of each call that a client began is told
    pub least : (k : ℕ) (v : View Asked) (operation id j : ℕ) → get_elem? ids k ≡ some v → HasBegun q operation id v → slice_get (calls script) j ≡ Some operation → IsEndTold operation id (tellers ++ last ∷ [])
    -- a `send` of which nothing is told has a place
    pub sent : (c k : ℕ) (ts : List Task) (t : Task) (n : ℕ) (bytes : List ℕ) → get_elem? (setup ∷ clients) c ≡ some ts → get_elem? ts k ≡ some t → t.op ≡ ops.Send n bytes
        → ((own : List Told) × (i : ℕ) × (x : Told) × (get_elem? told c ≡ some own) × (get_elem? own i ≡ some x) × (x.number ≡ t.number)) ⊎ HasPosition (word_at places (8 * t.number))

  module _ (told tellers : List (List Told)) (places : List PlaceWord) (last : List Told) (r : IsTold told tellers places last) where
    owns : AllByRecursion (AllByRecursion IsOwnTask) (r.setup ∷ r.clients)
    owns = subst (AllByRecursion (AllByRecursion IsOwnTask)) (sym r.tasks) (all_own script)

    fits : AllByRecursion (AllByRecursion Fits) (r.setup ∷ r.clients)
    fits = tasks_fit (r.setup ∷ r.clients) owns

    abbrev outcomes : List (Option Outcome)
    outcomes = outcomes_of (plan_of script).operations told tellers last

    module _ (o : ℕ) (less : o < (plan_of script).operations) where
      -- it is told, or has a place
      abbrev HasIt : Type 0
      HasIt = IsSaid outcomes o ⊎ HasPosition (word_at places (8 * o))

      -- the operation, which is one of a client's tasks
      module _ (operation : Operation) (at : slice_get (operations script) o ≡ Some operation) (op : Op) (asks : asks_at script o operation ≡ Some op) (c j : ℕ) (ts : List Task) (of_client : get_elem? (r.setup ∷ r.clients) c ≡ some ts) (in_it : get_elem? ts j ≡ some (record { number = o; op = op })) where
        abbrev t : Task
        t = record { number = o; op = op }

        who : IsOneOf g out p q r.ids told c ts
        who = one_of g out p q r.setup r.clients r.opens told r.ended r.seats r.ids r.ran fits c ts of_client

        -- a call that began
        ended_call : (asked : Asked) (id : ℕ) → op ≡ ops.Call asked → HasBegun q asked.operation id who.thread.ended.calls.seat.me.0 → IsSaid outcomes o
        ended_call asked id is begun =
            let x = call_asks (numbered script) (names script) (numbers_at script o operation) operation.item asked (asks ∙ ap Some is) in
            let own : asked.operation ≡ o = task_fits t (all_there IsOwnTask ts t (all_there (AllByRecursion IsOwnTask) (r.setup ∷ r.clients) ts owns (c, to_slice (r.setup ∷ r.clients) c ts of_client)) (j, to_slice ts j t in_it)) asked is in
            let l = listed script o operation at (ap is_call x.1) in
            let e = r.least c who.thread.ended.calls.seat.me.0 asked.operation id l.0 who.id_at begun (l.1 ∙ ap Some (sym own)) in
            end_said (plan_of script).operations told tellers last o less record { teller = e.teller; place = e.place; told = e.told; one = e.one; by = e.by; at = e.at; number = e.number ∙ own }

        came : HasCome q t who.thread.ended.outcomes.items who.thread.ended.calls.seat.me.0 → HasIt
        came (tells i x there is) = inl (own_said (plan_of script).operations told tellers last o less record { teller = c; place = i; told = who.thread.ended.outcomes.items; one = x; by = who.told_at; at = there; number = is })
        came (began asked id is begun) = inl (ended_call asked id is begun)
        came (sends n message is) = by (r.sent c j ts t n message of_client in_it is)
          where
            by : ((own : List Told) × (i : ℕ) × (x : Told) × (get_elem? told c ≡ some own) × (get_elem? own i ≡ some x) × (x.number ≡ o)) ⊎ HasPosition (word_at places (8 * o)) → HasIt
            by (inl w) = inl (own_said (plan_of script).operations told tellers last o less record { teller = c; place = w.1; told = w.0; one = w.2; by = w.3; at = w.4; number = w.5 })
            by (inr h) = inr h

        -- a call is told
        call_came : (asked : Asked) → op ≡ ops.Call asked → HasCome q t who.thread.ended.outcomes.items who.thread.ended.calls.seat.me.0 → IsSaid outcomes o
        call_came asked is (tells i x there same) = own_said (plan_of script).operations told tellers last o less record { teller = c; place = i; told = who.thread.ended.outcomes.items; one = x; by = who.told_at; at = there; number = same }
        call_came asked is (began other id same begun) = ended_call other id same begun
        call_came asked is (sends n message same) = let e : ops.Call asked ≡ ops.Send n message = sym is ∙ same in absurd (cc)

        call_said : (asked : Asked) → op ≡ ops.Call asked → IsSaid outcomes o
        call_said asked is = call_came asked is (one_come g out p q r.ids told c ts who j t in_it)

        has_it : HasIt
        has_it = came (one_come g out p q r.ids told c ts who j t in_it)

    -- each call is told
    pub each_called : (c k : ℕ) (ts : List Task) (t : Task) (asked : Asked) → get_elem? (r.setup ∷ r.clients) c ≡ some ts → get_elem? ts k ≡ some t → t.op ≡ ops.Call asked → IsSaid outcomes t.number
    each_called c k ts t asked at there is =
        let w = task_is script [] c t (ts, to_slice (all_tasks script) c ts (ap (λ (l : List (List Task)). get_elem? l c) (sym r.tasks) ∙ at), contains_from ts t (k, to_slice ts k t there)) in
        call_said t.number (slice_get_within (operations script) t.number w.operation w.there) w.operation w.there t.op w.asks c k ts at there asked is

    pub each_outcome : HasEachOutcome places outcomes
    each_outcome o none_ = by has
      where
        less : o < (plan_of script).operations
        less = let a = slice_get_within outcomes o None none_ in let b = long_each (replicate (plan_of script).operations None) ((told ++ tellers) ++ last ∷ []) in let d = none_long (plan_of script).operations in omega arith

        has : IsSaid outcomes o ⊎ HasPosition (word_at places (8 * o))
        has =
            let w = within (operations script) o less in let a = asked_at script o w.0 w.1 in
            let task = operation_task script [] o w.0 a.0 w.1 a.1 in let t : Task = record { number = o; op = a.0 } in let k = has_from task.0 t task.2 in
            has_it o less w.0 w.1 a.0 a.1 w.0.client k.0 task.0 (ap (λ (l : List (List Task)). get_elem? l w.0.client) r.tasks ∙ to_elem (all_tasks script) w.0.client task.0 task.1) (to_elem task.0 k.0 t k.1)

        by : IsSaid outcomes o ⊎ HasPosition (word_at places (8 * o)) → HasPosition (word_at places (8 * o))
        by (inl said) = absurd (said_some outcomes o said none_)
        by (inr h) = h
