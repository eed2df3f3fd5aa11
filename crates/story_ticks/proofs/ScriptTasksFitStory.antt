-- The tasks of a script are as the story of its calls wants them: each has its own number, each `expire` and `join` names a call, and there is an id slot for each call.
use Rattle.std.proofs.Common.{◌≡◌, ◌≢◌, ℕ, zero, suc, ◌+◌, ◌<◌, inl, inr, true, cond, List, [], ◌∷◌, get_or, slice_get, None, Some, refl, sym, ap, ◌∙◌, subst, arith}
use Rattle.std.proofs.lemmas.Option.{slice_get_within}
use Rattle.std.specs.List.{AllByRecursion}
use Rattle.sock_words.specs.declared.plain.Plan.{Plan}
use Rattle.seat_programs.specs.brpc_model.specs.Order.{EachBefore}
use Rattle.seat_programs.specs.brpc_model.specs.Items.{Item, CallLine, Call, Expire, Join, Fail, is_call}
use Rattle.seat_programs.specs.brpc_model.specs.Operations.{Operation, operations}
use Rattle.seat_programs.specs.brpc_model.specs.LinePlaceFaults.{names}
use Rattle.corr_core.specs.declared.marks.Plan.{Plan as IdPlan}
use Rattle.sock_message.specs.Asked.{Asked}
use Rattle.seat_programs.specs.declared.task.Op.{Op}
use Rattle.seat_programs.specs.declared.task.Op.TheVariants as ops
use Rattle.seat_programs.specs.declared.task.Task.{Task}
use Rattle.seat_programs.specs.Tasks.{Numbered, numbered, number_of, opens, calls, op_of, plan_of, id_plan_of}
use Rattle.seat_programs.specs.ScriptSetupToEnding.{all_tasks}
use Rattle.seat_programs.specs.Explained.{HaveOwnLinks, IsOpen}
use Rattle.story_steps.specs.Below.programs_allowed.proofs.WordsAtBeginning as beginning
use Rattle.story_steps.specs.Below.joint_runs.proofs.RunsOfBothTables.{AreMade}
use Rattle.story_steps.specs.Below.call_owing.specs.Below.script_facts.proofs.FilteredLists.{Has, has_later, some_is, has_filter_map, all_at}
use Rattle.story_steps.specs.Below.call_owing.specs.Below.script_facts.proofs.ReadScriptFacts.{InRange}
use Rattle.story_steps.specs.Below.call_owing.specs.Below.script_facts.proofs.OperationNumbering.{link_at, numbered_at, are_from}
use Rattle.story_steps.specs.Below.call_owing.specs.Below.script_facts.proofs.Targets.{IsTarget, AreThere, expired, joined}
use Rattle.story_steps.specs.Below.call_owing.specs.Below.script_facts.proofs.TaskLemmas as lemmas
use Rattle.story_steps.specs.Below.call_owing.specs.Below.script_facts.proofs.TaskLemmas.{of_tasks, has_task, numbers_at, call_asks, expire_asks, join_asks, fail_asks}
use Rattle.story_steps.specs.call_stories.specs.Scenes.{IsTaskOf}
use Rattle.story_steps.proofs.BirthTicks.{all_in, in_all}
use Rattle.story_steps.proofs.NumberedTasks.{AllDistinct, AreNumbered}
use Rattle.story_steps.proofs.CausesOfCallSayings.{IsCalls}
use Rattle.story_steps.proofs.ClientCauses.{FitsOp, FitsClient, FitsTask}
use Rattle.story_ticks.proofs.Claiming.{HaveSlots}
use Rattle.story_ticks.proofs.StoryOpening.{Begins}
use Rattle.story_steps.proofs.ExpireAndJoinWhys.{AreAscending}
use Rattle.story_steps.specs.call_stories.specs.Below.outcome_stories.specs.OperationStories.{In}

-- ## Lists

in_has : {A : Type 0} (xs : List A) (x : A) → In x xs → Has xs x
in_has [] x there = absurd there
in_has (y ∷ ys) x (inl same) = (0, ap (λ z. Some z) (sym same))
in_has (y ∷ ys) x (inr there) = has_later y ys x (in_has ys x there)

has_in : {A : Type 0} (xs : List A) (i : ℕ) (x : A) → slice_get xs i ≡ Some x → In x xs
has_in [] i x e = absurd (let z : None ≡ Some x = e in cc)
has_in (y ∷ ys) zero x e = inl (sym (some_is y x e))
has_in (y ∷ ys) (suc i) x e = inr (has_in ys i x e)

-- in order of their numbers
ordered : (ts : List Task) → EachBefore (λ (a b : Task). (a.number < b.number) × HaveOwnLinks a.op b.op) ts → AllDistinct ts × AreAscending ts
ordered [] all = (tt, tt)
ordered (t ∷ ts) all = let rest = ordered ts all.1 in (
  (all_in (λ (u : Task). t.number ≢ u.number) ts (λ u there e. let z = in_all (λ (u : Task). (t.number < u.number) × HaveOwnLinks t.op u.op) ts all.0 u there in let less = z.0 in omega (arith, less, e)), rest.0),
  (all_in (λ (u : Task). t.number < u.number) ts (λ u there. let z = in_all (λ (u : Task). (t.number < u.number) × HaveOwnLinks t.op u.op) ts all.0 u there in z.0), rest.1),
)

each_ordered : (cs : List (List Task)) (c : ℕ) → AllByRecursion (EachBefore (λ (a b : Task). (a.number < b.number) × HaveOwnLinks a.op b.op)) cs → AllDistinct (get_or cs c []) × AreAscending (get_or cs c [])
each_ordered [] c all = (tt, tt)
each_ordered (ts ∷ cs) zero all = ordered ts all.0
each_ordered (ts ∷ cs) (suc c) all = each_ordered cs c all.1

call_item : (item : Item) → is_call item ≡ true → (call : CallLine) × (item ≡ Call call)
call_item (Call call) is = (call, refl)
call_item other is = absurd (cc)

module _ (script : List Item) (made : AreMade script) (there : AreThere script) (range : AllByRecursion InRange script) (gives : ℕ → List ℕ) where
  abbrev p : Plan
  p = plan_of script

  abbrev q : IdPlan
  q = id_plan_of script

  abbrev cs : List (List Task)
  cs = all_tasks script

  -- the operation of a task
  task_at : (c : ℕ) (t : Task) → IsTaskOf (plan_of script) (id_plan_of script) (all_tasks script) gives c t → lemmas.IsTaskOf script c t
  task_at c t is = has_task script c t (subst (λ (ts : List Task). Has ts t) (sym (of_tasks script c is.0 is.1).1) (in_has is.0 t is.2))

  item_there : (i : ℕ) (o : Operation) (item : Item) → slice_get (operations script) i ≡ Some o → o.item ≡ item → Has script item
  item_there i o item at is = subst (Has script) is (are_from 0 1 script i o at).there

  -- ## Numbers

  pub are_numbered : AreNumbered (plan_of script) (id_plan_of script) (all_tasks script) gives
  are_numbered = record {
    apart = λ c d t u is_t is_u same. let a = task_at c t is_t in let b = task_at d u is_u in
        let op : a.operation ≡ b.operation = some_is a.operation b.operation (sym a.there ∙ (ap (slice_get (operations script)) same ∙ b.there)) in sym a.own ∙ (ap (λ (o : Operation). o.client) op ∙ b.own);
    distinct = λ c. (each_ordered (all_tasks script) c (let are = made.are in are.in_order)).0;
  }

  pub are_ascending : (c : ℕ) → AreAscending (get_or (all_tasks script) c [])
  are_ascending c = (each_ordered (all_tasks script) c (let are = made.are in are.in_order)).1

  numbers : (c : ℕ) (t : Task) → IsTaskOf (plan_of script) (id_plan_of script) (all_tasks script) gives c t → t.number < (plan_of script).operations
  numbers c t is = let a = task_at c t is in slice_get_within (operations script) t.number a.operation a.there

  -- ## Calls

  pub have_slots : HaveSlots (plan_of script) (id_plan_of script) (all_tasks script) gives
  have_slots = record { calls = calls script; many = refl; listed = listed }
    where
      listed : (c : ℕ) (t : Task) (asked : Asked) → IsTaskOf (plan_of script) (id_plan_of script) (all_tasks script) gives c t → t.op ≡ ops.Call asked → In t.number (calls script)
      listed c t asked is op =
          let a = task_at c t is in
          let call = call_asks (numbered script) (names script) (numbers_at script t.number a.operation) a.operation.item asked (a.asks ∙ ap (λ o. Some o) op) in
          let x : Numbered = record { number = 0 + t.number; link = 0 + link_at (operations script) t.number; op = a.operation } in
          let h = has_filter_map (λ (n : Numbered). cond (is_call n.op.item) (Some n.number) None) (numbered script) x t.number (t.number, numbered_at 0 0 (operations script) t.number a.operation a.there)
          (ap (λ i. cond (is_call i) (Some (0 + t.number)) None) call.1 ∙ ap (λ n. Some n) (let z : 0 + t.number ≡ t.number = omega arith in z)) in
          has_in (calls script) h.0 t.number h.1

  -- whatever is at the place of a call is that call
  target_call : (o : ℕ) (client i : ℕ) → IsTarget script client i o → IsCalls (plan_of script) (id_plan_of script) (all_tasks script) gives o
  target_call o client i target c u is number =
      let a = task_at c u is in
      let same : a.operation ≡ target.call = some_is a.operation target.call (sym a.there ∙ (ap (slice_get (operations script)) number ∙ target.there)) in
      let call = call_item a.operation.item (ap (λ (x : Operation). is_call x.item) same ∙ target.is) in
      let asks : op_of (numbered script) (names script) (numbers_at script u.number a.operation) (Call call.0) ≡ Some u.op = ap (op_of (numbered script) (names script) (numbers_at script u.number a.operation)) (sym call.1) ∙ a.asks in
      (Rattle.seat_programs.specs.Tasks.asked_of (names script) u.number call.0, sym (some_is (ops.Call (Rattle.seat_programs.specs.Tasks.asked_of (names script) u.number call.0)) u.op asks))

  -- ## Each task fits

  fits_op : (c : ℕ) (t : Task) (op : Op) → IsTaskOf (plan_of script) (id_plan_of script) (all_tasks script) gives c t → t.op ≡ op → FitsOp (plan_of script) (id_plan_of script) (all_tasks script) gives t.number op
  fits_op c t (ops.Call asked) is op =
      let a = task_at c t is in
      let call = call_asks (numbered script) (names script) (numbers_at script t.number a.operation) a.operation.item asked (a.asks ∙ ap (λ o. Some o) op) in
      sym (ap (λ (x : Asked). x.operation) call.2)
  fits_op c t (ops.Expire o) is op =
      let a = task_at c t is in
      let x = expire_asks (numbered script) (names script) (numbers_at script t.number a.operation) a.operation.item o (a.asks ∙ ap (λ o. Some o) op) in
      subst (IsCalls (plan_of script) (id_plan_of script) (all_tasks script) gives) (sym x.3) (target_call (number_of (numbered script) x.0 x.1) x.0 x.1 (expired script there x.0 x.1 (item_there t.number a.operation (Expire x.0 x.1) a.there x.2)))
  fits_op c t (ops.Join o) is op =
      let a = task_at c t is in
      let x = join_asks (numbered script) (names script) (numbers_at script t.number a.operation) a.operation.item o (a.asks ∙ ap (λ o. Some o) op) in
      subst (IsCalls (plan_of script) (id_plan_of script) (all_tasks script) gives) (sym x.3) (target_call (number_of (numbered script) x.0 x.1) x.0 x.1 (joined script there x.0 x.1 (item_there t.number a.operation (Join x.0 x.1) a.there x.2)))
  fits_op c t (ops.Fail n code) is op =
      let a = task_at c t is in
      let x = fail_asks (numbered script) (names script) (numbers_at script t.number a.operation) a.operation.item n code (a.asks ∙ ap (λ o. Some o) op) in
      all_at InRange script (Fail x.0 code) range (item_there t.number a.operation (Fail x.0 code) a.there x.1)
  fits_op c t (ops.Open n k) is op = tt
  fits_op c t _ is op = tt

  -- client 0 only opens sockets
  opens_only : (c : ℕ) (t : Task) → IsTaskOf (plan_of script) (id_plan_of script) (all_tasks script) gives c t → (IsOpen t.op → ⊥) → c ≢ 0
  opens_only c t is none_ zero_ = let are = made.are in none_ (in_all (λ (u : Task). IsOpen u.op) is.0 (are.setup is.0 (ap (slice_get (all_tasks script)) (sym zero_) ∙ is.1)) t is.2)

  fits_client : (c : ℕ) (t : Task) (op : Op) → IsTaskOf (plan_of script) (id_plan_of script) (all_tasks script) gives c t → t.op ≡ op → FitsClient (plan_of script) (id_plan_of script) (all_tasks script) gives c op
  fits_client c t (ops.Open n k) is op = tt
  fits_client c t (ops.Expire o) is op = opens_only c t is (λ o. subst IsOpen op o)
  fits_client c t (ops.Join o) is op = opens_only c t is (λ o. subst IsOpen op o)
  fits_client c t _ is op = opens_only c t is (λ o. subst IsOpen op o)

  pub begins : Begins (plan_of script) (id_plan_of script) (all_tasks script) gives are_numbered have_slots (opens script)
  begins = record {
    fits = λ c ts at. all_in (FitsTask (plan_of script) (id_plan_of script) (all_tasks script) gives c) ts (λ t in_. let is : IsTaskOf (plan_of script) (id_plan_of script) (all_tasks script) gives c t = (ts, at, in_) in (fits_op c t t.op is refl, fits_client c t t.op is refl));
    numbers = numbers;
    few = made.few_clients;
    links = let seats = made.seats in omega (arith, seats);
    codes = λ i inside some_. absurd (some_ ((beginning.unused (plan_of script)).codes i inside));
  }
