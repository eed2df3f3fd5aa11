-- A script that was read and what is told of its run: its calls, the names of their attempts, and the messages that links accepted.
use Rattle.std.proofs.Common.{◌≡◌, ℕ, zero, suc, ◌+◌, ◌%◌, ◌<◌, ◌≤◌, ◌==◌, ◌⊎◌, inl, inr, true, false, cond, eqb, if◌then◌else◌, nat_le, List, [], ◌∷◌, length, map, slice_get, option_and_then, Option, Some, None, refl, ap, sym, ◌∙◌, subst, arith}
use Rattle.std.specs.Prelude.{slice_index}
use Rattle.std.proofs.lemmas.List.{length-map}
use Rattle.std.proofs.lemmas.Bool.Decides.{nat_tests}
use Rattle.std.specs.List.{AllByRecursion}
use Rattle.sock_words.specs.declared.outcome.Outcome.{Outcome}
use Rattle.brpc_model.specs.Items.{Item, Send, Call, CallLine, attempts_of, call_name, name_at}
use Rattle.brpc_model.specs.Operations.{Operation, operations, link_names, attempts, name_of as label_name}
use Rattle.brpc_model.specs.Frame.{frame_bytes}
use Rattle.brpc_model.specs.MessageOfLabel.{request_frame, shown_id}
use Rattle.brpc_model.specs.LinePlaceFaults.{names}
use Rattle.seat_programs.specs.sock_message.specs.Asked.{Asked, name_of, frame_of}
use Rattle.seat_programs.specs.declared.task.Op.TheVariants as ops
use Rattle.seat_programs.specs.declared.task.Task.{Task}
use Rattle.seat_programs.specs.Cores.{Core}
use Rattle.seat_programs.specs.Tasks.{name_number, numbered, asked_of, op_of, plan_of}
use Rattle.seat_programs.specs.ScriptSetupToEnding.{all_tasks}
use Rattle.seat_programs.specs.Explained.{IsTask, Made}
use Rattle.seat_programs.specs.ExplainedCalls.{Accepted, Order, StandsAt, Fixed, ExplainedCalls, IsSent, OfSend, OfCall, StandsOn, all_accepted}
use Rattle.brpc_model.specs.Limits.{KeepsLimits}
use Rattle.script_facts.proofs.FilteredLists.{Has, within, some_is, all_at}
use Rattle.script_facts.proofs.NameNumbers.{mentioned_has}
use Rattle.script_facts.proofs.OperationNumbering.{are_from}
use Rattle.script_facts.proofs.TaskLemmas.{numbers_at, asks_at, task_is, operation_task, send_asks, call_asks, mentions_send}
use Rattle.script_facts.proofs.CallLines.{CallInRange}
use Rattle.script_facts.proofs.Called.{inside_names}
use Rattle.script_facts.proofs.ReadScriptFacts.{InRange}
use Rattle.script_facts.proofs.Targets.{AreThere}
use Rattle.script_facts.proofs.AcceptedMessageLabels as labels

-- what is known of a run: its script, which was read, the core in which it ended, and what is told of it
pub record Known : Type 0 where
  pub script : List Item
  pub core : Core
  pub fixed : Fixed
  pub gave : ℕ → List ℕ
  pub orders : ℕ → Order
  pub limits : KeepsLimits script
  pub range : AllByRecursion InRange script
  pub targets : AreThere script
  pub long : length core.outcomes ≡ length (operations script)
  pub tells : ExplainedCalls (plan_of script) (all_tasks script) core.outcomes fixed gave orders core

-- ## The names of attempts

index_at : (ns xs : List (List ℕ)) (i : ℕ) (x : List ℕ) → slice_get xs i ≡ Some x → slice_index (map (name_number ns) xs) i ≡ name_number ns x
index_at ns [] i x e = absurd (cc)
index_at ns (y ∷ ys) zero x e = ap (name_number ns) (some_is y x e)
index_at ns (y ∷ ys) (suc i) x e = index_at ns ys i x e

-- the name of an attempt of a call, by its letters and by its number
pub record NameOf (script : List Item) (call : CallLine) (o n : ℕ) : Type 0 where
  pub name : List ℕ
  pub named : call_name call n ≡ Some name
  pub number : name_of (asked_of (names script) o call) n ≡ name_number (names script) name
  pub mentions : Has (names script) name

pub attempt_name : (script : List Item) (call : CallLine) → CallInRange call → Has script (Call call) → (o n : ℕ) → NameOf script call o n
attempt_name script call range there o n =
    let i : ℕ = cond (eqb (length call.names) 1) 0 (n % 2) in
    let w = within call.names i (inside_names n (length call.names) range.names.0 range.names.1) in
    let P : ℕ → Type 0 = λ l. slice_index (map (name_number (names script)) call.names) (cond (eqb l 1) 0 (n % 2)) ≡ name_number (names script) w.0 in
    record {
      name = w.0;
      named = w.1;
      number = subst P (sym (length-map call.names (name_number (names script)))) (index_at (names script) call.names i w.0 w.1);
      mentions = mentioned_has script (Call call) w.0 there (i, w.1);
    }

-- the first attempt goes to the first name
pub first_number : (ns : List (List ℕ)) (o : ℕ) (call : CallLine) (name : List ℕ) → slice_get call.names 0 ≡ Some name → name_of (asked_of ns o call) 0 ≡ name_number ns name
first_number ns o call name e = elim (length (map (name_number ns) call.names) == 1) as (λ b. slice_index (map (name_number ns) call.names) (if b then 0 else 0 % 2) ≡ name_number ns name) [
  | true ↦ index_at ns call.names 0 name e
  | false ↦ index_at ns call.names 0 name e
]

-- an attempt that the call may have goes to its name
pub attempt_named : (script : List Item) (o n : ℕ) (q : Operation) (call : CallLine) (name : List ℕ) → slice_get (operations script) o ≡ Some q → q.item ≡ Call call → n ≤ call.retry → call_name call n ≡ Some name →
    label_name script (record { operation = o; attempt = n }) ≡ Some name
attempt_named script o n q call name there item low named =
    let inside : nat_le n call.retry ≡ true = grind (arith, nat_tests) in
    ap (λ (x : Option Operation). option_and_then (λ (op : Operation). name_at op.item n) x) there
    ∙ ap (λ x. name_at x n) item
    ∙ ap (λ b. if b then call_name call n else None) inside
    ∙ named

module _ (s : Known) where
  abbrev pub Ops : List Operation
  Ops = operations s.script

  abbrev pub Names : List (List ℕ)
  Names = names s.script

  abbrev pub links : ℕ
  links = length (link_names s.script)

  abbrev pub Stands : ℕ → ℕ → Accepted → Type 0
  Stands k i a = StandsAt s.orders k i a

  abbrev pub IsOp : ℕ → Operation → Type 0
  IsOp i q = slice_get Ops i ≡ Some q

  -- ## Calls

  pub in_script : (i : ℕ) (q : Operation) → IsOp i q → (item : Item) → q.item ≡ item → Has s.script item
  in_script i q there item e = let P : Item → Type 0 = λ x. Has s.script x in subst P e (are_from 0 1 s.script i q there).there

  pub call_range : (i : ℕ) (q : Operation) (call : CallLine) → IsOp i q → q.item ≡ Call call → CallInRange call
  call_range i q call there item = all_at InRange s.script (Call call) s.range (in_script i q there (Call call) item)

  pub call_attempt : (i : ℕ) (q : Operation) (call : CallLine) → IsOp i q → q.item ≡ Call call → (n : ℕ) → NameOf s.script call i n
  call_attempt i q call there item n = attempt_name s.script call (call_range i q call there item) (in_script i q there (Call call) item) i n

  pub mentions_call : (i : ℕ) (q : Operation) (call : CallLine) → IsOp i q → q.item ≡ Call call → (name : List ℕ) → Has call.names name → Has Names name
  mentions_call i q call there item name h = mentioned_has s.script (Call call) name (in_script i q there (Call call) item) h

  pub call_op : (i : ℕ) (q : Operation) (call : CallLine) → q.item ≡ Call call → asks_at s.script i q ≡ Some (ops.Call (asked_of Names i call))
  call_op i q call item = ap (op_of (numbered s.script) Names (numbers_at s.script i q)) item

  pub call_task : (i : ℕ) (q : Operation) (call : CallLine) → IsOp i q → q.item ≡ Call call → IsTask (all_tasks s.script) s.core.outcomes q.client (record { number = i; op = ops.Call (asked_of Names i call) })
  call_task i q call there item = operation_task s.script s.core.outcomes i q (ops.Call (asked_of Names i call)) there (call_op i q call item)

  -- its last attempt is one that it may have
  pub last_low : (i : ℕ) (q : Operation) (call : CallLine) → IsOp i q → q.item ≡ Call call → s.tells.last i ≤ call.retry
  last_low i q call there item =
      let h = (s.tells.again q.client (record { number = i; op = ops.Call (asked_of Names i call) }) (asked_of Names i call) (call_task i q call there item) refl).0 in
      omega (arith, h)

  -- ## Messages that were accepted

  -- it is that of a send of which nothing is said
  abbrev pub IsSendOf : Operation → Accepted → Type 0
  IsSendOf q a = (name : List ℕ) × (q.item ≡ Send name a.bytes) × (a.attempt ≡ 0) × (slice_get s.core.outcomes a.operation ≡ Some None)

  -- it is that of an attempt that was made of a call with this id
  pub record IsCallOf (q : Operation) (a : Accepted) : Type 0 where
    pub call : CallLine
    pub item : q.item ≡ Call call
    pub outcome : Outcome
    pub became : slice_get s.core.outcomes a.operation ≡ Some (Some outcome)
    pub id : ℕ
    pub shows : shown_id outcome ≡ Some id
    pub made : a.attempt ≤ s.tells.last a.operation
    pub bytes : a.bytes ≡ frame_bytes (request_frame call (id + a.attempt + 1))

  -- what link k accepted
  pub record SentAt (k : ℕ) (a : Accepted) : Type 0 where
    pub operation : Operation
    pub there : IsOp a.operation operation
    pub name : List ℕ
    pub named : label_name s.script (record { operation = a.operation; attempt = a.attempt }) ≡ Some name
    pub counts : a.attempt < attempts_of operation.item
    pub number : ℕ
    pub number_is : number ≡ name_number Names name
    pub mentions : Has Names name
    pub slot : ℕ
    pub version : ℕ
    pub life : Made (all_tasks s.script) s.core.outcomes number k slot version
    pub kind : IsSendOf operation a ⊎ IsCallOf operation a

  sent_send : (k : ℕ) (a : Accepted) (client : ℕ) (t : Task) (n slot version : ℕ) → IsTask (all_tasks s.script) s.core.outcomes client t → t.number ≡ a.operation → t.op ≡ ops.Send n a.bytes → a.attempt ≡ 0 → Made (all_tasks s.script) s.core.outcomes n k slot version →
      slice_get s.core.outcomes a.operation ≡ Some None → SentAt k a
  sent_send k a client t n slot version is number op first life untold =
      let w = task_is s.script s.core.outcomes client t is in
      let there : IsOp a.operation w.operation = ap (slice_get Ops) (sym number) ∙ w.there in
      let m = send_asks (numbered s.script) Names (numbers_at s.script t.number w.operation) w.operation.item n a.bytes (w.asks ∙ ap Some op) in
      record {
        operation = w.operation;
        there = there;
        name = m.0;
        named = ap (λ (x : Option Operation). option_and_then (λ (y : Operation). name_at y.item a.attempt) x) there ∙ ap (λ x. name_at x a.attempt) m.1 ∙ ap (λ x. name_at (Send m.0 a.bytes) x) first;
        counts = omega (arith, first, ap attempts_of m.1);
        number = n;
        number_is = m.2;
        mentions = mentions_send s.script a.operation w.operation there m.0 a.bytes m.1;
        slot = slot;
        version = version;
        life = life;
        kind = inl (m.0, m.1, first, untold);
      }

  sent_call : (k : ℕ) (a : Accepted) (client : ℕ) (t : Task) (call : CallLine) (q : Operation) (outcome : Outcome) (id slot version : ℕ) → IsOp a.operation q → q.item ≡ Call call → slice_get s.core.outcomes a.operation ≡ Some (Some outcome) → shown_id outcome ≡ Some id →
      a.attempt ≤ s.tells.last a.operation → a.bytes ≡ frame_bytes (request_frame call (id + a.attempt + 1)) → Made (all_tasks s.script) s.core.outcomes (name_of (asked_of Names a.operation call) a.attempt) k slot version → SentAt k a
  sent_call k a client t call q outcome id slot version there item became shows made bytes life =
      let n = call_attempt a.operation q call there item a.attempt in
      let low : a.attempt ≤ call.retry = omega (arith, made, last_low a.operation q call there item) in
      record {
        operation = q;
        there = there;
        name = n.name;
        named = attempt_named s.script a.operation a.attempt q call n.name there item low n.named;
        counts = omega (arith, low, ap attempts_of item);
        number = name_of (asked_of Names a.operation call) a.attempt;
        number_is = n.number;
        mentions = n.mentions;
        slot = slot;
        version = version;
        life = life;
        kind = inr (record { call = call; item = item; outcome = outcome; became = became; id = id; shows = shows; made = made; bytes = bytes });
      }

  sent_asked : (k : ℕ) (a : Accepted) (client : ℕ) (t : Task) (asked : Asked) (outcome : Outcome) (id slot version : ℕ) → IsTask (all_tasks s.script) s.core.outcomes client t → t.number ≡ a.operation → t.op ≡ ops.Call asked → slice_get s.core.outcomes a.operation ≡ Some (Some outcome) →
      shown_id outcome ≡ Some id → a.attempt ≤ s.tells.last a.operation → a.bytes ≡ frame_of asked id a.attempt → Made (all_tasks s.script) s.core.outcomes (name_of asked a.attempt) k slot version → SentAt k a
  sent_asked k a client t asked outcome id slot version is number op became shows made bytes life =
      let w = task_is s.script s.core.outcomes client t is in
      let there : IsOp a.operation w.operation = ap (slice_get Ops) (sym number) ∙ w.there in
      let m = call_asks (numbered s.script) Names (numbers_at s.script t.number w.operation) w.operation.item asked (w.asks ∙ ap Some op) in
      let same : asked ≡ asked_of Names a.operation m.0 = m.2 ∙ ap (λ n. asked_of Names n m.0) number in
      let P : Asked → Type 0 = λ x. Made (all_tasks s.script) s.core.outcomes (name_of x a.attempt) k slot version in
      sent_call k a client t m.0 w.operation outcome id slot version there m.1 became shows made (bytes ∙ ap (λ x. frame_of x id a.attempt) same) (subst P same life)

  by_kind : (k : ℕ) (a : Accepted) → IsSent (plan_of s.script) (all_tasks s.script) s.core.outcomes s.fixed s.gave s.orders s.tells.last k a → SentAt k a
  by_kind k a (OfSend client t n slot version is number op first life untold) = sent_send k a client t n slot version is number op first life untold
  by_kind k a (OfCall client t asked outcome id slot version is number op became shows made bytes life) = sent_asked k a client t asked outcome id slot version is number op became shows made bytes life

  pub sent_at : (k i : ℕ) (a : Accepted) → k < links → Stands k i a → SentAt k a
  sent_at k i a low at = by_kind k a (all_at (IsSent (plan_of s.script) (all_tasks s.script) s.core.outcomes s.fixed s.gave s.orders s.tells.last k) (s.orders k).accepted a (s.tells.sent k low) (i, at))

  -- ## Their number

  counted : (k i : ℕ) (a : Accepted) → k < links → Stands k i a → (q : Operation) × IsOp a.operation q × (a.attempt < attempts_of q.item)
  counted k i a low at = let w = sent_at k i a low at in (w.operation, w.there, w.counts)

  pub inside : (k i : ℕ) (a : Accepted) → k < links → Stands k i a → (i < 4294967295) × (a.operation < length Ops) × (a.attempt < 8)
  inside = labels.inside_script s.script s.range s.orders s.tells.are_orders.apart counted s.limits.operations

  -- an attempt that no link accepted
  abbrev pub IsOut : ℕ → ℕ → Type 0
  IsOut o n = (k : ℕ) → StandsOn (plan_of s.script) (all_tasks s.script) s.core.outcomes s.fixed s.gave s.orders o n k → ⊥

  -- is one more than those that were accepted
  pub fewer : (o n : ℕ) (q : Operation) → IsOp o q → n < attempts_of q.item → IsOut o n → all_accepted links s.orders < attempts s.script
  fewer o n q there counts out = labels.fewer s.script s.range s.orders s.tells.are_orders.apart counted o n q there counts (λ k i a low at operation attempt. out k (i, (low, a, at, operation, attempt)))
