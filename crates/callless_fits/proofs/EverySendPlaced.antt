-- Where nothing went wrong in a run, every send of its script is placed, or its name had no socket yet: by what is told of its sockets, and of how many attempts its calls made.
use Rattle.std.proofs.Common.{◌≡◌, ℕ, ◌+◌, ◌*◌, ◌<◌, ◌≤◌, ◌⊎◌, inl, inr, true, false, if◌then◌else◌, nat_lt, nat_le, List, length, slice_get, Option, Some, None, Ok, Contains, refl, ap, sym, ◌∙◌, subst, arith}
use Rattle.std.proofs.lemmas.Bool.Decides.{nat_tests}
use Rattle.std.proofs.lemmas.Option.{slice_get_within}
use Rattle.std.specs.List.{AllByRecursion}
use Rattle.sock_words.specs.declared.outcome.Outcome.{Outcome}
use Rattle.sock_words.specs.declared.outcome.Outcome.TheVariants.{Opened, Unopened, Gone, Full, Placed, Dropped}
use Rattle.sock_words.specs.declared.place_word.PlaceWord.{PlaceWord}
use Rattle.brpc_model.specs.Items.{Item, Send, Call, Hold, Fail, CallLine, attempts_of, sought_name}
use Rattle.brpc_model.specs.Operations.{Operation, operations, link_names, attempts}
use Rattle.brpc_model.specs.ReturnedLink.{LinkEnd}
use Rattle.brpc_model.specs.LinePlaceFaults.{names}
use Rattle.brpc_model.specs.PlaceWords.{IsReportOf, word_at, outcome_by_word}
use Rattle.brpc_model.specs.Report.{Report}
use Rattle.brpc_model.specs.Run.{Run, nothing_late, IsOperation, HasOutcome}
use Rattle.brpc_model.specs.LinkFailureCauses.{MayFindNone, Opens}
use Rattle.brpc_model.specs.Complete.{IsUntroubled, SendDone}
use Rattle.brpc_model.specs.Script.{script_of}
use Rattle.sock_message.specs.Asked.{Asked}
use Rattle.seat_programs.specs.declared.task.Op.{Op}
use Rattle.seat_programs.specs.declared.task.Op.TheVariants as ops
use Rattle.seat_programs.specs.declared.task.Task.{Task}
use Rattle.seat_programs.specs.Cores.{Core}
use Rattle.seat_programs.specs.ScriptSetupToEnding.{all_tasks, place_words}
use Rattle.seat_programs.specs.Tasks.{Numbered, name_number, numbered, asked_of, op_of, plan_of}
use Rattle.seat_programs.specs.Explained.{IsTask, Became, Made, OpensNone, IsNoLater, IsFail}
use Rattle.seat_programs.specs.ExplainedCalls.{Accepted, Order, Fixed, StandsAt, StandsOn, FoundNone, FailingBy, Seeks, IsSent, OfSend, OfCall, OutcomeCause, all_accepted, label}
use Rattle.sock_deeds.specs.report_fits.specs.ScriptLinkEnds.{AreEndsOf}
use Rattle.sock_deeds.specs.script_facts.proofs.FilteredLists.{Has, has_from, contains_from, within, some_is, all_at}
use Rattle.sock_deeds.specs.script_facts.proofs.AcceptedMessageLabels as labels
use Rattle.sock_deeds.specs.report_fits.proofs.LinkOrderLines.{outcome_is}
use Rattle.sock_deeds.specs.script_facts.proofs.KnownScript.{first_number}
use Rattle.sock_deeds.specs.script_facts.proofs.OperationNumbering.{are_from}
use Rattle.sock_deeds.specs.report_fits.proofs.OrdersOfPlaceWords as orders
use Rattle.sock_deeds.specs.report_fits.proofs.ReportedOutcomes.{is_said, SaidOrPlaced, said_or_placed, outcome_told, told_outcome}
use Rattle.sock_deeds.specs.script_facts.proofs.ScriptSizes.{is_counted, keeps_limits}
use Rattle.sock_deeds.specs.script_facts.proofs.TaskLemmas.{numbers_at, asks_at, asked_at, task_is, operation_task, open_asks, send_asks, call_asks, fail_asks, named_at}
use Rattle.sock_deeds.specs.SocketsTold.{fixed_by, IsOfSockets, ToldSockets}

-- what is told of the sockets of a run of a script that was read
pub record SocketRun : Type 0 where
  pub bytes : List ℕ
  pub script : List Item
  pub reads : script_of bytes ≡ Ok script
  pub outcomes : List (Option Outcome)
  pub broken : List ℕ
  pub early : List ℕ
  pub fails : List (ℕ × ℕ)
  pub gave : ℕ → List ℕ
  pub orders : ℕ → Order
  pub core : Core
  pub long : length outcomes ≡ length (operations script)
  pub tells : ToldSockets (plan_of script) (all_tasks script) outcomes (fixed_by broken early fails) gave orders core

-- and of the attempts of its calls, and by its report, over the links that were given back
pub record ToldRun : Type 0 where
  pub sockets : SocketRun
  pub open sockets use *
  -- no call made more attempts than it may, and each message that a link accepted is that of a `send` of which nothing is said, or of such an attempt
  pub last : ℕ → ℕ
  pub few : (client : ℕ) (t : Task) (asked : Asked) → IsTask (all_tasks script) outcomes client t → t.op ≡ ops.Call asked → last t.number + 2 ≤ asked.range
  pub sent : (k : ℕ) → k < (plan_of script).links → AllByRecursion (IsSent (plan_of script) (all_tasks script) outcomes (fixed_by broken early fails) gave orders last k) (orders k).accepted
  -- no operation on calls opened a socket
  pub opens : (client : ℕ) (t : Task) (slot version k : ℕ) → IsTask (all_tasks script) outcomes client t → Became (all_tasks script) outcomes t.number (Opened slot version k) → IsOfSockets t.op
  pub took : List (List ℕ)
  pub report : Report
  pub told : IsReportOf script outcomes (place_words (plan_of script) core.words) took report
  pub ends : List LinkEnd
  pub given : AreEndsOf script core (fixed_by broken early fails) gave ends

opened_is : (p : _) (clients : List (List Task)) (outcomes : List (Option Outcome)) (fixed : Fixed) (gave : ℕ → List ℕ) (orders : ℕ → Order) (last : ℕ → ℕ) (c o : ℕ) (op : Op) (slot version l : ℕ) → IsOfSockets op → OutcomeCause p clients outcomes fixed gave orders last c o op (Opened slot version l) → (n : ℕ) × (op ≡ ops.Open n l)
opened_is p clients outcomes fixed gave orders last c o (ops.Open n k) slot version l on w = (n, ap (ops.Open n) (sym w.0))
opened_is p clients outcomes fixed gave orders last c o (ops.Call asked) slot version l on w = absurd on
opened_is p clients outcomes fixed gave orders last c o (ops.Expire t) slot version l on w = absurd on
opened_is p clients outcomes fixed gave orders last c o (ops.Join t) slot version l on w = absurd on
opened_is p clients outcomes fixed gave orders last c o other slot version l on w = absurd w

module _ (r : ToldRun) where
  -- the run that is reported
  abbrev pub run_of : Run
  run_of = record { script = r.script; report = r.report; ends = r.ends; late = nothing_late; story = record { fails = r.fails; gave = r.gave; last = r.last } }

  abbrev pub Names : List (List ℕ)
  Names = names r.script

  abbrev pub Ops : List Operation
  Ops = operations r.script

  abbrev pub links : ℕ
  links = length (link_names r.script)

  abbrev pub fixed : Fixed
  fixed = fixed_by r.broken r.early r.fails

  abbrev pub Tasks : List (List Task)
  Tasks = all_tasks r.script

  abbrev pub IsOp : ℕ → Operation → Type 0
  IsOp i q = slice_get Ops i ≡ Some q

  abbrev pub TaskAt : ℕ → ℕ → Op → Type 0
  TaskAt c i op = IsTask Tasks r.outcomes c record { number = i; op = op }

  abbrev pub Stands : ℕ → ℕ → Accepted → Type 0
  Stands k i a = StandsAt r.orders k i a

  abbrev pub WhyAt : ℕ → ℕ → Op → Outcome → Type 0
  WhyAt c i op o = OutcomeCause (plan_of r.script) Tasks r.outcomes fixed r.gave r.orders r.last c i op o

  abbrev pub Words : List PlaceWord
  Words = place_words (plan_of r.script) r.core.words

  -- ## Outcomes

  pub became : (i : ℕ) (o : Outcome) → is_said o ≡ true → HasOutcome run_of i o → slice_get r.outcomes i ≡ Some (Some o)
  became i o s e = outcome_told Words r.outcomes i o s (ap (λ os. slice_get os i) (sym r.told.outcomes) ∙ e)

  pub reported : (i : ℕ) (o : Outcome) → slice_get r.outcomes i ≡ Some (Some o) → HasOutcome run_of i o
  reported i o e = ap (λ os. slice_get os i) r.told.outcomes ∙ told_outcome Words r.outcomes i o e

  pub said_or_placed_at : (i : ℕ) (o : Outcome) → HasOutcome run_of i o → SaidOrPlaced Words r.outcomes i o
  said_or_placed_at i o e = said_or_placed Words r.outcomes i o (ap (λ os. slice_get os i) (sym r.told.outcomes) ∙ e)

  asked : (i : ℕ) (q : Operation) → IsOp i q → (op : Op) × (asks_at r.script i q ≡ Some op)
  asked i q e = asked_at r.script i q e

  pub task_at : (i : ℕ) (q : Operation) (op : Op) → IsOp i q → asks_at r.script i q ≡ Some op → TaskAt q.client i op
  task_at i q op e f = operation_task r.script r.outcomes i q op e f

  -- ## Names without a socket

  -- an operation that opened a socket is an `open` of this number
  pub opened_at : (j slot version k : ℕ) (q : Operation) (op : Op) → IsOp j q → asks_at r.script j q ≡ Some op → slice_get r.outcomes j ≡ Some (Some (Opened slot version k)) → (n : ℕ) × (op ≡ ops.Open n k)
  opened_at j slot version k q op there asks b =
      let t = task_at j q op there asks in
      let on = r.opens q.client (record { number = j; op = op }) slot version k t b in
      opened_is (plan_of r.script) Tasks r.outcomes fixed r.gave r.orders r.last q.client j op slot version k on (r.tells.why r.last q.client (record { number = j; op = op }) (Opened slot version k) t b on)

  -- and its link has the name with that number
  pub open_named : (j n k : ℕ) (q : Operation) → IsOp j q → asks_at r.script j q ≡ Some (ops.Open n k) → (name : List ℕ) × (slice_get (link_names r.script) k ≡ Some name) × (n ≡ name_number Names name)
  open_named j n k q there asks =
      let m = open_asks (numbered r.script) Names (numbers_at r.script j q) q.item n k asks in
      (m.0, ap (slice_get (link_names r.script)) m.4 ∙ named_at r.script j q m.0 m.1 there m.2, m.3)

  -- so a task that opened no socket of the name did so
  opens_not : (n : ℕ) (name : List ℕ) → n ≡ name_number Names name → (j c : ℕ) (q : Operation) → IsOp j q → q.client ≡ c → ((op : Op) → TaskAt c j op → OpensNone Tasks r.outcomes n record { number = j; op = op }) → Opens run_of j name → ⊥
  opens_not n name is j c q there own none opens =
      let b = became j (Opened opens.0 opens.1 opens.2) refl opens.3 in
      let a = asked j q there in
      let o = opened_at j opens.0 opens.1 opens.2 q a.0 there a.1 b in
      let w = open_named j o.0 opens.2 q there (a.1 ∙ ap Some o.1) in
      let same : w.0 ≡ name = some_is w.0 name (sym w.1 ∙ opens.4) in
      let number : o.0 ≡ n = w.2 ∙ (ap (name_number Names) same ∙ sym is) in
      none a.0 (subst (λ x. TaskAt x j a.0) own (task_at j q a.0 there a.1)) opens.2 opens.0 opens.1 (o.1 ∙ ap (λ x. ops.Open x opens.2) number) b

  abbrev SeeksAt : ℕ → Op → Type 0
  SeeksAt n op = Seeks (plan_of r.script) Tasks r.outcomes fixed r.gave r.orders n op

  seeks_by : (x : Numbered) (item : Item) (name : List ℕ) (op : Op) → op_of (numbered r.script) Names x item ≡ Some op → sought_name item ≡ Some name → SeeksAt (name_number Names name) op
  seeks_by x (Fail nm code) name op e f = subst (SeeksAt (name_number Names name)) (some_is (ops.Fail (name_number Names nm) code) op e) (ap (name_number Names) (some_is nm name f))
  seeks_by x (Hold nm) name op e f = subst (SeeksAt (name_number Names name)) (some_is (ops.Hold (name_number Names nm)) op e) (ap (name_number Names) (some_is nm name f))
  seeks_by x (Send nm bytes) name op e f = subst (SeeksAt (name_number Names name)) (some_is (ops.Send (name_number Names nm) bytes) op e) (ap (name_number Names) (some_is nm name f))
  seeks_by x (Call call) name op e f = subst (SeeksAt (name_number Names name)) (some_is (ops.Call (asked_of Names x.number call)) op e) (first_number Names x.number call name f)
  seeks_by x other name op e f = absurd (cc)

  pub find_none : (c o n : ℕ) (name : List ℕ) → n ≡ name_number Names name → FoundNone (plan_of r.script) Tasks r.outcomes fixed r.gave r.orders c o n → MayFindNone run_of c o name
  find_none c o n name is found j q there = (
    λ z opens. opens_not n name is j 0 q there z (λ op t. found.setup (record { number = j; op = op }) t) opens,
    λ own less. (
      λ opens. opens_not n name is j c q there own (λ op t. (found.own (record { number = j; op = op }) t less).0) opens,
      λ sought. (
          let a = asked j q there in
          let s = seeks_by (numbers_at r.script j q) q.item name a.0 a.1 sought in
          reported j Unopened ((found.own (record { number = j; op = a.0 }) (subst (λ x. TaskAt x j a.0) own (task_at j q a.0 there a.1)) less).1 (subst (λ x. SeeksAt x a.0) (sym is) s))
          ),
    ),
  )

  -- ## Messages that were accepted

  pub record SentAt (a : Accepted) : Type 0 where
    pub operation : Operation
    pub there : IsOp a.operation operation
    pub counts : a.attempt < attempts_of operation.item
    -- that of a `send` of which nothing is said, or of a call
    pub kind : (slice_get r.outcomes a.operation ≡ Some None) ⊎ ((call : CallLine) × (operation.item ≡ Call call))

  by_kind : (k : ℕ) (a : Accepted) → IsSent (plan_of r.script) Tasks r.outcomes fixed r.gave r.orders r.last k a → SentAt a
  by_kind k a (OfSend client t n slot version is number op first made untold) =
      let w = task_is r.script r.outcomes client t is in
      let m = send_asks (numbered r.script) Names (numbers_at r.script t.number w.operation) w.operation.item n a.bytes (w.asks ∙ ap Some op) in
      record { operation = w.operation; there = ap (slice_get Ops) (sym number) ∙ w.there; counts = omega (arith, first, ap attempts_of m.1); kind = inl untold }
  by_kind k a (OfCall client t call outcome id slot version is number op became_ shows made frame life) =
      let w = task_is r.script r.outcomes client t is in
      let m = call_asks (numbered r.script) Names (numbers_at r.script t.number w.operation) w.operation.item call (w.asks ∙ ap Some op) in
      let most = r.few client t call is op in
      let range : call.range ≡ m.0.retry + 2 = ap (λ (x : Asked). x.range) m.2 in
      let same : r.last t.number ≡ r.last a.operation = ap r.last number in
      record { operation = w.operation; there = ap (slice_get Ops) (sym number) ∙ w.there; counts = omega (arith, made, most, range, same, ap attempts_of m.1); kind = inr (m.0, m.1) }

  pub sent_at : (k i : ℕ) (a : Accepted) → k < links → Stands k i a → SentAt a
  sent_at k i a low at = by_kind k a (all_at (IsSent (plan_of r.script) Tasks r.outcomes fixed r.gave r.orders r.last k) (r.orders k).accepted a (r.sent k low) (i, at))

  -- ## Their number

  counted : (k i : ℕ) (a : Accepted) → k < links → Stands k i a → (q : Operation) × IsOp a.operation q × (a.attempt < attempts_of q.item)
  counted k i a low at = let w = sent_at k i a low at in (w.operation, w.there, w.counts)

  pub inside : (k i : ℕ) (a : Accepted) → k < links → Stands k i a → (i < 4294967295) × (a.operation < length Ops) × (a.attempt < 8)
  inside = labels.inside_script r.script (is_counted r.bytes r.script r.reads).in_range r.orders r.tells.are_orders.apart counted (keeps_limits r.bytes r.script r.reads).operations

  abbrev pub IsOut : ℕ → ℕ → Type 0
  IsOut o n = (k : ℕ) → StandsOn (plan_of r.script) Tasks r.outcomes fixed r.gave r.orders o n k → ⊥

  -- an attempt that no link accepted is one more than those that were accepted
  pub fewer : (o n : ℕ) (q : Operation) → IsOp o q → n < attempts_of q.item → IsOut o n → all_accepted links r.orders < attempts r.script
  fewer o n q there counts out = labels.fewer r.script (is_counted r.bytes r.script r.reads).in_range r.orders r.tells.are_orders.apart counted o n q there counts (λ k i a low at operation attempt. out k (i, (low, a, at, operation, attempt)))

  -- a send of which something is said was accepted by no link
  pub send_out : (i : ℕ) (q : Operation) (name bytes : List ℕ) (o : Outcome) → IsOp i q → q.item ≡ Send name bytes → slice_get r.outcomes i ≡ Some (Some o) → IsOut i 0
  send_out i q name bytes o there item b k w =
      let s = sent_at k w.0 w.1.1 w.1.0 w.1.2 in
      let whose : s.operation ≡ q = some_is s.operation q (sym s.there ∙ (ap (slice_get Ops) w.1.3 ∙ there)) in
      elim (s.kind) [
        | inl x ↦ absurd (let same : None ≡ Some o = some_is None (Some o) (sym x ∙ (ap (slice_get r.outcomes) w.1.3 ∙ b)) in cc)
        | inr x ↦ absurd (let same : Call x.0 ≡ Send name bytes = sym x.1 ∙ (ap (λ (y : Operation). y.item) whose ∙ item) in cc)
      ]

  -- ## Where nothing went wrong

  module _ (calm : IsUntroubled r.script r.ends) (none_early : (k : ℕ) → k < links → Contains r.early k → ⊥) where
    pub none_broken : (k : ℕ) → k < links → Contains r.broken k → ⊥
    none_broken k low b =
        let e = within r.ends k (omega (arith, low, r.given.as_many)) in
        let put = all_at (λ (x : LinkEnd). (x.put_faults ≡ 0) × (x.take_faults ≡ 0)) r.ends e.0 calm.put (k, e.1) in
        omega (arith, put.0, (r.given.each k e.0 e.1).failed b)

    pub none_failed : (f : ℕ × ℕ) → Contains r.fails f → ⊥
    none_failed f h =
        let w = all_at (IsFail Tasks r.outcomes) r.fails f r.tells.are (has_from r.fails f h) in
        let t = task_is r.script r.outcomes w.client w.task w.is in
        let a = fail_asks (numbered r.script) Names (numbers_at r.script w.task.number t.operation) t.operation.item w.name w.code (t.asks ∙ ap Some w.op) in
        calm.no_fail a.0 w.code (contains_from r.script (Fail a.0 w.code) (subst (Has r.script) a.1 (are_from 0 1 r.script w.task.number t.operation t.there).there))

    pub unfailed : (counts : ℕ → Type 0) (k : ℕ) → k < links → FailingBy (plan_of r.script) Tasks r.outcomes fixed r.gave r.orders counts k → ⊥
    unfailed counts k low w = elim w [
      | inl f ↦ none_failed (f.0, k) f.1
      | inr (inl b) ↦ none_broken k low b
      | inr (inr (inl early)) ↦ none_early k low early
      | inr (inr (inr late)) ↦ none_there late
    ]
      where
        none_there : Contains fixed.late_links k → ⊥
        none_there h = (let x = has_from fixed.late_links k h in let low : x.0 < 0 = slice_get_within fixed.late_links x.0 k x.1 in omega (arith, low))

    -- a life has one of the script's links
    pub life_low : (n k slot version : ℕ) → Made Tasks r.outcomes n k slot version → k < links
    life_low n k slot version m =
        let t = task_is r.script r.outcomes m.client m.task m.is in
        let w = open_named m.task.number n k t.operation t.there (t.asks ∙ ap Some m.op) in slice_get_within (link_names r.script) k w.0 w.1

    pub all_placed : (k p : ℕ) (a : Accepted) → k < links → Stands k p a → p < (r.orders k).placed
    all_placed k p a low at =
        let inside_ = slice_get_within (r.orders k).accepted p a at in
        elim (nat_lt p (r.orders k).placed) as (λ b. nat_lt p (r.orders k).placed ≡ b → p < (r.orders k).placed) [
          | true ↦ λ t. grind (arith, nat_tests)
          | false ↦ λ t. absurd (unfailed (λ f. Unit {0}) k low (r.tells.dropped k low (grind (arith, nat_tests, inside_))))
        ] refl

    said_done : (i n : ℕ) (q : Operation) (name bytes : List ℕ) (o : Outcome) → IsOp i q → q.item ≡ Send name bytes → n ≡ name_number Names name → slice_get r.outcomes i ≡ Some (Some o) → WhyAt q.client i (ops.Send n bytes) o → SendDone run_of i q name o
    said_done i n q name bytes Unopened there item is b w = inr (refl, find_none q.client i n name is w)
    said_done i n q name bytes (Gone found) there item is b w = absurd (by_cause w.failed)
      where
        by_cause : FailingBy (plan_of r.script) Tasks r.outcomes fixed r.gave r.orders (IsNoLater Tasks r.outcomes q.client i) w.link ⊎ Contains fixed.late i → ⊥
        by_cause (inl f) = unfailed (IsNoLater Tasks r.outcomes q.client i) w.link (life_low n w.link w.slot w.version w.made) f
        by_cause (inr late) = (let x = has_from fixed.late i late in let low : x.0 < 0 = slice_get_within fixed.late x.0 i x.1 in omega (arith, low))
    said_done i n q name bytes Full there item is b w =
        let one : 0 < attempts_of q.item = omega (arith, ap attempts_of item) in
        absurd (omega (arith, w.1, fewer i 0 q there one (send_out i q name bytes Full there item b), calm.few_attempts))
    said_done i n q name bytes other there item is b w = absurd w

    placed_done : (i : ℕ) (q : Operation) (name : List ℕ) (o : Outcome) → o ≡ outcome_by_word (word_at Words (8 * i)) → (k : ℕ) → StandsOn (plan_of r.script) Tasks r.outcomes fixed r.gave r.orders i 0 k → SendDone run_of i q name o
    placed_done i q name o is k w =
        let p = w.0 in
        let low : k < links = w.1.0 in
        let at : Stands k p w.1.1 = w.1.2 in
        let placed = all_placed k p w.1.1 low at in
        let first : nat_le (r.orders k).placed p ≡ false = grind (arith, nat_tests, placed) in
        let same : 8 * i ≡ label w.1.1 = omega (arith, w.1.3, w.1.4) in
        let few_links : links ≤ 65536 = omega (arith, (keeps_limits r.bytes r.script r.reads).links) in
        let there = outcome_is (word_at Words (label w.1.1)) (nat_le (r.orders k).placed p) k p (orders.parts (plan_of r.script) r.core r.orders r.tells.are_orders few_links inside k p w.1.1 low at) in
        inl (k, p, is ∙ (ap (λ n. outcome_by_word (word_at Words n)) same ∙ (there ∙ ap (λ b. if b then Dropped k p else Placed k p) first)))

    -- the send is placed, or its name had no socket yet
    pub sends_done : (i : ℕ) (q : Operation) (name bytes : List ℕ) (o : Outcome) → IsOperation run_of i q → q.item ≡ Send name bytes → HasOutcome run_of i o → SendDone run_of i q name o
    sends_done i q name bytes o there item has = by_case (said_or_placed_at i o has)
      where
        n : ℕ
        n = name_number Names name

        task : TaskAt q.client i (ops.Send n bytes)
        task = task_at i q (ops.Send n bytes) there (ap (op_of (numbered r.script) Names (numbers_at r.script i q)) item)

        by_told : o ≡ outcome_by_word (word_at Words (8 * i)) → slice_get r.outcomes i ≡ Some None → ((by : Outcome) × Became Tasks r.outcomes i by) ⊎ ((k : ℕ) × StandsOn (plan_of r.script) Tasks r.outcomes fixed r.gave r.orders i 0 k) → SendDone run_of i q name o
        by_told is none_ (inl w) = absurd (let same : Some w.0 ≡ None = some_is (Some w.0) None (sym w.1 ∙ none_) in cc)
        by_told is none_ (inr w) = placed_done i q name o is w.0 w.1

        by_case : SaidOrPlaced Words r.outcomes i o → SendDone run_of i q name o
        by_case (inl b) = said_done i n q name bytes o there item refl b (r.tells.why r.last q.client (record { number = i; op = ops.Send n bytes }) o task b tt)
        by_case (inr w) = by_told w.1 w.0 (r.tells.told q.client i n bytes task)
