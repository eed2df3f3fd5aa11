-- The lives of a run with calls: what is told of names and sockets, as a report has to say it.
use Rattle.std.proofs.Common.{◌≡◌, ◌≢◌, ℕ, ◌<◌, ◌≤◌, ◌⊎◌, inl, inr, Bool, true, List, length, count_by, slice_get, Some, Contains, refl, ap, sym, ◌∙◌, subst, arith}
use Rattle.std.proofs.lemmas.Option.{slice_get_within}
use Rattle.std.specs.List.{AllByRecursion}
use Rattle.sock_words.specs.declared.outcome.Outcome.{Outcome}
use Rattle.sock_words.specs.declared.outcome.Outcome.TheVariants.{Opened, SlotsFull, Unopened, Failed}
use Rattle.sock_words.specs.declared.place_word.PlaceWord.{PlaceWord}
use Rattle.brpc_model.specs.Items.{Item, Open, Send, Call, Fail, Hold, Drop, Shape, is_open, sought_name}
use Rattle.brpc_model.specs.Operations.{Operation, operations, link_names, slots, requests}
use Rattle.brpc_model.specs.LinePlaceFaults.{names}
use Rattle.brpc_model.specs.Frame.{Frame}
use Rattle.brpc_model.specs.ReturnedLink.{LinkEnd}
use Rattle.brpc_model.specs.Run.{Run, Story, Lateness, IsOperation, HasOutcome, IsLinkOf, BecameSocket, HasSocket}
use Rattle.brpc_model.specs.LinkFailureCauses.{HasFault, EndedEarly, GaveItsEnd, GaveAFault, GaveTheMost, TakeFailed, FailingBy, PutFailed, WasFailed as ByFail, ReadEarly, BornLate, FailingFor, Failing, OfLink, MayFindNone, Opens, IsNoLater}
use Rattle.brpc_model.specs.Why.{OpenCause, Finding}
use Rattle.brpc_model.specs.OutcomeCauses.{opening_of, finding_of, FoundFailed as RunFoundFailed, AfterHold as RunAfterHold, EachSlotOpened, Cause}
use Rattle.brpc_model.proofs.CauseLeads.{FindingLeads, fail_leads, hold_leads, drop_leads}
use Rattle.seat_programs.specs.declared.task.Op.{Op}
use Rattle.seat_programs.specs.declared.task.Op.TheVariants as ops
use Rattle.seat_programs.specs.declared.task.Task.{Task}
use Rattle.seat_programs.specs.Cores.{Core}
use Rattle.seat_programs.specs.Tasks.{Numbered, numbered, name_number, asked_of, op_of, plan_of}
use Rattle.seat_programs.specs.ScriptSetupToEnding.{all_tasks}
use Rattle.seat_programs.specs.Explained.{IsTask, Made, OpensNone, AfterHold, HasLife, EachOpened, IsFail, OnSockets}
use Rattle.seat_programs.specs.ExplainedCalls as told
use Rattle.seat_programs.specs.ExplainedCalls.{all_accepted}
use Rattle.report_fits.specs.ScriptLinkEnds.{IsEndOf}
use Rattle.script_facts.proofs.FilteredLists.{Has, within, some_is, contains_from, has_from, all_at, all_map}
use Rattle.script_facts.proofs.CountingPlaces.{but, but_other, one_less, HasPlace, places, passing, passing_length, passing_pass, passing_apart, Passes, passes_at, tally_all, count_tally}
use Rattle.script_facts.proofs.NameNumbers.{same_name}
use Rattle.script_facts.proofs.OperationNumbering.{link_at}
use Rattle.script_facts.proofs.TaskLemmas.{numbers_at, asks_at, asked_at, task_is, operation_task, open_asks, hold_asks, fail_asks, mentions_open, mentions_hold, mentions_fail, named_at}
use Rattle.report_fits.proofs.ReportedOutcomes.{is_said, outcome_told, told_outcome, SaidOrPlaced, said_or_placed}
use Rattle.script_facts.proofs.KnownScript.{first_number}
use Rattle.script_facts.proofs.KnownScript as known
use Rattle.report_fits.proofs.LinkOrderLines.{Given}
use Rattle.report_fits.proofs.LinkOrderLines as lines

-- ## Operations that seek

module _ (g : Given) where
  abbrev pub script : List Item
  script = g.run.script

  abbrev core : Core
  core = g.run.core

  abbrev pub Names : List (List ℕ)
  Names = names g.run.script

  abbrev pub last : ℕ → ℕ
  last = g.run.tells.last

  abbrev pub late_of : Lateness
  late_of = record { links = g.run.fixed.late_links; operations = g.run.fixed.late; silent = g.run.fixed.silent; early = g.run.fixed.soon }

  abbrev pub story_of : Story
  story_of = record { fails = g.run.fixed.fails; gave = g.run.gave; last = g.run.tells.last }

  -- the run that is reported
  abbrev pub run_of : Run
  run_of = record { script = g.run.script; report = g.report; ends = g.ends; late = late_of; story = story_of }

  -- what is told of it, in its own words
  abbrev pub TSeeks : ℕ → Op → Type 0
  TSeeks n op = told.Seeks (plan_of g.run.script) (all_tasks g.run.script) g.run.core.outcomes g.run.fixed g.run.gave g.run.orders n op

  abbrev pub TFoundNone : ℕ → ℕ → ℕ → Type 0
  TFoundNone c o n = told.FoundNone (plan_of g.run.script) (all_tasks g.run.script) g.run.core.outcomes g.run.fixed g.run.gave g.run.orders c o n

  abbrev pub TFailingBy : (ℕ → Type 0) → ℕ → Type 0
  TFailingBy counts k = told.FailingBy (plan_of g.run.script) (all_tasks g.run.script) g.run.core.outcomes g.run.fixed g.run.gave g.run.orders counts k

  abbrev pub TIsFailing : ℕ → Type 0
  TIsFailing k = TFailingBy (λ f. Unit {0}) k

  abbrev pub TIsNoLater : ℕ → ℕ → ℕ → Type 0
  TIsNoLater c o f = (t : Task) → IsTask (all_tasks g.run.script) g.run.core.outcomes c t → t.number ≡ f → f < o

  abbrev pub TSockets : ℕ → ℕ → OnSockets
  TSockets c o = told.sockets_told (plan_of g.run.script) (all_tasks g.run.script) g.run.core.outcomes g.run.fixed g.run.gave g.run.orders c o

  abbrev pub TFinding : ℕ → ℕ → ℕ → Finding
  TFinding c o n = (TSockets c o).find n

  abbrev pub TFoundFailed : ℕ → ℕ → ℕ → (ℕ → Type 0) → Type 0
  TFoundFailed c o n P = told.FoundFailed (plan_of g.run.script) (all_tasks g.run.script) g.run.core.outcomes g.run.fixed g.run.gave g.run.orders c o n P

  abbrev pub TIsAt : ℕ → ℕ → ℕ → ℕ → Type 0
  TIsAt o n k i = told.IsAt (plan_of g.run.script) (all_tasks g.run.script) g.run.core.outcomes g.run.fixed g.run.gave g.run.orders o n k i

  abbrev pub TIsOut : ℕ → ℕ → Type 0
  TIsOut o n = known.IsOut g.run o n

  abbrev pub TIsDropped : ℕ → ℕ → Type 0
  TIsDropped o n = (k i : ℕ) × TIsAt o n k i × ((g.run.orders k).placed ≤ i)

  abbrev pub TIsPlaced : ℕ → ℕ → Type 0
  TIsPlaced o n = (k i : ℕ) × TIsAt o n k i × (i < (g.run.orders k).placed)

  abbrev pub TWasFull : Type 0
  TWasFull = requests g.run.script ≤ all_accepted (length (link_names g.run.script)) g.run.orders

  abbrev pub TGave : ℕ → ℕ → Frame → Type 0
  TGave k n frame = told.Gave (plan_of g.run.script) (all_tasks g.run.script) g.run.core.outcomes g.run.fixed g.run.gave g.run.orders k n frame

  abbrev pub TMayBeOn : ℕ → ℕ → ℕ → ℕ → Type 0
  TMayBeOn o n name k = told.MayBeOn (plan_of g.run.script) (all_tasks g.run.script) g.run.core.outcomes g.run.fixed g.run.gave g.run.orders o n name k

  abbrev pub WhyAt : ℕ → ℕ → Op → Outcome → Type 0
  WhyAt c i op o = told.OutcomeCause (plan_of g.run.script) (all_tasks g.run.script) g.run.core.outcomes g.run.fixed g.run.gave g.run.orders g.run.tells.last c i op o

  abbrev pub link : ℕ → ℕ
  link i = link_at (operations g.run.script) i

  abbrev pub Asked_ : ℕ → Operation → Type 0
  Asked_ i q = (op : Op) × (asks_at g.run.script i q ≡ Some op)

  pub asked : (i : ℕ) (q : Operation) → IsOperation run_of i q → Asked_ i q
  asked i q e = asked_at g.run.script i q e

  abbrev pub TaskAt : ℕ → ℕ → Op → Type 0
  TaskAt c i op = IsTask (all_tasks g.run.script) g.run.core.outcomes c (record { number = i; op = op })

  pub task_at : (i : ℕ) (q : Operation) (e : IsOperation run_of i q) (op : Op) → asks_at g.run.script i q ≡ Some op → TaskAt q.client i op
  task_at i q e op f = operation_task g.run.script g.run.core.outcomes i q op e f

  abbrev pub Words : List PlaceWord
  Words = lines.Words g

  -- what is reported was said, but of messages that were accepted
  pub became : (i : ℕ) (o : Outcome) → is_said o ≡ true → HasOutcome run_of i o → slice_get g.run.core.outcomes i ≡ Some (Some o)
  became i o s e = outcome_told Words g.run.core.outcomes i o s (ap (λ os. slice_get os i) (sym g.reports.outcomes) ∙ e)

  pub reported : (i : ℕ) (o : Outcome) → slice_get g.run.core.outcomes i ≡ Some (Some o) → HasOutcome run_of i o
  reported i o e = ap (λ os. slice_get os i) g.reports.outcomes ∙ told_outcome Words g.run.core.outcomes i o e

  pub said_or_placed_at : (i : ℕ) (o : Outcome) → HasOutcome run_of i o → SaidOrPlaced Words g.run.core.outcomes i o
  said_or_placed_at i o e = said_or_placed Words g.run.core.outcomes i o (ap (λ os. slice_get os i) (sym g.reports.outcomes) ∙ e)

  pub why_at : (i : ℕ) (q : Operation) (e : IsOperation run_of i q) (op : Op) → asks_at g.run.script i q ≡ Some op → (o : Outcome) → slice_get g.run.core.outcomes i ≡ Some (Some o) → WhyAt q.client i op o
  why_at i q e op f o b = g.run.tells.why q.client (record { number = i; op = op }) o (task_at i q e op f) b

  -- ## Lives

  opened_is : (c o : ℕ) (op : Op) (slot version l : ℕ) → WhyAt c o op (Opened slot version l) → (n : ℕ) × (op ≡ ops.Open n l)
  opened_is c o (ops.Open n k) slot version l w = (n, ap (ops.Open n) (sym w.0))
  opened_is c o other slot version l w = absurd w

  -- the operation that made a life
  pub record OpenedAt (j slot version k : ℕ) : Type 0 where
    pub operation : Operation
    pub there : slice_get (operations script) j ≡ Some operation
    pub name : List ℕ
    pub shape : Shape
    pub item : operation.item ≡ Open name shape
    pub its : k ≡ link_at (operations script) j
    pub named : slice_get (link_names script) k ≡ Some name
    pub mentions : Has (names script) name
    pub is : IsTask (all_tasks script) g.run.core.outcomes operation.client (record { number = j; op = ops.Open (name_number (names script) name) k })

  opened_by_open : (j slot version k n : ℕ) (q : Operation) (name : List ℕ) (shape : Shape) → IsOperation run_of j q → q.item ≡ Open name shape → n ≡ name_number Names name → k ≡ link j → asks_at script j q ≡ Some (ops.Open n k) → OpenedAt j slot version k
  opened_by_open j slot version k n q name shape there item number its asks = record {
    operation = q;
    there = there;
    name = name;
    shape = shape;
    item = item;
    its = its;
    named = ap (slice_get (link_names script)) its ∙ named_at script j q name shape there item;
    mentions = mentions_open script j q there name shape item;
    is = task_at j q there (ops.Open (name_number Names name) k) (asks ∙ ap (λ n. Some (ops.Open n k)) number);
  }

  opened_by_task : (j slot version k n : ℕ) (q : Operation) → IsOperation run_of j q → asks_at script j q ≡ Some (ops.Open n k) → OpenedAt j slot version k
  opened_by_task j slot version k n q there asks =
      let m = open_asks (numbered script) Names (numbers_at script j q) q.item n k asks in
      opened_by_open j slot version k n q m.0 m.1 there m.2 m.3 m.4 asks

  opened_by_operation : (j slot version k : ℕ) (q : Operation) (op : Op) → IsOperation run_of j q → asks_at script j q ≡ Some op → slice_get g.run.core.outcomes j ≡ Some (Some (Opened slot version k)) → OpenedAt j slot version k
  opened_by_operation j slot version k q op there asks b =
      let o = opened_is q.client j op slot version k (why_at j q there op asks (Opened slot version k) b) in
      opened_by_task j slot version k o.0 q there (asks ∙ ap Some o.1)

  pub opened_at : (j slot version k : ℕ) → slice_get g.run.core.outcomes j ≡ Some (Some (Opened slot version k)) → OpenedAt j slot version k
  opened_at j slot version k b =
      let w = within (operations script) j (omega (arith, slice_get_within g.run.core.outcomes j (Some (Opened slot version k)) b, g.run.long)) in
      let a = asked j w.0 w.1 in
      opened_by_operation j slot version k w.0 a.0 w.1 a.1 b

  abbrev pub Makes : ℕ → ℕ → ℕ → ℕ → Type 0
  Makes n k slot version = Made (all_tasks script) g.run.core.outcomes n k slot version

  -- the operation that made it is known by the life
  pub maker : (n k slot version : ℕ) (m : Makes n k slot version) → (w : OpenedAt m.task.number slot version k) × (n ≡ name_number Names w.name)
  maker n k slot version m =
      let w = opened_at m.task.number slot version k m.became in
      let t = task_is script g.run.core.outcomes m.client m.task m.is in
      let same : t.operation ≡ w.operation = some_is t.operation w.operation (sym t.there ∙ w.there) in
      let asks : op_of (numbered script) Names (numbers_at script m.task.number t.operation) (Open w.name w.shape) ≡ Some (ops.Open n k) =
      ap (op_of (numbered script) Names (numbers_at script m.task.number t.operation)) (sym w.item ∙ ap (λ (x : Operation). x.item) (sym same)) ∙ t.asks ∙ ap Some m.op in
      let both : ops.Open (name_number Names w.name) (link m.task.number) ≡ ops.Open n k = some_is _ (ops.Open n k) asks in
      (w, cc)

  -- the name is one that the script mentions, with this number
  abbrev pub IsNumberOf : ℕ → List ℕ → Type 0
  IsNumberOf n name = (n ≡ name_number (names script) name) × Has (names script) name

  pub link_of : (n k slot version : ℕ) (name : List ℕ) → IsNumberOf n name → (m : Makes n k slot version) → IsLinkOf run_of k name
  link_of n k slot version name is m =
      let w = maker n k slot version m in
      let same : w.0.name ≡ name = same_name Names w.0.name name w.0.mentions is.1 (sym w.1 ∙ is.0) in
      w.0.named ∙ ap Some same

  -- ## Names without a socket

  opens_not : (n : ℕ) (name : List ℕ) → IsNumberOf n name → (j c : ℕ) → ((q : Operation) → IsOperation run_of j q → q.client ≡ c) →
      ((op : Op) → TaskAt c j op → OpensNone (all_tasks script) g.run.core.outcomes n (record { number = j; op = op })) → Opens run_of j name → ⊥
  opens_not n name is j c own none opens =
      let slot = opens.0 in
      let version = opens.1 in
      let k = opens.2 in
      let b = became j (Opened slot version k) refl opens.3 in
      let w = opened_at j slot version k b in
      let same : w.name ≡ name = some_is w.name name (sym w.named ∙ opens.4) in
      let numbers : name_number Names w.name ≡ n = ap (name_number Names) same ∙ sym is.0 in
      let P : ℕ → Type 0 = λ x. TaskAt x j (ops.Open (name_number Names w.name) k) in
      none (ops.Open (name_number Names w.name) k) (subst P (own w.operation w.there) w.is) k slot version (ap (λ z. ops.Open z k) numbers) b

  pub operation_is : (j : ℕ) (p q : Operation) → IsOperation run_of j p → IsOperation run_of j q → p ≡ q
  operation_is j p q e f = some_is p q (sym e ∙ f)

  seeks_by : (x : Numbered) (item : Item) (name : List ℕ) (op : Op) → op_of (numbered g.run.script) Names x item ≡ Some op → sought_name item ≡ Some name → TSeeks (name_number Names name) op
  seeks_by x (Fail nm code) name op e f = let P : Op → Type 0 = λ o. TSeeks (name_number Names name) o in subst P (some_is (ops.Fail (name_number Names nm) code) op e) (ap (name_number Names) (some_is nm name f))
  seeks_by x (Hold nm) name op e f = let P : Op → Type 0 = λ o. TSeeks (name_number Names name) o in subst P (some_is (ops.Hold (name_number Names nm)) op e) (ap (name_number Names) (some_is nm name f))
  seeks_by x (Send nm bytes) name op e f = let P : Op → Type 0 = λ o. TSeeks (name_number Names name) o in subst P (some_is (ops.Send (name_number Names nm) bytes) op e) (ap (name_number Names) (some_is nm name f))
  seeks_by x (Call call) name op e f = let P : Op → Type 0 = λ o. TSeeks (name_number Names name) o in subst P (some_is (ops.Call (asked_of Names x.number call)) op e) (first_number Names x.number call name f)
  seeks_by x other name op e f = absurd (cc)

  pub find_none : (c o n : ℕ) (name : List ℕ) → IsNumberOf n name → TFoundNone c o n → MayFindNone run_of c o name
  find_none c o n name is found j q there =
      let owner : (d : ℕ) → q.client ≡ d → (p : Operation) → IsOperation run_of j p → p.client ≡ d = λ d e p f. ap (λ (x : Operation). x.client) (operation_is j p q f there) ∙ e in
      let a = asked j q there in (
        λ z opens. opens_not n name is j 0 (owner 0 z) (λ op t. found.setup (record { number = j; op = op }) t) opens,
        λ own less. (
          λ opens. opens_not n name is j c (owner c own) (λ op t. (found.own (record { number = j; op = op }) t less).0) opens,
          λ sought. (
              let s = seeks_by (numbers_at g.run.script j q) q.item name a.0 a.1 sought in
              let P : ℕ → Type 0 = λ x. TaskAt x j a.0 in
              let Q : ℕ → Type 0 = λ x. TSeeks x a.0 in
              reported j Unopened ((found.own (record { number = j; op = a.0 }) (subst P own (task_at j q there a.0 a.1)) less).1 (subst Q (sym is.0) s))
              ),
        ),
      )

  -- ## Lives that were failed

  -- link k as it was given back
  pub record EndOf (k : ℕ) : Type 0 where
    pub end : LinkEnd
    pub there : Contains g.ends end
    pub is : IsEndOf (plan_of g.run.script) g.run.core g.run.fixed g.run.gave k end

  pub end_at : (k : ℕ) → k < length (link_names g.run.script) → EndOf k
  end_at k low =
      let w = within g.ends k (omega (arith, low, g.given.as_many)) in
      record { end = w.0; there = contains_from g.ends w.0 (k, w.1); is = g.given.each k w.0 w.1 }

  -- what holds of link k
  pub of_link : (P : LinkEnd → Type 0) (k : ℕ) → k < length (link_names g.run.script) → ((e : EndOf k) → P e.end) → OfLink run_of P k
  of_link P k low f = let e = end_at k low in (e.end, e.there, e.is.numbered, f e)

  pub ended_early : (k : ℕ) (e : EndOf k) → Contains g.run.fixed.early k → EndedEarly run_of e.end
  ended_early k e h = elim (e.is.early h) [
    | inl w ↦ GaveItsEnd w
    | inr (inl w) ↦ let P : ℕ → Type 0 = λ x. HasFault (g.run.gave x) in GaveAFault (subst P (sym e.is.numbered) w)
    | inr (inr (inl w)) ↦ GaveTheMost w
    | inr (inr (inr w)) ↦ TakeFailed w
  ]

  pub failing_by : (counts runs : ℕ → Type 0) (k : ℕ) (e : EndOf k) → ((f : ℕ) → counts f → runs f) → TFailingBy counts k → FailingBy run_of runs e.end
  failing_by counts runs k e map_ w = elim w [
    | inl f ↦ let Q : ℕ → Type 0 = λ x. Contains g.run.fixed.fails (f.0, x) in ByFail f.0 (map_ f.0 f.2) (subst Q (sym e.is.numbered) f.1)
    | inr (inl b) ↦ PutFailed (e.is.failed b)
    | inr (inr (inl early)) ↦ ReadEarly (ended_early k e early)
    | inr (inr (inr late)) ↦ let Q : ℕ → Type 0 = λ x. Contains g.run.fixed.late_links x in BornLate (subst Q (sym e.is.numbered) late)
  ]

  pub is_failing : (k : ℕ) → k < length (link_names g.run.script) → TIsFailing k → Failing run_of k
  is_failing k low w = of_link (FailingBy run_of (λ i. Unit {0})) k low (λ e. failing_by (λ f. Unit {0}) (λ f. Unit {0}) k e (λ f h. h) w)

  no_later : (i f : ℕ) (q : Operation) → IsOperation run_of i q → TIsNoLater q.client i f → IsNoLater run_of i f
  no_later i f q there h p r at_i at_f own =
      let a = asked f r at_f in
      let client : r.client ≡ q.client = sym own ∙ ap (λ (x : Operation). x.client) (operation_is i p q at_i there) in
      let R : ℕ → Type 0 = λ x. TaskAt x f a.0 in
      h (record { number = f; op = a.0 }) (subst R client (task_at f r at_f a.0 a.1)) refl

  pub found_failed : (i n : ℕ) (q : Operation) (name : List ℕ) (P : ℕ → Type 0) → IsOperation run_of i q → IsNumberOf n name → TFoundFailed q.client i n P → RunFoundFailed run_of i name P
  found_failed i n q name P there is f =
      let named = link_of n f.link f.slot f.version name is f.made in
      let low = slice_get_within (link_names g.run.script) f.link name named in
      (f.link, f.made.task.number, f.slot, f.version, reported f.made.task.number (Opened f.slot f.version f.link) f.made.became, named, f.holds, by_cause low f.failed)
    where
      by_cause : f.link < length (link_names g.run.script) → TFailingBy (TIsNoLater q.client i) f.link ⊎ Contains g.run.fixed.late i → FailingFor run_of i f.link ⊎ Contains g.run.fixed.late i
      by_cause low (inl w) = inl (of_link (FailingBy run_of (IsNoLater run_of i)) f.link low (λ e. failing_by (TIsNoLater q.client i) (IsNoLater run_of i) f.link e (λ x h. no_later i x q there h) w))
      by_cause low (inr w) = inr w

  pub has_socket : (n : ℕ) (name : List ℕ) → IsNumberOf n name → HasLife (all_tasks script) g.run.core.outcomes n → HasSocket run_of name
  has_socket n name is w = (w.0, link_of n w.0 w.1 w.2 name is w.3, (w.3.task.number, w.1, w.2, reported w.3.task.number (Opened w.1 w.2 w.0) w.3.became))

  -- ## Holds and drops

  -- what the task of a `hold` is
  hold_at : (h n : ℕ) (r : Operation) (name : List ℕ) (op : Op) → IsOperation run_of h r → asks_at script h r ≡ Some op → op ≡ ops.Hold n → IsNumberOf n name → r.item ≡ Hold name
  hold_at h n r name op there asks e is =
      let w = hold_asks (numbered script) Names (numbers_at script h r) r.item n (asks ∙ ap Some e) in
      let mentions : Has Names w.0 = mentions_hold script h r there w.0 w.1 in
      w.1 ∙ ap Hold (same_name Names w.0 name mentions is.1 (sym w.2 ∙ is.0))

  after_hold : (i n : ℕ) (q : Operation) (name : List ℕ) (P : Outcome → Type 0) → IsNumberOf n name → AfterHold (all_tasks script) g.run.core.outcomes q.client i n P → RunAfterHold run_of i q name P
  after_hold i n q name P is a =
      let h = a.hold.number in
      let t = task_is script g.run.core.outcomes q.client a.hold a.is in (
        h,
        a.outcome,
        record {
          before = a.before;
          hold = t.operation;
          there = t.there;
          own = t.own;
          same = hold_at h n t.operation name a.hold.op t.there t.asks a.op is;
          last = λ j r low high there own same. (
              let asks : asks_at script j r ≡ Some (ops.Hold n) = ap (op_of (numbered script) Names (numbers_at script j r)) same ∙ ap (λ x. Some (ops.Hold x)) (sym is.0) in
              let R : ℕ → Type 0 = λ x. TaskAt x j (ops.Hold n) in
              a.last (record { number = j; op = ops.Hold n }) (subst R own (task_at j r there (ops.Hold n) asks)) low high refl
              );
        },
        reported h a.outcome a.became,
        a.holds,
      )

  -- ## The causes

  -- what is told of an operation that looks for a socket leads to what is reported of it
  pub finding : (i n : ℕ) (q : Operation) (name : List ℕ) → IsOperation run_of i q → IsNumberOf n name → FindingLeads (TFinding q.client i n) (finding_of run_of i q name)
  finding i n q name there is = record {
    none_ = λ w. find_none q.client i n name is w;
    failed = λ P w. found_failed i n q name P there is w;
    socket = λ w. has_socket n name is w;
  }

  -- a `fail` that was answered `failed`: the operation, and the link that it failed
  pub record FailedAt (i k : ℕ) : Type 0 where
    pub operation : Operation
    pub there : slice_get (operations script) i ≡ Some operation
    pub name : List ℕ
    pub code : ℕ
    pub item : operation.item ≡ Fail name code
    pub named : IsLinkOf run_of k name
    pub opened : BecameSocket run_of k
    pub failed : slice_get g.run.core.outcomes i ≡ Some (Some Failed)

  pub failed_at : (f : ℕ × ℕ) → Contains g.run.fixed.fails f → FailedAt f.0 f.1
  failed_at f h =
      let w = all_at (IsFail (all_tasks script) g.run.core.outcomes) g.run.fixed.fails f g.run.tells.are (has_from g.run.fixed.fails f h) in
      let t = task_is script g.run.core.outcomes w.client w.task w.is in
      let there : slice_get (operations script) f.0 ≡ Some t.operation = ap (slice_get (operations script)) (sym w.numbered) ∙ t.there in
      let a = fail_asks (numbered script) Names (numbers_at script w.task.number t.operation) t.operation.item w.name w.code (t.asks ∙ ap Some w.op) in
      let life = w.life in
      record {
        operation = t.operation;
        there = there;
        name = a.0;
        code = w.code;
        item = a.1;
        named = link_of w.name f.1 w.slot w.version a.0 (a.2, mentions_fail script f.0 t.operation there a.0 w.code a.1) life;
        opened = (life.task.number, w.slot, w.version, reported life.task.number (Opened w.slot w.version f.1) life.became);
        failed = w.became;
      }

  failed_cause : (i k : ℕ) (q : Operation) (name : List ℕ) (code : ℕ) → IsOperation run_of i q → q.item ≡ Fail name code → Contains g.run.fixed.fails (i, k) → HasSocket run_of name
  failed_cause i k q name code there item h =
      let w = failed_at (i, k) h in
      let same : Fail w.name w.code ≡ Fail name code = sym w.item ∙ ap (λ (x : Operation). x.item) (operation_is i w.operation q w.there there) ∙ item in
      let name_is : w.name ≡ name = cc in
      (k, w.named ∙ ap Some name_is, w.opened)

  pub fail_cause : (i n code : ℕ) (q : Operation) (name : List ℕ) (o : Outcome) → IsOperation run_of i q → q.item ≡ Fail name code → IsNumberOf n name → WhyAt q.client i (ops.Fail n code) o → Cause run_of i q (Fail name code) o
  fail_cause i n code q name o there item is w = fail_leads (TFinding q.client i n) (finding_of run_of i q name) ((k : ℕ) × Contains g.run.fixed.fails (i, k)) (HasSocket run_of name)
      (finding i n q name there is) (λ f. failed_cause i f.0 q name code there item f.1) o w

  pub hold_cause : (i n : ℕ) (q : Operation) (name : List ℕ) (o : Outcome) → IsOperation run_of i q → IsNumberOf n name → WhyAt q.client i (ops.Hold n) o → Cause run_of i q (Hold name) o
  hold_cause i n q name o there is w = hold_leads (TFinding q.client i n) (finding_of run_of i q name) (finding i n q name there is) o w

  pub drop_cause : (i n : ℕ) (q : Operation) (name : List ℕ) (o : Outcome) → IsNumberOf n name → WhyAt q.client i (ops.Drop n) o → Cause run_of i q (Drop name) o
  drop_cause i n q name o is w = drop_leads (λ P. AfterHold (all_tasks script) g.run.core.outcomes q.client i n P) (λ P. RunAfterHold run_of i q name P) (λ P h. after_hold i n q name P is h) o w

  -- ## No slot

  each_opened : EachOpened (all_tasks script) g.run.core.outcomes (plan_of g.run.script) → EachSlotOpened run_of
  each_opened each slot low = let w = each slot low in (w.3.task.number, w.2, w.1, reported w.3.task.number (Opened slot w.2 w.1) w.3.became)

  abbrev is_open_at : ℕ → Bool
  is_open_at j = passes_at (λ (op : Operation). is_open op.item) (slice_get (operations script) j)

  abbrev OpenedSlot : ℕ → ℕ → Type 0
  OpenedSlot slot j = (version k : ℕ) × (slice_get g.run.core.outcomes j ≡ Some (Some (Opened slot version k)))

  one_slot : (x y j : ℕ) → x ≢ y → OpenedSlot x j → OpenedSlot y j → ⊥
  one_slot x y j apart v w =
      let same : Some (Opened x v.0 v.1) ≡ Some (Opened y w.0 w.1) = some_is (Some (Opened x v.0 v.1)) (Some (Opened y w.0 w.1)) (sym v.2 ∙ w.2) in
      let slot : x ≡ y = cc in
      apart slot

  open_place : (i j : ℕ) (slot version k : ℕ) → slice_get g.run.core.outcomes i ≡ Some (Some SlotsFull) → slice_get g.run.core.outcomes j ≡ Some (Some (Opened slot version k)) →
      HasPlace OpenedSlot (but is_open_at i) (length (operations script)) slot
  open_place i j slot version k full b =
      let w = opened_at j slot version k b in
      let other : j ≢ i = λ e. let same : Some (Opened slot version k) ≡ Some SlotsFull = some_is (Some (Opened slot version k)) (Some SlotsFull) (sym b ∙ ap (slice_get g.run.core.outcomes) e ∙ full) in absurd (cc) in
      let opens : is_open_at j ≡ true = ap (passes_at (λ (op : Operation). is_open op.item)) w.there ∙ ap is_open w.item in
      (j, slice_get_within (operations script) j w.operation w.there, but_other is_open_at i j other ∙ opens, (version, k, b))

  -- where each slot was opened and one `open` more was made, there are more opens than slots
  more_opens : (i : ℕ) (q : Operation) → IsOperation run_of i q → is_open q.item ≡ true → slice_get g.run.core.outcomes i ≡ Some (Some SlotsFull) → EachOpened (all_tasks script) g.run.core.outcomes (plan_of g.run.script) →
      slots script < count_by (λ (op : Operation). is_open op.item) (operations script)
  more_opens i q there o full each =
      let always : ℕ → Bool = λ j. true in
      let n = length (operations script) in
      let here : is_open_at i ≡ true = ap (passes_at (λ (op : Operation). is_open op.item)) there ∙ o in
      let low : i < n = slice_get_within (operations script) i q there in
      let slots_ = passing always (slots script) in
      let have : AllByRecursion (HasPlace OpenedSlot (but is_open_at i) n) slots_ = all_map (Passes always (slots script)) (HasPlace OpenedSlot (but is_open_at i) n)
      (λ slot w. (let m = each slot w.0 in open_place i m.3.task.number slot m.2 m.1 full m.3.became)) slots_ (passing_pass always (slots script)) in
      omega (
        arith,
        places OpenedSlot (λ (x y : ℕ). x ≢ y) n one_slot slots_ (but is_open_at i) (passing_apart always (slots script)) have,
        passing_length always (slots script),
        tally_all (slots script),
        one_less is_open_at i n low here,
        count_tally (λ (op : Operation). is_open op.item) (operations script),
      )

  pub open_cause : (i n k : ℕ) (q : Operation) (o : Outcome) → IsOperation run_of i q → is_open q.item ≡ true → k ≡ link i → slice_get g.run.core.outcomes i ≡ Some (Some o) → WhyAt q.client i (ops.Open n k) o → OpenCause (opening_of run_of i) o
  open_cause i n k q (Opened slot version l) there o its b w = (w.0 ∙ its, w.1, w.2, w.3)
  open_cause i n k q SlotsFull there o its b w = (each_opened w, more_opens i q there o b w)
  open_cause i n k q other there o its b w = absurd w
