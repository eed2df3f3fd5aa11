-- Why each operation of a script has its outcome, as a report has to say it: sends, calls, `expire` and `join`.
use Rattle.std.proofs.Common.{◌≡◌, ℕ, ◌+◌, ◌<◌, ◌≤◌, ◌*◌, ◌⊎◌, inl, inr, Bool, true, false, if◌then◌else◌, nat_le, List, length, slice_get, Option, Some, None, Contains, refl, ap, sym, ◌∙◌, subst, arith}
use Rattle.std.proofs.lemmas.Bool.Decides.{nat_tests}
use Rattle.std.proofs.lemmas.Option.{slice_get_within}
use Rattle.sock_words.specs.declared.outcome.Outcome.{Outcome}
use Rattle.sock_words.specs.declared.outcome.Outcome.TheVariants.{Unopened, Placed, Dropped, Failed}
use Rattle.brpc_model.specs.Items.{Item, Open, Send, Call, Expire, Join, Fail, Hold, Drop, CallLine, is_open, attempts_of}
use Rattle.brpc_model.specs.Operations.{Operation, Label, operations, clients, link_names}
use Rattle.brpc_model.specs.LinePlaceFaults.{names}
use Rattle.brpc_model.specs.Frame.{Frame}
use Rattle.brpc_model.specs.PlaceWords.{word_at, outcome_by_word}
use Rattle.brpc_model.specs.Why.{Sending, Links, Attempt, Seeking, Ending, Calling, Target}
use Rattle.brpc_model.specs.Attempts.{attempt, links_of, attempt_of, seeking_of, ending_of, IsTried, MayBeOn, WhyAgain, IsAnsweredBy, IsResponse, FailedBy, IsExpiredWith, IsFailedWith}
use Rattle.brpc_model.specs.Attempts as attempts
use Rattle.brpc_model.specs.Run.{IsOperation, HasOutcome, StandsAt, IsUnordered, GaveFrame}
use Rattle.brpc_model.specs.LinkFailureCauses.{HasFault, ReadingEnded, Early, AtClosed, AtSilence, Failing, OfLink, MayBeFull}
use Rattle.brpc_model.specs.OutcomeCauses.{sending_of, SendCause, calling_of, target_of, HasBegun, MayNotHaveBegun, IsTarget, Cause}
use Rattle.brpc_model.proofs.CauseLeads.{SendingLeads, send_leads, AttemptLeads, SeekingLeads, EndingLeads, answered_leads, again_leads, failed_leads, CallingLeads, call_leads, TargetLeads, expire_leads, join_leads}
use Rattle.seat_programs.specs.declared.task.Op.{Op}
use Rattle.seat_programs.specs.declared.task.Op.TheVariants as ops
use Rattle.seat_programs.specs.declared.task.Task.{Task}
use Rattle.seat_programs.specs.sock_message.specs.Asked.{Asked, name_of}
use Rattle.seat_programs.specs.Tasks.{numbered, name_number, number_of, asked_of, op_of, plan_of}
use Rattle.seat_programs.specs.ScriptSetupToEnding.{all_tasks}
use Rattle.seat_programs.specs.Explained.{IsTask, Made}
use Rattle.seat_programs.specs.Explained as plain
use Rattle.seat_programs.specs.ExplainedCalls as told
use Rattle.seat_programs.specs.ExplainedCalls.{Accepted, label}
use Rattle.script_facts.proofs.FilteredLists.{Has, some_is, has_from}
use Rattle.script_facts.proofs.NameNumbers.{same_name}
use Rattle.script_facts.proofs.OperationNumbering.{are_from}
use Rattle.script_facts.proofs.TaskLemmas.{numbers_at, task_is, tasks_length, fail_asks, expire_asks, mentions_send, mentions_hold, mentions_drop, mentions_fail}
use Rattle.report_fits.proofs.ReportedOutcomes.{SaidOrPlaced}
use Rattle.script_facts.proofs.Targets as targets
use Rattle.report_fits.proofs.OrdersOfPlaceWords.{label_of}
use Rattle.script_facts.proofs.KnownScript.{first_number, attempt_named}
use Rattle.script_facts.proofs.KnownScript as known
use Rattle.report_fits.proofs.LinkOrderLines.{Given}
use Rattle.report_fits.proofs.LinkOrderLines as lines
use Rattle.report_fits.proofs.LivesInReport as lives

is_label : (a : Accepted) (o n : ℕ) → a.operation ≡ o → a.attempt ≡ n → label_of a ≡ attempt o n
is_label a o n e f = ap (λ (x : ℕ). let l : Label = record { operation = x; attempt = a.attempt } in l) e ∙ ap (λ (x : ℕ). let l : Label = record { operation = o; attempt = x } in l) f

module _ (g : Given) where
  abbrev Run_ : Rattle.brpc_model.specs.Run.Run
  Run_ = lives.run_of g

  abbrev LinkCount : ℕ
  LinkCount = length (link_names g.run.script)

  abbrev Names : List (List ℕ)
  Names = names g.run.script

  abbrev Outcomes : List (Option Outcome)
  Outcomes = g.run.core.outcomes

  abbrev IsOp : ℕ → Operation → Type 0
  IsOp i q = slice_get (operations g.run.script) i ≡ Some q

  abbrev Stands : ℕ → ℕ → Accepted → Type 0
  Stands k i a = known.Stands g.run k i a

  -- what is told of it, in its own words
  abbrev TSending : ℕ → ℕ → ℕ → Sending
  TSending c o n = plain.sending_of (lives.TSockets g c o) n

  abbrev TLinks : Links
  TLinks = told.links_told (plan_of g.run.script) (all_tasks g.run.script) Outcomes g.run.fixed g.run.gave g.run.orders

  abbrev TAttempt : ℕ → ℕ → ℕ → Attempt
  TAttempt o n name = told.attempt_told (plan_of g.run.script) (all_tasks g.run.script) Outcomes g.run.fixed g.run.gave g.run.orders o n name

  abbrev TSeeking : ℕ → ℕ → ℕ → ℕ → Seeking
  TSeeking c o n name = told.seeking_told (plan_of g.run.script) (all_tasks g.run.script) Outcomes g.run.fixed g.run.gave g.run.orders c o n name

  abbrev TEnding : ℕ → Asked → ℕ → ℕ → Ending
  TEnding o asked id n = told.ending_told (plan_of g.run.script) (all_tasks g.run.script) Outcomes g.run.fixed g.run.gave g.run.orders o asked id n

  abbrev TCalling : ℕ → ℕ → Asked → Calling
  TCalling c o asked = told.calling_told (plan_of g.run.script) (all_tasks g.run.script) Outcomes g.run.fixed g.run.gave g.run.orders (lives.last g) c o asked

  abbrev TTarget : ℕ → ℕ → ℕ → Target
  TTarget c o t = told.target_told (plan_of g.run.script) (all_tasks g.run.script) Outcomes g.run.fixed g.run.gave g.run.orders c o t

  -- ## Where attempts stand

  -- a message stands in the line of its link
  pub stands_at : (o n k p : ℕ) → lives.TIsAt g o n k p → StandsAt Run_ (attempt o n) k p
  stands_at o n k p w =
      let l = lines.line_at g k w.0 in
      (l.0, l.1, lines.place_at g k p l.0 w.1 l.1 w.2 ∙ ap Some (is_label w.1 o n w.3 w.4))

  pub at_stand : (o n k p : ℕ) → StandsAt Run_ (attempt o n) k p → lives.TIsAt g o n k p
  at_stand o n k p w =
      let a = lines.at_place g k p w.0 (attempt o n) w.1 w.2 in
      (lines.line_low g k w.0 w.1, a.0, a.1, ap (λ (l : Label). l.operation) a.2, ap (λ (l : Label). l.attempt) a.2)

  unordered : (o n : ℕ) → lives.TIsOut g o n → IsUnordered Run_ (attempt o n)
  unordered o n out k p w = out k (p, at_stand o n k p w)

  dropped : (o n : ℕ) → lives.TIsDropped g o n → attempts.IsDropped Run_ (attempt o n)
  dropped o n w =
      let s = stands_at o n w.0 w.1 w.2 in
      (w.0, w.1, s.0, s.1, s.2, omega (arith, w.3, lines.placed_is g w.0 s.0 s.1))

  placed_back : (o n : ℕ) → attempts.IsPlaced Run_ (attempt o n) → lives.TIsPlaced g o n
  placed_back o n w = (w.0, w.1, at_stand o n w.0 w.1 (w.2, w.3, w.4), omega (arith, w.5, lines.placed_is g w.0 w.2 w.3))

  -- each request was taken, and this attempt is one more
  full : (o n : ℕ) (q : Operation) → IsOp o q → n < attempts_of q.item → lives.TIsOut g o n → lives.TWasFull g → MayBeFull Run_
  full o n q there counts out many = (omega (arith, many, lines.lines_sum g), omega (arith, many, known.fewer g.run o n q there counts out))

  -- a link that dropped a message was failing
  pub dropped_failing : (k : ℕ) → k < LinkCount → (g.run.orders k).placed < length (g.run.orders k).accepted → Failing Run_ k
  dropped_failing k low fewer = lives.is_failing g k low (g.run.tells.dropped k low fewer)

  -- a life has one of the script's links
  pub life_low : (n k slot version : ℕ) → Made (all_tasks g.run.script) Outcomes n k slot version → k < LinkCount
  life_low n k slot version m = let w = lives.opened_at g m.task.number slot version k m.became in slice_get_within (link_names g.run.script) k w.name w.named

  -- ## Sends

  placed_cause : (o k p : ℕ) (q : Operation) (name : List ℕ) → lives.TIsAt g o 0 k p → (b : Bool) → nat_le (g.run.orders k).placed p ≡ b → SendCause Run_ o q name (if b then Dropped k p else Placed k p)
  placed_cause o k p q name w true e =
      let inside = slice_get_within (g.run.orders k).accepted p w.1 w.2 in
      let fewer : (g.run.orders k).placed < length (g.run.orders k).accepted = grind (arith, nat_tests, e, inside) in
      (stands_at o 0 k p w, dropped_failing k w.0 fewer)
  placed_cause o k p q name w false e = stands_at o 0 k p w

  -- a send of which something is said was accepted by no link
  pub send_out : (i : ℕ) (q : Operation) (name bytes : List ℕ) (o : Outcome) → IsOp i q → q.item ≡ Send name bytes → slice_get Outcomes i ≡ Some (Some o) → lives.TIsOut g i 0
  send_out i q name bytes o there item b k w =
      let s = known.sent_at g.run k w.0 w.1.1 w.1.0 w.1.2 in
      let whose : s.operation ≡ q = some_is s.operation q (sym s.there ∙ ap (slice_get (operations g.run.script)) w.1.3 ∙ there) in
      elim (s.kind) [
        | inl x ↦ absurd (let same : None ≡ Some o = some_is None (Some o) (sym x.3 ∙ ap (slice_get Outcomes) w.1.3 ∙ b) in cc)
        | inr x ↦ absurd (let same : Call x.call ≡ Send name bytes = sym x.item ∙ ap (λ (y : Operation). y.item) whose ∙ item in cc)
      ]

  sending : (i n : ℕ) (q : Operation) (name bytes : List ℕ) (o : Outcome) → IsOp i q → q.item ≡ Send name bytes → lives.IsNumberOf g n name → slice_get Outcomes i ≡ Some (Some o) → SendingLeads (TSending q.client i n) (sending_of Run_ i q name)
  sending i n q name bytes o there item is b = record {
    find = lives.finding g i n q name there is;
    full = λ many. let one : 0 < attempts_of q.item = omega (arith, ap attempts_of item) in full i 0 q there one (send_out i q name bytes o there item b) many;
    placed = λ k p w. absurd w;
    dropped = λ k p w. absurd w;
  }

  -- ## Responses

  gave_frame : (k n : ℕ) (frame : Frame) → lives.TGave g k n frame → GaveFrame Run_ k n frame
  gave_frame k n frame w = let e = lives.end_at g k w.0 in ((e.end, e.there, e.is.numbered), w.1)

  frame_gave : (k n : ℕ) (frame : Frame) → GaveFrame Run_ k n frame → lives.TGave g k n frame
  frame_gave k n frame w =
      let h = has_from g.ends w.0.0 w.0.1 in
      let is = g.given.each h.0 w.0.0 h.1 in
      let same : h.0 ≡ k = sym is.numbered ∙ w.0.2 in
      (omega (arith, same, slice_get_within g.ends h.0 w.0.0 h.1, g.given.as_many), w.1)

  abbrev TIsResponse : Asked → ℕ → Frame → Type 0
  TIsResponse asked id frame = told.IsResponse (plan_of g.run.script) (all_tasks g.run.script) Outcomes g.run.fixed g.run.gave g.run.orders asked id frame

  abbrev TIsAnsweredBy : Asked → ℕ → (Frame → Type 0) → Type 0
  TIsAnsweredBy asked id P = told.IsAnsweredBy (plan_of g.run.script) (all_tasks g.run.script) Outcomes g.run.fixed g.run.gave g.run.orders asked id P

  response_of : (i id : ℕ) (call : CallLine) (frame : Frame) → TIsResponse (asked_of Names i call) id frame → IsResponse call id frame
  response_of i id call frame r = let high = r.2 in (r.0, r.1, omega (arith, high))

  answered_by : (i id : ℕ) (call : CallLine) (P : Frame → Type 0) → TIsAnsweredBy (asked_of Names i call) id P → IsAnsweredBy Run_ call id P
  answered_by i id call P w = answered_leads TLinks.Gave (links_of Run_).Gave (TIsResponse (asked_of Names i call) id) (IsResponse call id) gave_frame (response_of i id call) P w

  -- ## Calls that failed

  may_be_on : (i n k : ℕ) (q : Operation) (call : CallLine) → IsOp i q → q.item ≡ Call call → n ≤ call.retry → lives.TMayBeOn g i n (name_of (asked_of Names i call) n) k → MayBeOn Run_ (attempt i n) k
  may_be_on i n k q call there item low w =
      let a = known.call_attempt g.run i q call there item n in
      let m = w.2 in
      let link = lives.link_of g (name_of (asked_of Names i call) n) k w.0 w.1 a.name (a.number, a.mentions) m in (
        (m.task.number, w.0, w.1, lives.reported g m.task.number (Rattle.sock_words.specs.declared.outcome.Outcome.TheVariants.Opened w.0 w.1 k) m.became),
        attempt_named g.run.script i n q call a.name there item low a.named ∙ sym link,
        λ l p at. w.3 l (p, at_stand i n l p at),
      )

  reading_ended : (k : ℕ) → k < LinkCount → Contains g.run.fixed.early k ⊎ (Contains g.run.fixed.closed k ⊎ Contains g.run.fixed.silent k) → OfLink Run_ (ReadingEnded Run_) k
  reading_ended k low w = lives.of_link g (ReadingEnded Run_) k low (λ e. elim w [
    | inl early ↦ Early (lives.ended_early g k e early)
    | inr (inl closed) ↦ AtClosed (e.is.closed closed)
    | inr (inr silent) ↦ let P : ℕ → Type 0 = λ x. Contains g.run.fixed.silent x in AtSilence (subst P (sym e.is.numbered) silent)
  ])

  -- the call that an `expire` or a `join` names is operation t
  pub its_target : (client number t : ℕ) → targets.IsTarget g.run.script client number t → IsTarget Run_ client number t
  its_target client number t w = (w.call, w.there, w.own, w.number)

  abbrev TIsExpiredWith : ℕ → Outcome → Type 0
  TIsExpiredWith i o = (client : ℕ) × (t : Task) × IsTask (all_tasks g.run.script) Outcomes client t × (t.op ≡ ops.Expire i) × (slice_get Outcomes t.number ≡ Some (Some o))

  expired_with : (i : ℕ) (q : Operation) (o : Outcome) → IsOp i q → TIsExpiredWith i o → IsExpiredWith Run_ i o
  expired_with i q o there w =
      let t = task_is g.run.script Outcomes w.0 w.1 w.2 in
      let m = expire_asks (numbered g.run.script) Names (numbers_at g.run.script w.1.number t.operation) t.operation.item i (t.asks ∙ ap Some w.3) in
      let P : Item → Type 0 = λ x. Has g.run.script x in
      let target = targets.expired g.run.script g.run.targets m.0 m.1 (subst P m.2 (are_from 0 1 g.run.script w.1.number t.operation t.there).there) in
      let is : IsOp i target.call = ap (slice_get (operations g.run.script)) m.3 ∙ target.there in
      let item : t.operation.item ≡ Expire target.call.client target.call.number = m.2 ∙ ap (λ c. Expire c m.1) (sym target.own) ∙ ap (Expire target.call.client) (sym target.number) in
      (target.call, t.operation, w.1.number, is, t.there, item, lives.reported g w.1.number o w.4)

  abbrev TIsFailedWith : ℕ → ℕ → Type 0
  TIsFailedWith name code = (client : ℕ) × (t : Task) × IsTask (all_tasks g.run.script) Outcomes client t × (t.op ≡ ops.Fail name code) × (slice_get Outcomes t.number ≡ Some (Some Failed))

  failed_with : (i n code : ℕ) (q : Operation) (call : CallLine) → IsOp i q → q.item ≡ Call call → n ≤ call.retry → TIsFailedWith (name_of (asked_of Names i call) n) code → IsFailedWith Run_ (attempt i n) code
  failed_with i n code q call there item low w =
      let a = known.call_attempt g.run i q call there item n in
      let t = task_is g.run.script Outcomes w.0 w.1 w.2 in
      let m = fail_asks (numbered g.run.script) Names (numbers_at g.run.script w.1.number t.operation) t.operation.item (name_of (asked_of Names i call) n) code (t.asks ∙ ap Some w.3) in
      let mentions = mentions_fail g.run.script w.1.number t.operation t.there m.0 code m.1 in
      let same : m.0 ≡ a.name = same_name Names m.0 a.name mentions a.mentions (sym m.2 ∙ a.number) in
      let named = attempt_named g.run.script i n q call a.name there item low a.named in
      (w.1.number, m.0, t.operation, t.there, m.1, named ∙ ap Some (sym same), lives.reported g w.1.number Failed w.4)

  -- ## An attempt of a call

  module _ (i n : ℕ) (q : Operation) (call : CallLine) (there : IsOp i q) (item : q.item ≡ Call call) (low : n ≤ call.retry) where
    -- the number of its name
    abbrev its_name : ℕ
    its_name = name_of (asked_of Names i call) n

    on_low : (k : ℕ) → lives.TMayBeOn g i n its_name k → k < LinkCount
    on_low k on = life_low its_name k on.0 on.1 on.2

    attempt_leads : AttemptLeads TLinks (links_of Run_) (TAttempt i n its_name) (attempt_of Run_ (attempt i n))
    attempt_leads = record {
      placed = placed_back i n;
      dropped = dropped i n;
      unordered = unordered i n;
      stands = λ k s. (s.0, stands_at i n k s.0 s.1);
      on = λ k on. may_be_on i n k q call there item low on;
      failing = λ k on failing. lives.is_failing g k (on_low k on) failing;
      ended = λ k on ended. reading_ended k (on_low k on) ended;
      fault = λ k on fault. lives.of_link g (λ e. HasFault (g.run.gave e.link)) k (on_low k on) (λ e. let P : ℕ → Type 0 = λ x. HasFault (g.run.gave x) in subst P (sym e.is.numbered) fault);
      gave = gave_frame;
      gave_back = frame_gave;
      early = λ k m early. early;
      full = λ out many. let counts : n < attempts_of q.item = omega (arith, low, ap attempts_of item) in full i n q there counts out many;
    }

    seeking_leads : SeekingLeads TLinks (links_of Run_) (TSeeking q.client i n its_name) (seeking_of Run_ (attempt i n))
    seeking_leads =
        let a = known.call_attempt g.run i q call there item n in
        let named = attempt_named g.run.script i n q call a.name there item low a.named in
        record {
          retry = λ first. first;
          named = λ k w. named ∙ sym (lives.link_of g its_name k w.0 w.1 a.name (a.number, a.mentions) w.2);
          failing = λ k w failing. lives.is_failing g k (life_low its_name k w.0 w.1 w.2) failing;
          ended = λ late. late;
          client = λ c few. omega (arith, few, tasks_length g.run.script 0 (clients g.run.script + 1));
          behind = λ c m behind op at own. behind (sym own ∙ ap (λ (x : Operation). x.client) (lives.operation_is g i op q at there));
          none_ = λ c m found. (a.name, named, lives.find_none g c m its_name a.name (a.number, a.mentions) found);
        }

    ending_leads : (id : ℕ) → EndingLeads (TEnding i (asked_of Names i call) id n) (ending_of Run_ i call id (attempt i n))
    ending_leads id = record {
      none_left = λ no_more. omega (arith, no_more);
      response = λ frame r. response_of i id call frame r;
      response_back = λ frame r. let high = r.2 in (r.0, r.1, omega (arith, high));
      expired = λ o w. expired_with i q o there w;
      failed = λ code w. failed_with i n code q call there item low w;
    }

    again : told.WhyAgain (plan_of g.run.script) (all_tasks g.run.script) Outcomes g.run.fixed g.run.gave g.run.orders q.client i n its_name → WhyAgain Run_ (attempt i n)
    again w = again_leads TLinks (links_of Run_) (TAttempt i n its_name) (attempt_of Run_ (attempt i n)) (TSeeking q.client i n its_name) (seeking_of Run_ (attempt i n)) attempt_leads seeking_leads w

    failed_by : (id code : ℕ) → told.FailedBy (plan_of g.run.script) (all_tasks g.run.script) Outcomes g.run.fixed g.run.gave g.run.orders q.client i (asked_of Names i call) id code n → FailedBy Run_ i call id code (attempt i n)
    failed_by id code w = failed_leads TLinks (links_of Run_) (TAttempt i n its_name) (attempt_of Run_ (attempt i n)) (TSeeking q.client i n its_name) (seeking_of Run_ (attempt i n))
        (TEnding i (asked_of Names i call) id n) (ending_of Run_ i call id (attempt i n)) attempt_leads seeking_leads (ending_leads id) code w

  pub tried : (i : ℕ) (q : Operation) (call : CallLine) → IsOp i q → q.item ≡ Call call → IsTried Run_ i call
  tried i q call there item =
      let last_low = known.last_low g.run i q call there item in
      let asked = asked_of Names i call in
      let h = g.run.tells.again q.client (record { number = i; op = ops.Call asked }) asked (known.call_task g.run i q call there item) refl in
      (last_low, λ n less. again i n q call there item (omega (arith, less, last_low)) (h.1 n less))

  calling_leads : (i : ℕ) (q : Operation) (call : CallLine) → IsOp i q → q.item ≡ Call call → CallingLeads (TCalling q.client i (asked_of Names i call)) (calling_of Run_ i q call)
  calling_leads i q call there item = record {
    none_ = λ w name e.
        let number : name_of (asked_of Names i call) 0 ≡ name_number Names name = first_number Names i call name (sym e) in
        let mentions : Has Names name = known.mentions_call g.run i q call there item name (0, sym e) in
        lives.find_none g q.client i (name_of (asked_of Names i call) 0) name (number, mentions) w;
    answered = λ id P w. answered_by i id call P w;
    failed = λ id code w. failed_by i (lives.last g i) q call there item (known.last_low g.run i q call there item) id code w;
  }

  -- ## What is said of another call

  abbrev THasBegun : ℕ → ℕ → ℕ → Type 0
  THasBegun c o t = told.HasBegun (plan_of g.run.script) (all_tasks g.run.script) Outcomes g.run.fixed g.run.gave g.run.orders c o t

  abbrev TMayNotHaveBegun : ℕ → ℕ → ℕ → Type 0
  TMayNotHaveBegun c o t = told.MayNotHaveBegun (plan_of g.run.script) (all_tasks g.run.script) Outcomes g.run.fixed g.run.gave g.run.orders c o t

  has_begun : (i client number t : ℕ) (q : Operation) → targets.IsTarget g.run.script client number t → THasBegun q.client i t → HasBegun Run_ i q client number
  has_begun i client number t q target w =
      let of_task = task_is g.run.script Outcomes w.0 w.1 w.2 in
      let whose : of_task.operation ≡ target.call = some_is of_task.operation target.call (sym of_task.there ∙ ap (slice_get (operations g.run.script)) w.3 ∙ target.there) in
      let same : w.0 ≡ client = sym of_task.own ∙ ap (λ (x : Operation). x.client) whose ∙ target.own in
      (t, its_target client number t target, λ has. w.4 (lives.became g t Unopened refl has), λ own. w.5 (same ∙ own))

  not_begun : (i client number : ℕ) (q : Operation) → TMayNotHaveBegun q.client i (number_of (numbered g.run.script) client number) → MayNotHaveBegun Run_ i q client number
  not_begun i client number q w t target own less =
      let place = targets.target_is g.run.script client number t target.0 target.1 target.2 target.3 in
      let a = lives.asked g t target.0 target.1 in
      let P : ℕ → Type 0 = λ c. lives.TaskAt g c t a.0 in
      let task = subst P (target.2 ∙ own) (lives.task_at g t target.0 target.1 a.0 a.1) in
      let Q : ℕ → Type 0 = λ x. slice_get Outcomes x ≡ Some (Some Unopened) in
      lives.reported g t Unopened (subst Q place (w (record { number = t; op = a.0 }) task (sym place) (omega (arith, less, place))))

  target_leads : (i client number : ℕ) (q : Operation) → targets.IsTarget g.run.script client number (number_of (numbered g.run.script) client number) →
      TargetLeads (TTarget q.client i (number_of (numbered g.run.script) client number)) (target_of Run_ i q client number)
  target_leads i client number q target =
      let t = number_of (numbered g.run.script) client number in
      record {
        outcome = λ o w. (t, its_target client number t target, lives.reported g t o w);
        begun = λ w. has_begun i client number t q target w;
        not_begun = λ w. not_begun i client number q w;
      }

  -- ## Any operation

  cause_of : (i : ℕ) (q : Operation) (item : Item) (op : Op) (o : Outcome) → IsOp i q → q.item ≡ item → op_of (numbered g.run.script) Names (numbers_at g.run.script i q) item ≡ Some op → slice_get Outcomes i ≡ Some (Some o) → lives.WhyAt g q.client i op o → Cause Run_ i q item o
  cause_of i q (Open name shape) op o there e asks b w =
      let P : Op → Type 0 = λ x. lives.WhyAt g q.client i x o in
      lives.open_cause g i (name_number Names name) (lives.link g i) q o there (ap is_open e) refl b (subst P (sym (some_is (ops.Open (name_number Names name) (lives.link g i)) op asks)) w)
  cause_of i q (Send name bytes) op o there e asks b w =
      let P : Op → Type 0 = λ x. lives.WhyAt g q.client i x o in
      let n = name_number Names name in
      send_leads (TSending q.client i n) (sending_of Run_ i q name) (sending i n q name bytes o there e (refl, mentions_send g.run.script i q there name bytes e) b) o (subst P (sym (some_is (ops.Send (name_number Names name) bytes) op asks)) w)
  cause_of i q (Call call) op o there e asks b w =
      let P : Op → Type 0 = λ x. lives.WhyAt g q.client i x o in
      call_leads (TCalling q.client i (asked_of Names i call)) (calling_of Run_ i q call) (calling_leads i q call there e) o (subst P (sym (some_is (ops.Call (asked_of Names i call)) op asks)) w)
  cause_of i q (Expire client number) op o there e asks b w =
      let P : Op → Type 0 = λ x. lives.WhyAt g q.client i x o in
      let target = targets.expired g.run.script g.run.targets client number (known.in_script g.run i q there (Expire client number) e) in
      expire_leads (TTarget q.client i (number_of (numbered g.run.script) client number)) (target_of Run_ i q client number) (target_leads i client number q target) o
      (subst P (sym (some_is (ops.Expire (number_of (numbered g.run.script) client number)) op asks)) w)
  cause_of i q (Join client number) op o there e asks b w =
      let P : Op → Type 0 = λ x. lives.WhyAt g q.client i x o in
      let target = targets.joined g.run.script g.run.targets client number (known.in_script g.run i q there (Join client number) e) in
      join_leads (TTarget q.client i (number_of (numbered g.run.script) client number)) (target_of Run_ i q client number) (target_leads i client number q target) o
      (subst P (sym (some_is (ops.Join (number_of (numbered g.run.script) client number)) op asks)) w)
  cause_of i q (Hold name) op o there e asks b w =
      let P : Op → Type 0 = λ x. lives.WhyAt g q.client i x o in
      lives.hold_cause g i (name_number Names name) q name o there (refl, mentions_hold g.run.script i q there name e) (subst P (sym (some_is (ops.Hold (name_number Names name)) op asks)) w)
  cause_of i q (Drop name) op o there e asks b w =
      let P : Op → Type 0 = λ x. lives.WhyAt g q.client i x o in
      lives.drop_cause g i (name_number Names name) q name o (refl, mentions_drop g.run.script i q there name e) (subst P (sym (some_is (ops.Drop (name_number Names name)) op asks)) w)
  cause_of i q (Fail name code) op o there e asks b w =
      let P : Op → Type 0 = λ x. lives.WhyAt g q.client i x o in
      lives.fail_cause g i (name_number Names name) code q name o there e (refl, mentions_fail g.run.script i q there name code e) (subst P (sym (some_is (ops.Fail (name_number Names name) code) op asks)) w)
  cause_of i q other op o there e asks b w = absurd (cc)

  -- an operation of which nothing was said is a send whose message was accepted
  abbrev pub WasAccepted : ℕ → Type 0
  WasAccepted i = (k p : ℕ) × lives.TIsAt g i 0 k p

  abbrev TStandsOn : ℕ → ℕ → ℕ → Type 0
  TStandsOn o n k = (p : ℕ) × lives.TIsAt g o n k p

  pub was_accepted : (i : ℕ) (q : Operation) → IsOp i q → slice_get Outcomes i ≡ Some None → WasAccepted i
  was_accepted i q there none_ =
      let a = lives.asked g i q there in
      by_told (g.run.tells.told q.client (record { number = i; op = a.0 }) (lives.task_at g i q there a.0 a.1))
    where
      by_told : ((o : Outcome) × (slice_get Outcomes i ≡ Some (Some o))) ⊎ ((k : ℕ) × TStandsOn i 0 k) → WasAccepted i
      by_told (inl w) = absurd (let same : None ≡ Some w.0 = some_is None (Some w.0) (sym none_ ∙ w.1) in cc)
      by_told (inr w) = (w.0, w.1.0, w.1.1)

  -- which a send of the script made
  pub was_sent : (i : ℕ) (q : Operation) → IsOp i q → slice_get Outcomes i ≡ Some None → WasAccepted i → (name bytes : List ℕ) × (q.item ≡ Send name bytes)
  was_sent i q there none_ w =
      let s = known.sent_at g.run w.0 w.1 w.2.1 w.2.0 w.2.2 in
      let whose : s.operation ≡ q = some_is s.operation q (sym s.there ∙ ap (slice_get (operations g.run.script)) w.2.3 ∙ there) in
      elim (s.kind) [
        | inl x ↦ (x.0, w.2.1.bytes, ap (λ (y : Operation). y.item) (sym whose) ∙ x.1)
        | inr x ↦ absurd (let same : None ≡ Some x.outcome = some_is None (Some x.outcome) (sym none_ ∙ ap (slice_get Outcomes) (sym w.2.3) ∙ x.became) in cc)
      ]

  pub accepted_outcome : (i : ℕ) (w : WasAccepted i) → outcome_by_word (word_at (lives.Words g) (8 * i)) ≡ (if nat_le (g.run.orders w.0).placed w.1 then Dropped w.0 w.1 else Placed w.0 w.1)
  accepted_outcome i w =
      let same : 8 * i ≡ label w.2.1 = omega (arith, w.2.3, w.2.4) in
      ap (λ n. outcome_by_word (word_at (lives.Words g) n)) same ∙ lines.outcome_at g w.0 w.1 w.2.1 w.2.0 w.2.2

  accepted_cause : (i : ℕ) (q : Operation) (o : Outcome) → IsOp i q → slice_get Outcomes i ≡ Some None → o ≡ outcome_by_word (word_at (lives.Words g) (8 * i)) → WasAccepted i → Cause Run_ i q q.item o
  accepted_cause i q o there none_ is w =
      let s = was_sent i q there none_ w in
      let outcome = sym (accepted_outcome i w) ∙ sym is in
      let Q : Outcome → Type 0 = λ x. SendCause Run_ i q s.0 x in
      let R : Item → Type 0 = λ x. Cause Run_ i q x o in
      subst R (sym s.2) (subst Q outcome (placed_cause i w.0 w.1 q s.0 w.2 (nat_le (g.run.orders w.0).placed w.1) refl))

  pub cause_at : (i : ℕ) (q : Operation) (o : Outcome) → IsOperation Run_ i q → HasOutcome Run_ i o → Cause Run_ i q q.item o
  cause_at i q o there has = by_case (lives.said_or_placed_at g i o has)
    where
      by_case : SaidOrPlaced (lives.Words g) Outcomes i o → Cause Run_ i q q.item o
      by_case (inl b) = let a = lives.asked g i q there in cause_of i q q.item a.0 o there refl a.1 b (lives.why_at g i q there a.0 a.1 o b)
      by_case (inr w) = accepted_cause i q o there w.0 w.1 (was_accepted i q there w.0)
