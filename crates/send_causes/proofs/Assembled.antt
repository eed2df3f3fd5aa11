-- All that is told of a whole run with calls, from its parts.
use Rattle.std.proofs.Common.{◌≡◌, ◌≢◌, ℕ, ◌<◌, ◌≤◌, ◌⊎◌, inl, inr, ⊎_elim, true, List, length, Some, Ok, refl, sym, ap, ◌∙◌, subst, arith}
use Rattle.std.specs.Prelude.{Contains}
use Rattle.std.specs.List.{AllByRecursion}
use Rattle.std.proofs.lemmas.Option.{slice_get_within}
use mathlib.Core.Logic.{dite}
use native.Mathlib.Decide.{ℕ_discrete}
use Rattle.sock_words.specs.declared.outcome.Outcome.{Outcome}
use Rattle.sock_words.specs.declared.outcome.Outcome.TheVariants.{Unopened, Answered, Peer, CallFailed}
use Rattle.seat_programs.specs.brpc_model.specs.Items.{Item}
use Rattle.seat_programs.specs.brpc_model.specs.Operations.{Turn}
use Rattle.seat_programs.specs.brpc_model.specs.MessageOfLabel.{shown_id}
use Rattle.seat_programs.specs.brpc_model.specs.Order.{EachBefore}
use Rattle.seat_programs.specs.brpc_model.specs.Script.{script_of}
use Rattle.corr_core.specs.IdSlotWord.{error_of}
use Rattle.sock_message.specs.Asked.{Asked, name_of}
use Rattle.seat_programs.specs.Cores.{Core}
use Rattle.seat_programs.specs.declared.task.Op.{Op}
use Rattle.seat_programs.specs.declared.task.Op.TheVariants as ops
use Rattle.seat_programs.specs.declared.task.Task.{Task}
use Rattle.seat_programs.specs.Tasks.{plan_of}
use Rattle.seat_programs.specs.ScriptSetupToEnding.{all_tasks, IsRunWithCalls}
use Rattle.seat_programs.specs.Explained.{IsTask, Became, Made}
use Rattle.seat_programs.specs.ExplainedCalls.{Fixed, Order, IsSent, OfSend, OfCall, InOwnOrder, IsDropped, IsFailing, WhyLost, WasFailing, WhyAgain, FailedBy, ByExpiry, ByCompression, ByEnd, EndedWith, OutcomeCause, WhyCall, ExplainedCalls}
use Rattle.dropped_calls.specs.Below.outcome_stories.specs.Explains.{is_plain}
use Rattle.dropped_calls.specs.Below.outcome_stories.specs.Facts.{ToldPlain}
use Rattle.dropped_calls.specs.Below.outcome_stories.proofs.Members.{contains_in}
use Rattle.dropped_calls.specs.Below.outcome_ticks.proofs.TableTasksDistinct.{one_task}
use Rattle.dropped_calls.specs.Below.joint_runs.proofs.RunsOfBothTables.{AreMade, first_views}
use Rattle.dropped_calls.specs.Below.script_facts.proofs.ReadScriptFacts.{InRange}
use Rattle.dropped_calls.specs.Below.script_facts.proofs.Targets.{AreThere}
use Rattle.dropped_calls.specs.Below.script_facts.proofs.FilteredLists.{all_at}
use Rattle.dropped_calls.specs.Below.call_owing.specs.LivesOfLinks.{ClosesInRun}
use Rattle.dropped_calls.specs.Below.call_stories.specs.LinkReadingLists.{gave_in, attempts_of_run, early_of_run, closed_of_run, silent_of_run, soon_of_run}
use Rattle.dropped_calls.specs.Below.call_stories.specs.PostsOfRun.{posts_of_run}
use Rattle.dropped_calls.specs.Below.call_stories.specs.Target.{IsOnCalls, ToldOnCallsInPart, WhyInPart, WhyCallInPart}
use Rattle.dropped_calls.specs.Below.call_causes.proofs.WholeCallStory.{run_told_in_part, run_found_none}
use Rattle.dropped_calls.specs.Below.call_causes.proofs.Posted.{run_few_attempts, run_advanced_by, run_advanced_shown, run_failed_by}
use Rattle.dropped_calls.specs.accept_counts.specs.PostCauses.{PostCause}
use Rattle.dropped_calls.specs.attempted_calls.proofs.AttemptedRun.{attempted_of_run}
use Rattle.dropped_calls.specs.sent_once.proofs.OtherTasksBesideCalls.{ends_listed}
use Rattle.send_causes.proofs.ByPosts.{never_final, failed_by_post, again_by_post}
use Rattle.send_causes.proofs.CausedRanges.{few_last}
use Rattle.dropped_calls.specs.accept_counts.proofs.EarlyClosedSockets.{start, go, fitting}
use Rattle.dropped_calls.specs.sent_once.proofs.FirstRuns.{run_own_order}
use Rattle.dropped_calls.proofs.LateDropped.{dropped_of_run}
use Rattle.dropped_calls.specs.sent_once.proofs.SocketOperationsTold.{fixed, orders_of_run, orders_are, told_plain, opening_bare}

-- an operation is on calls, or a plain one
kind_of : (op : Op) → IsOnCalls op ⊎ (is_plain op ≡ true)
kind_of (ops.Call asked) = inl tt
kind_of (ops.Expire t) = inl tt
kind_of (ops.Join t) = inl tt
kind_of _ = inr refl

-- a number is one task's
one_of : (script : List Item) → AreMade script → (core : Core) (c d : ℕ) (t u : Task) → IsTask (all_tasks script) core.outcomes c t → IsTask (all_tasks script) core.outcomes d u → t.number ≡ u.number → t ≡ u
one_of script made core c d t u a b same = (one_task (plan_of script) (all_tasks script) made.are c d t u (a.0, a.1, contains_in a.0 t a.2) (b.0, b.1, contains_in b.0 u b.2) same).1

module _ (script : List Item) (made : AreMade script) (there : AreThere script) (range : AllByRecursion InRange script) (bytes : List ℕ) (reads : script_of bytes ≡ Ok script) (turns : List Turn) (core : Core) (is : IsRunWithCalls script turns core) (closes : ClosesInRun script turns core is) where
  abbrev pub last_in_run : ℕ → ℕ
  last_in_run o = attempts_of_run script turns core is o

  -- what the run fixes
  abbrev pub fixed_in_run : Fixed
  fixed_in_run = fixed script made turns core is closes (early_of_run script turns core is) (closed_of_run script turns core is) (silent_of_run script turns core is) (soon_of_run script turns core is) (gave_in core) last_in_run

  abbrev pub orders_in_run : ℕ → Order
  orders_in_run = orders_of_run script made turns core is closes

  plain : ToldPlain (plan_of script) (all_tasks script) core.outcomes fixed_in_run (gave_in core) orders_in_run last_in_run
  plain = told_plain script made turns core is closes (early_of_run script turns core is) (closed_of_run script turns core is) (silent_of_run script turns core is) (soon_of_run script turns core is) (gave_in core) last_in_run
      (ends_listed script made turns core is closes bytes reads) (run_found_none script made there range turns core is closes)

  on_calls : ToldOnCallsInPart (plan_of script) (all_tasks script) core.outcomes fixed_in_run (gave_in core) orders_in_run last_in_run
  on_calls = run_told_in_part script made there range turns core is closes fixed_in_run orders_in_run

  own_order : (k : ℕ) → k < (plan_of script).links → EachBefore (InOwnOrder (plan_of script) (all_tasks script) core.outcomes fixed_in_run (gave_in core) orders_in_run) (orders_in_run k).accepted
  own_order k kl = run_own_order script made.are (first_views script) (start script made turns core is) (go script made turns core is) turns core is (fitting script made turns core is)
      (opening_bare script)
      fixed_in_run (gave_in core) orders_in_run k

  dropped : (k : ℕ) → k < (plan_of script).links → (orders_in_run k).placed < length (orders_in_run k).accepted → IsFailing (plan_of script) (all_tasks script) core.outcomes fixed_in_run (gave_in core) orders_in_run k
  dropped k kl less = dropped_of_run script made turns core is closes bytes reads k kl less

  -- each message that a link accepted is that of a `send`, or of an attempt that was made of a call with an id
  sent : (k : ℕ) → k < (plan_of script).links → AllByRecursion (IsSent (plan_of script) (all_tasks script) core.outcomes fixed_in_run (gave_in core) orders_in_run last_in_run k) (orders_in_run k).accepted
  sent = attempted_of_run script made there range turns core is closes fixed_in_run (gave_in core)

  -- an attempt whose message was dropped lost its socket
  lost : (c : ℕ) (t : Task) (asked : Asked) (n : ℕ) → IsTask (all_tasks script) core.outcomes c t → t.op ≡ ops.Call asked → IsDropped (plan_of script) (all_tasks script) core.outcomes fixed_in_run (gave_in core) orders_in_run t.number n
      → WhyLost (plan_of script) (all_tasks script) core.outcomes fixed_in_run (gave_in core) orders_in_run c t.number n (name_of asked n)
  lost c t asked n it op (k, i, (kl, a, at, number, attempt), placed) = by (all_at _ (orders_in_run k).accepted a (sent k kl) (i, at))
    where
      failing : IsFailing (plan_of script) (all_tasks script) core.outcomes fixed_in_run (gave_in core) orders_in_run k
      failing = dropped k kl (let inside = slice_get_within (orders_in_run k).accepted i a at in omega (arith, inside, placed))

      same : (client : ℕ) (u : Task) → IsTask (all_tasks script) core.outcomes client u → u.number ≡ a.operation → u.op ≡ ops.Call asked
      same client u it' numbered = ap (λ (x : Task). x.op) (one_of script made core client c u t it' it (numbered ∙ number)) ∙ op

      by : IsSent (plan_of script) (all_tasks script) core.outcomes fixed_in_run (gave_in core) orders_in_run last_in_run k a → WhyLost (plan_of script) (all_tasks script) core.outcomes fixed_in_run (gave_in core) orders_in_run c t.number n (name_of asked n)
      by (OfSend client u name slot version it' numbered op' first life untold) = absurd (let e : ops.Send name a.bytes ≡ ops.Call asked = sym op' ∙ same client u it' numbered in cc)
      by (OfCall client u asked' outcome id slot version it' numbered op' became shows made_ bytes_ life) =
          let e : ops.Call asked' ≡ ops.Call asked = sym op' ∙ same client u it' numbered in let named : asked' ≡ asked = cc in
          WasFailing k (slot, version, subst (λ m. Made (all_tasks script) core.outcomes m k slot version) ((λ j. name_of (named j) a.attempt) ∙ ap (name_of asked) attempt) life) failing

  -- and each error that an id took for an attempt of its call has its cause, but for those of the end of a reading; where a call failed with that, it has its own
  module _ (caused : (client : ℕ) (t : Task) (asked : Asked) → IsTask (all_tasks script) core.outcomes client t → t.op ≡ ops.Call asked → (outcome : Outcome) → Became (all_tasks script) core.outcomes t.number outcome → (id code n : ℕ) → shown_id outcome ≡ Some id → n ≤ 6 → code ≢ 1014
      → Contains (posts_of_run script turns core is) (record { id = id; error = error_of code n }) → PostCause (plan_of script) (all_tasks script) core.outcomes fixed_in_run (gave_in core) orders_in_run client t.number asked id code n)
      (ended : (client : ℕ) (t : Task) (asked : Asked) (id : ℕ) → IsTask (all_tasks script) core.outcomes client t → t.op ≡ ops.Call asked → Became (all_tasks script) core.outcomes t.number (CallFailed id 1014)
      → (k : ℕ) × EndedWith (plan_of script) (all_tasks script) core.outcomes fixed_in_run (gave_in core) orders_in_run asked t.number (last_in_run t.number) (name_of asked (last_in_run t.number)) id k) where
    failed_by : (client : ℕ) (t : Task) (asked : Asked) (id code : ℕ) → IsTask (all_tasks script) core.outcomes client t → t.op ≡ ops.Call asked → Became (all_tasks script) core.outcomes t.number (CallFailed id code)
        → FailedBy (plan_of script) (all_tasks script) core.outcomes fixed_in_run (gave_in core) orders_in_run client t.number asked id code (last_in_run t.number)
    failed_by client t asked id code it op became = dite (ℕ_discrete code 1014)
        (λ e. let x = ended client t asked id it op (subst (λ c. Became (all_tasks script) core.outcomes t.number (CallFailed id c)) e became) in ByEnd e x.0 x.1)
        (λ other. ⊎_elim (λ a. ByExpiry a.0 a.1) (λ rest. ⊎_elim (λ b. ByCompression b.0 b.1) (λ posted.
        failed_by_post (plan_of script) (all_tasks script) core.outcomes fixed_in_run (gave_in core) orders_in_run client t.number asked id code (last_in_run t.number) (lost client t asked (last_in_run t.number) it op) posted.1
        (caused client t asked it op (CallFailed id code) became id code (last_in_run t.number) refl (few_last script made there range turns core is client t asked it op) other posted.0)) rest)
        (run_failed_by script made there range turns core is closes fixed_in_run orders_in_run client t asked id code it op became))

    again : (client : ℕ) (t : Task) (asked : Asked) (n : ℕ) → IsTask (all_tasks script) core.outcomes client t → t.op ≡ ops.Call asked → n < last_in_run t.number
        → WhyAgain (plan_of script) (all_tasks script) core.outcomes fixed_in_run (gave_in core) orders_in_run client t.number n (name_of asked n)
    again client t asked n it op less = let a = run_advanced_by script made there range turns core is closes fixed_in_run orders_in_run client t asked it op n less in
        let s = run_advanced_shown script made there range turns core is closes fixed_in_run orders_in_run client t asked it op n less in
        let few = few_last script made there range turns core is client t asked it op in
        again_by_post (plan_of script) (all_tasks script) core.outcomes fixed_in_run (gave_in core) orders_in_run client t.number asked a.0 a.1 n (lost client t asked n it op) a.4
        (caused client t asked it op s.0 s.2 a.0 a.1 n (s.3 ∙ ap (λ i. Some i) (a.2 s.0 s.2 s.1 s.3)) (omega (arith, few, less)) (λ e. never_final a.1 a.4 (inl e)) a.3)

    why_call : (client : ℕ) (t : Task) (asked : Asked) (outcome : Outcome) → IsTask (all_tasks script) core.outcomes client t → t.op ≡ ops.Call asked → Became (all_tasks script) core.outcomes t.number outcome
        → WhyCallInPart (plan_of script) (all_tasks script) core.outcomes fixed_in_run (gave_in core) orders_in_run last_in_run client t.number asked outcome → WhyCall (plan_of script) (all_tasks script) core.outcomes fixed_in_run (gave_in core) orders_in_run last_in_run client t.number asked outcome
    why_call client t asked Unopened it op became w = w
    why_call client t asked (Answered id payload attachment) it op became w = w
    why_call client t asked (Peer id code) it op became w = w
    why_call client t asked (CallFailed id code) it op became w = failed_by client t asked id code it op became
    why_call client t asked other it op became w = absurd w

    why_of : (op : Op) (client : ℕ) (t : Task) (outcome : Outcome) → t.op ≡ op → IsTask (all_tasks script) core.outcomes client t → Became (all_tasks script) core.outcomes t.number outcome
        → WhyInPart (plan_of script) (all_tasks script) core.outcomes fixed_in_run (gave_in core) orders_in_run last_in_run client t.number op outcome → OutcomeCause (plan_of script) (all_tasks script) core.outcomes fixed_in_run (gave_in core) orders_in_run last_in_run client t.number op outcome
    why_of (ops.Call asked) client t outcome op it became w = why_call client t asked outcome it op became w
    why_of (ops.Expire o) client t outcome op it became w = w
    why_of (ops.Join o) client t outcome op it became w = w
    why_of other client t outcome op it became w = absurd w

    -- why each task has its outcome, and each link took what it took
    pub told_calls : ExplainedCalls (plan_of script) (all_tasks script) core.outcomes fixed_in_run (gave_in core) orders_in_run core
    told_calls = record {
      last = last_in_run;
      are_orders = orders_are script made turns core is closes;
      told = λ client t it. ⊎_elim (λ called. inl (on_calls.told client t it called)) (λ other. plain.told client t it other) (kind_of t.op);
      are = plain.are;
      once = plain.once;
      lives = plain.lives;
      why = λ client t outcome it became. ⊎_elim (λ called. why_of t.op client t outcome refl it became (on_calls.why client t outcome it called became)) (λ other. plain.why client t outcome it other became) (kind_of t.op);
      again = λ client t asked it op. (run_few_attempts script made there range turns core is client t asked it op, λ n less. again client t asked n it op less);
      sent = sent;
      own_order = own_order;
      dropped = dropped;
      expired_once = on_calls.expired_once;
      versions = on_calls.versions;
    }

    -- its last attempts are those to which the run came
    pub told_last : (o : ℕ) → told_calls.last o ≡ last_in_run o
    unfolding told_calls
    told_last o = refl
