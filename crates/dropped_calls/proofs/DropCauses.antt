-- An error that was posted for a dropped message tells why an attempt of its call was followed by another, and why the call failed.
use Rattle.std.proofs.Common.{◌≡◌, ℕ, ◌+◌, ◌<◌, ◌≤◌, ◌⊎◌, inl, inr, ⊎_elim, List, [], length, sym, ap, ◌∙◌, subst, arith}
use Rattle.std.specs.List.{AllByRecursion}
use Rattle.seat_programs.specs.brpc_model.specs.Items.{Item}
use Rattle.seat_programs.specs.brpc_model.specs.Operations.{Turn}
use Rattle.ended_calls.specs.refused_attempts.specs.Below.script_facts.proofs.ReadScriptFacts.{InRange}
use Rattle.ended_calls.specs.refused_attempts.specs.Below.script_facts.proofs.Targets.{AreThere}
use Rattle.corr_core.specs.IdSlotWord.{code_of, attempt_of}
use Rattle.sock_message.specs.Asked.{name_of}
use Rattle.seat_programs.specs.declared.task.Op.TheVariants as ops
use Rattle.seat_programs.specs.declared.task.Task.{Task}
use Rattle.seat_programs.specs.Cores.{Core}
use Rattle.seat_programs.specs.Tasks.{id_plan_of}
use Rattle.seat_programs.specs.ScriptSetupToEnding.{all_tasks, IsRunWithCalls}
use Rattle.seat_programs.specs.Explained.{IsTask, Made}
use Rattle.seat_programs.specs.ExplainedCalls.{Accepted, Order, Fixed, StandsAt, IsSent, OfSend, OfCall, StandsOn, IsDropped, IsFailing, MayBeOn, IsFailedWith, WhyLost, WasFailing, FailedBy, BySocket, ByFail}
use Rattle.ended_calls.specs.refused_attempts.specs.Below.outcome_stories.specs.StoryStepCauses.{Asks}
use Rattle.ended_calls.specs.refused_attempts.specs.Below.outcome_stories.proofs.Members.{all_in, contains_in, get_all, get_within}
use Rattle.ended_calls.specs.refused_attempts.specs.Below.outcome_ticks.proofs.TableTasksDistinct.{one_link, one_task}
use Rattle.ended_calls.specs.refused_attempts.specs.Below.joint_runs.proofs.RunsOfBothTables.{AreMade}
use Rattle.ended_calls.specs.refused_attempts.specs.Below.call_owing.specs.LivesOfLinks.{ClosesInRun}
use Rattle.ended_calls.specs.refused_attempts.specs.Below.call_stories.specs.PostsOfRun.{Post}
use Rattle.ended_calls.specs.refused_attempts.specs.Below.story_steps.proofs.ClientCauses.{FitsOp}
use Rattle.ended_calls.specs.refused_attempts.specs.Below.story_ticks.proofs.ScriptTasksFitStory.{begins}
use Rattle.ended_calls.specs.refused_attempts.specs.accept_counts.proofs.Grounds.{setting}
use Rattle.ended_calls.specs.refused_attempts.specs.accept_counts.specs.PostCauses.{PostCause, OfDrop, OfFail}
use Rattle.ended_calls.specs.refused_attempts.specs.sent_once.proofs.OtherTasksBesideCalls.{orders_here}
use Rattle.ended_calls.specs.refused_attempts.specs.accept_counts.proofs.RunsKeepAttemptLaw.{AreLabelledIn}
use Rattle.ended_calls.specs.refused_attempts.specs.sent_once.proofs.SocketOperationsTold.{orders_are}
use Rattle.dropped_calls.proofs.DropOfRun.{IsDroppedOn, IsFailedOn, DropOf}

module _ (script : List Item) (made : AreMade script) (turns : List Turn) (core : Core) (is : IsRunWithCalls script turns core) (closes : ClosesInRun script turns core is) (ids : ℕ → ℕ) (labelled : AreLabelledIn ids script turns core is) (fixed : Fixed) (gave : ℕ → List ℕ) where
  open setting script use {p}

  abbrev clients : List (List Task)
  clients = all_tasks script

  -- what the links accepted
  abbrev orders : ℕ → Order
  orders = orders_here script made turns core is closes

  -- it stands dropped
  pub is_dropped : (o n k : ℕ) → IsDroppedOn script made turns core is closes ids labelled o n k → IsDropped p clients core.outcomes fixed gave orders o n
  is_dropped o n k d = (k, d.place, d.at, d.late)

  -- the code of a `fail` is from 1500 to 1999
  pub fail_range : AreThere script → AllByRecursion InRange script → (client : ℕ) (t : Task) (name code : ℕ) → IsTask clients core.outcomes client t → t.op ≡ ops.Fail name code → (1500 ≤ code) × (code ≤ 1999)
  fail_range there range client t name code it op = let b = begins script made there range (λ k. []) in
      let fits = (all_in _ it.0 t (b.fits client it.0 it.1) (contains_in it.0 t it.2)).0 in subst (FitsOp p (id_plan_of script) clients (λ k. []) t.number) op fits

  -- where the messages of calls are known, as those that were sent to sockets of their attempts' names
  module _ (last : ℕ → ℕ) (sent : (k : ℕ) → k < p.links → AllByRecursion (IsSent p clients core.outcomes fixed gave orders last k) (orders k).accepted) where
    asks_of : (c : ℕ) (t : Task) → IsTask clients core.outcomes c t → Asks clients c t
    asks_of c t it = (it.0, it.1, contains_in it.0 t it.2)

    module _ (x : Post) (d : DropOf script made turns core is closes ids labelled x) where
      abbrev n : ℕ
      n = attempt_of x.error

      -- the link's socket had the attempt's name
      pub named : (slot version : ℕ) × Made clients core.outcomes (name_of d.asked (attempt_of x.error)) d.link slot version
      named = let at = d.dropped.at in by at.1 at.3 at.4 (get_all (Sent d.link) (orders d.link).accepted d.dropped.place at.1 (sent d.link at.0) at.2)
        where
          Sent : ℕ → Accepted → Type 0
          Sent k a = IsSent p clients core.outcomes fixed gave orders last k a

          same : (c : ℕ) (t : Task) → IsTask clients core.outcomes c t → t.number ≡ d.task.number → t ≡ d.task
          same c t it number = (one_task p clients made.are c d.client t d.task (asks_of c t it) (asks_of d.client d.task d.is_task) number).1

          by : (a : Accepted) → a.operation ≡ d.task.number → a.attempt ≡ attempt_of x.error → IsSent p clients core.outcomes fixed gave orders last d.link a
              → (slot version : ℕ) × Made clients core.outcomes (name_of d.asked (attempt_of x.error)) d.link slot version
          by a op attempt (OfSend client t name slot version it number send first life told) = absurd (let z : ops.Send name a.bytes ≡ ops.Call d.asked = sym send ∙ (ap (λ (y : Task). y.op) (same client t it (number ∙ op)) ∙ d.op) in cc)
          by a op attempt (OfCall client t asked outcome id slot version it number call became shows few bytes life) = let z : ops.Call asked ≡ ops.Call d.asked = sym call ∙ (ap (λ (y : Task). y.op) (same client t it (number ∙ op)) ∙ d.op) in let one : asked ≡ d.asked = cc in
              (slot, version, subst (λ y. Made clients core.outcomes (name_of d.asked y) d.link slot version) attempt (subst (λ y. Made clients core.outcomes (name_of y a.attempt) d.link slot version) one life))

      -- the code is that of a `fail` of this name
      pub failed_with : (code : ℕ) → IsFailedOn script made turns core is closes ids labelled d.link code → IsFailedWith p clients core.outcomes fixed gave orders (name_of d.asked (attempt_of x.error)) code
      failed_with code f = let l = f.2 in let a = l.life in let b = named.2 in
          let task : a.task ≡ b.task = one_link p clients made.are a.client b.client l.name (name_of d.asked (attempt_of x.error)) d.link a.task b.task (asks_of a.client a.task a.is) (asks_of b.client b.task b.is) (a.op ∙ ap (ops.Open l.name) f.3) b.op in
          let opens : ops.Open l.name d.link ≡ ops.Open (name_of d.asked (attempt_of x.error)) d.link = sym (a.op ∙ ap (ops.Open l.name) f.3) ∙ (ap (λ (y : Task). y.op) task ∙ b.op) in let name : l.name ≡ name_of d.asked (attempt_of x.error) = cc in
          (l.client, l.task, l.is_task, l.op ∙ ap (λ y. ops.Fail y code) name, l.became)

      -- no other link accepted the attempt
      pub may_be_on : MayBeOn p clients core.outcomes fixed gave orders d.task.number (attempt_of x.error) (name_of d.asked (attempt_of x.error)) d.link
      may_be_on = (named.0, named.1, named.2, λ l stands. other l stands.0 stands.1.0 stands.1.1 stands.1.2 stands.1.3 stands.1.4)
        where
          other : (l i : ℕ) → l < p.links → (a : Accepted) → StandsAt orders l i a → a.operation ≡ d.task.number → a.attempt ≡ attempt_of x.error → l ≡ d.link
          other l i low a at op attempt = let are = orders_are script made turns core is closes in let mine = d.dropped.at in
              (are.apart l d.link i d.dropped.place a mine.1 low mine.0 at mine.2 (let b = mine.3 in let e = mine.4 in omega (arith, op, attempt, b, e))).0

      pub stands_on : StandsOn p clients core.outcomes fixed gave orders d.task.number (attempt_of x.error) d.link
      stands_on = (d.dropped.place, d.dropped.at)

      -- why the error was posted, where its code is none of the ending or of a reader
      pub caused_by_drop : AreThere script → AllByRecursion InRange script → (c id : ℕ) → PostCause p clients core.outcomes fixed gave orders c d.task.number d.asked id (code_of x.error) (attempt_of x.error)
          ⊎ ((code_of x.error ≡ 1014) ⊎ (code_of x.error ≡ 2002))
      caused_by_drop there range c id = let gone = is_dropped d.task.number (attempt_of x.error) d.link d.dropped in ⊎_elim
          (λ other. ⊎_elim (λ is. inl (OfDrop is gone)) (λ final. inr final) other)
          (λ f. let l = f.2 in let fits = fail_range there range l.client l.task l.name (code_of x.error) l.is_task l.op in inl (OfFail fits.0 fits.1 gone (failed_with (code_of x.error) f)))
          d.code

      -- and messages are dropped only on links that were failing
      module _ (failing : (k : ℕ) → k < p.links → (orders k).placed < length (orders k).accepted
          → IsFailing p clients core.outcomes fixed gave orders k) where
        pub lost_by_drop : (c : ℕ) → WhyLost p clients core.outcomes fixed gave orders c d.task.number (attempt_of x.error) (name_of d.asked (attempt_of x.error))
        lost_by_drop c = let at = d.dropped.at in let late = d.dropped.late in let inside = get_within (orders d.link).accepted d.dropped.place at.1 at.2 in
            WasFailing d.link (named.0, named.1, named.2) (failing d.link at.0 (omega (arith, late, inside)))

        -- why the call failed, where this was its last attempt; a code of the ending or of a reader ends it whatever retries are left
        pub failed_by_drop : AreThere script → AllByRecursion InRange script → (c id : ℕ) → attempt_of x.error + 2 ≡ d.asked.range
            → FailedBy p clients core.outcomes fixed gave orders c d.task.number d.asked id (code_of x.error) (attempt_of x.error)
            ⊎ ((code_of x.error ≡ 1014) ⊎ (code_of x.error ≡ 2002))
        failed_by_drop there range c id all = let gone = is_dropped d.task.number (attempt_of x.error) d.link d.dropped in ⊎_elim
            (λ other. ⊎_elim (λ is. inl (BySocket is all (inr gone) (lost_by_drop c))) (λ final. inr final) other)
            (λ f. let l = f.2 in let fits = fail_range there range l.client l.task l.name (code_of x.error) l.is_task l.op in inl (ByFail fits.0 fits.1 all gone (failed_with (code_of x.error) f)))
            d.code
