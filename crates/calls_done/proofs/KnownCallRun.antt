-- What is known of a run on threads with calls, whose links were read beside its clients.
use Rattle.std.specs.Prelude.{ℕ, ◌≡◌, true, ◌⊎◌, ◌<◌, length}
use Rattle.sock_words.specs.declared.outcome.Outcome.{Outcome}
use Rattle.sock_words.specs.declared.outcome.Outcome.TheVariants.{Unopened, CallFailed}
use Rattle.brpc_model.specs.Operations.{operations}
use Rattle.sock_message.specs.Asked.{Asked, name_of}
use Rattle.seat_programs.specs.declared.task.Op.TheVariants as ops
use Rattle.seat_programs.specs.declared.task.Task.{Task}
use Rattle.seat_programs.specs.ScriptSetupToEnding.{all_tasks}
use Rattle.seat_programs.specs.Tasks.{plan_of}
use Rattle.seat_programs.specs.Explained.{IsTask, Became}
use Rattle.seat_programs.specs.ExplainedCalls.{StandsOn, FailedBy, WhyAgain}
use Rattle.served_told.specs.failed_told.specs.failed_reasons.specs.CallsEndedByReading.{EndedByReading}
use Rattle.calls_done.specs.FirstAttempts.{FirstAttempt}
use Rattle.callless_fits.proofs.EverySendPlaced.{ToldRun}
use Rattle.callless_fits.specs.sock_deeds.specs.SocketsTold.{fixed_by}
use Rattle.served_told.specs.failed_told.specs.call_whys.specs.call_told.specs.TellersOfCallEnds.{HaveAnswers, is_end_of_call}

-- a call found no socket under its first name, or it ended
abbrev pub IsOfCall : Outcome → Type 0
IsOfCall outcome = (outcome ≡ Unopened) ⊎ (is_end_of_call outcome ≡ true)

pub record Known : Type 0 where
  -- what is told of its sockets, of the attempts of its calls, and by its report
  pub run : ToldRun
  -- each answer among the outcomes is a response that a link gave
  pub answers : HaveAnswers (length run.ends) run.gave (operations run.script) run.outcomes
  -- each call that failed has its code, also where whoever read the links ended it, and each attempt of a call but the last was followed by another
  pub failed : (client id code : ℕ) (t : Task) (asked : Asked) → IsTask (all_tasks run.script) run.outcomes client t → t.op ≡ ops.Call asked → Became (all_tasks run.script) run.outcomes t.number (CallFailed id code) →
      FailedBy (plan_of run.script) (all_tasks run.script) run.outcomes (fixed_by run.broken run.early run.fails) run.gave run.orders client t.number asked id code (run.last t.number)
      ⊎ EndedByReading (plan_of run.script) (all_tasks run.script) run.outcomes (fixed_by run.broken run.early run.fails) run.gave run.orders run.ends client t.number asked id code (run.last t.number)
  pub again : (client : ℕ) (t : Task) (asked : Asked) → IsTask (all_tasks run.script) run.outcomes client t → t.op ≡ ops.Call asked → (n : ℕ) → n < run.last t.number →
      WhyAgain (plan_of run.script) (all_tasks run.script) run.outcomes (fixed_by run.broken run.early run.fails) run.gave run.orders client t.number n (name_of asked n)
  -- what became of the first attempt of each call
  pub begun : (client o : ℕ) (asked : Asked) → IsTask (all_tasks run.script) run.outcomes client (record { number = o; op = ops.Call asked }) → FirstAttempt (plan_of run.script) (all_tasks run.script) run.outcomes (fixed_by run.broken run.early run.fails) run.gave run.orders o (name_of asked 0)
  -- each task has an outcome, or its message was accepted; and that of a call is one that a call can have
  pub each : (client : ℕ) (t : Task) → IsTask (all_tasks run.script) run.outcomes client t →
      ((outcome : Outcome) × Became (all_tasks run.script) run.outcomes t.number outcome) ⊎ ((k : ℕ) × StandsOn (plan_of run.script) (all_tasks run.script) run.outcomes (fixed_by run.broken run.early run.fails) run.gave run.orders t.number 0 k)
  pub kinds : (client : ℕ) (t : Task) (asked : Asked) (outcome : Outcome) → IsTask (all_tasks run.script) run.outcomes client t → t.op ≡ ops.Call asked → Became (all_tasks run.script) run.outcomes t.number outcome → IsOfCall outcome
