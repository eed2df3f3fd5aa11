-- Why each `call`, `expire` and `join` has its outcome: what a run with calls tells of them.
use Rattle.std.specs.Prelude.{ℕ, ◌≡◌, ◌≢◌, ◌+◌, ◌<◌, ◌≤◌, ◌⊎◌, true, false, List, [], ◌∷◌, Option, Contains, pos}
use Rattle.sock_words.specs.ErrorCodes.{EEOF, EFAILEDSOCKET, EREQUESTS, ERESPONSE, ERPCTIMEDOUT, is_final}
use Rattle.sock_words.specs.declared.plain.Plan.{Plan}
use Rattle.sock_words.specs.declared.outcome.Outcome.{Outcome}
use Rattle.sock_words.specs.declared.outcome.Outcome.TheVariants.{Expired, Queued}
use Rattle.sock_message.specs.Asked.{Asked, name_of}
use Rattle.seat_programs.specs.declared.task.Op.{Op}
use Rattle.seat_programs.specs.declared.task.Op.TheVariants as ops
use Rattle.seat_programs.specs.declared.task.Task.{Task}
use Rattle.corr_core.specs.IdSlotWord.{error_of}
use Rattle.seat_programs.specs.Explained.{IsTask, Became}
use Rattle.seat_programs.specs.ExplainedCalls.{Fixed, Order, FoundNone, IsAnsweredBy, IsExpiredWith, GaveFault, ShowsId, WhyExpire, WhyJoin}
use Rattle.call_stories.specs.PostsOfRun.{Post}
use Rattle.call_stories.specs.Decided.{Decision}
use Rattle.seat_programs.specs.brpc_model.specs.Why.{Calling}
use Rattle.seat_programs.specs.brpc_model.specs.Why as causes
use Rattle.outcome_stories.specs.OperationStories.{In}

abbrev pub IsOnCalls : Op → Type 0
IsOnCalls (ops.Call asked) = Unit {0}
IsOnCalls (ops.Expire t) = Unit {0}
IsOnCalls (ops.Join t) = Unit {0}
IsOnCalls other = ⊥

-- ## In part

module _ (p : Plan) (clients : List (List Task)) (outcomes : List (Option Outcome)) (fixed : Fixed) (gave : ℕ → List ℕ) (orders : ℕ → Order) where
  -- why the call that is operation o, with this id, ended with the code, as far as it is told without its sockets: 2002 where no response was compressed is that of a link with a frame
  -- fault, 1014 that of a reading that ended, and another code, with which none but the last attempt ends, that of a `fail`, or of a socket or a table without requests
  pub data FailedInPart (last : ℕ → ℕ) (o : ℕ) (asked : Asked) (id code : ℕ) : Type 0 where
    ByExpiry : code ≡ ERPCTIMEDOUT → IsExpiredWith p clients outcomes fixed gave orders o Expired ⊎ IsExpiredWith p clients outcomes fixed gave orders o Queued → FailedInPart last o asked id code
    ByCompression : code ≡ ERESPONSE → IsAnsweredBy p clients outcomes fixed gave orders asked id (λ frame. frame.meta.compress_type ≢ pos 0) → FailedInPart last o asked id code
    ByFrameFault : code ≡ ERESPONSE → (k : ℕ) → k < p.links → GaveFault p clients outcomes fixed gave orders k → FailedInPart last o asked id code
    ByFail : last o + 2 ≡ asked.range → 1500 ≤ code → code ≤ 1999 → (client : ℕ) (t : Task) (name : ℕ) → IsTask clients outcomes client t → t.op ≡ ops.Fail name code → FailedInPart last o asked id code
    ByReading : code ≡ EEOF → FailedInPart last o asked id code
    BySocketOrRequests : last o + 2 ≡ asked.range → Contains (EFAILEDSOCKET ∷ EREQUESTS ∷ []) code → FailedInPart last o asked id code

  -- what is told of the call that is operation o of client c
  abbrev pub calling_in_part : (ℕ → ℕ) → ℕ → ℕ → Asked → Calling
  calling_in_part last c o asked = record {
    FoundNone = FoundNone p clients outcomes fixed gave orders c o (name_of asked 0);
    IsAnswered = λ id P. IsAnsweredBy p clients outcomes fixed gave orders asked id P;
    HasFailed = λ id code. FailedInPart last o asked id code;
  }

  abbrev pub WhyCallInPart : (ℕ → ℕ) → ℕ → ℕ → Asked → Outcome → Type 0
  WhyCallInPart last c o asked outcome = causes.CallCause (calling_in_part last c o asked) outcome

  abbrev pub WhyInPart : (ℕ → ℕ) → ℕ → ℕ → Op → Outcome → Type 0
  WhyInPart last c o (ops.Call asked) outcome = WhyCallInPart last c o asked outcome
  WhyInPart last c o (ops.Expire t) outcome = WhyExpire p clients outcomes fixed gave orders last c o t outcome
  WhyInPart last c o (ops.Join t) outcome = WhyJoin p clients outcomes fixed gave orders last c o t outcome
  WhyInPart last c o op outcome = ⊥

  -- the fields of `ExplainedCalls` that speak of these tasks, but that `why` tells so much only of a call that failed; last o is the last attempt of operation o
  pub record ToldOnCallsInPart (last : ℕ → ℕ) : Type 0 where
    pub told : (client : ℕ) (t : Task) → IsTask clients outcomes client t → IsOnCalls t.op → (outcome : Outcome) × Became clients outcomes t.number outcome
    pub why : (client : ℕ) (t : Task) (outcome : Outcome) → IsTask clients outcomes client t → IsOnCalls t.op → Became clients outcomes t.number outcome → WhyInPart last client t.number t.op outcome
    pub expired_once : (c d : ℕ) (t u : Task) (o : ℕ) → IsTask clients outcomes c t → IsTask clients outcomes d u → t.op ≡ ops.Expire o → u.op ≡ ops.Expire o → Became clients outcomes t.number Expired → Became clients outcomes u.number Expired → t.number ≡ u.number
    pub versions : (c d : ℕ) (t u : Task) (a b : Asked) (x y : Outcome) (i j : ℕ) → IsTask clients outcomes c t → IsTask clients outcomes d u → t.op ≡ ops.Call a → u.op ≡ ops.Call b → Became clients outcomes t.number x → Became clients outcomes u.number y
        → ShowsId p clients outcomes fixed gave orders x i → ShowsId p clients outcomes fixed gave orders y j → t.number ≢ u.number → (i + a.range ≤ j) ⊎ (j + b.range ≤ i)

-- ## By the errors that ids took

module _ (p : Plan) (clients : List (List Task)) (outcomes : List (Option Outcome)) (fixed : Fixed) (gave : ℕ → List ℕ) (orders : ℕ → Order) where
  -- why the call that is operation o, with this id, ended with the code: by an `expire`, by a compressed response, or by an error that its id took for its last attempt, with a code that
  -- ends a call whatever retries are left, or where none is left
  abbrev pub FailedByPost : (ℕ → ℕ) → List Post → ℕ → Asked → ℕ → ℕ → Type 0
  FailedByPost last posts o asked id code = ((code ≡ ERPCTIMEDOUT) × (IsExpiredWith p clients outcomes fixed gave orders o Expired ⊎ IsExpiredWith p clients outcomes fixed gave orders o Queued))
      ⊎ (((code ≡ ERESPONSE) × IsAnsweredBy p clients outcomes fixed gave orders asked id (λ frame. frame.meta.compress_type ≢ pos 0))
      ⊎ (Contains posts (record { id = id; error = error_of code (last o) }) × ((is_final code ≡ true) ⊎ (last o + 2 ≡ asked.range))))

  -- the same, where seat j decided on the errors of decided j: on such an error some seat decided
  abbrev pub FailedByDecision : (ℕ → ℕ) → List Post → (ℕ → List Decision) → ℕ → Asked → ℕ → ℕ → Type 0
  FailedByDecision last posts decided o asked id code = ((code ≡ ERPCTIMEDOUT) × (IsExpiredWith p clients outcomes fixed gave orders o Expired ⊎ IsExpiredWith p clients outcomes fixed gave orders o Queued))
      ⊎ (((code ≡ ERESPONSE) × IsAnsweredBy p clients outcomes fixed gave orders asked id (λ frame. frame.meta.compress_type ≢ pos 0))
      ⊎ (Contains posts (record { id = id; error = error_of code (last o) }) × ((is_final code ≡ true) ⊎ (last o + 2 ≡ asked.range)) × (j : ℕ) × In (record { id = id; asked = asked; error = error_of code (last o) }) (decided j)))

  -- attempt n of the call that is operation o was given up: its id, which its outcome shows, took an error for that attempt, whose code alone ends no call
  abbrev pub AdvancedByPost : List Post → ℕ → ℕ → Type 0
  AdvancedByPost posts o n = (id code : ℕ) × ((outcome : Outcome) → Became clients outcomes o outcome → (shown : ℕ) → ShowsId p clients outcomes fixed gave orders outcome shown → shown ≡ id)
      × Contains posts (record { id = id; error = error_of code n }) × (is_final code ≡ false)
