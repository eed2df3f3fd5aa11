-- What is told of calls over tables with more seats is told of those without them too: nothing of it speaks of seats.
use Rattle.std.proofs.Common.{ℕ, List, Option}
use Rattle.sock_words.specs.declared.outcome.Outcome.{Outcome}
use Rattle.sock_words.specs.declared.outcome.Outcome.TheVariants as outcome
use Rattle.sock_words.specs.declared.plain.Plan.{Plan}
use Rattle.sock_message.specs.Asked.{Asked}
use Rattle.seat_programs.specs.declared.task.Task.{Task}
use Rattle.seat_programs.specs.ExplainedCalls.{Order, Fixed, WhyLost, WasFailing, RunEnding, WasUnopened, WhyAgain, AfterDrop, AfterLoss, AfterFull, EndedWith, FailedBy, ByExpiry, ByCompression, ByFrameFault, ByEnd, BySocket, ByRequests, ByFail, WhyExpire}
use Rattle.script_parts.specs.failed_reasons.specs.CallsEndedByReading.{LeftAt, OnLink, NoneOpened}
use Rattle.script_threads.proofs.Widened.{none_still}

module _ (p : Plan) (n : ℕ) (clients : List (List Task)) (outcomes : List (Option Outcome)) (fixed : Fixed) (gave : ℕ → List ℕ) (orders : ℕ → Order) where
  -- with so many seats
  abbrev wide : Plan
  wide = record p { seats = n }

  lost_still : (c o m name : ℕ) → WhyLost wide clients outcomes fixed gave orders c o m name → WhyLost p clients outcomes fixed gave orders c o m name
  lost_still c o m name (WasFailing k named failing) = WasFailing k named failing
  lost_still c o m name (RunEnding late) = RunEnding late
  lost_still c o m name (WasUnopened behind client before first low own none_) = WasUnopened behind client before first low own (none_still p n clients outcomes fixed gave orders client before name none_)

  -- where an attempt went
  pub left_still : (c o : ℕ) (asked : Asked) (m : ℕ) → LeftAt wide clients outcomes fixed gave orders c o asked m → LeftAt p clients outcomes fixed gave orders c o asked m
  left_still c o asked m (OnLink k on lost) = OnLink k on lost
  left_still c o asked m (NoneOpened behind free client before first low own none_) = NoneOpened behind free client before first low own (none_still p n clients outcomes fixed gave orders client before _ none_)

  -- why an attempt was followed by another
  pub again_still : (c o m name : ℕ) → WhyAgain wide clients outcomes fixed gave orders c o m name → WhyAgain p clients outcomes fixed gave orders c o m name
  again_still c o m name (AfterDrop d) = AfterDrop d
  again_still c o m name (AfterLoss free lost) = AfterLoss free (lost_still c o m name lost)
  again_still c o m name (AfterFull free full) = AfterFull free full

  ended_still : (asked : Asked) (o m name id k : ℕ) → EndedWith wide clients outcomes fixed gave orders asked o m name id k → EndedWith p clients outcomes fixed gave orders asked o m name id k
  ended_still asked o m name id k h = record { on = h.on; ended = h.ended; lost = h.lost; unanswered = h.unanswered }

  -- why a call failed
  pub failure_still : (c o : ℕ) (asked : Asked) (id code m : ℕ) → FailedBy wide clients outcomes fixed gave orders c o asked id code m → FailedBy p clients outcomes fixed gave orders c o asked id code m
  failure_still c o asked id code m (ByExpiry e with_) = ByExpiry e with_
  failure_still c o asked id code m (ByCompression e by) = ByCompression e by
  failure_still c o asked id code m (ByFrameFault e k on fault) = ByFrameFault e k on fault
  failure_still c o asked id code m (ByEnd e k ended) = ByEnd e k (ended_still asked o m _ id k ended)
  failure_still c o asked id code m (BySocket e two out lost) = BySocket e two out (lost_still c o m _ lost)
  failure_still c o asked id code m (ByRequests e two free full) = ByRequests e two free full
  failure_still c o asked id code m (ByFail low high two dropped failed) = ByFail low high two dropped failed

  -- why an `expire` has its outcome
  pub expire_still : (last : ℕ → ℕ) (c o t : ℕ) (by : Outcome) → WhyExpire wide clients outcomes fixed gave orders last c o t by → WhyExpire p clients outcomes fixed gave orders last c o t by
  expire_still last c o t outcome.Expired w = w
  expire_still last c o t outcome.Queued w = w
  expire_still last c o t outcome.Late w = w
  expire_still last c o t (outcome.Crowded a b) w = w
  expire_still last c o t outcome.NotBegun w = w
  expire_still last c o t other w = absurd w
