-- What is told of sockets and attempts over tables with more seats is told of those without them too: nothing of it speaks of seats.
use Rattle.std.proofs.Common.{◌⊎◌, ℕ, inl, inr, List, Option}
use Rattle.sock_words.specs.declared.outcome.Outcome.{Outcome}
use Rattle.sock_words.specs.declared.outcome.Outcome.TheVariants as outcome
use Rattle.sock_words.specs.declared.plain.Plan.{Plan}
use Rattle.seat_programs.specs.declared.task.Op.{Op}
use Rattle.seat_programs.specs.declared.task.Op.TheVariants as ops
use Rattle.seat_programs.specs.declared.task.Task.{Task}
use Rattle.seat_programs.specs.Cores.{Core}
use Rattle.seat_programs.specs.ExplainedCalls.{Accepted, Order, Fixed, AreOrders, FoundNone, FoundFailed, IsSent, OfSend, OfCall, OutcomeCause}
use Rattle.script_parts.specs.script_facts.proofs.FilteredLists.{all_map}
use Rattle.script_parts.specs.attempts_told.specs.CountedAttempts.{AreAttemptsTold}
use Rattle.script_parts.specs.callless_fits.specs.sock_deeds.specs.SocketsTold.{IsOfSockets, IsAttempt, ToldSockets}

module _ (p : Plan) (n : ℕ) (clients : List (List Task)) (outcomes : List (Option Outcome)) (fixed : Fixed) (gave : ℕ → List ℕ) (orders : ℕ → Order) where
  -- with so many seats
  abbrev wide : Plan
  wide = record p { seats = n }

  orders_still : (c : Core) → AreOrders wide c orders → AreOrders p c orders
  orders_still c h = record { written = h.written; alone = h.alone; within = h.within; taken = h.taken; apart = h.apart }

  pub none_still : (c o m : ℕ) → FoundNone wide clients outcomes fixed gave orders c o m → FoundNone p clients outcomes fixed gave orders c o m
  none_still c o m h = record { setup = h.setup; own = h.own }

  failed_still : (c o m : ℕ) (P : ℕ → Type 0) → FoundFailed wide clients outcomes fixed gave orders c o m P → FoundFailed p clients outcomes fixed gave orders c o m P
  failed_still c o m P h = record { link = h.link; slot = h.slot; version = h.version; made = h.made; holds = h.holds; failed = h.failed }

  pub one_still : (last : ℕ → ℕ) (k : ℕ) (a : Accepted) → IsSent wide clients outcomes fixed gave orders last k a → IsSent p clients outcomes fixed gave orders last k a
  one_still last k a (OfSend client t name slot version is number op first made none_) = OfSend client t name slot version is number op first made none_
  one_still last k a (OfCall client t asked by id slot version is number op became shows low frame made) = OfCall client t asked by id slot version is number op became shows low frame made

  sent_still : (last : ℕ → ℕ) (k : ℕ) (a : Accepted) → IsSent wide clients outcomes fixed gave orders last k a ⊎ IsAttempt clients outcomes k a → IsSent p clients outcomes fixed gave orders last k a ⊎ IsAttempt clients outcomes k a
  sent_still last k a (inl h) = inl (one_still last k a h)
  sent_still last k a (inr h) = inr h

  why_still : (last : ℕ → ℕ) (c o : ℕ) (op : Op) (by : Outcome) → IsOfSockets op → OutcomeCause wide clients outcomes fixed gave orders last c o op by → OutcomeCause p clients outcomes fixed gave orders last c o op by
  why_still last c o (ops.Call asked) by of h = absurd of
  why_still last c o (ops.Expire t) by of h = absurd of
  why_still last c o (ops.Join t) by of h = absurd of
  why_still last c o (ops.Send m bytes) outcome.Unopened of h = none_still c o m h
  why_still last c o (ops.Send m bytes) (outcome.Gone found) of h = failed_still c o m _ h
  why_still last c o (ops.Hold m) outcome.Unopened of h = none_still c o m h
  why_still last c o (ops.Hold m) (outcome.Gone found) of h = failed_still c o m _ h
  why_still last c o (ops.Fail m code) outcome.Unopened of h = none_still c o m h
  why_still last c o (ops.Fail m code) (outcome.Gone found) of h = failed_still c o m _ h
  why_still last c o (ops.Fail m code) (outcome.Already found) of h = failed_still c o m _ h
  why_still last c o _ _ of h = h

  pub still_told : (c : Core) → ToldSockets wide clients outcomes fixed gave orders c → ToldSockets p clients outcomes fixed gave orders c
  still_told c h = record {
    are_orders = orders_still c h.are_orders;
    told = h.told;
    are = h.are;
    once = h.once;
    lives = h.lives;
    why = λ last client t by is became of. why_still last client t.number t.op by of (h.why last client t by is became of);
    unopened = λ client number asked is became. none_still client number _ (h.unopened client number asked is became);
    sent = λ last k low. all_map (λ (a : Accepted). IsSent wide clients outcomes fixed gave orders last k a ⊎ IsAttempt clients outcomes k a) (λ (a : Accepted). IsSent p clients outcomes fixed gave orders last k a ⊎ IsAttempt clients outcomes k a) (sent_still last k) (orders k).accepted (h.sent last k low);
    own_order = h.own_order;
    dropped = h.dropped;
  }

  -- the same of attempts
  abbrev pub still_attempts : AreAttemptsTold wide clients outcomes fixed gave orders → AreAttemptsTold p clients outcomes fixed gave orders
  still_attempts h = record {
    last = h.last;
    few = h.few;
    sent = λ k low. all_map (λ (a : Accepted). IsSent wide clients outcomes fixed gave orders h.last k a) (λ (a : Accepted). IsSent p clients outcomes fixed gave orders h.last k a) (one_still h.last k) (orders k).accepted (h.sent k low);
  }
