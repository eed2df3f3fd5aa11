-- What a client with calls does at the table of sockets, one after the other: its operations, and the retries that waited.
use Rattle.std.specs.Prelude.{ℕ, zero, suc, List, [], ◌∷◌, ◌++◌, flat_map, Option, None}
use Rattle.sock_io.specs.declared.link.Out.{Ghosts}
use Rattle.sock_io.specs.LinkHalves.{OutState}
use Rattle.sock_words.specs.declared.outcome.Outcome.{Outcome}
use Rattle.sock_words.specs.declared.plain.Plan.{Plan}
use Rattle.sock_words.specs.declared.socket_id.SocketId.{SocketId}
use Rattle.sock_model.specs.declared.chain.Entry.{Entry}
use Rattle.call_run.specs.sock_rule.specs.declared.homes.Letter.{Letter}
use Rattle.seat_programs.specs.declared.task.Op.{Op}
use Rattle.seat_programs.specs.declared.task.Op.TheVariants as ops
use Rattle.seat_programs.specs.declared.task.Task.{Task}
use Rattle.corr_core.specs.declared.marks.Plan as id_plan
use Rattle.call_run.specs.call_client.specs.call_errors.specs.declared.retries.Retry.{Retry}
use Rattle.call_run.specs.call_client.specs.call_attempts.specs.ClientAtBothTables.{Both}
use Rattle.call_run.specs.call_client.specs.call_attempts.specs.Attempting.{DeliveredBy, went_out, came_back, AttemptedBy, nowhere, over_link}
use Rattle.call_run.specs.call_client.specs.call_attempts.specs.WaitingRetries.{without_oldest, WentTo, stray, unopened, to_socket, RetriedBy, had_ended, overtaken, went_again, Retried, none_yet, one_more}
use Rattle.call_run.specs.call_client.specs.ClientBetweenOperations.{Stand, stand, both_of, Acted}
use Rattle.call_run.specs.call_client.specs.ClientRun.{Course, Ran, begins}
use Rattle.call_run.specs.Threads.{Thread, IsThread}

-- each with what the client had before and behind it
pub data Deed {O : Type 0} (g : Ghosts O) (state : O → OutState) (p : Plan) (q : id_plan.Plan) : Type 0 where
  -- an operation, with its outcome
  operates : (x : Task) (by : Option Outcome) (s t : Stand g) → Acted state p q x.number x.op by s t → Deed g state p q
  -- or a retry that was taken out
  retries : (r : Retry) (s t : Both) → RetriedBy state p q r s t → Deed g state p q

-- ## Those of a run

module _ {O : Type 0} {g : Ghosts O} (state : O → OutState) (p : Plan) (q : id_plan.Plan) where
  -- the retries that waited, the oldest first
  abbrev pub retries_of : (s t : Both) → Retried state p q s t → List (Deed g state p q)
  retries_of s _ none_yet = []
  retries_of s _ (one_more u t r rest before waits fed by) = retries_of s u before ++ retries r (without_oldest rest u) t by ∷ []

  -- the first n operations, each behind the retries that waited
  abbrev pub ran_deeds : (xs : List Task) (n : ℕ) (s t : Course g) → Ran state p q xs n s t → List (Deed g state p q)
  ran_deeds xs zero s t e = []
  ran_deeds xs (suc n) s t h = ran_deeds xs n s h.0 h.2 ++ (retries_of (both_of h.0.has) (both_of h.4.ready) h.4.retried.all.retried ++ operates h.1 h.4.by h.4.ready t.has h.4.acted ∷ [])

-- all operations of a client, and then the retries that waited
abbrev pub deeds : {O : Type 0} {g : Ghosts O} {state : O → OutState} {p : Plan} {q : id_plan.Plan} {first : ℕ} (x : Thread g) → IsThread state p q first x → List (Deed g state p q)
deeds {g = g} {state = state} {p = p} {q = q} x th = ran_deeds state p q x.tasks th.ran.made (begins x.began) (record { has = stand th.ran.came; told = th.ran.came.outcomes.items; names = th.ran.ran.names }) th.ran.ran.ran
    ++ retries_of {g = g} state p q (both_of (stand th.ran.came)) (both_of th.ran.last) th.ran.ends.1.all.retried

-- ## The messages that were accepted

module _ {O : Type 0} (state : O → OutState) (p : Plan) (q : id_plan.Plan) where
  abbrev pub delivered_entries : (socket : SocketId) (msg : Letter) (s t : Both) → DeliveredBy state p q socket msg s t → List Entry
  delivered_entries socket msg s t (went_out w) = w.accepted.entry ∷ []
  delivered_entries socket msg s t (came_back by c) = []

  -- the frame of an attempt
  abbrev pub attempt_entries : (socket : SocketId) (msg : Letter) (s t : Both) → AttemptedBy state p q socket msg s t → List Entry
  attempt_entries socket msg s t (nowhere n) = []
  attempt_entries socket msg s t (over_link u l d) = delivered_entries socket msg u t d

  abbrev pub went_entries : (name : ℕ) (msg : Letter) (s t : Both) → WentTo state p q name msg s t → List Entry
  went_entries name msg s t (stray a b c) = []
  went_entries name msg s t (unopened a b) = []
  went_entries name msg s t (to_socket socket u f e a) = attempt_entries socket msg u t a

  abbrev pub retry_entries : (r : Retry) (s t : Both) → RetriedBy state p q r s t → List Entry
  retry_entries r s t (had_ended h) = []
  retry_entries r s t (overtaken k u l o) = []
  retry_entries r s t (went_again k u l w) = went_entries _ _ _ t w.went

  -- the message of a send, or the first frame of a call
  abbrev pub acted_entries : {g : Ghosts O} (number : ℕ) (op : Op) (by : Option Outcome) (s t : Stand g) → Acted state p q number op by s t → List Entry
  acted_entries number (ops.Send n bytes) None s t a = a.0.delivered.accepted.entry ∷ []
  acted_entries number (ops.Call asked) None s t a = attempt_entries a.1.socket _ a.1.at (both_of t) a.1.attempted
  acted_entries number _ _ s t a = []

-- at most one of each
abbrev pub entries_of : {O : Type 0} {g : Ghosts O} {state : O → OutState} {p : Plan} {q : id_plan.Plan} → Deed g state p q → List Entry
entries_of {state = state} {p = p} {q = q} (operates x by s t a) = acted_entries state p q x.number x.op by s t a
entries_of {state = state} {p = p} {q = q} (retries r s t by) = retry_entries state p q r s t by

-- those of a client, in their order
abbrev pub own_entries : {O : Type 0} {g : Ghosts O} {state : O → OutState} {p : Plan} {q : id_plan.Plan} {first : ℕ} (x : Thread g) → IsThread state p q first x → List Entry
own_entries x th = flat_map entries_of (deeds x th)
