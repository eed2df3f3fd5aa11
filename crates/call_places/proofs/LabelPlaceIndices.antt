-- Which place indices the messages of a deed have: an operation's message that of the operation itself, and a retry's frame that of its attempt.
use Rattle.std.proofs.Common.{◌≡◌, ℕ, ◌+◌, ◌*◌, ◌%◌, ◌≤◌, Option, Some, None, [], ◌∷◌, ap, arith}
use mathlib.Core.Logic.{dite}
use native.Mathlib.Decide.{ℕ_discrete}
use Rattle.sock_io.specs.declared.link.Out.{Ghosts}
use Rattle.sock_io.specs.LinkHalves.{OutState}
use Rattle.sock_words.specs.declared.outcome.Outcome.{Outcome}
use Rattle.sock_words.specs.declared.plain.Plan.{Plan}
use Rattle.sock_words.specs.declared.socket_id.SocketId.{SocketId}
use Rattle.sock_model.specs.declared.chain.Entry.{Entry}
use Rattle.sock_model.specs.declared.chain.Heading.{Heading}
use Rattle.call_run.specs.sock_rule.specs.declared.homes.Letter.{Letter}
use Rattle.seat_programs.specs.declared.task.Op.{Op}
use Rattle.seat_programs.specs.declared.task.Op.TheVariants as ops
use Rattle.seat_programs.specs.declared.task.Task.{Task}
use Rattle.corr_core.specs.IdSlotLaw.{only}
use Rattle.corr_core.specs.declared.marks.Plan as id_plan
use Rattle.corr_core.proofs.NoteSums.{only-at, only-else, total_mono}
use Rattle.call_run.specs.call_client.specs.call_errors.specs.declared.retries.Retry.{Retry}
use Rattle.call_run.specs.call_client.specs.call_attempts.specs.ClientAtBothTables.{Both}
use Rattle.call_run.specs.call_client.specs.call_attempts.specs.Attempting.{DeliveredBy, went_out, came_back, AttemptedBy, nowhere, over_link}
use Rattle.call_run.specs.call_client.specs.call_attempts.specs.WaitingRetries.{WentTo, stray, unopened, to_socket, RetriedBy, had_ended, overtaken, went_again}
use Rattle.call_run.specs.call_client.specs.ClientBetweenOperations.{Stand, both_of, Acted}
use Rattle.call_run.specs.Threads.{Thread, IsThread}
use Rattle.call_places.specs.DeedsOfCallClient.{Deed, operates, retries, deeds, delivered_entries, attempt_entries, went_entries, retry_entries, acted_entries, entries_of, own_entries}
use Rattle.call_places.proofs.NoteWeights.{flat_total, total_sum}
use Rattle.call_places.proofs.Still.{is_first}
use Rattle.call_places.proofs.RetryAndIdCounts.{by_task, by_retry, none_first, task_total}
use Rattle.sock_words.specs.Totals.{total}

-- the message has this place index
abbrev pub at_place : ℕ → Entry → ℕ
at_place l e = only l e.heading.label.place

-- what an operation's message may have
abbrev pub label_in : ℕ → ℕ → Op → ℕ
label_in l number (ops.Send n bytes) = only l (8 * number + 0)
label_in l number (ops.Call asked) = only l (8 * asked.operation + 0)
label_in l number _ = 0

one_entry : (l place : ℕ) (e : Entry) → e.heading.label.place ≡ place → total (at_place l) (e ∷ []) ≤ only l place
one_entry l place e is = let a = ap (only l) is in omega arith

module _ {O : Type 0} (state : O → OutState) (p : Plan) (q : id_plan.Plan) (l : ℕ) where
  delivered_place : (socket : SocketId) (msg : Letter) (s t : Both) (d : DeliveredBy state p q socket msg s t) → total (at_place l) (delivered_entries state p q socket msg s t d) ≤ only l msg.label.place
  delivered_place socket msg s t (went_out w) = one_entry l msg.label.place w.accepted.entry (ap (λ (h : Heading). h.label.place) w.accepted.heading_is)
  delivered_place socket msg s t (came_back by c) = omega arith

  attempt_place : (socket : SocketId) (msg : Letter) (s t : Both) (a : AttemptedBy state p q socket msg s t) → total (at_place l) (attempt_entries state p q socket msg s t a) ≤ only l msg.label.place
  attempt_place socket msg s t (nowhere n) = omega arith
  attempt_place socket msg s t (over_link u k d) = delivered_place socket msg u t d

  went_place : (name : ℕ) (msg : Letter) (s t : Both) (w : WentTo state p q name msg s t) → total (at_place l) (went_entries state p q name msg s t w) ≤ only l msg.label.place
  went_place name msg s t (stray a b c) = omega arith
  went_place name msg s t (unopened a b) = omega arith
  went_place name msg s t (to_socket socket u f e a) = attempt_place socket msg u t a

  -- what a retry's frame has
  abbrev pub again_in : (r : Retry) (s t : Both) → RetriedBy state p q r s t → ℕ
  again_in r s t (had_ended h) = 0
  again_in r s t (overtaken k u a b) = 0
  again_in r s t (went_again k u a b) = only l (8 * k.content.operation + r.attempt)

  retry_place : (r : Retry) (s t : Both) (by : RetriedBy state p q r s t) → total (at_place l) (retry_entries state p q r s t by) ≤ again_in r s t by
  retry_place r s t (had_ended h) = omega arith
  retry_place r s t (overtaken k u a b) = omega arith
  retry_place r s t (went_again k u a b) = went_place _ _ _ t b.went

  acted_place : {g : Ghosts O} (number : ℕ) (op : Op) (by : Option Outcome) (s t : Stand g) (a : Acted state p q number op by s t) → total (at_place l) (acted_entries state p q number op by s t a) ≤ label_in l number op
  acted_place number (ops.Send n bytes) None s t a = one_entry l (8 * number + 0) a.0.delivered.accepted.entry (ap (λ (h : Heading). h.label.place) a.0.delivered.accepted.heading_is)
  acted_place number (ops.Send n bytes) (Some by) s t a = omega arith
  acted_place number (ops.Call asked) None s t a = attempt_place a.1.socket _ a.1.at (both_of t) a.1.attempted
  acted_place number (ops.Call asked) (Some by) s t a = omega arith
  acted_place number _ by s t a = omega arith

abbrev pub labels : ℕ → Task → ℕ
labels l x = label_in l x.number x.op

module _ {O : Type 0} {g : Ghosts O} {state : O → OutState} {p : Plan} {q : id_plan.Plan} (l : ℕ) where
  -- the frames of retries
  abbrev pub again_at : Deed g state p q → ℕ
  again_at (operates x by s t a) = 0
  again_at (retries r s t by) = again_in state p q l r s t by

  pub deed_place : (d : Deed g state p q) → total (at_place l) (entries_of d) ≤ by_task (labels l) d + again_at d
  deed_place (operates x by s t a) = let b = acted_place state p q l x.number x.op by s t a in omega arith
  deed_place (retries r s t by) = let b = retry_place state p q l r s t by in omega arith

  -- a retry is none of a first attempt
  again_first : l % 8 ≡ 0 → (d : Deed g state p q) → again_at d ≤ by_retry is_first d
  again_first z (operates x by s t a) = omega arith
  again_first z (retries r s t (had_ended h)) = omega arith
  again_first z (retries r s t (overtaken k u a b)) = omega arith
  again_first z (retries r s t (went_again k u a b)) = dite (ℕ_discrete (8 * k.content.operation + r.attempt) l)
      (λ e. let low = r.low in let c = only-at l _ e in let d = only-at 0 r.attempt (omega (arith, e, z, low)) in omega arith)
      (λ n. let c = only-else l _ n in omega arith)

module _ {O : Type 0} {g : Ghosts O} {state : O → OutState} {p : Plan} {q : id_plan.Plan} {first : ℕ} (x : Thread g) (th : IsThread state p q first x) (l : ℕ) where
  pub own_place : total (at_place l) (own_entries x th) ≤ total (labels l) x.tasks + total (again_at l) (deeds x th)
  own_place =
      let W : Task → ℕ = labels l in
      let a = flat_total (at_place l) entries_of (deeds x th) in
      let b = total_mono (λ d. total (at_place l) (entries_of d)) (λ d. by_task W d + again_at l d) (deed_place l) (deeds x th) in
      let c = total_sum (by_task W) (again_at l) (deeds x th) in
      let d = task_total x th W in omega arith

  pub none_again : l % 8 ≡ 0 → total (again_at l) (deeds x th) ≡ 0
  none_again z = let a = total_mono (again_at l) (by_retry is_first) (again_first l z) (deeds x th) in let b = none_first x th in omega arith
