-- The attempts of calls that came to nothing: no link accepted their frame.
use Rattle.std.specs.Prelude.{ℕ, ◌<◌, Option, Some, None}
use Rattle.sock_io.specs.declared.link.Out.{Ghosts}
use Rattle.sock_io.specs.LinkHalves.{OutState}
use Rattle.sock_words.specs.ErrorCodes.{EFAILEDSOCKET}
use Rattle.sock_words.specs.declared.outcome.Outcome.{Outcome}
use Rattle.sock_words.specs.declared.plain.Plan.{Plan}
use Rattle.sock_words.specs.declared.socket_id.SocketId.{SocketId}
use Rattle.sock_model.specs.declared.view.View as sock_view
use Rattle.attempts_told.specs.Below.SockRule.Letter.{Letter}
use Rattle.seat_programs.specs.declared.task.Op.{Op}
use Rattle.seat_programs.specs.declared.task.Op.TheVariants as ops
use Rattle.corr_core.specs.declared.marks.Plan as id_plan
use Rattle.corr_core.specs.declared.marks.View.{View}
use Rattle.corr_id.specs.id_rule.specs.LawfulIdTable.{notes_of}
use Rattle.sock_message.specs.Asked.{Asked}
use Rattle.attempts_told.specs.Below.CallErrors.Retry.{Retry}
use Rattle.attempts_told.specs.Below.CallAttempts.ClientAtBothTables.{Both}
use Rattle.attempts_told.specs.Below.CallAttempts.Attempting.{code_for, DeliveredBy, went_out, came_back, AttemptedBy, nowhere, over_link}
use Rattle.attempts_told.specs.Below.CallAttempts.WaitingRetries.{WentTo, stray, unopened, to_socket, RetriedBy, had_ended, overtaken, went_again}
use Rattle.attempts_told.specs.Below.CallClient.ClientBetweenOperations.{Stand, both_of, Acted}
use Rattle.attempts_told.specs.call_whys.specs.call_told.specs.Least.{is_made_for}
use Rattle.attempts_told.specs.call_whys.specs.call_places.specs.DeedsOfCallClient.{Deed, operates, retries}
use Rattle.sock_words.specs.PackedWords.{id_slot, id_first}
use Rattle.sock_words.specs.Totals.{total}

-- ## With which code

module _ {O : Type 0} (state : O → OutState) (p : Plan) (q : id_plan.Plan) where
  -- the frame came back
  abbrev pub delivery_missed : (socket : SocketId) (msg : Letter) (s t : Both) → DeliveredBy state p q socket msg s t → Option ℕ
  delivery_missed socket msg s t (went_out w) = None
  delivery_missed socket msg s t (came_back by c) = Some (code_for by)

  -- or the socket was gone
  abbrev pub attempt_missed : (socket : SocketId) (msg : Letter) (s t : Both) → AttemptedBy state p q socket msg s t → Option ℕ
  attempt_missed socket msg s t (nowhere n) = Some EFAILEDSOCKET
  attempt_missed socket msg s t (over_link u l d) = delivery_missed socket msg u t d

  -- or there was none of the name
  abbrev pub went_missed : (name : ℕ) (msg : Letter) (s t : Both) → WentTo state p q name msg s t → Option ℕ
  went_missed name msg s t (stray a b c) = Some EFAILEDSOCKET
  went_missed name msg s t (unopened a b) = Some EFAILEDSOCKET
  went_missed name msg s t (to_socket socket u f e a) = attempt_missed socket msg u t a

  abbrev pub retry_missed : (r : Retry) (s t : Both) → RetriedBy state p q r s t → Option ℕ
  retry_missed r s t (had_ended h) = None
  retry_missed r s t (overtaken k u l o) = None
  retry_missed r s t (went_again k u l w) = went_missed _ _ _ t w.went

  -- of a first attempt
  abbrev pub acted_missed : {g : Ghosts O} (number : ℕ) (op : Op) (by : Option Outcome) (s t : Stand g) → Acted state p q number op by s t → Option ℕ
  acted_missed number (ops.Call asked) None s t a = attempt_missed a.1.socket _ a.1.at (both_of t) a.1.attempted
  acted_missed number _ _ s t a = None

  -- the id of the call that began
  abbrev pub acted_id : {g : Ghosts O} (number : ℕ) (op : Op) (by : Option Outcome) (s t : Stand g) → Acted state p q number op by s t → ℕ
  acted_id number (ops.Call asked) None s t a = a.0
  acted_id number _ _ s t a = 0

  -- this seat made it for the call's operation
  abbrev pub IsMadeBy : {g : Ghosts O} (v : View Asked) (number : ℕ) (op : Op) (by : Option Outcome) (s t : Stand g) → Acted state p q number op by s t → Type 0
  IsMadeBy v number (ops.Call asked) None s t a = 0 < total (is_made_for (id_first a.0) asked.operation) (notes_of (id_slot a.0) v.notes)
  IsMadeBy v number _ _ s t a = Unit {0}

-- ## Of a deed

module _ {O : Type 0} {g : Ghosts O} {state : O → OutState} {p : Plan} {q : id_plan.Plan} where
  -- the code that was posted for its attempt, where that came to nothing
  abbrev pub missed_in : Deed g state p q → Option ℕ
  missed_in (operates x by s t a) = acted_missed state p q x.number x.op by s t a
  missed_in (retries r s t by) = retry_missed state p q r s t by

  -- the id of its call, and which attempt it is
  abbrev pub id_of : Deed g state p q → ℕ
  id_of (operates x by s t a) = acted_id state p q x.number x.op by s t a
  id_of (retries r s t by) = r.id

  -- a first attempt's id was made by the seat itself
  abbrev pub IsBacked : View Asked → Deed g state p q → Type 0
  IsBacked v (operates x by s t a) = IsMadeBy state p q v x.number x.op by s t a
  IsBacked v (retries r s t by) = Unit {0}

  abbrev pub attempt_of : Deed g state p q → ℕ
  attempt_of (operates x by s t a) = 0
  attempt_of (retries r s t by) = r.attempt

  -- what its seat had of the sockets behind it
  abbrev pub socks_behind : Deed g state p q → sock_view.View
  socks_behind (operates x by s t a) = t.me.0
  socks_behind (retries r s t by) = t.socks
