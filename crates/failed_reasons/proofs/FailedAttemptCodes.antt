-- With which codes attempts come to nothing, and with which whoever reads the links ends calls.
use Rattle.std.proofs.Common.{◌≡◌, ℕ, ◌⊎◌, inl, inr, Some, None, sym}
use Rattle.std.specs.Prelude.{Option}
use Rattle.std.proofs.lemmas.Option.{none-some, same_Some}
use Rattle.sock_io.specs.declared.link.Out.{Ghosts}
use Rattle.sock_io.specs.LinkHalves.{OutState}
use Rattle.sock_words.specs.ErrorCodes.{EEOF, EFAILEDSOCKET, ERESPONSE, EREQUESTS}
use Rattle.sock_words.specs.declared.outcome.Outcome.{Outcome}
use Rattle.sock_words.specs.declared.plain.Plan.{Plan}
use Rattle.sock_words.specs.declared.socket_id.SocketId.{SocketId}
use Rattle.attempts_told.specs.Below.SockRule.Letter.{Letter}
use Rattle.seat_programs.specs.declared.task.Op.{Op}
use Rattle.seat_programs.specs.declared.task.Op.TheVariants as ops
use Rattle.corr_core.specs.declared.marks.Plan as id_plan
use Rattle.attempts_told.specs.Below.WriteChain.Refused.{Refused}
use Rattle.attempts_told.specs.Below.WriteChain.RefusedVariants as refusal
use Rattle.attempts_told.specs.Below.CallErrors.Retry.{Retry}
use Rattle.attempts_told.specs.Below.CallAttempts.ClientAtBothTables.{Both}
use Rattle.attempts_told.specs.Below.CallAttempts.Attempting.{code_for, DeliveredBy, went_out, came_back, AttemptedBy, nowhere, over_link}
use Rattle.attempts_told.specs.Below.CallAttempts.WaitingRetries.{WentTo, stray, unopened, to_socket, RetriedBy, had_ended, overtaken, went_again}
use Rattle.attempts_told.specs.Below.CallClient.ClientBetweenOperations.{Stand, both_of, Acted}
use Rattle.attempts_told.specs.call_whys.specs.call_places.specs.DeedsOfCallClient.{Deed, operates, retries}
use Rattle.failed_reasons.specs.Missed.{delivery_missed, attempt_missed, went_missed, retry_missed, acted_missed, missed_in}

-- nothing more came, or what came can't be read
abbrev pub IsReadCode : ℕ → Type 0
IsReadCode code = (code ≡ EEOF) ⊎ (code ≡ ERESPONSE)

-- there was no live socket, or each request was found taken
abbrev pub IsMissCode : ℕ → Type 0
IsMissCode code = (code ≡ EFAILEDSOCKET) ⊎ (code ≡ EREQUESTS)

gone_code : (code : ℕ) → Some EFAILEDSOCKET ≡ Some code → IsMissCode code
gone_code code e = inl (sym (same_Some EFAILEDSOCKET code e))

refused_code : (by : Refused) (code : ℕ) → Some (code_for by) ≡ Some code → IsMissCode code
refused_code (refusal.Failed sock msg found) code e = gone_code code e
refused_code (refusal.Full sock msg) code e = inr (sym (same_Some EREQUESTS code e))

module _ {O : Type 0} (state : O → OutState) (p : Plan) (q : id_plan.Plan) (code : ℕ) where
  delivery_code : (socket : SocketId) (msg : Letter) (s t : Both) (d : DeliveredBy state p q socket msg s t) → delivery_missed state p q socket msg s t d ≡ Some code → IsMissCode code
  delivery_code socket msg s t (went_out w) e = absurd (none-some code e)
  delivery_code socket msg s t (came_back by c) e = refused_code by code e

  attempt_code : (socket : SocketId) (msg : Letter) (s t : Both) (a : AttemptedBy state p q socket msg s t) → attempt_missed state p q socket msg s t a ≡ Some code → IsMissCode code
  attempt_code socket msg s t (nowhere n) e = gone_code code e
  attempt_code socket msg s t (over_link u l d) e = delivery_code socket msg u t d e

  went_code : (name : ℕ) (msg : Letter) (s t : Both) (w : WentTo state p q name msg s t) → went_missed state p q name msg s t w ≡ Some code → IsMissCode code
  went_code name msg s t (stray a b c) e = gone_code code e
  went_code name msg s t (unopened a b) e = gone_code code e
  went_code name msg s t (to_socket socket u f same a) e = attempt_code socket msg u t a e

  retry_code : (r : Retry) (s t : Both) (by : RetriedBy state p q r s t) → retry_missed state p q r s t by ≡ Some code → IsMissCode code
  retry_code r s t (had_ended h) e = absurd (none-some code e)
  retry_code r s t (overtaken k u l o) e = absurd (none-some code e)
  retry_code r s t (went_again k u l w) e = went_code _ _ _ t w.went e

  acted_code : {g : Ghosts O} (number : ℕ) (op : Op) (by : Option Outcome) (s t : Stand g) (a : Acted state p q number op by s t) → acted_missed state p q number op by s t a ≡ Some code → IsMissCode code
  acted_code number (ops.Call asked) None s t a e = attempt_code a.1.socket _ a.1.at (both_of t) a.1.attempted e
  acted_code number (ops.Call asked) (Some by) s t a e = absurd (none-some code e)
  acted_code number _ by s t a e = absurd (none-some code e)

pub deed_code : {O : Type 0} {g : Ghosts O} {state : O → OutState} {p : Plan} {q : id_plan.Plan} (d : Deed g state p q) (code : ℕ) → missed_in d ≡ Some code → IsMissCode code
deed_code {state = state} {p = p} {q = q} (operates x by s t a) code e = acted_code state p q code x.number x.op by s t a e
deed_code {state = state} {p = p} {q = q} (retries r s t by) code e = retry_code state p q code r s t by e
