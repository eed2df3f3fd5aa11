-- Of which calls a client made retries: what was asked by each, as the client found it with the call's id.
use Rattle.std.specs.Prelude.{ℕ, zero, suc, List, [], ◌∷◌, ◌++◌}
use Rattle.sock_io.specs.declared.link.Out.{Ghosts}
use Rattle.sock_io.specs.LinkHalves.{OutState}
use Rattle.sock_words.specs.declared.plain.Plan.{Plan}
use Rattle.corr_core.specs.declared.marks.Plan as id_plan
use Rattle.sock_message.specs.Asked.{Asked}
use Rattle.seat_programs.specs.declared.task.Task.{Task}
use Rattle.call_places.specs.Below.CallErrors.Retry.{Retry}
use Rattle.call_places.specs.Below.CallAttempts.ClientAtBothTables.{Both}
use Rattle.call_places.specs.Below.CallAttempts.WaitingRetries.{without_oldest, RetriedBy, had_ended, overtaken, went_again, Retried, none_yet, one_more}
use Rattle.call_places.specs.Below.CallClient.ClientBetweenOperations.{stand, both_of}
use Rattle.call_places.specs.Below.CallClient.ClientRun.{Course, Ran, begins}
use Rattle.call_places.specs.Below.CallRun.Threads.{Thread, IsThread}

-- what was asked, and the attempt
pub record Again : Type 0 where
  pub asked : Asked
  pub attempt : ℕ

module _ {O : Type 0} (state : O → OutState) (p : Plan) (q : id_plan.Plan) where
  -- a retry whose call had ended, or had another error, sends nothing
  abbrev pub asked_by : (r : Retry) (s t : Both) → RetriedBy state p q r s t → List Again
  asked_by r s t (had_ended h) = []
  asked_by r s t (overtaken k u l o) = []
  asked_by r s t (went_again k u l w) = record { asked = k.content; attempt = r.attempt } ∷ []

  -- the oldest first
  abbrev pub asked_in : (s t : Both) → Retried state p q s t → List Again
  asked_in s _ none_yet = []
  asked_in s _ (one_more u t r rest before waits fed by) = asked_in s u before ++ asked_by r (without_oldest rest u) t by

  module _ {g : Ghosts O} where
    -- before each of the first n operations
    abbrev pub asked_before : (xs : List Task) (n : ℕ) (s t : Course g) → Ran state p q xs n s t → List Again
    asked_before xs zero s t e = []
    asked_before xs (suc n) s t h = asked_before xs n s h.0 h.2 ++ asked_in (both_of h.0.has) (both_of h.4.ready) h.4.retried.all.retried

-- by all retries of a client
abbrev pub all_asked : {O : Type 0} {g : Ghosts O} {state : O → OutState} {p : Plan} {q : id_plan.Plan} {first : ℕ} (x : Thread g) → IsThread state p q first x → List Again
all_asked {state = state} {p = p} {q = q} x th = asked_before state p q x.tasks th.ran.made (begins x.began) (record { has = stand th.ran.came; told = th.ran.came.outcomes.items; names = th.ran.ran.names }) th.ran.ran.ran
    ++ asked_in state p q (both_of (stand th.ran.came)) (both_of th.ran.last) th.ran.ends.1.all.retried
