-- What is taken for known of a run: whose the errors are that are queued, and for which tasks attempts are made; and the deeds of its clients by which an attempt came to nothing.
use Rattle.std.specs.Prelude.{◌≡◌, ℕ, ◌<◌, ◌⊎◌, List, Option, Some}
use mathlib.Core.Option.{some}
use lib.ListN.{get_elem?}
use Rattle.sock_io.specs.declared.link.Out.{Ghosts}
use Rattle.sock_io.specs.LinkHalves.{OutState}
use Rattle.sock_words.specs.declared.outcome.Outcome.{Outcome}
use Rattle.sock_words.specs.declared.place_word.PlaceWord.{PlaceWord}
use Rattle.sock_words.specs.declared.plain.Plan.{Plan}
use Rattle.sock_words.specs.declared.vref.Vref.{Vref}
use Rattle.corr_core.specs.IdSlotWord.{code_of}
use Rattle.corr_core.specs.declared.marks.Noted.{Noted}
use Rattle.corr_core.specs.declared.marks.View.{View}
use Rattle.sock_message.specs.Asked.{Asked}
use Rattle.seat_programs.specs.declared.task.Op.TheVariants as ops
use Rattle.seat_programs.specs.declared.task.Task.{Task}
use Rattle.attempts_told.specs.Below.RpcClient.Told.{Told}
use Rattle.attempts_told.specs.Below.CallRun.ReadersOfLinks.{LinkReader}
use Rattle.attempts_told.specs.Below.CallRun.Threads.{RanWith}
use Rattle.attempts_told.specs.call_whys.specs.call_places.specs.DeedsOfCallClient.{Deed}
use Rattle.attempts_told.specs.call_whys.specs.call_places.proofs.ClientPlaces.{Client, view_of, deeds_of}
use Rattle.attempts_told.specs.call_whys.specs.call_places.proofs.CallPlaceOrders.{crew_of}
use Rattle.attempts_told.specs.call_whys.specs.call_places.specs.sock_deeds.specs.SocketTableRun.{IsOperation}
use Rattle.failed_reasons.specs.Missed.{missed_in, id_of, IsBacked, attempt_of}
use Rattle.failed_reasons.specs.ErrorReasons.{WasDropped}
use Rattle.failed_reasons.proofs.FailedAttemptCodes.{IsReadCode}
use Rattle.failed_reasons.proofs.AttemptLosses.{IsAskedIn}
use Rattle.failed_reasons.proofs.NotedErrorsInViews.{queued_in}
use Rattle.sock_words.specs.Totals.{total}

-- whatever the clients didn't queue has a code with which whoever reads the links ends calls
abbrev pub OthersRead : List (View Asked) → List (Noted Asked) → Type 0
OthersRead ids notes = (i first e : ℕ) → 0 < queued_in i first e notes → (0 < total (λ (v : View Asked). queued_in i first e v.notes) ids) ⊎ IsReadCode (code_of e)

module _ {O : Type 0} {g : Ghosts O} {state : O → OutState} {readers : List (LinkReader g)} {p : Plan} {slots : ℕ} {setup : List Task} {clients : List (List Task)} {opens : List ℕ} {told ended : List (List Told)} {places : List PlaceWord} {vrefs : List Vref} {outs : List O} {ids : List (View Asked)}
    (run : RanWith g state readers p slots setup clients opens told ended places vrefs outs ids) where
  open crew_of run use {q, every, crew}

  -- whatever was asked by a call of which an attempt was made is a task
  abbrev pub AskTasks : List (Option Outcome) → Type 0
  AskTasks outcomes = (c : ℕ) (x : Client g state p q) → get_elem? crew c ≡ some x → (i : ℕ) (d : Deed g state p q) → get_elem? (deeds_of x) i ≡ some d → (asked : Asked) → IsAskedIn d asked → (client : ℕ) × IsOperation every outcomes client asked.operation (ops.Call asked)

  -- a deed of one of the clients
  pub record OneDeed : Type 0 where
    pub place : ℕ
    pub client : Client g state p q
    pub in_crew : get_elem? crew place ≡ some client
    pub index : ℕ
    pub deed : Deed g state p q
    pub there : get_elem? (deeds_of client) index ≡ some deed

  -- attempt n of the call with this id came to nothing, with this code, as one of the clients' deeds
  pub record MissedBy (id n code : ℕ) : Type 0 where
    pub one : OneDeed
    pub open one use *
    pub missed : missed_in one.deed ≡ Some code
    pub backed : IsBacked (view_of one.client) one.deed
    pub id_is : id ≡ id_of one.deed
    pub attempt_is : n ≡ attempt_of one.deed

  -- or its message was dropped, by one of a client's deeds
  pub record DroppedBy (id n code : ℕ) : Type 0 where
    pub place : ℕ
    pub client : Client g state p q
    pub in_crew : get_elem? crew place ≡ some client
    pub drop : WasDropped state p q (deeds_of client) id code n
