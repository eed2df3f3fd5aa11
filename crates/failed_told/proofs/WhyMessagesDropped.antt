-- Why messages were dropped, and with which codes errors are posted, by what is known of each run of a script.
use Rattle.std.proofs.Common.{◌≡◌, ℕ, ◌<◌, ◌≤◌, List, [], ◌∷◌, map}
use Rattle.std.specs.Prelude.{Option}
use Rattle.sock_io.specs.declared.link.Out.{Ghosts}
use Rattle.sock_io.specs.LinkHalves.{OutState}
use Rattle.sock_words.specs.declared.outcome.Outcome.{Outcome}
use Rattle.sock_words.specs.declared.plain.Plan.{Plan}
use Rattle.sock_words.specs.declared.place_word.PlaceWord.{PlaceWord}
use Rattle.sock_words.specs.declared.vref.Vref.{Vref}
use Rattle.failed_ends.specs.Below.SockRule.ClosingWordsAndNotes.{PlacesDiffer}
use Rattle.seat_programs.specs.declared.task.Op.TheVariants as ops
use Rattle.seat_programs.specs.declared.task.Task.{Task}
use Rattle.seat_programs.specs.Explained.{AreTasks, IsTask, Became}
use Rattle.seat_programs.specs.ExplainedCalls.{WhyExpire}
use Rattle.corr_core.specs.IdSlotWord.{code_of}
use Rattle.corr_core.specs.declared.marks.Kept.{Kept}
use Rattle.corr_core.specs.declared.marks.Noted.{Noted}
use Rattle.corr_core.specs.declared.marks.View.{View}
use Rattle.sock_message.specs.Asked.{Asked}
use Rattle.corr_id.specs.ClosingIdLists.{Closing}
use Rattle.failed_ends.specs.Below.RpcClient.Told.{Told}
use Rattle.failed_ends.specs.Below.CallRun.ReadersOfLinks.{LinkReader}
use Rattle.failed_ends.specs.Below.CallRun.Threads.{Thread, RanWith, MayRunAll, ids_of}
use Rattle.failed_ends.specs.call_whys.specs.call_places.specs.ClientNotesCounted.{HaveNotesOf}
use Rattle.failed_ends.specs.call_whys.specs.expire_told.specs.ExpireOutcomesSaid.{AreSaid, HaveKeptOf, WhyExpired}
use Rattle.failed_ends.specs.call_whys.specs.call_places.specs.sock_deeds.specs.SocketTableRun.{IsOperation, seat_of, DeedRun}
use Rattle.failed_ends.specs.call_whys.specs.call_places.specs.sock_deeds.proofs.MessagesAcceptedByDeeds.{log}
use Rattle.failed_ends.specs.call_whys.specs.call_places.specs.sock_deeds.proofs.OrdersOfDeeds.{orders}
use Rattle.failed_ends.specs.call_whys.specs.call_places.specs.sock_deeds.proofs.WholeSocketDeeds.{fixed, log_accepted}
use Rattle.failed_told.proofs.DroppedAttempts.{dropped_why}
use Rattle.failed_told.proofs.WhyClientCallsFailed.{TellsDrops}
use Rattle.failed_told.proofs.PostedCodes.{queued_posted, expire_posted}
use Rattle.failed_ends.specs.failed_reasons.proofs.NotedErrorsInViews.{queued_in}
use Rattle.failed_ends.specs.failed_reasons.proofs.FailedRunPremises.{OthersRead}
use Rattle.seat_programs.specs.brpc_model.specs.Why.{IsPosted}

module _ {O : Type 0} {g : Ghosts O} {state : O → OutState} {readers : List (LinkReader g)} {p : Plan} {slots : ℕ} {setup : List Task} {clients : List (List Task)} {opens : List ℕ} {told ended : List (List Told)} {places : List PlaceWord} {vrefs : List Vref} {outs : List O} {ids : List (View Asked)}
    (run : RanWith g state readers p slots setup clients opens told ended places vrefs outs ids) (tasks : AreTasks p (setup ∷ clients)) (may : MayRunAll p (ids_of p slots) setup clients)
    (notes : List (Noted Asked)) (kept : List Kept) (words : List ℕ) (closing : Closing (ids_of p slots) notes kept words) (noted : HaveNotesOf ids notes) (outcomes : List (Option Outcome))
    -- what the seats did at the table of sockets, with readers of links beside them
    (drun : DeedRun g state p (setup ∷ clients) outcomes places vrefs outs) (seats : map seat_of drun.seats ≡ map (λ (x : Thread g). x.ended.seat) (run.ran.main ∷ run.ran.others)) (logged : log drun ≡ run.closed.ordered.log)
    (differ : PlacesDiffer (log drun)) (gave : ℕ → List ℕ) (few : p.operations ≤ 65536) (few_links : p.links ≤ 65536)
    -- the codes that a `fail` may have in a script
    (bounds : (client number name code : ℕ) → IsOperation (setup ∷ clients) outcomes client number (ops.Fail name code) → (1500 ≤ code) × (code ≤ 1999)) where
  -- each message that a client dropped is that of an attempt that stands behind the placed ones, and its code has a cause
  pub drops_with : TellsDrops run notes outcomes drun differ gave
  drops_with = dropped_why run tasks may notes kept words closing noted outcomes drun seats logged differ gave (log_accepted drun differ (λ k. [])) few few_links bounds

  module _ (keeps : HaveKeptOf ids kept) (said_own : AreSaid outcomes told) (said_ended : AreSaid outcomes ended) (others : OthersRead ids notes) where
    -- whatever was queued has a code that is posted
    pub codes_with : (i f e : ℕ) → 0 < queued_in i f e notes → IsPosted (code_of e)
    codes_with = queued_posted run tasks may notes kept words closing noted keeps outcomes said_own said_ended others drun seats logged differ gave (log_accepted drun differ (λ k. [])) few few_links bounds

    -- and so have both errors of a crowded id: each `expire` has its outcome as is told of it
    pub expires_with : (last : ℕ → ℕ) (c of : ℕ) (t : Task) (by : Outcome) → IsTask (setup ∷ clients) outcomes c t → t.op ≡ ops.Expire of → Became (setup ∷ clients) outcomes t.number by
        → WhyExpired p (setup ∷ clients) outcomes (fixed drun differ gave) gave (orders drun differ) c t.number of by → WhyExpire p (setup ∷ clients) outcomes (fixed drun differ gave) gave (orders drun differ) last c t.number of by
    expires_with = expire_posted run tasks may notes kept words closing noted keeps outcomes said_own said_ended others drun seats logged differ gave (log_accepted drun differ (λ k. [])) few few_links bounds
