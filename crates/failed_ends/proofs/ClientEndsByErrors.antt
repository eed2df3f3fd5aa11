-- Of all clients of a run: each end of a call that one of them told goes back to an error that was posted, and so does each error that one of them queued, and each advance of an id that one of them noted.
use Rattle.std.proofs.Common.{◌≡◌, ◌<◌, ℕ, List, ◌∷◌, sym, ap, ◌∙◌}
use Rattle.std.specs.Prelude.{Option}
use Rattle.std.specs.List.{AllByRecursion}
use mathlib.Core.Option.{some}
use lib.ListN.{get_elem?}
use Rattle.atomic_table.specs.Table.{Me}
use Rattle.sock_io.specs.declared.link.Out.{Ghosts}
use Rattle.sock_io.specs.LinkHalves.{OutState}
use Rattle.sock_words.specs.declared.outcome.Outcome.{Outcome}
use Rattle.sock_words.specs.declared.plain.Plan.{Plan}
use Rattle.sock_words.specs.declared.place_word.PlaceWord.{PlaceWord}
use Rattle.sock_words.specs.declared.vref.Vref.{Vref}
use Rattle.seat_programs.specs.declared.task.Task.{Task}
use Rattle.seat_programs.specs.Explained.{Became}
use Rattle.corr_core.specs.declared.marks.View.{View}
use Rattle.sock_message.specs.Asked.{Asked}
use Rattle.failed_reasons.specs.Below.RpcClient.Told.{Told}
use Rattle.failed_reasons.specs.Below.CallErrors.ClientBooks.{Books}
use Rattle.failed_reasons.specs.Below.CallRun.ReadersOfLinks.{LinkReader}
use Rattle.failed_reasons.specs.Below.CallRun.Threads.{Thread, RanWith, ids_of}
use Rattle.failed_reasons.specs.call_whys.specs.call_places.proofs.ClientPlaces.{Client, view_of, tasks_of, deeds_of}
use Rattle.failed_reasons.specs.call_whys.specs.call_places.proofs.CallPlaceOrders.{all as all_clients, all_are}
use Rattle.failed_reasons.specs.call_whys.specs.expire_told.specs.ExpireOutcomesSaid.{AreSaid}
use Rattle.failed_reasons.specs.call_whys.specs.expire_told.proofs.ClientAtOperation.{run_fed}
use Rattle.failed_reasons.specs.ErrorReasons.{IsCaused, QueuedFor, AdvancedFor}
use Rattle.failed_reasons.proofs.NotedErrorsInViews.{queued_in, advanced_in}
use Rattle.failed_ends.proofs.Origins.{AreDeeds, run_caused, run_queued, run_advanced}
use Rattle.failed_reasons.specs.call_whys.specs.call_places.specs.sock_deeds.proofs.ListPlaces.{map_there}

module _ {O : Type 0} {g : Ghosts O} {state : O → OutState} {readers : List (LinkReader g)} {p : Plan} {slots : ℕ} {setup : List Task} {clients : List (List Task)} {opens : List ℕ} {told ended : List (List Told)} {places : List PlaceWord} {vrefs : List Vref} {outs : List O} {ids : List (View Asked)}
    (run : RanWith g state readers p slots setup clients opens told ended places vrefs outs ids) (outcomes : List (Option Outcome)) (said : AreSaid outcomes told) where
  -- client c told these ends
  ended_is : (c : ℕ) (x : Client g state p (ids_of p slots)) → get_elem? (all_clients run) c ≡ some x → get_elem? ended c ≡ some x.thread.ended.calls.told.items
  ended_is c x at = let f : Thread g → List Told = λ y. y.ended.calls.told.items in
      ap (λ (l : List (List Told)). get_elem? l c) (sym (all_are run f ∙ run.ran.ended_is)) ∙ map_there (λ (y : Client g state p (ids_of p slots)). f y.thread) (all_clients run) c x at

  -- what is reported of a client's tasks
  abbrev pub Says : ℕ → Outcome → Type 0
  Says n o = Became (setup ∷ clients) outcomes n o

  pub says_own : (c : ℕ) (x : Client g state p (ids_of p slots)) → get_elem? (all_clients run) c ≡ some x → (j : ℕ) (y : Told) → get_elem? x.thread.ended.outcomes.items j ≡ some y → Says y.number y.outcome
  says_own c x at j y there =
      let f : Thread g → List Told = λ y. y.ended.outcomes.items in
      let list : get_elem? told c ≡ some x.thread.ended.outcomes.items = ap (λ (l : List (List Told)). get_elem? l c) (sym (all_are run f ∙ run.ran.told_is)) ∙ map_there (λ (y : Client g state p (ids_of p slots)). f y.thread) (all_clients run) c x at in
      said c j x.thread.ended.outcomes.items y list there

  -- its deeds are those of its run
  are_deeds : (x : Client g state p (ids_of p slots)) → AreDeeds state p (ids_of p slots) (tasks_of x) Says (deeds_of x) x.thread.began x.thread.ended x.is.ran
  are_deeds x d j at = (j, at)

  -- and each is caused, where an `expire` of its own is what is reported of it
  pub ended_caused : (c : ℕ) (x : Client g state p (ids_of p slots)) → get_elem? (all_clients run) c ≡ some x → (get_elem? ended c ≡ some x.thread.ended.calls.told.items) × AllByRecursion (IsCaused state p (ids_of p slots) (tasks_of x) Says (deeds_of x) (view_of x)) x.thread.ended.calls.told.items
  ended_caused c x at = (
    ended_is c x at,
    run_caused state p (ids_of p slots) (tasks_of x) Says (deeds_of x) x.thread.began x.thread.ended x.is.ran (are_deeds x) (ap (λ (b : Books). b.told) x.is.nothing.books) (says_own c x at) (run_fed state p (ids_of p slots) x.thread.began x.thread.ended x.is.ran),
  )

  -- it had a reason for each error that it queued
  pub queued_caused : (c : ℕ) (x : Client g state p (ids_of p slots)) → get_elem? (all_clients run) c ≡ some x → (i first e : ℕ) → 0 < queued_in i first e (view_of x).notes → QueuedFor state p (ids_of p slots) (tasks_of x) Says (deeds_of x) (view_of x) i first e
  queued_caused c x at = run_queued state p (ids_of p slots) (tasks_of x) Says (deeds_of x) x.thread.began x.thread.ended x.is.ran (are_deeds x) (ap (λ (m : Me (Option Asked) (View Asked)). m.0.notes) x.is.ids) (says_own c x at)

  -- and a cause for each advance that it noted
  pub advanced_caused : (c : ℕ) (x : Client g state p (ids_of p slots)) → get_elem? (all_clients run) c ≡ some x → (i first n : ℕ) → 0 < advanced_in i first n (view_of x).notes → AdvancedFor state p (ids_of p slots) (tasks_of x) Says (deeds_of x) (view_of x) i first n
  advanced_caused c x at = run_advanced state p (ids_of p slots) (tasks_of x) Says (deeds_of x) x.thread.began x.thread.ended x.is.ran (are_deeds x) (ap (λ (m : Me (Option Asked) (View Asked)). m.0.notes) x.is.ids) (says_own c x at)
