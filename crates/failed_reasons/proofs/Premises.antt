-- What is asked of a run, so that its clients' failures are told, by what is known of each run of a script.
use Rattle.std.proofs.Common.{◌≡◌, ℕ, ◌+◌, ◌<◌, ◌≤◌, List, ◌∷◌, subst}
use Rattle.std.specs.Prelude.{Option}
use Rattle.std.specs.List.{AllByRecursion}
use mathlib.Core.Option.{some}
use lib.ListN.{get_elem?}
use Rattle.sock_io.specs.declared.link.Out.{Ghosts}
use Rattle.sock_io.specs.LinkHalves.{OutState}
use Rattle.sock_words.specs.declared.outcome.Outcome.{Outcome}
use Rattle.sock_words.specs.declared.plain.Plan.{Plan}
use Rattle.sock_words.specs.declared.place_word.PlaceWord.{PlaceWord}
use Rattle.sock_words.specs.declared.vref.Vref.{Vref}
use Rattle.seat_programs.specs.declared.task.Op.TheVariants as ops
use Rattle.seat_programs.specs.declared.task.Task.{Task}
use Rattle.seat_programs.specs.Explained.{AreTasks, IsTask, TaskFits, OpFits}
use Rattle.corr_core.specs.IdSlotLaw.{is_attempt}
use Rattle.corr_core.specs.declared.marks.Kept.{Kept}
use Rattle.corr_core.specs.declared.marks.Note.TheVariants.{Made}
use Rattle.corr_core.specs.declared.marks.Noted.{Noted}
use Rattle.corr_core.specs.declared.marks.View.{View}
use Rattle.corr_id.specs.id_rule.specs.LawfulIdTable.{notes_of}
use Rattle.sock_message.specs.Asked.{Asked}
use Rattle.corr_id.specs.ClosingIdLists.{Closing}
use Rattle.attempts_told.specs.Below.RpcClient.Told.{Told}
use Rattle.attempts_told.specs.Below.CallRun.ReadersOfLinks.{LinkReader}
use Rattle.attempts_told.specs.Below.CallRun.Threads.{RanWith, MayRunAll, ids_of}
use Rattle.attempts_told.specs.call_whys.specs.call_places.specs.ClientNotesCounted.{HaveNotesOf}
use Rattle.attempts_told.specs.call_whys.specs.call_places.specs.DeedsOfCallClient.{Deed}
use Rattle.attempts_told.specs.call_whys.specs.call_places.proofs.Still.{advances}
use Rattle.attempts_told.specs.call_whys.specs.call_places.proofs.ClientPlaces.{Client, tasks_of, deeds_of}
use Rattle.attempts_told.specs.call_whys.specs.call_places.proofs.CallPlaceOrders.{all as all_clients, may_make, crew_of}
use Rattle.attempts_told.specs.call_whys.specs.call_deeds.specs.RetriedCalls.{all_asked}
use Rattle.attempts_told.specs.call_whys.specs.call_deeds.proofs.Ran.{AreLater}
use Rattle.attempts_told.specs.call_whys.specs.call_deeds.proofs.RunsAsDeeds.{same_task}
use Rattle.attempts_told.specs.call_whys.specs.call_places.specs.script_facts.proofs.FilteredLists.{has_from, all_at as all_there_in}
use Rattle.attempts_told.specs.call_whys.specs.call_places.specs.sock_deeds.specs.SocketTableRun.{IsOperation}
use Rattle.attempts_told.specs.CountedAttempts.{last_attempt}
use Rattle.attempts_told.proofs.AttemptsOfCallsTold.{few as few_attempts}
use Rattle.failed_reasons.proofs.AskedCallsAreTasks.{own_task, asked_task}
use Rattle.failed_reasons.proofs.TasksOfRunClients.{is_task, own_call}
use Rattle.failed_reasons.proofs.AttemptLosses.{IsAskedIn}
use Rattle.sock_words.specs.Totals.{total}

module _ {O : Type 0} {g : Ghosts O} {state : O → OutState} {readers : List (LinkReader g)} {p : Plan} {slots : ℕ} {setup : List Task} {clients : List (List Task)} {opens : List ℕ} {told ended : List (List Told)} {places : List PlaceWord} {vrefs : List Vref} {outs : List O} {ids : List (View Asked)}
    (run : RanWith g state readers p slots setup clients opens told ended places vrefs outs ids) (tasks : AreTasks p (setup ∷ clients)) (may : MayRunAll p (ids_of p slots) setup clients)
    (notes : List (Noted Asked)) (kept : List Kept) (words : List ℕ) (closing : Closing (ids_of p slots) notes kept words) (noted : HaveNotesOf ids notes) (outcomes : List (Option Outcome))
    -- each retry is one of a later attempt of a call
    (later : (c : ℕ) (x : Client g state p (ids_of p slots)) → get_elem? (all_clients run) c ≡ some x → AreLater (setup ∷ clients) outcomes (all_asked x.thread x.is)) where
  open crew_of run use {q, crew, every}

  -- whatever was asked by a call of which an attempt was made is a task
  pub asked_so : (c : ℕ) (x : Client g state p q) → get_elem? crew c ≡ some x → (i : ℕ) (d : Deed g state p q) → get_elem? (deeds_of x) i ≡ some d → (asked : Asked) → IsAskedIn d asked → (client : ℕ) × IsOperation every outcomes client asked.operation (ops.Call asked)
  asked_so c x at i d there asked is =
      let m = may_make run may c x at in
      asked_task every outcomes x.thread x.is (λ j y here. own_task every outcomes c y (is_task run outcomes c x at j y here) (own_call p q (tasks_of x) m.0 m.1 j y here)) (later c x at) i d there asked is

  -- each id was made for a call of theirs, with as many versions as that asks for; and none but they advanced attempts
  module _ (made : (i j f r : ℕ) (asked : Asked) → i < slots → get_elem? (notes_of i notes) j ≡ some (Made f r asked) → (c : ℕ) × IsTask every outcomes c record { number = asked.operation; op = ops.Call asked } × (r ≡ asked.range))
      (own : (i f n : ℕ) → total (is_attempt f n) (notes_of i notes) ≤ total (λ (v : View Asked). advances i f n v) ids) where
    two : (c : ℕ) (t : Task) (asked : Asked) → IsTask every outcomes c t → t.op ≡ ops.Call asked → 2 ≤ asked.range
    two c t asked is op =
        let its = all_there_in (TaskFits p) is.0 t (all_there_in (AllByRecursion (TaskFits p)) every is.0 tasks.fit (c, is.1)) (has_from is.0 t is.2) in
        (subst (OpFits p) op its.1).range_low

    -- the last attempt of a call leaves its range
    pub few : (client : ℕ) (t : Task) (asked : Asked) → IsTask every outcomes client t → t.op ≡ ops.Call asked → last_attempt notes t.number + 2 ≤ asked.range
    few = few_attempts run outcomes may notes kept words closing noted own later made two (λ c d t u a b e. (same_task g state p q every outcomes tasks c d t u a b e).1)
