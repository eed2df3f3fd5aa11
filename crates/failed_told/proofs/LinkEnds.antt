-- By which link's reading each call ended that a client told to have failed with a code of whoever reads links.
use Rattle.std.proofs.Common.{◌≡◌, ℕ, ◌+◌, ◌*◌, ◌<◌, ◌≤◌, ◌⊎◌, inl, inr, List, [], ◌∷◌, map, refl, sym, ap, ◌∙◌, subst, arith}
use Rattle.std.specs.Prelude.{Option}
use mathlib.Core.Option.{some}
use lib.ListN.{get_elem?}
use Rattle.sock_io.specs.declared.link.Out.{Ghosts}
use Rattle.sock_io.specs.LinkHalves.{OutState}
use Rattle.sock_words.specs.declared.outcome.Outcome.{Outcome}
use Rattle.sock_words.specs.declared.outcome.Outcome.TheVariants.{CallFailed}
use Rattle.sock_words.specs.declared.plain.Plan.{Plan}
use Rattle.sock_words.specs.declared.place_word.PlaceWord.{PlaceWord}
use Rattle.sock_words.specs.declared.vref.Vref.{Vref}
use Rattle.failed_ends.specs.Below.SockRule.ClosingWordsAndNotes.{PlacesDiffer}
use Rattle.seat_programs.specs.declared.task.Op.TheVariants as ops
use Rattle.seat_programs.specs.declared.task.Task.{Task}
use Rattle.seat_programs.specs.Explained.{AreTasks, IsTask}
use Rattle.corr_core.specs.IdSlotWord.{parts}
use Rattle.corr_core.specs.declared.marks.Kept.{Kept}
use Rattle.corr_core.specs.declared.marks.Note.TheVariants.{Made}
use Rattle.corr_core.specs.declared.marks.Noted.{Noted}
use Rattle.corr_core.specs.declared.marks.View.{View}
use Rattle.corr_id.specs.id_rule.specs.LawfulIdTable.{notes_of}
use Rattle.sock_message.specs.Asked.{Asked}
use Rattle.corr_id.specs.ClosingIdLists.{Closing}
use Rattle.corr_id.specs.PostAnswers.{IsTimely}
use Rattle.failed_ends.specs.Below.RpcClient.Told.{Told}
use Rattle.failed_ends.specs.Below.CallErrors.LockingByVersion.{id_in}
use Rattle.failed_ends.specs.Below.CallRun.ReadersOfLinks.{LinkReader}
use Rattle.failed_ends.specs.Below.CallRun.Threads.{Thread, RanWith, MayRunAll, ids_of}
use Rattle.failed_ends.specs.call_whys.specs.call_places.specs.ClientNotesCounted.{HaveNotesOf}
use Rattle.failed_ends.specs.call_whys.specs.call_places.proofs.ClientPlaces.{Client, view_of, tasks_of, deeds_of}
use Rattle.failed_ends.specs.call_whys.specs.call_places.proofs.IdsOfRetries.{IsIdOf}
use Rattle.failed_ends.specs.call_whys.specs.call_places.proofs.CallPlaceOrders.{all as all_clients, all_are, made_once}
use Rattle.failed_ends.specs.call_whys.specs.call_told.proofs.ListElementsByPlace.{all_at}
use Rattle.failed_ends.specs.call_whys.specs.call_deeds.specs.RetriedCalls.{all_asked}
use Rattle.failed_ends.specs.call_whys.specs.call_deeds.proofs.Ran.{AreLater}
use Rattle.failed_ends.specs.call_whys.specs.expire_told.specs.ExpireOutcomesSaid.{AreSaid, HaveKeptOf}
use Rattle.failed_ends.specs.call_whys.specs.call_places.specs.sock_deeds.specs.SocketTableRun.{IsOperation, seat_of, DeedRun}
use Rattle.failed_ends.specs.call_whys.specs.call_places.specs.sock_deeds.proofs.MessagesAcceptedByDeeds.{log}
use Rattle.failed_ends.specs.call_whys.specs.call_places.specs.sock_deeds.proofs.DeedsForTasks.{same_task}
use Rattle.failed_ends.specs.call_whys.specs.call_places.specs.sock_deeds.proofs.WholeSocketDeeds.{log_accepted}
use Rattle.failed_ends.specs.attempts_told.specs.CountedAttempts.{last_attempt}
use Rattle.failed_ends.specs.attempts_told.proofs.AttemptsOfCallsTold.{same_asked}
use Rattle.failed_ends.specs.failed_reasons.specs.ErrorReasons.{IsCaused}
use Rattle.failed_told.proofs.ByLinks.{EndedOn, QueuedSo, WasEnded, weak, DroppedSo, over_here, client_why, same_id, same_end}
use Rattle.failed_ends.proofs.ClientEndsByErrors.{Says, ended_caused}
use Rattle.failed_ends.specs.failed_reasons.proofs.FailedAttemptCodes.{IsReadCode}
use Rattle.failed_told.proofs.DroppedAttempts.{DroppedOn, read_dropped}
use Rattle.failed_ends.proofs.EndedAtLastAttempt.{ended_last}
use Rattle.failed_ends.specs.failed_reasons.proofs.Premises.{asked_so as asked_here}
use Rattle.failed_ends.proofs.Verdicts.{made_so}
use Rattle.failed_ends.specs.failed_reasons.proofs.NotedErrorsInViews.{queued_in}
use Rattle.failed_ends.specs.call_whys.specs.call_places.specs.sock_deeds.proofs.ListPlaces.{map_back}
use Rattle.sock_words.specs.Totals.{total}

module _ {O : Type 0} {g : Ghosts O} {state : O → OutState} {readers : List (LinkReader g)} {p : Plan} {slots : ℕ} {setup : List Task} {clients : List (List Task)} {opens : List ℕ} {told ended : List (List Told)} {places : List PlaceWord} {vrefs : List Vref} {outs : List O} {ids : List (View Asked)}
    (run : RanWith g state readers p slots setup clients opens told ended places vrefs outs ids) (tasks : AreTasks p (setup ∷ clients)) (may : MayRunAll p (ids_of p slots) setup clients)
    (notes : List (Noted Asked)) (kept : List Kept) (words : List ℕ) (closing : Closing (ids_of p slots) notes kept words) (noted : HaveNotesOf ids notes) (keeps : HaveKeptOf ids kept)
    (outcomes : List (Option Outcome)) (said_own : AreSaid outcomes told) (said_ended : AreSaid outcomes ended)
    (later : (c : ℕ) (x : Client g state p (ids_of p slots)) → get_elem? (all_clients run) c ≡ some x → AreLater (setup ∷ clients) outcomes (all_asked x.thread x.is))
    (made : (i j f r : ℕ) (asked : Asked) → i < slots → get_elem? (notes_of i notes) j ≡ some (Made f r asked) → (c : ℕ) × IsTask (setup ∷ clients) outcomes c record { number = asked.operation; op = ops.Call asked } × (r ≡ asked.range))
    (drun : DeedRun g state p (setup ∷ clients) outcomes places vrefs outs) (seats : map seat_of drun.seats ≡ map (λ (x : Thread g). x.ended.seat) (run.ran.main ∷ run.ran.others)) (logged : log drun ≡ run.closed.ordered.log)
    (differ : PlacesDiffer (log drun)) (gave : ℕ → List ℕ) (few : p.operations ≤ 65536) (few_slots : slots ≤ 65536) (few_links : p.links < 65536)
    -- the codes that a `fail` may have in a script
    (bounds : (client number name code : ℕ) → IsOperation (setup ∷ clients) outcomes client number (ops.Fail name code) → (1500 ≤ code) × (code ≤ 1999))
    -- the reading of this link ended with this code
    (Reads : ℕ → ℕ → Type 0) (Alone : ℕ → Type 0) (read_code : (link code : ℕ) → Reads link code → IsReadCode code) where
  abbrev every : List (List Task)
  every = setup ∷ clients

  pub low_links : p.links ≤ 65536
  low_links = omega (arith, few_links)

  abbrev pub EndedHere : ℕ → Asked → ℕ → ℕ → Type 0
  EndedHere o asked id code = EndedOn run tasks may notes kept words closing noted keeps outcomes drun seats logged differ gave (log_accepted drun differ (λ k. [])) few_slots few_links (asked_here run tasks may notes kept words closing noted outcomes later) Reads Alone o asked id code

  -- an attempt's message was dropped, or that of the last one
  abbrev DroppedAt : ℕ → Asked → ℕ → ℕ → Type 0
  DroppedAt o asked code n = DroppedOn run tasks may notes kept words closing noted outcomes drun seats logged differ gave (log_accepted drun differ (λ k. [])) few (low_links) bounds o asked code n

  abbrev pub DroppedHere : ℕ → Asked → ℕ → Type 0
  DroppedHere o asked code = DroppedAt o asked code (last_attempt notes o)

  abbrev pub QueuedHere : ℕ → ℕ → ℕ → Type 0
  QueuedHere i first e = QueuedSo run tasks may notes kept words closing noted keeps outcomes drun seats logged differ gave (log_accepted drun differ (λ k. [])) few_slots few_links (asked_here run tasks may notes kept words closing noted outcomes later) Reads Alone i first e

  abbrev pub WasEndedHere : ℕ → ℕ → Type 0
  WasEndedHere i first = WasEnded run tasks may notes kept words closing noted keeps outcomes drun seats logged differ gave (log_accepted drun differ (λ k. [])) few_slots few_links (asked_here run tasks may notes kept words closing noted outcomes later) Reads Alone i first

  -- what no client queued, a reader did
  module _ (others : (i first e : ℕ) → 0 < queued_in i first e notes → (0 < total (λ (v : View Asked). queued_in i first e v.notes) ids) ⊎ QueuedHere i first e) where
    of_client : (c : ℕ) (x : Client g state p (ids_of p slots)) (at : get_elem? (all_clients run) c ≡ some x) (one : Told) (e : IsCaused state p (ids_of p slots) (tasks_of x) (Says run outcomes said_own) (deeds_of x) (view_of x) one) → WasEndedHere e.lock.slot (parts e.lock.word.0).first → IsReadCode e.code → (client : ℕ) (asked : Asked) → IsOperation every outcomes client e.lock.content.operation (ops.Call asked)
        → EndedHere e.lock.content.operation asked (id_in e.lock) e.code ⊎ DroppedHere e.lock.content.operation asked e.code
    of_client c x at one e was read client asked task =
        elim (client_why run tasks may notes kept words closing noted keeps outcomes drun seats logged differ gave (log_accepted drun differ (λ k. [])) few_slots few_links (asked_here run tasks may notes kept words closing noted outcomes later) Reads Alone said_own said_ended others read_code c x at one e was read client asked task) [
          | inl h ↦ inl h
          | inr d ↦ inr (by d)
        ]
      where
        its : (call : Asked) × (j : ℕ) × (call.operation ≡ e.lock.content.operation) × (get_elem? (notes_of e.lock.slot notes) j ≡ some (Made (parts e.lock.word.0).first (parts e.lock.word.0).range call))
        its = made_so run tasks may notes kept words closing noted keeps outcomes said_own said_ended (weak run tasks may notes kept words closing noted keeps outcomes drun seats logged differ gave (log_accepted drun differ (λ k. [])) few_slots few_links (asked_here run tasks may notes kept words closing noted outcomes later) Reads Alone said_own said_ended others read_code) c x at one e

        by : DroppedSo run tasks may notes kept words closing noted keeps outcomes drun seats logged differ gave (log_accepted drun differ (λ k. [])) few_slots few_links (asked_here run tasks may notes kept words closing noted outcomes later) Reads Alone said_own said_ended others read_code c x at one e → DroppedHere e.lock.content.operation asked e.code
        by d =
            let m = its in
            let w = made e.lock.slot m.1 (parts e.lock.word.0).first (parts e.lock.word.0).range m.0 e.cause.inside m.3 in
            let s = same_task drun w.0 client record { number = m.0.operation; op = ops.Call m.0 } record { number = e.lock.content.operation; op = ops.Call asked } w.1 task m.2 in
            let same : m.0 ≡ asked = same_asked m.0 asked (ap (λ (t : Task). t.op) s.1) in
            let dropped = read_dropped run tasks may notes kept words closing noted outcomes drun seats logged differ gave (log_accepted drun differ (λ k. [])) few (low_links) bounds d.place d.client d.in_crew (id_in e.lock) e.code d.attempt d.drop read
            e.lock.slot (parts e.lock.word.0).first (parts e.lock.word.0).range m.1 m.0 e.cause.inside (let l = e.lock.fits.low in omega (arith, l)) refl m.3 w.0 w.1 in
            let id : IsIdOf slots notes m.0.operation (id_in e.lock) = record {
              slot = e.lock.slot;
              first = (parts e.lock.word.0).first;
              inside = e.cause.inside;
              low = (let l = e.lock.fits.low in omega (arith, l));
              id_is = refl;
              range = (parts e.lock.word.0).range;
              asked = m.0;
              place = m.1;
              made = m.3;
              operation = refl;
            } in
            let over = over_here run tasks may notes kept words closing noted keeps outcomes drun seats logged differ gave (log_accepted drun differ (λ k. [])) few_slots few_links (asked_here run tasks may notes kept words closing noted outcomes later) Reads Alone said_own said_ended others read_code c x at one e in
            let most = ended_last (ids_of p slots) notes kept words closing m.0.operation (id_in e.lock) (parts e.lock.word.0).attempt id (made_once run tasks may notes noted m.0.operation) over in
            let current : d.attempt ≡ (parts e.lock.word.0).attempt = subst (λ (a : Option ℕ). IsTimely a (parts e.lock.word.0).attempt) d.current e.cause.timely in
            let below = dropped.low in let last : d.attempt ≡ last_attempt notes m.0.operation = omega (arith, current, most, below) in
            let dropped_last : DroppedHere m.0.operation m.0 e.code = subst (DroppedAt m.0.operation m.0 e.code) last dropped in
            subst (λ (o : ℕ). DroppedHere o asked e.code) m.2 (subst (λ (a : Asked). DroppedHere m.0.operation a e.code) same dropped_last)

    -- of each end that is told behind the operations of a client
    pub told_on : (c i : ℕ) (ts : List Told) (one : Told) → get_elem? ended c ≡ some ts → get_elem? ts i ≡ some one → (id code : ℕ) → one.outcome ≡ CallFailed id code → ((slot first : ℕ) → id ≡ slot * 4294967296 + first → first < 4294967296 → WasEndedHere slot first) → IsReadCode code → (client : ℕ) (asked : Asked) → IsOperation every outcomes client one.number (ops.Call asked) → EndedHere one.number asked id code ⊎ DroppedHere one.number asked code
    told_on c i ts one at there id code is was read client asked task =
        let f : Thread g → List Told = λ x. x.ended.calls.told.items in
        let w = map_back (λ (x : Client g state p (ids_of p slots)). f x.thread) (all_clients run) c ts (ap (λ (l : List (List Told)). get_elem? l c) (all_are run f ∙ run.ran.ended_is) ∙ at) in
        let Caused : Told → Type 0 = IsCaused state p (ids_of p slots) (tasks_of w.0) (Says run outcomes said_own) (deeds_of w.0) (view_of w.0) in
        let e : Caused one = all_at Caused w.0.thread.ended.calls.told.items i one (ended_caused run outcomes said_own c w.0 w.1).1 (ap (λ (l : List Told). get_elem? l i) w.2 ∙ there) in
        let number : one.number ≡ e.lock.content.operation = ap (λ (t : Told). t.number) e.is in
        let same : e.code ≡ code = same_end (id_in e.lock) e.code id code (sym (ap (λ (t : Told). t.outcome) e.is) ∙ is) in
        let shown : id_in e.lock ≡ id = same_id (id_in e.lock) e.code id code (sym (ap (λ (t : Told). t.outcome) e.is) ∙ is) in
        let why = of_client c w.0 w.1 one e (was e.lock.slot (parts e.lock.word.0).first (sym shown) (let l = e.lock.fits.low in omega (arith, l))) (subst IsReadCode (sym same) read) client asked (subst (λ (n : ℕ). IsOperation every outcomes client n (ops.Call asked)) number task) in
        subst (λ (z : ℕ). EndedHere one.number asked id z ⊎ DroppedHere one.number asked z) same
        (subst (λ (z : ℕ). EndedHere one.number asked z e.code ⊎ DroppedHere one.number asked e.code) shown (subst (λ (n : ℕ). EndedHere n asked (id_in e.lock) e.code ⊎ DroppedHere n asked e.code) (sym number) why))
