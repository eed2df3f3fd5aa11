-- Why the calls failed whose ends the clients of a run told: since an `expire` of them was answered, since their last attempt was lost or dropped, or by whoever read the links.
use Rattle.std.proofs.Common.{◌≡◌, ℕ, ◌+◌, ◌*◌, ◌/◌, ◌%◌, ◌<◌, ◌≤◌, ◌⊎◌, ◌||◌, ◌==◌, Bool, false, inl, inr, List, [], ◌∷◌, length, map, ne_eqb, refl, sym, ap, ◌∙◌, subst, arith}
use Rattle.std.specs.Prelude.{Option}
use mathlib.Core.Option.{some}
use lib.ListN.{get_elem?}
use Rattle.sock_io.specs.declared.link.Out.{Ghosts}
use Rattle.sock_io.specs.LinkHalves.{OutState}
use Rattle.sock_words.specs.ErrorCodes.{EEOF, EFAILEDSOCKET, EINTERNAL, ERESPONSE, ERPCTIMEDOUT, is_final}
use Rattle.sock_words.specs.declared.outcome.Outcome.{Outcome}
use Rattle.sock_words.specs.declared.outcome.Outcome.TheVariants.{CallFailed}
use Rattle.sock_words.specs.declared.plain.Plan.{Plan}
use Rattle.sock_words.specs.declared.place_word.PlaceWord.{PlaceWord}
use Rattle.sock_words.specs.declared.vref.Vref.{Vref}
use Rattle.sock_model.specs.declared.chain.Entry.{Entry}
use Rattle.failed_ends.specs.Below.SockRule.ClosingWordsAndNotes.{PlacesDiffer}
use Rattle.seat_programs.specs.declared.task.Op.TheVariants as ops
use Rattle.seat_programs.specs.declared.task.Task.{Task}
use Rattle.seat_programs.specs.Explained.{AreTasks, IsTask}
use Rattle.seat_programs.specs.ExplainedCalls.{Accepted, IsDropped, IsFailedWith, WhyLost, FailedBy, BySocket, ByFail, all_accepted}
use Rattle.corr_core.specs.IdSlotLaw.{is_attempt}
use Rattle.corr_core.specs.IdSlotWord.{parts}
use Rattle.corr_core.specs.declared.marks.Kept.{Kept}
use Rattle.corr_core.specs.declared.marks.Note.TheVariants.{Made}
use Rattle.corr_core.specs.declared.marks.Noted.{Noted}
use Rattle.corr_core.specs.declared.marks.View.{View}
use Rattle.corr_id.specs.id_rule.specs.LawfulIdTable.{notes_of}
use Rattle.sock_message.specs.Asked.{Asked, name_of}
use Rattle.corr_id.specs.ClosingIdLists.{Closing}
use Rattle.call_table.specs.declared.errors.Decision.TheVariants as decisions
use Rattle.failed_ends.specs.Below.RpcClient.Told.{Told}
use Rattle.failed_ends.specs.Below.CallErrors.LockingByVersion.{id_in}
use Rattle.failed_ends.specs.Below.CallErrors.Handling.{decision}
use Rattle.failed_ends.specs.Below.CallRun.ReadersOfLinks.{LinkReader}
use Rattle.failed_ends.specs.Below.CallRun.Threads.{Thread, RanWith, MayRunAll, ids_of}
use Rattle.failed_ends.specs.call_whys.specs.call_places.specs.ClientNotesCounted.{HaveNotesOf}
use Rattle.failed_ends.specs.call_whys.specs.call_places.proofs.Still.{advances}
use Rattle.failed_ends.specs.call_whys.specs.call_places.proofs.IdsOfRetries.{IsIdOf}
use Rattle.failed_ends.specs.call_whys.specs.call_places.proofs.ClientPlaces.{Client, view_of, tasks_of, deeds_of}
use Rattle.failed_ends.specs.call_whys.specs.call_places.proofs.CallPlaceOrders.{all as all_clients, all_are, crew_of}
use Rattle.failed_ends.specs.call_whys.specs.call_told.proofs.ListElementsByPlace.{all_at}
use Rattle.failed_ends.specs.call_whys.specs.call_deeds.specs.RetriedCalls.{all_asked}
use Rattle.failed_ends.specs.call_whys.specs.call_deeds.proofs.Ran.{AreLater}
use Rattle.failed_ends.specs.call_whys.specs.expire_told.specs.ExpireOutcomesSaid.{AreSaid, HaveKeptOf}
use Rattle.failed_ends.specs.call_whys.specs.call_places.specs.sock_deeds.specs.SocketTableRun.{IsOperation, seat_of, DeedRun}
use Rattle.failed_ends.specs.call_whys.specs.call_places.specs.sock_deeds.proofs.MessagesAcceptedByDeeds.{log}
use Rattle.failed_ends.specs.call_whys.specs.call_places.specs.sock_deeds.proofs.OrdersOfDeeds.{orders, entry_on}
use Rattle.failed_ends.specs.call_whys.specs.call_places.specs.sock_deeds.proofs.DeedsForTasks.{same_task}
use Rattle.failed_ends.specs.call_whys.specs.call_places.specs.sock_deeds.proofs.WholeSocketDeeds.{fixed, log_accepted, laws_of}
use Rattle.failed_ends.specs.attempts_told.specs.CountedAttempts.{last_attempt}
use Rattle.failed_ends.specs.attempts_told.proofs.AttemptsOfCallsTold.{same_asked}
use Rattle.failed_ends.specs.failed_reasons.specs.Missed.{id_of, attempt_of}
use Rattle.failed_ends.specs.failed_reasons.specs.ErrorReasons.{WasDropped, IsCaused}
use Rattle.failed_ends.proofs.ClientEndsByErrors.{Says, ended_caused}
use Rattle.failed_ends.specs.failed_reasons.proofs.FailedAttemptCodes.{IsReadCode}
use Rattle.failed_ends.proofs.Fallen.{Fallen, fell, none_opened}
use Rattle.failed_ends.specs.failed_reasons.proofs.Premises.{asked_so as asked_here, few as few_here}
use Rattle.failed_ends.proofs.Single.{sender, made_low}
use Rattle.failed_told.proofs.UnopenedNameOfRetry.{unopened_why}
use Rattle.failed_ends.proofs.Verdicts.{last_one, made_so, MissedLast, DroppedLast, timed, lost, fell as dropped_last, behind, verdict, by_expiry, IsAskedSo}
use Rattle.failed_told.proofs.WholeFailedCallReason.{IsFallen, missed_why}
use Rattle.failed_ends.specs.call_whys.specs.call_places.specs.sock_deeds.proofs.ListPlaces.{map_back}
use Rattle.failed_ends.specs.failed_reasons.proofs.FailedRunPremises.{OthersRead, AskTasks}
use Rattle.sock_words.specs.Totals.{total}

-- ## A `fail`'s code leaves retries

all_false : (a b c d : Bool) → a ≡ false → b ≡ false → c ≡ false → d ≡ false → (a || (b || (c || d))) ≡ false
all_false a b c d ea eb ec ed = ap (λ (x : Bool). x || (b || (c || d))) ea ∙ (ap (λ (x : Bool). x || (c || d)) eb ∙ (ap (λ (x : Bool). x || d) ec ∙ ed))

fail_open : (code : ℕ) → 1500 ≤ code → code ≤ 1999 → is_final code ≡ false
fail_open code low high = all_false (code == ERPCTIMEDOUT) (code == EEOF) (code == EINTERNAL) (code == ERESPONSE)
    (ne_eqb code ERPCTIMEDOUT (λ e. omega (arith, e, low, high))) (ne_eqb code EEOF (λ e. omega (arith, e, low, high))) (ne_eqb code EINTERNAL (λ e. omega (arith, e, low, high))) (ne_eqb code ERESPONSE (λ e. omega (arith, e, low, high)))

-- ## The run

module _ {O : Type 0} {g : Ghosts O} {state : O → OutState} {readers : List (LinkReader g)} {p : Plan} {slots : ℕ} {setup : List Task} {clients : List (List Task)} {opens : List ℕ} {told ended : List (List Told)} {places : List PlaceWord} {vrefs : List Vref} {outs : List O} {ids : List (View Asked)}
    (run : RanWith g state readers p slots setup clients opens told ended places vrefs outs ids) (notes : List (Noted Asked)) (outcomes : List (Option Outcome)) (drun : DeedRun g state p (setup ∷ clients) outcomes places vrefs outs) (differ : PlacesDiffer (log drun)) (gave : ℕ → List ℕ) where
  -- a message that was dropped is one of the call that was made with its id, and why it was
  abbrev pub TellsDrops : Type 0
  TellsDrops =
      (c : ℕ) (x : Client g state p (ids_of p slots)) → get_elem? (all_clients run) c ≡ some x → (id code n : ℕ) → WasDropped state p (ids_of p slots) (deeds_of x) id code n
      → (slot first r j : ℕ) (asked : Asked) → slot < slots → first < 4294967296 → id ≡ slot * 4294967296 + first → get_elem? (notes_of slot notes) j ≡ some (Made first r asked)
      → (client : ℕ) → IsOperation (setup ∷ clients) outcomes client asked.operation (ops.Call asked)
      → IsDropped p (setup ∷ clients) outcomes (fixed drun differ gave) gave (orders drun differ) asked.operation n × (((code ≡ EFAILEDSOCKET) × WhyLost p (setup ∷ clients) outcomes (fixed drun differ gave) gave (orders drun differ) client asked.operation n (name_of asked n))
      ⊎ (((1500 ≤ code) × (code ≤ 1999) × IsFailedWith p (setup ∷ clients) outcomes (fixed drun differ gave) gave (orders drun differ) (name_of asked n) code) ⊎ IsReadCode code))

module _ {O : Type 0} {g : Ghosts O} {state : O → OutState} {readers : List (LinkReader g)} {p : Plan} {slots : ℕ} {setup : List Task} {clients : List (List Task)} {opens : List ℕ} {told ended : List (List Told)} {places : List PlaceWord} {vrefs : List Vref} {outs : List O} {ids : List (View Asked)}
    (run : RanWith g state readers p slots setup clients opens told ended places vrefs outs ids) (tasks : AreTasks p (setup ∷ clients)) (may : MayRunAll p (ids_of p slots) setup clients)
    (notes : List (Noted Asked)) (kept : List Kept) (words : List ℕ) (closing : Closing (ids_of p slots) notes kept words) (noted : HaveNotesOf ids notes) (keeps : HaveKeptOf ids kept)
    (outcomes : List (Option Outcome)) (said_own : AreSaid outcomes told) (said_ended : AreSaid outcomes ended) (others : OthersRead ids notes)
    (drun : DeedRun g state p (setup ∷ clients) outcomes places vrefs outs) (seats : map seat_of drun.seats ≡ map (λ (x : Thread g). x.ended.seat) (run.ran.main ∷ run.ran.others)) (logged : log drun ≡ run.closed.ordered.log) (differ : PlacesDiffer (log drun)) (gave : ℕ → List ℕ)
    (all_there : length (log drun) ≤ all_accepted p.links (orders drun differ)) (asked_so : AskTasks run outcomes)
    -- the last attempt of a call leaves its range
    (few : (client : ℕ) (t : Task) (asked : Asked) → IsTask (setup ∷ clients) outcomes client t → t.op ≡ ops.Call asked → last_attempt notes t.number + 2 ≤ asked.range)
    (dropped_why : TellsDrops run notes outcomes drun differ gave) where
  open crew_of run use {q, every}
  open laws_of drun differ gave use {fixed_here, orders_here}

  -- an attempt that a link accepted is none behind the last one
  accepted_low : (o id n : ℕ) → n < 8 → IsIdOf slots notes o id → IsDropped p every outcomes fixed_here gave orders_here o n → n ≤ last_attempt notes o
  accepted_low o id n low is d =
      let stands = d.2 in
      let w = entry_on drun differ d.0 d.1 stands.1 stands.2 in
      let operation : w.0.heading.label.place / 8 ≡ o = ap (λ (a : Accepted). a.operation) w.2 ∙ stands.3 in
      let number : w.0.heading.label.place % 8 ≡ n = ap (λ (a : Accepted). a.attempt) w.2 ∙ stands.4 in
      let s = sender run tasks may notes kept words closing noted o id n low is w.3 w.0 (ap (λ (l : List Entry). get_elem? l w.3) (sym logged) ∙ w.4) (omega (arith, operation, number)) in
      made_low run tasks may notes kept words closing noted o id n is s.place s.client s.in_crew s.index s.deed s.there s.attempt

  module _ (c : ℕ) (x : Client g state p q) (at : get_elem? (all_clients run) c ≡ some x) (one : Told) (e : IsCaused state p q (tasks_of x) (Says run outcomes said_own) (deeds_of x) (view_of x) one) where
    abbrev operation : ℕ
    operation = e.lock.content.operation

    abbrev first : ℕ
    first = (parts e.lock.word.0).first

    abbrev FailedHere : ℕ → Asked → ℕ → ℕ → Type 0
    FailedHere client asked id n = FailedBy p every outcomes fixed_here gave orders_here client operation asked id e.code n

    abbrev AsksSo : Type 0
    AsksSo = IsAskedSo run tasks may notes kept words closing noted keeps outcomes said_own said_ended others c x at one e fixed_here gave orders_here

    abbrev MissedHere : Type 0
    MissedHere = MissedLast run tasks may notes kept words closing noted keeps outcomes said_own said_ended others c x at one e fixed_here gave orders_here

    abbrev DroppedHere : Type 0
    DroppedHere = DroppedLast run tasks may notes kept words closing noted keeps outcomes said_own said_ended others c x at one e fixed_here gave orders_here

    abbrev FallenHere : MissedHere → Type 0
    FallenHere l = IsFallen run tasks may notes kept words closing noted keeps outcomes said_own said_ended others drun seats logged differ gave all_there asked_so c x at one e l

    -- the task of its call is the one that has its number
    its_task : (d client : ℕ) (a asked : Asked) → IsOperation every outcomes d a.operation (ops.Call a) → a.operation ≡ operation → IsOperation every outcomes client operation (ops.Call asked) → (d ≡ client) × (a ≡ asked)
    its_task d client a asked is number task =
        let s = same_task drun d client record { number = a.operation; op = ops.Call a } record { number = operation; op = ops.Call asked } is task number in
        (s.0, same_asked a asked (ap (λ (t : Task). t.op) s.1))

    -- ## Its last attempt came to nothing

    by_fallen : (l : MissedHere) (f : FallenHere l) → FailedHere f.client f.asked (id_of l.deed) (attempt_of l.deed)
    by_fallen l f = by f.why
      where
        by : Fallen run tasks may notes kept words closing noted outcomes drun seats logged differ gave all_there l.place l.client l.in_crew l.index l.deed l.there e.code l.missed l.backed f.client operation f.asked (id_of l.deed) (attempt_of l.deed) → FailedHere f.client f.asked (id_of l.deed) (attempt_of l.deed)
        by (fell w) = w
        by (none_opened same u found) = BySocket same f.last (inl f.free) (subst (λ (o : ℕ). WhyLost p every outcomes fixed_here gave orders_here f.client o (attempt_of l.deed) (name_of f.asked (attempt_of l.deed))) f.number
            (unopened_why run tasks may notes kept words closing noted outcomes said_own fixed_here gave orders_here l.place l.client l.in_crew l.index l.deed l.there e.code l.missed f.asked f.asks f.client f.task u found))

    by_lost : (asks : AsksSo) (l : MissedHere) (client : ℕ) (asked : Asked) → IsOperation every outcomes client operation (ops.Call asked) → FailedHere client asked (id_in e.lock) (last_attempt notes operation)
    by_lost asks l client asked task =
        let f = missed_why run tasks may notes kept words closing noted keeps outcomes said_own said_ended others drun seats logged differ gave all_there asked_so c x at one e asks l in
        let same = its_task f.client client f.asked asked f.task f.number task in
        let most = few client record { number = operation; op = ops.Call asked } asked task refl in let two = f.last in let low = f.low in
        let range : f.asked.range ≡ asked.range = ap (λ (a : Asked). a.range) same.1 in
        let last : attempt_of l.deed ≡ last_attempt notes operation = omega (arith, most, two, low, range) in
        subst (λ (n : ℕ). FailedHere client asked (id_in e.lock) n) last
        (subst (λ (i : ℕ). FailedHere client asked i (attempt_of l.deed)) (sym l.id_is)
        (subst (λ (a : Asked). FailedHere client a (id_of l.deed) (attempt_of l.deed)) same.1 (subst (λ (d : ℕ). FailedHere d f.asked (id_of l.deed) (attempt_of l.deed)) same.0 (by_fallen l f))))

    -- ## Its last attempt was dropped

    by_dropped : (asks : AsksSo) (l : DroppedHere) (client : ℕ) (asked : Asked) → IsOperation every outcomes client operation (ops.Call asked) → FailedHere client asked (id_in e.lock) (last_attempt notes operation) ⊎ IsReadCode e.code
    by_dropped asks l client asked task =
        let m = made_so run tasks may notes kept words closing noted keeps outcomes said_own said_ended others c x at one e in
        let w = asks e.lock.slot m.1 first (parts e.lock.word.0).range m.0 e.cause.inside m.3 in
        let small = e.lock.fits.low in let low : first < 4294967296 = omega (arith, small) in
        let h = dropped_why l.place l.client l.in_crew (id_in e.lock) e.code l.attempt l.drop e.lock.slot first (parts e.lock.word.0).range m.1 m.0 e.cause.inside low refl m.3 w.0 w.1 in
        let same = its_task w.0 client m.0 asked w.1 m.2 task in
        let fell_here : IsDropped p every outcomes fixed_here gave orders_here operation l.attempt = subst (λ (o : ℕ). IsDropped p every outcomes fixed_here gave orders_here o l.attempt) m.2 h.0 in
        let its : IsIdOf slots notes operation (id_in e.lock) = record { slot = e.lock.slot; first = first; inside = e.cause.inside; low = low; id_is = refl; range = (parts e.lock.word.0).range; asked = m.0; place = m.1; made = m.3; operation = m.2 } in
        let range : (parts e.lock.word.0).range ≡ asked.range = w.2 ∙ ap (λ (a : Asked). a.range) same.1 in
        elim h.1 [
          | inl a ↦ inl (by_cause fell_here its range (inl (
            a.0,
            subst (λ (o : ℕ). WhyLost p every outcomes fixed_here gave orders_here client o l.attempt (name_of asked l.attempt)) m.2
                (subst (λ (z : Asked). WhyLost p every outcomes fixed_here gave orders_here client m.0.operation l.attempt (name_of z l.attempt)) same.1 (subst (λ (d : ℕ). WhyLost p every outcomes fixed_here gave orders_here d m.0.operation l.attempt (name_of m.0 l.attempt)) same.0 a.1)),
          )))
          | inr o ↦ elim o [
            | inl a ↦ inl (by_cause fell_here its range (inr (a.0, a.1, subst (λ (z : Asked). IsFailedWith p every outcomes fixed_here gave orders_here (name_of z l.attempt) e.code) same.1 a.2)))
            -- whoever read its link had set the life failed
            | inr read ↦ inr read
          ]
        ]
      where
        -- with a code that leaves retries it was the last one of the range
        last_of : is_final e.code ≡ false → (parts e.lock.word.0).range ≡ asked.range → l.attempt + 2 ≡ asked.range
        last_of open_ range =
            let a = last_one e.lock e.code l.attempt open_ (subst (λ (z : Option ℕ). decision e.lock e.code z ≡ decisions.End) l.current.0 e.ends) in let b = l.current.1 in omega (arith, a, b, range)

        last_is : l.attempt + 2 ≡ asked.range → IsIdOf slots notes operation (id_in e.lock) → (parts e.lock.word.0).range ≡ asked.range → IsDropped p every outcomes fixed_here gave orders_here operation l.attempt → l.attempt ≡ last_attempt notes operation
        last_is two its range d =
            let most = few client record { number = operation; op = ops.Call asked } asked task refl in let high = e.lock.fits.range_high in
            let low = accepted_low operation (id_in e.lock) l.attempt (omega (arith, two, range, high)) its d in omega (arith, most, two, low)

        by_cause : IsDropped p every outcomes fixed_here gave orders_here operation l.attempt → IsIdOf slots notes operation (id_in e.lock) → (parts e.lock.word.0).range ≡ asked.range
            → ((e.code ≡ EFAILEDSOCKET) × WhyLost p every outcomes fixed_here gave orders_here client operation l.attempt (name_of asked l.attempt)) ⊎ ((1500 ≤ e.code) × (e.code ≤ 1999) × IsFailedWith p every outcomes fixed_here gave orders_here (name_of asked l.attempt) e.code)
            → FailedHere client asked (id_in e.lock) (last_attempt notes operation)
        by_cause d its range (inl a) =
            let two = last_of (ap is_final a.0) range in
            subst (λ (n : ℕ). FailedHere client asked (id_in e.lock) n) (last_is two its range d) (BySocket a.0 two (inr d) a.1)
        by_cause d its range (inr a) =
            let two = last_of (fail_open e.code a.0 a.1) range in
            subst (λ (n : ℕ). FailedHere client asked (id_in e.lock) n) (last_is two its range d) (ByFail a.0 a.1 two d a.2)

    -- ## Why it failed

    -- or whoever read the links ended it
    pub ended_why : AsksSo → (client : ℕ) (asked : Asked) → IsOperation every outcomes client operation (ops.Call asked) → FailedHere client asked (id_in e.lock) (last_attempt notes operation) ⊎ IsReadCode e.code
    ended_why asks client asked task = elim (verdict run tasks may notes kept words closing noted keeps outcomes said_own said_ended others c x at one e fixed_here gave orders_here) [
      | timed is was ↦ inl (by_expiry run tasks may notes kept words closing noted keeps outcomes said_own said_ended others c x at one e fixed_here gave orders_here client asked (last_attempt notes operation) is was)
      | lost l ↦ inl (by_lost asks l client asked task)
      | dropped_last l ↦ by_dropped asks l client asked task
      | behind loss ↦ inr loss
    ]

  -- of each end that a client told
  pub told_why : (asks : (i j f r : ℕ) (asked : Asked) → i < slots → get_elem? (notes_of i notes) j ≡ some (Made f r asked) → (d : ℕ) × IsTask every outcomes d record { number = asked.operation; op = ops.Call asked } × (r ≡ asked.range))
      → (c : ℕ) (x : Client g state p q) → get_elem? (all_clients run) c ≡ some x → (i : ℕ) (one : Told) → get_elem? x.thread.ended.calls.told.items i ≡ some one → (client : ℕ) (asked : Asked) → IsOperation every outcomes client one.number (ops.Call asked)
      → (id code : ℕ) × (one.outcome ≡ CallFailed id code) × (FailedBy p every outcomes fixed_here gave orders_here client one.number asked id code (last_attempt notes one.number) ⊎ IsReadCode code)
  told_why asks c x at i one there client asked task =
      let Caused : Told → Type 0 = IsCaused state p q (tasks_of x) (Says run outcomes said_own) (deeds_of x) (view_of x) in
      let e : Caused one = all_at Caused x.thread.ended.calls.told.items i one (ended_caused run outcomes said_own c x at).1 there in
      let number : one.number ≡ e.lock.content.operation = ap (λ (t : Told). t.number) e.is in
      let w = ended_why c x at one e asks client asked (subst (λ (n : ℕ). IsOperation every outcomes client n (ops.Call asked)) number task) in (
        id_in e.lock,
        e.code,
        ap (λ (t : Told). t.outcome) e.is,
        subst (λ (n : ℕ). FailedBy p every outcomes fixed_here gave orders_here client n asked (id_in e.lock) e.code (last_attempt notes n) ⊎ IsReadCode e.code) (sym number) w,
      )

-- ## By what is known of each run of a script

module _ {O : Type 0} {g : Ghosts O} {state : O → OutState} {readers : List (LinkReader g)} {p : Plan} {slots : ℕ} {setup : List Task} {clients : List (List Task)} {opens : List ℕ} {told ended : List (List Told)} {places : List PlaceWord} {vrefs : List Vref} {outs : List O} {ids : List (View Asked)}
    (run : RanWith g state readers p slots setup clients opens told ended places vrefs outs ids) (tasks : AreTasks p (setup ∷ clients)) (may : MayRunAll p (ids_of p slots) setup clients)
    (notes : List (Noted Asked)) (kept : List Kept) (words : List ℕ) (closing : Closing (ids_of p slots) notes kept words) (noted : HaveNotesOf ids notes) (keeps : HaveKeptOf ids kept)
    (outcomes : List (Option Outcome)) (said_own : AreSaid outcomes told) (said_ended : AreSaid outcomes ended)
    (later : (c : ℕ) (x : Client g state p (ids_of p slots)) → get_elem? (all_clients run) c ≡ some x → AreLater (setup ∷ clients) outcomes (all_asked x.thread x.is)) (others : OthersRead ids notes)
    (made : (i j f r : ℕ) (asked : Asked) → i < slots → get_elem? (notes_of i notes) j ≡ some (Made f r asked) → (c : ℕ) × IsTask (setup ∷ clients) outcomes c record { number = asked.operation; op = ops.Call asked } × (r ≡ asked.range))
    (own : (i f n : ℕ) → total (is_attempt f n) (notes_of i notes) ≤ total (λ (v : View Asked). advances i f n v) ids)
    -- what the seats did at the table of sockets, with readers of links beside them
    (drun : DeedRun g state p (setup ∷ clients) outcomes places vrefs outs) (seats : map seat_of drun.seats ≡ map (λ (x : Thread g). x.ended.seat) (run.ran.main ∷ run.ran.others)) (logged : log drun ≡ run.closed.ordered.log)
    (differ : PlacesDiffer (log drun)) (gave : ℕ → List ℕ) where
  -- of each end that is told behind the operations of a client
  pub ends_with : TellsDrops run notes outcomes drun differ gave → (c i : ℕ) (ts : List Told) (one : Told) → get_elem? ended c ≡ some ts → get_elem? ts i ≡ some one → (client : ℕ) (asked : Asked) → IsOperation (setup ∷ clients) outcomes client one.number (ops.Call asked)
      → (id code : ℕ) × (one.outcome ≡ CallFailed id code) × (FailedBy p (setup ∷ clients) outcomes (fixed drun differ gave) gave (orders drun differ) client one.number asked id code (last_attempt notes one.number) ⊎ IsReadCode code)
  ends_with dropped c i ts one at there =
      let f : Thread g → List Told = λ x. x.ended.calls.told.items in
      let w = map_back (λ (x : Client g state p (ids_of p slots)). f x.thread) (all_clients run) c ts (ap (λ (l : List (List Told)). get_elem? l c) (all_are run f ∙ run.ran.ended_is) ∙ at) in
      told_why run tasks may notes kept words closing noted keeps outcomes said_own said_ended others drun seats logged differ gave (log_accepted drun differ (λ k. [])) (asked_here run tasks may notes kept words closing noted outcomes later) (few_here run tasks may notes kept words closing noted outcomes later made own) dropped made c w.0 w.1 i one
      (ap (λ (l : List Told). get_elem? l i) w.2 ∙ there)
