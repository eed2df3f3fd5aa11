-- Each attempt of a call behind the first was made since the attempt before it was dropped; or since no link accepted that one, as its socket was failing, its name had none, or each request was taken.
use Rattle.std.proofs.Common.{◌≡◌, ℕ, ◌+◌, ◌-◌, ◌*◌, ◌<◌, ◌≤◌, inl, inr, List, [], ◌∷◌, length, map, refl, sym, ap, ◌∙◌, subst, arith}
use Rattle.std.specs.Prelude.{Option}
use mathlib.Core.Logic.{dite}
use mathlib.Core.Option.{some}
use native.Mathlib.Decide.{dec_lt}
use lib.ListN.{get_elem?}
use Rattle.sock_io.specs.declared.link.Out.{Ghosts}
use Rattle.sock_io.specs.LinkHalves.{OutState}
use Rattle.sock_words.specs.declared.outcome.Outcome.{Outcome}
use Rattle.sock_words.specs.declared.plain.Plan.{Plan}
use Rattle.sock_words.specs.declared.place_word.PlaceWord.{PlaceWord}
use Rattle.sock_words.specs.declared.vref.Vref.{Vref}
use Rattle.failed_ends.specs.Below.SockRule.ClosingWordsAndNotes.{PlacesDiffer}
use Rattle.seat_programs.specs.declared.task.Op.{Op}
use Rattle.seat_programs.specs.declared.task.Op.TheVariants as ops
use Rattle.seat_programs.specs.declared.task.Task.{Task}
use Rattle.seat_programs.specs.Explained.{AreTasks, IsTask}
use Rattle.seat_programs.specs.ExplainedCalls.{IsDropped, IsUnordered, WhyAgain, AfterDrop, AfterLoss, AfterFull, all_accepted}
use Rattle.corr_core.specs.declared.marks.Kept.{Kept}
use Rattle.corr_core.specs.declared.marks.Note.TheVariants.{Made}
use Rattle.corr_core.specs.declared.marks.Noted.{Noted}
use Rattle.corr_core.specs.declared.marks.View.{View}
use Rattle.corr_core.proofs.NoteSums.{total_some}
use Rattle.corr_id.specs.id_rule.specs.LawfulIdTable.{notes_of}
use Rattle.sock_message.specs.Asked.{Asked, name_of}
use Rattle.corr_id.specs.ClosingIdLists.{Closing}
use Rattle.failed_ends.specs.Below.RpcClient.Told.{Told}
use Rattle.failed_ends.specs.Below.CallRun.ReadersOfLinks.{LinkReader}
use Rattle.failed_ends.specs.Below.CallRun.Threads.{Thread, RanWith, MayRunAll, ids_of}
use Rattle.failed_ends.specs.call_whys.specs.call_places.specs.ClientNotesCounted.{HaveNotesOf}
use Rattle.failed_ends.specs.call_whys.specs.call_places.proofs.ClientPlaces.{Client, total_map, view_of}
use Rattle.failed_ends.specs.call_whys.specs.call_places.proofs.CallPlaceOrders.{all as all_clients, views_are, crew_of}
use Rattle.failed_ends.specs.call_whys.specs.call_told.specs.Least.{is_made_for}
use Rattle.failed_ends.specs.call_whys.specs.call_deeds.specs.RetriedCalls.{all_asked}
use Rattle.failed_ends.specs.call_whys.specs.call_deeds.proofs.Ran.{AreLater}
use Rattle.failed_ends.specs.call_whys.specs.expire_told.specs.ExpireOutcomesSaid.{AreSaid}
use Rattle.failed_ends.specs.call_whys.specs.call_places.specs.sock_deeds.specs.SocketTableRun.{IsOperation, seat_of, DeedRun}
use Rattle.failed_ends.specs.call_whys.specs.call_places.specs.sock_deeds.proofs.MessagesAcceptedByDeeds.{log}
use Rattle.failed_ends.specs.call_whys.specs.call_places.specs.sock_deeds.proofs.OrdersOfDeeds.{orders}
use Rattle.failed_ends.specs.call_whys.specs.call_places.specs.sock_deeds.proofs.DeedsForTasks.{same_task}
use Rattle.failed_ends.specs.call_whys.specs.call_places.specs.sock_deeds.proofs.WholeSocketDeeds.{fixed, log_accepted, laws_of}
use Rattle.failed_ends.specs.attempts_told.specs.CountedAttempts.{last_attempt}
use Rattle.failed_ends.specs.attempts_told.proofs.Last.{IsReached, one_reached}
use Rattle.failed_ends.specs.attempts_told.proofs.SendersWithCalls.{made_for_there}
use Rattle.failed_ends.specs.attempts_told.proofs.AttemptsOfCallsTold.{same_asked}
use Rattle.failed_ends.specs.failed_reasons.specs.Missed.{id_of, attempt_of}
use Rattle.failed_ends.proofs.Advances.{WhyAdvanced, by_miss, by_drop, IsAdvanced, advance_why}
use Rattle.failed_told.proofs.WhyClientCallsFailed.{TellsDrops}
use Rattle.failed_ends.proofs.Fallen.{one_operation, unordered, WhyNothing, had_failed, were_full, had_none, why_nothing}
use Rattle.failed_ends.specs.failed_reasons.proofs.AttemptLosses.{IsAskedIn, deed_why}
use Rattle.failed_ends.specs.failed_reasons.proofs.Premises.{asked_so as asked_here}
use Rattle.failed_told.proofs.UnopenedNameOfRetry.{unopened_why}
use Rattle.failed_ends.specs.failed_reasons.proofs.NotedErrorsInViews.{advanced_in}
use Rattle.failed_ends.specs.failed_reasons.proofs.FailedRunPremises.{OthersRead, AskTasks, MissedBy, DroppedBy}
use Rattle.sock_words.specs.Totals.{total}

module _ {O : Type 0} {g : Ghosts O} {state : O → OutState} {readers : List (LinkReader g)} {p : Plan} {slots : ℕ} {setup : List Task} {clients : List (List Task)} {opens : List ℕ} {told ended : List (List Told)} {places : List PlaceWord} {vrefs : List Vref} {outs : List O} {ids : List (View Asked)}
    (run : RanWith g state readers p slots setup clients opens told ended places vrefs outs ids) (tasks : AreTasks p (setup ∷ clients)) (may : MayRunAll p (ids_of p slots) setup clients)
    (notes : List (Noted Asked)) (kept : List Kept) (words : List ℕ) (closing : Closing (ids_of p slots) notes kept words) (noted : HaveNotesOf ids notes)
    (outcomes : List (Option Outcome)) (said : AreSaid outcomes told) (others : OthersRead ids notes)
    -- none but the clients advanced attempts
    (own : (i first n : ℕ) → advanced_in i first n notes ≤ total (λ (v : View Asked). advanced_in i first n v.notes) ids)
    (drun : DeedRun g state p (setup ∷ clients) outcomes places vrefs outs) (seats : map seat_of drun.seats ≡ map (λ (x : Thread g). x.ended.seat) (run.ran.main ∷ run.ran.others)) (logged : log drun ≡ run.closed.ordered.log) (differ : PlacesDiffer (log drun)) (gave : ℕ → List ℕ)
    (all_there : length (log drun) ≤ all_accepted p.links (orders drun differ)) (asked_so : AskTasks run outcomes)
    -- and so is the call for which an id was made
    (made_so : (i j f r : ℕ) (asked : Asked) → i < slots → get_elem? (notes_of i notes) j ≡ some (Made f r asked) → (client : ℕ) × IsOperation (setup ∷ clients) outcomes client asked.operation (ops.Call asked) × (r ≡ asked.range))
    (dropped_why : TellsDrops run notes outcomes drun differ gave) where
  open crew_of run use {q, every, crew}
  open laws_of drun differ gave use {fixed_here, orders_here}

  abbrev WhyAgainHere : ℕ → ℕ → ℕ → ℕ → Type 0
  WhyAgainHere client o n name = WhyAgain p every outcomes fixed_here gave orders_here client o n name

  -- ## One attempt, of the call that is operation o with this id

  module _ (client o : ℕ) (asked : Asked) (is : IsOperation every outcomes client o (ops.Call asked)) (slot first n : ℕ) (inside : slot < slots) (low : first < 4294967296) (made : 0 < total (is_made_for first o) (notes_of slot notes)) where
    abbrev id : ℕ
    id = slot * 4294967296 + first

    -- in the words of its task
    in_words : (c o' m : ℕ) (a : Asked) → c ≡ client → o' ≡ o → m ≡ n → a ≡ asked → WhyAgainHere c o' m (name_of a m) → WhyAgainHere client o n (name_of asked n)
    in_words c o' m a ec eo em ea w =
        let on = subst (λ (y : Asked). WhyAgainHere c o' m (name_of y m)) ea w in
        let at = subst (λ (y : ℕ). WhyAgainHere c o' y (name_of asked y)) em on in
        let of = subst (λ (y : ℕ). WhyAgainHere c y n (name_of asked n)) eo at in subst (λ (y : ℕ). WhyAgainHere y o n (name_of asked n)) ec of

    -- it came to nothing
    missed_again : (code : ℕ) → MissedBy run id n code → WhyAgainHere client o n (name_of asked n)
    missed_again code l =
        let same_id = l.id_is in
        let m = made_for_there first o (notes_of slot notes) made in
        let w = deed_why l.deed code l.missed in
        let of = asked_so l.place l.client l.in_crew l.index l.deed l.there w.asked w.is in
        let none_ = unordered run tasks may notes kept words closing noted outcomes drun seats logged differ gave all_there l.place l.client l.in_crew l.index l.deed l.there code l.missed l.backed (omega (arith, inside, low, same_id)) in
        let its : none_.0.operation ≡ o = one_operation run tasks may notes kept words closing noted outcomes drun seats logged differ gave all_there none_.0.operation (id_of l.deed) slot first m.0 m.2 m.1 inside low none_.0.id (sym same_id) m.3 ∙ m.4 in
        let asks : w.asked.operation ≡ none_.0.operation = none_.0.asks w.asked w.is in
        let number : w.asked.operation ≡ o = asks ∙ its in
        let task = same_task drun of.0 client record { number = w.asked.operation; op = ops.Call w.asked } record { number = o; op = ops.Call asked } of.1 is number in
        let same : w.asked ≡ asked = same_asked w.asked asked (ap (λ (t : Task). t.op) task.1) in
        let free : IsUnordered p every outcomes fixed_here gave orders_here w.asked.operation (attempt_of l.deed) = subst (λ (y : ℕ). IsUnordered p every outcomes fixed_here gave orders_here y (attempt_of l.deed)) (sym asks) none_.1 in
        in_words of.0 w.asked.operation (attempt_of l.deed) w.asked task.0 number (sym l.attempt_is) same (by l w.asked w.is of.0 of.1 free
        (why_nothing run tasks may notes kept words closing noted outcomes drun seats logged differ gave all_there l.place l.client l.in_crew l.index l.deed l.there code l.missed l.backed of.0 w.asked.operation w.asked of.1 w.why))
      where
        by : (l : MissedBy run id n code) (a : Asked) → IsAskedIn l.deed a → (c : ℕ) → IsOperation every outcomes c a.operation (ops.Call a) → IsUnordered p every outcomes fixed_here gave orders_here a.operation (attempt_of l.deed)
            → WhyNothing run tasks may notes kept words closing noted outcomes drun seats logged differ gave all_there l.place l.client l.in_crew l.index l.deed l.there code l.missed l.backed c a.operation a → WhyAgainHere c a.operation (attempt_of l.deed) (name_of a (attempt_of l.deed))
        by l a asks c task free (had_failed same lost) = AfterLoss free lost
        by l a asks c task free (were_full same full) = AfterFull free full
        by l a asks c task free (had_none same u found) = AfterLoss free (unopened_why run tasks may notes kept words closing noted outcomes said fixed_here gave orders_here l.place l.client l.in_crew l.index l.deed l.there code l.missed a asks c task u found)

    -- its message was dropped
    dropped_again : (code : ℕ) → DroppedBy run id n code → WhyAgainHere client o n (name_of asked n)
    dropped_again code l =
        let m = made_for_there first o (notes_of slot notes) made in
        let t = made_so slot m.2 first m.0 m.1 inside m.3 in
        let d = dropped_why l.place l.client l.in_crew id code n l.drop slot first m.0 m.2 m.1 inside low refl m.3 t.0 t.1 in
        AfterDrop (subst (λ (y : ℕ). IsDropped p every outcomes fixed_here gave orders_here y n) m.4 d.0)

    after : WhyAdvanced run outcomes said notes kept words closing noted others id n → WhyAgainHere client o n (name_of asked n)
    after (by_miss code l) = missed_again code l
    after (by_drop code l) = dropped_again code l

  -- ## All attempts

  -- an advance is one that a client noted
  advance : (slot first n : ℕ) → 0 < advanced_in slot first (n + 1) notes → IsAdvanced run outcomes said notes kept words closing noted others slot first n
  advance slot first n some_ =
      let f : View Asked → ℕ = λ v. advanced_in slot first (n + 1) v.notes in
      let s = total_some (λ (y : Client g state p q). f (view_of y)) crew (let a = own slot first (n + 1) in let b = total_map f view_of crew in let d = ap (total f) (views_are run) in omega (arith, some_, a, b, d)) in
      advance_why run outcomes said notes kept words closing noted others s.0 s.1 s.2 slot first n s.3

  -- from the last one on down
  all_again : (client o : ℕ) (asked : Asked) → IsOperation every outcomes client o (ops.Call asked) → (n : ℕ) → n < last_attempt notes o → IsReached o notes notes (last_attempt notes o) → WhyAgainHere client o n (name_of asked n)
  all_again client o asked is n less r =
      let m : ℕ = last_attempt notes o - 1 in
      let up : last_attempt notes o ≡ m + 1 = omega (arith, less) in
      let top = advance r.slot r.first m (subst (λ (y : ℕ). 0 < advanced_in r.slot r.first y notes) up r.noted) in
      let next : 0 < advanced_in r.slot r.first (n + 1) notes = dite (dec_lt (n + 1) (last_attempt notes o))
      (λ lt. (closing.one_by_one r.slot r.first (last_attempt notes o) top.inside r.noted).1 (n + 1) (omega arith) lt)
      (λ ge. let e : last_attempt notes o ≡ n + 1 = omega (arith, less, ge) in subst (λ (y : ℕ). 0 < advanced_in r.slot r.first y notes) e r.noted) in
      after client o asked is r.slot r.first n top.inside top.low r.made (advance r.slot r.first n next).why

  pub again : (client : ℕ) (t : Task) (asked : Asked) → IsTask every outcomes client t → t.op ≡ ops.Call asked → (n : ℕ) → n < last_attempt notes t.number → WhyAgain p every outcomes fixed_here gave orders_here client t.number n (name_of asked n)
  again client t asked is op n less =
      let call = subst (λ (x : Op). IsTask every outcomes client record { number = t.number; op = x }) op is in
      elim (one_reached t.number notes notes) [
        | inl none_ ↦ absurd (omega (arith, none_, less))
        | inr r ↦ all_again client t.number asked call n less r
      ]

-- by what is known of each run of a script
module _ {O : Type 0} {g : Ghosts O} {state : O → OutState} {readers : List (LinkReader g)} {p : Plan} {slots : ℕ} {setup : List Task} {clients : List (List Task)} {opens : List ℕ} {told ended : List (List Told)} {places : List PlaceWord} {vrefs : List Vref} {outs : List O} {ids : List (View Asked)}
    (run : RanWith g state readers p slots setup clients opens told ended places vrefs outs ids) (tasks : AreTasks p (setup ∷ clients)) (may : MayRunAll p (ids_of p slots) setup clients)
    (notes : List (Noted Asked)) (kept : List Kept) (words : List ℕ) (closing : Closing (ids_of p slots) notes kept words) (noted : HaveNotesOf ids notes)
    (outcomes : List (Option Outcome)) (said : AreSaid outcomes told)
    (later : (c : ℕ) (x : Client g state p (ids_of p slots)) → get_elem? (all_clients run) c ≡ some x → AreLater (setup ∷ clients) outcomes (all_asked x.thread x.is)) (others : OthersRead ids notes)
    (made : (i j f r : ℕ) (asked : Asked) → i < slots → get_elem? (notes_of i notes) j ≡ some (Made f r asked) → (c : ℕ) × IsTask (setup ∷ clients) outcomes c record { number = asked.operation; op = ops.Call asked } × (r ≡ asked.range))
    (own : (i f n : ℕ) → advanced_in i f n notes ≤ total (λ (v : View Asked). advanced_in i f n v.notes) ids)
    -- what the seats did at the table of sockets, with readers of links beside them
    (drun : DeedRun g state p (setup ∷ clients) outcomes places vrefs outs) (seats : map seat_of drun.seats ≡ map (λ (x : Thread g). x.ended.seat) (run.ran.main ∷ run.ran.others)) (logged : log drun ≡ run.closed.ordered.log)
    (differ : PlacesDiffer (log drun)) (gave : ℕ → List ℕ) where
  pub again_with : TellsDrops run notes outcomes drun differ gave → (client : ℕ) (t : Task) (asked : Asked) → IsTask (setup ∷ clients) outcomes client t → t.op ≡ ops.Call asked → (n : ℕ) → n < last_attempt notes t.number
      → WhyAgain p (setup ∷ clients) outcomes (fixed drun differ gave) gave (orders drun differ) client t.number n (name_of asked n)
  again_with dropped = again run tasks may notes kept words closing noted outcomes said others own drun seats logged differ gave (log_accepted drun differ (λ k. [])) (asked_here run tasks may notes kept words closing noted outcomes later) made dropped
