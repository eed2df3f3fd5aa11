-- Why a client's call failed whose last attempt came to nothing: as a whole.
use Rattle.std.proofs.Common.{◌≡◌, ℕ, ◌+◌, ◌<◌, ◌≤◌, List, ◌∷◌, length, map, sym, ap, ◌∙◌, subst, arith}
use Rattle.std.specs.Prelude.{Option}
use mathlib.Core.Option.{some}
use lib.ListN.{get_elem?}
use Rattle.sock_io.specs.declared.link.Out.{Ghosts}
use Rattle.sock_io.specs.LinkHalves.{OutState}
use Rattle.sock_words.specs.declared.outcome.Outcome.{Outcome}
use Rattle.sock_words.specs.declared.plain.Plan.{Plan}
use Rattle.sock_words.specs.declared.place_word.PlaceWord.{PlaceWord}
use Rattle.sock_words.specs.declared.vref.Vref.{Vref}
use Rattle.failed_ends.specs.Below.SockRule.ClosingWordsAndNotes.{PlacesDiffer}
use Rattle.seat_programs.specs.declared.task.Op.TheVariants as ops
use Rattle.seat_programs.specs.declared.task.Task.{Task}
use Rattle.seat_programs.specs.Explained.{AreTasks}
use Rattle.seat_programs.specs.ExplainedCalls.{IsUnordered, all_accepted}
use Rattle.corr_core.specs.IdSlotWord.{parts}
use Rattle.corr_core.specs.declared.marks.Kept.{Kept}
use Rattle.corr_core.specs.declared.marks.Noted.{Noted}
use Rattle.corr_core.specs.declared.marks.View.{View}
use Rattle.sock_message.specs.Asked.{Asked}
use Rattle.corr_id.specs.ClosingIdLists.{Closing}
use Rattle.failed_ends.specs.Below.RpcClient.Told.{Told}
use Rattle.failed_ends.specs.Below.CallRun.ReadersOfLinks.{LinkReader}
use Rattle.failed_ends.specs.Below.CallRun.Threads.{Thread, RanWith, MayRunAll, ids_of}
use Rattle.failed_ends.specs.call_whys.specs.call_places.specs.ClientNotesCounted.{HaveNotesOf}
use Rattle.failed_ends.specs.call_whys.specs.call_places.proofs.ClientPlaces.{Client, view_of, tasks_of, deeds_of}
use Rattle.failed_ends.specs.call_whys.specs.call_places.proofs.CallPlaceOrders.{all as all_clients, crew_of}
use Rattle.failed_ends.specs.call_whys.specs.expire_told.specs.ExpireOutcomesSaid.{AreSaid, HaveKeptOf}
use Rattle.failed_ends.specs.call_whys.specs.call_places.specs.sock_deeds.specs.SocketTableRun.{IsOperation, seat_of, DeedRun}
use Rattle.failed_ends.specs.call_whys.specs.call_places.specs.sock_deeds.proofs.MessagesAcceptedByDeeds.{log}
use Rattle.failed_ends.specs.call_whys.specs.call_places.specs.sock_deeds.proofs.OrdersOfDeeds.{orders}
use Rattle.failed_ends.specs.call_whys.specs.call_places.specs.sock_deeds.proofs.DeedsForTasks.{same_task}
use Rattle.failed_ends.specs.call_whys.specs.call_places.specs.sock_deeds.proofs.WholeSocketDeeds.{fixed}
use Rattle.failed_ends.specs.attempts_told.specs.CountedAttempts.{last_attempt}
use Rattle.failed_ends.specs.failed_reasons.specs.Missed.{id_of, attempt_of}
use Rattle.failed_ends.specs.failed_reasons.specs.ErrorReasons.{IsCaused}
use Rattle.failed_ends.proofs.ClientEndsByErrors.{Says}
use Rattle.failed_ends.proofs.Fallen.{same_range, one_operation, unordered, Fallen, fallen}
use Rattle.failed_ends.specs.failed_reasons.proofs.AttemptLosses.{IsAskedIn, deed_why}
use Rattle.failed_ends.proofs.Single.{made_low}
use Rattle.failed_ends.proofs.Verdicts.{made_so, MissedLast, IsAskedSo, last_attempt as last_asked}
use Rattle.failed_ends.specs.failed_reasons.proofs.FailedRunPremises.{OthersRead, AskTasks}
use Rattle.sock_words.specs.PackedWords.{id_slot}

module _ {O : Type 0} {g : Ghosts O} {state : O → OutState} {readers : List (LinkReader g)} {p : Plan} {slots : ℕ} {setup : List Task} {clients : List (List Task)} {opens : List ℕ} {told ended : List (List Told)} {places : List PlaceWord} {vrefs : List Vref} {outs : List O} {ids : List (View Asked)}
    (run : RanWith g state readers p slots setup clients opens told ended places vrefs outs ids) (tasks : AreTasks p (setup ∷ clients)) (may : MayRunAll p (ids_of p slots) setup clients)
    (notes : List (Noted Asked)) (kept : List Kept) (words : List ℕ) (closing : Closing (ids_of p slots) notes kept words) (noted : HaveNotesOf ids notes) (keeps : HaveKeptOf ids kept)
    (outcomes : List (Option Outcome)) (said_own : AreSaid outcomes told) (said_ended : AreSaid outcomes ended) (others : OthersRead ids notes)
    (drun : DeedRun g state p (setup ∷ clients) outcomes places vrefs outs) (seats : map seat_of drun.seats ≡ map (λ (x : Thread g). x.ended.seat) (run.ran.main ∷ run.ran.others)) (logged : log drun ≡ run.closed.ordered.log) (differ : PlacesDiffer (log drun)) (gave : ℕ → List ℕ)
    (all_there : length (log drun) ≤ all_accepted p.links (orders drun differ)) (asked_so : AskTasks run outcomes) where
  open crew_of run use {q, every}

  module _ (c : ℕ) (x : Client g state p q) (at : get_elem? (all_clients run) c ≡ some x) (one : Told) (e : IsCaused state p q (tasks_of x) (Says run outcomes said_own) (deeds_of x) (view_of x) one) where
    abbrev MissedHere : Type 0
    MissedHere = MissedLast run tasks may notes kept words closing noted keeps outcomes said_own said_ended others c x at one e (fixed drun differ gave) gave (orders drun differ)

    -- of the last attempt of its call: what was asked, and why the call failed
    pub record IsFallen (l : MissedHere) : Type 0 where
      pub client : ℕ
      pub asked : Asked
      pub task : IsOperation every outcomes client asked.operation (ops.Call asked)
      pub number : asked.operation ≡ e.lock.content.operation
      pub asks : IsAskedIn l.deed asked
      pub free : IsUnordered p every outcomes (fixed drun differ gave) gave (orders drun differ) e.lock.content.operation (attempt_of l.deed)
      pub last : attempt_of l.deed + 2 ≡ asked.range
      pub low : attempt_of l.deed ≤ last_attempt notes e.lock.content.operation
      pub why : Fallen run tasks may notes kept words closing noted outcomes drun seats logged differ gave all_there l.place l.client l.in_crew l.index l.deed l.there e.code l.missed l.backed client e.lock.content.operation asked (id_of l.deed) (attempt_of l.deed)

    pub missed_why : IsAskedSo run tasks may notes kept words closing noted keeps outcomes said_own said_ended others c x at one e (fixed drun differ gave) gave (orders drun differ) → (l : MissedHere) → IsFallen l
    missed_why asks l =
        let first = (parts e.lock.word.0).first in let low = e.lock.fits.low in let same_id = l.id_is in
        let inside : id_slot (id_of l.deed) < slots = (let a = e.cause.inside in omega (arith, a, same_id, low)) in
        let w = deed_why l.deed e.code l.missed in
        let is = asked_so l.place l.client l.in_crew l.index l.deed l.there w.asked w.is in
        let none_ = unordered run tasks may notes kept words closing noted outcomes drun seats logged differ gave all_there l.place l.client l.in_crew l.index l.deed l.there e.code l.missed l.backed inside in
        let m = made_so run tasks may notes kept words closing noted keeps outcomes said_own said_ended others c x at one e in
        let its : none_.0.operation ≡ e.lock.content.operation =
        one_operation run tasks may notes kept words closing noted outcomes drun seats logged differ gave all_there none_.0.operation (id_of l.deed) e.lock.slot first (parts e.lock.word.0).range m.1 m.0 e.cause.inside (omega (arith, low)) none_.0.id (sym same_id) m.3 ∙ m.2 in
        let number : w.asked.operation ≡ e.lock.content.operation = none_.0.asks w.asked w.is ∙ its in
        let last = last_asked run tasks may notes kept words closing noted keeps outcomes said_own said_ended others c x at one e (fixed drun differ gave) gave (orders drun differ) asks l in
        let task = same_task drun is.0 last.client record { number = w.asked.operation; op = ops.Call w.asked } record { number = e.lock.content.operation; op = ops.Call last.asked } is.1 last.task number in
        let range : w.asked.range ≡ last.asked.range = same_range w.asked last.asked (ap (λ (t : Task). t.op) task.1) in
        let two = last.last in let n = l.attempt_is in
        let free : IsUnordered p every outcomes (fixed drun differ gave) gave (orders drun differ) e.lock.content.operation (attempt_of l.deed) = subst (λ (o : ℕ). IsUnordered p every outcomes (fixed drun differ gave) gave (orders drun differ) o (attempt_of l.deed)) its none_.1 in
        record {
          client = is.0;
          asked = w.asked;
          task = is.1;
          number = number;
          asks = w.is;
          free = free;
          last = omega (arith, two, range, n);
          low = subst (λ (o : ℕ). attempt_of l.deed ≤ last_attempt notes o) its (made_low run tasks may notes kept words closing noted none_.0.operation (id_of l.deed) (attempt_of l.deed) none_.0.id l.place l.client l.in_crew l.index l.deed l.there none_.0.attempt);
          why = fallen run tasks may notes kept words closing noted outcomes drun seats logged differ gave all_there l.place l.client l.in_crew l.index l.deed l.there e.code l.missed l.backed is.0 e.lock.content.operation w.asked (id_of l.deed) is.1 free (omega (arith, two, range, n)) w.why;
        }
