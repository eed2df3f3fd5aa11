-- By which link's reading a call ended whose end a reader told, or a client by an error that a reader had queued.
use Rattle.std.proofs.Common.{◌≡◌, ℕ, ◌+◌, ◌*◌, ◌<◌, ◌≤◌, ◌⊎◌, inl, inr, List, ◌∷◌, length, map, Some, pos, refl, sym, ap, ◌∙◌, subst, arith}
use Rattle.std.specs.Prelude.{◌≢◌, Option}
use Rattle.std.proofs.lemmas.Nat.{div-add-mod'}
use mathlib.Core.Option.{some}
use lib.ListN.{get_elem?}
use Rattle.sock_io.specs.declared.link.Out.{Ghosts}
use Rattle.sock_io.specs.LinkHalves.{OutState}
use Rattle.sock_words.specs.ErrorCodes.{EEOF, ERPCTIMEDOUT}
use Rattle.sock_words.specs.PackedWords.{at_word_link, id_slot, id_first}
use Rattle.sock_words.specs.declared.outcome.Outcome.{Outcome}
use Rattle.sock_words.specs.declared.outcome.Outcome.TheVariants.{CallFailed}
use Rattle.sock_words.specs.declared.plain.Plan.{Plan}
use Rattle.sock_words.specs.declared.place_word.PlaceWord.{PlaceWord}
use Rattle.sock_words.specs.declared.vref.Vref.{Vref}
use Rattle.sock_message.specs.brpc_model.specs.Frame.{Frame}
use Rattle.failed_ends.specs.Below.SockRule.ClosingWordsAndNotes.{PlacesDiffer}
use Rattle.seat_programs.specs.declared.task.Op.TheVariants as ops
use Rattle.seat_programs.specs.declared.task.Task.{Task}
use Rattle.seat_programs.specs.Explained.{AreTasks, IsTask}
use Rattle.seat_programs.specs.ExplainedCalls.{IsAnsweredBy, MayBeOn, FailedBy, ByCompression, all_accepted}
use Rattle.corr_core.specs.IdSlotLaw.{is_ended, is_ended_at}
use Rattle.failed_ends.specs.call_whys.specs.call_places.proofs.IdsOfRetries.{IsIdOf}
use Rattle.corr_core.specs.IdSlotWord.{Parts, parts, code_of}
use Rattle.corr_core.specs.declared.marks.Kept.{Kept}
use Rattle.corr_core.specs.declared.marks.Note.{Note}
use Rattle.corr_core.specs.declared.marks.Note.TheVariants.{Made, Locker}
use Rattle.corr_core.specs.declared.marks.Noted.{Noted}
use Rattle.corr_core.specs.declared.marks.View.{View}
use Rattle.corr_core.proofs.NoteSums.{total_some}
use Rattle.corr_id.specs.id_rule.specs.LawfulIdTable.{at_index, notes_of}
use Rattle.sock_message.specs.Asked.{Asked, name_of}
use Rattle.corr_id.specs.SeatBehindIdCalls.{is_saw, error_in}
use Rattle.corr_id.specs.ClosingIdLists.{Closing}
use Rattle.corr_id.specs.PostAnswers.{IsTimely}
use Rattle.corr_id.proofs.LockRangeLengths.{lock_range}
use Rattle.failed_ends.specs.Below.RpcClient.Told.{Told}
use Rattle.failed_ends.specs.Below.CallErrors.LockingByVersion.{id_in}
use Rattle.failed_ends.specs.Below.RpcReader.ReaderBooks.{id_of}
use Rattle.failed_ends.specs.Below.RpcReader.PostingAtReadingEnd.{call_at, attempt_at}
use Rattle.failed_ends.specs.Below.CallRun.ReadersOfLinks.{LinkReader}
use Rattle.failed_ends.specs.Below.CallRun.Threads.{Thread, RanWith, MayRunAll, ids_of}
use Rattle.failed_ends.specs.call_whys.specs.call_places.specs.ClientNotesCounted.{HaveNotesOf}
use Rattle.failed_ends.specs.call_whys.specs.call_places.proofs.ClientPlaces.{Client, view_of, tasks_of, deeds_of}
use Rattle.failed_ends.specs.call_whys.specs.call_places.proofs.CallPlaceOrders.{all as all_clients, noted_among, made_once, crew_of}
use Rattle.failed_ends.specs.call_whys.specs.call_told.specs.Least.{is_locked_for}
use Rattle.failed_ends.specs.call_whys.specs.call_told.proofs.Least.{lock_of}
use Rattle.failed_ends.specs.call_whys.specs.call_told.proofs.RestingCallsEnded.{is_word}
use Rattle.failed_ends.specs.call_whys.specs.expire_told.specs.ExpireOutcomesSaid.{AreSaid, HaveKeptOf}
use Rattle.failed_ends.specs.call_whys.specs.call_places.specs.sock_deeds.specs.SocketTableRun.{IsOperation, seat_of, DeedRun}
use Rattle.failed_ends.specs.call_whys.specs.call_places.specs.sock_deeds.proofs.MessagesAcceptedByDeeds.{log}
use Rattle.failed_ends.specs.call_whys.specs.call_places.specs.sock_deeds.proofs.OrdersOfDeeds.{orders}
use Rattle.failed_ends.specs.call_whys.specs.call_places.specs.sock_deeds.proofs.DeedsForTasks.{same_task}
use Rattle.failed_ends.specs.call_whys.specs.call_places.specs.sock_deeds.proofs.WholeSocketDeeds.{laws_of}
use Rattle.failed_ends.specs.attempts_told.specs.CountedAttempts.{last_attempt}
use Rattle.failed_ends.specs.attempts_told.proofs.AttemptsOfCallsTold.{same_asked}
use Rattle.failed_ends.specs.failed_reasons.specs.CallsEndedByReading.{LostOn}
use Rattle.failed_ends.specs.failed_reasons.specs.ErrorReasons.{WasDropped, Reason, timed_out, missed, dropped, Origin, posted_so, handed_out, IsCaused}
use Rattle.failed_ends.specs.failed_reasons.proofs.CompressedOrNoResponse.{unread}
use Rattle.failed_ends.proofs.ClientEndsByErrors.{Says}
use Rattle.failed_ends.specs.failed_reasons.proofs.FailedAttemptCodes.{IsReadCode, IsMissCode, deed_code}
use Rattle.failed_ends.proofs.Fallen.{one_operation}
use Rattle.failed_ends.proofs.EndedAtLastAttempt.{ended_last}
use Rattle.failed_told.proofs.NamedAttempts.{named}
use Rattle.failed_ends.specs.failed_reasons.proofs.ReaderPosts.{IsPost}
use Rattle.failed_ends.proofs.Posters.{IsLow, one_error, timely_low, by_clients}
use Rattle.failed_ends.specs.failed_reasons.proofs.ErrorsQueuedByReading.{code_at}
use Rattle.failed_ends.specs.failed_reasons.proofs.Tells.{HadLock, EndsBy, on_response, on_code, ToldEnd, IsPostFor}
use Rattle.failed_ends.proofs.Verdicts.{made_so}
use Rattle.failed_ends.specs.failed_reasons.proofs.NotedErrorsInViews.{queued_in}
use Rattle.failed_ends.specs.failed_reasons.proofs.FailedRunPremises.{AskTasks}
use Rattle.sock_words.specs.Totals.{total}

-- ## Codes

-- whoever reads the links posts no code of a timeout, or of an attempt that came to nothing
not_timed : (code : ℕ) → IsReadCode code → code ≡ ERPCTIMEDOUT → ⊥
not_timed code (inl e) t = omega (arith, e, t)
not_timed code (inr e) t = omega (arith, e, t)

not_missed : (code : ℕ) → IsReadCode code → IsMissCode code → ⊥
not_missed code (inl e) (inl t) = omega (arith, e, t)
not_missed code (inl e) (inr t) = omega (arith, e, t)
not_missed code (inr e) (inl t) = omega (arith, e, t)
not_missed code (inr e) (inr t) = omega (arith, e, t)

low_of : (attempt : Option ℕ) (n : ℕ) → attempt ≡ Some n → n ≤ 6 → IsLow attempt
low_of attempt n e few = subst IsLow (sym e) few

pub same_id : (a b id code : ℕ) → CallFailed a b ≡ CallFailed id code → a ≡ id
same_id a b id code e = cc

pub same_end : (a b id code : ℕ) → CallFailed a b ≡ CallFailed id code → b ≡ code
same_end a b id code e = cc

-- ## The run

module _ {O : Type 0} {g : Ghosts O} {state : O → OutState} {readers : List (LinkReader g)} {p : Plan} {slots : ℕ} {setup : List Task} {clients : List (List Task)} {opens : List ℕ} {told ended : List (List Told)} {places : List PlaceWord} {vrefs : List Vref} {outs : List O} {ids : List (View Asked)}
    (run : RanWith g state readers p slots setup clients opens told ended places vrefs outs ids) (tasks : AreTasks p (setup ∷ clients)) (may : MayRunAll p (ids_of p slots) setup clients)
    (notes : List (Noted Asked)) (kept : List Kept) (words : List ℕ) (closing : Closing (ids_of p slots) notes kept words) (noted : HaveNotesOf ids notes) (keeps : HaveKeptOf ids kept) (outcomes : List (Option Outcome))
    (drun : DeedRun g state p (setup ∷ clients) outcomes places vrefs outs) (seats : map seat_of drun.seats ≡ map (λ (x : Thread g). x.ended.seat) (run.ran.main ∷ run.ran.others)) (logged : log drun ≡ run.closed.ordered.log) (differ : PlacesDiffer (log drun)) (gave : ℕ → List ℕ)
    (all_there : length (log drun) ≤ all_accepted p.links (orders drun differ)) (few_slots : slots ≤ 65536) (few_links : p.links < 65536) (asked_so : AskTasks run outcomes)
    -- the reading of this link ended with this code
    (Reads : ℕ → ℕ → Type 0)
    -- the link that this word names gave no response of the id that the word names
    (Alone : ℕ → Type 0) where
  open crew_of run use {q, every}
  open laws_of drun differ gave use {fixed_here, orders_here}

  -- a word of an operation's attempts was found, and the reading of the link that it names ended with the code
  pub record IsPosted (word code : ℕ) : Type 0 where
    pub operation : ℕ
    pub found : 0 < total (is_word (at_index q operation) word) kept
    pub read : Reads (at_word_link word) code

  -- the last attempt of the call that is operation o, with this id, may be on a link whose reading ended with the code
  pub record EndedOn (o : ℕ) (asked : Asked) (id code : ℕ) : Type 0 where
    -- the word by which the code came to it, which names the link; with 1014 the link gave no response of the call
    pub word : ℕ
    pub on : MayBeOn p every outcomes fixed_here gave orders_here o (last_attempt notes o) (name_of asked (last_attempt notes o)) (at_word_link word)
    pub lost : LostOn p every outcomes fixed_here gave orders_here o (last_attempt notes o) (at_word_link word)
    pub read : Reads (at_word_link word) code
    pub call_is : call_at word ≡ id
    pub its : IsIdOf slots notes o id
    pub alone : code ≡ EEOF → Alone word

  -- that for which the id was made that the word names, and the range ended at the attempt of the word
  posted_on : (word code : ℕ) → IsPosted word code → (slot first r j : ℕ) (call : Asked) → slot < slots → first < 4294967296 → call_at word ≡ slot * 4294967296 + first → get_elem? (notes_of slot notes) j ≡ some (Made first r call)
      → (n : ℕ) → IsTimely (attempt_at word) n → 0 < total (is_ended_at first n) (notes_of slot notes)
      → (client o : ℕ) (asked : Asked) → IsOperation every outcomes client o (ops.Call asked) → call.operation ≡ o → (code ≡ EEOF → Alone word) → EndedOn o asked (slot * 4294967296 + first) code
  posted_on word code h slot first r j call inside low same made at timely over client o asked task number alone =
      let n = named run tasks may notes kept words closing noted keeps outcomes drun seats logged differ gave all_there few_slots few_links asked_so h.operation word h.found in
      let its : h.operation ≡ o = one_operation run tasks may notes kept words closing noted outcomes drun seats logged differ gave all_there h.operation (call_at word) slot first r j call inside low n.id same made ∙ number in
      let s = same_task drun n.client client record { number = h.operation; op = ops.Call n.asked } record { number = o; op = ops.Call asked } n.task task its in
      let whose : n.asked ≡ asked = same_asked n.asked asked (ap (λ (t : Task). t.op) s.1) in
      let id : IsIdOf slots notes o (slot * 4294967296 + first) = record { slot = slot; first = first; inside = inside; low = low; id_is = refl; range = r; asked = call; place = j; made = made; operation = number } in
      let current : n.attempt ≡ at = subst (λ (a : Option ℕ). IsTimely a at) n.attempt_is timely in
      let most = ended_last q notes kept words closing o (slot * 4294967296 + first) at id (made_once run tasks may notes noted o) over in
      let below = subst (λ (m : ℕ). n.attempt ≤ last_attempt notes m) its n.low in
      let last : n.attempt ≡ last_attempt notes o = omega (arith, current, most, below) in
      record {
        word = word;
        on = subst (λ (m : ℕ). MayBeOn p every outcomes fixed_here gave orders_here o m (name_of asked m) (at_word_link word)) last
            (subst (λ (a : Asked). MayBeOn p every outcomes fixed_here gave orders_here o n.attempt (name_of a n.attempt) (at_word_link word)) whose
            (subst (λ (m : ℕ). MayBeOn p every outcomes fixed_here gave orders_here m n.attempt (name_of n.asked n.attempt) (at_word_link word)) its n.on));
        lost = subst (λ (m : ℕ). LostOn p every outcomes fixed_here gave orders_here o m (at_word_link word)) last (subst (λ (m : ℕ). LostOn p every outcomes fixed_here gave orders_here m n.attempt (at_word_link word)) its n.lost);
        read = h.read;
        call_is = same;
        its = id;
        alone = alone;
      }

  -- ## What a reader told, or whoever ended what was left

  -- the call of a lock was made with its versions
  lock_made : (v : View Asked) → ((slot : ℕ) (f : Note Asked → ℕ) → total f (notes_of slot v.notes) ≤ total f (notes_of slot notes)) → (slot : ℕ) (w : Parts) (call : Asked) → slot < slots → HadLock slot w call v
      → (made : Asked) × (j : ℕ) × (made.operation ≡ call.operation) × (get_elem? (notes_of slot notes) j ≡ some (Made w.first w.range made))
  lock_made v inside_notes slot w call inside h =
      let first : w.first ≡ (parts h.word).first = ap (λ (y : Parts). y.first) h.word_is in let range : w.range ≡ (parts h.word).range = ap (λ (y : Parts). y.range) h.word_is in
      let n = total_some (is_locked_for w.first call.operation) (notes_of slot notes) (let a = inside_notes slot (is_locked_for w.first call.operation) in let b = h.locked in omega (arith, a, b)) in
      let l = lock_of w.first call.operation n.1 n.3 in
      let there : get_elem? (notes_of slot notes) n.0 ≡ some (Locker (parts h.word).first l.0) = n.2 ∙ (ap some l.1 ∙ ap (λ (f : ℕ). some (Locker f l.0)) first) in
      let saw : 0 < total (is_saw h.word) (notes_of slot notes) = (let a = inside_notes slot (is_saw h.word) in let b = h.found in omega (arith, a, b)) in
      let was = h.was_open in
      let m = lock_range q notes kept words closing slot h.word n.0 l.0 inside saw (omega (arith, was)) there in
      (l.0, m.0, l.2, m.1 ∙ (λ i. some (Made (sym first i) (sym range i) l.0)))

  -- the lock by which the call ended that is operation o, for which this is known
  pub record LockOf (o : ℕ) (Known : ℕ → Parts → Type 0) : Type 0 where
    pub slot : ℕ
    pub inside : slot < slots
    pub word : Parts
    pub call : Asked
    pub number : call.operation ≡ o
    pub place : ℕ
    pub made : get_elem? (notes_of slot notes) place ≡ some (Made word.first word.range call)
    pub over : 0 < total (is_ended_at word.first word.attempt) (notes_of slot notes)
    pub known : Known slot word

  module _ (links : ℕ) (few : links ≤ p.links) (made : (i j f r : ℕ) (asked : Asked) → i < slots → get_elem? (notes_of i notes) j ≡ some (Made f r asked) → (c : ℕ) × IsTask every outcomes c record { number = asked.operation; op = ops.Call asked } × (r ≡ asked.range))
      -- what was told of a call that failed, by a seat whose notes are among all
      (code : ℕ) (Known : View Asked → ℕ → Parts → Type 0) (v : View Asked) (inside_notes : (slot : ℕ) (f : Note Asked → ℕ) → total f (notes_of slot v.notes) ≤ total f (notes_of slot notes)) (x : Told) (t : ToldEnd q links gave code Known v x)
      (id with : ℕ) (is : x.outcome ≡ CallFailed id with) (client : ℕ) (asked : Asked) (task : IsOperation every outcomes client x.number (ops.Call asked)) (last : ℕ) where
    of_lock : (c : Asked) × (j : ℕ) × (c.operation ≡ t.of.call.operation) × (get_elem? (notes_of t.of.slot notes) j ≡ some (Made t.of.word.first t.of.word.range c))
    of_lock = lock_made v inside_notes t.of.slot t.of.word t.of.call t.of.inside t.lock

    number_is : of_lock.0.operation ≡ x.number
    number_is = of_lock.2 ∙ sym t.of.number

    -- it asks for as many versions as the lock has
    versions : t.of.word.range ≡ asked.range
    versions =
        let m = of_lock in let w = made t.of.slot m.1 t.of.word.first t.of.word.range m.0 t.of.inside m.3 in
        let s = same_task drun w.0 client record { number = m.0.operation; op = ops.Call m.0 } record { number = x.number; op = ops.Call asked } w.1 task number_is in
        w.2 ∙ ap (λ (a : Asked). a.range) (same_asked m.0 asked (ap (λ (y : Task). y.op) s.1))

    -- it ended by a compressed response; or with the code, and then that is known of its lock
    abbrev pub WhyTold : Type 0
    WhyTold = FailedBy p every outcomes fixed_here gave orders_here client x.number asked id with last ⊎ ((code ≡ with) × (l : LockOf x.number (Known v)) × (id_of l.slot l.word ≡ id))

    pub told_why : WhyTold
    told_why = by t.by
      where
        by : EndsBy q links gave code Known v t.of.slot t.of.word x.outcome → WhyTold
        by (on_code known e) =
            let all = inside_notes t.of.slot (is_ended_at t.of.word.first t.of.word.attempt) in let own = t.over in
            inr (
              same_end (id_of t.of.slot t.of.word) code id with (sym e ∙ is),
              record { slot = t.of.slot; inside = t.of.inside; word = t.of.word; call = of_lock.0; number = number_is; place = of_lock.1; made = of_lock.3; over = omega (arith, all, own); known = known },
              same_id (id_of t.of.slot t.of.word) code id with (sym e ∙ is),
            )
        by (on_response f given e) =
            let u = unread (id_of t.of.slot t.of.word) id with f given.given.responds (sym e ∙ is) in let low = given.below in let wide = versions in let link_low = given.given.whole.0 in
            let answered : IsAnsweredBy p every outcomes fixed_here gave orders_here asked (id_of t.of.slot t.of.word) (λ (frame : Frame). frame.meta.compress_type ≢ pos 0) =
            (given.given.link, given.given.place, f, (omega (arith, link_low, few), given.given.whole.1), (given.given.responds, given.behind, omega (arith, low, wide)), u.compressed) in
            inl (ByCompression u.code_is (subst (λ (i : ℕ). IsAnsweredBy p every outcomes fixed_here gave orders_here asked i (λ (frame : Frame). frame.meta.compress_type ≢ pos 0)) u.id_is answered))

  -- of what a reader told
  pub by_reader : (link code : ℕ) (v : View Asked) → ((word : ℕ) → IsPost q link v word → IsPosted word code) → (o : ℕ) (l : LockOf o (IsPostFor q link v)) → (client : ℕ) (asked : Asked) → IsOperation every outcomes client o (ops.Call asked) → (code ≡ EEOF → Alone l.known.0) → EndedOn o asked (id_of l.slot l.word) code
  by_reader link code v posted o l client asked task alone = let k = l.known in posted_on k.0 code (posted k.0 k.1) l.slot l.word.first l.word.range l.place l.call l.inside k.3 (sym k.2) l.made l.word.attempt k.4 l.over client o asked task l.number alone

  -- ## What a client told

  -- a client noted that the range with this first version in slot i has ended
  abbrev pub WasEnded : ℕ → ℕ → Type 0
  WasEnded i first = 0 < total (λ (v : View Asked). total (is_ended first) (notes_of i v.notes)) ids

  -- this error is queued for the id with this first version in slot i: the code of a reading, for the attempt that a word names
  pub record QueuedSo (i first e : ℕ) : Type 0 where
    pub word : ℕ
    pub code : ℕ
    pub posted : IsPosted word code
    pub slot_is : id_slot (call_at word) ≡ i
    pub first_is : id_first (call_at word) ≡ first
    pub error_is : error_in code (attempt_at word) ≡ e
    -- where a client ended the range
    pub alone : WasEnded i first → code ≡ EEOF → Alone word

  module _ (said_own : AreSaid outcomes told) (said_ended : AreSaid outcomes ended)
      -- what no client queued, a reader did
      (others : (i first e : ℕ) → 0 < queued_in i first e notes → (0 < total (λ (v : View Asked). queued_in i first e v.notes) ids) ⊎ QueuedSo i first e) (read_code : (link code : ℕ) → Reads link code → IsReadCode code) where
    -- with one of the codes of whoever reads links
    pub weak : (i first e : ℕ) → 0 < queued_in i first e notes → (0 < total (λ (v : View Asked). queued_in i first e v.notes) ids) ⊎ IsReadCode (code_of e)
    weak i first e h = elim (others i first e h) [
      | inl own ↦ inl own
      | inr r ↦ inr (subst IsReadCode (sym (code_at r.code r.word) ∙ ap code_of r.error_is) (read_code (at_word_link r.word) r.code r.posted.read))
    ]

    module _ (c : ℕ) (x : Client g state p q) (at : get_elem? (all_clients run) c ≡ some x) (one : Told) (e : IsCaused state p q (tasks_of x) (Says run outcomes said_own) (deeds_of x) (view_of x) one) where
      -- a client dropped a message of the call with this code, for this attempt
      pub record DroppedSo : Type 0 where
        pub place : ℕ
        pub client : Client g state p q
        pub in_crew : get_elem? (all_clients run) place ≡ some client
        pub attempt : ℕ
        pub current : e.attempt ≡ Some attempt
        pub drop : WasDropped state p q (deeds_of client) (id_in e.lock) e.code attempt

      of_reason : IsReadCode e.code → (d : ℕ) (y : Client g state p q) → get_elem? (all_clients run) d ≡ some y → Reason state p q (tasks_of y) (Says run outcomes said_own) (deeds_of y) (view_of y) (id_in e.lock) e.code e.attempt → DroppedSo
      of_reason read d y there (timed_out i t operation by s u h at_ is says counts keeps_ a b z) = absurd (not_timed e.code read b)
      of_reason read d y there (missed i deed at_ is backed a b) = absurd (not_missed e.code read (deed_code deed e.code is))
      of_reason read d y there (dropped n w z) = record { place = d; client = y; in_crew = there; attempt = n; current = z; drop = w }

      -- at the attempt of the lock
      pub over_here : 0 < total (is_ended_at (parts e.lock.word.0).first (parts e.lock.word.0).attempt) (notes_of e.lock.slot notes)
      over_here = let a = noted_among run notes noted c x at e.lock.slot (is_ended_at (parts e.lock.word.0).first (parts e.lock.word.0).attempt) in let b = e.over in omega (arith, a, b)

      of_queue : (client : ℕ) (asked : Asked) → IsOperation every outcomes client e.lock.content.operation (ops.Call asked) → QueuedSo e.lock.slot (parts e.lock.word.0).first (error_in e.code e.attempt) → WasEnded e.lock.slot (parts e.lock.word.0).first → EndedOn e.lock.content.operation asked (id_in e.lock) e.code
      of_queue client asked task r was =
          let n = named run tasks may notes kept words closing noted keeps outcomes drun seats logged differ gave all_there few_slots few_links asked_so r.posted.operation r.word r.posted.found in
          let timely = timely_low e.attempt (parts e.lock.word.0).attempt (let a = e.lock.fits.room in let b = e.lock.fits.range_high in omega (arith, a, b)) e.cause.timely in
          let both = one_error r.code e.code (attempt_at r.word) e.attempt (low_of (attempt_at r.word) n.attempt n.attempt_is n.few) timely r.error_is in let same = both.0 in
          let current = subst (λ (a : Option ℕ). IsTimely a (parts e.lock.word.0).attempt) (sym both.1) e.cause.timely in
          let m = made_so run tasks may notes kept words closing noted keeps outcomes said_own said_ended weak c x at one e in
          let whole = div-add-mod' (call_at r.word) 4294967296 in let slot = r.slot_is in let first = r.first_is in
          posted_on r.word e.code (subst (IsPosted r.word) same r.posted) e.lock.slot (parts e.lock.word.0).first (parts e.lock.word.0).range m.1 m.0 e.cause.inside (let l = e.lock.fits.low in omega (arith, l)) (omega (arith, whole, slot, first)) m.3 (parts e.lock.word.0).attempt current over_here client e.lock.content.operation asked task m.2 (λ k. r.alone was (same ∙ k))

      -- its end goes back to what a reader queued, or to a drop
      pub client_why : WasEnded e.lock.slot (parts e.lock.word.0).first → IsReadCode e.code → (client : ℕ) (asked : Asked) → IsOperation every outcomes client e.lock.content.operation (ops.Call asked) → EndedOn e.lock.content.operation asked (id_in e.lock) e.code ⊎ DroppedSo
      client_why was read client asked task = by e.cause.origin
        where
          by : Origin state p q (tasks_of x) (Says run outcomes said_own) (deeds_of x) (view_of x) e.lock e.code e.attempt → EndedOn e.lock.content.operation asked (id_in e.lock) e.code ⊎ DroppedSo
          by (posted_so reason) = inr (of_reason read c x at reason)
          by (handed_out word found locked first oldest some_) =
              let here = noted_among run notes noted c x at e.lock.slot (is_saw word) in
              let w = closing.oldest_is e.lock.slot word e.cause.inside (omega (arith, here, found)) (omega (arith, locked)) some_ in
              let same : queued_in e.lock.slot (parts word).first (parts word).oldest notes ≡ queued_in e.lock.slot (parts e.lock.word.0).first (error_in e.code e.attempt) notes = λ i. queued_in e.lock.slot (first i) (oldest i) notes in
              elim (others e.lock.slot (parts e.lock.word.0).first (error_in e.code e.attempt) (omega (arith, w, same))) [
                | inl own ↦ (let timely = timely_low e.attempt (parts e.lock.word.0).attempt (let a = e.lock.fits.room in let b = e.lock.fits.range_high in omega (arith, a, b)) e.cause.timely in
                    let y = by_clients run outcomes said_own notes kept words closing noted weak e.lock e.code e.attempt timely own in inr (of_reason read y.place y.client y.at y.reason))
                | inr r ↦ inl (of_queue client asked task r was)
              ]
