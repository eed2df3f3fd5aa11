-- Why a call failed whose last attempt came to nothing: its socket's life had been failed, or each request was taken; and no link accepted the attempt.
use Rattle.std.proofs.Common.{◌≡◌, ℕ, suc, ◌+◌, ◌*◌, ◌/◌, ◌%◌, ◌<◌, ◌≤◌, ◌⊎◌, inl, inr, List, [], ◌∷◌, length, map, Some, None, refl, sym, ap, ◌∙◌, subst, arith}
use Rattle.std.specs.Prelude.{Option}
use mathlib.Core.Logic.{dite}
use mathlib.Core.Option.{some, some-injective, some-ne-none}
use native.Mathlib.Decide.{ℕ_discrete}
use lib.ListN.{get_elem?}
use Rattle.atomic_table.specs.declared.shared.Seat.{Seat}
use Rattle.sock_io.specs.declared.link.Out.{Ghosts}
use Rattle.sock_io.specs.LinkHalves.{OutState}
use Rattle.sock_words.specs.ErrorCodes.{EFAILEDSOCKET, EREQUESTS}
use Rattle.sock_words.specs.PackedWords.{socket_id_slot, socket_id_version, id_slot}
use Rattle.sock_words.specs.declared.outcome.Outcome.{Outcome}
use Rattle.sock_words.specs.declared.plain.Plan.{Plan}
use Rattle.sock_words.specs.declared.place_word.PlaceWord.{PlaceWord}
use Rattle.sock_words.specs.declared.vref.Vref.{Vref}
use Rattle.sock_model.specs.declared.view.View as sock_view
use Rattle.sock_model.specs.SocketTableLayout.{request_index}
use Rattle.sock_model.specs.MarkWeights.{is_known, is_saw}
use Rattle.failed_reasons.specs.Below.SockRule.ClosingWordsAndNotes.{PlacesDiffer}
use Rattle.failed_reasons.specs.Below.SockRule.SockHome.{SockHome}
use Rattle.failed_reasons.specs.Below.SockTable.NamesStoredAndFound.{HasSeen, Found}
use Rattle.seat_programs.specs.declared.task.Op.{Op}
use Rattle.seat_programs.specs.declared.task.Op.TheVariants as ops
use Rattle.seat_programs.specs.declared.task.Task.{Task}
use Rattle.seat_programs.specs.Explained.{AreTasks}
use Rattle.seat_programs.specs.ExplainedCalls.{Accepted, IsFailing, IsUnordered, WasFull, WhyLost, WasFailing, FailedBy, BySocket, ByRequests, all_accepted}
use Rattle.corr_core.specs.IdSlotLaw.{is_made}
use Rattle.corr_core.specs.declared.marks.Kept.{Kept}
use Rattle.corr_core.specs.declared.marks.Note.{Note}
use Rattle.corr_core.specs.declared.marks.Note.TheVariants.{Made}
use Rattle.corr_core.specs.declared.marks.Noted.{Noted}
use Rattle.corr_core.specs.declared.marks.View.{View}
use Rattle.corr_core.proofs.NoteSums.{only-at}
use Rattle.corr_id.specs.id_rule.specs.LawfulIdTable.{notes_of}
use Rattle.sock_message.specs.Asked.{Asked, name_of}
use Rattle.corr_id.specs.ClosingIdLists.{Closing}
use Rattle.failed_reasons.specs.Below.RpcClient.Told.{Told}
use Rattle.failed_reasons.specs.Below.CallAttempts.WaitingRetries.{IsStray}
use Rattle.failed_reasons.specs.Below.CallRun.ReadersOfLinks.{LinkReader}
use Rattle.failed_reasons.specs.Below.CallRun.Threads.{Thread, RanWith, MayRunAll, ids_of}
use Rattle.failed_reasons.specs.call_whys.specs.call_places.specs.ClientNotesCounted.{HaveNotesOf}
use Rattle.failed_reasons.specs.call_whys.specs.call_places.specs.DeedsOfCallClient.{Deed}
use Rattle.failed_reasons.specs.call_whys.specs.call_places.proofs.NoteWeights.{two_terms}
use Rattle.failed_reasons.specs.call_whys.specs.call_places.proofs.IdsOfRetries.{IsIdOf}
use Rattle.failed_reasons.specs.call_whys.specs.call_places.proofs.ClientPlaces.{Client, view_of, deeds_of}
use Rattle.failed_reasons.specs.call_whys.specs.call_places.proofs.CallPlaceOrders.{all_are, crew_of}
use Rattle.failed_reasons.specs.call_whys.specs.call_told.proofs.ListElementsByPlace.{all_at}
use Rattle.failed_reasons.specs.call_whys.specs.call_places.specs.sock_deeds.specs.Deeds as socks
use Rattle.failed_reasons.specs.call_whys.specs.call_places.specs.sock_deeds.specs.SocketTableRun.{IsOperation, Seated, seat_of, DeedRun}
use Rattle.failed_reasons.specs.call_whys.specs.call_places.specs.sock_deeds.proofs.MessagesAcceptedByDeeds.{log}
use Rattle.failed_reasons.specs.call_whys.specs.call_places.specs.sock_deeds.proofs.DeedsOfAllSeats.{Act, after, has_marks, has_seen}
use Rattle.failed_reasons.specs.call_whys.specs.call_places.specs.sock_deeds.proofs.WhyLivesFailed.{WhyFailed, by_name, by_link, by_reader, life_failed}
use Rattle.failed_reasons.specs.call_whys.specs.call_places.specs.sock_deeds.proofs.LivesOfDeeds.{MadeHere, found_made}
use Rattle.failed_reasons.specs.call_whys.specs.call_places.specs.sock_deeds.proofs.OrdersOfDeeds.{orders, entry_on}
use Rattle.failed_reasons.specs.call_whys.specs.call_places.specs.sock_deeds.proofs.DeedsForTasks.{fits}
use Rattle.failed_reasons.specs.call_whys.specs.call_places.specs.sock_deeds.proofs.WholeSocketDeeds.{laws_of}
use Rattle.failed_reasons.specs.Missed.{missed_in, id_of, IsBacked, attempt_of, socks_behind}
use Rattle.failed_reasons.proofs.AttemptLosses.{SawDead, SawFull, dead_later, full_later, WhyMissed, was_dead, was_full, was_unopened, was_stray}
use Rattle.failed_reasons.proofs.SeenReachesEnd.{Reaches, deeds_reach}
use Rattle.failed_ends.proofs.Single.{IsNothing, not_accepted}
use Rattle.failed_reasons.specs.call_whys.specs.call_places.specs.sock_deeds.proofs.ListPlaces.{map_back, map_there}

-- ## Of notes and operations

operation_in : Note Asked → ℕ
operation_in (Made f r asked) = asked.operation
operation_in other = 0

same_operation : (f g r s : ℕ) (a b : Asked) → Made f r a ≡ Made g s b → a.operation ≡ b.operation
unfolding operation_in
same_operation f g r s a b e = ap operation_in e

range_in : Op → ℕ
range_in (ops.Call asked) = asked.range
range_in other = 0

pub same_range : (a b : Asked) → ops.Call a ≡ ops.Call b → a.range ≡ b.range
unfolding range_in
same_range a b e = ap range_in e

-- ## Seats

module _ {O : Type 0} (g : Ghosts O) (state : O → OutState) (p : Plan) where
  -- where a chain ends: at its begin, or behind its last deed
  pub chain_last : (ds : List (socks.Deed g state p)) (s t : socks.Hand) → socks.Chain g state p ds s t → (t ≡ s) ⊎ ((k : ℕ) × (d : socks.Deed g state p) × (get_elem? ds k ≡ some d) × (t ≡ d.after))
  chain_last [] s t e = inl e
  chain_last (d ∷ ds) s t h = elim (chain_last ds d.after t h.1) [ inl e ↦ inr (0, d, refl, e) | inr w ↦ inr (suc w.0, w.1, w.2, w.3) ]

module _ {O : Type 0} {g : Ghosts O} {state : O → OutState} {p : Plan} {every : List (List Task)} {outcomes : List (Option Outcome)} {places : List PlaceWord} {vrefs : List Vref} {outs : List O} (drun : DeedRun g state p every outcomes places vrefs outs) where
  -- the last deed of a seat, if it did any
  last_act : (c : ℕ) (y : Seated g state p) → get_elem? drun.seats c ≡ some y → ((y.ended.view.finds ≡ []) × (y.ended.view.found ≡ [])) ⊎ ((b : Act drun) × (after drun b ≡ y.ended.view))
  last_act c y at = elim (chain_last g state p y.deeds _ y.ended y.chain) [
    | inl e ↦ inl (ap (λ (h : socks.Hand). h.view.finds) e, ap (λ (h : socks.Hand). h.view.found) e)
    | inr w ↦ inr (record { c = c; y = y; at = at; k = w.0; d = w.1; is = w.2 }, ap (λ (h : socks.Hand). h.view) (sym w.3))
  ]

  -- a life of the name was failed
  pub record LifeFailed (n : ℕ) : Type 0 where
    pub link : ℕ
    pub slot : ℕ
    pub version : ℕ
    pub made : MadeHere drun n link slot version
    pub why : WhyFailed drun slot version link

  life_by : (b : Act drun) (n : ℕ) → n < p.names → SawDead p n (after drun b) → LifeFailed n
  life_by b n low d =
      let i = socket_id_slot d.id.0 in let h = socket_id_version d.id.0 in
      let made = found_made drun b n d.id low d.found in
      let k = has_marks drun b (is_known h) (λ x. refl) i in let s = has_marks drun b (is_saw d.later) (λ x. refl) i in let known = d.known in let saw = d.saw in
      let failed = drun.closed.closing.dead_failed i h d.later d.inside (omega (arith, k, known)) (omega (arith, s, saw)) d.less in
      record {
        link = made.0;
        slot = i;
        version = h;
        made = made.1;
        why = elim (life_failed drun n made.0 i h d.inside made.1 (omega (arith, failed))) [
          | inl why ↦ why
          | inr alive ↦ absurd (let e = alive b d.later saw in let l = d.less in omega (arith, e, l))
        ];
      }

  dead_by : (c : ℕ) (y : Seated g state p) → get_elem? drun.seats c ≡ some y → (n : ℕ) → n < p.names → SawDead p n y.ended.view → LifeFailed n
  dead_by c y at n low d = elim (last_act c y at) [
    | inl none_ ↦ absurd (some-ne-none _ (sym (ap (λ l. get_elem? l d.found.0) (sym none_.0) ∙ d.found.1)))
    | inr w ↦ life_by w.0 n low (subst (SawDead p n) (sym w.1) d)
  ]

  -- as many messages were accepted as there are requests
  pub full_by : (c : ℕ) (y : Seated g state p) → get_elem? drun.seats c ≡ some y → SawFull p y.ended.view → p.requests ≤ length (log drun)
  full_by c y at f = elim (last_act c y at) [
    | inl none_ ↦ dite (ℕ_discrete p.requests 0)
        (λ z. omega (arith, z))
        (λ ne. absurd (let s = f 0 (omega (arith, ne)) in some-ne-none _ (sym (ap (λ l. get_elem? l s.0) (sym none_.1) ∙ s.1))))
    | inr w ↦ drun.closed.ordered.full (λ r low. has_seen drun w.0 (request_index p r) (subst (HasSeen (request_index p r)) (sym w.1) (f r low)))
  ]

-- ## The run

module _ {O : Type 0} {g : Ghosts O} {state : O → OutState} {readers : List (LinkReader g)} {p : Plan} {slots : ℕ} {setup : List Task} {clients : List (List Task)} {opens : List ℕ} {told ended : List (List Told)} {places : List PlaceWord} {vrefs : List Vref} {outs : List O} {ids : List (View Asked)}
    (run : RanWith g state readers p slots setup clients opens told ended places vrefs outs ids) (tasks : AreTasks p (setup ∷ clients)) (may : MayRunAll p (ids_of p slots) setup clients)
    (notes : List (Noted Asked)) (kept : List Kept) (words : List ℕ) (closing : Closing (ids_of p slots) notes kept words) (noted : HaveNotesOf ids notes) (outcomes : List (Option Outcome))
    -- what the seats did at the table of sockets
    (drun : DeedRun g state p (setup ∷ clients) outcomes places vrefs outs) (seats : map seat_of drun.seats ≡ map (λ (x : Thread g). x.ended.seat) (run.ran.main ∷ run.ran.others)) (logged : log drun ≡ run.closed.ordered.log) (differ : PlacesDiffer (log drun)) (gave : ℕ → List ℕ)
    -- the links accepted all messages of the log
    (all_there : length (log drun) ≤ all_accepted p.links (orders drun differ)) where
  open crew_of run use {q, every, crew}
  open laws_of drun differ gave use {fixed_here}

  -- the seat of a client
  pub its_seat : (c : ℕ) (x : Client g state p q) → get_elem? crew c ≡ some x → (y : Seated g state p) × (get_elem? drun.seats c ≡ some y) × (y.ended.view ≡ x.thread.ended.seat.me.0)
  its_seat c x at =
      let f : Thread g → Seat (SockHome O g) sock_view.View = λ z. z.ended.seat in
      let list : get_elem? (map seat_of drun.seats) c ≡ some x.thread.ended.seat = ap (λ l. get_elem? l c) (seats ∙ sym (all_are run f)) ∙ map_there (λ (z : Client g state p q). f z.thread) crew c x at in
      let w = map_back seat_of drun.seats c x.thread.ended.seat list in
      (w.0, w.1, sym w.0.left ∙ ap (λ s. s.me.0) w.2)

  -- what a deed's seat saw by it, it has in the end
  pub reached : (c : ℕ) (x : Client g state p q) → get_elem? crew c ≡ some x → (i : ℕ) (d : Deed g state p q) → get_elem? (deeds_of x) i ≡ some d → Reaches state p q {g = g} x.thread.ended.seat.me.0 d
  reached c x at i d there = all_at (Reaches state p q {g = g} x.thread.ended.seat.me.0) (deeds_of x) i d (deeds_reach x.thread x.is) there

  -- a link whose life was failed by a `fail`, by the link, or by its reader
  pub failing_by : (i h link : ℕ) → WhyFailed drun i h link → IsFailing p every outcomes fixed_here gave (orders drun differ) link
  failing_by i h link (by_name f) = inl (f.life.number, f.listed, tt)
  failing_by i h link (by_link b) = inr (inl b)
  failing_by i h link (by_reader e) = inr (inr (inl e))

  -- ## One id

  -- two calls of one id are of one operation
  pub one_operation : (o id slot first r j : ℕ) (asked : Asked) → slot < slots → first < 4294967296 → IsIdOf slots notes o id → id ≡ slot * 4294967296 + first → get_elem? (notes_of slot notes) j ≡ some (Made first r asked) → o ≡ asked.operation
  one_operation o id slot first r j asked inside low is same made =
      let its = is.id_is in let its_low = is.low in
      let slot_is : is.slot ≡ slot = omega (arith, its, its_low, same, low) in let first_is : is.first ≡ first = omega (arith, its, its_low, same, low) in
      let also : get_elem? (notes_of slot notes) is.place ≡ some (Made first is.range is.asked) = subst (λ (f : ℕ). get_elem? (notes_of slot notes) is.place ≡ some (Made f is.range is.asked)) first_is (subst (λ (s : ℕ). get_elem? (notes_of s notes) is.place ≡ some (Made is.first is.range is.asked)) slot_is is.made) in
      dite (ℕ_discrete is.place j)
      (λ e. sym is.operation ∙ same_operation first first is.range r is.asked asked (some-injective _ _ (sym also ∙ (ap (get_elem? (notes_of slot notes)) e ∙ made))))
      (λ ne. absurd (let t = two_terms (is_made first) (notes_of slot notes) is.place j (Made first is.range is.asked) (Made first r asked) also made ne in let once = closing.made_once slot first inside in let one = only-at first first refl in omega (arith, t, once, one)))

  -- ## An attempt that came to nothing

  module _ (c : ℕ) (x : Client g state p q) (at : get_elem? crew c ≡ some x) (i : ℕ) (d : Deed g state p q) (there : get_elem? (deeds_of x) i ≡ some d) (code : ℕ) (missed : missed_in d ≡ Some code) (backed : IsBacked (view_of x) d) where
    -- no link accepted it
    pub unordered : (inside : id_slot (id_of d) < slots) → (f : IsNothing run tasks may notes kept words closing noted d) × IsUnordered p every outcomes fixed_here gave (orders drun differ) f.operation (attempt_of d)
    unordered inside =
        let n = not_accepted run tasks may notes kept words closing noted code c x at i d there missed backed inside in (
          n.0,
          λ k stands. (
              let w = entry_on drun differ k stands.0 stands.1.1 stands.1.2 in
              let operation : w.0.heading.label.place / 8 ≡ n.0.operation = ap (λ (a : Accepted). a.operation) w.2 ∙ stands.1.3 in
              let number : w.0.heading.label.place % 8 ≡ attempt_of d = ap (λ (a : Accepted). a.attempt) w.2 ∙ stands.1.4 in
              n.1 w.3 w.0 (ap (λ l. get_elem? l w.3) (sym logged) ∙ w.4) (omega (arith, operation, number))),
        )

    -- why the call failed: one of the causes that are told of failed calls; or its name had no socket
    pub data Fallen (client o : ℕ) (asked : Asked) (id n : ℕ) : Type 0 where
      fell : FailedBy p every outcomes fixed_here gave (orders drun differ) client o asked id code n → Fallen client o asked id n
      none_opened : code ≡ EFAILEDSOCKET → (u : sock_view.View) → Found p (name_of asked n) None u (socks_behind d) → Fallen client o asked id n

    -- why it came to nothing, as it is told; or its name had no socket
    pub data WhyNothing (client o : ℕ) (asked : Asked) : Type 0 where
      had_failed : code ≡ EFAILEDSOCKET → WhyLost p every outcomes fixed_here gave (orders drun differ) client o (attempt_of d) (name_of asked (attempt_of d)) → WhyNothing client o asked
      were_full : code ≡ EREQUESTS → WasFull p every outcomes fixed_here gave (orders drun differ) → WhyNothing client o asked
      had_none : code ≡ EFAILEDSOCKET → (u : sock_view.View) → Found p (name_of asked (attempt_of d)) None u (socks_behind d) → WhyNothing client o asked

    pub why_nothing : (client o : ℕ) (asked : Asked) → IsOperation every outcomes client asked.operation (ops.Call asked) → WhyMissed p q (name_of asked (attempt_of d)) asked.operation code (socks_behind d) → WhyNothing client o asked
    why_nothing client o asked is (was_dead same dead) =
        let y = its_seat c x at in
        let low = (fits drun client record { number = asked.operation; op = ops.Call asked } is).1.names (attempt_of d) in
        let seen = subst (SawDead p (name_of asked (attempt_of d))) (sym y.2) (dead_later p (name_of asked (attempt_of d)) (socks_behind d) x.thread.ended.seat.me.0 (reached c x at i d there) dead) in
        let l = dead_by drun c y.0 y.1 (name_of asked (attempt_of d)) low seen in
        had_failed same (WasFailing l.link (l.slot, l.version, l.made) (failing_by l.slot l.version l.link l.why))
    why_nothing client o asked is (was_full same full) =
        let y = its_seat c x at in
        let seen = subst (SawFull p) (sym y.2) (full_later p (socks_behind d) x.thread.ended.seat.me.0 (reached c x at i d there) full) in
        let many = full_by drun c y.0 y.1 seen in were_full same (omega (arith, many, all_there))
    why_nothing client o asked is (was_unopened same u found) = had_none same u found
    why_nothing client o asked is (was_stray stray) = absurd (by stray)
      where
        fit : (asked.operation < p.operations) × (name_of asked (attempt_of d) < p.names)
        fit = let f = (fits drun client record { number = asked.operation; op = ops.Call asked } is).1 in (f.operation, f.names (attempt_of d))

        by : IsStray p q (name_of asked (attempt_of d)) asked.operation → ⊥
        by (inl a) = let b = fit.1 in omega (arith, a, b)
        by (inr (inl a)) = let b = fit.0 in omega (arith, a, b)
        by (inr (inr a)) = let b = fit.0 in omega (arith, a, b)

    pub fallen : (client o : ℕ) (asked : Asked) (id : ℕ) → IsOperation every outcomes client asked.operation (ops.Call asked) → IsUnordered p every outcomes fixed_here gave (orders drun differ) o (attempt_of d) → attempt_of d + 2 ≡ asked.range
        → WhyMissed p q (name_of asked (attempt_of d)) asked.operation code (socks_behind d) → Fallen client o asked id (attempt_of d)
    fallen client o asked id is none_ last why = by (why_nothing client o asked is why)
      where
        by : WhyNothing client o asked → Fallen client o asked id (attempt_of d)
        by (had_failed same lost) = fell (BySocket same last (inl none_) lost)
        by (were_full same full) = fell (ByRequests same last none_ full)
        by (had_none same u found) = none_opened same u found
