-- An attempt for which a link was stored was to be sent over that link, to a socket of its name, and stands on no other; and it stands there, or the socket's life had been failed, or each request was taken.
use Rattle.std.proofs.Common.{◌≡◌, ℕ, ◌+◌, ◌/◌, ◌%◌, ◌<◌, ◌≤◌, ◌⊎◌, inl, inr, List, [], ◌∷◌, length, map, Some, None, zero-le, refl, sym, ap, ◌∙◌, subst, arith}
use Rattle.std.specs.Prelude.{Option}
use Rattle.std.proofs.lemmas.Option.{none-some, same_Some}
use mathlib.Core.Option.{some}
use lib.ListN.{get_elem?}
use Rattle.sock_io.specs.declared.link.Out.{Ghosts}
use Rattle.sock_io.specs.LinkHalves.{OutState}
use Rattle.sock_words.specs.PackedWords.{socket_id_slot, socket_id_version, vref_version}
use Rattle.sock_words.specs.declared.outcome.Outcome.{Outcome}
use Rattle.sock_words.specs.declared.outcome.Outcome.TheVariants as outcome
use Rattle.sock_words.specs.declared.plain.Plan.{Plan}
use Rattle.sock_words.specs.declared.place_word.PlaceWord.{PlaceWord}
use Rattle.sock_words.specs.declared.socket_id.SocketId.{SocketId}
use Rattle.sock_words.specs.declared.vref.Vref.{Vref}
use Rattle.sock_model.specs.declared.chain.Entry.{Entry}
use Rattle.sock_model.specs.declared.marks.Mark.{Mark}
use Rattle.sock_model.specs.declared.view.View as sock_view
use Rattle.sock_model.specs.Authors.{pick}
use Rattle.sock_model.specs.Entries.{on}
use Rattle.sock_model.specs.SocketTableLayout.{name_index, request_index}
use Rattle.sock_model.specs.SlotRows.{marks_of}
use Rattle.sock_model.specs.MarkWeights.{is_known, is_met, is_saw, pair}
use Rattle.failed_ends.specs.call_whys.specs.call_places.specs.outcome_stories.specs.program_walks.specs.slot_steps.proofs.RuleNumbers.{pair-same}
use Rattle.failed_ends.specs.Below.SockRule.ClosingWordsAndNotes.{PlacesDiffer}
use Rattle.failed_ends.specs.Below.SockRule.Letter.{Letter}
use Rattle.failed_ends.specs.Below.SockTable.NamesStoredAndFound.{Found}
use Rattle.seat_programs.specs.declared.task.Op.{Op}
use Rattle.seat_programs.specs.declared.task.Op.TheVariants as ops
use Rattle.seat_programs.specs.declared.task.Task.{Task}
use Rattle.seat_programs.specs.Explained.{AreTasks}
use Rattle.seat_programs.specs.ExplainedCalls.{Accepted, StandsOn, MayBeOn, all_accepted}
use Rattle.corr_core.specs.declared.marks.Kept.{Kept}
use Rattle.corr_core.specs.declared.marks.Noted.{Noted}
use Rattle.corr_core.specs.declared.marks.Plan as id_plan
use Rattle.corr_core.specs.declared.marks.View.{View}
use Rattle.sock_message.specs.Asked.{Asked, name_of}
use Rattle.corr_id.specs.ClosingIdLists.{Closing}
use Rattle.failed_ends.specs.Below.RpcClient.Told.{Told}
use Rattle.failed_ends.specs.Below.WriteChain.Accepting.{full_found}
use Rattle.failed_ends.specs.Below.WriteChain.RefusedVariants as refused
use Rattle.failed_ends.specs.Below.CallAttempts.ClientAtBothTables.{Both}
use Rattle.failed_ends.specs.Below.CallAttempts.Attempting.{DeliveredBy, went_out, came_back, AttemptedBy, nowhere, over_link}
use Rattle.failed_ends.specs.Below.CallAttempts.AttemptLetters.{letter_for}
use Rattle.failed_ends.specs.Below.CallAttempts.WaitingRetries.{WentTo, stray, unopened, to_socket, had_ended, overtaken, went_again}
use Rattle.failed_ends.specs.Below.CallClient.ClientBetweenOperations.{Stand, both_of, Acted}
use Rattle.failed_ends.specs.Below.CallRun.ReadersOfLinks.{LinkReader}
use Rattle.failed_ends.specs.Below.CallRun.Threads.{Thread, RanWith, MayRunAll, ids_of}
use Rattle.failed_ends.specs.call_whys.specs.call_places.specs.ClientNotesCounted.{HaveNotesOf}
use Rattle.failed_ends.specs.call_whys.specs.call_places.specs.DeedsOfCallClient.{Deed, operates, retries, delivered_entries, attempt_entries, went_entries, acted_entries, entries_of}
use Rattle.failed_ends.specs.call_whys.specs.call_places.proofs.IdsOfRetries.{IsIdOf}
use Rattle.failed_ends.specs.call_whys.specs.call_places.proofs.ClientPlaces.{Client, deeds_of, own_of}
use Rattle.failed_ends.specs.call_whys.specs.call_places.proofs.CallPlaceOrders.{lists_are, crew_of}
use Rattle.failed_ends.specs.call_whys.specs.call_deeds.proofs.MessageDeeds.{seen_through}
use Rattle.failed_ends.specs.call_whys.specs.call_places.specs.sock_deeds.specs.MessagesLeftByRun.{accepted_of}
use Rattle.failed_ends.specs.call_whys.specs.call_places.specs.sock_deeds.specs.SocketTableRun.{IsOperation, Seated, seat_of, DeedRun}
use Rattle.failed_ends.specs.call_whys.specs.call_places.specs.sock_deeds.proofs.MessagesAcceptedByDeeds.{log}
use Rattle.failed_ends.specs.call_whys.specs.call_places.specs.sock_deeds.proofs.DeedsOfAllSeats.{after, has_marks}
use Rattle.failed_ends.specs.call_whys.specs.call_places.specs.sock_deeds.proofs.PlacesOfEntries.{on_there, from_pick}
use Rattle.failed_ends.specs.call_whys.specs.call_places.specs.sock_deeds.proofs.WhyLivesFailed.{WhyFailed, life_failed}
use Rattle.failed_ends.specs.call_whys.specs.call_places.specs.sock_deeds.proofs.LivesFailedByName.{life_is}
use Rattle.failed_ends.specs.call_whys.specs.call_places.specs.sock_deeds.proofs.Flats.{append_later, flat_there}
use Rattle.failed_ends.specs.call_whys.specs.call_places.specs.sock_deeds.proofs.GrowingSocketNotes.{Grew, HasFound, grew_then, added_grew, delivered_grew, wrote_grew, returned_grew}
use Rattle.failed_ends.specs.call_whys.specs.call_places.specs.sock_deeds.proofs.LivesOfDeeds.{MadeHere, found_made, linked_made}
use Rattle.failed_ends.specs.call_whys.specs.call_places.specs.sock_deeds.proofs.OrdersOfDeeds.{orders, accepted_there, entry_on}
use Rattle.failed_ends.specs.call_whys.specs.call_places.specs.sock_deeds.proofs.DeedsForTasks.{fits}
use Rattle.failed_ends.specs.call_whys.specs.call_places.specs.sock_deeds.proofs.WholeSocketDeeds.{laws_of}
use Rattle.failed_ends.specs.failed_reasons.specs.CallsEndedByReading.{LostOn}
use Rattle.failed_ends.specs.failed_reasons.specs.Missed.{attempt_of, socks_behind}
use Rattle.failed_ends.specs.failed_reasons.proofs.AtWords.{attempt_link, went_link, acted_link, link_in}
use Rattle.failed_told.proofs.DroppedAttempts.{same_name, marked_act}
use Rattle.failed_ends.proofs.Fallen.{its_seat, reached, full_by, failing_by}
use Rattle.failed_ends.specs.failed_reasons.proofs.AttemptLosses.{SawFull, full_later, saw_there, IsAskedIn}
use Rattle.failed_ends.proofs.Single.{IsAttemptOf, sender, alone, none_there, one_there, deed_place}
use Rattle.failed_ends.specs.call_whys.specs.call_places.specs.sock_deeds.proofs.ListPlaces.{map_back, map_there}

-- ## What a seat noted of an attempt with a link

-- a frame of the attempt was accepted; or none was, since a later version of this socket's slot was seen, or each request was found taken
pub data CameTo (p : Plan) (socket : SocketId) (v : sock_view.View) (sent : List Entry) : Type 0 where
  was_sent : (m : ℕ) (e : Entry) → get_elem? sent m ≡ some e → CameTo p socket v sent
  saw_dead : sent ≡ [] → (later : ℕ) → 0 < marks_of (is_saw later) (socket_id_slot socket.0) v → socket_id_version socket.0 < later → CameTo p socket v sent
  saw_full : sent ≡ [] → SawFull p v → CameTo p socket v sent

-- the socket of the name was found, its life has this link, and so have the frames of the attempt that were accepted
pub record IsOver (p : Plan) (name link : ℕ) (v : sock_view.View) (sent : List Entry) : Type 0 where
  pub socket : SocketId
  pub inside : socket_id_slot socket.0 < p.slots
  pub found : HasFound record { place = name_index p name; word = socket.0 + 1 } v
  pub known : 0 < marks_of (is_known (socket_id_version socket.0)) (socket_id_slot socket.0) v
  pub met : 0 < marks_of (is_met (socket_id_version socket.0) link) (socket_id_slot socket.0) v
  pub each : (m : ℕ) (e : Entry) → get_elem? sent m ≡ some e → 0 < marks_of (is_met (socket_id_version socket.0) e.link) (socket_id_slot socket.0) v
  pub came : CameTo p socket v sent

module _ {O : Type 0} (state : O → OutState) (p : Plan) (q : id_plan.Plan) where
  delivery_grew : (socket : SocketId) (msg : Letter) (u t : Both) → DeliveredBy state p q socket msg u t → Grew u.socks t.socks
  delivery_grew socket msg u t (went_out w) = delivered_grew state p (record { id = socket }) msg None u.socks t.socks (record { taken = w.taken; accepted = w.accepted; through = seen_through state p q.slots socket.0 w.taken u.calls t.socks t.calls w.through })
  delivery_grew socket msg u t (came_back (refused.Failed s m found) c) = let b = c.refused_by in
      delivered_grew state p (record { id = socket }) msg (Some (outcome.Gone found)) u.socks t.socks (record { refused_at = c.refused_at; refused_by = (refl, refl, b.2, b.3); returned = c.returned })
  delivery_grew socket msg u t (came_back (refused.Full s m) c) = let b = c.refused_by in
      delivered_grew state p (record { id = socket }) msg (Some outcome.Full) u.socks t.socks (record { refused_at = c.refused_at; refused_by = (refl, refl, b.2, b.3, b.4, b.5, b.6, b.7, b.8, b.9); returned = c.returned })

  -- the seat met the link of an accepted frame
  delivery_met : (socket : SocketId) (msg : Letter) (u t : Both) (d : DeliveredBy state p q socket msg u t) (m : ℕ) (e : Entry) → get_elem? (delivered_entries state p q socket msg u t d) m ≡ some e → 0 < marks_of (is_met (socket_id_version socket.0) e.link) (socket_id_slot socket.0) t.socks
  delivery_met socket msg u t (went_out w) m e h =
      let i = socket_id_slot socket.0 in let version = socket_id_version socket.0 in let f : Mark → ℕ = is_met version w.accepted.entry.link in
      let through = seen_through state p q.slots socket.0 w.taken u.calls t.socks t.calls w.through in
      let here : marks_of f i w.taken + 0 ≡ marks_of f i u.socks + (pair version w.accepted.entry.link version w.accepted.entry.link + (0 + 0)) = w.accepted.marks.here f in
      let one = pair-same version w.accepted.entry.link in
      let later = (grew_then w.taken through.wrote t.socks (wrote_grew state p socket.0 w.taken through.wrote through.by) (returned_grew socket.0 through.wrote t.socks through.returned)).marks f (λ x. refl) i in
      subst (λ (x : Entry). 0 < marks_of (is_met version x.link) i t.socks) (one_there m w.accepted.entry e h) (omega (arith, here, one, later))
  delivery_met socket msg u t (came_back by c) m e h = absurd (none_there m e h)

  delivery_came : (socket : SocketId) (msg : Letter) (u t : Both) (d : DeliveredBy state p q socket msg u t) → CameTo p socket t.socks (delivered_entries state p q socket msg u t d)
  delivery_came socket msg u t (went_out w) = was_sent 0 w.accepted.entry refl
  delivery_came socket msg u t (came_back (refused.Failed s m found) c) =
      let b = c.refused_by in let back = returned_grew socket.0 c.refused_at t.socks c.returned in
      let saw = saw_there (socket_id_slot socket.0) (vref_version found.0) u.socks c.refused_at [] b.3 in let still = back.marks (is_saw (vref_version found.0)) (λ x. refl) (socket_id_slot socket.0) in let version = b.2 in
      saw_dead refl (vref_version found.0) (omega (arith, saw, still)) (omega (arith, version))
  delivery_came socket msg u t (came_back (refused.Full s m) c) = let back = returned_grew socket.0 c.refused_at t.socks c.returned in saw_full refl (λ r low. back.seen (request_index p r) (full_found p _ c.refused_at c.refused_by.2 r low))

  attempt_over : (name link : ℕ) (socket : SocketId) (msg : Letter) (v : sock_view.View) (s t : Both) → Found p name (Some socket) v s.socks → (a : AttemptedBy state p q socket msg s t) → attempt_link state p q socket msg s t a ≡ Some link → IsOver p name link t.socks (attempt_entries state p q socket msg s t a)
  attempt_over name link socket msg v s t found (nowhere n) is = absurd (none-some link is)
  attempt_over name link socket msg v s t found (over_link u l d) is =
      let i = socket_id_slot socket.0 in let version = socket_id_version socket.0 in let f : Mark → ℕ = is_met version l.link in
      let later = delivery_grew socket msg u t d in
      let all = grew_then s.socks l.has t.socks (added_grew i s.socks l.has _ l.held) (grew_then l.has u.socks t.socks (added_grew i l.has u.socks _ l.link_of.became) later) in
      let here : marks_of f i u.socks + 0 ≡ marks_of f i l.has + (pair version l.link version l.link + 0) = l.link_of.became.here f in
      let one = pair-same version l.link in let more = later.marks f (λ x. refl) i in
      let knew = found.0.known in let know = all.marks (is_known version) (λ x. refl) i in
      record {
        socket = socket;
        inside = found.0.inside;
        known = omega (arith, knew, know);
        found = all.finds record { place = name_index p name; word = socket.0 + 1 } (0, ap (λ (z : sock_view.View). get_elem? z.finds 0) found.1.view);
        met = subst (λ (k : ℕ). 0 < marks_of (is_met version k) i t.socks) (same_Some l.link link is) (omega (arith, here, one, more));
        each = delivery_met socket msg u t d;
        came = delivery_came socket msg u t d;
      }

  went_over : (name link : ℕ) (msg : Letter) (s t : Both) (w : WentTo state p q name msg s t) → went_link state p q name msg s t w ≡ Some link → IsOver p name link t.socks (went_entries state p q name msg s t w)
  went_over name link msg s t (stray a b c) is = absurd (none-some link is)
  went_over name link msg s t (unopened a b) is = absurd (none-some link is)
  went_over name link msg s t (to_socket socket u found e a) is = attempt_over name link socket msg s.socks u t found a is

  acted_over : {g : Ghosts O} (link number : ℕ) (op : Op) (by : Option Outcome) (s t : Stand g) (a : Acted state p q number op by s t) → acted_link state p q number op by s t a ≡ Some link → (asked : Asked) → op ≡ ops.Call asked → IsOver p (name_of asked 0) link t.me.0 (acted_entries state p q number op by s t a)
  acted_over link number (ops.Call own) None s t a is asked op =
      let b = a.1 in let own_over = attempt_over (name_of own 0) link b.socket (letter_for own a.0 0 zero-le) s.me.0 b.at (both_of t) b.made_for.found b.attempted is in
      subst (λ (n : ℕ). IsOver p n link t.me.0 (attempt_entries state p q b.socket (letter_for own a.0 0 zero-le) b.at (both_of t) b.attempted)) (same_name own asked 0 op) own_over
  acted_over link number (ops.Call own) (Some by) s t a is asked op = absurd (none-some link is)
  acted_over link number _ by s t a is asked op = absurd (none-some link is)

deed_over : {O : Type 0} {g : Ghosts O} {state : O → OutState} {p : Plan} {q : id_plan.Plan} (d : Deed g state p q) (link : ℕ) → link_in d ≡ Some link → (asked : Asked) → IsAskedIn d asked → IsOver p (name_of asked (attempt_of d)) link (socks_behind d) (entries_of d)
deed_over {state = state} {p = p} {q = q} (operates x by s t a) link is asked op = acted_over state p q link x.number x.op by s t a is asked op
deed_over {state = state} {p = p} {q = q} (retries r s t (had_ended h)) link is asked asks = absurd (none-some link is)
deed_over {state = state} {p = p} {q = q} (retries r s t (overtaken k u l o)) link is asked asks = absurd (none-some link is)
deed_over {g = g} {state = state} {p = p} {q = q} (retries r s t (went_again k u l w)) link is asked asks = subst (λ (a : Asked). IsOver p (name_of a r.attempt) link t.socks (entries_of {g = g} {state = state} {p = p} {q = q} (retries r s t (went_again k u l w)))) asks (went_over state p q (name_of k.content r.attempt) link (letter_for k.content r.id r.attempt r.low) _ t w.went is)

-- ## The run

module _ {O : Type 0} {g : Ghosts O} {state : O → OutState} {readers : List (LinkReader g)} {p : Plan} {slots : ℕ} {setup : List Task} {clients : List (List Task)} {opens : List ℕ} {told ended : List (List Told)} {places : List PlaceWord} {vrefs : List Vref} {outs : List O} {ids : List (View Asked)}
    (run : RanWith g state readers p slots setup clients opens told ended places vrefs outs ids) (tasks : AreTasks p (setup ∷ clients)) (may : MayRunAll p (ids_of p slots) setup clients)
    (notes : List (Noted Asked)) (kept : List Kept) (words : List ℕ) (closing : Closing (ids_of p slots) notes kept words) (noted : HaveNotesOf ids notes) (outcomes : List (Option Outcome))
    (drun : DeedRun g state p (setup ∷ clients) outcomes places vrefs outs) (seats : map seat_of drun.seats ≡ map (λ (x : Thread g). x.ended.seat) (run.ran.main ∷ run.ran.others)) (logged : log drun ≡ run.closed.ordered.log) (differ : PlacesDiffer (log drun)) (gave : ℕ → List ℕ)
    (all_there : length (log drun) ≤ all_accepted p.links (orders drun differ)) where
  open crew_of run use {q, every, crew}
  open laws_of drun differ gave use {fixed_here, orders_here}

  module _ (c : ℕ) (x : Client g state p q) (at : get_elem? crew c ≡ some x) (i : ℕ) (d : Deed g state p q) (there : get_elem? (deeds_of x) i ≡ some d) where
    -- its frame was accepted; or none was, since the life had been failed, or each request was taken
    abbrev HasCome : ℕ → ℕ → ℕ → Type 0
    HasCome slot version link = ((m : ℕ) × (e : Entry) × (get_elem? (entries_of d) m ≡ some e)) ⊎ ((entries_of d ≡ []) × (WhyFailed drun slot version link ⊎ (p.requests ≤ length (log drun))))

    -- a life of the name has the link, and no frame of the attempt another one
    record HasLife (name link : ℕ) : Type 0 where
      pub slot : ℕ
      pub version : ℕ
      pub made : MadeHere drun name link slot version
      pub each : (m : ℕ) (e : Entry) → get_elem? (entries_of d) m ≡ some e → e.link ≡ link
      pub came : HasCome slot version link

    -- why none was accepted of a socket whose slot had a later version
    dead_life : (name link : ℕ) (o : IsOver p name link (socks_behind d) (entries_of d)) → MadeHere drun name link (socket_id_slot o.socket.0) (socket_id_version o.socket.0) → (later : ℕ) → 0 < marks_of (is_saw later) (socket_id_slot o.socket.0) (socks_behind d) → socket_id_version o.socket.0 < later
        → WhyFailed drun (socket_id_slot o.socket.0) (socket_id_version o.socket.0) link
    dead_life name link o made later saw less =
        let y = its_seat run tasks may notes kept words closing noted outcomes drun seats logged differ gave all_there c x at in
        let k = socket_id_slot o.socket.0 in let version = socket_id_version o.socket.0 in
        let grew : Grew (socks_behind d) y.0.ended.view = subst (Grew (socks_behind d)) (sym y.2) (reached run tasks may notes kept words closing noted outcomes drun seats logged differ gave all_there c x at i d there) in
        let its = grew.marks (is_saw later) (λ z. refl) k in let own = grew.marks (is_known version) (λ z. refl) k in let known = o.known in
        let act = marked_act drun c y.0 y.1 (is_saw later) k (omega (arith, its, saw)) in
        let seen : 0 < marks_of (is_saw later) k (after drun act.0) = subst (λ (v : sock_view.View). 0 < marks_of (is_saw later) k v) (sym act.1) (omega (arith, its, saw)) in
        let knew : 0 < marks_of (is_known version) k (after drun act.0) = subst (λ (v : sock_view.View). 0 < marks_of (is_known version) k v) (sym act.1) (omega (arith, own, known)) in
        let all = has_marks drun act.0 (is_saw later) (λ z. refl) k in let among = has_marks drun act.0 (is_known version) (λ z. refl) k in
        let failed = drun.closed.closing.dead_failed k version later o.inside (omega (arith, among, knew)) (omega (arith, all, seen)) less in
        elim (life_failed drun name link k version o.inside made (omega (arith, failed))) [
          | inl why ↦ why
          | inr alive ↦ absurd (let e = alive act.0 later seen in omega (arith, e, less))
        ]

    come_of : (name link : ℕ) (o : IsOver p name link (socks_behind d) (entries_of d)) → MadeHere drun name link (socket_id_slot o.socket.0) (socket_id_version o.socket.0) → HasCome (socket_id_slot o.socket.0) (socket_id_version o.socket.0) link
    come_of name link o made = by o.came
      where
        y : (s : Seated g state p) × (get_elem? drun.seats c ≡ some s) × (s.ended.view ≡ x.thread.ended.seat.me.0)
        y = its_seat run tasks may notes kept words closing noted outcomes drun seats logged differ gave all_there c x at

        by : CameTo p o.socket (socks_behind d) (entries_of d) → HasCome (socket_id_slot o.socket.0) (socket_id_version o.socket.0) link
        by (was_sent m e h) = inl (m, e, h)
        by (saw_dead none_ later saw less) = inr (none_, inl (dead_life name link o made later saw less))
        by (saw_full none_ full) = inr (none_, inr (full_by drun c y.0 y.1 (subst (SawFull p) (sym y.2) (full_later p (socks_behind d) x.thread.ended.seat.me.0 (reached run tasks may notes kept words closing noted outcomes drun seats logged differ gave all_there c x at i d there) full))))

    life_of : (name link : ℕ) → name < p.names → IsOver p name link (socks_behind d) (entries_of d) → HasLife name link
    life_of name link low o =
        let y = its_seat run tasks may notes kept words closing noted outcomes drun seats logged differ gave all_there c x at in
        let k = socket_id_slot o.socket.0 in let version = socket_id_version o.socket.0 in
        let grew : Grew (socks_behind d) y.0.ended.view = subst (Grew (socks_behind d)) (sym y.2) (reached run tasks may notes kept words closing noted outcomes drun seats logged differ gave all_there c x at i d there) in
        let met : (l : ℕ) → 0 < marks_of (is_met version l) k (socks_behind d) → 0 < marks_of (is_met version l) k y.0.ended.view = λ l h. (let a = grew.marks (is_met version l) (λ z. refl) k in omega (arith, a, h)) in
        let act = marked_act drun c y.0 y.1 (is_met version link) k (met link o.met) in
        let found : HasFound record { place = name_index p name; word = o.socket.0 + 1 } (after drun act.0) = subst (HasFound record { place = name_index p name; word = o.socket.0 + 1 }) (sym act.1) (grew.finds record { place = name_index p name; word = o.socket.0 + 1 } o.found) in
        let made = found_made drun act.0 name o.socket low found in
        let same : (l : ℕ) → 0 < marks_of (is_met version l) k (socks_behind d) → made.0 ≡ l = λ l h. (
        let here : 0 < marks_of (is_met version l) k (after drun act.0) = subst (λ (v : sock_view.View). 0 < marks_of (is_met version l) k v) (sym act.1) (met l h) in
        let all = has_marks drun act.0 (is_met version l) (λ z. refl) k in
        let other = linked_made drun k version l (drun.closed.closing.met_linked k version l o.inside (omega (arith, all, here))) in
        (life_is drun name other.0 made.0 l k version made.1 other.1).1
        ) in
        let its : MadeHere drun name link k version = subst (λ (l : ℕ). MadeHere drun name l k version) (same link o.met) made.1 in
        record {
          slot = k;
          version = version;
          made = its;
          each = λ m e h. sym (same e.link (o.each m e h)) ∙ same link o.met;
          came = come_of name link o its;
        }

    -- a frame that it sent stands in the log
    logged_there : (m : ℕ) (e : Entry) → get_elem? (entries_of d) m ≡ some e → (k : ℕ) × (get_elem? (log drun) k ≡ some e)
    logged_there m e h =
        let own = flat_there entries_of (deeds_of x) i d m e there h in
        let empty : List (List Entry) = map (λ (z : LinkReader g). []) readers in
        let list : get_elem? run.closed.view.lists (length empty + c) ≡ some (own_of x) = ap (λ (l : List (List Entry)). get_elem? l (length empty + c)) (lists_are run) ∙ append_later empty (map own_of crew) c (own_of x) (map_there own_of crew c x at) in
        let o = run.closed.ordered in
        let picked = map_back (λ (a : ℕ). pick a o.by o.log) o.names (length empty + c) (own_of x) (ap (λ (l : List (List Entry)). get_elem? l (length empty + c)) (sym o.lists_are) ∙ list) in
        let w = from_pick picked.0 o.by o.log own.0 e (ap (λ (l : List Entry). get_elem? l own.0) picked.2 ∙ own.1) in
        (w.0, ap (λ (l : List Entry). get_elem? l w.0) logged ∙ w.2)

    -- the deed is the attempt of the call that is operation o, with this id, and this link was stored for it
    module _ (client o id : ℕ) (asked : Asked) (task : IsOperation every outcomes client o (ops.Call asked)) (is : IsIdOf slots notes o id) (attempt : IsAttemptOf run tasks may notes kept words closing noted o id (attempt_of d) d) (few : attempt_of d ≤ 6) (inside : id / 4294967296 < slots) (own : Asked) (asks : IsAskedIn d own) (same : own ≡ asked)
        (link : ℕ) (has : link_in d ≡ Some link) where
      abbrev n : ℕ
      n = attempt_of d

      life : HasLife (name_of asked n) link
      life = let low = (fits drun client record { number = o; op = ops.Call asked } task).1.names n in life_of (name_of asked n) link low (subst (λ (a : Asked). IsOver p (name_of a n) link (socks_behind d) (entries_of d)) same (deed_over d link has own asks))

      -- what stands for the attempt, the deed sent
      sent_there : (l : ℕ) → StandsOn p every outcomes fixed_here gave orders_here o n l → (m : ℕ) × (e : Entry) × (get_elem? (entries_of d) m ≡ some e) × (e.link ≡ l)
      sent_there l stands =
          let w = entry_on drun differ l stands.0 stands.1.1 stands.1.2 in
          let operation : w.0.heading.label.place / 8 ≡ o = ap (λ (a : Accepted). a.operation) w.2 ∙ stands.1.3 in
          let number : w.0.heading.label.place % 8 ≡ n = ap (λ (a : Accepted). a.attempt) w.2 ∙ stands.1.4 in
          let s = sender run tasks may notes kept words closing noted o id n (omega (arith, few)) is w.3 w.0 (ap (λ (z : List Entry). get_elem? z w.3) (sym logged) ∙ w.4) (omega (arith, operation, number)) in
          let one = alone run tasks may notes kept words closing noted o id n inside c x at i d there attempt s.place s.client s.in_crew s.index s.deed s.there s.attempt in (s.at, w.0, ap (λ (y : Deed g state p q). get_elem? (entries_of y) s.at) (sym one) ∙ s.sent, w.5)

      -- the attempt may be on that link, and on no other
      pub may_be_on : MayBeOn p every outcomes fixed_here gave orders_here o n (name_of asked n) link
      may_be_on = let l_ = life in (l_.slot, l_.version, l_.made, λ l stands. (let w = sent_there l stands in sym w.3 ∙ l_.each w.0 w.1 w.2))

      -- and it stands there, or the link was failing, or each request may have been taken
      pub lost_on : own.operation ≡ o → link < p.links → LostOn p every outcomes fixed_here gave orders_here o n link
      lost_on number low = elim life.came [
        | inl sent ↦ inr (inl (stands sent.0 sent.1 sent.2))
        | inr none_ ↦ elim none_.1 [
          | inl why ↦ inl (failing_by run tasks may notes kept words closing noted outcomes drun seats logged differ gave all_there life.slot life.version link why)
          | inr full ↦ inr (inr (λ l stands_. (let w = sent_there l stands_ in none_there w.0 w.1 (ap (λ (z : List Entry). get_elem? z w.0) (sym none_.0) ∙ w.2)), omega (arith, full, all_there)))
        ]
      ]
        where
          stands : (m : ℕ) (e : Entry) → get_elem? (entries_of d) m ≡ some e → StandsOn p every outcomes fixed_here gave orders_here o n link
          stands m e h =
              let k = logged_there m e h in let s = on_there link (log drun) k.0 e k.1 (life.each m e h) in let place = deed_place d own asks m e h in
              let operation : e.heading.label.place / 8 ≡ o = omega (arith, place, number, few) in let attempt_is : e.heading.label.place % 8 ≡ n = omega (arith, place, few) in
              (s.0, (low, accepted_of e, accepted_there (on link (log drun)) s.0 e s.1, operation, attempt_is))
