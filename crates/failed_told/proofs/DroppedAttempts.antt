-- An attempt of a call whose message a client dropped stands in the order of its link behind the placed ones; and with which code the call was told: EFAILEDSOCKET, and then its link is failing; that of a `fail` of the attempt's name; or that of whoever read the link.
use Rattle.std.proofs.Common.{◌≡◌, ℕ, ◌+◌, ◌*◌, ◌/◌, ◌%◌, ◌<◌, ◌≤◌, ◌⊎◌, inl, inr, true, cond, eq-eqb, ne_eqb, List, ◌∷◌, length, map, None, refl, sym, ap, ◌∙◌, subst, arith}
use Rattle.std.specs.Prelude.{Option, Contains}
use mathlib.Core.Logic.{dite}
use mathlib.Core.Option.{some, some-injective}
use native.Mathlib.Decide.{ℕ_discrete}
use lib.ListN.{get_elem?}
use Rattle.sock_io.specs.declared.link.Out.{Ghosts}
use Rattle.sock_io.specs.LinkHalves.{OutState}
use Rattle.sock_words.specs.ErrorCodes.{EFAILEDSOCKET}
use Rattle.sock_words.specs.PackedWords.{socket_id_slot, socket_id_version, place_word}
use Rattle.sock_words.specs.declared.outcome.Outcome.{Outcome}
use Rattle.sock_words.specs.declared.plain.Label.{Label}
use Rattle.sock_words.specs.declared.plain.Plan.{Plan}
use Rattle.sock_words.specs.declared.place_word.PlaceWord.{PlaceWord}
use Rattle.sock_words.specs.declared.vref.Vref.{Vref}
use Rattle.sock_model.specs.declared.chain.Entry.{Entry}
use Rattle.sock_model.specs.declared.chain.Heading.{Heading}
use Rattle.sock_model.specs.declared.marks.Mark.{Mark}
use Rattle.sock_model.specs.declared.view.StoredWord.{StoredWord}
use Rattle.sock_model.specs.Entries.{on}
use Rattle.sock_model.specs.SocketTableLayout.{place_index}
use Rattle.sock_model.specs.SlotRows.{marks_of}
use Rattle.sock_model.specs.MarkWeights.{is_met, is_saw, is_told}
use Rattle.failed_ends.specs.call_whys.specs.call_places.specs.outcome_stories.specs.program_walks.specs.slot_steps.proofs.RuleNumbers.{pair-same}
use Rattle.failed_ends.specs.Below.SockRule.ClosingWordsAndNotes.{PlacesDiffer, IsLogged}
use Rattle.failed_ends.specs.Below.SockRule.OnTable.{is_put, put_in}
use Rattle.failed_ends.specs.Below.SockRule.Letter.{Letter}
use Rattle.seat_programs.specs.declared.task.Op.{Op}
use Rattle.seat_programs.specs.declared.task.Op.TheVariants as ops
use Rattle.seat_programs.specs.declared.task.Task.{Task}
use Rattle.seat_programs.specs.Explained.{AreTasks}
use Rattle.seat_programs.specs.ExplainedCalls.{Accepted, MayBeOn, IsFailing, IsDropped, WhyLost, WasFailing, IsFailedWith, all_accepted}
use Rattle.corr_core.specs.declared.marks.Kept.{Kept}
use Rattle.corr_core.specs.declared.marks.Note.TheVariants.{Made}
use Rattle.corr_core.specs.declared.marks.Noted.{Noted}
use Rattle.corr_core.specs.declared.marks.View.{View}
use Rattle.corr_id.specs.id_rule.specs.LawfulIdTable.{notes_of}
use Rattle.sock_message.specs.Asked.{Asked, name_of}
use Rattle.corr_id.specs.ClosingIdLists.{Closing}
use Rattle.failed_ends.specs.Below.RpcClient.Told.{Told}
use Rattle.failed_ends.specs.Below.CallRun.ReadersOfLinks.{LinkReader}
use Rattle.failed_ends.specs.Below.CallRun.Threads.{Thread, RanWith, MayRunAll, ids_of}
use Rattle.failed_ends.specs.call_whys.specs.call_places.specs.ClientNotesCounted.{HaveNotesOf}
use Rattle.failed_ends.specs.call_whys.specs.call_places.proofs.ClientPlaces.{Client, deeds_of}
use Rattle.failed_ends.specs.call_whys.specs.call_places.proofs.IdsOfRetries.{IsIdOf}
use Rattle.failed_ends.specs.call_whys.specs.call_places.proofs.CallPlaceOrders.{crew_of}
use Rattle.failed_ends.specs.call_whys.specs.call_places.specs.sock_deeds.specs.MessagesLeftByRun.{accepted_of}
use Rattle.failed_ends.specs.call_whys.specs.call_places.specs.sock_deeds.specs.Deeds as socks
use Rattle.failed_ends.specs.call_whys.specs.call_places.specs.sock_deeds.specs.SocketTableRun.{IsOperation, IsMessage, of_send, of_call, Seated, seat_of, early_of, DeedRun}
use Rattle.failed_ends.specs.call_whys.specs.call_places.specs.sock_deeds.proofs.MessagesAcceptedByDeeds.{log, act_of_entry, sent_for, sent_place}
use Rattle.failed_ends.specs.call_whys.specs.call_places.specs.sock_deeds.proofs.DeedsOfAllSeats.{Act, after, has_marks, has_drops}
use Rattle.failed_ends.specs.call_whys.specs.call_places.specs.sock_deeds.proofs.FailedLifeCodes.{FailsWith, StoredByReader, stored_code, IsBehindPlaced, dropped_stands}
use Rattle.failed_ends.specs.call_whys.specs.call_places.specs.sock_deeds.proofs.WhyLivesFailed.{early}
use Rattle.failed_ends.specs.call_whys.specs.call_places.specs.sock_deeds.proofs.LivesFailedByName.{link_is}
use Rattle.failed_ends.specs.call_whys.specs.call_places.specs.sock_deeds.proofs.LivesOfDeeds.{MadeHere, linked_made}
use Rattle.failed_ends.specs.call_whys.specs.call_places.specs.sock_deeds.proofs.MessageLosses.{lost_by}
use Rattle.failed_ends.specs.call_whys.specs.call_places.specs.script_facts.proofs.FilteredLists.{contains_from}
use Rattle.failed_ends.specs.call_whys.specs.call_places.specs.sock_deeds.proofs.Flats.{flat_there}
use Rattle.failed_ends.specs.call_whys.specs.call_places.specs.sock_deeds.proofs.OrdersOfDeeds.{orders, accepted_there, entry_on}
use Rattle.failed_ends.specs.call_whys.specs.call_places.specs.sock_deeds.proofs.ListPlaces.{to_slice}
use Rattle.failed_ends.specs.call_whys.specs.call_places.specs.sock_deeds.proofs.ReaderSocketDeeds.{early_there}
use Rattle.failed_ends.specs.call_whys.specs.call_places.specs.sock_deeds.proofs.SentToSocketNames.{sent_life}
use Rattle.failed_ends.specs.call_whys.specs.call_places.specs.sock_deeds.proofs.WordStoresOfDeeds.{note_is}
use Rattle.failed_ends.specs.call_whys.specs.call_places.specs.sock_deeds.proofs.DeedsForTasks.{same_task}
use Rattle.failed_ends.specs.call_whys.specs.call_places.specs.sock_deeds.proofs.WholeSocketDeeds.{laws_of}
use Rattle.failed_ends.specs.attempts_told.specs.CountedAttempts.{last_attempt}
use Rattle.failed_ends.specs.failed_reasons.specs.Missed.{socks_behind}
use Rattle.failed_ends.specs.failed_reasons.specs.ErrorReasons.{StillHas, WasDropped}
use Rattle.failed_ends.specs.failed_reasons.proofs.FailedAttemptCodes.{IsReadCode}
use Rattle.failed_ends.proofs.Fallen.{chain_last, its_seat, reached, failing_by, one_operation}
use Rattle.failed_ends.specs.failed_reasons.proofs.NotesKeptWhileWriting.{still_as, still_then}
use Rattle.failed_ends.proofs.MessageOwners.{IsOwned, owned_by}
use Rattle.failed_ends.proofs.Single.{sender, made_low}
use Rattle.sock_words.specs.Totals.{total}

name_at : ℕ → Op → ℕ
name_at n (ops.Call asked) = name_of asked n
name_at n other = 0

pub same_name : (a b : Asked) (n : ℕ) → ops.Call a ≡ ops.Call b → name_of a n ≡ name_of b n
unfolding name_at
same_name a b n e = ap (name_at n) e

-- whoever reads the links posts no code of a life whose link failed, nor one that users give
not_failed : (code : ℕ) → IsReadCode code → code ≡ EFAILEDSOCKET → ⊥
not_failed code (inl e) t = omega (arith, e, t)
not_failed code (inr e) t = omega (arith, e, t)

not_user : (code : ℕ) → IsReadCode code → 1500 ≤ code → code ≤ 1999 → ⊥
not_user code (inl e) low high = omega (arith, e, low, high)
not_user code (inr e) low high = omega (arith, e, low, high)

-- ## Deeds at the table of sockets

module _ {O : Type 0} {g : Ghosts O} {state : O → OutState} {p : Plan} {every : List (List Task)} {outcomes : List (Option Outcome)} {places : List PlaceWord} {vrefs : List Vref} {outs : List O} (drun : DeedRun g state p every outcomes places vrefs outs) where
  -- a seat that noted something did a deed
  pub marked_act : (c : ℕ) (y : Seated g state p) → get_elem? drun.seats c ≡ some y → (f : Mark → ℕ) (i : ℕ) → 0 < marks_of f i y.ended.view → (b : Act drun) × (after drun b ≡ y.ended.view)
  marked_act c y at f i some_ = elim (chain_last g state p y.deeds _ y.ended y.chain) [
    | inl e ↦ absurd (let z = ap (λ (h : socks.Hand). marks_of f i h.view) e in omega (arith, z, some_))
    | inr w ↦ (record { c = c; y = y; at = at; k = w.0; d = w.1; is = w.2 }, ap (λ (h : socks.Hand). h.view) (sym w.3))
  ]

  -- the name to which a message of this place index was sent, and a life of it with the link
  pub record SentTo (n : ℕ) (e : Entry) : Type 0 where
    pub slot : ℕ
    pub version : ℕ
    pub made : MadeHere drun n e.link slot version

  -- of attempt n of the call that is this operation
  sent_to : (client : ℕ) (asked : Asked) (n : ℕ) → n ≤ 6 → IsOperation every outcomes client asked.operation (ops.Call asked) → (q : ℕ) (e : Entry) → get_elem? (log drun) q ≡ some e → e.heading.label.place ≡ 8 * asked.operation + n → SentTo (name_of asked n) e
  sent_to client asked n few task q e at place =
      let w = act_of_entry drun q e at in let s = w.1 in
      let life = sent_life drun w.0 e s in
      let name = by_message w.0.c s.name s.number s.attempt s.msg (sent_for drun w.0 e s).0 (sent_place drun w.0 e s) in
      record { slot = life.0; version = life.1; made = subst (λ (m : ℕ). MadeHere drun m e.link life.0 life.1) name life.2 }
    where
      by_message : (d name number attempt : ℕ) (msg : Letter) → IsMessage every outcomes d name number attempt msg None → e.heading.label.place ≡ 8 * number + attempt → name ≡ name_of asked n
      by_message d name number attempt msg (of_send bytes is first sent told) its =
          let one = same_task drun d client record { number = number; op = ops.Send name bytes } record { number = asked.operation; op = ops.Call asked } is task (omega (arith, its, place, first, few)) in
          let op : ops.Send name bytes ≡ ops.Call asked = ap (λ (t : Task). t.op) one.1 in absurd (cc)
      by_message d name number attempt msg (of_call other own is mine low name_is sent told) its =
          let one = same_task drun other client record { number = number; op = ops.Call own } record { number = asked.operation; op = ops.Call asked } is task (omega (arith, its, place, low, few)) in
          let at_ : attempt ≡ n = omega (arith, its, place, low, few) in
          name_is ∙ (ap (name_of own) at_ ∙ same_name own asked n (ap (λ (t : Task). t.op) one.1))

-- ## The run

module _ {O : Type 0} {g : Ghosts O} {state : O → OutState} {readers : List (LinkReader g)} {p : Plan} {slots : ℕ} {setup : List Task} {clients : List (List Task)} {opens : List ℕ} {told ended : List (List Told)} {places : List PlaceWord} {vrefs : List Vref} {outs : List O} {ids : List (View Asked)}
    (run : RanWith g state readers p slots setup clients opens told ended places vrefs outs ids) (tasks : AreTasks p (setup ∷ clients)) (may : MayRunAll p (ids_of p slots) setup clients)
    (notes : List (Noted Asked)) (kept : List Kept) (words : List ℕ) (closing : Closing (ids_of p slots) notes kept words) (noted : HaveNotesOf ids notes) (outcomes : List (Option Outcome))
    (drun : DeedRun g state p (setup ∷ clients) outcomes places vrefs outs) (seats : map seat_of drun.seats ≡ map (λ (x : Thread g). x.ended.seat) (run.ran.main ∷ run.ran.others)) (logged : log drun ≡ run.closed.ordered.log) (differ : PlacesDiffer (log drun)) (gave : ℕ → List ℕ)
    (all_there : length (log drun) ≤ all_accepted p.links (orders drun differ)) (few : p.operations ≤ 65536) (few_links : p.links ≤ 65536)
    -- the codes that a `fail` may have in a script
    (bounds : (client number name code : ℕ) → IsOperation (setup ∷ clients) outcomes client number (ops.Fail name code) → (1500 ≤ code) × (code ≤ 1999)) where
  open crew_of run use {q, every, crew}
  open laws_of drun differ gave use {fixed_here, orders_here}

  -- why the message of attempt n of this call was dropped with this code
  abbrev WhyDroppedWith : ℕ → Asked → ℕ → ℕ → Type 0
  WhyDroppedWith client asked code n = ((code ≡ EFAILEDSOCKET) × WhyLost p every outcomes fixed_here gave orders_here client asked.operation n (name_of asked n))
      ⊎ (((1500 ≤ code) × (code ≤ 1999) × IsFailedWith p every outcomes fixed_here gave orders_here (name_of asked n) code) ⊎ IsReadCode code)

  -- the message of this attempt of the call that is operation o, which may be on this link alone, was dropped, and the reader of the link had set the life failed with the code
  pub record DroppedOn (o : ℕ) (asked : Asked) (code attempt : ℕ) : Type 0 where
    pub link : ℕ
    pub low : attempt ≤ last_attempt notes o
    pub on : MayBeOn p every outcomes fixed_here gave orders_here o attempt (name_of asked attempt) link
    pub dropped : IsDropped p every outcomes fixed_here gave orders_here o attempt
    pub failing : IsFailing p every outcomes fixed_here gave orders_here link
    pub early : Contains (early drun) link
    pub by : StoredByReader drun link code

  -- ## What is left of a drop

  module _ (c : ℕ) (x : Client g state p q) (at : get_elem? crew c ≡ some x) (id code n : ℕ) (w : WasDropped state p q (deeds_of x) id code n) where
    abbrev slot_there : ℕ
    slot_there = socket_id_slot w.life

    abbrev version_there : ℕ
    version_there = socket_id_version w.life

    abbrev place_there : ℕ
    place_there = w.drop.msg.label.place

    abbrev word_there : ℕ
    word_there = place_word true w.drop.wrote.link w.drop.wrote.position

    -- a deed at the table of sockets behind which the seat has all that it noted by the drop
    record IsKept : Type 0 where
      pub act : Act drun
      pub still : StillHas w.after (after drun act)

    kept_there : IsKept
    kept_there =
        let y = its_seat run tasks may notes kept words closing noted outcomes drun seats logged differ gave all_there c x at in
        let b = w.behind in
        let grew = reached run tasks may notes kept words closing noted outcomes drun seats logged differ gave all_there c x at b.index b.deed b.there in
        let end : StillHas w.after y.0.ended.view = subst (StillHas w.after) (sym y.2) (still_then w.after (socks_behind b.deed) x.thread.ended.seat.me.0 b.still (still_as (socks_behind b.deed) x.thread.ended.seat.me.0 grew)) in
        let f : Mark → ℕ = is_saw (version_there + 1) in let more = end.marks f (λ h. refl) slot_there in let dead = w.drop.dead in
        let a = marked_act drun c y.0 y.1 f slot_there (omega (arith, more, dead)) in
        record { act = a.0; still = subst (StillHas w.after) (sym a.1) end }

    -- the word of a dropped message was stored
    stored_there : 0 < put_in (place_index p place_there) word_there w.after
    stored_there =
        let y : StoredWord = record { place = place_index p place_there; word = word_there } in
        let e = ap (total (total (is_put (place_index p place_there) word_there))) w.drop.wrote.stores in
        let m = note_is (place_index p place_there) word_there y w.before.stores in
        let one = pair-same (place_index p place_there) word_there in omega (arith, e, m, one)

    -- its life was made by an `open` with the link that the seat met
    pub its_life : (name : ℕ) × MadeHere drun name w.drop.wrote.link slot_there version_there
    its_life =
        let i = slot_there in let link = w.drop.wrote.link in let f : Mark → ℕ = is_met version_there link in let k = kept_there in
        let still = k.still.marks f (λ z. refl) i in let all = has_marks drun k.act f (λ z. refl) i in let met = w.drop.wrote.met in
        linked_made drun i version_there link (drun.closed.closing.met_linked i version_there link w.inside (omega (arith, still, all, met)))

    -- the code is EFAILEDSOCKET, that of a `fail` of the name of its life, or that of whoever read the link
    by_code : (name link : ℕ) → MadeHere drun name link slot_there version_there → (code ≡ EFAILEDSOCKET) ⊎ (FailsWith drun name code ⊎ StoredByReader drun link code)
    by_code name link made = let d = w.drop.code_is in dite (ℕ_discrete d.word 0)
        (λ z. inl (w.code_is ∙ (d.code_is ∙ ap (λ b. cond b EFAILEDSOCKET d.word) (eq-eqb d.word 0 z))))
        (λ ne. (
        let i = slot_there in let h = version_there in let k = kept_there in
        let is : code ≡ d.word = w.code_is ∙ (d.code_is ∙ ap (λ b. cond b EFAILEDSOCKET d.word) (ne_eqb d.word 0 ne)) in
        let told_ = k.still.marks (is_told h d.word) (λ z. refl) i in let found = d.noted ne in let saw = k.still.marks (is_saw (h + 1)) (λ z. refl) i in let dead = w.drop.dead in
        elim (stored_code drun k.act name link i h (h + 1) d.word w.inside made (omega (arith, told_, found)) (omega (arith, saw, dead)) (omega arith)) [
          | inl e ↦ inl (is ∙ e)
          | inr o ↦ elim o [
            | inl f ↦ inr (inl (subst (FailsWith drun name) (sym is) f))
            | inr r ↦ inr (inr (subst (StoredByReader drun link) (sym is) r))
          ]
        ]))

    -- so it is one with which a call may end
    pub drop_code : (code ≡ EFAILEDSOCKET) ⊎ (((1500 ≤ code) × (code ≤ 1999)) ⊎ IsReadCode code)
    drop_code = let l = its_life in elim (by_code l.0 w.drop.wrote.link l.1) [
      | inl e ↦ inl e
      | inr o ↦ elim o [ inl f ↦ inr (inl (bounds f.client f.number l.0 code f.is)) | inr r ↦ inr (inr r.coded) ]
    ]

    -- ## Which message it is

    -- what stands with it stands in the log
    logged_there : IsLogged (log drun) w.drop.wrote.heading
    logged_there =
        let d = w.drop.wrote in let k = kept_there in
        let there = has_drops drun k.act d.heading (k.still.drops d.heading (0, ap (λ (l : List Heading). get_elem? l 0) d.drops)) in
        drun.closed.drops_logged there.0 d.heading there.1

    -- where its message stands
    pub record IsDroppedAt (o : ℕ) : Type 0 where
      pub position : ℕ
      pub entry : Entry
      pub there : get_elem? (log drun) position ≡ some entry
      pub place : entry.heading.label.place ≡ 8 * o + n
      pub low : n ≤ 6
      pub behind : IsBehindPlaced drun differ few few_links entry
      pub link : w.drop.wrote.link ≡ entry.link

    module _ (slot first r j : ℕ) (asked : Asked) (inside : slot < slots) (low : first < 4294967296) (same : id ≡ slot * 4294967296 + first) (made : get_elem? (notes_of slot notes) j ≡ some (Made first r asked)) where
      dropped_at : IsDroppedAt asked.operation
      dropped_at =
          let l = logged_there in let d = w.drop.wrote in let e = l.entry in
          let attempt : e.heading.label.attempt ≡ n = l.attempt_is ∙ (ap (λ (x : Label). x.attempt) d.label_is ∙ sym w.attempt_is) in
          let owner : e.heading.owner ≡ id = l.owner_is ∙ (d.owner_is ∙ sym w.owner) in
          let k = kept_there in let l_ = w.drop.msg.label.place in let word = place_word true w.drop.wrote.link w.drop.wrote.position in let more = k.still.puts (place_index p l_) word in let put = stored_there in
          let there : 0 < put_in (place_index p e.heading.label.place) word (after drun k.act) = subst (λ (z : ℕ). 0 < put_in (place_index p z) word (after drun k.act)) (sym (l.place_is ∙ ap (λ (x : Label). x.place) d.label_is)) (omega (arith, more, put)) in
          let stands = dropped_stands drun differ few few_links l.position e l.there k.act w.drop.wrote.link w.drop.wrote.position w.drop.wrote.low there in
          let o : IsOwned run tasks may notes kept words closing noted e = elim (owned_by run tasks may notes kept words closing noted l.position e (ap (λ (z : List Entry). get_elem? z l.position) (sym logged) ∙ l.there)) [
            | inl none_ ↦ absurd (w.call (sym (l.owner_is ∙ d.owner_is) ∙ none_))
            | inr own ↦ own
          ] in
          let number : o.operation ≡ asked.operation = one_operation run tasks may notes kept words closing noted outcomes drun seats logged differ gave all_there o.operation id slot first r j asked inside low (subst (IsIdOf slots notes o.operation) owner o.its) same made in
          let place = o.place in let few_ = o.low in
          record { position = l.position; entry = e; there = l.there; place = omega (arith, place, number, attempt); low = omega (arith, few_, attempt); behind = stands.0; link = stands.1 }

      -- the attempt stands behind the placed ones
      is_dropped : IsDropped p every outcomes fixed_here gave orders_here asked.operation n
      is_dropped =
          let d = dropped_at in let e = d.entry in let b = d.behind in let place = d.place in let few_ = d.low in
          let o : e.heading.label.place / 8 ≡ asked.operation = omega (arith, place, few_) in let m : e.heading.label.place % 8 ≡ n = omega (arith, place, few_) in
          (e.link, b.position, (b.inside, accepted_of e, accepted_there (on e.link (log drun)) b.position e b.there, o, m), b.behind)

      is_failing : IsFailing p every outcomes fixed_here gave orders_here dropped_at.entry.link
      is_failing =
          let b = dropped_at.behind in let late = b.behind in let less = b.less in
          let l = lost_by drun differ few dropped_at.entry.link b.inside (omega (arith, late, less)) in failing_by run tasks may notes kept words closing noted outcomes drun seats logged differ gave all_there l.slot l.version dropped_at.entry.link l.why

      module _ (client : ℕ) (task : IsOperation every outcomes client asked.operation (ops.Call asked)) where
        abbrev name : ℕ
        name = name_of asked n

        its_socket : SentTo drun name dropped_at.entry
        its_socket = let d = dropped_at in sent_to drun client asked n d.low task d.position d.entry d.there d.place

        abbrev WhyDropped : Type 0
        WhyDropped = WhyDroppedWith client asked code n

        by_socket : code ≡ EFAILEDSOCKET → WhyDropped
        by_socket e = let s = its_socket in inl (e, WasFailing dropped_at.entry.link (s.slot, s.version, s.made) is_failing)

        by_fail : FailsWith drun name code → WhyDropped
        by_fail f = let b = bounds f.client f.number name code f.is in inr (inl (b.0, b.1, (f.client, record { number = f.number; op = ops.Fail name code }, f.is, refl, f.became)))

        -- the life of the link that was written is that of the name
        its_name : MadeHere drun name dropped_at.entry.link (socket_id_slot w.life) (socket_id_version w.life)
        its_name =
            let i = socket_id_slot w.life in let h = socket_id_version w.life in let d = dropped_at in let s = its_socket in let m = its_life in
            let its : MadeHere drun m.0 d.entry.link i h = subst (λ (z : ℕ). MadeHere drun m.0 z i h) d.link m.1 in
            let one = link_is drun m.0 name d.entry.link i s.slot h s.version its s.made in
            subst (λ (z : ℕ). MadeHere drun name d.entry.link z h) (sym one.0) (subst (λ (z : ℕ). MadeHere drun name d.entry.link s.slot z) (sym one.1) s.made)

        its_code : WhyDropped
        its_code = elim (by_code name dropped_at.entry.link its_name) [
          | inl e ↦ by_socket e
          | inr o ↦ elim o [ inl f ↦ by_fail f | inr r ↦ inr (inr r.coded) ]
        ]

        -- no other link has a message of the attempt
        its_link : MayBeOn p every outcomes fixed_here gave orders_here asked.operation n name dropped_at.entry.link
        its_link = let s = its_socket in let d = dropped_at in (
          s.slot,
          s.version,
          s.made,
          λ l stands. (
              let w = entry_on drun differ l stands.0 stands.1.1 stands.1.2 in
              let operation : w.0.heading.label.place / 8 ≡ asked.operation = ap (λ (y : Accepted). y.operation) w.2 ∙ stands.1.3 in
              let number : w.0.heading.label.place % 8 ≡ n = ap (λ (y : Accepted). y.attempt) w.2 ∙ stands.1.4 in
              let place = d.place in
              let same : w.3 ≡ d.position = differ w.3 d.position w.0 d.entry w.4 d.there (omega (arith, place, operation, number)) in
              let one : w.0 ≡ d.entry = some-injective w.0 d.entry (sym w.4 ∙ (ap (get_elem? (log drun)) same ∙ d.there)) in
              sym w.5 ∙ ap (λ (y : Entry). y.link) one),
        )

        -- it is none behind the last one
        its_number : n ≤ last_attempt notes asked.operation
        its_number =
            let d = dropped_at in let few_ = d.low in
            let its : IsIdOf slots notes asked.operation id = record { slot = slot; first = first; inside = inside; low = low; id_is = same; range = r; asked = asked; place = j; made = made; operation = refl } in
            let s = sender run tasks may notes kept words closing noted asked.operation id n (omega (arith, few_)) its d.position d.entry (ap (λ (l : List Entry). get_elem? l d.position) (sym logged) ∙ d.there) d.place in
            made_low run tasks may notes kept words closing noted asked.operation id n its s.place s.client s.in_crew s.index s.deed s.there s.attempt

        -- ## By a reader's code

        early_one : (k e : ℕ) → StoredByReader drun k e → Contains (early drun) k
        early_one k e f = subst (Contains (early drun)) f.link_is
            (let w = flat_there early_of drun.readers f.place f.reader 0 f.reader.link f.there (early_there f.reader f.early) in contains_from (early drun) f.reader.link (w.0, to_slice (early drun) w.0 f.reader.link w.1))

        its_reader : IsReadCode code → StoredByReader drun dropped_at.entry.link code
        its_reader read = elim (by_code name dropped_at.entry.link its_name) [
          | inl e ↦ absurd (not_failed code read e)
          | inr o ↦ elim o [ inl f ↦ absurd (let b = bounds f.client f.number name code f.is in not_user code read b.0 b.1) | inr r ↦ r ]
        ]

        read_drop : IsReadCode code → DroppedOn asked.operation asked code n
        read_drop read = record { link = dropped_at.entry.link; low = its_number; on = its_link; dropped = is_dropped; failing = is_failing; early = early_one dropped_at.entry.link code (its_reader read); by = its_reader read }

  -- where the code is one with which whoever reads the links ends calls
  pub read_dropped : (c : ℕ) (x : Client g state p q) → get_elem? crew c ≡ some x → (id code n : ℕ) → WasDropped state p q (deeds_of x) id code n → IsReadCode code
      → (slot first r j : ℕ) (asked : Asked) → slot < slots → first < 4294967296 → id ≡ slot * 4294967296 + first → get_elem? (notes_of slot notes) j ≡ some (Made first r asked)
      → (client : ℕ) → IsOperation every outcomes client asked.operation (ops.Call asked) → DroppedOn asked.operation asked code n
  read_dropped c x at id code n w read slot first r j asked inside low same made client task = read_drop c x at id code n w slot first r j asked inside low same made client task read

  pub dropped_why : (c : ℕ) (x : Client g state p q) → get_elem? crew c ≡ some x → (id code n : ℕ) → WasDropped state p q (deeds_of x) id code n
      → (slot first r j : ℕ) (asked : Asked) → slot < slots → first < 4294967296 → id ≡ slot * 4294967296 + first → get_elem? (notes_of slot notes) j ≡ some (Made first r asked)
      → (client : ℕ) → IsOperation every outcomes client asked.operation (ops.Call asked)
      → IsDropped p every outcomes fixed_here gave orders_here asked.operation n × WhyDroppedWith client asked code n
  dropped_why c x at id code n w slot first r j asked inside low same made client task =
      (is_dropped c x at id code n w slot first r j asked inside low same made, its_code c x at id code n w slot first r j asked inside low same made client task)
