-- With which code a life was failed: that of the `fail` of its name that was answered `failed`, EFAILEDSOCKET where its link failed, or that of its link's reader. And where a dropped message stands.
use Rattle.std.proofs.Common.{◌≡◌, ◌≢◌, ℕ, ◌+◌, ◌<◌, ◌≤◌, ◌⊎◌, inl, inr, true, List, [], ◌∷◌, length, refl, sym, ap, ◌∙◌, subst, arith}
use Rattle.std.specs.Prelude.{Option, slice_index}
use mathlib.Core.Logic.{dite}
use mathlib.Core.Option.{some, some-ne-none}
use native.Mathlib.Decide.{ℕ_discrete, dec_lt}
use lib.ListN.{get_elem?}
use Rattle.sock_io.specs.declared.link.Out.{Ghosts}
use Rattle.sock_io.specs.LinkHalves.{OutState}
use Rattle.sock_words.specs.ErrorCodes.{EFAILEDSOCKET}
use Rattle.sock_words.specs.PackedWords.{socket_id_slot, socket_id_version, place_word}
use Rattle.sock_words.specs.declared.outcome.Outcome.{Outcome}
use Rattle.sock_words.specs.declared.outcome.Outcome.TheVariants as outcome
use Rattle.sock_words.specs.declared.plain.Plan.{Plan}
use Rattle.sock_words.specs.declared.place_word.PlaceWord.{PlaceWord}
use Rattle.sock_words.specs.declared.socket_id.SocketId.{SocketId}
use Rattle.sock_words.specs.declared.vref.Vref.{Vref}
use Rattle.sock_model.specs.declared.chain.Entry.{Entry}
use Rattle.sock_model.specs.declared.marks.Mark.{Mark}
use Rattle.sock_model.specs.declared.marks.Mark.TheVariants as marks
use Rattle.sock_model.specs.declared.view.View.{View}
use Rattle.sock_model.specs.Entries.{on}
use Rattle.sock_model.specs.SocketTableLayout.{open_index, place_index}
use Rattle.sock_model.specs.Marks.{about}
use Rattle.sock_model.specs.SlotRows.{marks_of}
use Rattle.sock_model.specs.MarkWeights.{is_coded, is_failer, is_saw, is_stored, is_told, only, pair}
use Rattle.slot_steps.proofs.RuleNumbers.{only_is, pair-same, pair_is, pair_only}
use Rattle.rpc_client.specs.sock_rule.specs.ClosingWordsAndNotes.{PlacesDiffer}
use Rattle.rpc_client.specs.sock_rule.specs.OnTable.{put_in}
use Rattle.rpc_client.specs.sock_table.specs.declared.finding.Noted.TheVariants as noteds
use Rattle.rpc_client.specs.FailOutcomes.{SetBy, TriedTo}
use Rattle.rpc_client.specs.write_chain.specs.NotingWhileWriting.{Noted, nothing, finding, failing}
use Rattle.seat_programs.specs.declared.task.Op.TheVariants as ops
use Rattle.seat_programs.specs.declared.task.Task.{Task}
use Rattle.seat_programs.specs.Explained.{Became}
use Rattle.sock_deeds.specs.BrokenLinksNoted.{noted_links}
use Rattle.sock_deeds.specs.Deeds.{Did, looks, DoneBy}
use Rattle.sock_deeds.specs.SocketTableRun.{did_in, IsOperation, IsFor, IsById, IsReaderCode, ReaderSeat, DeedRun}
use Rattle.sock_deeds.proofs.MessagesAcceptedByDeeds.{log, act_of_entry}
use Rattle.sock_deeds.proofs.DeedsOfAllSeats.{Act, Read, All, after, before, did_of, done_of, has_marks, has_puts, later, read_marks, read_is_by_id, Late, marks_from, noted_before}
use Rattle.sock_deeds.proofs.DeedsByIdsAlone.{no_faults, SetNow}
use Rattle.sock_deeds.proofs.PlacesOfEntries.{on_there}
use Rattle.sock_deeds.proofs.WhyLivesFailed.{at_life, read_life}
use Rattle.sock_deeds.proofs.LivesFailedByName.{FailedLife, life_by, fail_for, failer_once, life_is, made_born}
use Rattle.sock_deeds.proofs.GrowingSocketNotes.{HasFound, back_grew}
use Rattle.sock_deeds.proofs.LivesOfDeeds.{MadeHere, failer_life}
use Rattle.sock_deeds.proofs.MessageLosses.{low_entry, few_on}
use Rattle.sock_deeds.proofs.OrdersOfDeeds.{ends, kept}
use Rattle.sock_deeds.proofs.ListPlaces.{map_back, place_low}
use Rattle.sock_deeds.proofs.ReaderSocketDeeds.{dids_of, read_sets}
use Rattle.sock_deeds.proofs.Sources.{Source, by_open, by_fail, by_set, by_write, done_source}
use Rattle.sock_deeds.proofs.DeedsForTasks.{is_for}
use Rattle.sock_words.specs.Totals.{total}

-- ## Codes among the notes

pairs_fit : (h c d k e : ℕ) → c ≢ d → pair h c k e + pair h d k e ≤ only h k
pairs_fit h c d k e ne = let a = pair_only h c k e in let b = pair_only h d k e in
    dite (ℕ_discrete (pair h c k e) 0)
    (λ z. omega (arith, z, b))
    (λ x. dite (ℕ_discrete (pair h d k e) 0)
    (λ z. omega (arith, z, a))
    (λ y. absurd (ne (sym (pair_is h c k e (omega (arith, x))).1 ∙ (pair_is h d k e (omega (arith, y))).1))))

-- a note that a code was stored is of one code
stored_fit : (h c d : ℕ) → c ≢ d → (m : Mark) → is_stored h c m + is_stored h d m ≤ is_coded h m
stored_fit h c d ne (marks.Stored k e) = pairs_fit h c d k e ne
stored_fit h c d ne other = omega arith

stored_both : (h c d : ℕ) → c ≢ d → (ms : List Mark) → total (is_stored h c) ms + total (is_stored h d) ms ≤ total (is_coded h) ms
stored_both h c d ne [] = omega arith
stored_both h c d ne (m ∷ ms) = let a = stored_fit h c d ne m in let b = stored_both h c d ne ms in omega (arith, a, b)

-- where one code was stored, two that were are the same
one_code : (h c d i : ℕ) (v : View) → marks_of (is_coded h) i v ≤ 1 → 0 < marks_of (is_stored h c) i v → 0 < marks_of (is_stored h d) i v → c ≡ d
one_code h c d i v few a b = dite (ℕ_discrete c d) (λ e. e) (λ ne. absurd (let z = stored_both h c d ne (about i v.marks) in omega (arith, z, few, a, b)))

stored_coded : (h c : ℕ) (ms : List Mark) → 0 < total (is_stored h c) ms → 0 < total (is_coded h) ms
stored_coded h c ms some_ = let z = stored_both h c (c + 1) (λ e. omega (arith, e)) ms in omega (arith, z, some_)

-- a seat that failed a life for a fault stored EFAILEDSOCKET
noted_stored : {O : Type 0} {state : O → OutState} {L : ℕ → Type 0} (h : ℕ) (ms : List Mark) (noted : Noted state L h ms) (j k : ℕ) → get_elem? (noted_links h ms noted) j ≡ some k → 0 < total (is_stored h EFAILEDSOCKET) ms
noted_stored h _ nothing j k e = absurd (some-ne-none k (sym e))
noted_stored h _ (finding m ms a b) j k e = let r = noted_stored h ms b j k e in omega (arith, r)
noted_stored h _ (failing l ms a b c) j k e = let s = pair-same h EFAILEDSOCKET in omega (arith, s)

-- and one that set it failed the code that it had
set_stored : (id code : ℕ) (v w : View) → SetBy id code outcome.Failed v w → 0 < marks_of (is_stored (socket_id_version id) code) (socket_id_slot id) w
set_stored id code v w b =
    let h = socket_id_version id in let i = socket_id_slot id in let f : Mark → ℕ = is_stored h code in
    let e : marks_of f i w + 0 ≡ marks_of f i v + (0 + (0 + (pair h code h code + (0 + 0)))) = b.here f in
    let s = pair-same h code in
    omega (arith, e, s)

tried_stored : (p : Plan) (n code : ℕ) (v w : View) (t : TriedTo p n code outcome.Failed v w) → 0 < marks_of (is_stored (socket_id_version t.sock.id.0) code) (socket_id_slot t.sock.id.0) w
tried_stored p n code v w t =
    let h = socket_id_version t.sock.id.0 in let i = socket_id_slot t.sock.id.0 in let f : Mark → ℕ = is_stored h code in
    let s = set_stored t.sock.id.0 code t.has t.set t.set_by in let c = (back_grew i h t.set w t.ended t.back).marks f (λ x. refl) i in
    omega (arith, s, c)

module _ {O : Type 0} {g : Ghosts O} {state : O → OutState} {p : Plan} {clients : List (List Task)} {outcomes : List (Option Outcome)} {places : List PlaceWord} {vrefs : List Vref} {outs : List O} (run : DeedRun g state p clients outcomes places vrefs outs) where
  -- ## Why a failed life has its code

  -- a `fail` of the name with this code was answered `failed`
  pub record FailsWith (n c : ℕ) : Type 0 where
    pub client : ℕ
    pub number : ℕ
    pub is : IsOperation clients outcomes client number (ops.Fail n c)
    pub became : Became clients outcomes number outcome.Failed

  -- the reader of this link, whose reading ended early, set a life failed that it had found by its `open`, and noted
  -- that it stored this code
  pub record StoredByReader (k c : ℕ) : Type 0 where
    pub place : ℕ
    pub reader : ReaderSeat g state p clients outcomes
    pub there : get_elem? run.readers place ≡ some reader
    pub link_is : reader.link ≡ k
    pub early : reader.early ≡ true
    pub coded : IsReaderCode c
    pub sock : SocketId
    pub first : get_elem? (dids_of reader) 0 ≡ some (looks reader.number (noteds.Id sock))
    pub slot : ℕ
    pub version : ℕ
    pub stored : 0 < marks_of (is_stored version c) slot reader.sits.seat.me.0

  -- what that reader found first, its seat still has
  pub first_found : {k c : ℕ} (f : StoredByReader k c) → HasFound record { place = open_index p f.reader.number; word = f.sock.0 + 1 } f.reader.sits.seat.me.0
  first_found f =
      let w = map_back did_in f.reader.sits.deeds 0 (looks f.reader.number (noteds.Id f.sock)) f.first in
      let done = (subst (λ (x : Did). DoneBy g state p x w.0.before w.0.after) w.2 w.0.done).0 in
      (later f.reader.sits 0 w.0 w.1).finds record { place = open_index p f.reader.number; word = f.sock.0 + 1 } (0, ap (λ (z : View). get_elem? z.finds 0) done.1.view)

  module _ (b : Act run) (n k i h w c : ℕ) (low : i < p.slots) (made : MadeHere run n k i h) (told : 0 < marks_of (is_told h c) i (after run b)) (saw : 0 < marks_of (is_saw w) i (after run b)) (less : h < w) where
    stored : 0 < marks_of (is_stored h c) i (All run)
    stored = run.closed.closing.told_stored i h c low (let a = has_marks run b (is_told h c) (λ x. refl) i in omega (arith, a, told))

    failed : 0 < marks_of (is_failer h) i (All run)
    failed = let a = run.closed.closing.coded i h low in let b = stored_coded h c (about i (All run).marks) stored in omega (arith, a, b)

    few : marks_of (is_coded h) i (All run) ≤ 1
    few = let a = run.closed.closing.coded i h low in let b = failer_once run i h low (made_born run n k i h made) in omega (arith, a, b)

    -- the code that was stored is that which was found
    same_code : (a : Act run) (d : ℕ) → 0 < marks_of (is_stored h d) i (after run a) → c ≡ d
    same_code a d there = one_code h c d i (All run) few stored (let x = has_marks run a (is_stored h d) (λ y. refl) i in omega (arith, x, there))

    abbrev IsWhy : Type 0
    IsWhy = (c ≡ EFAILEDSOCKET) ⊎ (FailsWith n c ⊎ StoredByReader k c)

    by_name : (a : Act run) (l : FailedLife run a) → socket_id_slot l.tried.sock.id.0 ≡ i → socket_id_version l.tried.sock.id.0 ≡ h → IsWhy
    by_name a l slot version =
        let i_ = socket_id_slot l.tried.sock.id.0 in let h_ = socket_id_version l.tried.sock.id.0 in
        let f = fail_for run a l in
        let its = tried_stored p l.name l.code (before run a) (after run a) l.tried in
        let here = subst (λ x. 0 < marks_of (is_stored h l.code) x (after run a)) slot (subst (λ x. 0 < marks_of (is_stored x l.code) i_ (after run a)) version its) in
        let code = same_code a l.code here in
        let name = (life_is run l.name n l.link k i h (at_life run l.name l.link i_ h_ i h slot version l.made) made).0 in
        inr (inl record { client = a.c; number = l.number; is = subst (λ x. IsOperation clients outcomes a.c l.number (ops.Fail n x)) (sym code) (subst (λ x. IsOperation clients outcomes a.c l.number (ops.Fail x l.code)) name f.0); became = f.1 })

    by_source : (a : Act run) → Source (is_failer h) (failer_life h) g state p i (did_of run a) a.d.before a.d.after (done_of run a) → IsWhy
    by_source a (by_open name number version link e weighs) = absurd (omega (arith, weighs))
    by_source a (by_fail name number code e f) = by_name a (life_by run a name number code e f.0) f.2 (only_is h (socket_id_version f.0.sock.id.0) f.3)
    by_source a (by_set id code e slot weighs) = absurd (subst (IsFor clients outcomes a.c) e (is_for run a))
    by_source a (by_write id v u all grew f listed) =
        let version = only_is h (socket_id_version id) f.weighs in let j = socket_id_slot id in let m : Mark → ℕ = is_stored (socket_id_version id) EFAILEDSOCKET in
        let noted = noted_stored (socket_id_version id) all.notes all.noted f.place f.link f.listed in
        let came = all.became.here m in
        let then = grew.marks m (λ x. refl) j in
        let there : 0 < marks_of m j (after run a) = omega (arith, noted, came, then) in
        inl (same_code a EFAILEDSOCKET (subst (λ x. 0 < marks_of (is_stored h EFAILEDSOCKET) x (after run a)) f.slot (subst (λ x. 0 < marks_of (is_stored x EFAILEDSOCKET) j (after run a)) version there)))

    -- a reader set it failed
    by_reading : (r : Read run) → Source (is_failer h) (failer_life h) g state p i r.d.did r.d.before r.d.after r.d.done → IsWhy
    by_reading r (by_open name number version link e weighs) = absurd (subst IsById e (read_is_by_id run r))
    by_reading r (by_fail name number code e f) = absurd (subst IsById e (read_is_by_id run r))
    by_reading r (by_set id code e slot weighs) =
        let version = only_is h (socket_id_version id) weighs in
        let s = read_life run r id code n k i h e slot version low made in
        let its = set_stored id code r.d.before.view r.d.after.view (subst (λ (x : Did). DoneBy g state p x r.d.before r.d.after) e r.d.done).0 in
        let here = subst (λ x. 0 < marks_of (is_stored h code) x r.d.after.view) slot (subst (λ x. 0 < marks_of (is_stored x code) (socket_id_slot id) r.d.after.view) version its) in
        let all = read_marks run r (is_stored h code) (λ y. refl) i in
        let same = one_code h c code i (All run) few stored (omega (arith, all, here)) in
        let kept = (later r.r.sits r.k r.d r.is).marks (is_stored h code) (λ y. refl) i in
        let sets_ = read_sets r.r r.k r.d id code outcome.Failed r.is e in
        inr (inr record {
          place = r.c;
          reader = r.r;
          there = r.at;
          link_is = s.2;
          early = s.0;
          coded = subst IsReaderCode (sym same) s.1;
          sock = sets_.sock;
          first = sets_.first;
          slot = i;
          version = h;
          stored = subst (λ z. 0 < marks_of (is_stored h z) i r.r.sits.seat.me.0) (sym same) (omega (arith, here, kept));
        })
    by_reading r (by_write id v u all grew f listed) =
        absurd (some-ne-none f.link (sym (ap (λ l. get_elem? l f.place) (sym (no_faults g state p r.d.did r.d.before r.d.after r.d.done (read_is_by_id run r))) ∙ listed)))

    -- the sockets were ended behind what was seen
    not_ended : (l : Late run) → SetNow g state p (is_failer h) i l.d.before.view → ⊥
    not_ended l s =
        let version = only_is h (socket_id_version s.id) s.weighs in
        let then = noted_before run b l (is_saw w) (λ x. refl) i in
        let low_ = s.live w (subst (λ j. 0 < marks_of (is_saw w) j l.d.before.view) (sym s.slot) (omega (arith, then, saw))) in
        omega (arith, low_, version, less)

    -- of a life of the name, which a client found failed: its code is EFAILEDSOCKET, that of a `fail`, or that of its link's reader
    pub stored_code : (c ≡ EFAILEDSOCKET) ⊎ (FailsWith n c ⊎ StoredByReader k c)
    stored_code = elim (marks_from run (is_failer h) (failer_life h) i failed) [
      | inl s ↦ by_source s.0 (done_source (is_failer h) (failer_life h) g state p (did_of run s.0) s.0.d.before s.0.d.after (done_of run s.0) i s.1)
      | inr o ↦ elim o [
        | inl r ↦ by_reading r.0 (done_source (is_failer h) (failer_life h) g state p r.0.d.did r.0.d.before r.0.d.after r.0.d.done i r.1)
        | inr l ↦ absurd (not_ended l.0 l.1)
      ]
    ]

  -- ## Where a dropped message stands

  module _ (differ : PlacesDiffer (log run)) (few_operations : p.operations ≤ 65536) (few_links : p.links ≤ 65536) where
    low_link : (q : ℕ) (e : Entry) → get_elem? (log run) q ≡ some e → e.link < p.links
    low_link q e at = let s = (act_of_entry run q e at).1 in subst (λ (x : Entry). x.link < p.links) s.entry s.sent.delivered.accepted.inside

    -- the message stands behind the placed ones of its link
    pub record IsBehindPlaced (e : Entry) : Type 0 where
      pub position : ℕ
      pub inside : e.link < p.links
      pub there : get_elem? (on e.link (log run)) position ≡ some e
      pub behind : kept run differ e.link ≤ position
      pub less : position < length (on e.link (log run))

    -- where a seat stored the word of a dropped message at its place index, for this link
    pub dropped_stands : (q : ℕ) (e : Entry) → get_elem? (log run) q ≡ some e → (a : Act run) (link position : ℕ) → position < 4294967295 → 0 < put_in (place_index p e.heading.label.place) (place_word true link position) (after run a) → IsBehindPlaced e × (link ≡ e.link)
    dropped_stands q e at a link position low_position put =
        let l = e.heading.label.place in let k = e.link in let n = place_word true link position in
        let low = low_entry run differ q e at in let kl = low_link q e at in
        let s = on_there k (log run) q e at refl in let i = s.0 in
        let all = has_puts run a (place_index p l) n in
        let word = (run.closed.dropped l low).stays differ n (omega (arith, all, put)) in
        let w : slice_index run.closed.words (place_index p l) ≡ n = word.0 in let high = word.1 in
        let fifo = ((ends run differ).1 k kl).fifo in
        let count = fifo.count in let few_ = few_on run differ k in
        let inside : i < length (on k (log run)) = place_low (on k (log run)) i e s.1 in
        let late : kept run differ k ≤ i = dite (dec_lt i (kept run differ k))
        (λ lt. absurd (let v = fifo.placed i e s.1 lt in omega (arith, v, w, high, count, few_, few_operations, few_links, kl, lt)))
        (λ ge. omega (arith, ge)) in
        let v = fifo.dropped i e s.1 late in (
          record { position = i; inside = kl; there = s.1; behind = late; less = inside },
          omega (arith, v, w, low_position, few_, few_operations, inside),
        )
