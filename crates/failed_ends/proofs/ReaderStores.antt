-- What a reader's seat notes of sockets: no code but that with which its reading ended is stored, and the one place that it found is that of its `open`.
use Rattle.std.proofs.Common.{◌≡◌, ℕ, zero, suc, ◌+◌, ◌<◌, ◌≤◌, ◌⊎◌, inl, inr, Bool, true, false, cond, nat_le, List, [], ◌∷◌, map, Some, None, refl, sym, ap, ◌∙◌, subst, arith}
use Rattle.std.specs.Prelude.{Option}
use mathlib.Core.Logic.{dite}
use mathlib.Core.Option.{some, some-injective, some-ne-none}
use native.Mathlib.Decide.{ℕ_discrete}
use lib.ListN.{get_elem?}
use Rattle.atomic_table.specs.declared.shared.Seat.{Seat}
use Rattle.sock_io.specs.declared.link.Out.{Ghosts}
use Rattle.sock_io.specs.LinkHalves.{OutState, InState}
use Rattle.sock_words.specs.PackedWords.{socket_id_slot, socket_id_version}
use Rattle.sock_words.specs.declared.outcome.Outcome.{Outcome}
use Rattle.sock_words.specs.declared.outcome.Outcome.TheVariants as outcome
use Rattle.sock_words.specs.declared.plain.Plan as sizes
use Rattle.sock_words.specs.declared.place_word.PlaceWord.{PlaceWord}
use Rattle.sock_words.specs.declared.socket_id.SocketId.{SocketId}
use Rattle.sock_words.specs.declared.vref.Vref.{Vref}
use Rattle.sock_model.specs.declared.marks.Mark.{Mark}
use Rattle.sock_model.specs.declared.marks.Mark.TheVariants.{Hold, Known, Recycling}
use Rattle.sock_model.specs.declared.marks.SlotMark.{SlotMark}
use Rattle.sock_model.specs.declared.view.StoredWord.{StoredWord}
use Rattle.sock_model.specs.declared.view.View.{View}
use Rattle.sock_model.specs.SocketTableLayout.{open_index}
use Rattle.sock_model.specs.Marks.{about, at}
use Rattle.sock_model.specs.ViewsOfSplitSeats.{newcomer}
use Rattle.sock_model.specs.SlotRows.{marks_of}
use Rattle.sock_model.specs.MarkWeights.{is_stored, pair}
use Rattle.failed_reasons.specs.call_whys.specs.call_places.specs.outcome_stories.specs.program_walks.specs.slot_steps.proofs.RuleNumbers.{pair_is}
use Rattle.failed_reasons.specs.call_whys.specs.call_places.specs.outcome_stories.specs.program_walks.specs.slot_steps.proofs.SlotWeightSums.{about-here, about-other}
use Rattle.failed_reasons.specs.Below.SockRule.MarksComeAndGo.{Became}
use Rattle.failed_reasons.specs.Below.SockRule.SockHome.{SockHome}
use Rattle.seat_programs.specs.declared.task.Op.TheVariants as ops
use Rattle.seat_programs.specs.declared.task.Task.{Task}
use Rattle.failed_reasons.specs.Below.SockTable.ReferenceAnswers.{Held, GoneFrom}
use Rattle.failed_reasons.specs.Below.SockTable.ReferenceCalls.{EndedBy, retired}
use Rattle.corr_core.specs.declared.marks.Plan.{Plan}
use Rattle.failed_reasons.specs.Below.RpcClient.FailOutcomes.{SetBy}
use Rattle.failed_reasons.specs.Below.RpcClient.SendingOutcomes.{Returned}
use Rattle.failed_reasons.specs.Below.RpcReader.ReaderBooks.{Books}
use Rattle.failed_reasons.specs.Below.RpcReader.ReaderSocketFailing.{OpenedBy, SetOnce}
use Rattle.failed_reasons.specs.Below.RpcReader.LinkReading as reading
use Rattle.failed_reasons.specs.Below.RpcReader.ReaderRunFromOpen.{fails, FailedIf, ReadIf}
use Rattle.failed_reasons.specs.Below.CallRun.ReadersOfLinks.{LinkReader, nothing_read, IsReader}
use Rattle.failed_reasons.specs.call_whys.specs.call_places.specs.sock_deeds.specs.SocketTableRun.{IsOperation, seat_of, sits_of, DeedRun}
use Rattle.failed_reasons.specs.call_whys.specs.call_places.specs.sock_deeds.proofs.GrowingSocketNotes.{HasFound}
use Rattle.failed_reasons.specs.call_whys.specs.call_places.specs.sock_deeds.proofs.DeedsForTasks.{same_task}
use Rattle.failed_reasons.specs.call_whys.specs.call_places.specs.sock_deeds.proofs.FailedLifeCodes.{StoredByReader, first_found}
use Rattle.failed_reasons.proofs.CodesOfReadingEnds.{EndedIf, ReadEnded}
use Rattle.failed_reasons.specs.call_whys.specs.call_places.specs.sock_deeds.proofs.ListPlaces.{map_back, map_there}
use Rattle.sock_words.specs.Totals.{total}

-- ## Notes that are no codes

-- how often it is noted that this code was stored for a life
abbrev codes : ℕ → ℕ → ℕ → View → ℕ
codes h c i v = marks_of (is_stored h c) i v

became_less : (f : Mark → ℕ) (i : ℕ) (v w : View) (adds drops : List Mark) → total f adds ≡ 0 → Became i v w adds drops → (j : ℕ) → marks_of f j w ≤ marks_of f j v
became_less f i v w adds drops none_ b j = dite (ℕ_discrete j i)
    (λ same. subst (λ k. marks_of f k w ≤ marks_of f k v) (sym same) (let e = b.here f in omega (arith, e, none_)))
    (λ ne. let e = ap (total f) (b.elsewhere j ne) in omega (arith, e))

retired_none : (h c x : ℕ) → total (is_stored h c) (retired x) ≡ 0
retired_none h c x = by_case (nat_le x 4294967292)
  where
    by_case : (b : Bool) → total (is_stored h c) (cond b [] (Recycling x ∷ [])) ≡ 0
    by_case true = refl
    by_case false = omega arith

ended_none : (p : sizes.Plan) (h c : ℕ) (ended : Bool) (w : ℕ) (notes : List Mark) → EndedBy p ended w notes → total (is_stored h c) notes ≡ 0
ended_none p h c false w notes e = ap (total (is_stored h c)) e
ended_none p h c true w notes e = ap (total (is_stored h c)) e.1 ∙ (let a = retired_none h c (w + 1) in omega (arith, a))

-- a mark that is none comes to some slot
one_mark : (f : Mark → ℕ) (i j : ℕ) (m : Mark) (es : List SlotMark) → f m ≡ 0 → total f (about i (at j m ∷ es)) ≡ total f (about i es)
one_mark f i j m es none_ = dite (ℕ_discrete i j)
    (λ same. subst (λ k. total f (about i (at k m ∷ es)) ≡ total f (about i es)) same (let e = ap (total f) (about-here i m es) in omega (arith, e, none_)))
    (λ ne. ap (total f) (about-other i j m es ne))

module _ (h c i : ℕ) where
  gone_less : (id found : ℕ) (v w : View) → GoneFrom id found v w → codes h c i w ≤ codes h c i v
  gone_less id found v w g = became_less (is_stored h c) (socket_id_slot id) v w _ [] (let a = ended_none v.plan h c g.ended g.version g.notes g.by in omega (arith, a)) g.became i

  returned_less : (id : ℕ) (v w : View) → Returned id v w → codes h c i w ≤ codes h c i v
  returned_less id v w r = became_less (is_stored h c) (socket_id_slot id) v w r.back.notes (Hold (socket_id_version id) ∷ []) (ended_none v.plan h c r.ended r.back.version r.back.notes r.back.by) r.back.became i

  held_less : (id : ℕ) (v w : View) → Held id v w → codes h c i w ≤ codes h c i v
  held_less id v w b = became_less (is_stored h c) (socket_id_slot id) v w _ [] refl b i

  -- the life was failed with the code, or found failed
  set_less : (id code : ℕ) (by : Outcome) (v w : View) → SetBy id code by v w → 0 < codes h c i w → (0 < codes h c i v) ⊎ (code ≡ c)
  set_less id code outcome.Failed v w b some_ = dite (ℕ_discrete (pair h c (socket_id_version id) code) 0)
      (λ z. inl (let less = became_less (is_stored h c) (socket_id_slot id) v w _ [] (omega (arith, z)) b i in omega (arith, less, some_)))
      (λ ne. inr (pair_is h c (socket_id_version id) code (omega (arith, ne))).1)
  set_less id code (outcome.Already found) v w b some_ = inl (let less = became_less (is_stored h c) (socket_id_slot id) v w _ [] refl b.1 i in omega (arith, less, some_))
  set_less id code _ v w b some_ = elim b [ ]

  once_less : (id code : ℕ) (v w : View) → SetOnce id code v w → 0 < codes h c i w → (0 < codes h c i v) ⊎ (code ≡ c)
  once_less id code v w s some_ =
      let back = returned_less id s.set w s.returned in let held = held_less id v s.has s.held in
      elim (set_less id code s.by s.has s.set s.set_by (omega (arith, back, some_))) [ inl k ↦ inl (omega (arith, held, k)) | inr e ↦ inr e ]

  failed_less : (early : Bool) (id code : ℕ) (v w : View) → FailedIf early id code v w → 0 < codes h c i w → (0 < codes h c i v) ⊎ (code ≡ c)
  failed_less false id code v w e some_ = inl (let a = ap (codes h c i) e in omega (arith, a, some_))
  failed_less true id code v w f some_ = elim f [ inl gone ↦ inl (let less = gone_less id gone.0 v w gone.1 in omega (arith, less, some_)) | inr s ↦ once_less id code v w s some_ ]

-- ## What was found

-- nothing else was found than before
abbrev FindsNone : View → View → Type 0
FindsNone v w = w.finds ≡ v.finds

became_finds : (i : ℕ) (v w : View) (adds drops : List Mark) → Became i v w adds drops → FindsNone v w
became_finds i v w adds drops b = ap (λ (y : View). y.finds) b.others

set_finds : (id code : ℕ) (by : Outcome) (v w : View) → SetBy id code by v w → FindsNone v w
set_finds id code outcome.Failed v w b = became_finds (socket_id_slot id) v w _ [] b
set_finds id code (outcome.Already found) v w b = became_finds (socket_id_slot id) v w _ [] b.1
set_finds id code _ v w b = elim b [ ]

failed_finds : (early : Bool) (id code : ℕ) (v w : View) → FailedIf early id code v w → FindsNone v w
failed_finds false id code v w e = ap (λ (y : View). y.finds) e
failed_finds true id code v w f = elim f [
  | inl gone ↦ became_finds (socket_id_slot id) v w _ [] gone.1.became
  | inr s ↦ became_finds (socket_id_slot id) s.set w s.returned.back.notes _ s.returned.back.became ∙ (set_finds id code s.by s.has s.set s.set_by ∙ became_finds (socket_id_slot id) v s.has _ [] s.held)
]

-- ## A reader

module _ (p : sizes.Plan) (operation : ℕ) (q : Plan) (link : ℕ) (calls : List ℕ) (s t : InState) where
  if_stored : (o : Option SocketId) (spare : ℕ) (v w : View) (b b' : Books) → OpenedBy p operation o (newcomer p [] spare) v → (r : ReadIf q link calls false false s t o v w b b') (h c i : ℕ) → 0 < codes h c i w → EndedIf q link calls s t o v w b b' r c
  if_stored None spare v w b b' opened r h c i some_ = absurd (let a = ap (codes h c i) r.0 in let d = ap (codes h c i) opened.view in omega (arith, a, d, some_))
  if_stored (Some id) spare v w b b' opened r h c i some_ = elim (failed_less h c i (fails r.how) id.0 (reading.code_of r.how) v w r.failed some_) [
    | inl k ↦ absurd (let a = ap (codes h c i) opened.1.view in let d = one_mark (is_stored h c) i (socket_id_slot id.0) (Known (socket_id_version id.0)) [] refl in omega (arith, a, d, k))
    | inr e ↦ e
  ]

  if_finds : (o : Option SocketId) (spare : ℕ) (v w : View) (b b' : Books) → OpenedBy p operation o (newcomer p [] spare) v → ReadIf q link calls false false s t o v w b b' → (word : ℕ) × (w.finds ≡ record { place = open_index p operation; word = word } ∷ [])
  if_finds None spare v w b b' opened r = (_, ap (λ (y : View). y.finds) r.0 ∙ ap (λ (y : View). y.finds) opened.view)
  if_finds (Some id) spare v w b b' opened r = (_, failed_finds (fails r.how) id.0 (reading.code_of r.how) v w r.failed ∙ ap (λ (y : View). y.finds) opened.1.view)

module _ {O : Type 0} {g : Ghosts O} (p : sizes.Plan) (q : Plan) (calls : List ℕ) (x : LinkReader g) (is : IsReader p q calls x) where
  -- a code that it noted as stored is that of its reading's end
  pub reader_stored : (h c i : ℕ) → 0 < marks_of (is_stored h c) i x.seat.me.0 → ReadEnded p q calls x is c
  reader_stored h c i some_ = if_stored p x.operation q x.link calls x.before x.behind is.ran.id is.spare is.ran.noted x.seat.me.0 nothing_read x.books is.ran.opened is.ran.read h c i some_

  -- what it found, it found for its `open`
  pub reader_found : (number word : ℕ) → HasFound record { place = open_index p number; word = word } x.seat.me.0 → number ≡ x.operation
  reader_found number word found =
      let y : StoredWord = record { place = open_index p number; word = word } in
      let f = if_finds p x.operation q x.link calls x.before x.behind is.ran.id is.spare is.ran.noted x.seat.me.0 nothing_read x.books is.ran.opened is.ran.read in
      let z : StoredWord = record { place = open_index p x.operation; word = f.0 } in
      let same : z ≡ y = one_found found.0 z y (ap (λ (l : List StoredWord). get_elem? l found.0) (sym f.1) ∙ found.1) in
      let e = ap (λ (k : StoredWord). k.place) same in omega (arith, e)
    where
      one_found : (k : ℕ) (z y : StoredWord) → get_elem? (z ∷ []) k ≡ some y → z ≡ y
      one_found zero z y e = some-injective z y e
      one_found (suc k) z y e = absurd (some-ne-none y (sym e))

-- ## Who failed a life

module _ {O : Type 0} {g : Ghosts O} {state : O → OutState} {p : sizes.Plan} {clients : List (List Task)} {outcomes : List (Option Outcome)} {places : List PlaceWord} {vrefs : List Vref} {outs : List O} (drun : DeedRun g state p clients outcomes places vrefs outs) (q : Plan) (calls : List ℕ) (readers : List (LinkReader g))
    (sit : map seat_of (map sits_of drun.readers) ≡ map (λ (x : LinkReader g). x.seat) readers) where
  -- one of those that read links set the life of this link failed, with the code of its own reading, and its `open` asked for that link
  pub record IsSetter (k code : ℕ) : Type 0 where
    pub place : ℕ
    pub reader : LinkReader g
    pub there : get_elem? readers place ≡ some reader
    pub ended : (is : IsReader p q calls reader) → ReadEnded p q calls reader is code
    pub opened : IsReader p q calls reader → (client name link : ℕ) → IsOperation clients outcomes client reader.operation (ops.Open name link) → link ≡ k

  pub setter : (k code : ℕ) → StoredByReader drun k code → IsSetter k code
  setter k code f =
      let seat : Seat (SockHome O g) View = f.reader.sits.seat in
      let list : get_elem? (map seat_of (map sits_of drun.readers)) f.place ≡ some seat = map_there seat_of (map sits_of drun.readers) f.place f.reader.sits (map_there sits_of drun.readers f.place f.reader f.there) in
      let m = map_back (λ (x : LinkReader g). x.seat) readers f.place seat (ap (λ (l : List (Seat (SockHome O g) View)). get_elem? l f.place) (sym sit) ∙ list) in
      let view : seat.me.0 ≡ m.0.seat.me.0 = ap (λ (s : Seat (SockHome O g) View). s.me.0) (sym m.2) in
      let found : HasFound record { place = open_index p f.reader.number; word = f.sock.0 + 1 } m.0.seat.me.0 = subst (HasFound record { place = open_index p f.reader.number; word = f.sock.0 + 1 }) view (first_found drun f) in
      let stored : 0 < marks_of (is_stored f.version code) f.slot m.0.seat.me.0 = subst (λ (v : View). 0 < marks_of (is_stored f.version code) f.slot v) view f.stored in
      record {
        place = f.place;
        reader = m.0;
        there = m.1;
        ended = λ is. reader_stored p q calls m.0 is f.version code f.slot stored;
        opened = λ is client name link task. (
            let same = (same_task drun f.reader.client client record { number = f.reader.number; op = ops.Open f.reader.name f.reader.link } record { number = m.0.operation; op = ops.Open name link } f.reader.asked task (reader_found p q calls m.0 is f.reader.number (f.sock.0 + 1) found)).1 in
            opened_one f.reader.name name f.reader.link link (ap (λ (t : Task). t.op) same) ∙ f.link_is);
      }
    where
      opened_one : (n m k l : ℕ) → ops.Open n k ≡ ops.Open m l → l ≡ k
      opened_one n m k l e = cc
