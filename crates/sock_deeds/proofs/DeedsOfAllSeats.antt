-- The deeds of all seats, and what the table's last words and notes say of them.
use Rattle.std.proofs.Common.{◌≡◌, ℕ, zero, suc, ◌+◌, ◌<◌, ◌≤◌, ◌⊎◌, inl, inr, List, [], ◌∷◌, ◌++◌, length, flat_map, map, slice_get, Option, Some, append-nil, refl, sym, ap, ◌∙◌, subst, arith}
use Rattle.std.proofs.lemmas.List.{length-map}
use Rattle.std.proofs.lemmas.Option.{none-some, same_Some}
use mathlib.Core.Logic.{dite}
use mathlib.Core.Option.{some, some-injective, some-ne-none}
use native.Mathlib.Decide.{ℕ_discrete, dec_lt}
use lib.ListN.{get_elem?}
use Rattle.atomic_table.specs.declared.shared.Seat.{Seat}
use Rattle.sock_io.specs.declared.link.Out.{Ghosts}
use Rattle.sock_io.specs.LinkHalves.{OutState}
use Rattle.sock_words.specs.declared.outcome.Outcome.{Outcome}
use Rattle.sock_words.specs.declared.plain.Plan.{Plan}
use Rattle.sock_words.specs.declared.place_word.PlaceWord.{PlaceWord}
use Rattle.sock_words.specs.declared.vref.Vref.{Vref}
use Rattle.sock_words.specs.PackedWords.{socket_id_version}
use Rattle.sock_model.specs.declared.marks.Mark.{Mark}
use Rattle.sock_model.specs.declared.marks.Mark.TheVariants.{Failer, Hold}
use Rattle.sock_model.specs.declared.marks.SlotMark.{SlotMark}
use Rattle.sock_model.specs.declared.view.StoredWord.{StoredWord}
use Rattle.sock_model.specs.declared.chain.Heading.{Heading}
use Rattle.sock_model.specs.declared.view.View.{View}
use Rattle.sock_model.specs.Marks.{about}
use Rattle.sock_model.specs.ViewsOfSplitSeats.{newcomer}
use Rattle.sock_model.specs.SlotRows.{marks_of}
use Rattle.slot_steps.proofs.SplitSeatsKeepSlot.{about-append}
use Rattle.slot_steps.proofs.SlotWeightSums.{total-append, total_some, term_le}
use Rattle.seat_programs.specs.declared.task.Task.{Task}
use Rattle.rpc_client.specs.sock_rule.specs.OnTable.{is_put, put_in}
use Rattle.rpc_client.specs.sock_rule.specs.declared.homes.SockHome.{SockHome}
use Rattle.rpc_client.specs.sock_rule.proofs.LastSeatOfSockets.{two_terms}
use Rattle.rpc_client.specs.sock_table.specs.NamesStoredAndFound.{HasSeen}
use Rattle.sock_deeds.specs.Deeds.{Hand, Did, Deed, DoneBy}
use Rattle.sock_deeds.specs.SocketTableRun.{Seated, IsById, seat_of, ReaderSeat, sits_of, DeedRun}
use Rattle.sock_deeds.proofs.DeedTotals.{gain, stored, chain_grew, ends_grew, begins_grew, between_grew, gains, stores}
use Rattle.sock_deeds.proofs.DeedsByIdsAlone.{Keeps, id_kept, ids_kept, SetNow, id_source}
use Rattle.sock_deeds.proofs.Flats.{append_cases, append_first, append_later, flat-append, flat_there}
use Rattle.sock_deeds.proofs.GrowingSocketNotes.{IsNote, HasFound, HasDropped, Grew}
use Rattle.sock_deeds.proofs.ListPlaces.{map_there, map_back, map_append}
use Rattle.sock_deeds.proofs.ReaderSocketDeeds.{read_by_ids}
use Rattle.sock_deeds.proofs.Sources.{IsOfLife}
use Rattle.sock_words.specs.Totals.{total}

-- ## What all seats have together

pub map_get : {A B : Type 0} (f : A → B) (xs : List A) (c : ℕ) (x : A) → get_elem? xs c ≡ some x → slice_get (map f xs) c ≡ Some (f x)
map_get f [] c x e = absurd (some-ne-none x (sym e))
map_get f (y ∷ ys) zero x e = ap (λ z. Some (f z)) (some-injective y x e)
map_get f (y ∷ ys) (suc c) x e = map_get f ys c x e

pub get_map : {A B : Type 0} (f : A → B) (xs : List A) (c : ℕ) (b : B) → slice_get (map f xs) c ≡ Some b → (x : A) × (get_elem? xs c ≡ some x) × (f x ≡ b)
get_map f [] c b e = absurd (none-some b e)
get_map f (y ∷ ys) zero b e = (y, refl, same_Some (f y) b e)
get_map f (y ∷ ys) (suc c) b e = get_map f ys c b e

module _ {S : Type 0} where
  seats_marks : (f : Mark → ℕ) (i : ℕ) (ss : List (Seat S View)) → total f (about i (flat_map (λ (s : Seat S View). s.me.0.marks) ss)) ≡ total (λ (s : Seat S View). marks_of f i s.me.0) ss
  seats_marks f i [] = refl
  seats_marks f i (s ∷ ss) = let rest = flat_map (λ (s : Seat S View). s.me.0.marks) ss in let e = ap (total f) (about-append i s.me.0.marks rest) in
      omega (arith, seats_marks f i ss, total-append f (about i s.me.0.marks) (about i rest))

  seats_puts : (y n : ℕ) (ss : List (Seat S View)) → total (total (is_put y n)) (flat_map (λ (s : Seat S View). s.me.0.stores) ss) ≡ total (λ (s : Seat S View). put_in y n s.me.0) ss
  seats_puts y n [] = refl
  seats_puts y n (s ∷ ss) = omega (arith, seats_puts y n ss, total-append (total (is_put y n)) s.me.0.stores (flat_map (λ (s : Seat S View). s.me.0.stores) ss))

total_map : {A B : Type 0} (g : B → ℕ) (f : A → B) (xs : List A) → total g (map f xs) ≡ total (λ x. g (f x)) xs
total_map g f [] = refl
total_map g f (x ∷ xs) = omega (arith, total_map g f xs)

-- ## What a seat has in the end

module _ {O : Type 0} {g : Ghosts O} {state : O → OutState} {p : Plan} (y : Seated g state p) where
  abbrev pub final_of : View
  final_of = y.seat.me.0

  -- a new seat
  abbrev fresh : Hand
  fresh = record { view = newcomer p [] y.spare; held = [] }

  pub later : (k : ℕ) (d : Deed g state p) → get_elem? y.deeds k ≡ some d → Grew d.after.view final_of
  later k d e = subst (λ (v : View). Grew d.after.view v) (sym y.left) (ends_grew y.deeds fresh y.ended y.chain k d e)

  pub between : (j k : ℕ) (a b : Deed g state p) → j < k → get_elem? y.deeds j ≡ some a → get_elem? y.deeds k ≡ some b → Grew a.after.view b.before.view
  between j k a b less e f = between_grew y.deeds fresh y.ended y.chain j k a b less e f

  pub all_gains : (f : Mark → ℕ) → IsNote f → (i : ℕ) → marks_of f i final_of ≡ total (gain f i) y.deeds
  all_gains f note i = omega (arith, ap (marks_of f i) y.left, gains f note i y.deeds fresh y.ended y.chain)

  pub all_stored : (x n : ℕ) → put_in x n final_of ≡ total (stored x n) y.deeds
  all_stored x n = omega (arith, ap (put_in x n) y.left, stores x n y.deeds fresh y.ended y.chain)

  -- what it noted came by one of its deeds
  noted_by : (f : Mark → ℕ) → IsNote f → (i : ℕ) → 0 < marks_of f i final_of → (k : ℕ) × (d : Deed g state p) × (get_elem? y.deeds k ≡ some d) × (marks_of f i d.before.view < marks_of f i d.after.view)
  noted_by f note i some_ = let w = total_some (gain f i) y.deeds (omega (arith, some_, all_gains f note i)) in (w.0, w.1, w.2, let h = w.3 in omega arith)

  stored_by : (x n : ℕ) → 0 < put_in x n final_of → (k : ℕ) × (d : Deed g state p) × (get_elem? y.deeds k ≡ some d) × (put_in x n d.before.view < put_in x n d.after.view)
  stored_by x n some_ = let w = total_some (stored x n) y.deeds (omega (arith, some_, all_stored x n)) in (w.0, w.1, w.2, let h = w.3 in omega arith)

module _ {O : Type 0} {g : Ghosts O} {state : O → OutState} {p : Plan} {clients : List (List Task)} {outcomes : List (Option Outcome)} {places : List PlaceWord} {vrefs : List Vref} {outs : List O} (run : DeedRun g state p clients outcomes places vrefs outs) where
  abbrev pub All : View
  All = run.closed.view

  abbrev ReadSeats : List (Seated g state p)
  ReadSeats = map sits_of run.readers

  -- those of the readers, and behind them those of the clients: so all have what they noted
  abbrev pub Seats : List (Seated g state p)
  Seats = ReadSeats ++ run.seats

  -- what the clients noted, before the sockets were ended
  abbrev pub Joined : View
  Joined = run.ending.began.view

  abbrev Ends : View
  Ends = run.ending.ended.view

  abbrev had_by : {A : Type 0} → (View → List A) → Seat (SockHome O g) View → List A
  had_by f s = f s.me.0

  -- what all have together
  abbrev Together : {A : Type 0} → (View → List A) → List (Seat (SockHome O g) View) → List A
  Together f seats = flat_map (had_by f) seats

  left_has : {A : Type 0} (f : View → List A) → Together f run.left ≡ Together f (map seat_of ReadSeats) ++ f Ends
  left_has f = ap (Together f) (sym run.left_is) ∙ (flat-append (had_by f) (map seat_of ReadSeats) (run.ending.seat ∷ []) ∙ ap (λ l. Together f (map seat_of ReadSeats) ++ l) (append-nil (f run.ending.seat.me.0) ∙ ap f run.ending.left))

  joined_marks : (f : Mark → ℕ) (i : ℕ) → marks_of f i Joined ≡ total (λ (y : Seated g state p). marks_of f i (final_of y)) run.seats
  joined_marks f i = ap (λ l. total f (about i l)) run.ending.took_in.marks ∙ (seats_marks f i (map seat_of run.seats) ∙ total_map (λ (s : Seat (SockHome O g) View). marks_of f i s.me.0) seat_of run.seats)

  -- the readers' notes, those of the clients, and what was noted when the sockets were ended
  all_marks : (f : Mark → ℕ) → IsNote f → (i : ℕ) → marks_of f i All ≡ total (λ (y : Seated g state p). marks_of f i (final_of y)) ReadSeats + (marks_of f i Joined + total (gain f i) run.ending.deeds)
  all_marks f note i =
      let notes : List SlotMark = Together (λ (v : View). v.marks) (map seat_of ReadSeats) in
      let all : marks_of f i All ≡ total f (about i (notes ++ Ends.marks)) = ap (λ l. total f (about i l)) (run.closed.marks ∙ left_has (λ (v : View). v.marks)) in
      let parts = ap (total f) (about-append i notes Ends.marks) in
      let read = seats_marks f i (map seat_of ReadSeats) ∙ total_map (λ (s : Seat (SockHome O g) View). marks_of f i s.me.0) seat_of ReadSeats in
      omega (arith, all, parts, total-append f (about i notes) (about i Ends.marks), read, gains f note i run.ending.deeds run.ending.began run.ending.ended run.ending.chain)

  kept : Keeps Joined Ends
  kept = ids_kept g state p run.ending.deeds run.ending.began run.ending.ended run.ending.chain run.ending.by_ids

  -- what the ending keeps is that of the readers and the clients
  all_kept : {A : Type 0} (f : View → List A) → f All ≡ Together f run.left → f Ends ≡ f Joined → f Joined ≡ Together f (map seat_of run.seats) → f All ≡ Together f (map seat_of Seats)
  all_kept f closed same joined =
      let apart = flat-append (had_by f) (map seat_of ReadSeats) (map seat_of run.seats) in
      closed ∙ (left_has f ∙ (ap (λ l. Together f (map seat_of ReadSeats) ++ l) (same ∙ joined) ∙ (sym apart ∙ ap (Together f) (sym (map_append seat_of ReadSeats run.seats)))))

  all_puts : (x n : ℕ) → put_in x n All ≡ total (λ (y : Seated g state p). put_in x n (final_of y)) Seats
  all_puts x n = ap (total (total (is_put x n))) (all_kept (λ (v : View). v.stores) run.closed.stores kept.1 run.ending.took_in.stores) ∙ (seats_puts x n (map seat_of Seats) ∙ total_map (λ (s : Seat (SockHome O g) View). put_in x n s.me.0) seat_of Seats)

  -- the lists of accepted messages are theirs
  pub all_lists : All.lists ≡ flat_map (λ (s : Seat (SockHome O g) View). s.me.0.lists) (map seat_of Seats)
  all_lists = all_kept (λ (v : View). v.lists) run.closed.lists kept.0 run.ending.took_in.lists

  -- ## Deeds

  -- deed k of seat c
  pub record Act : Type 0 where
    pub c : ℕ
    pub y : Seated g state p
    pub at : get_elem? run.seats c ≡ some y
    pub k : ℕ
    pub d : Deed g state p
    pub is : get_elem? y.deeds k ≡ some d

  abbrev pub before : Act → View
  before a = a.d.before.view

  abbrev pub after : Act → View
  after a = a.d.after.view

  abbrev pub did_of : Act → Did
  did_of a = a.d.did

  abbrev pub done_of : (a : Act) → DoneBy g state p (did_of a) a.d.before a.d.after
  done_of a = a.d.done

  -- deed k of reader c
  pub record Read : Type 0 where
    pub c : ℕ
    pub r : ReaderSeat g state p clients outcomes
    pub at : get_elem? run.readers c ≡ some r
    pub k : ℕ
    pub d : Deed g state p
    pub is : get_elem? r.sits.deeds k ≡ some d

  pub client_there : (c : ℕ) (y : Seated g state p) → get_elem? run.seats c ≡ some y → get_elem? Seats (length run.readers + c) ≡ some y
  client_there c y at = let e : length run.readers + c ≡ length ReadSeats + c = omega (arith, length-map run.readers sits_of) in ap (get_elem? Seats) e ∙ append_later ReadSeats run.seats c y at

  -- a seat is a client's or a reader's
  pub seat_cases : (c : ℕ) (y : Seated g state p) → get_elem? Seats c ≡ some y → ((j : ℕ) × (c ≡ length run.readers + j) × (get_elem? run.seats j ≡ some y)) ⊎ ((j : ℕ) × (r : ReaderSeat g state p clients outcomes) × (get_elem? run.readers j ≡ some r) × (r.sits ≡ y))
  seat_cases c y at = elim (append_cases ReadSeats run.seats c y at) [
    | inl h ↦ (let r = map_back sits_of run.readers c y h in inr (c, r.0, r.1, r.2))
    | inr w ↦ inl (w.0, (let e = w.1 in omega (arith, e, length-map run.readers sits_of)), w.2)
  ]

  -- what it noted stood before the sockets were ended
  pub joined_has : (a : Act) (f : Mark → ℕ) → IsNote f → (i : ℕ) → marks_of f i (after a) ≤ marks_of f i Joined
  joined_has a f note i = let l = (later a.y a.k a.d a.is).marks f note i in omega (arith, joined_marks f i, term_le (λ (y : Seated g state p). marks_of f i (final_of y)) run.seats a.c a.y a.at)

  -- and all together have it
  pub has_marks : (a : Act) (f : Mark → ℕ) → IsNote f → (i : ℕ) → marks_of f i (after a) ≤ marks_of f i All
  has_marks a f note i = omega (arith, joined_has a f note i, all_marks f note i)

  -- and what a reader noted
  pub read_marks : (r : Read) (f : Mark → ℕ) → IsNote f → (i : ℕ) → marks_of f i r.d.after.view ≤ marks_of f i All
  read_marks r f note i =
      let l = (later r.r.sits r.k r.d r.is).marks f note i in
      let one = term_le (λ (y : Seated g state p). marks_of f i (final_of y)) ReadSeats r.c r.r.sits (map_there sits_of run.readers r.c r.r r.at) in
      omega (arith, l, one, all_marks f note i)

  -- all have a word that it stored
  pub has_puts : (a : Act) (x n : ℕ) → put_in x n (after a) ≤ put_in x n All
  has_puts a x n = let l = (later a.y a.k a.d a.is).puts x n in omega (arith, all_puts x n, term_le (λ (y : Seated g state p). put_in x n (final_of y)) Seats (length run.readers + a.c) a.y (client_there a.c a.y a.at))

  ends_grew_all : Grew Joined Ends
  ends_grew_all = chain_grew run.ending.deeds run.ending.began run.ending.ended run.ending.chain

  abbrev Has : {A : Type 0} → (View → List A) → A → View → Type 0
  Has f x v = (k : ℕ) × (get_elem? (f v) k ≡ some x)

  -- what a client has, the one that ended the sockets took in
  client_has : {A : Type 0} (f : View → List A) (x : A) → f Joined ≡ Together f (map seat_of run.seats) → f All ≡ Together f run.left → (Has f x Joined → Has f x Ends) → (a : Act) → Has f x (final_of a.y) → Has f x All
  client_has f x joined closed stays a h =
      let r = flat_there (had_by f) (map seat_of run.seats) a.c (seat_of a.y) h.0 x (map_there seat_of run.seats a.c a.y a.at) h.1 in
      let e = stays (r.0, ap (λ l. get_elem? l r.0) joined ∙ r.1) in
      let read = Together f (map seat_of ReadSeats) in
      (length read + e.0, ap (λ l. get_elem? l (length read + e.0)) (closed ∙ left_has f) ∙ append_later read (f Ends) e.0 x e.1)

  pub has_found : (a : Act) (x : StoredWord) → HasFound x (after a) → HasFound x All
  has_found a x h = client_has (λ (v : View). v.finds) x run.ending.took_in.finds run.closed.finds (ends_grew_all.finds x) a ((later a.y a.k a.d a.is).finds x h)

  pub read_found : (r : Read) (x : StoredWord) → HasFound x r.d.after.view → HasFound x All
  read_found r x h =
      let f : View → List StoredWord = λ v. v.finds in
      let l = (later r.r.sits r.k r.d r.is).finds x h in
      let m = flat_there (had_by f) (map seat_of ReadSeats) r.c (seat_of r.r.sits) l.0 x (map_there seat_of ReadSeats r.c r.r.sits (map_there sits_of run.readers r.c r.r r.at)) l.1 in
      (m.0, ap (λ l. get_elem? l m.0) (run.closed.finds ∙ left_has f) ∙ append_first (Together f (map seat_of ReadSeats)) Ends.finds m.0 x m.1)

  -- what stands with a message that it dropped
  pub has_drops : (a : Act) (x : Heading) → HasDropped x (after a) → HasDropped x All
  has_drops a x h = client_has (λ (v : View). v.drops) x run.ending.took_in.drops run.closed.drops (ends_grew_all.dropped x) a ((later a.y a.k a.d a.is).dropped x h)

  pub has_seen : (a : Act) (x : ℕ) → HasSeen x (after a) → HasSeen x All
  has_seen a x h = client_has (λ (v : View). v.found) x run.ending.took_in.found run.closed.found (ends_grew_all.seen x) a ((later a.y a.k a.d a.is).seen x h)

  -- ## The ending

  -- deed k of the one that ended the sockets
  pub record Late : Type 0 where
    pub k : ℕ
    pub d : Deed g state p
    pub is : get_elem? run.ending.deeds k ≡ some d

  -- all that a client noted stood before it
  pub noted_before : (a : Act) (l : Late) (f : Mark → ℕ) → IsNote f → (i : ℕ) → marks_of f i (after a) ≤ marks_of f i l.d.before.view
  noted_before a l f note i = let h = (begins_grew run.ending.deeds run.ending.began run.ending.ended run.ending.chain l.k l.d l.is).marks f note i in omega (arith, joined_has a f note i)

  -- ## Whence it came

  -- what the clients had before the sockets were ended came by a deed of one
  joined_from : (f : Mark → ℕ) → IsNote f → (i : ℕ) → 0 < marks_of f i Joined → (a : Act) × (marks_of f i (before a) < marks_of f i (after a))
  joined_from f note i some_ =
      let one = total_some (λ (y : Seated g state p). marks_of f i (final_of y)) run.seats (omega (arith, joined_marks f i, some_)) in
      let two = noted_by one.1 f note i one.3 in
      (record { c = one.0; y = one.1; at = one.2; k = two.0; d = two.1; is = two.2 }, two.3)

  -- and what the readers have by one of a reader
  read_from : (f : Mark → ℕ) → IsNote f → (i : ℕ) → 0 < total (λ (y : Seated g state p). marks_of f i (final_of y)) ReadSeats → (r : Read) × (marks_of f i r.d.before.view < marks_of f i r.d.after.view)
  read_from f note i some_ =
      let one = total_some (λ (y : Seated g state p). marks_of f i (final_of y)) ReadSeats some_ in
      let w = map_back sits_of run.readers one.0 one.1 one.2 in
      let two = noted_by one.1 f note i one.3 in
      (record { c = one.0; r = w.0; at = w.1; k = two.0; d = two.1; is = ap (λ (y : Seated g state p). get_elem? y.deeds two.0) w.2 ∙ two.2 }, two.3)

  -- all that a reader did is done by ids
  pub read_is_by_id : (r : Read) → IsById r.d.did
  read_is_by_id r = read_by_ids r.r r.k r.d r.is

  -- and the rest set a life failed, as a reader does
  pub marks_from : (f : Mark → ℕ) (z : IsOfLife f) (i : ℕ) → 0 < marks_of f i All
      → ((a : Act) × (marks_of f i (before a) < marks_of f i (after a))) ⊎ (((r : Read) × (marks_of f i r.d.before.view < marks_of f i r.d.after.view)) ⊎ ((l : Late) × SetNow g state p f i l.d.before.view))
  marks_from f z i some_ = dite (dec_lt 0 (marks_of f i Joined))
      (λ lt. inl (joined_from f (λ h. z (Hold h) refl) i lt))
      (λ none_. dite (dec_lt 0 (total (λ (y : Seated g state p). marks_of f i (final_of y)) ReadSeats))
      (λ lt. inr (inl (read_from f (λ h. z (Hold h) refl) i lt)))
      (λ neither. (
      let two = total_some (gain f i) run.ending.deeds (omega (arith, some_, none_, neither, all_marks f (λ h. z (Hold h) refl) i)) in
      let d = two.1 in
      let more_ = two.3 in
      inr (inr (record { k = two.0; d = d; is = two.2 }, id_source g state p f z d.did d.before d.after d.done i (run.ending.by_ids two.0 d two.2) (omega (arith, more_)))))))

  -- so lives are made and linked by clients alone
  pub lives_from : (f : Mark → ℕ) (z : IsOfLife f) → ((h : ℕ) → f (Failer h) ≡ 0) → (i : ℕ) → 0 < marks_of f i All → (a : Act) × (marks_of f i (before a) < marks_of f i (after a))
  lives_from f z none_ i some_ = elim (marks_from f z i some_) [
    | inl w ↦ w
    | inr o ↦ elim o [
      | inl w ↦ absurd (let s = id_source g state p f z w.0.d.did w.0.d.before w.0.d.after w.0.d.done i (read_is_by_id w.0) w.1 in let m = s.weighs in let e = none_ (socket_id_version s.id) in omega arith)
      | inr w ↦ absurd (let s = w.1.weighs in let e = none_ (socket_id_version w.1.id) in omega arith)
    ]
  ]

  -- and words are stored by them alone
  pub puts_from : (x n : ℕ) → 0 < put_in x n All → (a : Act) × (put_in x n (before a) < put_in x n (after a))
  puts_from x n some_ =
      let one = total_some (λ (y : Seated g state p). put_in x n (final_of y)) Seats (omega (arith, all_puts x n, some_)) in
      let y = one.1 in
      let two = stored_by y x n one.3 in
      elim (seat_cases one.0 y one.2) [
        | inl w ↦ (record { c = w.0; y = y; at = w.2; k = two.0; d = two.1; is = two.2 }, two.3)
        | inr w ↦ absurd (none_stored record { c = w.0; r = w.1; at = w.2; k = two.0; d = two.1; is = ap (λ (z : Seated g state p). get_elem? z.deeds two.0) w.3 ∙ two.2 } two.3)
      ]
    where
      none_stored : (r : Read) → put_in x n r.d.before.view < put_in x n r.d.after.view → ⊥
      none_stored r less = let e = ap (total (total (is_put x n))) (id_kept g state p r.d.did r.d.before r.d.after (read_is_by_id r) r.d.done).1 in omega arith

  -- the seat of a place is one
  pub same_seat : (a b : Act) → a.c ≡ b.c → b.y ≡ a.y
  same_seat a b same = some-injective b.y a.y (sym b.at ∙ (ap (get_elem? run.seats) (sym same) ∙ a.at))

  -- and the deed of a place
  pub same_deed : (a b : Act) → a.c ≡ b.c → a.k ≡ b.k → a.d ≡ b.d
  same_deed a b client place = some-injective a.d b.d (sym a.is ∙ (ap (λ (y : Seated g state p). get_elem? y.deeds a.k) (sym (same_seat a b client)) ∙ (ap (get_elem? b.y.deeds) place ∙ b.is)))

  -- what was noted behind a deed is noted before each later one of its seat
  pub act_between : (a b : Act) → a.c ≡ b.c → a.k < b.k → Grew (after a) (before b)
  act_between a b client less = between a.y a.k b.k a.d b.d less a.is (ap (λ (y : Seated g state p). get_elem? y.deeds b.k) (sym (same_seat a b client)) ∙ b.is)

  -- two deeds that added marks are one, where there is one mark
  pub once_added : (f : Mark → ℕ) → IsNote f → (i : ℕ) → marks_of f i All ≤ 1 → (a b : Act) → marks_of f i (before a) < marks_of f i (after a) → marks_of f i (before b) < marks_of f i (after b) → (a.c ≡ b.c) × (a.k ≡ b.k)
  once_added f note i few a b more_a more_b = dite (ℕ_discrete a.c b.c)
      (λ same. (same, one_seat same))
      (λ ne. absurd (omega (arith, few, joined_marks f i, all_marks f note i, two_terms (λ (y : Seated g state p). marks_of f i (final_of y)) run.seats a.c b.c a.y b.y a.at b.at (λ e. ne (sym e)), each a more_a, each b more_b)))
    where
      each : (a : Act) → marks_of f i (before a) < marks_of f i (after a) → 0 < marks_of f i (final_of a.y)
      each a more_ = omega (arith, all_gains a.y f note i, term_le (gain f i) a.y.deeds a.k a.d a.is)

      one_seat : a.c ≡ b.c → a.k ≡ b.k
      one_seat same =
          let also : get_elem? a.y.deeds b.k ≡ some b.d = ap (λ (y : Seated g state p). get_elem? y.deeds b.k) (sym (same_seat a b same)) ∙ b.is in
          dite (ℕ_discrete a.k b.k) (λ e. e) (λ ne. absurd (omega (arith, few, more_a, more_b, joined_marks f i, all_marks f note i, term_le (λ (y : Seated g state p). marks_of f i (final_of y)) run.seats a.c a.y a.at, all_gains a.y f note i, two_terms (gain f i) a.y.deeds a.k b.k a.d b.d a.is also (λ e. ne (sym e)))))
