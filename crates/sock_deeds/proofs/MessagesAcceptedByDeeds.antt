-- Each message in the log is that of one deed: which deed sent it, and in which order.
use Rattle.std.proofs.Common.{◌≡◌, inl, inr, ℕ, zero, suc, ◌+◌, ◌*◌, ◌<◌, List, [], ◌∷◌, ◌++◌, length, flat_map, map, Option, Some, None, refl, sym, ap, ◌∙◌, subst, arith}
use mathlib.Core.Option.{some, some-injective, some-ne-none}
use lib.ListN.{get_elem?}
use Rattle.atomic_table.specs.declared.shared.Seat.{Seat}
use Rattle.sock_io.specs.declared.link.Out.{Ghosts}
use Rattle.sock_io.specs.LinkHalves.{OutState}
use Rattle.sock_words.specs.declared.outcome.Outcome.{Outcome}
use Rattle.sock_words.specs.declared.plain.Plan.{Plan}
use Rattle.sock_words.specs.declared.place_word.PlaceWord.{PlaceWord}
use Rattle.sock_words.specs.declared.vref.Vref.{Vref}
use Rattle.sock_model.specs.declared.chain.Entry.{Entry}
use Rattle.sock_model.specs.declared.chain.Heading.{Heading}
use Rattle.sock_model.specs.declared.view.View.{View}
use Rattle.sock_model.specs.Authors.{pick}
use Rattle.chain_steps.proofs.TicketLists.{at_some, at_length}
use Rattle.seat_programs.specs.declared.task.Task.{Task}
use Rattle.rpc_client.specs.sock_rule.specs.declared.homes.Letter.{Letter}
use Rattle.rpc_client.specs.sock_rule.specs.declared.homes.SockHome.{SockHome}
use Rattle.sock_deeds.specs.Deeds.{sends, own_number}
use Rattle.sock_deeds.specs.SocketTableRun.{IsMessage, of_send, of_call, IsFor, IsById, Seated, seat_of, ReaderSeat, DeedRun}
use Rattle.sock_deeds.proofs.DeedsOfAllSeats.{Act, Seats, final_of, all_lists, client_there, seat_cases, did_of, done_of}
use Rattle.sock_deeds.proofs.PlacesOfEntries.{before, pick_at, before_rises, from_pick}
use Rattle.sock_deeds.proofs.Flats.{flat_from, flat_there, flat_rises}
use Rattle.sock_deeds.proofs.OwnMessagesOfDeeds.{IsSent, entries_of, entry_source, entry_there, entries_small, own_list}
use Rattle.sock_deeds.proofs.ReaderSocketDeeds.{read_by_ids}
use Rattle.sock_deeds.proofs.DeedsForTasks.{is_for, rises}

-- lists of one list each
flat_ones : {A B : Type 0} (f : A → List B) (h : A → B) (xs : List A) → ((c : ℕ) (x : A) → get_elem? xs c ≡ some x → f x ≡ h x ∷ []) → flat_map f xs ≡ map h xs
flat_ones f h [] each = refl
flat_ones f h (x ∷ xs) each = ap (λ l. l ++ flat_map f xs) (each 0 x refl) ∙ ap (λ l. h x ∷ l) (flat_ones f h xs (λ c y e. each (suc c) y e))

flat_mapped : {A B C : Type 0} (f : B → List C) (h : A → B) (xs : List A) → flat_map f (map h xs) ≡ flat_map (λ x. f (h x)) xs
flat_mapped f h [] = refl
flat_mapped f h (x ∷ xs) = ap (λ l. f (h x) ++ l) (flat_mapped f h xs)

cons_first : {A : Type 0} {x y : A} {s t : List A} → x ∷ s ≡ y ∷ t → x ≡ y
cons_first e = cc

cons_rest : {A : Type 0} {x y : A} {s t : List A} → x ∷ s ≡ y ∷ t → s ≡ t
cons_rest e = cc

-- what stands at the same place of two lists that are mapped alike
both_at : {A B C : Type 0} (f : A → C) (h : B → C) (xs : List A) (ys : List B) (c : ℕ) (x : A) → map f xs ≡ map h ys → get_elem? xs c ≡ some x → (y : B) × (get_elem? ys c ≡ some y) × (f x ≡ h y)
both_at f h [] ys c x e at = absurd (some-ne-none x (sym at))
both_at f h (a ∷ xs) [] c x e at = absurd (cc)
both_at f h (a ∷ xs) (b ∷ ys) zero x e at = (b, refl, ap f (sym (some-injective a x at)) ∙ cons_first e)
both_at f h (a ∷ xs) (b ∷ ys) (suc c) x e at = both_at f h xs ys c x (cons_rest e) at

module _ {O : Type 0} {g : Ghosts O} {state : O → OutState} {p : Plan} {clients : List (List Task)} {outcomes : List (Option Outcome)} {places : List PlaceWord} {vrefs : List Vref} {outs : List O} (run : DeedRun g state p clients outcomes places vrefs outs) where
  abbrev pub log : List Entry
  log = run.closed.ordered.log

  -- the messages that a seat had accepted
  abbrev pub own : Seated g state p → List Entry
  own y = flat_map entries_of y.deeds

  lists_same : map own (Seats run) ≡ map (λ a. pick a run.closed.ordered.by log) run.closed.ordered.names
  lists_same = sym (flat_ones (λ (y : Seated g state p). (final_of y).lists) own (Seats run) (λ c y at. own_list y))
      ∙ (sym (flat_mapped (λ (s : Seat (SockHome O g) View). s.me.0.lists) seat_of (Seats run)) ∙ (sym (all_lists run) ∙ run.closed.ordered.lists_are))

  -- ## Whose an entry is

  -- the entry is at this place of what seat c had accepted
  pub record Sender (q : ℕ) (e : Entry) : Type 0 where
    pub author : ℕ
    pub by_author : get_elem? run.closed.ordered.by q ≡ some author
    pub c : ℕ
    pub y : Seated g state p
    pub at : get_elem? run.seats c ≡ some y
    pub name : get_elem? run.closed.ordered.names (length run.readers + c) ≡ some author
    pub own_list : own y ≡ pick author run.closed.ordered.by log
    pub place : get_elem? (own y) (before author run.closed.ordered.by q) ≡ some e

  -- a reader has none accepted
  pub read_none : (r : ReaderSeat g state p clients outcomes) (m : ℕ) (e : Entry) → get_elem? (own r.sits) m ≡ some e → ⊥
  read_none r m e at =
      let w = flat_from entries_of r.sits.deeds m e at in
      subst IsById (entry_source g state p w.1.did w.1.before w.1.after w.1.done w.3 e w.4).did_is (read_by_ids r w.0 w.1 w.2)

  client_has : (c : ℕ) (y : Seated g state p) → get_elem? (Seats run) c ≡ some y → (m : ℕ) (e : Entry) → get_elem? (own y) m ≡ some e → (j : ℕ) × (c ≡ length run.readers + j) × (get_elem? run.seats j ≡ some y)
  client_has c y at m e there = elim (seat_cases run c y at) [
    | inl h ↦ h
    | inr w ↦ absurd (read_none w.1 m e (ap (λ (z : Seated g state p). get_elem? (own z) m) w.3 ∙ there))
  ]

  pub sender : (q : ℕ) (e : Entry) → get_elem? log q ≡ some e → Sender q e
  sender q e there =
      let by = run.closed.ordered.by in
      let low = at_length log q e there in
      let long = run.closed.ordered.long in
      let au = at_some by q (omega arith) in
      let n = run.closed.ordered.named q au.0 au.1 in
      let w = both_at (λ a. pick a by log) own run.closed.ordered.names (Seats run) n.0 au.0 (sym lists_same) n.1 in
      let place : get_elem? (own w.0) (before au.0 by q) ≡ some e = ap (λ l. get_elem? l (before au.0 by q)) (sym w.2) ∙ pick_at au.0 by log q e au.1 there in
      let client = client_has n.0 w.0 w.1 (before au.0 by q) e place in record {
        author = au.0;
        by_author = au.1;
        c = client.0;
        y = w.0;
        at = client.2;
        name = ap (get_elem? run.closed.ordered.names) (sym client.1) ∙ n.1;
        own_list = sym w.2;
        place = place;
      }

  -- the deed that sent an entry
  abbrev pub Sent : Act run → Entry → Type 0
  Sent a e = IsSent g state p (did_of run a) a.d.before a.d.after e

  pub sent_by : (a : Act run) (j : ℕ) (e : Entry) → get_elem? (entries_of a.d) j ≡ some e → Sent a e
  sent_by a j e at = entry_source g state p (did_of run a) a.d.before a.d.after (done_of run a) j e at

  -- what it was done for
  pub sent_for : (a : Act run) (e : Entry) (s : Sent a e) → IsMessage clients outcomes a.c s.name s.number s.attempt s.msg None × (s.msg.label.place ≡ 8 * s.number + s.attempt)
  sent_for a e s = subst (IsFor clients outcomes a.c) s.did_is (is_for run a)

  pub sent_place : (a : Act run) (e : Entry) (s : Sent a e) → e.heading.label.place ≡ 8 * s.number + s.attempt
  sent_place a e s = ap (λ (x : Entry). x.heading.label.place) (sym s.entry) ∙ (ap (λ (h : Heading). h.label.place) s.sent.delivered.accepted.heading_is ∙ (sent_for a e s).1)

  pub sender_act : (q : ℕ) (e : Entry) (s : Sender q e) → (a : Act run) × (a.c ≡ s.c) × Sent a e
  sender_act q e s =
      let w = flat_from entries_of s.y.deeds (before s.author run.closed.ordered.by q) e s.place in
      let a : Act run = record { c = s.c; y = s.y; at = s.at; k = w.0; d = w.1; is = w.2 } in
      (a, refl, sent_by a w.3 e w.4)

  pub act_of_entry : (q : ℕ) (e : Entry) → get_elem? log q ≡ some e → (a : Act run) × Sent a e
  act_of_entry q e there = let w = sender_act q e (sender q e there) in (w.0, w.2)

  -- a message that was accepted is in the log
  pub entry_of_act : (a : Act run) (name number attempt : ℕ) (msg : Letter) → did_of run a ≡ sends name number attempt msg None → (q : ℕ) × (e : Entry) × (get_elem? log q ≡ some e) × Sent a e
  entry_of_act a name number attempt msg is =
      let by = run.closed.ordered.by in
      let w = entry_there g state p name number attempt msg (did_of run a) a.d.before a.d.after (done_of run a) is in
      let at = flat_there entries_of a.y.deeds a.k a.d 0 w.0 a.is w.1 in
      let n = both_at own (λ x. pick x by log) (Seats run) run.closed.ordered.names (length run.readers + a.c) a.y lists_same (client_there run a.c a.y a.at) in
      let q = from_pick n.0 by log at.0 w.0 (ap (λ l. get_elem? l at.0) (sym n.2) ∙ at.1) in
      (q.0, w.0, q.2, sent_by a 0 w.0 w.1)

  -- ## Their order

  -- two messages of one seat were sent in their order
  pub one_seat : (q r : ℕ) (d e : Entry) (s : Sender q d) (t : Sender r e) → s.c ≡ t.c → q < r → (a b : Act run) × (a.c ≡ s.c) × (b.c ≡ s.c) × (a.k < b.k) × Sent a d × Sent b e
  one_seat q r d e s t same less =
      let by = run.closed.ordered.by in
      let author : s.author ≡ t.author = some-injective s.author t.author (sym s.name ∙ (ap (λ n. get_elem? run.closed.ordered.names (length run.readers + n)) same ∙ t.name)) in
      let also : get_elem? (own s.y) (before s.author by r) ≡ some e = ap (λ l. get_elem? l (before s.author by r)) (s.own_list ∙ (ap (λ x. pick x by log) author ∙ sym t.own_list)) ∙ (ap (λ x. get_elem? (own t.y) (before x by r)) author ∙ t.place) in
      let w = flat_rises entries_of (λ m. entries_small g state p m.did m.before m.after m.done) s.y.deeds (before s.author by q) (before s.author by r) d e (before_rises s.author by q r s.by_author less) s.place also in
      let a : Act run = record { c = s.c; y = s.y; at = s.at; k = w.0; d = w.2; is = w.5 } in
      let b : Act run = record { c = s.c; y = s.y; at = s.at; k = w.1; d = w.3; is = w.6 } in
      (a, b, refl, refl, w.4, sent_by a 0 d w.7, sent_by b 0 e w.8)

  low_attempt : (c name number attempt : ℕ) (msg : Letter) → IsMessage clients outcomes c name number attempt msg None → attempt < 8
  low_attempt c name number attempt msg (of_send bytes is first sent told) = omega arith
  low_attempt c name number attempt msg (of_call client asked is mine low name_is sent told) = omega arith

  first_number : (a : Act run) (e : Entry) (s : Sent a e) → s.attempt ≡ 0 → own_number (did_of run a) ≡ Some s.number
  first_number a e s first = ap own_number s.did_is ∙ ap (λ n. own_number (sends s.name s.number n s.msg None)) first

  -- so sends and first attempts of one client stand in the order of its operations
  pub in_order : (q r : ℕ) (d e : Entry) (s : Sender q d) (t : Sender r e) → s.c ≡ t.c → q < r → (m n : ℕ) → d.heading.label.place ≡ 8 * m → e.heading.label.place ≡ 8 * n → m < n
  in_order q r d e s t same less m n place_d place_e =
      let w = one_seat q r d e s t same less in
      let a = w.0 in
      let b = w.1 in
      let x = w.5 in
      let y = w.6 in
      let px = sent_place a d x in
      let py = sent_place b e y in
      let lx = low_attempt a.c x.name x.number x.attempt x.msg (sent_for a d x).0 in
      let ly = low_attempt b.c y.name y.number y.attempt y.msg (sent_for b e y).0 in
      let rise = rises run a b x.number y.number (w.2 ∙ sym w.3) w.4 (first_number a d x (omega arith)) (first_number b e y (omega arith)) in
      omega arith
