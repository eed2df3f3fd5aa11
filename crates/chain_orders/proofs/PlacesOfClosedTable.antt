-- The places of all messages, as a closed table tells them.
use Rattle.std.proofs.Common.{◌≡◌, ◌≢◌, ◌⊎◌, ℕ, zero, suc, ◌+◌, ◌*◌, ◌<◌, ◌≤◌, inl, inr, true, false, nat_le, List, [], ◌∷◌, ◌++◌, length, take, drop, append_assoc, map, flat_map, refl, sym, ap, ◌∙◌, subst, arith, eqb}
use Rattle.std.proofs.lemmas.List.{length-map}
use Rattle.std.proofs.lemmas.Bool.Decides.{nat_tests}
use mathlib.Core.Logic.{dite}
use mathlib.Core.Option.{some, some-injective, some-ne-none}
use native.Mathlib.Decide.{dec_lt}
use lib.ListN.{get_elem?}
use Rattle.atomic_table.specs.declared.shared.Seat.{Seat}
use Rattle.brpc_model.specs.PlaceWords.{word_at}
use Rattle.sock_io.specs.LinkHalves.{OutState}
use Rattle.sock_words.specs.declared.plain.Plan.{Plan}
use Rattle.sock_words.specs.declared.place_word.PlaceWord.{PlaceWord}
use Rattle.sock_words.specs.declared.vref.Vref.{Vref}
use Rattle.sock_words.specs.PackedWords.{no_place, place_word}
use Rattle.sock_words.specs.Totals.{total}
use Rattle.sock_model.specs.declared.chain.Entry.{Entry}
use Rattle.sock_model.specs.declared.marks.SlotMark.{SlotMark}
use Rattle.sock_model.specs.declared.view.View.{View}
use Rattle.sock_model.specs.Authors.{pick}
use Rattle.sock_model.specs.Deliveries.{whole}
use Rattle.sock_model.specs.Entries.{on}
use Rattle.sock_model.specs.MarkWeights.{is_failer, is_linked}
use Rattle.sock_model.specs.SocketTableLayout.{place_index}
use Rattle.sock_rule.specs.ClosingWordsAndNotes.{PlacesDiffer, PlaceOf, LifeFailed}
use Rattle.sock_rule.specs.LinkFaultNotes.{faults_link, faults_of}
use Rattle.sock_table.specs.ClosedSocketTable.{ClosedBy}
use Rattle.chain_orders.specs.SentMessages.{Sent, index_of, sent_of, sent_by, on_link, bytes_of}
use Rattle.chain_orders.specs.ListsInOneOrder.{part_of, AreMerged}
use Rattle.chain_orders.specs.MessagesInOneOrder.{IndexesDiffer, IsBegun, LinkFailed}
use Rattle.chain_orders.specs.PlacesInOrder.{LinkPlaced, StandsAt, PlacedInOrder, PlacesMessages}
use Rattle.chain_orders.proofs.MergedLists.{map_there, map_back, map_map, flat_map_map, filter_map, place_in, place_there}
use Rattle.chain_orders.proofs.OwnPlaces.{at_length, at_some, before, pick_at, one_place, picked}
use Rattle.chain_orders.proofs.NotesOfSeats.{noted_by}

-- ## Words

pub word_there : (ws : List PlaceWord) (l : ℕ) (x : PlaceWord) → get_elem? ws l ≡ some x → word_at ws l ≡ x.0
word_there [] l x e = absurd (some-ne-none x (sym e))
word_there (w ∷ ws) zero x e = ap (λ (y : PlaceWord). y.0) (some-injective w x e)
word_there (w ∷ ws) (suc l) x e = word_there ws l x e

-- ## What a link took

took_whole : (c : List Entry) (n : ℕ) → whole c n ≡ bytes_of (take n (map sent_of c))
took_whole [] zero = refl
took_whole [] (suc n) = refl
took_whole (e ∷ es) zero = refl
took_whole (e ∷ es) (suc n) = ap (λ l. e.bytes ++ l) (took_whole es n)

-- what the next message begins with
abbrev OfNext : List Entry → ℕ → List ℕ → Type 0
OfNext c n part = (part ≡ []) ⊎ ((e : Entry) × (rest : List ℕ) × (get_elem? c n ≡ some e) × (e.bytes ≡ part ++ rest) × (rest ≢ []))

next_begun : (c : List Entry) (n : ℕ) (part : List ℕ) → OfNext c n part → IsBegun part (drop n (map sent_of c))
next_begun [] zero part (inl none_) = none_
next_begun [] (suc n) part (inl none_) = none_
next_begun [] n part (inr w) = absurd (some-ne-none w.0 (sym w.2))
next_begun (e ∷ es) zero part (inl none_) = inl none_
next_begun (e ∷ es) zero part (inr w) = inr (w.1, ap (λ (x : Entry). x.bytes) (some-injective e w.0 w.2) ∙ w.3, w.4)
next_begun (e ∷ es) (suc n) part next = next_begun es n part next

-- ## What seats noted of a link

noted_more : (f : SlotMark → ℕ) (ms ns : List SlotMark) → total f (ms ++ ns) ≡ total f ms + total f ns
noted_more f [] ns = omega arith
noted_more f (m ∷ ms) ns = let again = noted_more f ms ns in omega arith

noted_one : {S : Type 0} (f : SlotMark → ℕ) (seats : List (Seat S View)) (c : ℕ) (s : Seat S View) → get_elem? seats c ≡ some s → 0 < total f s.me.0.marks → 0 < total f (flat_map (λ (s : Seat S View). s.me.0.marks) seats)
noted_one f [] c s at some_ = absurd (some-ne-none s (sym at))
noted_one {S = S} f (x ∷ xs) zero s at some_ = let e = noted_more f x.me.0.marks (flat_map (λ (s : Seat S View). s.me.0.marks) xs) in let h = subst (λ (y : Seat S View). 0 < total f y.me.0.marks) (sym (some-injective x s at)) some_ in omega arith
noted_one {S = S} f (x ∷ xs) (suc c) s at some_ = let e = noted_more f x.me.0.marks (flat_map (λ (s : Seat S View). s.me.0.marks) xs) in let h = noted_one f xs c s at some_ in omega arith

-- ## The order

module _ {O S : Type 0} {state : O → OutState} {p : Plan} {seats : List (Seat S View)} {places : List PlaceWord} {vrefs : List Vref} {outs : List O} (closed : ClosedBy state p seats places vrefs outs) where
  abbrev log : List Entry
  log = closed.ordered.log

  abbrev by : List ℕ
  by = closed.ordered.by

  abbrev names : List ℕ
  names = closed.ordered.names

  -- what an author sent
  abbrev own : ℕ → List Sent
  own a = map sent_of (pick a by log)

  abbrev number : ℕ → ℕ
  number a = place_in names a

  lists_same : sent_by seats ≡ map own names
  lists_same = flat_map_map (map sent_of) (λ (s : Seat S View). s.me.0.lists) seats ∙ (ap (map (map sent_of)) (sym closed.lists ∙ closed.ordered.lists_are) ∙ map_map (map sent_of) (λ a. pick a by log) names)

  list_at : (a i : ℕ) → get_elem? names i ≡ some a → get_elem? (sent_by seats) i ≡ some (own a)
  list_at a i at = ap (λ l. get_elem? l i) lists_same ∙ map_there own names i a at

  -- an author that made an entry has a number, under which its name stands
  named_at : (q a : ℕ) → get_elem? by q ≡ some a → get_elem? names (number a) ≡ some a
  named_at q a at = let n = closed.ordered.named q a at in place_there names a n.0 n.1

  own_list : (c : ℕ) (l : List Sent) (a : ℕ) → get_elem? names c ≡ some a → own a ≡ l → part_of c (map number by) (map sent_of log) ≡ l
  own_list c l a at is = picked number a c by log (closed.ordered.apart (number a) c a (place_there names a c at) at)
      (λ q b by_b same. some-injective b a (sym (named_at q b by_b) ∙ (ap (get_elem? names) same ∙ at))) ∙ is

  low_number : (q c b : ℕ) → get_elem? by q ≡ some b → number b ≡ c → c < length (sent_by seats)
  low_number q c b at is = let low = at_length names (number b) b (named_at q b at) in let n = ap length lists_same ∙ length-map names own in omega arith

  all_merged : AreMerged (sent_by seats) (map sent_of log)
  all_merged = record {
    by = map number by;
    long = length-map by number ∙ (closed.ordered.long ∙ sym (length-map log sent_of));
    inside = λ q c at. (let w = map_back number by q c at in low_number q c w.0 w.1 w.2);
    own = λ c l at. (let w = map_back own names c l (sym (ap (λ ls. get_elem? ls c) lists_same) ∙ at) in own_list c l w.0 w.1 w.2);
  }

  -- an entry in the list of its author
  record Own (q : ℕ) (e : Entry) : Type 0 where
    author : ℕ
    by_author : get_elem? by q ≡ some author
    c : ℕ
    name : get_elem? names c ≡ some author
    there : get_elem? (own author) (before author by q) ≡ some (sent_of e)

  own_entry : (q : ℕ) (e : Entry) → get_elem? log q ≡ some e → Own q e
  own_entry q e at =
      let low = at_length log q e at in
      let long = closed.ordered.long in
      let au = at_some by q (omega arith) in
      let n = closed.ordered.named q au.0 au.1 in
      record { author = au.0; by_author = au.1; c = n.0; name = n.1; there = map_there sent_of (pick au.0 by log) (before au.0 by q) e (pick_at au.0 by log q e au.1 at) }

  places_differ : IndexesDiffer (sent_by seats) → PlacesDiffer log
  places_differ differ i j a b at bt same =
      let x = own_entry i a at in
      let y = own_entry j b bt in
      let r = differ x.c y.c (before x.author by i) (before y.author by j) (own x.author) (own y.author) (sent_of a) (sent_of b) (list_at x.author x.c x.name) (list_at y.author y.c y.name) x.there y.there same in
      let one : x.author ≡ y.author = some-injective x.author y.author (sym x.name ∙ (ap (get_elem? names) r.0 ∙ y.name)) in
      one_place y.author by i j (x.by_author ∙ ap some one) y.by_author (sym (ap (λ n. before n by i) one) ∙ r.1)

  -- ## Its links

  link_failed : (k : ℕ) → LifeFailed p closed.view k → LinkFailed p seats k
  link_failed k f =
      let g = noted_by (is_linked f.version k) f.slot seats closed.view closed.marks f.given in
      let h = noted_by (is_failer f.version) f.slot seats closed.view closed.marks f.failed in
      record { slot = f.slot; version = f.version; inside = f.inside; giver = g.0; gives = g.1; given = g.2; failer = h.0; fails = h.1; failed = h.2 }

  fault_noted : (k c : ℕ) (s : Seat S View) → get_elem? seats c ≡ some s → 0 < faults_of k s.me.0 → 0 < faults_of k closed.view
  fault_noted k c s at some_ = subst (λ (ms : List SlotMark). 0 < total (faults_link k) ms) (sym closed.marks) (noted_one (faults_link k) seats c s at some_)

  -- the word of a place index
  placed_word : (l : ℕ) → l < 8 * p.operations → word_at places l ≡ Rattle.std.specs.Prelude.slice_index closed.words (place_index p l)
  placed_word l low = let w = closed.placed l low in word_there places l w.0 w.1 ∙ w.2

  -- the messages of link k
  abbrev chain : ℕ → List Entry
  chain k = on k log

  same_chain : (k : ℕ) → on_link k (map sent_of log) ≡ map sent_of (chain k)
  same_chain k = filter_map sent_of (λ (m : Sent). eqb m.link k) log

  link_placed : IndexesDiffer (sent_by seats) → (k : ℕ) → k < p.links → LinkPlaced state p seats places outs k (map sent_of (chain k))
  link_placed differ k low =
      let b = closed.outs_back k low in
      let t = b.took_is in
      let fifo = t.fifo (places_differ differ) in
      let f = fifo.took_is in
      let long = length-map (chain k) sent_of in
      record {
        out = b.out;
        there = b.there;
        kept = t.kept;
        few = (let few = fifo.count in omega arith);
        word = λ i m at inside. (let w = map_back sent_of (chain k) i m at in
            let index : index_of (sent_of w.0) ≡ index_of m = ap index_of w.2 in
            ap (word_at places) (sym index) ∙ (placed_word (index_of (sent_of w.0)) (omega arith) ∙ dite (dec_lt i t.kept)
            (λ lt. fifo.placed i w.0 w.1 lt ∙ ap (λ (d : Rattle.std.specs.Prelude.Bool). place_word d k i) (let e : false ≡ nat_le t.kept i = grind (arith, nat_tests) in e))
            (λ ge. fifo.dropped i w.0 w.1 (omega arith) ∙ ap (λ (d : Rattle.std.specs.Prelude.Bool). place_word d k i) (let e : true ≡ nat_le t.kept i = grind (arith, nat_tests) in e))));
        took = b.took;
        tells = b.tells;
        part = f.part;
        took_is = f.took_is ∙ ap (λ (l : List ℕ). l ++ f.part) (took_whole (chain k) t.kept);
        begun = next_begun (chain k) t.kept f.part f.of_next;
        left = λ some_. link_failed k (t.failed (omega arith));
        faulted = λ c s at some_. b.faulted (fault_noted k c s at some_);
      }

  stands : (l : ℕ) → PlaceOf p log closed.words l → StandsAt p (map sent_of log) l
  stands l w = record {
    link = w.link;
    position = w.position;
    message = sent_of w.entry;
    inside = w.inside;
    there = ap (λ (ms : List Sent). get_elem? ms w.position) (same_chain w.link) ∙ map_there sent_of (chain w.link) w.position w.entry w.there;
    index = w.own;
  }

  shown : (l : ℕ) → l < 8 * p.operations → (word_at places l ≡ no_place) ⊎ StandsAt p (map sent_of log) l
  shown l low = elim (closed.shown l low) [
    | inl none_ ↦ inl (placed_word l low ∙ none_)
    | inr w ↦ inr (stands l w)
  ]

pub placed_in_order : {O S : Type 0} {state : O → OutState} (seats : List (Seat S View)) → PlacesMessages state seats
placed_in_order {O} {S} {state} seats p places vrefs outs closed differ = record {
  order = map sent_of (log closed);
  merged = all_merged closed;
  each = λ k low. subst (LinkPlaced state p seats places outs k) (sym (same_chain closed k)) (link_placed closed differ k low);
  shown = shown closed;
  full = λ all. (let f = closed.ordered.full (λ q low. (let w = all q low in (w.0, ap (λ (l : List ℕ). get_elem? l w.0) closed.found ∙ w.1))) in let n = length-map (log closed) sent_of in omega arith);
}
