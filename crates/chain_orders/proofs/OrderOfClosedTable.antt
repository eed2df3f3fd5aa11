-- The order of all messages, as a closed table tells it.
use Rattle.std.proofs.Common.{◌≡◌, ◌≢◌, ◌⊎◌, ℕ, zero, suc, ◌+◌, ◌<◌, inl, inr, List, [], ◌∷◌, ◌++◌, length, append_assoc, append-nil, map, flat_map, refl, sym, ap, ◌∙◌, subst, arith}
use Rattle.std.proofs.lemmas.List.{length-map}
use mathlib.Core.Option.{some, some-injective, some-ne-none}
use lib.ListN.{get_elem?}
use Rattle.atomic_table.specs.declared.shared.Seat.{Seat}
use Rattle.sock_io.specs.LinkHalves.{OutState}
use Rattle.sock_words.specs.declared.plain.Plan.{Plan}
use Rattle.sock_words.specs.declared.place_word.PlaceWord.{PlaceWord}
use Rattle.sock_words.specs.declared.vref.Vref.{Vref}
use Rattle.sock_model.specs.declared.chain.Entry.{Entry}
use Rattle.sock_model.specs.declared.view.View.{View}
use Rattle.sock_model.specs.Authors.{pick}
use Rattle.sock_model.specs.Deliveries.{whole, Taken}
use Rattle.sock_model.specs.Entries.{on}
use Rattle.sock_model.specs.MarkWeights.{is_failer, is_linked}
use Rattle.sock_rule.specs.ClosingWordsAndNotes.{PlacesDiffer, LifeFailed}
use Rattle.sock_table.specs.ClosedSocketTable.{ClosedBy}
use Rattle.chain_orders.specs.SentMessages.{Sent, sent_of, lists_of, sent_by, on_link, bytes_of}
use Rattle.chain_orders.specs.ListsInOneOrder.{AreMerged}
use Rattle.chain_orders.specs.MessagesInOneOrder.{IndexesDiffer, IsBegun, TookInOrder, LinkFailed, NoneFailed, LinkInOrder, InOneOrder, OrdersMessages}
use Rattle.chain_orders.proofs.MergedLists.{map_there, map_back, map_map, flat_map_map, filter_map, merged_kept, place_in, place_there}
use Rattle.chain_orders.proofs.OwnPlaces.{at_length, at_some, before, pick_at, one_place, picked}
use Rattle.chain_orders.proofs.NotesOfSeats.{noted_by}

-- ## What a link took

-- what the next message begins with
abbrev OfNext : List Entry → ℕ → List ℕ → Type 0
OfNext c n part = (part ≡ []) ⊎ ((e : Entry) × (rest : List ℕ) × (get_elem? c n ≡ some e) × (e.bytes ≡ part ++ rest) × (rest ≢ []))

-- of these entries, with how many there are where some are left
abbrev TookSo : List Entry → ℕ → List Sent → List ℕ → Type 0
TookSo c n ms took = (t : TookInOrder ms took) × (t.rest ≢ [] → n < length c)

took_so : (c : List Entry) (n : ℕ) (part : List ℕ) → OfNext c n part → TookSo c n (map sent_of c) (whole c n ++ part)
took_so [] n part next = (record { whole = []; rest = []; messages_are = refl; part = part; took_is = refl; begun = elim next [ inl none_ ↦ none_ | inr w ↦ absurd (some-ne-none w.0 (sym w.2)) ] }, λ some_. absurd (some_ refl))
took_so (e ∷ es) zero part next = (record { whole = []; rest = map sent_of (e ∷ es); messages_are = refl; part = part; took_is = refl; begun = elim next [ inl none_ ↦ inl none_ | inr w ↦ inr (w.1, ap (λ (x : Entry). x.bytes) (some-injective e w.0 w.2) ∙ w.3, w.4) ] }, λ some_. omega arith)
took_so (e ∷ es) (suc n) part next = let r = took_so es n part next in let t = r.0 in (
  record {
    whole = sent_of e ∷ t.whole;
    rest = t.rest;
    messages_are = ap (λ l. sent_of e ∷ l) t.messages_are;
    part = t.part;
    took_is = append_assoc e.bytes (whole es n) part ∙ (ap (λ l. e.bytes ++ l) t.took_is ∙ sym (append_assoc e.bytes (bytes_of t.whole) t.part));
    begun = t.begun;
  },
  λ some_. (let low = r.1 some_ in omega arith),
)

-- where nothing is left it took all
all_taken : (ms : List Sent) (took : List ℕ) (t : TookInOrder ms took) → ¬ (t.rest ≢ []) → took ≡ bytes_of ms
all_taken ms took t none_ = by_rest t.rest t.messages_are t.begun none_
  where
    by_rest : (rest : List Sent) → ms ≡ t.whole ++ rest → IsBegun t.part rest → ¬ (rest ≢ []) → took ≡ bytes_of ms
    by_rest [] are begun none_ = t.took_is ∙ (ap (λ l. bytes_of t.whole ++ l) begun ∙ (append-nil (bytes_of t.whole) ∙ ap bytes_of (sym (are ∙ append-nil t.whole))))
    by_rest (m ∷ ms) are begun none_ = absurd (none_ (λ e. cc))

-- ## The order

module _ {O S : Type 0} {state : O → OutState} {p : Plan} {seats : List (Seat S View)} {places : List PlaceWord} {vrefs : List Vref} {outs : List O} (closed : ClosedBy state p seats places vrefs outs) where
  abbrev log : List Entry
  log = closed.ordered.log

  abbrev by : List ℕ
  by = closed.ordered.by

  abbrev names : List ℕ
  names = closed.ordered.names

  -- what an author sent
  abbrev own : ℕ → List Sent
  own a = map sent_of (pick a by log)

  abbrev number : ℕ → ℕ
  number a = place_in names a

  lists_same : sent_by seats ≡ map own names
  lists_same = flat_map_map (map sent_of) (λ (s : Seat S View). s.me.0.lists) seats ∙ (ap (map (map sent_of)) (sym closed.lists ∙ closed.ordered.lists_are) ∙ map_map (map sent_of) (λ a. pick a by log) names)

  list_at : (a i : ℕ) → get_elem? names i ≡ some a → get_elem? (sent_by seats) i ≡ some (own a)
  list_at a i at = ap (λ l. get_elem? l i) lists_same ∙ map_there own names i a at

  -- an author that made an entry has a number, under which its name stands
  named_at : (q a : ℕ) → get_elem? by q ≡ some a → get_elem? names (number a) ≡ some a
  named_at q a at = let n = closed.ordered.named q a at in place_there names a n.0 n.1

  own_list : (c : ℕ) (l : List Sent) (a : ℕ) → get_elem? names c ≡ some a → own a ≡ l → Rattle.chain_orders.specs.ListsInOneOrder.part_of c (map number by) (map sent_of log) ≡ l
  own_list c l a at is = picked number a c by log (closed.ordered.apart (number a) c a (place_there names a c at) at)
      (λ q b by_b same. some-injective b a (sym (named_at q b by_b) ∙ (ap (get_elem? names) same ∙ at))) ∙ is

  low_number : (q c b : ℕ) → get_elem? by q ≡ some b → number b ≡ c → c < length (sent_by seats)
  low_number q c b at is = let low = at_length names (number b) b (named_at q b at) in let n = ap length lists_same ∙ length-map names own in omega arith

  all_merged : AreMerged (sent_by seats) (map sent_of log)
  all_merged = record {
    by = map number by;
    long = length-map by number ∙ (closed.ordered.long ∙ sym (length-map log sent_of));
    inside = λ q c at. (let w = map_back number by q c at in low_number q c w.0 w.1 w.2);
    own = λ c l at. (let w = map_back own names c l (sym (ap (λ ls. get_elem? ls c) lists_same) ∙ at) in own_list c l w.0 w.1 w.2);
  }

  -- an entry in the list of its author
  pub record Own (q : ℕ) (e : Entry) : Type 0 where
    pub author : ℕ
    pub by_author : get_elem? by q ≡ some author
    pub c : ℕ
    pub name : get_elem? names c ≡ some author
    pub there : get_elem? (own author) (before author by q) ≡ some (sent_of e)

  own_entry : (q : ℕ) (e : Entry) → get_elem? log q ≡ some e → Own q e
  own_entry q e at =
      let low = at_length log q e at in
      let long = closed.ordered.long in
      let au = at_some by q (omega arith) in
      let n = closed.ordered.named q au.0 au.1 in
      record { author = au.0; by_author = au.1; c = n.0; name = n.1; there = map_there sent_of (pick au.0 by log) (before au.0 by q) e (pick_at au.0 by log q e au.1 at) }

  places_differ : IndexesDiffer (sent_by seats) → PlacesDiffer log
  places_differ differ i j a b at bt same =
      let x = own_entry i a at in
      let y = own_entry j b bt in
      let r = differ x.c y.c (before x.author by i) (before y.author by j) (own x.author) (own y.author) (sent_of a) (sent_of b) (list_at x.author x.c x.name) (list_at y.author y.c y.name) x.there y.there same in
      let one : x.author ≡ y.author = some-injective x.author y.author (sym x.name ∙ (ap (get_elem? names) r.0 ∙ y.name)) in
      one_place y.author by i j (x.by_author ∙ ap some one) y.by_author (sym (ap (λ n. before n by i) one) ∙ r.1)

  -- ## Its links

  link_failed : (k : ℕ) → LifeFailed p closed.view k → LinkFailed p seats k
  link_failed k f =
      let g = noted_by (is_linked f.version k) f.slot seats closed.view closed.marks f.given in
      let h = noted_by (is_failer f.version) f.slot seats closed.view closed.marks f.failed in
      record { slot = f.slot; version = f.version; inside = f.inside; giver = g.0; gives = g.1; given = g.2; failer = h.0; fails = h.1; failed = h.2 }

  none_failed : (k : ℕ) → NoneFailed p seats → LinkFailed p seats k → ⊥
  none_failed k none_ f = let e = none_ f.fails.0 f.failer f.fails.1 f.slot f.version f.inside in let some_ = f.failed in omega arith

  link_in_order : IndexesDiffer (sent_by seats) → (k : ℕ) → k < p.links → LinkInOrder state p seats outs k (on_link k (map sent_of log))
  link_in_order differ k low =
      let b = closed.outs_back k low in
      let t = b.took_is in
      let f = (t.fifo (places_differ differ)).took_is in
      let same : on_link k (map sent_of log) ≡ map sent_of (on k log) = filter_map sent_of (λ (m : Sent). Rattle.std.proofs.Common.eqb m.link k) log in
      let w = subst (λ ms. TookSo (on k log) t.kept ms b.took) (sym same) (subst (TookSo (on k log) t.kept (map sent_of (on k log))) (sym f.took_is) (took_so (on k log) t.kept f.part f.of_next)) in
      record {
        out = b.out;
        there = b.there;
        own_link = b.own;
        merged = merged_kept (λ (m : Sent). Rattle.std.proofs.Common.eqb m.link k) (sent_by seats) (map sent_of log) all_merged;
        took = b.took;
        tells = b.tells;
        took_in = w.0;
        left = λ some_. link_failed k (t.failed (w.1 some_));
        all = λ none_. all_taken (on_link k (map sent_of log)) b.took w.0 (λ some_. none_failed k none_ (link_failed k (t.failed (w.1 some_))));
      }

pub in_one_order : {O S : Type 0} {state : O → OutState} (seats : List (Seat S View)) → OrdersMessages state seats
in_one_order seats p places vrefs outs closed differ = record { order = map sent_of (log closed); merged = all_merged closed; each = link_in_order closed differ }
