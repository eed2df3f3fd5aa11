-- The loops of the close.
use Rattle.std.proofs.Common.{◌≡◌, ℕ, zero, suc, ◌+◌, ◌*◌, ◌<◌, ◌≤◌, ◌⊎◌, ◌++◌, Bool, true, false, List, [], ◌∷◌, length, get_or, get_or-set_other, set, map, sym, refl, ap, ◌∙◌, subst, arith}
use mathlib.Core.Logic.{dite}
use mathlib.Core.Option.{some, some-injective, some-ne-none}
use native.Mathlib.Decide.{ℕ_discrete}
use lib.ListN.{get_elem?}
use Rattle.atomic_table.specs.Table.{Final, Seen}
use Rattle.atomic_table.specs.declared.shared.Seat.{Seat}
use Rattle.atomic_table.proofs.Lists.{set_here, set_else}
use Rattle.sock_words.specs.declared.plain.Plan.{Plan}
use Rattle.std.specs.Prelude.{slice_index}
use Rattle.std.specs.List.{flat_map}
use Rattle.std.specs.Option.{ForSome}
use Rattle.sock_io.specs.declared.link.Out.{Ghosts}
use Rattle.sock_words.specs.declared.vref.Vref.{Vref}
use Rattle.sock_words.specs.declared.place_word.PlaceWord.{PlaceWord}
use Rattle.sock_model.specs.declared.home.Home.TheVariants as home
use Rattle.sock_rule.specs.declared.homes.LinkHome.{LinkHome}
use Rattle.sock_rule.specs.declared.homes.SockHome.{SockHome}
use Rattle.sock_rule.specs.declared.homes.SockHome.TheVariants.{Link}
use Rattle.sock_rule.specs.Shows.{shows_in, rose, way_at}
use Rattle.sock_rule.proofs.LinksBack.{AtHome, links_back, place_of}
use Rattle.sock_rule.proofs.WaysByTableKey.{own_number}
use Rattle.sock_rule.proofs.HandingLinkFromHome.{number, bytes, is_done, link_of}
use Rattle.sock_model.specs.declared.view.View.{View}
use Rattle.sock_model.specs.declared.chain.Entry.{Entry}
use Rattle.sock_model.specs.SocketTableLayout.{ref_index, place_index}
use Rattle.sock_rule.specs.OnTable.{OnTable}
use Rattle.sock_rule.specs.SocketSeatSplits.{IsDone}
use Rattle.sock_rule.specs.ClosingWordsAndNotes.{IsAtRest, Closing, PlaceOf, LinkTook, IsDropTold, IsLogged}
use Rattle.sock_rule.proofs.MessagesDroppedAtEnd.{drop_told, dropped_logged}
use Rattle.sock_rule.proofs.LastSeatOfSockets.{ordered, ordered_log, closing}
use Rattle.sock_table.specs.ClosedSocketTable.{WordsAre, AreLinks, OutsOf, OutBack, ways_of, ClosedBy}
use Rattle.sock_table.proofs.JoiningSocketSeats.{marks_in, finds_in, histories_in, drops_in, stores_in, lists_in, found_in}

set_false : (l : List Bool) (k : ℕ) → get_or (set l k false) k false ≡ false
set_false [] k = refl
set_false (x ∷ xs) zero = refl
set_false (x ∷ xs) (suc k) = set_false xs k

pub still_full : (old new : List Bool) (k m m' : ℕ) → new ≡ set old k false → m' ≡ m → ((j : ℕ) → k ≤ j → j < m → get_or old j false ≡ true) → (j : ℕ) → k + 1 ≤ j → j < m' → get_or new j false ≡ true
still_full old new k m m' e f h j le lt = ap (λ l. get_or l j false) e ∙ (get_or-set_other old k j false false (λ q. omega arith) ∙ h j (omega arith) (omega arith))

pub now_empty : (old new : List Bool) (k : ℕ) → new ≡ set old k false → ((j : ℕ) → j < k → get_or old j false ≡ false) → (j : ℕ) → j < k + 1 → get_or new j false ≡ false
now_empty old new k e h j lt = dite (ℕ_discrete j k)
    (λ q. ap (λ l. get_or l j false) e ∙ (ap (λ y. get_or (set old k false) y false) q ∙ set_false old k))
    (λ n. ap (λ l. get_or l j false) e ∙ (get_or-set_other old k j false false n ∙ h j (omega arith)))

index_of : (l : List ℕ) (i x : ℕ) → get_elem? l i ≡ some x → get_or l i 0 ≡ x
index_of [] i x e = absurd (some-ne-none x (sym e))
index_of (y ∷ ys) zero x e = some-injective y x e
index_of (y ∷ ys) (suc i) x e = index_of ys i x e

-- one word more was read
pub one_more : {A : Type 0} (word : A → ℕ) (at : ℕ → ℕ) (xs : List A) (ws : List ℕ) (i n found : ℕ) (x : A) → length xs ≡ n → i < n → get_elem? ws (at i) ≡ some found → word x ≡ found → WordsAre word at i xs ws → WordsAre word at (i + 1) (set xs i x) ws
one_more word at xs ws i n found x long lt e same h j jl = dite (ℕ_discrete j i)
    (λ q. (x, ap (get_elem? (set xs i x)) q ∙ set_here xs i x (omega arith), same ∙ (sym (index_of ws (at i) found e) ∙ ap (λ y. get_or ws (at y) 0) (sym q))))
    (λ ne. let a = h j (omega arith) in (a.0, set_else xs i j x ne ∙ a.1, a.2))

-- one half more came back
at_last : {A : Type 0} (xs : List A) (x : A) (n : ℕ) → length xs ≡ n → get_elem? (xs ++ x ∷ []) n ≡ some x
at_last [] x zero e = refl
at_last [] x (suc n) e = absurd (omega arith)
at_last (y ∷ ys) x zero e = absurd (omega arith)
at_last (y ∷ ys) x (suc n) e = at_last ys x n (omega arith)

before_last : {A : Type 0} (xs : List A) (x a : A) (i : ℕ) → get_elem? xs i ≡ some a → get_elem? (xs ++ x ∷ []) i ≡ some a
before_last [] x a i e = absurd (some-ne-none a (sym e))
before_last (y ∷ ys) x a zero e = e
before_last (y ∷ ys) x a (suc i) e = before_last ys x a i e

module _ {O : Type 0} {g : Ghosts O} (requests : ℕ) (homes : List (SockHome O g)) where
  pub one_out : (k : ℕ) (outs : List O) (h : LinkHome O g) → length outs ≡ k → get_elem? homes (requests + k) ≡ some (Link h) → OutsOf requests k outs homes → OutsOf requests (k + 1) (outs ++ h.out ∷ []) homes
  one_out k outs h long e all j jl = dite (ℕ_discrete j k)
      (λ q. (h, at_last outs h.out j (long ∙ sym q), ap (λ (y : ℕ). get_elem? homes (requests + y)) q ∙ e))
      (λ ne. let a = all j (omega arith) in (a.0, before_last outs h.out a.0.out j a.1, a.2))

  pub is_link : (links k : ℕ) (x : SockHome O g) → AreLinks requests links homes → k < links → get_elem? homes (requests + k) ≡ some x → ((h : LinkHome O g) → x ≡ Link h → ⊥) → ⊥
  is_link links k x all lt e none_ = let a = all k lt in none_ a.0 (some-injective x (Link a.0) (sym e ∙ a.1))

-- lists that have the same at each index
ways_alike : {O : Type 0} (way : O → List ℕ) (outs : List O) (ways : List (List ℕ)) → length outs ≡ length ways → ((k : ℕ) → k < length ways → (o : O) × (get_elem? outs k ≡ some o) × (way o ≡ way_at ways k)) → map way outs ≡ ways
ways_alike way [] [] long each = refl
ways_alike way [] (w ∷ ws) long each = absurd (omega arith)
ways_alike way (o ∷ os) [] long each = absurd (omega arith)
ways_alike way (o ∷ os) (w ∷ ws) long each = let first = each 0 (omega arith) in let same : way o ≡ w = ap way (some-injective o first.0 first.1) ∙ first.2 in
    let rest = ways_alike way os ws (omega arith) (λ k kl. each (suc k) (omega arith)) in (λ i. same i ∷ rest i)

-- the table at the end, and the seat that took in all others
module _ {O : Type 0} {g : Ghosts O} (ways : List (List ℕ)) (q p : Plan) (id : ℕ) (v : View) (ws : List ℕ) (xs : List (SockHome O g)) (key : q ≡ p) (f : Final (Seen (OnTable (shows_in {O = O} {g = g} q ways) (rose {O = O} {g = g}) q) id v) ws xs) (all : v.share ≡ p.seats) (done : IsDone p v) where
  abbrev pub rule_at : OnTable (shows_in {O = O} {g = g} p ways) (rose {O = O} {g = g}) p f.0
  rule_at = subst (λ (r : Plan). OnTable (shows_in {O = O} {g = g} r ways) (rose {O = O} {g = g}) r f.0) key f.1.0

  back : (k : ℕ) → k < p.links → AtHome (shows_in {O = O} {g = g} p ways) (rose {O = O} {g = g}) p f.0 v rule_at.rule.lawful.log k
  back k kl = links_back f.0 rule_at id v f.1.1 all done.bare k kl

  pub are_links : AreLinks p.requests p.links xs
  are_links k kl = let b = back k kl in let x = link_of p ways k b.took b.next b.done b.value b.shown_is in (x.0, f.4 (p.requests + k) b.value b.there ∙ ap some x.1)

  pub out_back : (log : List Entry) → log ≡ rule_at.rule.lawful.log → (outs : List O) → OutsOf p.requests p.links outs xs → (k : ℕ) → k < p.links → OutBack g.state p v log ws outs k
  out_back log same outs of k kl = let b = back k kl in let a = of k kl in let e : b.value ≡ Link a.0 = some-injective b.value (Link a.0) (sym (f.4 (p.requests + k) b.value b.there) ∙ a.2) in
      let s : shows_in p ways (Link a.0) ≡ home.Link k b.took b.next b.done = ap (shows_in p ways) (sym e) ∙ b.shown_is in record {
        out = a.0.out;
        there = a.1;
        own = (own_number p ways (g.state a.0.out) k (ap number s) kl).0;
        took = b.took;
        faulted = λ some_. subst (λ (y : SockHome O g). 0 < rose y) e (b.faulted some_);
        tells = subst (λ (l : List ℕ). ForSome (g.state a.0.out).took (λ y. y ≡ l)) (ap bytes s) a.0.tells;
        finished = λ some_. ap is_done s ∙ b.finished some_;
        unfinished = λ i h il given unended. ap is_done s ∙ b.unfinished i h il given unended;
        took_is = subst (λ (l : List Entry). LinkTook p v l ws k b.took) (sym same) (subst (λ (y : List ℕ). LinkTook p v rule_at.rule.lawful.log y k b.took) f.2 b.took_is);
      }

  -- its bytes go the way of its link still
  way_back : (outs : List O) → OutsOf p.requests p.links outs xs → (k : ℕ) → k < p.links → (o : O) × (get_elem? outs k ≡ some o) × ((g.state o).way ≡ way_at ways k)
  way_back outs of k kl = let b = back k kl in let a = of k kl in let e : b.value ≡ Link a.0 = some-injective b.value (Link a.0) (sym (f.4 (p.requests + k) b.value b.there) ∙ a.2) in
      (a.0.out, a.1, (own_number p ways (g.state a.0.out) k (ap number (ap (shows_in p ways) (sym e) ∙ b.shown_is)) kl).1)

  pub ways_back : (outs : List O) → OutsOf p.requests p.links outs xs → length outs ≡ p.links → length ways ≡ p.links → ways_of g.state outs ≡ ways
  ways_back outs of count each = ways_alike (λ (o : O). (g.state o).way) outs ways (count ∙ sym each) (λ k kl. way_back outs of k (omega arith))

  abbrev IsShown : ℕ → List Entry → List ℕ → Type 0
  IsShown l log words = (slice_index words (place_index p l) ≡ 0) ⊎ PlaceOf p log words l

  pub closes : (seats : List (Seat (SockHome O g) View)) (places : List PlaceWord) (vs : List Vref) (outs : List O) → IsAtRest p v
      → v.marks ≡ flat_map marks_in seats → v.finds ≡ flat_map finds_in seats → v.histories ≡ flat_map histories_in seats → v.drops ≡ flat_map drops_in seats → v.stores ≡ flat_map stores_in seats → v.lists ≡ flat_map lists_in seats → v.found ≡ flat_map found_in seats
      → WordsAre (λ (x : Vref). x.0) ref_index p.slots vs ws → WordsAre (λ (x : PlaceWord). x.0) (place_index p) (8 * p.operations) places ws → OutsOf p.requests p.links outs xs
      → length vs ≡ p.slots → length places ≡ 8 * p.operations → length outs ≡ p.links → ClosedBy g.state p seats places vs outs
  closes seats places vs outs rest m n h x k l d read placed of slots indices links = record {
    view = v;
    words = ws;
    marks = m;
    finds = n;
    histories = h;
    drops = x;
    stores = k;
    lists = l;
    found = d;
    ordered = ordered f.0 rule_at id v f.1.1 all done.bare.claims;
    closing = subst (λ (y : List ℕ). Closing p v y) f.2 (closing f.0 rule_at id v f.1.1 all rest done.unheld);
    each = read;
    placed = placed;
    sized = (slots, indices);
    count = links;
    shown = λ l ll. subst (λ (y : List Entry). IsShown l y ws) (sym (ordered_log f.0 rule_at id v f.1.1 all done.bare.claims)) (subst (λ (y : List ℕ). IsShown l rule_at.rule.lawful.log y) f.2 (place_of f.0 rule_at id v f.1.1 all done.bare l ll));
    dropped = λ l ll. subst (λ (y : List Entry). IsDropTold p y v ws l) (sym (ordered_log f.0 rule_at id v f.1.1 all done.bare.claims)) (subst (λ (y : List ℕ). IsDropTold p rule_at.rule.lawful.log v y l) f.2 (drop_told f.0 rule_at id v f.1.1 all l ll));
    drops_logged = λ i y e. subst (λ (log : List Entry). IsLogged log y) (sym (ordered_log f.0 rule_at id v f.1.1 all done.bare.claims)) (dropped_logged f.0 rule_at id v f.1.1 all i y e);
    outs_back = out_back (ordered f.0 rule_at id v f.1.1 all done.bare.claims).log (ordered_log f.0 rule_at id v f.1.1 all done.bare.claims) outs of;
  }
