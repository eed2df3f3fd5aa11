-- Whose messages the links accepted: each entry of the log stands in the list of the seat that sent it, and those of one seat in the order of its list.
use Rattle.std.proofs.Common.{◌≡◌, ◌≢◌, ℕ, zero, suc, ◌<◌, Bool, true, false, cond, eqb, eq-eqb, ne_eqb, List, [], ◌∷◌, map, refl, sym, ap, ◌∙◌, subst, arith}
use Rattle.std.specs.List.{AllByRecursion, filter}
use mathlib.Core.Logic.{dite}
use mathlib.Core.Option.{some, some-injective, some-ne-none}
use native.Mathlib.Decide.{ℕ_discrete, dec_le}
use lib.ListN.{get_elem?}
use Rattle.brpc_model.specs.Order.{EachBefore}
use Rattle.sock_words.specs.declared.plain.Plan.{Plan}
use Rattle.sock_model.specs.declared.chain.Entry.{Entry}
use Rattle.sock_model.specs.declared.view.View.{View}
use Rattle.sock_model.specs.Entries.{on}
use Rattle.sock_model.specs.Authors.{pick}
use Rattle.sock_model.specs.LawfulSockets.{Lawful}
use Rattle.program_walks.specs.chain_steps.proofs.TicketLists.{at_length, at_some, filter_at, filter_in}
use Rattle.program_walks.specs.chain_steps.proofs.UntouchedByChainSteps.{in_log}
use Rattle.seat_programs.specs.Cores.{Core}
use Rattle.seat_programs.specs.ExplainedCalls.{Accepted, StandsAt}
use Rattle.program_walks.specs.program_steps.specs.SoundSeats.{state}
use Rattle.outcome_stories.proofs.Delivered.{accepted_of, accepted_there, orders_of}

-- ## Where an author's entries stand

-- how many entries the author has before this place
abbrev rank : ℕ → List ℕ → ℕ → ℕ
rank a [] q = 0
rank a (b ∷ bs) zero = 0
rank a (b ∷ bs) (suc q) = cond (eqb b a) (suc (rank a bs q)) (rank a bs q)

rank_here : (a b : ℕ) (bs : List ℕ) (q : ℕ) → b ≡ a → rank a (b ∷ bs) (suc q) ≡ suc (rank a bs q)
rank_here a b bs q e = ap (λ t. cond t (suc (rank a bs q)) (rank a bs q)) (eq-eqb b a e)

rank_else : (a b : ℕ) (bs : List ℕ) (q : ℕ) → b ≢ a → rank a (b ∷ bs) (suc q) ≡ rank a bs q
rank_else a b bs q n = ap (λ t. cond t (suc (rank a bs q)) (rank a bs q)) (ne_eqb b a n)

pick_here : (a b : ℕ) (bs : List ℕ) (x : Entry) (xs : List Entry) → b ≡ a → pick a (b ∷ bs) (x ∷ xs) ≡ x ∷ pick a bs xs
pick_here a b bs x xs e = ap (λ t. cond t (x ∷ pick a bs xs) (pick a bs xs)) (eq-eqb b a e)

pick_else : (a b : ℕ) (bs : List ℕ) (x : Entry) (xs : List Entry) → b ≢ a → pick a (b ∷ bs) (x ∷ xs) ≡ pick a bs xs
pick_else a b bs x xs n = ap (λ t. cond t (x ∷ pick a bs xs) (pick a bs xs)) (ne_eqb b a n)

pick_at : (a : ℕ) (by : List ℕ) (log : List Entry) (q : ℕ) (e : Entry) → get_elem? by q ≡ some a → get_elem? log q ≡ some e → get_elem? (pick a by log) (rank a by q) ≡ some e
pick_at a [] log q e g h = absurd (some-ne-none a (sym g))
pick_at a (b ∷ bs) [] q e g h = absurd (some-ne-none e (sym h))
pick_at a (b ∷ bs) (x ∷ xs) zero e g h = ap (λ l. get_elem? l 0) (pick_here a b bs x xs (some-injective b a g)) ∙ h
pick_at a (b ∷ bs) (x ∷ xs) (suc q) e g h = dite (ℕ_discrete b a)
    (λ y. (λ w. get_elem? (pick_here a b bs x xs y w) (rank_here a b bs q y w)) ∙ pick_at a bs xs q e g h)
    (λ n. (λ w. get_elem? (pick_else a b bs x xs n w) (rank_else a b bs q n w)) ∙ pick_at a bs xs q e g h)

pick_from : (a : ℕ) (by : List ℕ) (log : List Entry) (n : ℕ) (e : Entry) → get_elem? (pick a by log) n ≡ some e → (q : ℕ) × (get_elem? log q ≡ some e)
pick_from a [] log n e g = absurd (some-ne-none e (sym g))
pick_from a (b ∷ bs) [] n e g = absurd (some-ne-none e (sym g))
pick_from a (b ∷ bs) (x ∷ xs) n e g = dite (ℕ_discrete b a)
    (λ y. first (λ m h. pick_from a bs xs m e h) n (sym (ap (λ l. get_elem? l n) (pick_here a b bs x xs y)) ∙ g))
    (λ far. let t = pick_from a bs xs n e (sym (ap (λ l. get_elem? l n) (pick_else a b bs x xs far)) ∙ g) in (suc t.0, t.1))
  where
    first : ((m : ℕ) → get_elem? (pick a bs xs) m ≡ some e → (q : ℕ) × (get_elem? xs q ≡ some e)) → (n : ℕ) → get_elem? (x ∷ pick a bs xs) n ≡ some e → (q : ℕ) × (get_elem? (x ∷ xs) q ≡ some e)
    first ih zero g = (0, g)
    first ih (suc n) g = let t = ih n g in (suc t.0, t.1)

rank_less : (a : ℕ) (by : List ℕ) (q r : ℕ) → get_elem? by q ≡ some a → q < r → rank a by q < rank a by r
rank_less a [] q r g l = absurd (some-ne-none a (sym g))
rank_less a (b ∷ bs) q zero g l = absurd (omega arith)
rank_less a (b ∷ bs) zero (suc r) g l = omega (arith, rank_here a b bs r (some-injective b a g))
rank_less a (b ∷ bs) (suc q) (suc r) g l = dite (ℕ_discrete b a)
    (λ y. omega (arith, rank_here a b bs q y, rank_here a b bs r y, rank_less a bs q r g (omega arith)))
    (λ n. omega (arith, rank_else a b bs q n, rank_else a b bs r n, rank_less a bs q r g (omega arith)))

-- of two elements that a filter keeps, the first stood before the other
module _ {A : Type 0} (p : A → Bool) where
  abbrev Before : List A → A → A → Type 0
  Before l a b = (q r : ℕ) × (get_elem? l q ≡ some a) × (get_elem? l r ≡ some b) × (q < r)

  filter_before : (l : List A) (i j : ℕ) (a b : A) → get_elem? (filter p l) i ≡ some a → get_elem? (filter p l) j ≡ some b → i < j → Before l a b
  filter_before [] i j a b g h l = absurd (some-ne-none a (sym g))
  filter_before (x ∷ xs) i j a b g h l = by_test (λ m n g h l. filter_before xs m n a b g h l) (p x) i j g h l
    where
      further : Before xs a b → Before (x ∷ xs) a b
      further t = (suc t.0, suc t.1, t.2, t.3, omega (arith, t.4))

      by_test : ((m n : ℕ) → get_elem? (filter p xs) m ≡ some a → get_elem? (filter p xs) n ≡ some b → m < n → Before xs a b)
          → (y : Bool) (i j : ℕ) → get_elem? (cond y (x ∷ filter p xs) (filter p xs)) i ≡ some a → get_elem? (cond y (x ∷ filter p xs) (filter p xs)) j ≡ some b → i < j → Before (x ∷ xs) a b
      by_test ih false i j g h l = further (ih i j g h l)
      by_test ih true i zero g h l = absurd (omega arith)
      by_test ih true zero (suc j) g h l = let t = filter_at p xs j b h in (0, suc t.0, g, t.1, omega arith)
      by_test ih true (suc i) (suc j) g h l = further (ih i j g h (omega arith))

-- ## Which seat has an entry

all_at : (P : Accepted → Type 0) (es : List Entry) → ((i : ℕ) (e : Entry) → get_elem? es i ≡ some e → P (accepted_of e)) → AllByRecursion P (map accepted_of es)
all_at P [] h = tt
all_at P (e ∷ es) h = (h 0 e refl, all_at P es (λ i x g. h (suc i) x g))

before_at : (R : Accepted → Accepted → Type 0) (es : List Entry)
    → ((i j : ℕ) (d e : Entry) → get_elem? es i ≡ some d → get_elem? es j ≡ some e → i < j → R (accepted_of d) (accepted_of e)) → EachBefore R (map accepted_of es)
before_at R [] h = tt
before_at R (e ∷ es) h = (all_at (R (accepted_of e)) es (λ j x g. h 0 (suc j) e x refl g (omega arith)), before_at R es (λ i j x y g k l. h (suc i) (suc j) x y g k (omega arith)))

one_name : {B : Type 0} (f : ℕ → B) (names : List ℕ) (made : B) → map f names ≡ made ∷ [] → (a : ℕ) × (names ≡ a ∷ []) × (f a ≡ made)
one_name f [] made e = absurd (cc)
one_name f (a ∷ []) made e = (a, refl, cc)
one_name f (a ∷ b ∷ names) made e = absurd (cc)

module _ (views : List View) where
  -- entry e stands at place n of the one list that seat i keeps
  pub record HasSent (i n : ℕ) (e : Entry) : Type 0 where
    pub view : View
    pub here : get_elem? views i ≡ some view
    pub made : List Entry
    pub lists : view.lists ≡ made ∷ []
    pub stands : get_elem? made n ≡ some e

  -- and so in this list, where the seat keeps it
  pub sent_in : (i n : ℕ) (e : Entry) (v : View) (made : List Entry) → HasSent i n e → get_elem? views i ≡ some v → v.lists ≡ made ∷ [] → get_elem? made n ≡ some e
  sent_in i n e v made h at lists = subst (λ l. get_elem? l n ≡ some e) (same_made (sym h.lists ∙ (ap (λ (u : View). u.lists) (some-injective h.view v (sym h.here ∙ at)) ∙ lists))) h.stands
    where
      same_made : h.made ∷ [] ≡ made ∷ [] → h.made ≡ made
      same_made q = cc

  -- each seat keeps one list
  abbrev pub EachMade : Type 0
  EachMade = (i : ℕ) (v : View) → get_elem? views i ≡ some v → (made : List Entry) × (v.lists ≡ made ∷ [])

module _ (p : Plan) (c : Core) (views : List View) (o : Lawful (λ home. home) p (state c views)) where
  -- where the entry at place q of the log stands
  record Listed (q : ℕ) (e : Entry) : Type 0 where
    seat : ℕ
    place : ℕ
    has : HasSent views seat place e
    author : ℕ
    by_it : get_elem? o.authors.by q ≡ some author
    named : o.authors.names seat ≡ author ∷ []
    place_is : place ≡ rank author o.authors.by q

  author_of : (i : ℕ) (v : View) (made : List Entry) → get_elem? views i ≡ some v → v.lists ≡ made ∷ [] → (a : ℕ) × (o.authors.names i ≡ a ∷ []) × (pick a o.authors.by o.log ≡ made)
  author_of i v made here lists = one_name (λ a. pick a o.authors.by o.log) (o.authors.names i) made (sym (o.authors.lists_are i v here) ∙ lists)

  only_name : (names : List ℕ) (i a b : ℕ) → names ≡ a ∷ [] → get_elem? names i ≡ some b → a ≡ b
  only_name names zero a b e g = some-injective a b (sym (ap (λ l. get_elem? l 0) e) ∙ g)
  only_name names (suc i) a b e g = absurd (some-ne-none b (sym g ∙ ap (λ l. get_elem? l (suc i)) e))

  listed_by : (q : ℕ) (e : Entry) (a : ℕ) → get_elem? o.log q ≡ some e → get_elem? o.authors.by q ≡ some a
      → (i n : ℕ) (v : View) (made : List Entry) → get_elem? (o.authors.names i) n ≡ some a → get_elem? views i ≡ some v → v.lists ≡ made ∷ [] → Listed q e
  listed_by q e a g by_it i n v made named here lists = let t = author_of i v made here lists in of_author t.0 t.1 t.2 (only_name (o.authors.names i) n t.0 a t.1 named)
    where
      of_author : (b : ℕ) → o.authors.names i ≡ b ∷ [] → pick b o.authors.by o.log ≡ made → b ≡ a → Listed q e
      of_author b only is same = let there = subst (λ x. pick x o.authors.by o.log ≡ made) same is in record {
        seat = i;
        place = rank a o.authors.by q;
        has = record { view = v; here = here; made = made; lists = lists; stands = subst (λ l. get_elem? l (rank a o.authors.by q) ≡ some e) there (pick_at a o.authors.by o.log q e by_it g) };
        author = a;
        by_it = by_it;
        named = subst (λ x. o.authors.names i ≡ x ∷ []) same only;
        place_is = refl;
      }

  module _ (each : EachMade views) where
    listed : (q : ℕ) (e : Entry) → get_elem? o.log q ≡ some e → Listed q e
    listed q e g =
        let b = at_some o.authors.by q (omega (arith, o.authors.long, at_length o.log q e g)) in let n = o.authors.named q b.0 b.1 in let v = at_some views n.0 n.2 in
        let m = each n.0 v.0 v.1 in listed_by q e b.0 g b.1 n.0 n.1 v.0 m.0 n.3 v.1 m.1

    -- an earlier entry of the same seat stands before a later one
    listed_before : (q r : ℕ) (d e : Entry) (x : Listed q d) (y : Listed r e) → q < r → x.seat ≡ y.seat → x.place < y.place
    listed_before q r d e x y l same =
        let a : x.author ≡ y.author = first_same (sym x.named ∙ (ap o.authors.names same ∙ y.named)) in
        let t : rank x.author o.authors.by q < rank y.author o.authors.by r = subst (λ z. rank x.author o.authors.by q < rank z o.authors.by r) a (rank_less x.author o.authors.by q r x.by_it l) in
        omega (arith, t, x.place_is, y.place_is)
      where
        first_same : x.author ∷ [] ≡ y.author ∷ [] → x.author ≡ y.author
        first_same h = cc

    -- what holds of each entry of a list holds of each of the log
    pub each_of : (P : Entry → Type 0) → ((i n : ℕ) (e : Entry) → HasSent views i n e → P e) → (q : ℕ) (e : Entry) → get_elem? o.log q ≡ some e → P e
    each_of P h q e g = let x = listed q e g in h x.seat x.place e x.has

    -- where two entries of lists that stand so to one another are one, those of the log are
    pub apart_by : (S : Entry → Entry → Type 0) → ((i j m n : ℕ) (d e : Entry) → HasSent views i m d → HasSent views j n e → S d e → (i ≡ j) × (m ≡ n)) → (q r : ℕ) (d e : Entry) → get_elem? o.log q ≡ some d → get_elem? o.log r ≡ some e → S d e → q ≡ r
    apart_by S h q r d e gd ge same = let x = listed q d gd in let y = listed r e ge in let t = h x.seat y.seat x.place y.place d e x.has y.has same in
        dite (ℕ_discrete q r) (λ z. z) (λ ne. absurd (dite (dec_le q r)
        (λ le. let l = listed_before q r d e x y (omega arith) t.0 in omega (arith, l, t.1))
        (λ gt. let l = listed_before r q e d y x (omega arith) (sym t.0) in omega (arith, l, t.1))))

    -- of two entries of a link, the first was sent before the other, or by another seat
    module _ (R : Entry → Entry → Type 0)
        (own : (i m n : ℕ) (d e : Entry) → HasSent views i m d → HasSent views i n e → m < n → R d e)
        (other : (i j m n : ℕ) (d e : Entry) → i ≢ j → HasSent views i m d → HasSent views j n e → R d e) where
      pub before_of : (k i j : ℕ) (d e : Entry) → get_elem? (on k o.log) i ≡ some d → get_elem? (on k o.log) j ≡ some e → i < j → R d e
      before_of k i j d e gd ge l =
          let t = filter_before (λ (e : Entry). eqb e.link k) o.log i j d e gd ge l in let x = listed t.0 d t.2 in let y = listed t.1 e t.3 in dite (ℕ_discrete x.seat y.seat)
          (λ same. own y.seat x.place y.place d e (subst (λ s. HasSent views s x.place d) same x.has) y.has (listed_before t.0 t.1 d e x y t.4 same))
          (λ far. other x.seat y.seat x.place y.place d e far x.has y.has)

    -- the same in the words of what a link accepted
    pub all_sent : (P : Accepted → Type 0) (k : ℕ) → ((i n : ℕ) (e : Entry) → HasSent views i n e → e.link ≡ k → P (accepted_of e)) → AllByRecursion P (orders_of p c views o k).accepted
    all_sent P k h = all_at P (on k o.log) (λ i e g. let l = in_log o.chains k i e g in each_of (λ (x : Entry). x.link ≡ k → P (accepted_of x)) h l.0 e l.1 l.2)

    pub each_before : (R : Accepted → Accepted → Type 0) (k : ℕ)
        → ((i m n : ℕ) (d e : Entry) → HasSent views i m d → HasSent views i n e → m < n → R (accepted_of d) (accepted_of e))
        → ((i j m n : ℕ) (d e : Entry) → i ≢ j → HasSent views i m d → HasSent views j n e → R (accepted_of d) (accepted_of e)) → EachBefore R (orders_of p c views o k).accepted
    each_before R k own other = before_at R (on k o.log) (λ i j d e gd ge l. before_of (λ (d e : Entry). R (accepted_of d) (accepted_of e)) own other k i j d e gd ge l)

  -- what a seat sent stands on its link
  pub sent_stands : (i n : ℕ) (e : Entry) → HasSent views i n e → (e.link < p.links) × (m : ℕ) × StandsAt (orders_of p c views o) e.link m (accepted_of e)
  sent_stands i n e h =
      let a = author_of i h.view h.made h.here h.lists in let t = pick_from a.0 o.authors.by o.log n e (ap (λ l. get_elem? l n) a.2 ∙ h.stands) in
      let m = filter_in (λ (x : Entry). eqb x.link e.link) o.log t.0 e t.1 (eq-eqb e.link e.link refl) in
      ((o.chains.sized t.0 e t.1).0, m.0, accepted_there (on e.link o.log) m.0 e m.1)
