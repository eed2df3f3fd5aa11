-- The words and homes of a new table.
use Rattle.std.proofs.Common.{◌≡◌, ℕ, zero, suc, ◌+◌, ◌*◌, ◌<◌, ◌≤◌, false, List, [], ◌∷◌, ◌++◌, length, length-append, length-set, get_or, map, set, get_or-set_other, get_or-set_same, replicate, refl, sym, ap, ◌∙◌, subst, arith}
use Rattle.std.proofs.lemmas.List.{length-replicate}
use mathlib.Core.Logic.{dite}
use mathlib.Core.Option.{some, some-injective, some-ne-none}
use native.Mathlib.Decide.{ℕ_discrete}
use lib.ListN.{get_elem?}
use Rattle.atomic_table.proofs.Lists.{at_longer, at_last}
use Rattle.sock_io.specs.declared.link.Out.{Ghosts}
use Rattle.sock_words.specs.declared.plain.Plan.{Plan}
use Rattle.sock_model.specs.declared.home.Home.TheVariants as home
use Rattle.sock_model.specs.SocketTableLayout.{tag_index, ref_index, link_index, code_index, name_index, open_index, request_index, place_index, all_words}
use Rattle.sock_rule.specs.SocketSeatSplits.{IsNew}
use Rattle.sock_rule.specs.declared.homes.SockHome.{SockHome}
use Rattle.sock_rule.specs.declared.homes.LinkHome.{LinkHome}
use Rattle.sock_rule.specs.declared.homes.SockHome.TheVariants.{Link}
use Rattle.sock_rule.specs.Shows.{shows_in, way_at}
use Rattle.sock_rule.proofs.WaysByTableKey.{is_number}
use Rattle.sock_table.specs.ClosedSocketTable.{AreLinks, OutsOf, ways_of}
use Rattle.sock_open.specs.SocketTableOpening.{AreNewWords, AreFresh, AreNewHomes, MayBegin}

-- the first n slots have their words
pub record Begun (p : Plan) (n : ℕ) (ws : List ℕ) : Type 0 where
  pub sized : length ws ≡ all_words p
  pub refs : (i : ℕ) → i < n → get_or ws (ref_index i) 0 ≡ p.first * 4294967296
  pub zeros : (x : ℕ) → ((i : ℕ) → i < n → ¬ (x ≡ ref_index i)) → get_or ws x 0 ≡ 0

zero_at : (n x : ℕ) → get_or {A = ℕ} (replicate n 0) x 0 ≡ 0
zero_at zero x = refl
zero_at (suc n) zero = refl
zero_at (suc n) (suc x) = zero_at n x

pub none_begun : (p : Plan) (n : ℕ) (ws : List ℕ) → ws ≡ replicate n 0 → n ≡ all_words p → Begun p 0 ws
none_begun p n ws is e = record { sized = ap length is ∙ (length-replicate n 0 ∙ e); refs = λ i il. absurd (omega arith); zeros = λ x h. ap (λ l. get_or l x 0) is ∙ zero_at n x }

pub one_begun : (p : Plan) (i word : ℕ) (ws vs : List ℕ) → vs ≡ set ws (ref_index i) word → word ≡ p.first * 4294967296 → i < p.slots → Begun p i ws → Begun p (i + 1) vs
one_begun p i word ws vs is w il b = let size = b.sized in record {
  sized = ap length is ∙ (length-set ws (ref_index i) word ∙ b.sized);
  refs = λ j jl. ap (λ l. get_or l (ref_index j) 0) is ∙ dite (ℕ_discrete j i)
      (λ e. subst (λ (x : ℕ). get_or (set ws (ref_index i) word) (ref_index x) 0 ≡ p.first * 4294967296) (sym e) (get_or-set_same ws (ref_index i) word 0 (omega arith) ∙ w))
      (λ ne. get_or-set_other ws (ref_index i) (ref_index j) word 0 (λ q. ne (omega arith)) ∙ b.refs j (omega arith));
  zeros = λ x h. ap (λ l. get_or l x 0) is ∙ (get_or-set_other ws (ref_index i) x word 0 (λ q. h i (omega arith) q) ∙ b.zeros x (λ j jl. h j (omega arith)));
}

pub all_begun : (p : Plan) (n : ℕ) (ws : List ℕ) → p.slots ≤ n → n ≤ p.slots → Begun p n ws → AreNewWords p ws
all_begun p n ws le ge b = record { sized = b.sized; refs = λ i il. b.refs i (omega arith); zeros = λ x h. b.zeros x (λ i il. h i (omega arith)) }

-- the next of the halves is at its place
next_at : {O : Type 0} (yielded rest : List O) (o : O) → get_elem? (yielded ++ o ∷ rest) (length yielded) ≡ some o
next_at [] rest o = refl
next_at (x ∷ xs) rest o = next_at xs rest o

append_one : {O : Type 0} (xs : List O) (x : O) (ys : List O) → (xs ++ x ∷ []) ++ ys ≡ xs ++ x ∷ ys
append_one [] x ys = refl
append_one (z ∷ zs) x ys = ap (λ l. z ∷ l) (append_one zs x ys)

-- which way the bytes of a half go that stands at a place of the list
its_way : {O : Type 0} (way : O → List ℕ) (outs : List O) (k : ℕ) (o : O) → get_elem? outs k ≡ some o → way_at (map way outs) k ≡ way o
its_way way [] k o e = absurd (some-ne-none o (sym e))
its_way way (x ∷ xs) zero o e = ap way (some-injective x o e)
its_way way (x ∷ xs) (suc k) o e = its_way way xs k o e

module _ {O : Type 0} {g : Ghosts O} where
  -- the homes of the first links stand behind those of the requests
  pub record Housed (p : Plan) (outs yielded rest : List O) (xs : List (SockHome O g)) : Type 0 where
    pub parts : yielded ++ rest ≡ outs
    pub count : length xs ≡ p.requests + length yielded
    pub links : (k : ℕ) → k < length yielded → (y : SockHome O g) × (get_elem? xs (p.requests + k) ≡ some y) × (shows_in p (ways_of g.state outs) y ≡ home.Link k [] 0 false)
    pub halves : OutsOf p.requests (length yielded) outs xs

  pub none_housed : (p : Plan) (outs rest : List O) (xs : List (SockHome O g)) → rest ≡ outs → length xs ≡ p.requests → Housed p outs [] rest xs
  none_housed p outs rest xs e long = record { parts = e; count = omega arith; links = λ k kl. absurd (omega arith); halves = λ k kl. absurd (omega arith) }

  pub one_housed : (p : Plan) (outs yielded rest rest' : List O) (o : O) (xs ys : List (SockHome O g)) (h : LinkHome O g) → AreFresh g.state p outs → Housed p outs yielded rest xs → rest ≡ o ∷ rest' → ys ≡ xs ++ Link h ∷ []
      → h.out ≡ o → h.took.list ≡ [] → h.next ≡ 0 → Housed p outs (yielded ++ o ∷ []) rest' ys
  one_housed p outs yielded rest rest' o xs ys h fresh b r is out took next = let at : get_elem? outs (length yielded) ≡ some o = subst (λ l. get_elem? l (length yielded) ≡ some o) (ap (λ l. yielded ++ l) (sym r) ∙ b.parts) (next_at yielded rest' o) in
      let its = fresh.each (length yielded) o at in let long = length-append yielded (o ∷ []) in record {
        parts = append_one yielded o rest' ∙ (ap (λ l. yielded ++ l) (sym r) ∙ b.parts);
        count = ap length is ∙ (length-append xs (Link h ∷ []) ∙ (let c = b.count in omega arith));
        links = λ k kl. dite (ℕ_discrete k (length yielded))
            (λ e. (
              Link h,
              ap (λ (l : List (SockHome O g)). get_elem? l (p.requests + k)) is ∙ at_last xs (Link h) (p.requests + k) (omega (arith, b.count)),
              (λ i. home.Link (is_number p (ways_of g.state outs) (g.state h.out) k (ap (λ (z : O). (g.state z).link) out ∙ (its.0 ∙ sym e)) (ap (λ (z : O). (g.state z).way) out ∙ sym (its_way (λ (z : O). (g.state z).way) outs k o (ap (get_elem? outs) e ∙ at))) i) (took i) (next i) ((ap (λ (z : O). (g.state z).finished) out ∙ its.1) i)),
            ))
            (λ ne. let y = b.links k (omega arith) in (y.0, ap (λ (l : List (SockHome O g)). get_elem? l (p.requests + k)) is ∙ at_longer xs (Link h ∷ []) (p.requests + k) y.0 y.1, y.2));
        halves = λ k kl. dite (ℕ_discrete k (length yielded))
            (λ e. (h, ap (get_elem? outs) e ∙ (at ∙ ap (λ (x : O). some x) (sym out)), ap (λ (l : List (SockHome O g)). get_elem? l (p.requests + k)) is ∙ at_last xs (Link h) (p.requests + k) (omega (arith, b.count))))
            (λ ne. let y = b.halves k (omega arith) in (y.0, y.1, ap (λ (l : List (SockHome O g)). get_elem? l (p.requests + k)) is ∙ at_longer xs (Link h ∷ []) (p.requests + k) (Link y.0) y.2));
      }

  pub may_be_fresh : (p : Plan) (outs yielded rest rest' : List O) (o : O) (xs : List (SockHome O g)) → AreFresh g.state p outs → Housed p outs yielded rest xs → rest ≡ o ∷ rest' → Rattle.std.specs.Option.ForSome (g.state o).took (λ bytes. bytes ≡ [])
  may_be_fresh p outs yielded rest rest' o xs fresh b r = (fresh.each (length yielded) o (subst (λ l. get_elem? l (length yielded) ≡ some o) (ap (λ l. yielded ++ l) (sym r) ∙ b.parts) (next_at yielded rest' o))).2

  pub all_housed : (p : Plan) (outs yielded rest : List O) (xs : List (SockHome O g)) → AreFresh g.state p outs → Housed p outs yielded rest xs → length rest ≡ 0 → AreNewHomes p (ways_of g.state outs) xs
  all_housed p outs yielded rest xs fresh b none_ = let c = fresh.count in let all = ap length b.parts in let e = length-append yielded rest in record { count = omega (arith, b.count); links = λ k kl. b.links k (omega arith) }

  pub all_halves : (p : Plan) (outs yielded rest : List O) (xs : List (SockHome O g)) → AreFresh g.state p outs → Housed p outs yielded rest xs → length rest ≡ 0 → OutsOf p.requests p.links outs xs
  all_halves p outs yielded rest xs fresh b none_ = let c = fresh.count in let all = ap length b.parts in let e = length-append yielded rest in λ k kl. b.halves k (omega arith)

  -- while halves are left there is room
  pub room_left : (p : Plan) (outs yielded rest rest' : List O) (o : O) (xs : List (SockHome O g)) → AreFresh g.state p outs → Housed p outs yielded rest xs → rest ≡ o ∷ rest' → length yielded < p.links
  room_left p outs yielded rest rest' o xs fresh b r = let c = fresh.count in let all = ap length b.parts in let e = length-append yielded rest in let s = ap length r in omega arith

-- the halves of the same homes are the same
same_list : {A : Type 0} (xs ys : List A) → length xs ≡ length ys → ((k : ℕ) → k < length xs → get_elem? xs k ≡ get_elem? ys k) → xs ≡ ys
same_list [] [] e h = refl
same_list [] (y ∷ ys) e h = absurd (omega arith)
same_list (x ∷ xs) [] e h = absurd (omega arith)
same_list (x ∷ xs) (y ∷ ys) e h = let a : x ≡ y = some-injective x y (h 0 (omega arith)) in let b : xs ≡ ys = same_list xs ys (omega arith) (λ k kl. h (suc k) (omega arith)) in λ i. a i ∷ b i

-- what stands at a place of a list
pub elem_at : {A : Type 0} (l : List A) (i : ℕ) (d : A) → i < length l → get_elem? l i ≡ some (get_or l i d)
elem_at [] i d lt = absurd (omega arith)
elem_at (x ∷ xs) zero d lt = refl
elem_at (x ∷ xs) (suc i) d lt = elem_at xs i d (omega arith)

half : {O : Type 0} {g : Ghosts O} → LinkHome O g → SockHome O g → O
half d (Link h) = h.out
half d _ = d.out

pub halves_same : {O : Type 0} {g : Ghosts O} (r n : ℕ) (outs back : List O) (xs : List (SockHome O g)) → OutsOf r n outs xs → OutsOf r n back xs → length outs ≡ n → length back ≡ n → back ≡ outs
unfolding half
halves_same {O} {g} r n outs back xs a b m l = same_list back outs (l ∙ sym m) (λ k kl. let x = a k (omega arith) in let y = b k (omega arith) in
    let same : Link y.0 ≡ Link x.0 = some-injective (Link y.0) (Link x.0) (sym y.2 ∙ x.2) in y.1 ∙ (ap (λ (h : SockHome O g). some (half y.0 h)) same ∙ sym x.1))

pub halves_links : {O : Type 0} {g : Ghosts O} (r n : ℕ) (outs : List O) (xs : List (SockHome O g)) → OutsOf r n outs xs → AreLinks r n xs
halves_links r n outs xs a k kl = let x = a k kl in (x.0, x.2)

-- and a table may begin with these
pub is_new : {O : Type 0} {g : Ghosts O} (p : Plan) (ways : List (List ℕ)) (ws : List ℕ) (xs : List (SockHome O g)) → AreNewWords p ws → AreNewHomes p ways xs → MayBegin p → p.requests ≤ 65535 → IsNew (shows_in p ways) p ws xs
is_new p ways ws xs w h m narrow = record {
  unused = record {
    sized = w.sized;
    tags = λ i il. w.zeros (tag_index i) (λ j jl e. omega arith);
    refs = λ i il. w.refs i il;
    links = λ i il. w.zeros (link_index i) (λ j jl e. omega arith);
    codes = λ i il. w.zeros (code_index i) (λ j jl e. omega arith);
    names = λ n nl. w.zeros (name_index p n) (λ j jl e. omega arith);
    opens = λ o ol. w.zeros (open_index p o) (λ j jl e. omega arith);
  };
  fits = record { narrow = narrow; even = m.even };
  first_low = m.low;
  some_seats = m.some_seats;
  few_seats = m.few_seats;
  requests = λ r rl. w.zeros (request_index p r) (λ j jl e. omega arith);
  places = λ l ll. w.zeros (place_index p l) (λ j jl e. omega arith);
  homes = h.count;
  links = h.links;
}
