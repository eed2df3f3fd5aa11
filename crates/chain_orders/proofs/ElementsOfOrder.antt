-- Where the elements of a merged order come from.
use Rattle.std.proofs.Common.{◌≡◌, ◌≢◌, ℕ, zero, suc, ◌+◌, ◌<◌, cond, eqb, eq-eqb, ne_eqb, List, [], ◌∷◌, length, map, refl, sym, ap, ◌∙◌, subst, arith}
use Rattle.std.proofs.lemmas.List.{length-map}
use mathlib.Core.Logic.{dite}
use mathlib.Core.Option.{some, some-injective, some-ne-none}
use native.Mathlib.Decide.{ℕ_discrete}
use lib.ListN.{get_elem?}
use Rattle.chain_orders.specs.SentMessages.{Sent, index_of}
use Rattle.chain_orders.specs.ListsInOneOrder.{part_of, AreMerged}
use Rattle.chain_orders.specs.MessagesInOneOrder.{IndexesDiffer}
use Rattle.chain_orders.proofs.MergedLists.{part_here, part_other, map_back}
use Rattle.chain_orders.proofs.OwnPlaces.{at_length, at_some, before, one_place}

before_here : (a b : ℕ) (bs : List ℕ) (q : ℕ) → b ≡ a → before a (b ∷ bs) (suc q) ≡ suc (before a bs q)
before_here a b bs q is = ap (λ t. cond t 1 0 + before a bs q) (eq-eqb b a is) ∙ omega arith

before_other : (a b : ℕ) (bs : List ℕ) (q : ℕ) → b ≢ a → before a (b ∷ bs) (suc q) ≡ before a bs q
before_other a b bs q ne = ap (λ t. cond t 1 0 + before a bs q) (ne_eqb b a ne) ∙ omega arith

-- an element stands among those of its list behind the earlier ones of that list
part_at : {A : Type 0} (a : ℕ) (by : List ℕ) (xs : List A) (q : ℕ) (x : A) → get_elem? by q ≡ some a → get_elem? xs q ≡ some x → get_elem? (part_of a by xs) (before a by q) ≡ some x
part_at a [] xs q x f g = absurd (some-ne-none a (sym f))
part_at a (b ∷ bs) [] q x f g = absurd (some-ne-none x (sym g))
part_at a (b ∷ bs) (y ∷ ys) zero x f g = ap (λ l. get_elem? l 0) (part_here a b bs y ys (some-injective b a f)) ∙ g
part_at a (b ∷ bs) (y ∷ ys) (suc q) x f g = dite (ℕ_discrete b a)
    (λ is. ap (λ l. get_elem? l (before a (b ∷ bs) (suc q))) (part_here a b bs y ys is) ∙ (ap (get_elem? (y ∷ part_of a bs ys)) (before_here a b bs q is) ∙ part_at a bs ys q x f g))
    (λ ne. ap (λ l. get_elem? l (before a (b ∷ bs) (suc q))) (part_other a b bs y ys ne) ∙ (ap (get_elem? (part_of a bs ys)) (before_other a b bs q ne) ∙ part_at a bs ys q x f g))

-- an element of the order in its list
pub record InList {A : Type 0} (lists : List (List A)) (order : List A) (m : AreMerged lists order) (q : ℕ) (x : A) : Type 0 where
  pub c : ℕ
  pub list : List A
  pub by_c : get_elem? m.by q ≡ some c
  pub list_at : get_elem? lists c ≡ some list
  pub there : get_elem? list (before c m.by q) ≡ some x

module _ {A : Type 0} (lists : List (List A)) (order : List A) (m : AreMerged lists order) where
  pub in_list : (q : ℕ) (x : A) → get_elem? order q ≡ some x → InList lists order m q x
  in_list q x at =
      let low = at_length order q x at in
      let long = m.long in
      let b = at_some m.by q (omega arith) in
      let l = at_some lists b.0 (m.inside q b.0 b.1) in
      record { c = b.0; list = l.0; by_c = b.1; list_at = l.1; there = ap (λ (ys : List A). get_elem? ys (before b.0 m.by q)) (sym (m.own b.0 l.0 l.1)) ∙ part_at b.0 m.by order q x b.1 at }

  -- what holds of each element of each list holds of each of the order
  pub of_each : (P : A → Type 0) → ((c n : ℕ) (l : List A) (x : A) → get_elem? lists c ≡ some l → get_elem? l n ≡ some x → P x) → (q : ℕ) (x : A) → get_elem? order q ≡ some x → P x
  of_each P each q x at = let i = in_list q x at in each i.c (before i.c m.by q) i.list x i.list_at i.there

-- an element has a place of its own where no two of the lists are the same
pub order_differs : (lists : List (List Sent)) (order : List Sent) → AreMerged lists order → IndexesDiffer lists → (q r : ℕ) (x y : Sent) → get_elem? order q ≡ some x → get_elem? order r ≡ some y → index_of x ≡ index_of y → q ≡ r
order_differs lists order m differ q r x y at bt same =
    let i = in_list lists order m q x at in
    let j = in_list lists order m r y bt in
    let d = differ i.c j.c (before i.c m.by q) (before j.c m.by r) i.list j.list x y i.list_at j.list_at i.there j.there same in
    one_place j.c m.by q r (i.by_c ∙ ap some d.0) j.by_c (sym (ap (λ n. before n m.by q) d.0) ∙ d.1)

-- ## Orders that are mapped

module _ {A B : Type 0} (f : A → B) where
  part_map : (c : ℕ) (by : List ℕ) (xs : List A) → part_of c by (map f xs) ≡ map f (part_of c by xs)
  part_map c [] xs = refl
  part_map c (b ∷ bs) [] = refl
  part_map c (b ∷ bs) (x ∷ xs) = dite (ℕ_discrete b c)
      (λ is. part_here c b bs (f x) (map f xs) is ∙ (ap (λ l. f x ∷ l) (part_map c bs xs) ∙ sym (ap (map f) (part_here c b bs x xs is))))
      (λ ne. part_other c b bs (f x) (map f xs) ne ∙ (part_map c bs xs ∙ sym (ap (map f) (part_other c b bs x xs ne))))

  pub merged_map : (lists : List (List A)) (order : List A) → AreMerged lists order → AreMerged (map (map f) lists) (map f order)
  merged_map lists order m = record {
    by = m.by;
    long = m.long ∙ sym (length-map order f);
    inside = λ q c at. (let low = m.inside q c at in let n = length-map lists (map f) in omega arith);
    own = λ c l at. (let w = map_back (map f) lists c l at in part_map c m.by order ∙ (ap (map f) (m.own c w.0 w.1) ∙ w.2));
  }
