-- Places in the log: of the entries of one author, and of those of one link.
use Rattle.std.proofs.Common.{◌≡◌, ◌≢◌, ℕ, zero, suc, ◌+◌, ◌<◌, true, cond, eqb, eq-eqb, ne_eqb, List, [], ◌∷◌, refl, sym, ap, ◌∙◌, subst, arith}
use mathlib.Core.Logic.{dite}
use mathlib.Core.Option.{some, some-injective, some-ne-none}
use native.Mathlib.Decide.{ℕ_discrete}
use lib.ListN.{get_elem?}
use Rattle.sock_model.specs.declared.chain.Entry.{Entry}
use Rattle.sock_model.specs.Authors.{pick}
use Rattle.sock_model.specs.Entries.{on}
use Rattle.chain_steps.proofs.TicketLists.{filter_in, filter_at}

-- ## Of one author

-- how many of the first q are of author a
abbrev pub before : ℕ → List ℕ → ℕ → ℕ
before a [] q = 0
before a (b ∷ bs) zero = 0
before a (b ∷ bs) (suc q) = cond (eqb b a) 1 0 + before a bs q

pick_here : (b : ℕ) (bs : List ℕ) (e : Entry) (es : List Entry) → pick b (b ∷ bs) (e ∷ es) ≡ e ∷ pick b bs es
pick_here b bs e es = ap (λ t. cond t (e ∷ pick b bs es) (pick b bs es)) (eq-eqb b b refl)

pick_other : (a b : ℕ) (bs : List ℕ) (e : Entry) (es : List Entry) → b ≢ a → pick a (b ∷ bs) (e ∷ es) ≡ pick a bs es
pick_other a b bs e es ne = ap (λ t. cond t (e ∷ pick a bs es) (pick a bs es)) (ne_eqb b a ne)

before_here : (b : ℕ) (bs : List ℕ) (q : ℕ) → before b (b ∷ bs) (suc q) ≡ suc (before b bs q)
before_here b bs q = ap (λ t. cond t 1 0 + before b bs q) (eq-eqb b b refl) ∙ omega arith

before_other : (a b : ℕ) (bs : List ℕ) (q : ℕ) → b ≢ a → before a (b ∷ bs) (suc q) ≡ before a bs q
before_other a b bs q ne = ap (λ t. cond t 1 0 + before a bs q) (ne_eqb b a ne) ∙ omega arith

-- an entry stands among those of its author behind the author's earlier ones
pub pick_at : (a : ℕ) (by : List ℕ) (log : List Entry) (q : ℕ) (e : Entry) → get_elem? by q ≡ some a → get_elem? log q ≡ some e → get_elem? (pick a by log) (before a by q) ≡ some e
pick_at a [] log q e f g = absurd (some-ne-none a (sym f))
pick_at a (b ∷ bs) [] q e f g = absurd (some-ne-none e (sym g))
pick_at a (b ∷ bs) (x ∷ xs) zero e f g = let same = some-injective b a f in subst (λ n. get_elem? (pick n (b ∷ bs) (x ∷ xs)) 0 ≡ some e) same (ap (λ l. get_elem? l 0) (pick_here b bs x xs) ∙ g)
pick_at a (b ∷ bs) (x ∷ xs) (suc q) e f g = dite (ℕ_discrete b a)
    (λ same. subst (λ n. get_elem? (pick n (b ∷ bs) (x ∷ xs)) (before n (b ∷ bs) (suc q)) ≡ some e) same
    (ap (λ l. get_elem? l (before b (b ∷ bs) (suc q))) (pick_here b bs x xs) ∙ (ap (get_elem? (x ∷ pick b bs xs)) (before_here b bs q) ∙ pick_at b bs xs q e (f ∙ ap some (sym same)) g)))
    (λ ne. ap (λ l. get_elem? l (before a (b ∷ bs) (suc q))) (pick_other a b bs x xs ne) ∙ (ap (get_elem? (pick a bs xs)) (before_other a b bs q ne) ∙ pick_at a bs xs q e f g))

-- of two entries of an author the earlier one stands before
pub before_rises : (a : ℕ) (by : List ℕ) (q r : ℕ) → get_elem? by q ≡ some a → q < r → before a by q < before a by r
before_rises a [] q r f less = absurd (some-ne-none a (sym f))
before_rises a (b ∷ bs) q zero f less = absurd (omega arith)
before_rises a (b ∷ bs) zero (suc r) f less = let same = some-injective b a f in subst (λ n. 0 < before n (b ∷ bs) (suc r)) same (let h = before_here b bs r in omega arith)
before_rises a (b ∷ bs) (suc q) (suc r) f less = dite (ℕ_discrete b a)
    (λ same. subst (λ n. before n (b ∷ bs) (suc q) < before n (b ∷ bs) (suc r)) same (let h = before_here b bs q in let k = before_here b bs r in let less_ = before_rises b bs q r (f ∙ ap some (sym same)) (omega arith) in omega arith))
    (λ ne. let h = before_other a b bs q ne in let k = before_other a b bs r ne in let less_ = before_rises a bs q r f (omega arith) in omega arith)

-- an author's entries are in the log
pub from_pick : (a : ℕ) (by : List ℕ) (log : List Entry) (m : ℕ) (e : Entry) → get_elem? (pick a by log) m ≡ some e → (q : ℕ) × (get_elem? by q ≡ some a) × (get_elem? log q ≡ some e)
from_pick a [] log m e g = absurd (some-ne-none e (sym g))
from_pick a (b ∷ bs) [] m e g = absurd (some-ne-none e (sym g))
from_pick a (b ∷ bs) (x ∷ xs) m e g = dite (ℕ_discrete b a)
    (λ same. by_place m (sym (ap (λ l. get_elem? l m) (subst (λ n. pick n (b ∷ bs) (x ∷ xs) ≡ x ∷ pick n bs xs) same (pick_here b bs x xs))) ∙ g) same (from_pick a bs xs))
    (λ ne. let w = from_pick a bs xs m e (sym (ap (λ l. get_elem? l m) (pick_other a b bs x xs ne)) ∙ g) in (suc w.0, w.1, w.2))
  where
    by_place : (m : ℕ) → get_elem? (x ∷ pick a bs xs) m ≡ some e → b ≡ a → ((m : ℕ) (e : Entry) → get_elem? (pick a bs xs) m ≡ some e → (q : ℕ) × (get_elem? bs q ≡ some a) × (get_elem? xs q ≡ some e)) → (q : ℕ) × (get_elem? (b ∷ bs) q ≡ some a) × (get_elem? (x ∷ xs) q ≡ some e)
    by_place zero h same again = (0, ap some same, h)
    by_place (suc m) h same again = let w = again m e h in (suc w.0, w.1, w.2)

-- ## Of one link

eqb_is : (a b : ℕ) → eqb a b ≡ true → a ≡ b
eqb_is a b e = dite (ℕ_discrete a b) (λ same. same) (λ ne. absurd (let f = sym (ne_eqb a b ne) ∙ e in cc))

-- an entry of a link is one of the log
pub from_on : (k : ℕ) (log : List Entry) (i : ℕ) (e : Entry) → get_elem? (on k log) i ≡ some e → (q : ℕ) × (get_elem? log q ≡ some e) × (e.link ≡ k)
from_on k log i e g = let w = filter_at (λ (x : Entry). eqb x.link k) log i e g in (w.0, w.1, eqb_is e.link k w.2)

pub on_there : (k : ℕ) (log : List Entry) (q : ℕ) (e : Entry) → get_elem? log q ≡ some e → e.link ≡ k → (i : ℕ) × (get_elem? (on k log) i ≡ some e)
on_there k log q e g same = filter_in (λ (x : Entry). eqb x.link k) log q e g (eq-eqb e.link k same)

-- of two entries of a link the earlier one stands before in the log
on_here : (k : ℕ) (x : Entry) (xs : List Entry) → x.link ≡ k → on k (x ∷ xs) ≡ x ∷ on k xs
on_here k x xs same = ap (λ t. cond t (x ∷ on k xs) (on k xs)) (eq-eqb x.link k same)

on_other : (k : ℕ) (x : Entry) (xs : List Entry) → x.link ≢ k → on k (x ∷ xs) ≡ on k xs
on_other k x xs ne = ap (λ t. cond t (x ∷ on k xs) (on k xs)) (ne_eqb x.link k ne)

pub on_rises : (k : ℕ) (log : List Entry) (i j : ℕ) (d e : Entry) → i < j → get_elem? (on k log) i ≡ some d → get_elem? (on k log) j ≡ some e → (q r : ℕ) × (q < r) × (get_elem? log q ≡ some d) × (get_elem? log r ≡ some e) × (d.link ≡ k) × (e.link ≡ k)
on_rises k [] i j d e less f g = absurd (some-ne-none d (sym f))
on_rises k (x ∷ xs) i j d e less f g = dite (ℕ_discrete x.link k)
    (λ same. by_place i j less (sym (ap (λ l. get_elem? l i) (on_here k x xs same)) ∙ f) (sym (ap (λ l. get_elem? l j) (on_here k x xs same)) ∙ g) same (on_rises k xs))
    (λ ne. let w = on_rises k xs i j d e less (sym (ap (λ l. get_elem? l i) (on_other k x xs ne)) ∙ f) (sym (ap (λ l. get_elem? l j) (on_other k x xs ne)) ∙ g) in (suc w.0, suc w.1, omega (arith, w.2), w.3, w.4, w.5, w.6))
  where
    by_place : (i j : ℕ) → i < j → get_elem? (x ∷ on k xs) i ≡ some d → get_elem? (x ∷ on k xs) j ≡ some e → x.link ≡ k → ((i j : ℕ) (d e : Entry) → i < j → get_elem? (on k xs) i ≡ some d → get_elem? (on k xs) j ≡ some e → (q r : ℕ) × (q < r) × (get_elem? xs q ≡ some d) × (get_elem? xs r ≡ some e) × (d.link ≡ k) × (e.link ≡ k))
        → (q r : ℕ) × (q < r) × (get_elem? (x ∷ xs) q ≡ some d) × (get_elem? (x ∷ xs) r ≡ some e) × (d.link ≡ k) × (e.link ≡ k)
    by_place i zero less f g same again = absurd (omega arith)
    by_place zero (suc j) less f g same again = let w = from_on k xs j e g in (0, suc w.0, omega arith, f, w.1, ap (λ (y : Entry). y.link) (sym (some-injective x d f)) ∙ same, w.2)
    by_place (suc i) (suc j) less f g same again = let w = again i j d e (omega arith) f g in (suc w.0, suc w.1, omega (arith, w.2), w.3, w.4, w.5, w.6)
